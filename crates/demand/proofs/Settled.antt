-- A settled table gives values of the result's sort, to each argument one.
-- Assumes nothing.
use mathlib.Core.Path.{◌≡◌, refl}
use mathlib.Core.Bool.{true}
use mathlib.Core.List.{List, [], ◌∷◌, map}
use Prim.Native.Nat.{ℕ}
use Rattle.ground.proofs.Tests.{by_test}
use Rattle.order.specs.Every.{Every}
use Rattle.order.proofs.Everies.{every_map, every-mapped}
use Rattle.order.proofs.Arranges.{every-arranged, ascends_arranged}
use Rattle.tables.specs.Sort.{Tables}
use Rattle.values.specs.HasSort.{HasSort, Loose}
use Rattle.values.specs.Normal.{normal}
use Rattle.values.specs.Value.{Value}
use Rattle.values.proofs.Normals.{normal-fits}
use Rattle.model.specs.Model.{Arm, Table}
use Rattle.model.specs.Listing.{normal_arm, settled_table}
use Rattle.values.specs.Equal.{decided, equal}
use Rattle.demand.specs.Lookup.{first_of}
use Rattle.demand.specs.Demand.{Sorted, One}
use Rattle.demand.specs.Fits.{TableFits}
use Rattle.demand.proofs.Looks.{key_text, first-given, only-first}

first-has : (P : Value → Type 0) (arms : List Arm) (else v : Value) → Every (λ (a : Arm). P a.«then») arms → P else → P (first_of arms else v)
unfolding first_of
first-has P [] else v Every.none q = q
first-has P (a ∷ arms) else v (Every.also p ps) q = by_test (decided (equal a.«when» v)) (λ h. rw h p) (λ h. rw h (first-has P arms else v ps q))

module _ (T : Tables) (row : ℕ) where
  -- what holds of each arm, of each settled one
  pub every-settled : (part : Arm → Value) → ((a : Arm) → part (normal_arm a) ≡ normal (part a)) → (arms : List Arm) →
      Every (λ (a : Arm). HasSort (part a) Loose T row) arms → Every (λ (a : Arm). Sorted T row (part (normal_arm a))) arms
  every-settled part e arms h =
      every_map (λ (a : Arm). HasSort (part a) Loose T row) (λ (a : Arm). Sorted T row (part (normal_arm a))) (λ a p. rw (e a) (normal-fits Loose T (part a) row p)) arms h

  pub arranged-settled : (part : Arm → Value) → ((a : Arm) → part (normal_arm a) ≡ normal (part a)) → (t : Table) →
      Every (λ (a : Arm). HasSort (part a) Loose T row) t.arms → Every (λ (a : Arm). Sorted T row (part a)) (settled_table t).arms
  arranged-settled part e t h =
      every-arranged key_text true (λ (a : Arm). Sorted T row (part a)) (map normal_arm t.arms)
      (every-mapped (λ (a : Arm). Sorted T row (part a)) normal_arm t.arms (every-settled part e t.arms h))

  pub one_value : (argument : ℕ) (t : Table) (v : Value) → TableFits T argument row t → One T row (settled_table t) v
  one_value argument t v h =
      record {
        given = first-given (settled_table t).arms (settled_table t).«else» v;
        only = λ w g. only-first (settled_table t) v w (ascends_arranged key_text true (map normal_arm t.arms)) g;
        sorted =
            first-has (Sorted T row) (settled_table t).arms (normal t.«else») v
            (arranged-settled (λ a. a.«then») (λ a. refl) t h.values)
            (normal-fits Loose T t.«else» row h.default);
      }
