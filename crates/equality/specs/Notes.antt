-- Document 02, R-2, `=` of sets: what the calls leave that note the members of a set at a node: bits of its own `set.singleton`s, and what operators gave stays.
use Rattle.std.specs.Prelude.{◌≡◌, Bool, false, List, map, ℕ, suc, ◌*◌, ◌≤◌, length, Option}
use Rattle.ground.specs.Lists.{all}
use Rattle.tables.specs.Sort.{Tables}
use Rattle.sorts.specs.Sort.{levels}
use Rattle.values.specs.Value.{Values, v_set}
use Rattle.means.specs.Literal.{Lit}
use Rattle.marks.specs.Kept.{Kept}
use Rattle.settled.specs.Settled.{Settled}
use Rattle.settled.specs.Taken.{Stood}
use Rattle.equality.specs.Singles.{singles, noted}

pub record Notes (T : Tables) (ms ns ws ts : List ℕ) (first end : ℕ) : Type 0 where
  pub kept : Kept ms ns first end
  pub settled : (i j : ℕ) → Settled T ms ws ts i j → Settled T ns ws ts i j

-- of the set that is read at a node, where there are bits for all of its nodes and levels enough
abbrev pub OfSet : List ℕ → List ℕ → List ℕ → ℕ → ℕ → ((T : Tables) → ℕ → List ℕ → Type 0) → Type 0
OfSet ms ws ts i allow P =
    (T : Tables) (a : ℕ) (e : Option ℕ) (l : Lit) (first end : ℕ) → a ≤ levels → a ≤ suc allow → (h : Stood T ms ws ts a e l first end i) (vs : Values) → l.value ≡ v_set vs →
    h.there.next ≤ 128 * length ms → P T h.there.next (singles T ws a h.tree i)

-- no member is noted
abbrev pub Cleared : List ℕ → List ℕ → List ℕ → List ℕ → ℕ → Tables → ℕ → List ℕ → Type 0
Cleared ms ns ws ts i T next ps = Notes T ms ns ws ts i next × (noted ns ps ≡ map (λ p. false) ps)

abbrev pub ClearsAt : List ℕ → List ℕ → List ℕ → List ℕ → ℕ → ℕ → Type 0
ClearsAt ms ns ws ts i allow = OfSet ms ws ts i allow (Cleared ms ns ws ts i)

-- whether each is
abbrev pub Met : List ℕ → Bool → Tables → ℕ → List ℕ → Type 0
Met ms r T next ps = r ≡ all (λ b. b) (noted ms ps)

abbrev pub MetAt : List ℕ → List ℕ → List ℕ → ℕ → ℕ → Bool → Type 0
MetAt ms ws ts i allow r = OfSet ms ws ts i allow (Met ms r)
