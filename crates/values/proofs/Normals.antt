-- A literal as the value that it is: of the same sort with its sets in order, no longer, and the same when it is done again.
-- Assumes nothing.
use mathlib.Core.Path.{◌≡◌, refl, ap, ap₂, ◌∙◌, subst}
use mathlib.Core.Bool.{true}
use mathlib.Core.List.{List, [], ◌∷◌}
use Prim.Native.Nat.{ℕ, ◌+◌, ◌≤◌}
use native.Mathlib.Omega.{arith}
use lib.ListN.{length}
use Rattle.order.specs.Order.{insert, arranged}
use Rattle.order.specs.Every.{Every, none, also, Ascends, first}
use Rattle.order.proofs.Inserts.{by-insert}
use Rattle.order.proofs.Arranges.{every-arranged, ascends_arranged, arranged-again}
use Rattle.tables.specs.Sort.{Tables}
use Rattle.values.specs.Value.{Value, Values, v_bool, v_string, v_ext, v_bits, v_none, v_some, v_set, v_entity, v_record, v_nil, v_cons, listed, unlisted}
use Rattle.values.specs.Text.{text}
use Rattle.values.specs.Normal.{normal, normals, arranged_values}
use Rattle.values.specs.HasSort.{HasSort, HaveSort, FieldSorts, Ascending}
use Rattle.values.proofs.Lengths.{size, length_some, length-set, length_record}

pub listed_back : (xs : List Value) → listed (unlisted xs) ≡ xs
listed_back [] = refl
listed_back (x ∷ xs) = ap (λ (l : List Value). x ∷ l) (listed_back xs)

pub unlisted-back : (vs : Values) → unlisted (listed vs) ≡ vs
unlisted-back v_nil = refl
unlisted-back (v_cons v vs) = ap (λ (l : Values). v_cons v l) (unlisted-back vs)

-- in order
ascending : (xs : List Value) → Ascends text xs → Ascending (unlisted xs)
ascending [] s = tt
ascending (x ∷ []) s = tt
ascending (x ∷ y ∷ ys) (first (also e h) s) = (e, ascending (y ∷ ys) s)

pub arranged-ascending : (vs : Values) → Ascending (arranged_values vs)
unfolding arranged_values
arranged-ascending vs = ascending (arranged text true (listed vs)) (ascends_arranged text true (listed vs))

module _ (A : Values → Type 0) (T : Tables) (r : ℕ) where
  abbrev Has : Value → Type 0
  Has v = HasSort v A T r

  each-has : (vs : Values) → HaveSort vs A T r → Every Has (listed vs)
  each-has v_nil h = none
  each-has (v_cons v vs) h = also h.0 (each-has vs h.1)

  have_each : (xs : List Value) → Every Has xs → HaveSort (unlisted xs) A T r
  have_each [] none = tt
  have_each (x ∷ xs) (also h hs) = (h, have_each xs hs)

  pub arranged-fit : (vs : Values) → HaveSort vs A T r → HaveSort (arranged_values vs) A T r
  unfolding arranged_values
  arranged-fit vs h = have_each (arranged text true (listed vs)) (every-arranged text true Has (listed vs) (each-has vs h))

-- whatever is asked of the sets that are written
module _ (A : Values → Type 0) (T : Tables) where
  mutual
    unfolding normal

    pub normal-fits : (v : Value) (r : ℕ) → HasSort v A T r → HasSort (normal v) Ascending T r
    normal-fits (v_bool b) r h = h
    normal-fits (v_string s) r h = h
    normal-fits (v_ext e z) r h = h
    normal-fits (v_bits w n) r h = h
    normal-fits v_none r h = h
    normal-fits (v_some v) r h = record { inner = h.inner; here = h.here; has = normal-fits v h.inner h.has }
    normal-fits (v_set vs) r h = (
      record { inner = h.0.inner; here = h.0.here; has = arranged-fit Ascending T h.0.inner (normals vs) (normals-fit vs h.0.inner h.0.has) },
      arranged-ascending (normals vs),
    )
    normal-fits (v_entity q s) r h = h
    normal-fits (v_record q vs) r h = record { name = h.name; fields = h.fields; here = h.here; same = h.same; has = fields-normal vs h.fields h.has }

    pub normals-fit : (vs : Values) (r : ℕ) → HaveSort vs A T r → HaveSort (normals vs) Ascending T r
    normals-fit v_nil r h = tt
    normals-fit (v_cons v vs) r h = (normal-fits v r h.0, normals-fit vs r h.1)

    fields-normal : (vs : Values) (fs : List ℕ) → FieldSorts vs A T fs → FieldSorts (normals vs) Ascending T fs
    fields-normal v_nil fs h = h
    fields-normal (v_cons v vs) fs h =
        record { first = h.first; rest = h.rest; both = h.both; head = normal-fits v h.first h.head; tail = fields-normal vs h.rest h.tail }

-- no longer
size-insert : (x : Value) (ys : List Value) → size (unlisted (insert text true x ys)) ≤ length (text x) + 1 + size (unlisted ys)
unfolding insert
size-insert x [] = omega arith
size-insert x (y ∷ ys) =
    let h = size-insert x ys in
    by-insert text true (λ zs. size (unlisted zs) ≤ length (text x) + 1 + size (unlisted (y ∷ ys))) x y ys
    (λ k. omega arith) (λ e. omega arith) (λ e. omega arith) (λ k. omega arith)

pub size-arranged : (vs : Values) → size (arranged_values vs) ≤ size vs
unfolding arranged_values arranged
size-arranged v_nil = omega arith
size-arranged (v_cons v vs) = let h = size-arranged vs in omega (arith, size-insert v (arranged text true (listed vs)))

mutual
  unfolding normal

  pub normal-shorter : (v : Value) → length (text (normal v)) ≤ length (text v)
  normal-shorter (v_bool b) = omega arith
  normal-shorter (v_string s) = omega arith
  normal-shorter (v_ext e z) = omega arith
  normal-shorter (v_bits w n) = omega arith
  normal-shorter v_none = omega arith
  normal-shorter (v_some v) = let h = normal-shorter v in omega (arith, length_some v, length_some (normal v))
  normal-shorter (v_set vs) =
      let h = normals-shorter vs in
      omega (arith, size-arranged (normals vs), length-set vs, length-set (arranged_values (normals vs)))
  normal-shorter (v_entity q s) = omega arith
  normal-shorter (v_record q vs) = let h = normals-shorter vs in omega (arith, length_record q vs, length_record q (normals vs))

  pub normals-shorter : (vs : Values) → size (normals vs) ≤ size vs
  normals-shorter v_nil = omega arith
  normals-shorter (v_cons v vs) = let h = normal-shorter v in let k = normals-shorter vs in omega arith

-- done again
abbrev Stays : Value → Type 0
Stays v = normal v ≡ v

all_stay : (xs : List Value) → Every Stays xs → normals (unlisted xs) ≡ unlisted xs
unfolding normal
all_stay [] none = refl
all_stay (x ∷ xs) (also h hs) = ap₂ {C = Values} v_cons h (all_stay xs hs)

pub arranged-twice : (vs : Values) → arranged_values (arranged_values vs) ≡ arranged_values vs
unfolding arranged_values
arranged-twice vs =
    ap (λ (l : List Value). unlisted (arranged text true l)) (listed_back (arranged text true (listed vs)))
    ∙ ap (λ (l : List Value). unlisted l) (arranged-again text true (listed vs))

arranged-stay : (vs : Values) → Every Stays (listed vs) → normals (arranged_values vs) ≡ arranged_values vs
unfolding arranged_values
arranged-stay vs h = all_stay (arranged text true (listed vs)) (every-arranged text true Stays (listed vs) h)

mutual
  unfolding normal

  pub normal-twice : (v : Value) → normal (normal v) ≡ normal v
  normal-twice (v_bool b) = refl
  normal-twice (v_string s) = refl
  normal-twice (v_ext e z) = refl
  normal-twice (v_bits w n) = refl
  normal-twice v_none = refl
  normal-twice (v_some v) = ap v_some (normal-twice v)
  normal-twice (v_set vs) = ap v_set (ap arranged_values (arranged-stay (normals vs) (each_twice vs)) ∙ arranged-twice (normals vs))
  normal-twice (v_entity q s) = refl
  normal-twice (v_record q vs) =
      let e = unlisted-back (normals vs) in
      ap (v_record q) (subst (λ (l : Values). normals l ≡ l) e (all_stay (listed (normals vs)) (each_twice vs)))

  each_twice : (vs : Values) → Every Stays (listed (normals vs))
  each_twice v_nil = none
  each_twice (v_cons v vs) = also (normal-twice v) (each_twice vs)

-- the members of a set that was brought into order stay as they are
pub members-twice : (vs : Values) → normals (arranged_values (normals vs)) ≡ arranged_values (normals vs)
members-twice vs = arranged-stay (normals vs) (each_twice vs)
