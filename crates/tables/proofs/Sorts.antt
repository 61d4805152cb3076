-- A sort row by its kind: what tells it from the others, its view, and the search for a sort or a name.
-- Assumes nothing.
use Rattle.std.proofs.Common.{Some, Option}
use mathlib.Core.Path.{◌≡◌, refl, sym, ap, ◌∙◌}
use mathlib.Core.Bool.{Bool, true, false, cond, ◌&&◌, ◌||◌}
use mathlib.Core.List.{List, [], ◌∷◌}
use Prim.Native.Nat.{ℕ, zero, suc, ◌-◌, ◌≤◌, ◌<◌}
use native.Mathlib.Nat.{sub-zero}
use native.Mathlib.Omega.{arith}
use lib.Dec.{leb, ltb, eqb}
use borrow.Author.Tests.{eq-eqb, ne_eqb, eqb-true, eqb-false, le-leb, leb-false, lt-ltb, le-ltb}
use Rattle.ground.specs.Lists.{at}
use Rattle.ground.proofs.Tests.{and-true, by_test, by_order}
use Rattle.arena.specs.Text.{same_text}
use Rattle.tables.specs.declared.sort.SortRow.{SortRow}
use Rattle.tables.specs.declared.sort.Wanted.{Wanted}
use Rattle.tables.specs.Sort.{entity_of}
use Rattle.tables.specs.Layout.{Lent, count, word, part, name_at, sort_of, sort_at, tables_of}
use Rattle.tables.specs.Rules.{identity, same_sort}
use Rattle.tables.specs.Find.{sort_row, named_sort}
use Rattle.tables.specs.Search.{first_row}
use Rattle.tables.specs.View.{sort_row_of, sort_row_at, meant, sort_wanted, key_of, is_kind, has_name, is_named}
use Rattle.tables.specs.Lookup.{FindsSort, FindsNamed}
use Rattle.tables.proofs.Places.{at-tabulate, at-past}
use Rattle.tables.proofs.Searches.{first_found}

-- nine kinds and the others
pub by_kind : {P : ℕ → Type 0} → P 0 → P 1 → P 2 → P 3 → P 4 → P 5 → P 6 → P 7 → P 8 → P 9 → ((k : ℕ) → 9 < k → P k) → (k : ℕ) → P k
by_kind p0 p1 p2 p3 p4 p5 p6 p7 p8 p9 p zero = p0
by_kind p0 p1 p2 p3 p4 p5 p6 p7 p8 p9 p (suc zero) = p1
by_kind p0 p1 p2 p3 p4 p5 p6 p7 p8 p9 p (suc (suc zero)) = p2
by_kind p0 p1 p2 p3 p4 p5 p6 p7 p8 p9 p (suc (suc (suc zero))) = p3
by_kind p0 p1 p2 p3 p4 p5 p6 p7 p8 p9 p (suc (suc (suc (suc zero)))) = p4
by_kind p0 p1 p2 p3 p4 p5 p6 p7 p8 p9 p (suc (suc (suc (suc (suc zero))))) = p5
by_kind p0 p1 p2 p3 p4 p5 p6 p7 p8 p9 p (suc (suc (suc (suc (suc (suc zero)))))) = p6
by_kind p0 p1 p2 p3 p4 p5 p6 p7 p8 p9 p (suc (suc (suc (suc (suc (suc (suc zero))))))) = p7
by_kind p0 p1 p2 p3 p4 p5 p6 p7 p8 p9 p (suc (suc (suc (suc (suc (suc (suc (suc zero)))))))) = p8
by_kind p0 p1 p2 p3 p4 p5 p6 p7 p8 p9 p (suc (suc (suc (suc (suc (suc (suc (suc (suc zero))))))))) = p9
by_kind p0 p1 p2 p3 p4 p5 p6 p7 p8 p9 p (suc (suc (suc (suc (suc (suc (suc (suc (suc (suc k)))))))))) =
    p (suc (suc (suc (suc (suc (suc (suc (suc (suc (suc k)))))))))) (omega arith)

-- what tells a row from the others begins with its kind, where a record's is an entity's
abbrev head_of : ℕ → ℕ
head_of kind = cond (has_name kind) 9 kind

abbrev number_of : ℕ → ℕ → List ℕ
number_of kind number = cond (ltb kind 6) [] (number ∷ [])

abbrev tail_of : ℕ → List ℕ → ℕ → List ℕ
tail_of kind name number = cond (has_name kind) name (number_of kind number)

module _ (name : List ℕ) (number : ℕ) (fields : List ℕ) where
  abbrev Told : ℕ → Type 0
  Told kind = identity (sort_of kind name number fields) ≡ head_of kind ∷ tail_of kind name number

  told-other : (kind : ℕ) → 9 < kind → Told kind
  told-other kind h =
      rw (ne_eqb kind 0 (λ e. omega arith), ne_eqb kind 1 (λ e. omega arith), ne_eqb kind 2 (λ e. omega arith), ne_eqb kind 3 (λ e. omega arith), ne_eqb kind 4 (λ e. omega arith), ne_eqb kind 5 (λ e. omega arith), ne_eqb kind 6 (λ e. omega arith), ne_eqb kind 7 (λ e. omega arith), ne_eqb kind 8 (λ e. omega arith), ne_eqb kind 9 (λ e. omega arith), le-leb 9 kind (omega arith))

  told : (kind : ℕ) → Told kind
  told kind = by_kind {P = Told} refl refl refl refl refl refl refl refl refl refl told-other kind

other-head : (x y : ℕ) (xs ys : List ℕ) → (x ≡ y → ⊥) → same_text (x ∷ xs) (y ∷ ys) ≡ false
unfolding same_text
other-head x y xs ys h = rw (ne_eqb x y h)

same_head : (x : ℕ) (xs ys : List ℕ) → same_text (x ∷ xs) (x ∷ ys) ≡ same_text xs ys
unfolding same_text
same_head x xs ys = rw (eq-eqb x x refl)

eqb_sym : (a b : ℕ) → eqb a b ≡ eqb b a
eqb_sym a b =
    by_test (eqb a b)
    (λ e. e ∙ sym (eq-eqb b a (sym (eqb-true a b e))))
    (λ e. e ∙ sym (ne_eqb b a (λ h. eqb-false a b e (sym h))))

same_none : same_text [] [] ≡ true
unfolding same_text
same_none = refl

same-one : (a b : ℕ) → same_text (a ∷ []) (b ∷ []) ≡ eqb b a
unfolding same_text
same-one a b = and-true (eqb a b) ∙ eqb_sym a b

pub plain-high : (kind : ℕ) → has_name kind ≡ false → kind < 9
plain-high kind e = leb-false 9 kind (or_right (eqb kind 0) (leb 9 kind) e) where
  or_right : (a b : Bool) → (a || b) ≡ false → b ≡ false
  or_right true b e = let z : ◌≡◌ {A = Bool} true false = e in cc
  or_right false b e = e

module _ (k : ℕ) (name : List ℕ) (number : ℕ) (fields : List ℕ) where
  -- a row against a kind and a number
  key-hit : (wanted : ℕ) → has_name k ≡ false → cond (ltb k 6) true (eqb number wanted) ≡ same_text (k ∷ number_of k wanted) (identity (sort_of k name number fields))
  key-hit wanted h =
      rw (told name number fields k, h, same_head k (number_of k wanted) (number_of k number))
      (by_test (ltb k 6) (λ e. rw e (sym same_none)) (λ e. rw e (sym (same-one wanted number))))

  key_miss : (kind wanted : ℕ) → has_name kind ≡ false → (k ≡ kind → ⊥) → false ≡ same_text (kind ∷ number_of kind wanted) (identity (sort_of k name number fields))
  key_miss kind wanted h d =
      rw (told name number fields k)
      (by_test (has_name k)
      (λ e. rw e (sym (other-head kind 9 (number_of kind wanted) name (λ g. let z = plain-high kind h in omega (arith, z)))))
      (λ e. rw e (sym (other-head kind k (number_of kind wanted) (number_of k number) (λ g. d (sym g))))))

  pub key-same : (kind wanted : ℕ) → has_name kind ≡ false → (eqb k kind && cond (ltb kind 6) true (eqb number wanted)) ≡ same_text (kind ∷ number_of kind wanted) (identity (sort_of k name number fields))
  key-same kind wanted h =
      by_test (eqb k kind)
      (λ e. let q : kind ≡ k = sym (eqb-true k kind e) in rw (e, q) (key-hit wanted (ap has_name (sym q) ∙ h)))
      (λ e. rw e (key_miss kind wanted h (eqb-false k kind e)))

  -- a row against a name
  pub name-same : (asked : List ℕ) → (has_name k && same_text asked name) ≡ same_text (9 ∷ asked) (identity (sort_of k name number fields))
  name-same asked =
      rw (told name number fields k)
      (by_test (has_name k)
      (λ e. rw e (sym (same_head 9 asked name)))
      (λ e. rw e (sym (other-head 9 k asked (number_of k number) (λ g. let z = plain-high k e in omega (arith, z))))))

module _ (l : Lent) where
  pub key-at : (kind wanted : ℕ) → has_name kind ≡ false → (i : ℕ) → is_kind l.sorts kind wanted i ≡ same_text (kind ∷ number_of kind wanted) (identity (sort_at l i))
  key-at kind wanted h i =
      key-same (word l.sorts i 2) (name_at l.names l.sorts i) (word l.sorts i 3) (part l.fields (word l.sorts i 3) (word l.sorts i 4)) kind wanted h

  pub name-at : (asked : List ℕ) (i : ℕ) → is_named l.sorts l.names asked i ≡ same_text (9 ∷ asked) (identity (sort_at l i))
  name-at asked i =
      name-same (word l.sorts i 2) (name_at l.names l.sorts i) (word l.sorts i 3) (part l.fields (word l.sorts i 3) (word l.sorts i 4)) asked

  wanted-same : (w : Wanted) (i : ℕ) → is_kind l.sorts (key_of w).kind (key_of w).number i ≡ same_sort (sort_wanted w) (sort_at l i)
  wanted-same Wanted.Bool i = key-at 1 0 refl i
  wanted-same Wanted.String i = key-at 2 0 refl i
  wanted-same Wanted.Decimal i = key-at 3 0 refl i
  wanted-same Wanted.Datetime i = key-at 4 0 refl i
  wanted-same Wanted.Duration i = key-at 5 0 refl i
  wanted-same (Wanted.BitVec width) i = key-at 6 width refl i
  wanted-same (Wanted.Option row) i = key-at 7 row refl i
  wanted-same (Wanted.Set row) i = key-at 8 row refl i

pub finds_sort : (ws : List ℕ) (w : Wanted) (r : Option ℕ) → r ≡ first_row (is_kind ws (key_of w).kind (key_of w).number) 0 (count ws - 0) → FindsSort ws (sort_wanted w) r
unfolding sort_row tables_of
finds_sort ws w r e l h =
    e ∙ rw (sym h, sub-zero (count l.sorts))
    (first_found (is_kind l.sorts (key_of w).kind (key_of w).number) (sort_at l) (same_sort (sort_wanted w)) (wanted-same l w) (count l.sorts))

pub finds_named : (ws names name : List ℕ) (r : Option ℕ) → r ≡ first_row (is_named ws names name) 0 (count ws - 0) → FindsNamed ws names name r
unfolding named_sort sort_row tables_of
finds_named ws names name r e l h g =
    e ∙ rw (sym h, sym g, sub-zero (count l.sorts))
    (first_found (is_named l.sorts l.names name) (sort_at l) (same_sort (entity_of name)) (name-at l name) (count l.sorts))

-- the view of a row is what the row stands for
module _ (l : Lent) (i : ℕ) where
  module _ (number size : ℕ) where
    abbrev Meant : ℕ → Type 0
    Meant kind = meant l i (sort_row_of kind number size) ≡ Some (sort_of kind (name_at l.names l.sorts i) number (part l.fields number size))

    meant-other : (kind : ℕ) → 9 < kind → Meant kind
    meant-other kind h =
        rw (ne_eqb kind 1 (λ e. omega arith), ne_eqb kind 2 (λ e. omega arith), ne_eqb kind 3 (λ e. omega arith), ne_eqb kind 4 (λ e. omega arith), ne_eqb kind 5 (λ e. omega arith), ne_eqb kind 6 (λ e. omega arith), ne_eqb kind 7 (λ e. omega arith), ne_eqb kind 8 (λ e. omega arith), ne_eqb kind 9 (λ e. omega arith))

    meant-kind : (kind : ℕ) → Meant kind
    meant-kind kind = by_kind {P = Meant} refl refl refl refl refl refl refl refl refl refl meant-other kind

  pub row-meant : at (tables_of l).sorts i ≡ meant l i (sort_row_at l.sorts i)
  unfolding tables_of sort_row_at
  row-meant =
      by_order i (count l.sorts)
      (λ h. rw (lt-ltb i (count l.sorts) h) (at-tabulate (sort_at l) (count l.sorts) i h ∙ sym (meant-kind (word l.sorts i 3) (word l.sorts i 4) (word l.sorts i 2))))
      (λ h. rw (le-ltb i (count l.sorts) h) (at-past (sort_at l) 0 (count l.sorts) i h))

pub row-past : (ws : List ℕ) (i n : ℕ) → n ≡ count ws → n ≤ i → SortRow.NoRow ≡ sort_row_at ws i
unfolding sort_row_at
row-past ws i n e h = rw (le-ltb i (count ws) (omega (arith, e)))

pub row_in : (ws : List ℕ) (i n : ℕ) → n ≡ count ws → i < n → (r : SortRow) (a b d : ℕ) → a ≡ word ws i 2 → b ≡ word ws i 3 → d ≡ word ws i 4 → r ≡ sort_row_of a b d → r ≡ sort_row_at ws i
unfolding sort_row_at
row_in ws i n e h r a b d p q s t = t ∙ rw (lt-ltb i (count ws) (omega (arith, e)), p, q, s)

-- what tells row i from the others, by its kind
module _ (l : Lent) (i : ℕ) where
  told_at : identity (sort_at l i) ≡ head_of (word l.sorts i 2) ∷ tail_of (word l.sorts i 2) (name_at l.names l.sorts i) (word l.sorts i 3)
  told_at = told (name_at l.names l.sorts i) (word l.sorts i 3) (part l.fields (word l.sorts i 3) (word l.sorts i 4)) (word l.sorts i 2)

  pub identity-named : has_name (word l.sorts i 2) ≡ true → identity (sort_at l i) ≡ 9 ∷ name_at l.names l.sorts i
  identity-named h = told_at ∙ rw h refl

  pub identity-plain : has_name (word l.sorts i 2) ≡ false → identity (sort_at l i) ≡ word l.sorts i 2 ∷ number_of (word l.sorts i 2) (word l.sorts i 3)
  identity-plain h = told_at ∙ rw h refl

-- fields do not tell rows apart
pub identity-fields : (l m : Lent) → m.sorts ≡ l.sorts → m.names ≡ l.names → (i : ℕ) → identity (sort_at m i) ≡ identity (sort_at l i)
identity-fields l m e g i = told_at m i ∙ rw (e, g) (sym (told_at l i))
