-- Trees in which no operator stands: what is read of them is read with operators worked out too, and they are settled whatever is remembered.
-- Assumes nothing.
use Rattle.std.proofs.Common.{None, Option, Some, Ok}
use mathlib.Core.Path.{◌≡◌, refl, sym, ap, ◌∙◌, subst}
use mathlib.Core.Bool.{Bool, true, false, true≢false}
use mathlib.Core.List.{List, [], ◌∷◌}
use Prim.Native.Nat.{ℕ, zero, suc, ◌+◌}
use native.Mathlib.Omega.{arith}
use Rattle.ground.specs.Bytes.{bytes}
use Rattle.ground.specs.Lists.{at}
use lib.Dec.{eqb}
use Rattle.ground.proofs.Tests.{by_order, by_test}
use Rattle.refusals.specs.declared.Refusal.TheVariants.{UnmatchedFieldType, UnmatchedRecordType}
use Rattle.arena.specs.Node.{node_at}
use Rattle.arena.specs.Stands.{TreeStands, StandAll}
use Rattle.arena.specs.Text.{same_text}
use Rattle.arena.specs.Tree.{Tree, Trees, bit_vec as bits, numeral, string as quoted, symbol, app, nil, cons}
use Rattle.arena.proofs.Arenas.{one-tree}
use Rattle.tables.specs.Sort.{Sort, bool, string, ext, bit_vec, option_of, set_of, entity_of, record_of, Tables}
use Rattle.shapes.specs.Shape.{Shape, uncovered, as_none, as_some, some_of, as_empty, singleton, union, extension, indexed, made, other, unary, binary, ite, is, ext_shape, one, shape}
use Rattle.shapes.specs.Shows.{Standing}
use Rattle.shapes.proofs.Looks.{kind, kind_of, kinds}
use Rattle.shapes.specs.SortShape.{SortShape, sort_shape}
use Rattle.sorts.specs.Sort.{sort_of, read_sort}
use Rattle.values.specs.Value.{Values}
use Rattle.means.specs.Literal.{Lit, entity_lit, same_count, fields_of, made_row, app_lit, read_with}
use Rattle.well_sorted.proofs.Results.{refuses, went, passed}
use Rattle.well_sorted.proofs.Views.{View, v_unary, v_binary, v_ite, v_uncovered, v_as_none, v_as_some, v_some_of, v_as_empty, v_singleton, v_union, v_extension, v_indexed, v_made, v_other, view, SortView, s_word, s_width, s_option, s_set, s_none, sort-view}
use Rattle.settled.specs.Settled.{decision, Settled}

abbrev quiet : Shape → Bool
quiet uncovered = true
quiet (as_none t) = true
quiet (as_some t v) = true
quiet (some_of v) = true
quiet (as_empty t) = true
quiet (singleton v) = true
quiet (union v w) = true
quiet (extension x n) = true
quiet (indexed digits w) = true
quiet (made f us) = true
quiet other = true
quiet (unary op v) = false
quiet (binary op v w) = false
quiet (ite c v w) = false

abbrev mutual
  pub Quiet : Tree → Type 0
  Quiet (bits w n) = Unit {0}
  Quiet (numeral n) = Unit {0}
  Quiet (quoted s) = Unit {0}
  Quiet (symbol s) = Unit {0}
  Quiet (app us) = (quiet (shape us) ≡ true) × QuietAll us

  pub QuietAll : Trees → Type 0
  QuietAll nil = Unit {0}
  QuietAll (cons u us) = Quiet u × QuietAll us

undecided : (T : Tables) (s : Shape) → quiet s ≡ true → decision T s ≡ None
undecided T uncovered h = refl
undecided T (as_none t) h = refl
undecided T (as_some t v) h = refl
undecided T (some_of v) h = refl
undecided T (as_empty t) h = refl
undecided T (singleton v) h = refl
undecided T (union v w) h = refl
undecided T (extension x n) h = refl
undecided T (indexed digits w) h = refl
undecided T (made f us) h = refl
undecided T other h = refl
undecided T (unary op v) h = absurd (true≢false (sym h))
undecided T (binary op v w) h = absurd (true≢false (sym h))
undecided T (ite c v w) h = absurd (true≢false (sym h))

-- settled, whatever is remembered
module _ (T : Tables) (ms ws ts : List ℕ) where
  no-decision : (us vs : Trees) (i : ℕ) → Standing (app us) ws ts i → Standing (app vs) ws ts i → quiet (shape us) ≡ true → (b : Bool) → decision T (shape vs) ≡ Some b → ⊥
  no-decision us vs i s r h b e =
      let q : app us ≡ app vs = one-tree ws ts (app us) (app vs) i s.next r.next s.from s.rest r.from r.rest s.there r.there in
      let v : us ≡ vs = cc in
      let k : ◌≡◌ {A = Option Bool} None (Some b) = sym (undecided T (shape us) h) ∙ ap (λ (x : Trees). decision T (shape x)) v ∙ e in
      let z : ◌≡◌ {A = ℕ} 0 1 = cc in
      absurd (omega arith)

  atom : (t : Tree) (i j x y : ℕ) → TreeStands t ws ts i j x y → j ≡ i + 1 → (kind_of t ≡ 5 → ⊥) → Settled T ms ws ts i j
  atom t i j x y s n h k f g vs r b e =
      let q : k ≡ i = omega arith in
      let a = kinds ws ts i t (record { next = j; from = x; rest = y; there = s }) in
      absurd (h (sym a ∙ subst (λ (m : ℕ). kind (node_at ws m) ≡ 5) q (kinds ws ts k (app vs) r)))

  mutual
    quiet-stands : (t : Tree) → Quiet t → (i j x y : ℕ) → TreeStands t ws ts i j x y → Settled T ms ws ts i j
    quiet-stands (bits w n) q i j x y s = atom (bits w n) i j x y s s.next (λ z. absurd (omega arith))
    quiet-stands (numeral n) q i j x y s = atom (numeral n) i j x y s s.next (λ z. absurd (omega arith))
    quiet-stands (quoted t) q i j x y s = atom (quoted t) i j x y s s.next (λ z. absurd (omega arith))
    quiet-stands (symbol t) q i j x y s = atom (symbol t) i j x y s s.next (λ z. absurd (omega arith))
    quiet-stands (app us) q i j x y s = λ k f g vs r b e.
        by_order i k
        (λ h. quiet-stand us q.1 (i + 1) j x y s.children k (omega arith) g vs r b e)
        (λ h.
        let z : k ≡ i = omega arith in
        absurd (no-decision us vs i (record { next = j; from = x; rest = y; there = s }) (subst (λ (m : ℕ). Standing (app vs) ws ts m) z r) q.0 b e))

    quiet-stand : (us : Trees) → QuietAll us → (i j x y : ℕ) → StandAll us ws ts i j x y → Settled T ms ws ts i j
    quiet-stand nil q i j x y s k f g vs r b e = let z = s.next in absurd (omega arith)
    quiet-stand (cons u us) q i j x y s k f g vs r b e =
        by_order k s.mid
        (λ h. quiet-stands u q.0 i s.mid x s.off s.first k f h vs r b e)
        (λ h. quiet-stand us q.1 s.mid j s.off y s.others k h g vs r b e)

  pub quiet-settled : (t : Tree) → Quiet t → (i : ℕ) (s : Standing t ws ts i) → Settled T ms ws ts i s.next
  quiet-settled t q i s = quiet-stands t q i s.next s.from s.rest s.there

-- a written sort
one-quiet : (f : List ℕ) (t : Tree) → is f "not" ≡ false → is f "bvnego" ≡ false → is f "some" ≡ false → is f "set.singleton" ≡ false → is f "Decimal" ≡ false → is f "Datetime" ≡ false → is f "Duration" ≡ false → quiet (one f t) ≡ true
one-quiet f t a b c d g h k = rw (a, b, c, d) (ext-quiet f t g h k)
  where
    ext-quiet : (f : List ℕ) (t : Tree) → is f "Decimal" ≡ false → is f "Datetime" ≡ false → is f "Duration" ≡ false → quiet (ext_shape f t) ≡ true
    ext-quiet f (bits w n) g h k = by_test (eqb w 64) (λ e. rw (e, g, h, k) refl) (λ e. rw e refl)
    ext-quiet f (numeral n) g h k = refl
    ext-quiet f (quoted s) g h k = refl
    ext-quiet f (symbol s) g h k = refl
    ext-quiet f (app us) g h k = refl

option_quiet : (t : Tree) → quiet (shape (cons (symbol (bytes "Option")) (cons t nil))) ≡ true
unfolding shape same_text
option_quiet t = one-quiet (bytes "Option") t refl refl refl refl refl refl refl

set-quiet : (t : Tree) → quiet (shape (cons (symbol (bytes "Set")) (cons t nil))) ≡ true
unfolding shape same_text
set-quiet t = one-quiet (bytes "Set") t refl refl refl refl refl refl refl

module _ (T : Tables) where
  quiet-sort-shape : (a : ℕ) → ((t : Tree) (row : ℕ) → read_sort T a t ≡ Ok row → Quiet t) → (t : Tree) (s : SortShape) → SortView t s → (row : ℕ) → sort_of T (λ u. read_sort T a u) s ≡ Ok row → Quiet t
  unfolding shape same_text
  quiet-sort-shape a below _ _ s_word row e = tt
  quiet-sort-shape a below _ _ s_width row e = (refl, (tt, (tt, (tt, tt))))
  quiet-sort-shape a below _ _ (s_option {t = t}) row e = let w = went _ _ row e in (option_quiet t, (tt, (below t w.got w.first, tt)))
  quiet-sort-shape a below _ _ (s_set {t = t}) row e = let w = went _ _ row e in (set-quiet t, (tt, (below t w.got w.first, tt)))
  quiet-sort-shape a below _ _ s_none row e = refuses e

  pub quiet-sort : (a : ℕ) (t : Tree) (row : ℕ) → read_sort T a t ≡ Ok row → Quiet t
  unfolding read_sort
  quiet-sort zero t row e = refuses e
  quiet-sort (suc a) t row e = quiet-sort-shape a (λ u q. quiet-sort a u q) t (sort_shape t) (sort-view t) row e

  -- what is read with operators refused
  module _ (a : ℕ) (below : (e : Option ℕ) (t : Tree) (l : Lit) → read_with T false a e t ≡ Ok l → Quiet t) where
    quiet-fields : (fs : List ℕ) (us : Trees) (vs : Values) → same_count fs us ≡ true → fields_of (λ e u. read_with T false a e u) fs us ≡ Ok vs → QuietAll us
    quiet-fields [] nil vs c e = tt
    quiet-fields [] (cons u us) vs c e = absurd (true≢false (sym c))
    quiet-fields (f ∷ fs) nil vs c e = absurd (true≢false (sym c))
    quiet-fields (f ∷ fs) (cons u us) vs c e =
        let w = went _ _ vs e in
        let p = passed _ UnmatchedFieldType _ vs w.next in
        let z = went _ _ vs p.1 in
        (below (Some f) u w.got w.first, quiet-fields fs us z.got c z.first)

    quiet-entity : (row : ℕ) (us : Trees) (l : Lit) → entity_lit row us ≡ Ok l → QuietAll us
    quiet-entity row nil l e = tt
    quiet-entity row (cons (bits w n) us) l e = refuses e
    quiet-entity row (cons (numeral n) us) l e = refuses e
    quiet-entity row (cons (quoted s) nil) l e = (tt, tt)
    quiet-entity row (cons (quoted s) (cons u us)) l e = refuses e
    quiet-entity row (cons (symbol s) us) l e = refuses e
    quiet-entity row (cons (app ts) us) l e = refuses e

    quiet_row : (row : ℕ) (o : Option Sort) (us : Trees) (l : Lit) → made_row T (λ t. read_sort T a t) (λ e u. read_with T false a e u) row o us ≡ Ok l → QuietAll us
    quiet_row row None us l e = refuses e
    quiet_row row (Some bool) us l e = refuses e
    quiet_row row (Some string) us l e = refuses e
    quiet_row row (Some (ext x)) us l e = refuses e
    quiet_row row (Some (bit_vec w)) us l e = refuses e
    quiet_row row (Some (option_of q)) us l e = refuses e
    quiet_row row (Some (set_of q)) us l e = refuses e
    quiet_row row (Some (entity_of name)) us l e = quiet-entity row us l e
    quiet_row row (Some (record_of name fs)) us l e =
        let p = passed _ UnmatchedRecordType _ l e in
        let w = went _ _ l p.1 in
        quiet-fields fs us w.got p.0 w.first

    quiet-app : (us : Trees) (s : Shape) → View us s → (e : Option ℕ) (l : Lit) → app_lit T (λ t. read_sort T a t) (λ x u. read_with T false a x u) false e s ≡ Ok l → (quiet s ≡ true) × QuietAll us
    unfolding shape same_text
    quiet-app _ _ v_unary e l m = refuses m
    quiet-app _ _ v_binary e l m = refuses m
    quiet-app _ _ v_ite e l m = refuses m
    quiet-app _ _ v_uncovered e l m = refuses m
    quiet-app _ _ (v_as_none {t = t}) e l m = let w = went _ _ l m in (refl, (tt, (tt, (quiet-sort a t w.got w.first, tt))))
    quiet-app _ _ (v_as_some {t = t} {v = v}) e l m =
        let w = went _ _ l m in
        let z = went _ _ l w.next in
        (refl, ((refl, (tt, (tt, (quiet-sort a t w.got w.first, tt)))), (below _ v z.got z.first, tt)))
    quiet-app _ _ (v_some_of {v = v}) e l m = let w = went _ _ l m in let z = went _ _ l w.next in (refl, (tt, (below w.got v z.got z.first, tt)))
    quiet-app _ _ (v_as_empty {t = t}) e l m = let w = went _ _ l m in (refl, (tt, (tt, (quiet-sort a t w.got w.first, tt))))
    quiet-app _ _ (v_singleton {v = v}) e l m = let w = went _ _ l m in let z = went _ _ l w.next in (refl, (tt, (below w.got v z.got z.first, tt)))
    quiet-app _ _ (v_union {v = v} {w = w}) e l m = let x = went _ _ l m in let z = went _ _ l x.next in (refl, (tt, (below e v x.got x.first, (below e w z.got z.first, tt))))
    quiet-app _ _ v_extension e l m = (refl, (tt, (tt, tt)))
    quiet-app _ _ v_indexed e l m = (refl, (tt, (tt, (tt, tt))))
    quiet-app _ _ (v_made {f = f} {us = us}) e l m = let w = went _ _ l m in (refl, (tt, quiet_row w.got (at T.sorts w.got) us l w.next))
    quiet-app _ _ v_other e l m = refuses m

  pub quiet_read : (a : ℕ) (e : Option ℕ) (t : Tree) (l : Lit) → read_with T false a e t ≡ Ok l → Quiet t
  unfolding read_with
  quiet_read zero e t l m = refuses m
  quiet_read (suc a) e (bits w n) l m = tt
  quiet_read (suc a) e (numeral n) l m = tt
  quiet_read (suc a) e (quoted s) l m = tt
  quiet_read (suc a) e (symbol s) l m = tt
  quiet_read (suc a) e (app us) l m = quiet-app a (λ x u k h. quiet_read a x u k h) us (shape us) (view us) e l m
