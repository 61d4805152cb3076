-- What a shape says of the trees.
-- Assumes nothing.
use mathlib.Core.Path.{◌≡◌}
use mathlib.Core.Bool.{true, ◌&&◌, ◌||◌}
use mathlib.Core.List.{List, [], ◌∷◌}
use Prim.Native.Nat.{ℕ}
use Prim.Native.String.{String}
use lib.Dec.{eqb}
use borrow.Author.Tests.{eqb-true}
use Rattle.ground.specs.Bytes.{bytes}
use Rattle.ground.proofs.Tests.{by_test, both_left, both_right}
use Rattle.arena.specs.Tree.{Tree, Trees, bit_vec, numeral, string, symbol, app, nil, cons}
use Rattle.arena.proofs.Texts.{same-equal}
use Rattle.tables.specs.Sort.{Ext, decimal, datetime, duration}
use Rattle.shapes.specs.declared.shape.BinaryOp.{BinaryOp}
use Rattle.shapes.specs.declared.shape.UnaryOp.{UnaryOp}
use Rattle.shapes.specs.Shape.{Shape, unary, binary, ite, uncovered, as_none, as_some, some_of, as_empty, singleton, union, extension, indexed, made, other, is, ext_or, ext_shape, one, index_shape, word_shape, pair_shape, two, applied, some_shape, headed, shape}
use Rattle.shapes.specs.SortShape.{SortShape, word, width_of, option_of, set_of, no_sort, sort_one, sort_two, sort_applied, sort_list, sort_shape}

abbrev pub ext_name : Ext → List ℕ
ext_name decimal = bytes "Decimal"
ext_name datetime = bytes "Datetime"
ext_name duration = bytes "Duration"

abbrev pub call1 : List ℕ → Tree → Trees
call1 f a = cons (symbol f) (cons a nil)

abbrev pub call2 : List ℕ → Tree → Tree → Trees
call2 f a b = cons (symbol f) (cons a (cons b nil))

abbrev pub call3 : List ℕ → Tree → Tree → Tree → Trees
call3 f a b c = cons (symbol f) (cons a (cons b (cons c nil)))

abbrev pub unary_name : UnaryOp → List ℕ
unary_name UnaryOp.Not = bytes "not"
unary_name UnaryOp.Bvnego = bytes "bvnego"

abbrev pub binary_name : BinaryOp → List ℕ
binary_name BinaryOp.Or = bytes "or"
binary_name BinaryOp.Equal = bytes "="
binary_name BinaryOp.Bvsaddo = bytes "bvsaddo"
binary_name BinaryOp.Bvsmulo = bytes "bvsmulo"

pub data View : Trees → Shape → Type 0 where
  v_unary : {op : UnaryOp} {v : Tree} → View (call1 (unary_name op) v) (unary op v)
  v_binary : {op : BinaryOp} {v w : Tree} → View (call2 (binary_name op) v w) (binary op v w)
  v_ite : {c v w : Tree} → View (call3 (bytes "ite") c v w) (ite c v w)
  v_uncovered : {ts : Trees} → View ts uncovered
  v_as_none : {t : Tree} → View (call2 (bytes "as") (symbol (bytes "none")) t) (as_none t)
  v_as_some : {t v : Tree} → View (cons (app (call2 (bytes "as") (symbol (bytes "some")) t)) (cons v nil)) (as_some t v)
  v_some_of : {v : Tree} → View (call1 (bytes "some") v) (some_of v)
  v_as_empty : {t : Tree} → View (call2 (bytes "as") (symbol (bytes "set.empty")) t) (as_empty t)
  v_singleton : {v : Tree} → View (call1 (bytes "set.singleton") v) (singleton v)
  v_union : {v w : Tree} → View (call2 (bytes "set.union") v w) (union v w)
  v_extension : {x : Ext} {n : ℕ} → View (call1 (ext_name x) (bit_vec 64 n)) (extension x n)
  v_indexed : {digits : List ℕ} {w : ℕ} → View (call2 (bytes "_") (symbol (98 ∷ 118 ∷ digits)) (numeral w)) (indexed digits w)
  v_made : {f : List ℕ} {us : Trees} → View (cons (symbol f) us) (made f us)
  v_other : {ts : Trees} → View ts other

-- two names that are two words
words : (f g : List ℕ) (a b : String) → (is f a && is g b) ≡ true → (f ≡ bytes a) × (g ≡ bytes b)
words f g a b h = (same-equal f (bytes a) (both_left (is f a) (is g b) h), same-equal g (bytes b) (both_right (is f a) (is g b) h))

module _ (f : List ℕ) where
  view-wide : (n : ℕ) → View (call1 f (bit_vec 64 n)) (ext_or f n (made f (cons (bit_vec 64 n) nil)))
  view-wide n =
      by_test (is f "Decimal") (λ h. rw h (rw (same-equal f _ h) (v_extension {x = decimal}))) (λ h. rw h
      (by_test (is f "Datetime") (λ h. rw h (rw (same-equal f _ h) (v_extension {x = datetime}))) (λ h. rw h
      (by_test (is f "Duration") (λ h. rw h (rw (same-equal f _ h) (v_extension {x = duration}))) (λ h. rw h
      v_made)))))

  view-ext : (a : Tree) → View (call1 f a) (ext_shape f a)
  view-ext (bit_vec w n) = by_test (eqb w 64) (λ h. rw h (rw (eqb-true w 64 h) (view-wide n))) (λ h. rw h v_made)
  view-ext (numeral n) = v_made
  view-ext (string s) = v_made
  view-ext (symbol s) = v_made
  view-ext (app us) = v_made

  view-one : (a : Tree) → View (call1 f a) (one f a)
  view-one a =
      by_test (is f "not") (λ h. rw h (rw (same-equal f _ h) (v_unary {op = UnaryOp.Not}))) (λ h. rw h
      (by_test (is f "bvnego") (λ h. rw h (rw (same-equal f _ h) (v_unary {op = UnaryOp.Bvnego}))) (λ h. rw h
      (by_test (is f "some") (λ h. rw h (rw (same-equal f _ h) v_some_of)) (λ h. rw h
      (by_test (is f "set.singleton") (λ h. rw h (rw (same-equal f _ h) v_singleton)) (λ h. rw h
      (view-ext a))))))))

view-digits : (g : List ℕ) (w : ℕ) → View (call2 (bytes "_") (symbol g) (numeral w)) (index_shape (bytes "_") g (numeral w))
view-digits [] w = v_made
view-digits (a ∷ []) w = v_made
view-digits (a ∷ b ∷ digits) w =
    by_test (eqb a 98 && eqb b 118)
    (λ h. rw h (rw (eqb-true a 98 (both_left (eqb a 98) (eqb b 118) h), eqb-true b 118 (both_right (eqb a 98) (eqb b 118) h)) v_indexed))
    (λ h. rw h v_made)

view-index : (g : List ℕ) (b : Tree) → View (call2 (bytes "_") (symbol g) b) (index_shape (bytes "_") g b)
view-index g (bit_vec w n) = v_made
view-index g (numeral w) = view-digits g w
view-index g (string s) = v_made
view-index g (symbol s) = v_made
view-index g (app us) = v_made

module _ (f : List ℕ) where
  view-word : (g : List ℕ) (b : Tree) → View (call2 f (symbol g) b) (word_shape f g b)
  view-word g b =
      by_test (is f "as" && is g "none") (λ h. rw h (let p = words f g "as" "none" h in rw (p.0, p.1) v_as_none)) (λ h. rw h
      (by_test (is f "as" && is g "set.empty") (λ h. rw h (let p = words f g "as" "set.empty" h in rw (p.0, p.1) v_as_empty)) (λ h. rw h
      (by_test (is f "_") (λ h. rw h (rw (same-equal f _ h) (view-index g b))) (λ h. rw h
      v_made)))))

  view-pair : (a b : Tree) → View (call2 f a b) (pair_shape f a b)
  view-pair (bit_vec w n) b = v_made
  view-pair (numeral n) b = v_made
  view-pair (string s) b = v_made
  view-pair (symbol g) b = view-word g b
  view-pair (app us) b = v_made

  view-two : (a b : Tree) → View (call2 f a b) (two f a b)
  view-two a b =
      by_test (is f "or") (λ h. rw h (rw (same-equal f _ h) (v_binary {op = BinaryOp.Or}))) (λ h. rw h
      (by_test (is f "=") (λ h. rw h (rw (same-equal f _ h) (v_binary {op = BinaryOp.Equal}))) (λ h. rw h
      (by_test (is f "bvsaddo") (λ h. rw h (rw (same-equal f _ h) (v_binary {op = BinaryOp.Bvsaddo}))) (λ h. rw h
      (by_test (is f "bvsmulo") (λ h. rw h (rw (same-equal f _ h) (v_binary {op = BinaryOp.Bvsmulo}))) (λ h. rw h
      (by_test (is f "set.union") (λ h. rw h (rw (same-equal f _ h) v_union)) (λ h. rw h
      (by_test (is f "V4" || is f "V6") (λ h. rw h v_uncovered) (λ h. rw h
      (view-pair a b))))))))))))

  view-applied : (us : Trees) → View (cons (symbol f) us) (applied f us)
  view-applied nil = v_made
  view-applied (cons a nil) = view-one f a
  view-applied (cons a (cons b nil)) = view-two a b
  view-applied (cons a (cons b (cons c nil))) = by_test (is f "ite") (λ h. rw h (rw (same-equal f _ h) v_ite)) (λ h. rw h v_made)
  view-applied (cons a (cons b (cons c (cons d us)))) = v_made

view-some : (a b t v : Tree) → View (cons (app (cons a (cons b (cons t nil)))) (cons v nil)) (some_shape a b t v)
view-some (bit_vec w n) b t v = v_other
view-some (numeral n) b t v = v_other
view-some (string s) b t v = v_other
view-some (symbol f) (bit_vec w n) t v = v_other
view-some (symbol f) (numeral n) t v = v_other
view-some (symbol f) (string s) t v = v_other
view-some (symbol f) (symbol g) t v =
    by_test (is f "as" && is g "some")
    (λ h. rw h (let p = words f g "as" "some" h in rw (p.0, p.1) v_as_some))
    (λ h. rw h v_other)
view-some (symbol f) (app us) t v = v_other
view-some (app us) b t v = v_other

view-headed : (ts us : Trees) → View (cons (app ts) us) (headed ts us)
view-headed nil us = v_other
view-headed (cons a nil) us = v_other
view-headed (cons a (cons b nil)) us = v_other
view-headed (cons a (cons b (cons t nil))) nil = v_other
view-headed (cons a (cons b (cons t nil))) (cons v nil) = view-some a b t v
view-headed (cons a (cons b (cons t nil))) (cons v (cons w us)) = v_other
view-headed (cons a (cons b (cons t (cons d ts)))) us = v_other

pub view : (ts : Trees) → View ts (shape ts)
unfolding shape
view nil = v_other
view (cons (bit_vec w n) us) = v_other
view (cons (numeral n) us) = v_other
view (cons (string s) us) = v_other
view (cons (symbol f) us) = view-applied f us
view (cons (app ts) us) = view-headed ts us

-- written sorts
pub data SortView : Tree → SortShape → Type 0 where
  s_word : {s : List ℕ} → SortView (symbol s) (word s)
  s_width : {n : ℕ} → SortView (app (call2 (bytes "_") (symbol (bytes "BitVec")) (numeral n))) (width_of n)
  s_option : {t : Tree} → SortView (app (call1 (bytes "Option") t)) (option_of t)
  s_set : {t : Tree} → SortView (app (call1 (bytes "Set") t)) (set_of t)
  s_none : {t : Tree} → SortView t no_sort

module _ (f : List ℕ) where
  sort-one : (a : Tree) → SortView (app (call1 f a)) (sort_one f a)
  sort-one a =
      by_test (is f "Option") (λ h. rw h (rw (same-equal f _ h) s_option)) (λ h. rw h
      (by_test (is f "Set") (λ h. rw h (rw (same-equal f _ h) s_set)) (λ h. rw h
      s_none)))

  sort-two : (a b : Tree) → SortView (app (call2 f a b)) (sort_two f a b)
  sort-two (bit_vec w n) b = s_none
  sort-two (numeral n) b = s_none
  sort-two (string s) b = s_none
  sort-two (symbol g) (bit_vec w n) = s_none
  sort-two (symbol g) (numeral n) =
      by_test (is f "_" && is g "BitVec")
      (λ h. rw h (let p = words f g "_" "BitVec" h in rw (p.0, p.1) s_width))
      (λ h. rw h s_none)
  sort-two (symbol g) (string s) = s_none
  sort-two (symbol g) (symbol s) = s_none
  sort-two (symbol g) (app us) = s_none
  sort-two (app us) b = s_none

  sort-applied : (us : Trees) → SortView (app (cons (symbol f) us)) (sort_applied f us)
  sort-applied nil = s_none
  sort-applied (cons a nil) = sort-one a
  sort-applied (cons a (cons b nil)) = sort-two a b
  sort-applied (cons a (cons b (cons c us))) = s_none

sort-list : (us : Trees) → SortView (app us) (sort_list us)
sort-list nil = s_none
sort-list (cons (bit_vec w n) us) = s_none
sort-list (cons (numeral n) us) = s_none
sort-list (cons (string s) us) = s_none
sort-list (cons (symbol f) us) = sort-applied f us
sort-list (cons (app ts) us) = s_none

pub sort-view : (t : Tree) → SortView t (sort_shape t)
unfolding sort_shape
sort-view (bit_vec w n) = s_none
sort-view (numeral n) = s_none
sort-view (string s) = s_none
sort-view (symbol s) = s_word
sort-view (app us) = sort-list us
