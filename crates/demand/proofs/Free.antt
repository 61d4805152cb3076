-- Where the argument's name is apart, no literal and no sort that is read mentions it.
-- Assumes nothing.
use Rattle.std.proofs.Common.{None, Option, Some, Ok}
use mathlib.Core.Path.{◌≡◌, refl, ap, sym, ◌∙◌, subst}
use mathlib.Core.Bool.{Bool, true, false, not, ◌&&◌, ◌||◌, true≢false}
use mathlib.Core.List.{List, [], ◌∷◌}
use mathlib.Core.Logic.{inl, inr}
use Prim.Native.Nat.{ℕ, zero, suc}
use Rattle.ground.specs.Bytes.{bytes}
use Rattle.ground.specs.Lists.{any, at}
use Rattle.ground.proofs.Tests.{by_test}
use Rattle.refusals.specs.declared.Refusal.TheVariants.{UnknownType}
use Rattle.arena.specs.Text.{same_text}
use Rattle.arena.specs.Tree.{Tree, Trees, bit_vec, string, symbol, app, nil, cons}
use Rattle.arena.proofs.Texts.{same-equal}
use Rattle.tables.specs.Kept.{kept, kept_words}
use Rattle.tables.specs.Find.{named_sort, member_row}
use Rattle.tables.specs.Sort.{Ext, decimal, datetime, duration, Sort, entity_of, record_of, Member, Tables}
use Rattle.tables.proofs.Places.{any_at}
use Rattle.tables.proofs.Only.{member-found}
use Rattle.shapes.specs.declared.shape.BinaryOp.{BinaryOp}
use Rattle.shapes.specs.declared.shape.UnaryOp.{UnaryOp}
use Rattle.shapes.specs.Shape.{is}
use Rattle.shapes.specs.SortShape.{SortShape, sort_shape}
use Rattle.sorts.specs.Sort.{sort_word, sort_of, read_sort}
use Rattle.values.specs.Value.{Value, Values}
use Rattle.means.specs.Literal.{Lit, read_with}
use Rattle.well_sorted.proofs.Results.{refuses, went, was-found}
use Rattle.well_sorted.proofs.Finds.{IsNamed, named-is}
use Rattle.well_sorted.proofs.Views.{ext_name, unary_name, binary_name, SortView, s_word, s_width, s_option, s_set, s_none, sort-view}
use Rattle.well_sorted.proofs.Readings.{FieldReadings, f_nil, f_cons, Reading, r-bits, r-string, r_true, r_false, r-member, r-none, r-as_some, r_some, r-empty, r-singleton, r-union, r-unary, r-binary, r-ite, r-extension, r-indexed, r-entity, r_record, reading}
use Rattle.demand.specs.Mention.{same_name, indexes, mentions, mentions_any}
use Rattle.demand.specs.Premise.{names_sort, apart}

neither : (a b : Bool) → (a || b) ≡ false → (a ≡ false) × (b ≡ false)
neither true b e = absurd (true≢false e)
neither false b e = (refl, e)

neither-back : (a b : Bool) → a ≡ false → b ≡ false → (a || b) ≡ false
neither-back a b p q = rw (p, q) refl

none_of : (a b c : Bool) → (not a && not b && not c) ≡ true → (a ≡ false) × (b ≡ false) × (c ≡ false)
none_of true b c e = absurd (true≢false (sym e))
none_of false true c e = absurd (true≢false (sym e))
none_of false false true e = absurd (true≢false (sym e))
none_of false false false e = (refl, refl, refl)

any_none : {A : Type 0} (test : A → Bool) (xs : List A) (i : ℕ) (y : A) → any test xs ≡ false → at xs i ≡ Some y → test y ≡ false
any_none test xs i y n e = by_test (test y) (λ h. absurd (true≢false (sym (any_at test xs i y e h) ∙ n))) (λ h. h)

-- what is in a list of which none passes does not pass
not-among : (test : List ℕ → Bool) (w : List ℕ) (xs : List (List ℕ)) → any (same_text w) xs ≡ true → any test xs ≡ false → test w ≡ false
unfolding any
not-among test w [] h n = absurd (true≢false (sym h))
not-among test w (y ∷ ys) h n =
    by_test (same_text w y)
    (λ s. ap test (same-equal w y s) ∙ (neither (test y) (any test ys) n).0)
    (λ s. not-among test w ys (rw s at h) (neither (test y) (any test ys) n).1)

module _ (T : Tables) (x : List ℕ) (apart-name : apart T x ≡ true) where
  parts : (any (λ w. same_name w x) kept_words ≡ false) × (any (names_sort x) T.sorts ≡ false) × (any (λ (m : Member). same_name m.name x) T.members ≡ false)
  unfolding apart
  parts = none_of _ _ _ apart-name

  kept-apart : (w : List ℕ) → kept w ≡ true → same_name w x ≡ false
  unfolding kept
  kept-apart w e = not-among (λ u. same_name u x) w kept_words e parts.0

  sort-apart : (row : ℕ) (s : Sort) → at T.sorts row ≡ Some s → names_sort x s ≡ false
  sort-apart row s e = any_none (names_sort x) T.sorts row s parts.1 e

  named-apart : (name : List ℕ) (s : Sort) → IsNamed name s → names_sort x s ≡ false → same_name name x ≡ false
  named-apart name s (inl e) h = sym (ap (names_sort x) e) ∙ h
  named-apart name s (inr (fs, e)) h = sym (ap (names_sort x) e) ∙ h

  member_apart : (s : List ℕ) (i : ℕ) → member_row T s ≡ Some i → same_name s x ≡ false
  member_apart s i e =
      let f = member-found T i s e in
      subst (λ (u : List ℕ). same_name u x ≡ false) f.2 (any_none (λ (m : Member). same_name m.name x) T.members i f.0 parts.2 f.1)

  -- trees, by their parts
  free_app : (us : Trees) → mentions_any us x ≡ false → mentions (app us) x ≡ false
  unfolding mentions
  free_app us e = by_test (indexes us) (λ h. rw h refl) (λ h. rw h e)

  free_nil : mentions_any nil x ≡ false
  unfolding mentions
  free_nil = refl

  free_cons : (u : Tree) (us : Trees) → mentions u x ≡ false → mentions_any us x ≡ false → mentions_any (cons u us) x ≡ false
  unfolding mentions
  free_cons u us p q = neither-back _ _ p q

  free_symbol : (s : List ℕ) → same_name s x ≡ false → mentions (symbol s) x ≡ false
  unfolding mentions
  free_symbol s e = e

  free_bits : (w n : ℕ) → mentions (bit_vec w n) x ≡ false
  unfolding mentions
  free_bits w n = refl

  free_string : (s : List ℕ) → mentions (string s) x ≡ false
  unfolding mentions
  free_string s = refl

  free_index : (us : Trees) → mentions (app (cons (symbol (bytes "_")) us)) x ≡ false
  unfolding mentions same_text
  free_index us = refl

  free_word : (w : List ℕ) → kept w ≡ true → mentions (symbol w) x ≡ false
  free_word w e = free_symbol w (kept-apart w e)

  free_one : (w : List ℕ) (u : Tree) → mentions (symbol w) x ≡ false → mentions u x ≡ false → mentions (app (cons (symbol w) (cons u nil))) x ≡ false
  free_one w u p q = free_app _ (free_cons _ _ p (free_cons _ _ q free_nil))

  free_two : (w : List ℕ) (u v : Tree) → mentions (symbol w) x ≡ false → mentions u x ≡ false → mentions v x ≡ false → mentions (app (cons (symbol w) (cons u (cons v nil)))) x ≡ false
  free_two w u v p q r = free_app _ (free_cons _ _ p (free_cons _ _ q (free_cons _ _ r free_nil)))

  -- written sorts
  is-apart : (s w : List ℕ) → kept w ≡ true → same_text s w ≡ true → same_name s x ≡ false
  is-apart s w k h = subst (λ (u : List ℕ). same_name u x ≡ false) (sym (same-equal s w h)) (kept-apart w k)

  word-apart : (s : List ℕ) (row : ℕ) → sort_word T s ≡ Ok row → same_name s x ≡ false
  unfolding kept kept_words any same_text
  word-apart s row e =
      by_test (is s "Bool") (λ h. is-apart s (bytes "Bool") refl h) (λ h.
      by_test (is s "String") (λ k. is-apart s (bytes "String") refl k) (λ k.
      by_test (is s "Decimal") (λ l. is-apart s (bytes "Decimal") refl l) (λ l.
      by_test (is s "Datetime") (λ m. is-apart s (bytes "Datetime") refl m) (λ m.
      by_test (is s "Duration") (λ n. is-apart s (bytes "Duration") refl n) (λ n.
      let f = named-is T row s (was-found UnknownType (named_sort T s) row (rw (h, k, l, m, n) at e)) in
      named-apart s f.0 f.2 (sort-apart row f.0 f.1))))))

  free_shape : (a : ℕ) → ((t : Tree) (row : ℕ) → read_sort T a t ≡ Ok row → mentions t x ≡ false) →
      (t : Tree) (s : SortShape) → SortView t s → (row : ℕ) → sort_of T (λ u. read_sort T a u) s ≡ Ok row → mentions t x ≡ false
  unfolding kept kept_words any same_text
  free_shape a below _ _ (s_word {s = s}) row e = free_symbol s (word-apart s row e)
  free_shape a below _ _ s_width row e = free_index _
  free_shape a below _ _ (s_option {t = t}) row e = let w = went _ _ row e in free_one _ t (free_word (bytes "Option") refl) (below t w.got w.first)
  free_shape a below _ _ (s_set {t = t}) row e = let w = went _ _ row e in free_one _ t (free_word (bytes "Set") refl) (below t w.got w.first)
  free_shape a below _ _ s_none row e = refuses e

  free_sort : (a : ℕ) (t : Tree) (row : ℕ) → read_sort T a t ≡ Ok row → mentions t x ≡ false
  unfolding read_sort
  free_sort zero t row e = refuses e
  free_sort (suc a) t row e = free_shape a (λ u q. free_sort a u q) t (sort_shape t) (sort-view t) row e

  -- literals
  free_ext : (e : Ext) → mentions (symbol (ext_name e)) x ≡ false
  unfolding kept kept_words any same_text
  free_ext decimal = free_word (bytes "Decimal") refl
  free_ext datetime = free_word (bytes "Datetime") refl
  free_ext duration = free_word (bytes "Duration") refl

  free_unary : (op : UnaryOp) → mentions (symbol (unary_name op)) x ≡ false
  unfolding kept kept_words any same_text
  free_unary UnaryOp.Not = free_word (bytes "not") refl
  free_unary UnaryOp.Bvnego = free_word (bytes "bvnego") refl

  free_binary : (op : BinaryOp) → mentions (symbol (binary_name op)) x ≡ false
  unfolding kept kept_words any same_text
  free_binary BinaryOp.Or = free_word (bytes "or") refl
  free_binary BinaryOp.Equal = free_word (bytes "=") refl
  free_binary BinaryOp.Bvsaddo = free_word (bytes "bvsaddo") refl
  free_binary BinaryOp.Bvsmulo = free_word (bytes "bvsmulo") refl

  module _ (worked : Bool) (a : ℕ) (below : (e : Option ℕ) (t : Tree) (l : Lit) → read_with T worked a e t ≡ Ok l → mentions t x ≡ false) where
    free_fields : (fs : List ℕ) (us : Trees) (vs : Values) → FieldReadings worked T a fs us vs → mentions_any us x ≡ false
    free_fields _ _ _ f_nil = free_nil
    free_fields _ _ _ (f_cons {f = f} {fs = fs} {u = u} {us = us} {vs = vs} l e k h) = free_cons u us (below (Some f) u l e) (free_fields fs us vs h)

    free_reading : (e : Option ℕ) (t : Tree) (row : ℕ) (v : Value) → Reading worked T a e t row v → mentions t x ≡ false
    unfolding kept kept_words any same_text
    free_reading e _ _ _ (r-bits {w = w} {n = n} k) = free_bits w n
    free_reading e _ _ _ (r-string {s = s} k) = free_string s
    free_reading e _ _ _ (r_true k) = free_word (bytes "true") refl
    free_reading e _ _ _ (r_false k) = free_word (bytes "false") refl
    free_reading e _ _ _ (r-member {s = s} i m h k) = free_symbol s (member_apart s i h)
    free_reading e _ _ _ (r-none {t = t} {row = row} q h k) = free_two _ _ t (free_word (bytes "as") refl) (free_word (bytes "none") refl) (free_sort a t row h)
    free_reading e _ _ _ (r-as_some {t = t} {v = v} {row = row} l h k m) =
        free_app _ (free_cons _ _ (free_two _ _ t (free_word (bytes "as") refl) (free_word (bytes "some") refl) (free_sort a t row h)) (free_cons _ _ (below _ v l m) free_nil))
    free_reading e _ _ _ (r_some {v = v} o l h m k) = free_one _ v (free_word (bytes "some") refl) (below o v l m)
    free_reading e _ _ _ (r-empty {t = t} {row = row} q h k) = free_two _ _ t (free_word (bytes "as") refl) (free_word (bytes "set.empty") refl) (free_sort a t row h)
    free_reading e _ _ _ (r-singleton {v = v} o l h m k) = free_one _ v (free_word (bytes "set.singleton") refl) (below o v l m)
    free_reading e _ _ _ (r-union {v = v} {w = w} l m f g h y z) = free_two _ v w (free_word (bytes "set.union") refl) (below e v l f) (below e w m g)
    free_reading e _ _ _ (r-unary {v = v} op l h m y k) = free_one _ v (free_unary op) (below None v l m)
    free_reading e _ _ _ (r-binary {v = v} {w = w} op l m h f g y k) = free_two _ v w (free_binary op) (below None v l f) (below None w m g)
    free_reading e _ _ _ (r-ite {c = c} {v = v} {w = w} k l m h f g y z q) =
        free_app _ (free_cons _ _ (free_word (bytes "ite") refl) (free_cons _ _ (below None c k f) (free_cons _ _ (below e v l g) (free_cons _ _ (below e w m y) free_nil))))
    free_reading e _ _ _ (r-extension {x = y} {n = n} k) = free_one _ _ (free_ext y) (free_bits 64 n)
    free_reading e _ _ _ (r-indexed h f k) = free_index _
    free_reading e _ _ _ (r-entity {f = f} {s = s} {row = row} h k) = free_one f _ (free_symbol f (sort-apart row (entity_of f) k)) (free_string s)
    free_reading e _ _ _ (r_record {f = f} {us = us} {row = row} {vs = vs} fs h k g) =
        free_app _ (free_cons _ _ (free_symbol f (sort-apart row (record_of f fs) k)) (free_fields fs us vs g))

  pub free_read : (worked : Bool) (allow : ℕ) (e : Option ℕ) (t : Tree) (l : Lit) → read_with T worked allow e t ≡ Ok l → mentions t x ≡ false
  unfolding read_with
  free_read worked zero e t l m = refuses m
  free_read worked (suc a) e t l m = free_reading worked a (λ o u k h. free_read worked a o u k h) e t l.row l.value (reading T worked a e t l m)
