-- What bytes start with, and where a separator cuts them.
-- Assumes nothing.
use Rattle.std.proofs.Common.{None, Option, Some}
use mathlib.Core.Path.{◌≡◌, refl, sym, ap, ap₂, ◌∙◌, subst}
use mathlib.Core.Bool.{Bool, true, false, ◌&&◌, true≢false}
use mathlib.Core.List.{List, [], ◌∷◌, ◌++◌}
use Prim.Native.Nat.{ℕ, suc, ◌+◌, ◌-◌, ◌≤◌, ◌<◌}
use native.Mathlib.Nat.{zero-add}
use native.Mathlib.Omega.{arith}
use lib.Dec.{eqb, leb, leb-suc-suc, leb-suc-zero, leb-zero}
use lib.ListN.{length, get_or, take, drop, length-drop, length-append, take-append-drop}
use lib.Seq.{take_at, drop-cons, length-take-le, drop-drop, take_all}
use borrow.Author.Tests.{eq-eqb, ne_eqb, eqb-true, lt-ltb, le-ltb, not-false}
use Rattle.ground.proofs.Tests.{by_test, and-false, by_order}
use Rattle.lexicon.specs.Span.{span_by}
use Rattle.ground.specs.Lists.{all}
use Rattle.lexicon.proofs.Spans.{span_next, span_end_le}
use Rattle.arena.specs.Text.{same_text, text_is}
use Rattle.tables_text.specs.Parse.{begins, apart, span_to, Cut, cut_at}

-- the arena's test of a text, at the front
pub begins-is : (key s : List ℕ) → text_is s 0 (length key) key ≡ begins key s
unfolding begins text_is same_text
begins-is [] s = ap (λ (t : Bool). t && true) (leb-zero (length s))
begins-is (k ∷ ks) [] = rw (zero-add (suc (length ks))) (rw (leb-suc-zero (length ks)) refl)
begins-is (k ∷ ks) (b ∷ bs) =
    rw (zero-add (suc (length ks)))
    (rw (leb-suc-suc (length ks) (length bs))
    (by_test (eqb b k)
    (λ e. rw e (rw (← begins-is ks bs) (rw (zero-add (length ks)))))
    (λ e. rw e (and-false (leb (length ks) (length bs))))))

pub begins-key : (key s : List ℕ) → begins key (key ++ s) ≡ true
unfolding begins
begins-key [] s = refl
begins-key (k ∷ ks) s = rw (eq-eqb k k refl) (begins-key ks s)

pub begins-split : (key s : List ℕ) → begins key s ≡ true → s ≡ key ++ drop (length key) s
unfolding begins
begins-split [] s h = refl
begins-split (k ∷ ks) [] h = absurd (true≢false (sym h))
begins-split (k ∷ ks) (b ∷ bs) h =
    by_test (eqb b k)
    (λ e. ap₂ (λ (x : ℕ) (y : List ℕ). x ∷ y) (eqb-true b k e) (begins-split ks bs (ap (λ (t : Bool). t && begins ks bs) (sym e) ∙ h)))
    (λ e. absurd (true≢false (sym h ∙ ap (λ (t : Bool). t && begins ks bs) e)))

pub begins-long : (key s : List ℕ) → begins key s ≡ true → length key ≤ length s
begins-long key s h = let e = ap length (begins-split key s h) in let l = length-append key (drop (length key) s) in omega arith

-- what the code's own test of a byte says
pub stays : (b byte : ℕ) → (b ≡ byte → ⊥) → apart byte b ≡ true
stays b byte h = rw (ne_eqb b byte h)

pub parts : (b byte : ℕ) → b ≡ byte → apart byte b ≡ false
parts b byte h = rw (eq-eqb b byte h)

-- no byte is the separator
abbrev pub clear : ℕ → List ℕ → Bool
clear byte s = all (apart byte) s

module _ (byte : ℕ) where
  pub span_clear : (w s : List ℕ) → clear byte w ≡ true → span_to byte (w ++ byte ∷ s) ≡ length w
  unfolding span_by all
  span_clear [] s h = rw (eq-eqb byte byte refl)
  span_clear (b ∷ bs) s h =
      by_test (apart byte b)
      (λ e. rw e (ap suc (span_clear bs s (ap (λ (t : Bool). t && clear byte bs) (sym e) ∙ h))))
      (λ e. absurd (true≢false (sym h ∙ ap (λ (t : Bool). t && clear byte bs) e)))

  pub span_whole : (w : List ℕ) → clear byte w ≡ true → span_to byte w ≡ length w
  unfolding span_by all
  span_whole [] h = refl
  span_whole (b ∷ bs) h =
      by_test (apart byte b)
      (λ e. rw e (ap suc (span_whole bs (ap (λ (t : Bool). t && clear byte bs) (sym e) ∙ h))))
      (λ e. absurd (true≢false (sym h ∙ ap (λ (t : Bool). t && clear byte bs) e)))

  module _ (s : List ℕ) where
    pub cut_found : span_to byte s < length s → cut_at byte s ≡ Some (record { word = take (span_to byte s) s; rest = drop (suc (span_to byte s)) s })
    unfolding cut_at
    cut_found h = rw (lt-ltb (span_to byte s) (length s) h)

    pub cut_none : length s ≤ span_to byte s → cut_at byte s ≡ None
    unfolding cut_at
    cut_none h = rw (le-ltb (span_to byte s) (length s) h)

    -- the separator stands where the run ends
    pub cut_joins : span_to byte s < length s → s ≡ take (span_to byte s) s ++ byte ∷ drop (suc (span_to byte s)) s
    cut_joins h =
        let e : get_or s (span_to byte s) 0 ≡ byte = eqb-true (get_or s (span_to byte s) 0) byte (not-false (eqb (get_or s (span_to byte s) 0) byte) (span_next (apart byte) s h)) in
        sym (take-append-drop (span_to byte s) s)
        ∙ ap (λ (l : List ℕ). take (span_to byte s) s ++ l) (drop-cons s (span_to byte s) 0 h ∙ ap (λ (b : ℕ). b ∷ drop (suc (span_to byte s)) s) e)

    pub cut_split : (c : Cut) → cut_at byte s ≡ Some c → s ≡ c.word ++ byte ∷ c.rest
    cut_split c h =
        by_order (span_to byte s) (length s)
        (λ l. subst (λ (d : Cut). s ≡ d.word ++ byte ∷ d.rest) (some_same (sym (cut_found l) ∙ h)) (cut_joins l))
        (λ l. let z : None ≡ Some c = sym (cut_none l) ∙ h in let y : ◌≡◌ {A = ℕ} 0 1 = cc in absurd (omega arith))
      where
        some_same : {c d : Cut} → ◌≡◌ {A = Option Cut} (Some c) (Some d) → c ≡ d
        some_same q = cc

  pub cut_clear : (w s : List ℕ) → clear byte w ≡ true → cut_at byte (w ++ byte ∷ s) ≡ Some (record { word = w; rest = s })
  cut_clear w s h =
      let n = span_clear w s h in
      let l = length-append w (byte ∷ s) in
      cut_found (w ++ byte ∷ s) (omega arith)
      ∙ ap₂ (λ (x y : List ℕ). Some (record { word = x; rest = y }))
      (ap (λ (k : ℕ). take k (w ++ byte ∷ s)) n ∙ take_at w (byte ∷ s) (length w) refl)
      (ap (λ (k : ℕ). drop (suc k) (w ++ byte ∷ s)) n ∙ drop_past w s)
    where
      drop_past : (w s : List ℕ) → drop (suc (length w)) (w ++ byte ∷ s) ≡ s
      drop_past [] s = refl
      drop_past (b ∷ bs) s = drop_past bs s

-- a separator looked for from a place on
module _ (byte : ℕ) (s : List ℕ) (start end : ℕ) (le : start ≤ length s) (e : end ≡ start + span_to byte (drop start s)) where
  pub end_le : end ≤ length s
  end_le = omega (arith, e, span_end_le (apart byte) s start le)

  pub word-long : length (take (end - start) (drop start s)) ≡ end - start
  word-long = length-take-le (end - start) (drop start s) (omega (arith, end_le, length-drop start s, e))

  pub place_none : length s ≤ end → cut_at byte (drop start s) ≡ None
  place_none h = cut_none byte (drop start s) (omega (arith, e, length-drop start s))

  pub place-some : end < length s → cut_at byte (drop start s) ≡ Some (record { word = take (end - start) (drop start s); rest = drop (end + 1) s })
  place-some h =
      let n : span_to byte (drop start s) ≡ end - start = omega (arith, e) in
      let m : start + suc (span_to byte (drop start s)) ≡ end + 1 = omega (arith, e) in
      cut_found byte (drop start s) (omega (arith, e, length-drop start s))
      ∙ ap₂ (λ (x y : List ℕ). Some (record { word = x; rest = y }))
      (ap (λ (k : ℕ). take k (drop start s)) n)
      (drop-drop (suc (span_to byte (drop start s))) start s ∙ ap (λ (k : ℕ). drop k s) m)

pub to_end : (s : List ℕ) (k : ℕ) → take (length s - k) (drop k s) ≡ drop k s
to_end s k = take_all (length s - k) (drop k s) (omega (arith, length-drop k s))
