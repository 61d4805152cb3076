-- A string walked character by character: what is left of it, and what is left of its text.
-- Assumes nothing.
use Rattle.std.proofs.Common.{None, Some}
use mathlib.Core.Path.{◌≡◌, refl, sym, ap, ◌∙◌, subst}
use mathlib.Core.Bool.{true, false, not, ◌||◌}
use mathlib.Core.List.{List, [], ◌∷◌, ◌++◌, append_assoc, append-nil}
use Prim.Native.Nat.{ℕ, zero, suc, ◌+◌, ◌*◌, ◌≤◌, ◌<◌}
use native.Mathlib.Omega.{arith}
use lib.ListN.{length, get_or, take, drop, length-append, length-drop, drop_of_length-le, take-append-drop}
use lib.Seq.{drop-drop}
use Rattle.ground.proofs.Lists.{at_place}
use Rattle.ground.proofs.Tests.{by_test}
use Rattle.lent.specs.Left.{onto}
use Rattle.lent.specs.Put.{Puts, Fronts}
use Rattle.lent.proofs.Pieces.{piece-long, piece-front, piece-behind}
use Rattle.utf8.specs.declared.Encoded.{Encoded}
use Rattle.utf8.specs.Encoding.{scalar, encoded, bytes_of}
use Rattle.utf8.proofs.Encodings.{no_bytes}
use Rattle.strings.specs.declared.character.Character.{Character}
use Rattle.strings.specs.Points.{character_at, points_after, points}
use Rattle.strings.specs.Text.{encodings, text, any_surrogate, measured}
use Rattle.strings.proofs.Sizes.{Measures, character-measures}

pub points_skip : (k : ℕ) (s : List ℕ) → points_after k s ≡ points (drop k s)
unfolding points_after
points_skip zero [] = refl
points_skip (suc k) [] = refl
points_skip zero (b ∷ bs) = refl
points_skip (suc k) (b ∷ bs) = points_skip k bs

points-cons : (b : ℕ) (bs : List ℕ) → points (b ∷ bs) ≡ (character_at (b ∷ bs)).point ∷ points (drop (character_at (b ∷ bs)).more bs)
unfolding points_after
points-cons b bs = ap (λ (l : List ℕ). (character_at (b ∷ bs)).point ∷ l) (points_skip (character_at (b ∷ bs)).more bs)

encodings-cons : (p : ℕ) (ps : List ℕ) → encodings (p ∷ ps) ≡ bytes_of (encoded p) ++ encodings ps
unfolding encodings
encodings-cons p ps = refl

-- one character, found by the code
module _ (s : List ℕ) (at : ℕ) (c : Character) (less : at < length s) (is : c ≡ character_at (drop at s)) where
  pub points-at : points (drop at s) ≡ c.point ∷ points (drop (at + 1 + c.more) s)
  points-at =
      ap points (at_place s at less) ∙ points-cons (get_or s at 0) (drop (at + 1) s)
      ∙ ap (λ (x : Character). x.point ∷ points (drop x.more (drop (at + 1) s))) (ap character_at (sym (at_place s at less)) ∙ sym is)
      ∙ ap (λ (l : List ℕ). c.point ∷ points l) (drop-drop c.more (at + 1) s)

  module _ (byte : get_or s at 0 < 256) where
    measures : Measures (drop (at + 1) s) c
    measures =
        subst (Measures (drop (at + 1) s)) (ap character_at (sym (at_place s at less)) ∙ sym is) (character-measures (get_or s at 0) (drop (at + 1) s) byte)

    pub next-inside : at + 1 + c.more ≤ length s
    next-inside = omega (arith, measures.inside, length-drop (at + 1) s)

    pub size_small : length (bytes_of (encoded c.point)) ≤ 2 * (1 + c.more)
    size_small = measures.small

-- the first pass
pub record Measuring (s : List ℕ) (n at : ℕ) : Type 0 where
  pub within : at ≤ length s
  pub most : n ≤ 2 * at
  pub sum : n + length (encodings (points (drop at s))) ≡ length (text s)
  pub clean : any_surrogate (points (drop at s)) ≡ any_surrogate (points s)

pub measuring_start : (s : List ℕ) → Measuring s 0 0
unfolding text
measuring_start s = record { within = omega arith; most = omega arith; sum = omega arith; clean = refl }

surrogate-cons : (p : ℕ) (ps : List ℕ) → any_surrogate (p ∷ ps) ≡ (not (scalar p) || any_surrogate ps)
unfolding any_surrogate
surrogate-cons p ps = refl

module _ (s : List ℕ) (n at : ℕ) (so : Measuring s n at) (c : Character) (less : at < length s) (is : c ≡ character_at (drop at s)) (size : ℕ) (of : size ≡ length (bytes_of (encoded c.point))) where
  clean_at : (not (scalar c.point) || any_surrogate (points (drop (at + 1 + c.more) s))) ≡ any_surrogate (points s)
  clean_at =
      sym (surrogate-cons c.point (points (drop (at + 1 + c.more) s))) ∙ ap any_surrogate (sym (points-at s at c less is)) ∙ so.clean

  pub measuring_surrogate : size ≡ 0 → None ≡ measured s
  unfolding measured
  measuring_surrogate z =
      let t : any_surrogate (points s) ≡ true = sym clean_at ∙ (rw ((no_bytes c.point).0 (sym of ∙ z))) in
      rw t

  module _ (nonzero : size ≡ 0 → ⊥) (byte : get_or s at 0 < 256) where
    is-scalar : scalar c.point ≡ true
    is-scalar = by_test (scalar c.point) (λ t. t) (λ t. absurd (nonzero (of ∙ (no_bytes c.point).1 t)))

    left : length (encodings (points (drop at s))) ≡ size + length (encodings (points (drop (at + 1 + c.more) s)))
    left =
        ap (λ (l : List ℕ). length (encodings l)) (points-at s at c less is)
        ∙ ap length (encodings-cons c.point (points (drop (at + 1 + c.more) s)))
        ∙ length-append (bytes_of (encoded c.point)) (encodings (points (drop (at + 1 + c.more) s)))
        ∙ ap (λ (k : ℕ). k + length (encodings (points (drop (at + 1 + c.more) s)))) (sym of)

    pub measuring_most : n + size ≤ 2 * (at + 1 + c.more)
    measuring_most = omega (arith, so.most, size_small s at c less is byte)

    pub measuring_step : Measuring s (n + size) (at + 1 + c.more)
    measuring_step = record {
      within = next-inside s at c less is byte;
      most = measuring_most;
      sum = omega (arith, so.sum, left);
      clean = sym (rw is-scalar) ∙ clean_at;
    }

pub measuring_end : (s : List ℕ) (n at : ℕ) → Measuring s n at → length s ≤ at → Some n ≡ measured s
unfolding measured any_surrogate encodings points_after
measuring_end s n at so past =
    let d : drop at s ≡ [] = drop_of_length-le s past in
    let t : any_surrogate (points s) ≡ false = sym so.clean ∙ ap (λ (l : List ℕ). any_surrogate (points l)) d in
    let z : length (encodings (points (drop at s))) ≡ 0 = ap (λ (l : List ℕ). length (encodings (points l))) d in
    let e : n ≡ length (text s) = omega (arith, so.sum) in
    rw t (ap Some e)

-- the second pass: what stands so far and the text that is left make up the text, and nothing behind it has changed
pub record Writing (s entry : List ℕ) (to at : ℕ) (out : List ℕ) : Type 0 where
  pub within : at ≤ length s
  pub room : length (text s) ≤ length entry
  pub sum : to + length (encodings (points (drop at s))) ≡ length (text s)
  pub long : length out ≡ length entry
  pub front : take to out ++ encodings (points (drop at s)) ≡ text s
  pub behind : drop (length (text s)) out ≡ drop (length (text s)) entry

pub writing_start : (s entry : List ℕ) → length (text s) ≤ length entry → Writing s entry 0 0 entry
unfolding text
writing_start s entry h = record { within = omega arith; room = h; sum = omega arith; long = refl; front = refl; behind = refl }

module _ (s entry : List ℕ) (to at : ℕ) (out : List ℕ) (so : Writing s entry to at out) (c : Character) (less : at < length s) (is : c ≡ character_at (drop at s)) (e : Encoded) (of : e ≡ encoded c.point) where
  next : List ℕ
  next = encodings (points (drop (at + 1 + c.more) s))

  opened : encodings (points (drop at s)) ≡ bytes_of e ++ next
  unfolding next
  opened =
      ap encodings (points-at s at c less is) ∙ encodings-cons c.point (points (drop (at + 1 + c.more) s))
      ∙ ap (λ (x : Encoded). bytes_of x ++ encodings (points (drop (at + 1 + c.more) s))) (sym of)

  opened-length : length (encodings (points (drop at s))) ≡ length (bytes_of e) + length next
  opened-length = ap length opened ∙ length-append (bytes_of e) next

  pub writing-fits : to + length (bytes_of e) ≤ length out
  writing-fits = omega (arith, so.sum, so.room, so.long, opened-length)

  pub writing_step : get_or s at 0 < 256 → (n : ℕ) (x : List ℕ) → Puts out x to (bytes_of e) n → Writing s entry n (at + 1 + c.more) x
  unfolding next
  writing_step byte n x p = record {
    within = next-inside s at c less is byte;
    room = so.room;
    sum = omega (arith, so.sum, opened-length, p.after);
    long = piece-long p ∙ so.long;
    front =
        ap (λ (l : List ℕ). l ++ next) (piece-front p (subst (λ (k : ℕ). k ≤ length out) (sym p.after) writing-fits))
        ∙ append_assoc (take to out) (bytes_of e) next ∙ ap (λ (l : List ℕ). take to out ++ l) (sym opened) ∙ so.front;
    behind = piece-behind p (length (text s)) (omega (arith, so.sum, opened-length, p.after)) ∙ so.behind;
  }

pub writing-end : (s entry : List ℕ) (to at : ℕ) (out : List ℕ) → Writing s entry to at out → length s ≤ at → Fronts (text s) entry out to
unfolding onto encodings points_after
writing-end s entry to at out so past =
    let d : encodings (points (drop at s)) ≡ [] = ap (λ (l : List ℕ). encodings (points l)) (drop_of_length-le s past) in
    let z : length (encodings (points (drop at s))) ≡ 0 = ap length d in
    let e : to ≡ length (text s) = omega (arith, so.sum) in
    let f : take to out ≡ text s = sym (append-nil (take to out)) ∙ ap (λ (l : List ℕ). take to out ++ l) (sym d) ∙ so.front in
    record {
      long = e;
      holds = sym (take-append-drop to out) ∙ ap (λ (l : List ℕ). l ++ drop to out) f
          ∙ ap (λ (l : List ℕ). text s ++ l) (ap (λ (k : ℕ). drop k out) e ∙ so.behind);
    }
