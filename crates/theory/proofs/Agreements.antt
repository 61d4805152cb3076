-- The text of a literal: `strings` and the theory agree but for the departures that `specs/Agreement.antt` names.
-- Assumes nothing.
use mathlib.Core.Path.{◌≡◌, refl, sym, ap, ◌∙◌}
use mathlib.Core.Bool.{true, true≢false}
use mathlib.Core.List.{List, [], ◌∷◌}
use Prim.Native.Nat.{ℕ, zero, suc}
use Rattle.ground.proofs.Tests.{both_left, both_right}
use Rattle.strings.specs.Points.{character_at, points_after, points}
use Rattle.strings.specs.Text.{encodings, text, any_surrogate}
use Rattle.theory.specs.Literal.{quote, Literal, empty, byte, doubled, unquoted}
use Rattle.theory.specs.Theory.{is_hex, Place, escapes, number_by, spelled_by, characters_by, characters}
use Rattle.theory.specs.Agreement.{six_digits, absent, nowhere, no_six_digits, no_surrogate, LiteralText}
use Rattle.theory.proofs.Forms.{by_form, all}
use Rattle.theory.proofs.Quotes.{quoteless, Clear, clear_none, same-spelled, clear-more}
use Rattle.theory.proofs.Sizes.{characters-small, surrogates}
use Rattle.theory.proofs.Places.{forms, spelled_at}

forms-quoteless : all quoteless forms ≡ true
unfolding is_hex
forms-quoteless = refl

quote-spelled : (bs : List ℕ) → spelled_by forms quote bs ≡ record { character = quote; more = 0 }
unfolding spelled_by number_by
quote-spelled bs = refl

two_quotes : (bs : List ℕ) → character_at (quote ∷ quote ∷ bs) ≡ record { point = quote; more = 1 }
unfolding character_at
two_quotes bs = refl

-- k more bytes belong to the character before, and none of them is a quote
agree : {s : List ℕ} → Literal s → (k : ℕ) → Clear k s → points_after k s ≡ characters_by forms k (unquoted s)
unfolding points_after characters_by unquoted
agree empty k c = refl
agree (doubled {s} l) zero c = rw (two_quotes s, quote-spelled (unquoted s)) (ap (λ (t : List ℕ). quote ∷ t) (agree l 0 (clear_none s)))
agree (doubled l) (suc k) c = absurd (true≢false c.0)
agree (byte h q l) (suc k) c = rw q (agree l k c.1)
agree (byte {b} {s} h q l) zero c =
    rw (q, same-spelled forms forms-quoteless q (byte h q l), ← spelled_at b s q)
    (ap (λ (t : List ℕ). (spelled_by forms b s).character ∷ t) (agree l (spelled_by forms b s).more (clear-more forms forms-quoteless b s)))

-- a form that the bytes start with at no place changes nothing
module _ (f : List Place) (fs : List (List Place)) where
  passed : (b : ℕ) (bs : List ℕ) → absent (number_by f 0 (b ∷ bs)) ≡ true → spelled_by (f ∷ fs) b bs ≡ spelled_by fs b bs
  passed b bs h =
      by_form (λ c. c ≡ spelled_by fs b bs) f fs b bs
      (λ x e. absurd (true≢false (sym h ∙ ap absent e)))
      (λ e. refl)

  form-nowhere : (k : ℕ) (s : List ℕ) → nowhere f s ≡ true → characters_by (f ∷ fs) k s ≡ characters_by fs k s
  unfolding characters_by nowhere
  form-nowhere k [] h = refl
  form-nowhere (suc k) (b ∷ bs) h = form-nowhere k bs (both_right (absent (number_by f 0 (b ∷ bs))) (nowhere f bs) h)
  form-nowhere zero (b ∷ bs) h =
      rw (passed b bs (both_left (absent (number_by f 0 (b ∷ bs))) (nowhere f bs) h))
      (ap (λ (t : List ℕ). (spelled_by fs b bs).character ∷ t)
      (form-nowhere (spelled_by fs b bs).more bs (both_right (absent (number_by f 0 (b ∷ bs))) (nowhere f bs) h)))

pub literal-text : (s : List ℕ) → Literal s → LiteralText s
unfolding no_six_digits no_surrogate characters text
literal-text s l = record {
  seven-forms = seven;
  same-characters = same;
  same_text = λ h. ap encodings (same h);
  refused = λ h. ap any_surrogate (same h) ∙ surrogates (characters (unquoted s)) (characters-small l);
}
  where
    seven : points s ≡ characters_by forms 0 (unquoted s)
    seven = agree l 0 (clear_none s)

    same : no_six_digits s ≡ true → points s ≡ characters (unquoted s)
    same h = seven ∙ form-nowhere six_digits escapes 0 (unquoted s) h
