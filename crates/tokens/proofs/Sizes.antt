-- The size of a piece, by its kind.
-- Assumes nothing.
use Rattle.std.proofs.Common.{Err, None, Ok, Option, Result, Some}
use mathlib.Core.Path.{◌≡◌, refl, sym, ap, ◌∙◌}
use mathlib.Core.Bool.{Bool, true, false}
use mathlib.Core.List.{List, []}
use Prim.Native.Nat.{ℕ}
use native.Mathlib.Omega.{arith}
use lib.ListN.{length}
use Rattle.std.specs.Option.{ok_or}
use Rattle.ground.proofs.Tests.{by_test}
use Rattle.refusals.specs.declared.Refusal.TheVariants.{Utf8Error, StringParseError}
use Rattle.words.specs.declared.digits.Radix.{Radix}
use Rattle.words.specs.declared.digits.Radix.TheVariants.{Decimal}
use Rattle.words.specs.Run.{parsed}
use Rattle.utf8.specs.Octets.{utf8}
use Rattle.strings.specs.Points.{points}
use Rattle.strings.specs.Text.{text, any_surrogate, measured}
use Rattle.brackets.specs.Token.{Atom, atom_text}
use Rattle.tokens.specs.declared.lexeme.Kind.{Kind}
use Rattle.tokens.specs.declared.lexeme.Kind.TheVariants as K
use Rattle.tokens.specs.Piece.{from_parsed, piece_of, sized_of, sized_number, sized_string, sized_name}
use Rattle.refusals.specs.declared.Refusal.{Refusal}
use Rattle.words.specs.declared.pair.Pair.{Pair}

number-sized : (p : Result Pair Refusal) (make : ℕ → Atom) → ((n : ℕ) → atom_text (make n) ≡ []) → sized_number p ≡ sized_of (from_parsed p make)
number-sized (Ok p) make h = sym (ap (λ (l : List ℕ). Ok (length l)) (h _))
number-sized (Err why) make h = refl

module _ (x : List ℕ) where
  pub size-bits : {k : Kind} {r : Result ℕ Refusal} (d : Radix) → r ≡ sized_number (parsed d x) → k ≡ K.Bits d → r ≡ sized_of (piece_of k x)
  size-bits {k} d q e = q ∙ number-sized (parsed d x) _ (λ n. refl) ∙ sym (ap (λ (y : Kind). sized_of (piece_of y x)) e)

  pub size_number : {k : Kind} {r : Result ℕ Refusal} → r ≡ sized_number (parsed Decimal x) → k ≡ K.Number → r ≡ sized_of (piece_of k x)
  size_number {k} q e = q ∙ number-sized (parsed Decimal x) _ (λ n. refl) ∙ sym (ap (λ (y : Kind). sized_of (piece_of y x)) e)

  string-sized : sized_string x ≡ sized_of (piece_of K.Quoted x)
  string-sized = by_test (any_surrogate (points x)) (λ t. rw t) (λ t. rw t)

  pub size-quoted : {k : Kind} {r : Result ℕ Refusal} → r ≡ sized_string x → k ≡ K.Quoted → r ≡ sized_of (piece_of k x)
  size-quoted {k} q e = q ∙ string-sized ∙ sym (ap (λ (y : Kind). sized_of (piece_of y x)) e)

  name-sized : sized_name x ≡ sized_of (piece_of K.Name x)
  name-sized = by_test (utf8 x) (λ t. rw t) (λ t. rw t)

  pub size-name : {k : Kind} {r : Result ℕ Refusal} → r ≡ sized_name x → k ≡ K.Name → r ≡ sized_of (piece_of k x)
  size-name {k} q e = q ∙ name-sized ∙ sym (ap (λ (y : Kind). sized_of (piece_of y x)) e)

  measured-text : (n : ℕ) → measured x ≡ Some n → Ok n ≡ sized_string x
  unfolding measured
  measured-text n e =
      by_test (any_surrogate (points x))
      (λ t. let f : measured x ≡ None = rw t in let z : ◌≡◌ {A = ℕ} 0 1 = cc in absurd (omega arith))
      (λ t. let f : measured x ≡ Some (length (text x)) = rw t in let m : n ≡ length (text x) = cc in rw t (ap Ok m))

  pub sized-text : {m : Option ℕ} (n : ℕ) → m ≡ measured x → m ≡ Some n → Ok n ≡ sized_string x
  sized-text n q e = measured-text n (sym q ∙ e)

  pub sized-surrogate : {m : Option ℕ} → m ≡ measured x → m ≡ None → Err StringParseError ≡ sized_string x
  unfolding measured
  sized-surrogate q e =
      let s : measured x ≡ None = sym q ∙ e in
      by_test (any_surrogate (points x)) (λ t. rw t)
      (λ t. let f : measured x ≡ Some (length (text x)) = rw t in let z : ◌≡◌ {A = ℕ} 0 1 = cc in absurd (omega arith))

  pub named : {b : Bool} → b ≡ utf8 x → b ≡ true → Ok (length x) ≡ sized_name x
  named q e = sym (rw (sym q ∙ e))

  pub unnamed : {b : Bool} → b ≡ utf8 x → b ≡ false → Err Utf8Error ≡ sized_name x
  unnamed q e = sym (rw (sym q ∙ e))

  pub sized-asked : {m : Option ℕ} → m ≡ measured x → ok_or m StringParseError ≡ sized_string x
  sized-asked {m = Some n} q = sized-text n q refl
  sized-asked {m = None} q = sized-surrogate q refl
