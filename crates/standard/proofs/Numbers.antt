-- Numerals, `#x` and `#b`: each is one token with its number.
-- Assumes nothing.
use Rattle.std.proofs.Common.{Ok, Result}
use mathlib.Core.Path.{◌≡◌, refl, sym, ap, ◌∙◌}
use mathlib.Core.Bool.{true, not, false≢true}
use mathlib.Core.List.{List, [], ◌∷◌, ◌++◌}
use Prim.Native.Nat.{ℕ, suc, ◌+◌, ◌*◌, ◌<◌, ◌^◌}
use native.Mathlib.Omega.{arith}
use lib.Dec.{eqb}
use lib.ListN.{length}
use lib.Seq.{take-append_seam, drop-append_seam}
use borrow.Author.Tests.{eqb-true, lt-ltb}
use Rattle.ground.proofs.Tests.{both_left, both_right}
use Rattle.words.specs.declared.digits.Radix.{Radix}
use Rattle.words.specs.declared.digits.Radix.TheVariants.{Binary, Decimal, Hexadecimal}
use Rattle.words.specs.Pair.{pair_of}
use Rattle.words.specs.Radix.{base_of, worth, is_digit}
use Rattle.words.specs.Run as Run
use Rattle.words.specs.Run.{some_byte, parsed}
use Rattle.words.specs.Extension.{extended}
use Rattle.words.proofs.Numbers.{value-pair}
use Rattle.lexicon.specs.Class.{class_of}
use Rattle.brackets.specs.Token.{Atom, bits, number, atom}
use Rattle.tokens.specs.declared.lexeme.Kind.TheVariants as K
use Rattle.tokens.specs.Lexeme.{lexeme, bit_vector, after_hash, whole}
use Rattle.tokens.specs.Piece.{Piece, token, from_parsed, bits_of, piece_of, more, emit, lex}
use Rattle.ground.specs.Lists.{all}
use Rattle.standard.specs.Bytes.{among, from, enders, binary_digits, decimal_digits, hexadecimal_digits}
use Rattle.standard.specs.Written.{run, is_numeral, ended}
use Rattle.standard.proofs.Runs.{pass, pass_all, span_run}
use Rattle.standard.proofs.Separators.{one_piece, at_class}
use Rattle.refusals.specs.declared.Refusal.{Refusal}
use Rattle.words.specs.declared.pair.Pair.{Pair}

-- a run of digits below 2^128 is a number
module _ (r : Radix) (ds : List ℕ) (nonzero : some_byte ds ≡ true) (each : all (is_digit r) ds ≡ true) (small : Run.number (base_of r) ds < 2 ^ 128) where
  parsed-is : parsed r ds ≡ Ok (pair_of (Run.number (base_of r) ds))
  unfolding parsed
  parsed-is = rw (nonzero, each, lt-ltb (Run.number (base_of r) ds) (2 ^ 128) small)

  from_is : (make : ℕ → Atom) → from_parsed (parsed r ds) make ≡ token (atom (make (Run.number (base_of r) ds)))
  from_is make =
      ap (λ (p : Result Pair Refusal). from_parsed p make) parsed-is ∙ ap (λ (n : ℕ). token (atom (make n))) (value-pair (Run.number (base_of r) ds))

-- no digit ends an atom
stop : (r : Radix) → all (λ b. not (is_digit r b)) enders ≡ true
unfolding all worth
stop Binary = refl
stop Decimal = refl
stop Hexadecimal = refl

decimals_are : all (is_digit Decimal) decimal_digits ≡ true
unfolding all from decimal_digits worth
decimals_are = refl

pub hexadecimals_are : all (is_digit Hexadecimal) hexadecimal_digits ≡ true
unfolding all from decimal_digits hexadecimal_digits worth
hexadecimals_are = refl

pub binaries_are : all (is_digit Binary) binary_digits ≡ true
unfolding all worth
binaries_are = refl

digit_class : (b : ℕ) → among decimal_digits b ≡ true → class_of b ≡ 6
unfolding all from decimal_digits class_of
digit_class b h = eqb-true (class_of b) 6 (pass (λ (c : ℕ). eqb (class_of c) 6) decimal_digits b refl h)

numeral-run : (ds : List ℕ) → is_numeral ds ≡ true → run decimal_digits ds ≡ true
unfolding all
numeral-run [] h = h
numeral-run (b ∷ []) h = rw h
numeral-run (b ∷ c ∷ cs) h = both_right (not (eqb b 0x30)) (all (among decimal_digits) (b ∷ c ∷ cs)) h

starts : (b : ℕ) (bs : List ℕ) → all (among decimal_digits) (b ∷ bs) ≡ true → among decimal_digits b ≡ true
unfolding all
starts b bs h = both_left (among decimal_digits b) (all (among decimal_digits) bs) h

decimal-run : (ds s : List ℕ) → run decimal_digits ds ≡ true → Run.number 10 ds < 2 ^ 128 → ended s ≡ true
    → lex (ds ++ s) ≡ more (atom (number (Run.number 10 ds))) (lex s)
decimal-run [] s h small e = absurd (false≢true h)
decimal-run (b ∷ bs) s h small e =
    let all : all (is_digit Decimal) (b ∷ bs) ≡ true = pass_all (is_digit Decimal) decimal_digits (b ∷ bs) decimals_are h in
    one_piece b (bs ++ s) s (whole K.Number (length (b ∷ bs)))
    (ap (whole K.Number) (sym (span_run (is_digit Decimal) (b ∷ bs) s all (stop Decimal) e)) ∙ at_class 6 b (bs ++ s) (digit_class b (starts b bs h)))
    (drop-append_seam (b ∷ bs) s)
    ∙ ap (λ (x : List ℕ). emit (piece_of K.Number x) (lex s)) (take-append_seam (b ∷ bs) s)
    ∙ ap (λ (p : Piece). emit p (lex s)) (from_is Decimal (b ∷ bs) refl all small (λ n. number n))

pub lex-numeral : (ds s : List ℕ) → is_numeral ds ≡ true → Run.number 10 ds < 2 ^ 128 → ended s ≡ true
    → lex (ds ++ s) ≡ more (atom (number (Run.number 10 ds))) (lex s)
lex-numeral ds s h small e = decimal-run ds s (numeral-run ds h) small e

-- after `#` and the letter of its radix
module _ (r : Radix) (m : ℕ) (allowed : List ℕ) (is : (t : List ℕ) → bit_vector r t ≡ after_hash (m ∷ t)) (are : all (is_digit r) allowed ≡ true) where
  lex-vector : (ds s : List ℕ) → run allowed ds ≡ true → Run.number (base_of r) ds < 2 ^ 128 → ended s ≡ true
      → lex (0x23 ∷ m ∷ (ds ++ s)) ≡ more (atom (bits (bits_of r * length ds) (extended (bits_of r * length ds) (Run.number (base_of r) ds)))) (lex s)
  unfolding class_of
  lex-vector [] s h small e = absurd (false≢true h)
  lex-vector (d ∷ ds) s h small e =
      let all : all (is_digit r) (d ∷ ds) ≡ true = pass_all (is_digit r) allowed (d ∷ ds) are h in
      let n : suc (suc (length (d ∷ ds))) ≡ 2 + length (d ∷ ds) = omega arith in
      one_piece 0x23 (m ∷ ((d ∷ ds) ++ s)) s (lexeme (K.Bits r) 2 (length (d ∷ ds)) (suc (suc (length (d ∷ ds)))))
      (ap (λ (k : ℕ). lexeme (K.Bits r) 2 (length (d ∷ ds)) k) n
      ∙ ap (λ (k : ℕ). lexeme (K.Bits r) 2 k (2 + k)) (sym (span_run (is_digit r) (d ∷ ds) s all (stop r) e))
      ∙ is ((d ∷ ds) ++ s) ∙ at_class 5 0x23 (m ∷ ((d ∷ ds) ++ s)) refl)
      (drop-append_seam (d ∷ ds) s)
      ∙ ap (λ (x : List ℕ). emit (piece_of (K.Bits r) x) (lex s)) (take-append_seam (d ∷ ds) s)
      ∙ ap (λ (p : Piece). emit p (lex s))
      (from_is r (d ∷ ds) refl all small (λ (k : ℕ). bits (bits_of r * length (d ∷ ds)) (extended (bits_of r * length (d ∷ ds)) k)))

pub lex-hexadecimal : (ds s : List ℕ) → run hexadecimal_digits ds ≡ true → Run.number 16 ds < 2 ^ 128 → ended s ≡ true
    → lex (0x23 ∷ 0x78 ∷ (ds ++ s)) ≡ more (atom (bits (4 * length ds) (extended (4 * length ds) (Run.number 16 ds)))) (lex s)
lex-hexadecimal ds s h small e = lex-vector Hexadecimal 0x78 hexadecimal_digits (λ t. refl) hexadecimals_are ds s h small e

pub lex-binary : (ds s : List ℕ) → run binary_digits ds ≡ true → Run.number 2 ds < 2 ^ 128 → ended s ≡ true
    → lex (0x23 ∷ 0x62 ∷ (ds ++ s)) ≡ more (atom (bits (1 * length ds) (extended (1 * length ds) (Run.number 2 ds)))) (lex s)
lex-binary ds s h small e = lex-vector Binary 0x62 binary_digits (λ t. refl) binaries_are ds s h small e
