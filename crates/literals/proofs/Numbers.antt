-- (_ bvN W): what each width makes of N.
-- Assumes nothing.
use Rattle.std.proofs.Common.{Err, Ok, Result}
use mathlib.Core.Path.{◌≡◌, sym, ap, ◌∙◌, subst}
use mathlib.Core.Bool.{true, false}
use mathlib.Core.List.{List}
use Prim.Native.Nat.{ℕ, ◌+◌, ◌*◌, ◌^◌, ◌<◌, ◌≤◌}
use native.Mathlib.Omega.{arith}
use lib.Dec.{leb}
use borrow.Author.Tests.{lt-ltb, le-ltb}
use Rattle.refusals.specs.declared.Refusal.{Refusal}
use Rattle.refusals.specs.declared.Refusal.TheVariants.{IntegerOverflow, ZeroWidthBitVec}
use Rattle.words.specs.declared.digits.Radix.{Radix}
use Rattle.words.specs.declared.pair.Pair.{Pair}
use Rattle.words.specs.Pair.{value}
use Rattle.words.specs.Run.{parsed}
use Rattle.tables.specs.Layout.{Lent, tables_of}
use Rattle.sorts.specs.Result.{◌>>=◌, unless}
use Rattle.means.specs.Literal.{unsigned, numbered, width_lit}
use Rattle.literals.specs.Answer.{answer}
use Rattle.literals.specs.Parts.{BitsOf, WidthOf, IndexedOf}
use Rattle.literals.specs.declared.answer.Literal.{Literal}

module _ (sorts : List ℕ) (n low high : ℕ) where
  abbrev AtWidth : Result Literal Refusal → Type 0
  AtWidth r = WidthOf sorts n (low + high * 2 ^ 64) r

  pub width-over : 2 ^ 32 ≤ low + high * 2 ^ 64 → AtWidth (Err IntegerOverflow)
  unfolding unless
  width-over h l s = rw (le-ltb (low + high * 2 ^ 64) (2 ^ 32) h)

  module _ (h : high ≡ 0) where
    pub width-zero : low ≡ 0 → AtWidth (Err ZeroWidthBitVec)
    unfolding unless
    width-zero z l s =
        let g : low + high * 2 ^ 64 < 2 ^ 32 = omega arith in
        let m : low + high * 2 ^ 64 ≤ 0 = omega arith in
        rw (lt-ltb (low + high * 2 ^ 64) (2 ^ 32) g, le-ltb 0 (low + high * 2 ^ 64) m)

    module _ (m : low < 2 ^ 32) (z : low ≡ 0 → ⊥) where
      -- one word is the whole width
      one_word : (r : Result Literal Refusal) → WidthOf sorts n low r → AtWidth r
      one_word r k l s = let e : low ≡ low + high * 2 ^ 64 = omega arith in subst (λ (w : ℕ). r ≡ answer (width_lit (tables_of l) n w)) e (k l s)

      pub width-short : low < 128 → leb (2 ^ low) n ≡ true → AtWidth (Err IntegerOverflow)
      unfolding unless
      width-short g e = one_word (Err IntegerOverflow) (λ l s.
          let p : 0 < low = omega arith in
          rw (lt-ltb low (2 ^ 32) m, lt-ltb 0 low p, lt-ltb low 128 g, e))

      pub width-whole : 128 ≤ low → (r : Result Literal Refusal) → BitsOf sorts low r → AtWidth r
      unfolding unless
      width-whole g r k = one_word r (λ l s.
          let p : 0 < low = omega arith in
          rw (lt-ltb low (2 ^ 32) m, lt-ltb 0 low p, le-ltb low 128 g) (k l s n))

      pub width_fits : low < 128 → leb (2 ^ low) n ≡ false → (r : Result Literal Refusal) → BitsOf sorts low r → AtWidth r
      unfolding unless
      width_fits g e r k = one_word r (λ l s.
          let p : 0 < low = omega arith in
          rw (lt-ltb low (2 ^ 32) m, lt-ltb 0 low p, lt-ltb low 128 g, e) (k l s n))

module _ (sorts digits : List ℕ) (width : ℕ) (p : Result Pair Refusal) (e : p ≡ parsed Radix.Decimal (unsigned digits)) where
  abbrev reading : Lent → Result Pair Refusal → Result Literal Refusal
  reading l q = answer (numbered q >>= λ n. width_lit (tables_of l) n width)

  pub indexed-number : (number : Pair) → p ≡ Ok number → (r : Result Literal Refusal) → WidthOf sorts (value number) width r → IndexedOf sorts digits width r
  unfolding ◌>>=◌
  indexed-number number f r k l s = k l s ∙ ap (λ (q : Result Pair Refusal). reading l q) (sym f ∙ e)

  pub indexed-refused : (z : Refusal) → p ≡ Err z → IndexedOf sorts digits width (Err z)
  unfolding ◌>>=◌
  indexed-refused z f l s = ap (λ (q : Result Pair Refusal). reading l q) (sym f ∙ e)
