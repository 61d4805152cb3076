use native.Mathlib.Omega.{arith}
use mathlib.Core.Path.{refl, sym, ap, ◌∙◌}
use Prim.Native.Nat.{ℕ, ◌*◌}
use lib.ListN.{length}
use Rattle.words.specs.Extension.{extended}
use Rattle.brackets.specs.Token.{bits}
use Rattle.tokens.specs.Piece.{bits_of}
use Rattle.reader.proofs.Atoms.{no-fault, number-fine, number-left, bits-words, bits_fit}
use Rattle.reader.proofs.write.write_bits.Goals as goal

pub returns-in_default : goal.returns-in_default
returns-in_default c = let a = c.args in absurd (no-fault a.scan _ (λ n. bits (bits_of a.radix * length a.digits.now) (extended (bits_of a.radix * length a.digits.now) n)) a.nodes.now a.stack.now c.requires.1 _ (sym c.parse.ensures ∙ c.in_default.is))

pub overflow_mul-width : goal.overflow_mul-width
overflow_mul-width c = let a = c.args in omega (arith, bits_fit a.radix (length a.digits.now) c.digit_bits.result c.digit_bits.ensures c.requires.0)

pub write_node-requires : goal.write_node-requires
write_node-requires c = let a = c.args in number-fine a.scan _ (λ n. bits (bits_of a.radix * length a.digits.now) (extended (bits_of a.radix * length a.digits.now) n)) a.nodes.now a.stack.now c.requires.1 _ (sym c.parse.ensures ∙ c.in-Ok.is) _ (bits-words (bits_of a.radix * length a.digits.now) _ _ _ (ap (λ (b : ℕ). b * length a.digits.now) c.digit_bits.ensures) c.sign_extend-full.ensures) refl

pub returns : goal.returns
returns c = let a = c.args in number-left a.scan _ (λ n. bits (bits_of a.radix * length a.digits.now) (extended (bits_of a.radix * length a.digits.now) n)) a.nodes.now a.stack.now c.requires.1 _ (sym c.parse.ensures ∙ c.in-Ok.is) _ (bits-words (bits_of a.radix * length a.digits.now) _ _ _ (ap (λ (b : ℕ). b * length a.digits.now) c.digit_bits.ensures) c.sign_extend-full.ensures) refl _ _ c.write_node.ensures
