-- A run of digits, below a base.
-- Assumes nothing.
use mathlib.Core.Path.{◌≡◌, refl, ap, subst}
use mathlib.Core.Bool.{Bool}
use mathlib.Core.List.{List}
use Prim.Native.Nat.{ℕ, ◌+◌, ◌-◌, ◌≤◌, ◌<◌}
use native.Mathlib.Omega.{arith}
use lib.Dec.{ltb}
use lib.ListN.{length, get_or, drop, length-drop}
use borrow.Author.Tests.{lt-ltb, le-ltb}
use Rattle.words.specs.declared.digits.Radix.{Radix}
use Rattle.words.specs.Radix.{base_of, worth}
use Rattle.lexicon.specs.Span.{span_by}
use Rattle.lexicon.proofs.Spans.{span_le, span_goes, span_stops, span_ends}
use Rattle.tokens.specs.declared.lexeme.Kind.TheVariants.{Bits}
use Rattle.tokens.specs.Lexeme.{lexeme, run_span, bit_vector}

abbrev pub under : ℕ → ℕ → Bool
under base b = ltb (worth b) base

pub record Running (s : List ℕ) (start base at : ℕ) : Type 0 where
  pub within : at ≤ length s
  pub same : start + span_by (under base) (drop start s) ≡ at + span_by (under base) (drop at s)

pub running_start : (s : List ℕ) (start base : ℕ) → start ≤ length s → Running s start base start
running_start s start base h = record { within = h; same = refl }

module _ (s : List ℕ) (start base at : ℕ) (so : Running s start base at) (r : Radix) (of : base ≡ base_of r) where
  by_radix : at ≡ start + span_by (under base) (drop start s) → at ≡ start + run_span r (drop start s)
  by_radix q = subst (λ (x : ℕ). at ≡ start + span_by (under x) (drop start s)) of q

  pub running_ends : length s ≤ at → at ≡ start + run_span r (drop start s)
  running_ends h = by_radix (span_ends (under base) s at _ so.same h)

  module _ (less : at < length s) (d : ℕ) (is : d ≡ worth (get_or s at 0)) where
    pub running_stops : base ≤ d → at ≡ start + run_span r (drop start s)
    running_stops h = by_radix (span_stops (under base) s at _ so.same less (le-ltb (worth (get_or s at 0)) base (omega arith)))

    pub running_goes : d < base → Running s start base (at + 1)
    running_goes h = record {
      within = omega arith;
      same = span_goes (under base) s at _ so.same less (lt-ltb (worth (get_or s at 0)) base (omega arith));
    }

module _ (s : List ℕ) (start e : ℕ) (r : Radix) (h : start ≤ length s) (is : e ≡ start + run_span r (drop start s)) where
  pub run_inside : (start ≤ e) × (e ≤ length s)
  run_inside = (omega arith, omega (arith, span_le (under (base_of r)) (drop start s), length-drop start s))

  pub vector-is : lexeme (Bits r) 2 (e - start) (2 + (e - start)) ≡ bit_vector r (drop start s)
  vector-is = let q : e - start ≡ run_span r (drop start s) = omega arith in ap (λ (n : ℕ). lexeme (Bits r) 2 n (2 + n)) q
