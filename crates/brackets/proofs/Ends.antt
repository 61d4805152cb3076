-- A list's end stands in another word than any count of children, so that the one changes nothing of the other.
-- Assumes nothing.
use mathlib.Core.Path.{◌≡◌, subst}
use mathlib.Core.List.{List}
use Prim.Native.Nat.{ℕ, ◌^◌, ◌<◌}
use native.Mathlib.Omega.{arith}
use lib.ListN.{get_or, set, length-set}
use lib.Seq.{get_or-set_other}
use Rattle.brackets.specs.Put.{children_cell, end_cell, innermost, Counts}

module _ (d list end : ℕ) (N S : List ℕ) where
  same_count : get_or (set N (end_cell list) end) (children_cell (innermost d S)) 0 ≡ get_or N (children_cell (innermost d S)) 0
  same_count = get_or-set_other N (end_cell list) (children_cell (innermost d S)) end 0 (λ e. omega arith)

  pub end_uncounted : Counts d (set N (end_cell list) end) S → Counts d N S
  end_uncounted c = record {
    inside = c.inside;
    within = λ z. rw length-set at (c.within z);
    fits = λ z. subst (λ (n : ℕ). n < 2 ^ 63) same_count (c.fits z);
  }
