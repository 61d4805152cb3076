-- The slot of a text, byte by byte, and of a sort row by its kind.
-- Assumes nothing.
use mathlib.Core.Path.{◌≡◌, refl, sym, ap, ◌∙◌}
use mathlib.Core.Bool.{Bool, true, false}
use mathlib.Core.List.{List, [], ◌∷◌}
use Prim.Native.Nat.{ℕ, ◌+◌, ◌≤◌, ◌<◌}
use native.Mathlib.Omega.{arith}
use lib.ListN.{length, get_or, drop}
use lib.Seq.{drop-length}
use borrow.Author.Tests.{lt-ltb, le-ltb}
use Rattle.ground.proofs.Lists.{at_place}
use Rattle.tables.specs.Layout.{word, name_at, sort_at}
use Rattle.tables.specs.Rules.{identity}
use Rattle.tables.specs.Right.{lent_sorts}
use Rattle.tables.specs.View.{has_name}
use Rattle.tables.specs.Slot.{slots, next_slot, slot_from}
use Rattle.tables.proofs.Sorts.{identity-named, identity-plain}

next-below : (slot x : ℕ) → next_slot slot x < slots
next-below slot x = omega arith

-- there are so many slots
pub slot-below : (xs : List ℕ) (slot : ℕ) → slot < slots → slot_from slot xs < slots
unfolding slot_from
slot-below [] slot h = h
slot-below (x ∷ xs) slot h = slot-below xs (next_slot slot x) (next-below slot x)

-- what the loop over a text keeps
pub record Folded (text : List ℕ) (start slot i : ℕ) : Type 0 where
  pub below : slot < slots
  pub within : i ≤ length text
  pub rest : slot_from slot (drop i text) ≡ slot_from start text

module _ (text : List ℕ) (start : ℕ) where
  pub folded_start : start < slots → Folded text start start 0
  folded_start h = record { below = h; within = omega arith; rest = refl }

  module _ (slot i : ℕ) (h : Folded text start slot i) where
    pub folded_next : i < length text → (next : ℕ) → next ≡ next_slot slot (get_or text i 0) → Folded text start next (i + 1)
    unfolding slot_from
    folded_next inside next e =
        record {
          below = let g = next-below slot (get_or text i 0) in omega (arith, e, g);
          within = omega arith;
          rest = rw e (rw (at_place text i inside) at h.rest);
        }

    pub folded_end : length text ≤ i → slot ≡ slot_from start text
    unfolding slot_from
    folded_end past =
        let e : i ≡ length text = omega (arith, h.within) in
        rw (e, drop-length text) at h.rest

-- a sort row's
module _ (sorts names : List ℕ) (i kind : ℕ) (e : kind ≡ word sorts i 2) (b : Bool) (d : b ≡ has_name kind) where
  kind-here : has_name (word sorts i 2) ≡ b
  kind-here = sym (d ∙ ap has_name e)

  pub slot-named : b ≡ true → (slot r : ℕ) → slot ≡ next_slot 0 9 → r ≡ slot_from slot (name_at names sorts i) → r ≡ slot_from 0 (identity (sort_at (lent_sorts sorts [] names) i))
  unfolding slot_from
  slot-named t slot r g h =
      h
      ∙ ap (λ (k : ℕ). slot_from k (name_at names sorts i)) g
      ∙ sym (ap (slot_from 0) (identity-named (lent_sorts sorts [] names) i (kind-here ∙ t)))

  module _ (t : b ≡ false) (slot : ℕ) (g : slot ≡ next_slot 0 kind) where
    pub slot-kind : kind < 6 → slot ≡ slot_from 0 (identity (sort_at (lent_sorts sorts [] names) i))
    unfolding slot_from
    slot-kind h =
        rw (identity-plain (lent_sorts sorts [] names) i (kind-here ∙ t), sym e, lt-ltb kind 6 h) g

    pub slot-number : 6 ≤ kind → (number r : ℕ) → number ≡ word sorts i 3 → r ≡ next_slot slot number → r ≡ slot_from 0 (identity (sort_at (lent_sorts sorts [] names) i))
    unfolding slot_from
    slot-number h number r q s =
        rw (identity-plain (lent_sorts sorts [] names) i (kind-here ∙ t), sym e, le-ltb kind 6 h, sym q, sym g) s
