-- Rows from the last to the first, each with its slot marked: a row whose slot is free is the same as no later one.
-- Assumes nothing.
use Rattle.std.proofs.Common.{Option}
use mathlib.Core.Path.{◌≡◌, sym, ap, subst, ◌∙◌}
use mathlib.Core.Bool.{Bool, true, false, not}
use mathlib.Core.List.{List}
use Prim.Native.Nat.{ℕ, ◌+◌, ◌-◌, ◌≤◌, ◌<◌}
use native.Mathlib.Nat.{sub-zero}
use native.Mathlib.Omega.{arith}
use lib.Dec.{eqb}
use lib.ListN.{length, get_or, set, length-set, replicate, length-replicate}
use lib.Seq.{get_or-set_same, get_or-set_other}
use borrow.Author.Tests.{eqb-true, eqb-false, not-true, not-false}
use Rattle.ground.proofs.Tests.{by_test}
use Rattle.arena.specs.Text.{same_text}
use Rattle.arena.proofs.Texts.{same-equal}
use Rattle.tables.specs.Search.{is_row, first_row, every_row}
use Rattle.tables.specs.Slot.{slots, slot_from}
use Rattle.tables.proofs.Searches.{first_absent, every-missed, every-later, every-end}
use Rattle.tables.proofs.Slots.{slot-below}

-- rows that are known by their texts
module _ (text : ℕ → List ℕ) (n : ℕ) where
  abbrev single : ℕ → Bool
  single i = not (is_row (first_row (λ j. same_text (text i) (text j)) (i + 1) (n - (i + 1))))

  abbrev slot_at : ℕ → ℕ
  slot_at i = slot_from 0 (text i)

  -- each row from i on has marked its slot, and is alone
  pub record Marked (marks : List ℕ) (i : ℕ) : Type 0 where
    pub size : length marks ≡ slots
    pub within : i ≤ n
    pub taken : (j : ℕ) → i ≤ j → j < n → get_or marks (slot_at j) 0 ≡ 1
    pub rest : every_row single i (n - i) ≡ true

  pub marked_start : (i : ℕ) → i ≡ n → Marked (replicate slots 0) i
  marked_start i g =
      record {
        size = length-replicate {A = ℕ} slots 0;
        within = omega (arith, g);
        taken = λ j a b. absurd (omega (arith, g));
        rest = every-end single i n (omega (arith, g));
      }

  pub slot-within : (i slot : ℕ) → slot ≡ slot_at i → slot < slots
  slot-within i slot e = subst (λ (k : ℕ). k < slots) (sym e) (slot-below (text i) 0 (omega arith))

  module _ (marks : List ℕ) (i : ℕ) (h : Marked marks i) where
    pub marked-end : i ≤ 0 → true ≡ every_row single 0 n
    marked-end past =
        let e : i ≡ 0 = omega arith in
        sym (ap (λ (k : ℕ). every_row single 0 k) (sym (sub-zero n)) ∙ subst (λ (k : ℕ). every_row single k (n - k) ≡ true) e h.rest)

    module _ (more : 0 < i) where
      pub here-within : i - 1 < n
      here-within = omega (arith, h.within)

      -- no later row has the row's text
      pub free_alone : (slot mark : ℕ) → slot ≡ slot_at (i - 1) → mark ≡ get_or marks slot 0 → mark ≡ 0 → single (i - 1) ≡ true
      free_alone slot mark e g z =
          ap (λ (f : Option ℕ). not (is_row f))
          (first_absent (λ j. same_text (text (i - 1)) (text j)) (i - 1 + 1) (n - (i - 1 + 1))
          (λ j a b.
          by_test (same_text (text (i - 1)) (text j))
          (λ t.
          let q : slot ≡ slot_at j = e ∙ ap (slot_from 0) (same-equal (text (i - 1)) (text j) t) in
          let p : get_or marks (slot_at j) 0 ≡ 1 = h.taken j (omega arith) (omega arith) in
          let r : mark ≡ 1 = g ∙ ap (λ (k : ℕ). get_or marks k 0) q ∙ p in
          absurd (omega (arith, r, z)))
          (λ t. t)))

      module _ (r : Bool) (e : r ≡ single (i - 1)) where
        pub marked-fails : not r ≡ true → false ≡ every_row single 0 n
        marked-fails t = sym (every-missed single (i - 1) 0 n (omega arith) (omega (arith, here-within)) (sym e ∙ not-true r t))

        pub marked_next : not r ≡ false → (slot : ℕ) → slot ≡ slot_at (i - 1) → Marked (set marks slot 1) (i - 1)
        marked_next t slot g =
            record {
              size = length-set marks slot 1 ∙ h.size;
              within = omega (arith, h.within);
              taken = λ j a b.
                  by_test (eqb (slot_at j) slot)
                  (λ q.
                  let p : slot_at j ≡ slot = eqb-true (slot_at j) slot q in
                  let k = slot-within (i - 1) slot g in
                  ap (λ (k : ℕ). get_or (set marks slot 1) k 0) p
                  ∙ get_or-set_same marks slot 1 0 (omega (arith, k, h.size)))
                  (λ q.
                  let p = eqb-false (slot_at j) slot q in
                  get_or-set_other marks slot (slot_at j) 1 0 p
                  ∙ h.taken j (by_test (eqb j (i - 1)) (λ s. absurd (p (ap slot_at (eqb-true j (i - 1) s) ∙ sym g))) (λ s. let z = eqb-false j (i - 1) s in omega (arith, z))) b);
              rest =
                  let k : i - 1 + 1 ≡ i = omega arith in
                  every-later single (i - 1) n here-within (sym e ∙ not-false r t)
                  ∙ subst (λ (k : ℕ). every_row single k (n - k) ≡ true) (sym k) h.rest;
            }
