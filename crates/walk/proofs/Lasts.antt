-- The last definition of each name: one more definition replaces what its slot held and nothing else.
-- Assumes nothing.
use Rattle.std.proofs.Common.{None, Option, Some}
use mathlib.Core.Path.{◌≡◌, refl, sym, ap, ◌∙◌, subst}
use mathlib.Core.Bool.{Bool, true, false, cond}
use mathlib.Core.List.{List, [], ◌∷◌, ◌++◌}
use Prim.Native.Nat.{ℕ, ◌+◌, ◌*◌, ◌-◌, ◌/◌, ◌≤◌, ◌<◌}
use native.Mathlib.Omega.{arith}
use lib.Dec.{eqb}
use lib.ListN.{length, set, replicate, length-set, length-replicate, get_or-replicate, get_or-eq_default}
use lib.Seq.{get_or-set_same, get_or-set_other, lt-length-set}
use borrow.Author.Tests.{eqb-true, eqb-false}
use Rattle.ground.proofs.Tests.{by_test}
use Rattle.tables.specs.Layout.{Lent}
use Rattle.literals.specs.Answer.{capped}
use Rattle.model.specs.Model.{or_else}
use Rattle.model.proofs.Choices.{or_none, or_assoc}
use Rattle.walk.specs.Noted.{slot, size}
use Rattle.walk.specs.Placed.{Placed}
use Rattle.walk.specs.Last.{slots, stride, node_word, value_word, need_word, word_at, last_in, kept, Holds, Kept}

-- a word past the words
module _ (last : List ℕ) (k j : ℕ) where
  pub word-past : length last / stride < k → 0 ≡ word_at last k j
  word-past h = sym (get_or-eq_default last 0 (omega arith))

  pub word-short : length last - k * stride ≤ j → 0 ≡ word_at last k j
  word-short h = sym (get_or-eq_default last 0 (omega arith))

module _ (l : Lent) (k : ℕ) where
  last-append : (ps qs : List Placed) → last_in l k (ps ++ qs) ≡ or_else (last_in l k qs) (last_in l k ps)
  unfolding last_in
  last-append [] qs = sym (or_none _)
  last-append (p ∷ ps) qs =
      ap (λ (o : Option Placed). or_else o (cond (eqb k (slot l p.it)) (Some p) None)) (last-append ps qs)
      ∙ or_assoc (last_in l k qs) (last_in l k ps) (cond (eqb k (slot l p.it)) (Some p) None)

  last_one : (p : Placed) → last_in l k (p ∷ []) ≡ cond (eqb k (slot l p.it)) (Some p) None
  unfolding last_in
  last_one p = refl

  -- one more, whose name has this slot or another one
  last_more : (ps : List Placed) (p : Placed) (b : Bool) → eqb k (slot l p.it) ≡ b → last_in l k (ps ++ (p ∷ [])) ≡ or_else (cond b (Some p) None) (last_in l k ps)
  last_more ps p b h =
      last-append ps (p ∷ []) ∙ ap (λ (o : Option Placed). or_else o (last_in l k ps)) (last_one p ∙ ap (λ (c : Bool). cond c (Some p) None) h)

-- two stores keep each place
pub lt_two : (last : List ℕ) (i j a b : ℕ) {k : ℕ} → k < length last → k < length (set (set last i a) j b)
lt_two last i j a b h = lt-length-set (set last i a) j b (lt-length-set last i a h)

-- the three words of the slot, and the words of the others
module _ (last : List ℕ) (k node value long : ℕ) (h : k * stride + need_word < length last) where
  abbrev One : List ℕ
  One = set last (k * stride + node_word) node

  abbrev Two : List ℕ
  Two = set One (k * stride + value_word) value

  two-length : length Two ≡ length last
  two-length = length-set One (k * stride + value_word) value ∙ length-set last (k * stride + node_word) node

  kept-length : length (kept last k node value long) ≡ length last
  kept-length = length-set Two (k * stride + need_word) long ∙ two-length

  kept-node : word_at (kept last k node value long) k node_word ≡ node
  kept-node =
      get_or-set_other Two (k * stride + need_word) (k * stride + node_word) long 0 (λ e. omega arith)
      ∙ get_or-set_other One (k * stride + value_word) (k * stride + node_word) value 0 (λ e. omega arith)
      ∙ get_or-set_same last (k * stride + node_word) node 0 (omega arith)

  kept-value : word_at (kept last k node value long) k value_word ≡ value
  kept-value =
      get_or-set_other Two (k * stride + need_word) (k * stride + value_word) long 0 (λ e. omega arith)
      ∙ get_or-set_same One (k * stride + value_word) value 0 (omega (arith, length-set last (k * stride + node_word) node))

  kept-long : word_at (kept last k node value long) k need_word ≡ long
  kept-long = get_or-set_same Two (k * stride + need_word) long 0 (omega (arith, two-length))

  kept-other : (i j : ℕ) → j < stride → (i ≡ k → ⊥) → word_at (kept last k node value long) i j ≡ word_at last i j
  kept-other i j b p =
      get_or-set_other Two (k * stride + need_word) (i * stride + j) long 0 (λ e. p (omega arith))
      ∙ get_or-set_other One (k * stride + value_word) (i * stride + j) value 0 (λ e. p (omega arith))
      ∙ get_or-set_other last (k * stride + node_word) (i * stride + j) node 0 (λ e. p (omega arith))

module _ (l : Lent) where
  -- what a slot holds, by its words
  abbrev HeldAs : Option Placed → List ℕ → ℕ → Type 0
  HeldAs o last k = Holds o (word_at last k node_word) (word_at last k value_word) (word_at last k need_word)

  held_as : (o : Option Placed) (node value long node' value' long' : ℕ) → node ≡ node' → value ≡ value' → long ≡ long' → Holds o node' value' long' → Holds o node value long
  held_as None node value long node' value' long' p q r h = (p ∙ h.0, q ∙ h.1, r ∙ h.2)
  held_as (Some x) node value long node' value' long' p q r h = record { node-is = p ∙ h.node-is; value-is = q ∙ h.value-is; long-is = r ∙ h.long-is }

  kept_from : (n : ℕ) → n ≡ slots * stride → Kept l [] (replicate n 0)
  unfolding last_in
  kept_from n e =
      record {
        full = length-replicate n 0 ∙ e;
        holds = λ k h.
            (get_or-replicate n (k * stride + node_word) 0 0 (omega arith), get_or-replicate n (k * stride + value_word) 0 0 (omega arith), get_or-replicate n (k * stride + need_word) 0 0 (omega arith));
      }

  pub kept-none : (last : List ℕ) → last ≡ replicate (slots * stride) 0 → Kept l [] last
  kept-none last e = subst (Kept l []) (sym e) (kept_from (slots * stride) refl)

  module _ (ps : List Placed) (last : List ℕ) (h : Kept l ps last) (p : Placed) (low : slot l p.it < slots) where
    abbrev Next : List ℕ
    Next = kept last (slot l p.it) p.node p.value (capped (size p.it))

    roomy : slot l p.it * stride + need_word < length last
    roomy = omega (arith, h.full, low)

    held_same : (k : ℕ) → k ≡ slot l p.it → HeldAs (Some p) Next k
    held_same k e =
        subst (λ (j : ℕ). HeldAs (Some p) Next j) (sym e)
        (record {
          node-is = kept-node last (slot l p.it) p.node p.value (capped (size p.it)) roomy;
          value-is = kept-value last (slot l p.it) p.node p.value (capped (size p.it)) roomy;
          long-is = kept-long last (slot l p.it) p.node p.value (capped (size p.it)) roomy;
        })

    held-other : (k : ℕ) → k < slots → (k ≡ slot l p.it → ⊥) → HeldAs (last_in l k ps) Next k
    held-other k i e =
        let same : (j : ℕ) → j < stride → word_at Next k j ≡ word_at last k j = λ j b. kept-other last (slot l p.it) p.node p.value (capped (size p.it)) roomy k j b e in
        held_as (last_in l k ps) _ _ _ (word_at last k node_word) (word_at last k value_word) (word_at last k need_word) (same node_word (omega arith)) (same value_word (omega arith)) (same need_word (omega arith)) (h.holds k i)

    pub kept_more : Kept l (ps ++ (p ∷ [])) Next
    kept_more =
        record {
          full = kept-length last (slot l p.it) p.node p.value (capped (size p.it)) roomy ∙ h.full;
          holds = λ k i.
              by_test (eqb k (slot l p.it))
              (λ t. subst (λ (o : Option Placed). HeldAs o Next k) (sym (last_more l k ps p true t)) (held_same k (eqb-true k (slot l p.it) t)))
              (λ t. subst (λ (o : Option Placed). HeldAs o Next k) (sym (last_more l k ps p false t)) (held-other k i (eqb-false k (slot l p.it) t)));
        }
