-- The contract of the walk leaves nothing open where tables passed and no word was noted: the answer, and on acceptance each word, is the only one.
-- Assumes nothing.
use Rattle.std.specs.Prelude.{⊤}
use Rattle.std.proofs.Common.{None, Option, Some, Err, Ok, Result}
use mathlib.Core.Path.{◌≡◌, sym, ap, ◌∙◌}
use mathlib.Core.Bool.{true}
use mathlib.Core.List.{List}
use Prim.Native.Nat.{ℕ, zero, suc, ◌+◌, ◌*◌, ◌/◌, ◌%◌, ◌<◌}
use native.Mathlib.Omega.{arith}
use lib.ListN.{get_or, replicate}
use lib.Seq.{ext_get_or}
use Rattle.arena.specs.Tree.{Trees}
use Rattle.tables.specs.Layout.{Lent, tables_of}
use Rattle.tables.specs.Rules.{lawful}
use Rattle.shapes.specs.Shows.{StandingAll}
use Rattle.commands.specs.declared.form.Form.{Form}
use Rattle.walk.specs.Placed.{Placed, placed}
use Rattle.walk.specs.Last.{slots, stride, node_word, value_word, need_word, word_at, last_in, Holds, Kept}
use Rattle.walk.specs.Walked.{WalkedAs, Walks}
use Rattle.refusals.specs.declared.Refusal.{Refusal}

one-held : (o : Option Placed) (a b c x y z : ℕ) → Holds o a b c → Holds o x y z → (a ≡ x) × (b ≡ y) × (c ≡ z)
one-held None a b c x y z h k = (h.0 ∙ sym k.0, h.1 ∙ sym k.1, h.2 ∙ sym k.2)
one-held (Some p) a b c x y z h k = (h.node-is ∙ sym k.node-is, h.value-is ∙ sym k.value-is, h.long-is ∙ sym k.long-is)

module _ (l : Lent) (ps : List Placed) (a b : List ℕ) (h : Kept l ps a) (k : Kept l ps b) where
  one-slot : (i : ℕ) → i < slots → (word_at a i node_word ≡ word_at b i node_word) × (word_at a i value_word ≡ word_at b i value_word) × (word_at a i need_word ≡ word_at b i need_word)
  one-slot i low = one-held (last_in l i ps) _ _ _ _ _ _ (h.holds i low) (k.holds i low)

  one_word : (i j : ℕ) → i < slots → j < stride → word_at a i j ≡ word_at b i j
  one_word i zero low m = (one-slot i low).0
  one_word i (suc zero) low m = (one-slot i low).1
  one_word i (suc (suc zero)) low m = (one-slot i low).2
  one_word i (suc (suc (suc j))) low m = absurd (omega arith)

  pub one_kept : a ≡ b
  one_kept = ext_get_or 0 a b (h.full ∙ sym k.full) (λ i m. let e : i / stride * stride + i % stride ≡ i = omega arith in let f = h.full in sym (ap (λ (n : ℕ). get_or a n 0) e) ∙ one_word (i / stride) (i % stride) (omega arith) (omega arith) ∙ ap (λ (n : ℕ). get_or b n 0) e)

pub one-walk : (form : Form) (l : Lent) (ws ts : List ℕ) (first many : ℕ) (entry a b : List ℕ) (r s : Result ⊤ Refusal) → Walks form l ws ts first many entry a r → Walks form l ws ts first many entry b s →
    (us : Trees) → StandingAll us ws ts first many → lawful (tables_of l) ≡ true → entry ≡ replicate (slots * stride) 0 → (r ≡ s) × (r ≡ (Ok tt) → a ≡ b)
one-walk form l ws ts first many entry a b r s f g us st rules zeros = go (placed (tables_of l) form first us) (f us st rules zeros) (g us st rules zeros)
  where
    go : (m : Result (List Placed) Refusal) → WalkedAs l m a r → WalkedAs l m b s → (r ≡ s) × (r ≡ (Ok tt) → a ≡ b)
    go (Ok ps) h k = (h.0 ∙ sym k.0, λ e. one_kept l ps a b h.1 k.1)
    go (Err z) h k = (h ∙ sym k, λ e. let q : (Ok tt) ≡ Err z = sym e ∙ h in let w : ◌≡◌ {A = ℕ} 0 1 = cc in absurd (omega arith))
