-- The contract leaves nothing open: any two results that it allows for the same inputs are equal, and so are the buffers.
-- Assumes nothing.
use Rattle.std.proofs.Common.{Result}
use mathlib.Core.Path.{◌≡◌, sym, ◌∙◌, subst}
use mathlib.Core.Bool.{true≢false}
use mathlib.Core.List.{List}
use Prim.Native.Nat.{ℕ}
use Rattle.lent.specs.Left.{Leaves}
use Rattle.lent.proofs.Lefts.{one_left}
use Rattle.arena.specs.Tree.{Tree}
use Rattle.arena.proofs.Arenas.{one-arena}
use Rattle.tables.specs.Layout.{Lent, tables_of}
use Rattle.commands.specs.declared.form.Form.{Form}
use Rattle.model.specs.Model.{read_reply}
use Rattle.listing.specs.Lists.{left, Lists, bad-table, bad-arena, walked}
use Rattle.refusals.specs.declared.Refusal.{Refusal}

pub one-listing : (form : Form) (l : Lent) (ws ts entry : List ℕ) (r s : Result ℕ Refusal) (d e : List ℕ) → Lists form l ws ts entry r d → Lists form l ws ts entry s e → (r ≡ s) × (d ≡ e)
one-listing form l ws ts entry r s d e (bad-table p h) (bad-table q k) = one_left h k
one-listing form l ws ts entry r s d e (bad-table p h) (bad-arena q g k) = absurd (true≢false (sym q ∙ p))
one-listing form l ws ts entry r s d e (bad-table p h) (walked q t a k) = absurd (true≢false (sym q ∙ p))
one-listing form l ws ts entry r s d e (bad-arena p f h) (bad-table q k) = absurd (true≢false (sym p ∙ q))
one-listing form l ws ts entry r s d e (bad-arena p f h) (bad-arena q g k) = one_left h k
one-listing form l ws ts entry r s d e (bad-arena p f h) (walked q t a k) = absurd (f t a)
one-listing form l ws ts entry r s d e (walked p t a h) (bad-table q k) = absurd (true≢false (sym p ∙ q))
one-listing form l ws ts entry r s d e (walked p t a h) (bad-arena q g k) = absurd (g t a)
one-listing form l ws ts entry r s d e (walked p t a h) (walked q u b k) =
    one_left (subst (λ (x : Tree). Leaves (left (tables_of l) (read_reply (tables_of l) form x) entry) r d) (one-arena ws ts t u a b) h) k
