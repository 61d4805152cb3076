-- Two replies of which the same is read, whatever their forms, get the same answer and leave the same bytes: those that differ only in what is
-- skipped, and a list of pairs and its image.
-- Assumes nothing.
use Rattle.std.proofs.Common.{Result}
use mathlib.Core.Path.{◌≡◌, sym, ap, ◌∙◌, subst}
use mathlib.Core.Bool.{true≢false}
use mathlib.Core.List.{List}
use Prim.Native.Nat.{ℕ}
use Rattle.lent.specs.Left.{Leaves}
use Rattle.lent.proofs.Lefts.{one_left}
use Rattle.arena.specs.Arena.{Arena}
use Rattle.arena.specs.Tree.{Tree, Trees, app}
use Rattle.arena.proofs.Arenas.{one-arena}
use Rattle.tables.specs.Layout.{Lent, tables_of}
use Rattle.commands.specs.declared.form.Form.{Form}
use Rattle.model.specs.Model.{Definition, read_reply}
use Rattle.model.specs.Image.{Image}
use Rattle.model.specs.Skipped.{AlikeParts}
use Rattle.model.proofs.Image.{image-read}
use Rattle.model.proofs.Skipped.{skipped-unread}
use Rattle.listing.specs.Lists.{left, Lists, bad-table, bad-arena, walked}
use Rattle.refusals.specs.declared.Refusal.{Refusal}

module _ (l : Lent) (ws ts ws' ts' entry : List ℕ) (r s : Result ℕ Refusal) (d e : List ℕ) where
  listed_same : (form other : Form) (a b : Tree) → Arena ws ts a → Arena ws' ts' b → read_reply (tables_of l) form a ≡ read_reply (tables_of l) other b →
      Lists form l ws ts entry r d → Lists other l ws' ts' entry s e → (r ≡ s) × (d ≡ e)
  listed_same form other a b x y same (bad-table p h) (bad-table q k) = one_left h k
  listed_same form other a b x y same (bad-table p h) (bad-arena q g k) = absurd (true≢false (sym q ∙ p))
  listed_same form other a b x y same (bad-table p h) (walked q t c k) = absurd (true≢false (sym q ∙ p))
  listed_same form other a b x y same (bad-arena p f h) k = absurd (f a x)
  listed_same form other a b x y same (walked p t c h) (bad-table q k) = absurd (true≢false (sym p ∙ q))
  listed_same form other a b x y same (walked p t c h) (bad-arena q g k) = absurd (g b y)
  listed_same form other a b x y same (walked p t c h) (walked q u f k) =
      let z : read_reply (tables_of l) form t ≡ read_reply (tables_of l) other u =
      ap (read_reply (tables_of l) form) (one-arena ws ts t a c x) ∙ same ∙ ap (read_reply (tables_of l) other) (one-arena ws' ts' b u y f) in
      one_left (subst (λ (m : Result (List Definition) Refusal). Leaves (left (tables_of l) m entry) r d) z h) k

  module _ (us vs : Trees) (x : Arena ws ts (app us)) (y : Arena ws' ts' (app vs)) where
    pub listed-unread : (form : Form) → AlikeParts (tables_of l) form us vs → Lists form l ws ts entry r d → Lists form l ws' ts' entry s e → (r ≡ s) × (d ≡ e)
    listed-unread form alike h k = listed_same form form (app us) (app vs) x y (skipped-unread (tables_of l) form us vs alike) h k

    pub listed-image : Image (tables_of l) us vs → Lists Form.Values l ws ts entry r d → Lists Form.Model l ws' ts' entry s e → (r ≡ s) × (d ≡ e)
    listed-image image h k = listed_same Form.Values Form.Model (app us) (app vs) x y (image-read (tables_of l) us vs image) h k
