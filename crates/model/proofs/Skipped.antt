-- What is skipped is not read: replies that differ in nothing else give the same definitions, or the same refusal, and so the same listing.
-- Assumes nothing.
use Rattle.std.proofs.Common.{None, Some, Err, Ok, Result}
use mathlib.Core.Path.{◌≡◌, refl, sym, ap, ap₂, ◌∙◌}
use mathlib.Core.List.{List, [], ◌++◌}
use Prim.Native.Nat.{ℕ}
use Rattle.arena.specs.Tree.{Tree, Trees, app}
use Rattle.tables.specs.Find.{variable_row, function_row}
use Rattle.tables.specs.Sort.{Tables}
use Rattle.sorts.specs.Result.{◌>>=◌}
use Rattle.commands.specs.declared.form.Form.{Form}
use Rattle.commands.specs.Pair.{pair_of}
use Rattle.commands.specs.Command.{variable, function}
use Rattle.model.specs.Model.{Definition, read_command, read_pair, read_part, read_parts, read_reply}
use Rattle.model.specs.Listing.{listing}
use Rattle.model.specs.Skipped.{AlikePart, same, no-variable, no-function, no-pair, AlikeParts, no_more, one_more}
use Rattle.refusals.specs.declared.Refusal.{Refusal}

module _ (T : Tables) where
  unread-variable : (name : List ℕ) (s v : Tree) → variable_row T name ≡ None → read_command T (variable name s v) ≡ Ok []
  unread-variable name s v e = rw e refl

  unread-function : (name x : List ℕ) (p s b : Tree) → function_row T name ≡ None → read_command T (function name x p s b) ≡ Ok []
  unread-function name x p s b e = rw e refl

  unread-pair : (name : List ℕ) (v : Tree) → variable_row T name ≡ None → read_pair T (Some (pair_of name v)) ≡ Ok []
  unread-pair name v e = rw e refl

  same-part : (form : Form) (t u : Tree) → AlikePart T form t u → read_part T form t ≡ read_part T form u
  same-part form t _ (same _) = refl
  same-part _ t u (no-variable name s v s' v' e a b) =
      ap (read_command T) a ∙ unread-variable name s v e ∙ sym (ap (read_command T) b ∙ unread-variable name s' v' e)
  same-part _ t u (no-function name x p s c p' s' c' e a b) =
      ap (read_command T) a ∙ unread-function name x p s c e ∙ sym (ap (read_command T) b ∙ unread-function name x p' s' c' e)
  same-part _ t u (no-pair name v v' e a b) = ap (read_pair T) a ∙ unread-pair name v e ∙ sym (ap (read_pair T) b ∙ unread-pair name v' e)

  module _ (form : Form) where
    same_parts : (us vs : Trees) → AlikeParts T form us vs → read_parts T form us ≡ read_parts T form vs
    unfolding read_parts
    same_parts _ _ no_more = refl
    same_parts _ _ (one_more {t = t} {u = u} {us = us} {vs = vs} a as') =
        ap₂ (λ (m n : Result (List Definition) Refusal). m >>= λ ds. n >>= λ es. Ok (ds ++ es)) (same-part form t u a) (same_parts us vs as')

    -- two replies that differ only in skipped sorts, bodies and values
    pub skipped-unread : (us vs : Trees) → AlikeParts T form us vs → read_reply T form (app us) ≡ read_reply T form (app vs)
    unfolding read_reply
    skipped-unread us vs h = same_parts us vs h

    pub same-listing : (us vs : Trees) (ds es : List Definition) → AlikeParts T form us vs → read_reply T form (app us) ≡ Ok ds → read_reply T form (app vs) ≡ Ok es → listing T ds ≡ listing T es
    same-listing us vs ds es h d e = ap (λ (m : Result (List Definition) Refusal). listing T (held m)) (sym d ∙ skipped-unread us vs h ∙ e)
      where
        held : Result (List Definition) Refusal → List Definition
        held (Ok x) = x
        held (Err r) = []
