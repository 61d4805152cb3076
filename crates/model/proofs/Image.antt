-- A list of pairs defines what its image defines, and is refused where that is.
-- Assumes nothing.
use Rattle.std.proofs.Common.{None, Option, Some, Err, Ok, Result}
use mathlib.Core.Path.{◌≡◌, refl, sym, ap, ap₂, ◌∙◌}
use mathlib.Core.Bool.{Bool, true}
use mathlib.Core.List.{List, [], ◌∷◌, ◌++◌}
use Prim.Native.Nat.{ℕ}
use lib.Dec.{eqb}
use borrow.Author.Tests.{eq-eqb}
use Rattle.ground.specs.Lists.{at}
use Rattle.refusals.specs.declared.Refusal.TheVariants.{UnexpectedModel, UnmatchedType}
use Rattle.arena.specs.Text.{same_text}
use Rattle.arena.specs.Tree.{Tree, Trees, symbol, app, nil, cons}
use Rattle.tables.specs.Find.{variable_row}
use Rattle.tables.specs.Sort.{Variable, Tables}
use Rattle.tables.proofs.Places.{none-some, some_one}
use Rattle.sorts.specs.Result.{◌>>=◌, unless, found}
use Rattle.sorts.specs.Sort.{read_sort, levels}
use Rattle.values.specs.Value.{Value}
use Rattle.commands.specs.declared.form.Form.{Form}
use Rattle.commands.specs.Command.{variable, command}
use Rattle.commands.specs.Pair.{pair_of}
use Rattle.commands.proofs.Shapes.{define}
use Rattle.model.specs.Model.{Definition, is_variable, value_as, variable_value, on_row, read_command, read_pair, read_parts, read_reply, read_model, read_values}
use Rattle.model.specs.Image.{Declares, Image, no_more, one_more}
use Rattle.refusals.specs.declared.Refusal.{Refusal}

module _ (T : Tables) where
  -- the table's sort is what the row was read as
  asked-itself : (m : Result Value Refusal) (b : Bool) → b ≡ true → m ≡ (m >>= λ x. unless b UnmatchedType (Ok x))
  unfolding ◌>>=◌ unless
  asked-itself (Ok x) b e = rw e refl
  asked-itself (Err r) b e = refl

  declared_value : (x : Variable) (sort value : Tree) → read_sort T levels sort ≡ Ok x.sort → value_as T x.sort value ≡ variable_value T x sort value
  unfolding ◌>>=◌
  declared_value x sort value e =
      asked-itself (value_as T x.sort value) (eqb x.sort x.sort) (eq-eqb x.sort x.sort refl)
      ∙ sym (ap (λ (m : Result ℕ Refusal). m >>= λ row. value_as T row value >>= λ v. unless (eqb x.sort row) UnmatchedType (Ok v)) e)

  -- the row that a name has, by what stands there
  module _ (name : List ℕ) (sort value : Tree) (d : Declares T name sort) where
    by_row : (i : ℕ) (o : Option Variable) → variable_row T name ≡ Some i → at T.variables i ≡ o →
        (found UnexpectedModel o >>= λ x. (value_as T x.sort value >>= λ v. Ok (is_variable i v)) >>= λ e. Ok (e ∷ []))
        ≡ (found UnexpectedModel o >>= λ x. (variable_value T x sort value >>= λ v. Ok (is_variable i v)) >>= λ e. Ok (e ∷ []))
    unfolding ◌>>=◌
    by_row i None p q = refl
    by_row i (Some x) p q = ap (λ (m : Result Value Refusal). (m >>= λ v. Ok (is_variable i v)) >>= λ e. Ok (e ∷ [])) (declared_value x sort value (d i x p q))

    by_name : (o : Option ℕ) → variable_row T name ≡ o →
        on_row T T.variables o (λ i x. value_as T x.sort value >>= λ v. Ok (is_variable i v)) ≡ on_row T T.variables o (λ i x. variable_value T x sort value >>= λ v. Ok (is_variable i v))
    by_name None p = refl
    by_name (Some i) p = by_row i (at T.variables i) p refl

    declared_pair : read_pair T (Some (pair_of name value)) ≡ read_command T (variable name sort value)
    declared_pair = by_name (variable_row T name) refl

  image-parts : (us vs : Trees) → Image T us vs → read_parts T Form.Values us ≡ read_parts T Form.Model vs
  unfolding read_parts
  image-parts _ _ no_more = refl
  image-parts _ _ (one_more {us = us} {vs = vs} name sort value p q d h) =
      ap₂ (λ (m n : Result (List Definition) Refusal). m >>= λ ds. n >>= λ es. Ok (ds ++ es))
      (ap (read_pair T) p ∙ declared_pair name sort value d ∙ sym (ap (read_command T) q))
      (image-parts us vs h)

  pub image-read : (us vs : Trees) → Image T us vs → read_values T (app us) ≡ read_model T (app vs)
  unfolding read_reply
  image-read us vs h = image-parts us vs h

  -- a sort that is read as the name's row, or any where it has none
  pub declares_row : (name : List ℕ) (sort : Tree) (i : ℕ) (x : Variable) → variable_row T name ≡ Some i → at T.variables i ≡ Some x → read_sort T levels sort ≡ Ok x.sort → Declares T name sort
  declares_row name sort i x p q r j y s t =
      let e : i ≡ j = some_one (sym p ∙ s) in
      let f : x ≡ y = some_one (sym q ∙ ap (λ (k : ℕ). at T.variables k) e ∙ t) in
      r ∙ ap (λ (v : Variable). Ok v.sort) f

  pub declares_none : (name : List ℕ) (sort : Tree) → variable_row T name ≡ None → Declares T name sort
  declares_none name sort p j y s t = absurd (none-some (sym p ∙ s))

  -- (NAME VALUE) and (define-fun NAME () SORT VALUE)
  pub image-written : (us vs : Trees) (name : List ℕ) (sort value : Tree) → Declares T name sort → Image T us vs →
      Image T (cons (app (cons (symbol name) (cons value nil))) us) (cons (define name nil sort value) vs)
  unfolding command same_text
  image-written us vs name sort value d h = one_more name sort value refl refl d h
