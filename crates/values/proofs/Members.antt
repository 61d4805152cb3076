-- The members of a set as records of a run: brought into order by their bytes they are the members in order.
-- Assumes nothing.
use mathlib.Core.Path.{◌≡◌, sym, ◌∙◌}
use mathlib.Core.Bool.{true}
use mathlib.Core.List.{List}
use Prim.Native.Nat.{ℕ}
use Rattle.ground.specs.Lists.{all}
use Rattle.order.specs.Order.{arranged}
use Rattle.order.specs.Every.{Every}
use Rattle.order.proofs.Everies.{every_map, all-every}
use Rattle.order.proofs.Arranges.{arranged-by}
use Rattle.runs.specs.Run.{key, plain}
use Rattle.tables.specs.Sort.{Tables}
use Rattle.values.specs.Value.{Values}
use Rattle.values.specs.Text.{texts}
use Rattle.values.specs.Normal.{arranged_values}
use Rattle.values.specs.HasSort.{HaveSort}
use Rattle.values.proofs.Plains.{printable, key-whole, texts-plain, plain-all}
use Rattle.values.proofs.Unions.{own, texts-arranged}

keys-whole : (ss : List (List ℕ)) → all (λ s. all printable s) ss ≡ true → Every (λ s. own s ≡ key s) ss
keys-whole ss h = every_map (λ s. all printable s ≡ true) (λ s. own s ≡ key s) (λ s k. sym (key-whole s k)) ss (all-every (λ s. all printable s) ss h)

module _ (A : Values → Type 0) (T : Tables) (r : ℕ) (vs : Values) (h : HaveSort vs A T r) where
  pub members_plain : all plain (texts vs) ≡ true
  members_plain = plain-all (texts vs) (texts-plain A T vs r h)

  pub members-arranged : texts (arranged_values vs) ≡ arranged key true (texts vs)
  members-arranged = texts-arranged vs ∙ arranged-by own key true (texts vs) (keys-whole (texts vs) (texts-plain A T vs r h))
