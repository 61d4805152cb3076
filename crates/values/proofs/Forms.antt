-- The form of a value: what its row holds says which of the nine it is, and what it has inside.
-- Assumes nothing.
use mathlib.Core.Path.{◌≡◌, refl, sym, ◌∙◌, subst}
use mathlib.Core.Bool.{Bool, true}
use mathlib.Core.List.{List}
use mathlib.Core.Logic.{◌⊎◌, inl, inr}
use Rattle.std.proofs.Common.{Some}
use Rattle.ground.proofs.Options.{some-same}
use Prim.Native.Nat.{ℕ, ◌<◌, ◌^◌}
use lib.IntN.{ℤ}
use Rattle.ground.specs.Lists.{at}
use Rattle.tables.specs.Sort.{Sort, bool, string, ext, bit_vec, option_of, set_of, entity_of, record_of, Tables}
use Rattle.values.specs.Value.{Value, Values, v_bool, v_string, v_ext, v_bits, v_none, v_some, v_set, v_entity, v_record}
use Rattle.utf8.specs.Octets.{utf8}
use Rattle.values.specs.HasSort.{HasSort, HaveSort, FieldSorts}
use Rattle.values.proofs.Digits.{InWord}

module _ (A : Values → Type 0) (T : Tables) (row : ℕ) where
  abbrev pub Form : Sort → Value → Type 0
  Form bool v = (b : Bool) × (v ≡ v_bool b)
  Form string v = (s : List ℕ) × (utf8 s ≡ true) × (v ≡ v_string s)
  Form (ext e) v = (z : ℤ) × InWord z × (v ≡ v_ext e z)
  Form (bit_vec w) v = (n : ℕ) × (n < 2 ^ w) × (v ≡ v_bits w n)
  Form (option_of q) v = (v ≡ v_none) ⊎ ((u : Value) × HasSort u A T q × (v ≡ v_some u))
  Form (set_of q) v = (us : Values) × HaveSort us A T q × (v ≡ v_set us)
  Form (entity_of n) v = (s : List ℕ) × (utf8 s ≡ true) × (v ≡ v_entity row s)
  Form (record_of n fs) v = (us : Values) × FieldSorts us A T fs × (v ≡ v_record row us)

  -- at the row's own sort, and so at the one that is known
  known : (v : Value) (s t : Sort) → at T.sorts row ≡ Some s → at T.sorts row ≡ Some t → Form s v → Form t v
  known v s t h k f = subst (λ (x : Sort). Form x v) (some-same (sym h ∙ k)) f

  pub form : (v : Value) → HasSort v A T row → (s : Sort) → at T.sorts row ≡ Some s → Form s v
  form (v_bool b) h s k = known _ _ s h k (b, refl)
  form (v_string t) h s k = known _ _ s h.0 k (t, h.1, refl)
  form (v_ext e z) h s k = known _ _ s h.0 k (z, h.1, refl)
  form (v_bits w n) h s k = known _ _ s h.0 k (n, h.1, refl)
  form v_none h s k = known _ _ s h.here k (inl refl)
  form (v_some u) h s k = known _ _ s h.here k (inr (u, h.has, refl))
  form (v_set us) h s k = known _ _ s h.0.here k (us, h.0.has, refl)
  form (v_entity q t) h s k = known _ _ s h.here k (t, h.has, subst (λ (x : ℕ). v_entity q t ≡ v_entity x t) h.same refl)
  form (v_record q us) h s k = known _ _ s h.here k (us, h.has, subst (λ (x : ℕ). v_record q us ≡ v_record x us) h.same refl)
