-- Demand 3 and document 02, R-2, SMT-LIB's `=`: whether two values are one. What is decided stands in the type of `equal`; how it is decided, by a copy of the values, does not matter.
use Rattle.std.specs.Prelude.{◌≡◌, refl, Bool, true, false, cond, ℕ, eqb, ℤ}
use Rattle.std.proofs.Common.{ap, ap₂, sym, ◌∙◌}
use Rattle.std.proofs.Math.Bool.{Bool-discrete}
use mathlib.Core.List.{List, List-discrete}
use Rattle.std.proofs.Math.Decide.{ℕ_discrete}
use Rattle.std.proofs.Math.IntN.{ℤ_discrete}
use Rattle.tables.specs.Sort.{Ext, decimal, datetime, duration}
use Rattle.tables.specs.Rules.{ext_kind}
use Rattle.values.specs.Value.{Value, Values, v_bool, v_string, v_ext, v_bits, v_none, v_some, v_set, v_entity, v_record, v_nil, v_cons}

abbrev pub decided : {A : Type 0} → Dec A → Bool
decided (yes a) = true
decided (no f) = false

mutual
  pub data Copy : Type 0 where
    c_bool : Bool → Copy
    c_string : List ℕ → Copy
    c_ext : ℕ → ℤ → Copy
    c_bits : ℕ → ℕ → Copy
    c_none : Copy
    c_some : Copy → Copy
    c_set : Copies → Copy
    c_entity : ℕ → List ℕ → Copy
    c_record : ℕ → Copies → Copy
    deriving Discrete as Copy-discrete

  pub data Copies : Type 0 where
    c_nil : Copies
    c_cons : Copy → Copies → Copies
    deriving Discrete as Copies-discrete

abbrev mutual
  pub copy : Value → Copy
  copy (v_bool b) = c_bool b
  copy (v_string s) = c_string s
  copy (v_ext e z) = c_ext (ext_kind e) z
  copy (v_bits w n) = c_bits w n
  copy v_none = c_none
  copy (v_some v) = c_some (copy v)
  copy (v_set vs) = c_set (copies vs)
  copy (v_entity r s) = c_entity r s
  copy (v_record r vs) = c_record r (copies vs)

  pub copies : Values → Copies
  copies v_nil = c_nil
  copies (v_cons v vs) = c_cons (copy v) (copies vs)

abbrev pub ext_back : ℕ → Ext
ext_back k = cond (eqb k 3) decimal (cond (eqb k 4) datetime duration)

abbrev mutual
  pub back : Copy → Value
  back (c_bool b) = v_bool b
  back (c_string s) = v_string s
  back (c_ext k z) = v_ext (ext_back k) z
  back (c_bits w n) = v_bits w n
  back c_none = v_none
  back (c_some v) = v_some (back v)
  back (c_set vs) = v_set (backs vs)
  back (c_entity r s) = v_entity r s
  back (c_record r vs) = v_record r (backs vs)

  pub backs : Copies → Values
  backs c_nil = v_nil
  backs (c_cons v vs) = v_cons (back v) (backs vs)

mutual
  pub same_back : (v : Value) → back (copy v) ≡ v
  same_back (v_bool b) = refl
  same_back (v_string s) = refl
  same_back (v_ext decimal z) = refl
  same_back (v_ext datetime z) = refl
  same_back (v_ext duration z) = refl
  same_back (v_bits w n) = refl
  same_back v_none = refl
  same_back (v_some v) = ap v_some (same_back v)
  same_back (v_set vs) = ap v_set (same-backs vs)
  same_back (v_entity r s) = refl
  same_back (v_record r vs) = ap (λ (us : Values). v_record r us) (same-backs vs)

  pub same-backs : (vs : Values) → backs (copies vs) ≡ vs
  same-backs v_nil = refl
  same-backs (v_cons v vs) = ap₂ {C = Values} v_cons (same_back v) (same-backs vs)

abbrev pub by_copies : (v w : Value) → Dec (copy v ≡ copy w) → Dec (v ≡ w)
by_copies v w (yes e) = yes (sym (same_back v) ∙ ap back e ∙ same_back w)
by_copies v w (no f) = no (λ e. f (ap copy e))

unfoldable pub equal : (v w : Value) → Dec (v ≡ w)
equal v w = by_copies v w (Copy-discrete Bool-discrete (List-discrete ℕ_discrete) ℕ_discrete ℤ_discrete (copy v) (copy w))
