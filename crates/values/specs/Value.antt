-- Document 01, "Sorts and literals" and "The listing": values. A set holds its members as they were written, repeats kept, or in
-- order without repeats; a record and an entity hold the row of their sort.
use Rattle.std.specs.Prelude.{Bool, List, [], ◌∷◌, ℕ, ℤ}
use Rattle.tables.specs.Sort.{Ext}

mutual
  pub data Value : Type 0 where
    v_bool : Bool → Value
    v_string : List ℕ → Value
    v_ext : Ext → ℤ → Value
    v_bits : ℕ → ℕ → Value
    v_none : Value
    v_some : Value → Value
    v_set : Values → Value
    v_entity : ℕ → List ℕ → Value
    v_record : ℕ → Values → Value

  pub data Values : Type 0 where
    v_nil : Values
    v_cons : Value → Values → Values

abbrev pub listed : Values → List Value
listed v_nil = []
listed (v_cons v vs) = v ∷ listed vs

abbrev pub unlisted : List Value → Values
unlisted [] = v_nil
unlisted (v ∷ vs) = v_cons v (unlisted vs)

-- the members of both, one after the other
abbrev pub union : Values → Values → Values
union v_nil ws = ws
union (v_cons v vs) ws = v_cons v (union vs ws)

-- what a set holds
abbrev pub members : Value → Values
members (v_bool b) = v_nil
members (v_string s) = v_nil
members (v_ext e z) = v_nil
members (v_bits w n) = v_nil
members v_none = v_nil
members (v_some v) = v_nil
members (v_set vs) = vs
members (v_entity r s) = v_nil
members (v_record r vs) = v_nil
