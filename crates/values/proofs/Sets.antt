-- Values that are one: sets by their members, the others by what they have inside.
-- Assumes nothing.
use mathlib.Core.Path.{◌≡◌, refl, ap, ap₂, sym, ◌∙◌}
use mathlib.Core.Bool.{true}
use mathlib.Core.List.Memᴰ
use mathlib.Core.List.{List, [], ◌∷◌}
use Prim.Native.Nat.{ℕ}
use Rattle.order.specs.Order.{arranged}
use Rattle.order.specs.Every.{Every, none, also, Among}
use Rattle.order.proofs.Arranges.{every-arranged}
use Rattle.order.proofs.Sames.{arranged-same, same-members}
use Rattle.values.specs.Value.{Value, Values, v_bool, v_string, v_ext, v_bits, v_none, v_some, v_set, v_entity, v_record, v_nil, v_cons, listed, unlisted, members}
use Rattle.values.specs.Text.{text}
use Rattle.values.specs.Normal.{normal, normals, arranged_values}
use Rattle.values.specs.Plain.{PlainValue, PlainValues}
use Rattle.values.proofs.Normals.{listed_back}
use Rattle.values.proofs.Apart.{plain-tells}

each-plain : (vs : Values) → PlainValues vs → Every PlainValue (listed vs)
each-plain v_nil h = none
each-plain (v_cons v vs) h = also h.0 (each-plain vs h.1)

plain-each : (xs : List Value) → Every PlainValue xs → PlainValues (unlisted xs)
plain-each [] none = tt
plain-each (x ∷ xs) (also h hs) = (h, plain-each xs hs)

arranged-plain : (vs : Values) → PlainValues vs → PlainValues (arranged_values vs)
unfolding arranged_values
arranged-plain vs h = plain-each (arranged text true (listed vs)) (every-arranged text true PlainValue (listed vs) (each-plain vs h))

-- what is plain stays so
mutual
  unfolding normal

  pub normal-plain : (v : Value) → PlainValue v → PlainValue (normal v)
  normal-plain (v_bool b) h = h
  normal-plain (v_string s) h = h
  normal-plain (v_ext e z) h = h
  normal-plain (v_bits w n) h = h
  normal-plain v_none h = h
  normal-plain (v_some v) h = normal-plain v h
  normal-plain (v_set vs) h = arranged-plain (normals vs) (normals-plain vs h)
  normal-plain (v_entity r s) h = h
  normal-plain (v_record r vs) h = (h.0, normals-plain vs h.1)

  pub normals-plain : (vs : Values) → PlainValues vs → PlainValues (normals vs)
  normals-plain v_nil h = h
  normals-plain (v_cons v vs) h = (normal-plain v h.0, normals-plain vs h.1)

-- the members as the values that they are
among-normals : (vs : Values) (v : Value) → Among v (listed vs) → Among (normal v) (listed (normals vs))
unfolding normal
among-normals (v_cons u vs) v (Memᴰ.head e) = Memᴰ.head (ap normal e)
among-normals (v_cons u vs) v (Memᴰ.tail m) = Memᴰ.tail (among-normals vs v m)
among-normals v_nil v x' = elim x' [ ]

normals-among : (vs : Values) (x : Value) → Among x (listed (normals vs)) → (v : Value) × Among v (listed vs) × (x ≡ normal v)
unfolding normal
normals-among (v_cons u vs) x (Memᴰ.head e) = (u, Memᴰ.head refl, e)
normals-among (v_cons u vs) x (Memᴰ.tail m) = let a = normals-among vs x m in (a.0, Memᴰ.tail a.1, a.2)
normals-among v_nil x x3 = elim x3 [ ]

-- each of the one is, as the value that it is, among the other
abbrev pub Within : Values → Values → Type 0
Within vs ws = (v : Value) → Among v (listed vs) → (w : Value) × Among w (listed ws) × (normal v ≡ normal w)

within-normals : (vs ws : Values) → Within vs ws → (x : Value) → Among x (listed (normals vs)) → Among x (listed (normals ws))
within-normals vs ws f x m =
    let a = normals-among vs x m in
    let b = f a.0 a.1 in
    Memᴰ.cast (a.2 ∙ b.2) (among-normals ws b.0 b.1)

-- sets with the same members are one
pub set_same : (vs ws : Values) → PlainValues vs → PlainValues ws → Within vs ws → Within ws vs → normal (v_set vs) ≡ normal (v_set ws)
unfolding normal arranged_values
set_same vs ws h k f g =
    ap (λ (l : List Value). v_set (unlisted l))
    (arranged-same text true PlainValue plain-tells (listed (normals vs)) (listed (normals ws)) (each-plain (normals vs) (normals-plain vs h)) (each-plain (normals ws) (normals-plain ws k))
    (within-normals vs ws f) (within-normals ws vs g))

-- and the other way round
pub same_set : (vs ws : Values) → PlainValues vs → normal (v_set vs) ≡ normal (v_set ws) → Within vs ws
unfolding normal arranged_values
same_set vs ws h e v m =
    let q = sym (listed_back (arranged text true (listed (normals vs)))) ∙ ap (λ (u : Value). listed (members u)) e ∙ listed_back (arranged text true (listed (normals ws))) in
    normals-among ws (normal v)
    (same-members text true PlainValue plain-tells (listed (normals vs)) (listed (normals ws)) (each-plain (normals vs) (normals-plain vs h)) q (normal v) (among-normals vs v m))

-- options, records and their fields
pub some_same : (v w : Value) → normal v ≡ normal w → normal (v_some v) ≡ normal (v_some w)
unfolding normal
some_same v w e = ap v_some e

pub same_some : (v w : Value) → normal (v_some v) ≡ normal (v_some w) → normal v ≡ normal w
unfolding normal
same_some v w e = cc

pub record_same : (r q : ℕ) (vs ws : Values) → r ≡ q → normals vs ≡ normals ws → normal (v_record r vs) ≡ normal (v_record q ws)
unfolding normal
record_same r q vs ws e f = ap₂ {C = Value} v_record e f

pub same_record : (r q : ℕ) (vs ws : Values) → normal (v_record r vs) ≡ normal (v_record q ws) → (r ≡ q) × (normals vs ≡ normals ws)
unfolding normal
same_record r q vs ws e = (cc, cc)

pub fields-same : (v w : Value) (vs ws : Values) → normal v ≡ normal w → normals vs ≡ normals ws → normals (v_cons v vs) ≡ normals (v_cons w ws)
unfolding normal
fields-same v w vs ws e f = ap₂ {C = Values} v_cons e f

pub same-fields : (v w : Value) (vs ws : Values) → normals (v_cons v vs) ≡ normals (v_cons w ws) → (normal v ≡ normal w) × (normals vs ≡ normals ws)
unfolding normal
same-fields v w vs ws e = (cc, cc)
