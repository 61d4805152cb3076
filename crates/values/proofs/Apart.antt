-- The text tells plain values apart, whatever the tables; and values that have a sort are plain, where the tables' rows and widths are words.
-- Assumes nothing.
use Rattle.std.proofs.Common.{Some}
use mathlib.Core.Path.{◌≡◌, ap, sym, subst}
use mathlib.Core.List.{List, [], ◌++◌}
use Prim.Native.Nat.{ℕ, ◌<◌, ◌^◌}
use Rattle.ground.specs.Lists.{at}
use Rattle.tables.specs.Sort.{Sort, bit_vec, Tables}
use Rattle.values.specs.Value.{Value, Values, v_bool, v_string, v_ext, v_bits, v_none, v_some, v_set, v_entity, v_record, v_nil, v_cons}
use Rattle.values.specs.Text.{text}
use Rattle.values.specs.Plain.{PlainValue, PlainValues}
use Rattle.values.specs.HasSort.{HasSort, HaveSort, FieldSorts}
use Rattle.values.proofs.Bytes.{utf8-bytes}
use Rattle.values.proofs.Digits.{Ends, decimal-same}
use Rattle.values.proofs.Tells.{Telling, tell-by}

abbrev Both : Value → Value → Type 0
Both v w = PlainValue v × PlainValue w

abbrev Each : Values → Values → Type 0
Each vs ws = PlainValues vs × PlainValues ws

plain : Telling Both Each
plain = record {
  strings = λ s t h. h;
  numbers = λ x y z h. h;
  bits = λ x n y m h e. (decimal-same x y h.0.0 h.1.0 e, h.0.1, h.1.1);
  somes = λ v w h. h;
  sets = λ vs ws h. h;
  entities = λ q s r t h e. (decimal-same q r h.0.0 h.1.0 e, h.0.1, h.1.1);
  records = λ q vs r ws h e. (decimal-same q r h.0.0 h.1.0 e, (h.0.1, h.1.1));
  first = λ v w vs ws h. (h.0.0, h.1.0);
  others = λ v w vs ws h. (h.0.1, h.1.1);
}

pub plain-tell : (v w : Value) (a b : List ℕ) → PlainValue v → PlainValue w → Ends a → Ends b → text v ++ a ≡ text w ++ b → (v ≡ w) × (a ≡ b)
plain-tell v w a b h k f g e = tell-by Both Each plain v w a b (h, k) f g e

pub plain-tells : (v w : Value) → PlainValue v → PlainValue w → text v ≡ text w → v ≡ w
plain-tells v w h k e = (plain-tell v w [] [] h k tt tt (ap (λ (x : List ℕ). x ++ []) e)).0

module _ (A : Values → Type 0) (T : Tables) (rows : (i : ℕ) (s : Sort) → at T.sorts i ≡ Some s → i < 2 ^ 64) (widths : (i w : ℕ) → at T.sorts i ≡ Some (bit_vec w) → w < 2 ^ 64) where
  mutual
    pub sort-plain : (v : Value) (r : ℕ) → HasSort v A T r → PlainValue v
    sort-plain (v_bool b) r h = tt
    sort-plain (v_string s) r h = utf8-bytes s h.1
    sort-plain (v_ext e z) r h = h.1
    sort-plain (v_bits w n) r h = (widths r w h.0, h.1)
    sort-plain v_none r h = tt
    sort-plain (v_some v) r h = sort-plain v h.inner h.has
    sort-plain (v_set vs) r h = sorts-plain vs h.0.inner h.0.has
    sort-plain (v_entity q s) r h = (subst (λ (i : ℕ). i < 2 ^ 64) (sym h.same) (rows r _ h.here), utf8-bytes s h.has)
    sort-plain (v_record q vs) r h = (subst (λ (i : ℕ). i < 2 ^ 64) (sym h.same) (rows r _ h.here), fields-plain vs h.fields h.has)

    pub sorts-plain : (vs : Values) (r : ℕ) → HaveSort vs A T r → PlainValues vs
    sorts-plain v_nil r h = tt
    sorts-plain (v_cons v vs) r h = (sort-plain v r h.0, sorts-plain vs r h.1)

    pub fields-plain : (vs : Values) (fs : List ℕ) → FieldSorts vs A T fs → PlainValues vs
    fields-plain v_nil fs h = tt
    fields-plain (v_cons v vs) fs h = (sort-plain v h.first h.head, fields-plain vs h.rest h.tail)
