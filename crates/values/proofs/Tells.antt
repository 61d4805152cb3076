-- The text tells values apart: those that can be told two by two, and so those of one sort.
-- Assumes nothing.
use mathlib.Core.Path.{◌≡◌, refl, ap, ap₂, sym, ◌∙◌, subst}
use mathlib.Core.Bool.{Bool, true, false, cond, ◌||◌, true≢false}
use mathlib.Core.List.{List, [], ◌∷◌, ◌++◌, append_assoc, append_cancel_left, head-eq_of_cons-eq, tail-eq_of_cons-eq}
use mathlib.Core.Logic.{◌⊎◌, inl, inr}
use Prim.Native.Nat.{ℕ, ◌<◌, ◌^◌}
use lib.Dec.{eqb}
use lib.IntN.{ℤ}
use lib.ListN.{get_or}
use Rattle.ground.specs.Bytes.{bytes}
use Rattle.ground.specs.Lists.{all, joined}
use Rattle.decimals.specs.Decimal.{decimal, signed_decimal}
use Rattle.tables.specs.Sort.{Ext, decimal as is_decimal, datetime, duration, Tables}
use Rattle.values.specs.Value.{Value, Values, v_bool, v_string, v_ext, v_bits, v_none, v_some, v_set, v_entity, v_record, v_nil, v_cons}
use Rattle.values.specs.Text.{text, texts, truth, mark, hex, hex_text, hex_width}
use Rattle.values.specs.Plain.{is_byte, InWord}
use Rattle.values.specs.HasSort.{HasSort, HaveSort, FieldSorts}
use Rattle.values.proofs.Bytes.{utf8-bytes}
use Rattle.values.proofs.Digits.{in_run, Ends, run_of, split-run, bytes-digits, hex_text-same, hex-digits, bits-same, decimal-digits, signed-run, signed_same}

-- a mark, a number and one more byte, and what is behind them
cut_led : (p : List ℕ) (x y c : ℕ) (s t a b : List ℕ) → in_run c ≡ false → p ++ (decimal x ++ (c ∷ s)) ++ a ≡ p ++ (decimal y ++ (c ∷ t)) ++ b → (decimal x ≡ decimal y) × (s ++ a ≡ t ++ b)
cut_led p x y c s t a b h e =
    let z = split-run (decimal x) (decimal y) _ _ (run_of _ (decimal-digits x)) (run_of _ (decimal-digits y)) h h (append_cancel_left p _ _ (sym (led x s a) ∙ e ∙ led y t b)) in
    (z.0, tail-eq_of_cons-eq z.1)
  where
    led : (x : ℕ) (s a : List ℕ) → p ++ (decimal x ++ (c ∷ s)) ++ a ≡ p ++ (decimal x ++ (c ∷ (s ++ a)))
    led x s a = append_assoc p (decimal x ++ (c ∷ s)) a ∙ ap (λ (l : List ℕ). p ++ l) (append_assoc (decimal x) (c ∷ s) a)

-- what the first bytes of a text say of its value
abbrev Led : (Value → Type 0) → List ℕ → Type 0
Led Q [] = Unit {0}
Led Q (b ∷ s) =
    cond (eqb b 102) (Q (v_bool false))
    (cond (eqb b 116) (cond (eqb (get_or s 0 0) 114) (Q (v_bool true)) ((z : ℤ) × Q (v_ext datetime z)))
    (cond (eqb b 115) (cond (eqb (get_or s 0 0) 58) ((t : List ℕ) × Q (v_string t)) ((u : Value) × Q (v_some u)))
    (cond (eqb b 100) ((z : ℤ) × Q (v_ext is_decimal z))
    (cond (eqb b 117) ((z : ℤ) × Q (v_ext duration z))
    (cond (eqb b 98) ((x : ℕ) × (n : ℕ) × Q (v_bits x n))
    (cond (eqb b 110) (Q v_none)
    (cond (eqb b 123) ((us : Values) × Q (v_set us))
    (cond (eqb b 101) ((r : ℕ) × (t : List ℕ) × Q (v_entity r t)) ((r : ℕ) × (us : Values) × Q (v_record r us))))))))))

module _ (Q : Value → Type 0) where
  lead : (w : Value) (b : List ℕ) → Q w → Led Q (text w ++ b)
  unfolding text
  lead (v_bool true) b q = q
  lead (v_bool false) b q = q
  lead (v_string s) b q = (s, q)
  lead (v_ext is_decimal z) b q = (z, q)
  lead (v_ext datetime z) b q = (z, q)
  lead (v_ext duration z) b q = (z, q)
  lead (v_bits x n) b q = (x, n, q)
  lead v_none b q = q
  lead (v_some v) b q = (v, q)
  lead (v_set vs) b q = (vs, q)
  lead (v_entity r s) b q = (r, s, q)
  lead (v_record r vs) b q = (r, vs, q)

  led-truth : (x : Bool) (a : List ℕ) → Led Q (truth x ++ a) → Q (v_bool x)
  led-truth true a q = q
  led-truth false a q = q

  led-number : (x : Ext) (s a : List ℕ) → Led Q (mark x ++ s ++ a) → (z : ℤ) × Q (v_ext x z)
  led-number is_decimal s a q = q
  led-number datetime s a q = q
  led-number duration s a q = q

-- the members, and what follows one of them: the others and the end
abbrev line : Values → List ℕ
line vs = joined (bytes ",") (texts vs)

abbrev rest : Values → List ℕ → List ℕ
rest v_nil z = z
rest (v_cons v vs) z = 44 ∷ (line (v_cons v vs) ++ z)

rest-ends : (vs : Values) (z : List ℕ) → Ends z → Ends (rest vs z)
rest-ends v_nil z h = h
rest-ends (v_cons v vs) z h = refl

first_rest : (v : Value) (vs : Values) (z : List ℕ) → line (v_cons v vs) ++ z ≡ text v ++ rest vs z
unfolding text joined
first_rest v v_nil z = refl
first_rest v (v_cons w vs) z = append_assoc (text v) (44 ∷ line (v_cons w vs)) z

-- the byte that ends the members, which no text begins with
abbrev closes : ℕ → Bool
closes c = eqb c 125 || eqb c 41

begins : (v : Value) → (b : ℕ) × (s : List ℕ) × (text v ≡ b ∷ s) × (closes b ≡ false)
unfolding text
begins (v_bool true) = (_, _, refl, refl)
begins (v_bool false) = (_, _, refl, refl)
begins (v_string s) = (_, _, refl, refl)
begins (v_ext is_decimal z) = (_, _, refl, refl)
begins (v_ext datetime z) = (_, _, refl, refl)
begins (v_ext duration z) = (_, _, refl, refl)
begins (v_bits w n) = (_, _, refl, refl)
begins v_none = (_, _, refl, refl)
begins (v_some v) = (_, _, refl, refl)
begins (v_set vs) = (_, _, refl, refl)
begins (v_entity r s) = (_, _, refl, refl)
begins (v_record r vs) = (_, _, refl, refl)

module _ (c : ℕ) (a b : List ℕ) (shut : closes c ≡ true) where
  -- no members and some
  none-some : (w : Value) (ws : Values) → c ∷ a ≡ line (v_cons w ws) ++ (c ∷ b) → ⊥
  none-some w ws e =
      let s = begins w in
      let q = e ∙ first_rest w ws (c ∷ b) ∙ ap (λ (x : List ℕ). x ++ rest ws (c ∷ b)) s.2 in
      true≢false (sym shut ∙ ap closes (head-eq_of_cons-eq q) ∙ s.3)

  -- after a member
  next : (vs ws : Values) → (line vs ++ (c ∷ a) ≡ line ws ++ (c ∷ b) → (vs ≡ ws) × (a ≡ b)) → rest vs (c ∷ a) ≡ rest ws (c ∷ b) → (vs ≡ ws) × (a ≡ b)
  next v_nil v_nil f e = (refl, tail-eq_of_cons-eq e)
  next v_nil (v_cons w ws) f e = absurd (true≢false (sym shut ∙ ap closes (head-eq_of_cons-eq e)))
  next (v_cons v vs) v_nil f e = absurd (true≢false (sym shut ∙ ap closes (sym (head-eq_of_cons-eq e))))
  next (v_cons v vs) (v_cons w ws) f e = f (tail-eq_of_cons-eq e)

-- R and Rs are of values that can be told two by two, where they are of one form: what they hold is as their texts have it, one number's
-- text is of one number, and what they have inside can be told
pub record Telling (R : Value → Value → Type 0) (Rs : Values → Values → Type 0) : Type 0 where
  pub strings : (s t : List ℕ) → R (v_string s) (v_string t) → (all is_byte s ≡ true) × (all is_byte t ≡ true)
  pub numbers : (x : Ext) (y z : ℤ) → R (v_ext x y) (v_ext x z) → InWord y × InWord z
  pub bits : (x n y m : ℕ) → R (v_bits x n) (v_bits y m) → decimal x ≡ decimal y → (x ≡ y) × (n < 2 ^ x) × (m < 2 ^ y)
  pub somes : (v w : Value) → R (v_some v) (v_some w) → R v w
  pub sets : (vs ws : Values) → R (v_set vs) (v_set ws) → Rs vs ws
  pub entities : (q : ℕ) (s : List ℕ) (r : ℕ) (t : List ℕ) → R (v_entity q s) (v_entity r t) → decimal q ≡ decimal r → (q ≡ r) × (all is_byte s ≡ true) × (all is_byte t ≡ true)
  pub records : (q : ℕ) (vs : Values) (r : ℕ) (ws : Values) → R (v_record q vs) (v_record r ws) → decimal q ≡ decimal r → (q ≡ r) × Rs vs ws
  pub first : (v w : Value) (vs ws : Values) → Rs (v_cons v vs) (v_cons w ws) → R v w
  pub others : (v w : Value) (vs ws : Values) → Rs (v_cons v vs) (v_cons w ws) → Rs vs ws

module _ (R : Value → Value → Type 0) (Rs : Values → Values → Type 0) (is : Telling R Rs) where
  -- the value u that w is found to be
  abbrev Found : Value → Value → List ℕ → List ℕ → Value → Type 0
  Found v w a b u = R v u × (text v ++ a ≡ text u ++ b) × (u ≡ w)

  found : (v w : Value) (a b : List ℕ) → R v w → text v ++ a ≡ text w ++ b → Led (Found v w a b) (text v ++ a)
  found v w a b h e = subst (Led (Found v w a b)) (sym e) (lead (Found v w a b) w b (h, e, refl))

  mutual
    unfolding text joined

    pub tell-by : (v w : Value) (a b : List ℕ) → R v w → Ends a → Ends b → text v ++ a ≡ text w ++ b → (v ≡ w) × (a ≡ b)
    tell-by (v_bool x) w a b h f g e = let l = led-truth (Found (v_bool x) w a b) x a (found (v_bool x) w a b h e) in (l.2, append_cancel_left (truth x) a b l.1)
    tell-by (v_string s) w a b h f g e =
        let l = found (v_string s) w a b h e in
        let d = is.strings s l.0 l.1.0 in
        let z = split-run (hex_text s) (hex_text l.0) a b (run_of _ (bytes-digits s d.0)) (run_of _ (bytes-digits l.0 d.1)) f g (append_cancel_left (bytes "s:") _ _ l.1.1) in
        (ap v_string (hex_text-same s l.0 z.0) ∙ l.1.2, z.1)
    tell-by (v_ext x y) w a b h f g e =
        let l = led-number (Found (v_ext x y) w a b) x (signed_decimal y) a (found (v_ext x y) w a b h e) in
        let d = is.numbers x y l.0 l.1.0 in
        let z = split-run (signed_decimal y) (signed_decimal l.0) a b (signed-run y) (signed-run l.0) f g
        (append_cancel_left (mark x) _ _ (sym (append_assoc (mark x) (signed_decimal y) a) ∙ l.1.1 ∙ append_assoc (mark x) (signed_decimal l.0) b)) in
        (ap (λ (i : ℤ). v_ext x i) (signed_same y l.0 d.0 d.1 z.0) ∙ l.1.2, z.1)
    tell-by (v_bits x n) w a b h f g e =
        let l = found (v_bits x n) w a b h e in
        let q = cut_led (bytes "bv") x l.0 58 _ _ a b refl l.2.1 in
        let d = is.bits x n l.0 l.1 l.2.0 q.0 in
        let z = split-run (hex (hex_width x) n) (hex (hex_width l.0) l.1) a b (run_of _ (hex-digits (hex_width x) n)) (run_of _ (hex-digits (hex_width l.0) l.1)) f g q.1 in
        (ap₂ {C = Value} v_bits d.0 (bits-same x l.0 n l.1 d.0 d.1 d.2 z.0) ∙ l.2.2, z.1)
    tell-by v_none w a b h f g e = let l = found v_none w a b h e in (l.2, append_cancel_left (bytes "none") a b l.1)
    tell-by (v_some v) w a b h f g e =
        let l = found (v_some v) w a b h e in
        let z = tell-by v l.0 (41 ∷ a) (41 ∷ b) (is.somes v l.0 l.1.0) refl refl
        (sym (append_assoc (text v) (bytes ")") a) ∙ append_cancel_left (bytes "some(") _ _ l.1.1 ∙ append_assoc (text l.0) (bytes ")") b) in
        (ap v_some z.0 ∙ l.1.2, tail-eq_of_cons-eq z.1)
    tell-by (v_set vs) w a b h f g e =
        let l = found (v_set vs) w a b h e in
        let z = tell-all vs l.0 125 a b (is.sets vs l.0 l.1.0) refl refl
        (sym (append_assoc (line vs) (bytes "}") a) ∙ append_cancel_left (bytes "{") _ _ l.1.1 ∙ append_assoc (line l.0) (bytes "}") b) in
        (ap v_set z.0 ∙ l.1.2, z.1)
    tell-by (v_entity o s) w a b h f g e =
        let l = found (v_entity o s) w a b h e in
        let q = cut_led (bytes "e") o l.0 58 _ _ a b refl l.2.1 in
        let d = is.entities o s l.0 l.1 l.2.0 q.0 in
        let z = split-run (hex_text s) (hex_text l.1) a b (run_of _ (bytes-digits s d.1)) (run_of _ (bytes-digits l.1 d.2)) f g q.1 in
        (ap₂ {C = Value} v_entity d.0 (hex_text-same s l.1 z.0) ∙ l.2.2, z.1)
    tell-by (v_record o vs) w a b h f g e =
        let l = found (v_record o vs) w a b h e in
        let q = cut_led (bytes "r") o l.0 40 (line vs ++ bytes ")") (line l.1 ++ bytes ")") a b refl l.2.1 in
        let d = is.records o vs l.0 l.1 l.2.0 q.0 in
        let z = tell-all vs l.1 41 a b d.1 refl refl (sym (append_assoc (line vs) (bytes ")") a) ∙ q.1 ∙ append_assoc (line l.1) (bytes ")") b) in
        (ap₂ {C = Value} v_record d.0 z.0 ∙ l.2.2, z.1)

    tell-all : (vs ws : Values) (c : ℕ) (a b : List ℕ) → Rs vs ws → closes c ≡ true → in_run c ≡ false → line vs ++ (c ∷ a) ≡ line ws ++ (c ∷ b) → (vs ≡ ws) × (a ≡ b)
    tell-all v_nil v_nil c a b h s t e = (refl, tail-eq_of_cons-eq e)
    tell-all v_nil (v_cons w ws) c a b h s t e = absurd (none-some c a b s w ws e)
    tell-all (v_cons v vs) v_nil c a b h s t e = absurd (none-some c b a s v vs (sym e))
    tell-all (v_cons v vs) (v_cons w ws) c a b h s t e =
        let z = tell-by v w (rest vs (c ∷ a)) (rest ws (c ∷ b)) (is.first v w vs ws h) (rest-ends vs (c ∷ a) t) (rest-ends ws (c ∷ b) t)
        (sym (first_rest v vs (c ∷ a)) ∙ e ∙ first_rest w ws (c ∷ b)) in
        let y = next c a b s vs ws (λ m. tell-all vs ws c a b (is.others v w vs ws h) s t m) z.1 in
        (ap₂ {C = Values} v_cons z.0 y.0, y.1)

-- of one sort, whatever is asked of their sets
module _ (A B : Values → Type 0) (T : Tables) where
  abbrev Both : Value → Value → Type 0
  Both v w = (r : ℕ) × HasSort v A T r × HasSort w B T r

  -- the members of a set, or the fields of a record
  abbrev Each : Values → Values → Type 0
  Each vs ws = ((r : ℕ) × HaveSort vs A T r × HaveSort ws B T r) ⊎ ((fs : List ℕ) × FieldSorts vs A T fs × FieldSorts ws B T fs)

  first-sorted : (v w : Value) (vs ws : Values) → Each (v_cons v vs) (v_cons w ws) → Both v w
  first-sorted v w vs ws (inl h) = (h.0, h.1.0, h.2.0)
  first-sorted v w vs ws (inr h) =
      (h.1.first, h.1.head, subst (λ (i : ℕ). HasSort w B T i) (head-eq_of_cons-eq (sym h.2.both ∙ h.1.both)) h.2.head)

  others-sorted : (v w : Value) (vs ws : Values) → Each (v_cons v vs) (v_cons w ws) → Each vs ws
  others-sorted v w vs ws (inl h) = inl (h.0, h.1.1, h.2.1)
  others-sorted v w vs ws (inr h) =
      inr (h.1.rest, h.1.tail, subst (λ (i : List ℕ). FieldSorts ws B T i) (tail-eq_of_cons-eq (sym h.2.both ∙ h.1.both)) h.2.tail)

  sorted : Telling Both Each
  sorted = record {
    strings = λ s t h. (utf8-bytes s h.1.1, utf8-bytes t h.2.1);
    numbers = λ x y z h. (h.1.1, h.2.1);
    bits = λ x n y m h e. (cc (h.1.0, h.2.0), h.1.1, h.2.1);
    somes = λ v w h. (h.1.inner, h.1.has, subst (λ (q : ℕ). HasSort w B T q) (cc (h.1.here, h.2.here)) h.2.has);
    sets = λ vs ws h. inl (h.1.0.inner, h.1.0.has, subst (λ (q : ℕ). HaveSort ws B T q) (cc (h.1.0.here, h.2.0.here)) h.2.0.has);
    entities = λ q s r t h e. (h.1.same ∙ sym h.2.same, utf8-bytes s h.1.has, utf8-bytes t h.2.has);
    records = λ q vs r ws h e. (h.1.same ∙ sym h.2.same, inr (h.1.fields, h.1.has, subst (λ (fs : List ℕ). FieldSorts ws B T fs) (cc (h.1.here, h.2.here)) h.2.has));
    first = first-sorted;
    others = others-sorted;
  }

  pub tell : (v w : Value) (r : ℕ) (a b : List ℕ) → HasSort v A T r → HasSort w B T r → Ends a → Ends b → text v ++ a ≡ text w ++ b → (v ≡ w) × (a ≡ b)
  tell v w r a b h k f g e = tell-by Both Each sorted v w a b (r, h, k) f g e

  -- values of one sort with one text are one, whatever is asked of their sets
  pub tells : (v w : Value) (r : ℕ) → HasSort v A T r → HasSort w B T r → text v ≡ text w → v ≡ w
  tells v w r h k e = (tell v w r [] [] h k tt tt (ap (λ (x : List ℕ). x ++ []) e)).0
