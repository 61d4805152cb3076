-- Whether two values are one, found out part by part: leaves by what they hold, options and records by what is inside, sets by their members.
-- Assumes nothing.
use mathlib.Core.Path.{◌≡◌, refl, sym, ap, ap₂, ◌∙◌, subst}
use mathlib.Core.Bool.{Bool, true, false, not, cond, ◌&&◌, true≢false}
use mathlib.Core.List.Memᴰ
use mathlib.Core.List.{List, [], ◌∷◌}
use Prim.Native.Nat.{ℕ}
use lib.Dec.{eqb}
use lib.IntN.{ℤ}
use borrow.Author.Tests.{eq-eqb, eqb-true}
use Rattle.ground.specs.Lists.{any, all}
use Rattle.ground.proofs.Tests.{by_test, both_left, both_right}
use Rattle.order.specs.Every.{Among}
use Rattle.arena.specs.Text.{same_text}
use Rattle.arena.proofs.Texts.{same-equal, same_refl}
use Rattle.tables.specs.Sort.{Ext}
use Rattle.values.specs.Equal.{equal}
use Rattle.values.specs.Normal.{normal, normals}
use Rattle.values.specs.Plain.{PlainValues}
use Rattle.values.specs.Same.{same}
use Rattle.values.specs.Value.{Value, Values, v_bool, v_string, v_ext, v_bits, v_none, v_some, v_set, v_entity, v_record, v_nil, v_cons, listed}
use Rattle.values.proofs.Decisions.{decided-yes, decided-no, decided_true}
use Rattle.values.proofs.Sets.{Within, set_same, same_set, some_same, same_some, record_same, same_record, fields-same, same-fields}

-- a test that passes exactly where they are one
pub same_by : (v w : Value) (b : Bool) → (b ≡ true → normal v ≡ normal w) → (normal v ≡ normal w → b ≡ true) → b ≡ same v w
same_by v w b f g =
    by_test b
    (λ h. h ∙ sym (decided-yes (equal (normal v) (normal w)) (f h)))
    (λ h. h ∙ sym (decided-no (equal (normal v) (normal w)) (λ e. true≢false (sym (g e) ∙ h))))

both : {a b : Bool} → a ≡ true → b ≡ true → (a && b) ≡ true
both p q = rw (p, q) refl

-- members
one_of : {A : Type 0} (test : A → Bool) (xs : List A) → any test xs ≡ true → (x : A) × Among x xs × (test x ≡ true)
unfolding any
one_of test [] e = absurd (true≢false (sym e))
one_of test (x ∷ xs) e =
    by_test (test x)
    (λ h. (x, Memᴰ.head refl, h))
    (λ h. let p = one_of test xs (rw h at e) in (p.0, Memᴰ.tail p.1, p.2))

of_one : {A : Type 0} (test : A → Bool) (xs : List A) (x : A) → Among x xs → test x ≡ true → any test xs ≡ true
unfolding any
of_one test (y ∷ xs) x (Memᴰ.head e) h = let k : test y ≡ true = ap test (sym e) ∙ h in rw k refl
of_one test (y ∷ xs) x (Memᴰ.tail m) h = by_test (test y) (λ k. rw k refl) (λ k. rw k (of_one test xs x m h))
of_one {A = A} test [] x x4 h = elim x4 [ ]

each_of : {A : Type 0} (test : A → Bool) (xs : List A) → all test xs ≡ true → (x : A) → Among x xs → test x ≡ true
unfolding all
each_of test (y ∷ xs) e x (Memᴰ.head k) = ap test k ∙ both_left (test y) (all test xs) e
each_of test (y ∷ xs) e x (Memᴰ.tail m) = each_of test xs (both_right (test y) (all test xs) e) x m
each_of {A = A} test [] e x x4 = elim x4 [ ]

of-each : {A : Type 0} (test : A → Bool) (xs : List A) → ((x : A) → Among x xs → test x ≡ true) → all test xs ≡ true
unfolding all
of-each test [] f = refl
of-each test (x ∷ xs) f = both (f x (Memᴰ.head refl)) (of-each test xs (λ y m. f y (Memᴰ.tail m)))

-- each of the first is one of the second, and each of the second one of the first, told pair by pair
abbrev pub covered : Values → Values → Bool
covered vs ws = all (λ v. any (λ w. same v w) (listed ws)) (listed vs)

abbrev pub reached : Values → Values → Bool
reached vs ws = all (λ w. any (λ v. same v w) (listed vs)) (listed ws)

module _ (vs ws : Values) (p : PlainValues vs) (q : PlainValues ws) where
  to-within : covered vs ws ≡ true → Within vs ws
  to-within e v m =
      let k = one_of (λ w. same v w) (listed ws) (each_of (λ x. any (λ w. same x w) (listed ws)) (listed vs) e v m) in
      (k.0, k.1, decided_true (equal (normal v) (normal k.0)) k.2)

  to-reached : reached vs ws ≡ true → Within ws vs
  to-reached e w m =
      let k = one_of (λ v. same v w) (listed vs) (each_of (λ x. any (λ v. same v x) (listed vs)) (listed ws) e w m) in
      (k.0, k.1, sym (decided_true (equal (normal k.0) (normal w)) k.2))

  from-within : Within vs ws → covered vs ws ≡ true
  from-within f = of-each _ (listed vs) (λ v m. let k = f v m in of_one (λ w. same v w) (listed ws) k.0 k.1 (decided-yes (equal (normal v) (normal k.0)) k.2))

  from-reached : Within ws vs → reached vs ws ≡ true
  from-reached f = of-each _ (listed ws) (λ w m. let k = f w m in of_one (λ v. same v w) (listed vs) k.0 k.1 (decided-yes (equal (normal k.0) (normal w)) (sym k.2)))

  pub sets_same : (covered vs ws && reached vs ws) ≡ same (v_set vs) (v_set ws)
  sets_same =
      same_by (v_set vs) (v_set ws) (covered vs ws && reached vs ws)
      (λ h. set_same vs ws p q (to-within (both_left (covered vs ws) (reached vs ws) h)) (to-reached (both_right (covered vs ws) (reached vs ws) h)))
      (λ e. both (from-within (same_set vs ws p e)) (from-reached (same_set ws vs q (sym e))))

-- options and records
pub somes-same : (v w : Value) → same v w ≡ same (v_some v) (v_some w)
somes-same v w = same_by (v_some v) (v_some w) (same v w) (λ h. some_same v w (decided_true (equal (normal v) (normal w)) h)) (λ e. decided-yes (equal (normal v) (normal w)) (same_some v w e))

-- fields side by side; of unlike counts they differ
abbrev pub same_fields : Values → Values → Bool
same_fields v_nil v_nil = true
same_fields v_nil (v_cons w ws) = false
same_fields (v_cons v vs) v_nil = false
same_fields (v_cons v vs) (v_cons w ws) = same v w && same_fields vs ws

fields-one : (vs ws : Values) → same_fields vs ws ≡ true → normals vs ≡ normals ws
unfolding normal
fields-one v_nil v_nil e = refl
fields-one v_nil (v_cons w ws) e = absurd (true≢false (sym e))
fields-one (v_cons v vs) v_nil e = absurd (true≢false (sym e))
fields-one (v_cons v vs) (v_cons w ws) e =
    fields-same v w vs ws (decided_true (equal (normal v) (normal w)) (both_left (same v w) (same_fields vs ws) e)) (fields-one vs ws (both_right (same v w) (same_fields vs ws) e))

no_fields : Values → Bool
no_fields v_nil = true
no_fields (v_cons v vs) = false

one-fields : (vs ws : Values) → normals vs ≡ normals ws → same_fields vs ws ≡ true
unfolding normal no_fields
one-fields v_nil v_nil e = refl
one-fields v_nil (v_cons w ws) e = absurd (true≢false (ap no_fields e))
one-fields (v_cons v vs) v_nil e = absurd (true≢false (sym (ap no_fields e)))
one-fields (v_cons v vs) (v_cons w ws) e =
    let p = same-fields v w vs ws e in
    both (decided-yes (equal (normal v) (normal w)) p.0) (one-fields vs ws p.1)

pub records-same : (r q : ℕ) (vs ws : Values) → (eqb r q && same_fields vs ws) ≡ same (v_record r vs) (v_record q ws)
records-same r q vs ws =
    same_by (v_record r vs) (v_record q ws) (eqb r q && same_fields vs ws)
    (λ h. record_same r q vs ws (eqb-true r q (both_left (eqb r q) (same_fields vs ws) h)) (fields-one vs ws (both_right (eqb r q) (same_fields vs ws) h)))
    (λ e. let p = same_record r q vs ws e in both (eq-eqb r q p.0) (one-fields vs ws p.1))

-- values of unlike forms
abbrev pub form_of : Value → ℕ
form_of (v_bool b) = 0
form_of (v_string s) = 1
form_of (v_ext e z) = 2
form_of (v_bits w n) = 3
form_of v_none = 4
form_of (v_some v) = 5
form_of (v_set vs) = 6
form_of (v_entity r s) = 7
form_of (v_record r vs) = 8

form-kept : (v : Value) → form_of (normal v) ≡ form_of v
unfolding normal
form-kept (v_bool b) = refl
form-kept (v_string s) = refl
form-kept (v_ext e z) = refl
form-kept (v_bits w n) = refl
form-kept v_none = refl
form-kept (v_some v) = refl
form-kept (v_set vs) = refl
form-kept (v_entity r s) = refl
form-kept (v_record r vs) = refl

pub unlike : (v w : Value) → (form_of v ≡ form_of w → ⊥) → false ≡ same v w
unlike v w n = same_by v w false (λ h. absurd (true≢false (sym h))) (λ e. absurd (n (sym (form-kept v) ∙ ap form_of e ∙ form-kept w)))

-- leaves, by what they hold
bool-one : (a b : Bool) → ◌≡◌ {A = Value} (v_bool a) (v_bool b) → a ≡ b
bool-one a b e = cc

pub bools_same : (a b : Bool) → cond a b (not b) ≡ same (v_bool a) (v_bool b)
unfolding normal
bools_same true true = same_by (v_bool true) (v_bool true) true (λ h. refl) (λ e. refl)
bools_same true false = same_by (v_bool true) (v_bool false) false (λ h. absurd (true≢false (sym h))) (λ e. sym (bool-one true false e))
bools_same false true = same_by (v_bool false) (v_bool true) false (λ h. absurd (true≢false (sym h))) (λ e. bool-one false true e)
bools_same false false = same_by (v_bool false) (v_bool false) true (λ h. refl) (λ e. refl)

pub strings-same : (s t : List ℕ) → same_text s t ≡ same (v_string s) (v_string t)
unfolding normal
strings-same s t = same_by (v_string s) (v_string t) (same_text s t) (λ h. ap v_string (same-equal s t h)) (λ e. let q : s ≡ t = cc in subst (λ (u : List ℕ). same_text s u ≡ true) q (same_refl s))

pub bits-one : (w x n m : ℕ) → (eqb w x && eqb n m) ≡ same (v_bits w n) (v_bits x m)
unfolding normal
bits-one w x n m =
    same_by (v_bits w n) (v_bits x m) (eqb w x && eqb n m)
    (λ h. ap₂ {C = Value} v_bits (eqb-true w x (both_left (eqb w x) (eqb n m) h)) (eqb-true n m (both_right (eqb w x) (eqb n m) h)))
    (λ e. let p : w ≡ x = cc in let q : n ≡ m = cc in both (eq-eqb w x p) (eq-eqb n m q))

pub entities-same : (r q : ℕ) (s t : List ℕ) → (eqb r q && same_text s t) ≡ same (v_entity r s) (v_entity q t)
unfolding normal
entities-same r q s t =
    same_by (v_entity r s) (v_entity q t) (eqb r q && same_text s t)
    (λ h. ap₂ {C = Value} v_entity (eqb-true r q (both_left (eqb r q) (same_text s t) h)) (same-equal s t (both_right (eqb r q) (same_text s t) h)))
    (λ e. let p : r ≡ q = cc in let k : s ≡ t = cc in both (eq-eqb r q p) (subst (λ (u : List ℕ). same_text s u ≡ true) k (same_refl s)))

pub nones_same : true ≡ same v_none v_none
unfolding normal
nones_same = same_by v_none v_none true (λ h. refl) (λ e. refl)

-- numbers of one kind; of unlike kinds they differ
pub numbers-same : (e f : Ext) (y z : ℤ) (b : Bool) → (b ≡ true → (e ≡ f) × (y ≡ z)) → ((e ≡ f) × (y ≡ z) → b ≡ true) → b ≡ same (v_ext e y) (v_ext f z)
unfolding normal
numbers-same e f y z b g h = same_by (v_ext e y) (v_ext f z) b (λ k. ap₂ {C = Value} v_ext (g k).0 (g k).1) (λ k. let p : e ≡ f = cc in let q : y ≡ z = cc in h (p, q))
