-- What a table gives, its arms in order and without repeats: what the last of the written arms that test the value gives.
-- Assumes nothing.
use Rattle.std.proofs.Common.{Some}
use mathlib.Core.Path.{◌≡◌, refl, ap, sym, ◌∙◌, subst}
use mathlib.Core.Bool.{Bool, true, false, cond, not, true≢false}
use mathlib.Core.List.{List, [], ◌∷◌, map}
use Prim.Native.Nat.{ℕ, zero, suc}
use Rattle.ground.specs.Lists.{any, distinct, at}
use Rattle.ground.proofs.Tests.{by_test, both_left, both_right}
use Rattle.order.specs.Order.{before, insert, arranged}
use Rattle.order.specs.Every.{Every, none, also, Ascends, empty, first}
use Rattle.order.proofs.Befores.{never, before_irreflexive, by-order-of}
use Rattle.order.proofs.Everies.{every-mapped}
use Rattle.order.proofs.Inserts.{insert-here, insert-past, insert-same, insert-none}
use Rattle.order.proofs.Arranges.{every-arranged, first-before, ascends_arranged}
use Rattle.tables.proofs.Places.{none-some, some_one}
use Rattle.values.specs.Normal.{normal}
use Rattle.values.specs.Text.{text}
use Rattle.values.specs.Value.{Value}
use Rattle.model.specs.Model.{Arm, Table, table_of}
use Rattle.model.specs.Listing.{normal_arm}
use Rattle.values.specs.Equal.{decided, equal}
use Rattle.demand.specs.Lookup.{first_of, lookup, Gives, by_arm, by_default}
use Rattle.demand.specs.Premise.{same_key}
use Rattle.values.proofs.Decisions.{decided-yes, decided-no, decided_true, decided_false}

abbrev pub key_text : Arm → List ℕ
key_text a = text a.«when»

-- the value is the arm's key
abbrev pub hits : Arm → Value → Bool
hits a v = decided (equal a.«when» v)

-- by the arms as they were written: the last that hits, the first that hits
abbrev pub last_hit : List Arm → Value → Value → Value
last_hit [] else v = else
last_hit (a ∷ arms) else v = last_hit arms (cond (hits (normal_arm a) v) (normal a.«then») else) v

abbrev pub first_hit : List Arm → Value → Value → Value
first_hit [] else v = else
first_hit (a ∷ arms) else v = cond (hits (normal_arm a) v) (normal a.«then») (first_hit arms else v)

abbrev After : Arm → List Arm → Type 0
After a bs = Every (λ b. before (key_text a) (key_text b) ≡ true) bs

-- of two keys one before the other, a value is not both
not-both : (a b : Arm) (v : Value) → before (key_text a) (key_text b) ≡ true → a.«when» ≡ v → b.«when» ≡ v → ⊥
not-both a b v p e q = never (sym p ∙ ap (λ (k : Value). before (key_text a) (text k)) (q ∙ sym e) ∙ before_irreflexive (key_text a))

missed : (a : Arm) (bs : List Arm) (else v : Value) → After a bs → a.«when» ≡ v → first_of bs else v ≡ else
unfolding first_of
missed a [] else v none e = refl
missed a (b ∷ bs) else v (also p ps) e =
    ap (λ (h : Bool). cond h b.«then» (first_of bs else v)) (decided-no (equal b.«when» v) (λ q. not-both a b v p e q))
    ∙ missed a bs else v ps e

-- an arm before others decides where it hits
front : (a : Arm) (bs : List Arm) (else v : Value) → After a bs → cond (hits a v) a.«then» (first_of bs else v) ≡ first_of bs (cond (hits a v) a.«then» else) v
front a bs else v p =
    by_test (hits a v)
    (λ h. rw h (sym (missed a bs a.«then» v p (decided_true (equal a.«when» v) h))))
    (λ h. rw h refl)

-- an arm whose key stands already is not seen
again : (a b : Arm) (bs : List Arm) (else v : Value) → a.«when» ≡ b.«when» → first_of (b ∷ bs) else v ≡ first_of (b ∷ bs) (cond (hits a v) a.«then» else) v
unfolding first_of
again a b bs else v e =
    by_test (hits b v)
    (λ h. rw h refl)
    (λ h. let g : hits a v ≡ false = ap (λ (k : Value). decided (equal k v)) e ∙ h in rw (h, g) refl)

-- K: values of one sort, among which the text tells one from another
module _ (K : Value → Type 0) (tells : (v w : Value) → K v → K w → text v ≡ text w → v ≡ w) where
  lookup-insert : (a : Arm) (bs : List Arm) (else v : Value) → K a.«when» → Every (λ b. K b.«when») bs → Ascends key_text bs →
      first_of (insert key_text true a bs) else v ≡ first_of bs (cond (hits a v) a.«then» else) v
  unfolding first_of
  lookup-insert a [] else v k none empty = ap (λ (l : List Arm). first_of l else v) (insert-none key_text true a)
  lookup-insert a (b ∷ bs) else v k (also q qs) (first h s) =
      by-order-of (key_text a) (key_text b)
      (λ e. ap (λ (l : List Arm). first_of l else v) (insert-here key_text true a b bs e) ∙ front a (b ∷ bs) else v (first-before key_text true a b bs e h))
      (λ e. ap (λ (l : List Arm). first_of l else v) (insert-same key_text true a b bs e) ∙ again a b bs else v (tells a.«when» b.«when» k q e))
      (λ e. ap (λ (l : List Arm). first_of l else v) (insert-past key_text true a b bs e)
      ∙ ap (λ (w : Value). cond (hits b v) b.«then» w) (lookup-insert a bs else v k qs s))

  pub lookup-arranged : (arms : List Arm) (else v : Value) → Every (λ a. K (normal a.«when»)) arms →
      first_of (arranged key_text true (map normal_arm arms)) else v ≡ last_hit arms else v
  unfolding arranged first_of
  lookup-arranged [] else v none = refl
  lookup-arranged (a ∷ arms) else v (also k ks) =
      lookup-insert (normal_arm a) (arranged key_text true (map normal_arm arms)) else v k
      (every-arranged key_text true (λ b. K b.«when») (map normal_arm arms) (every-mapped (λ b. K b.«when») normal_arm arms ks))
      (ascends_arranged key_text true (map normal_arm arms))
      ∙ lookup-arranged arms (cond (hits (normal_arm a) v) (normal a.«then») else) v ks

-- where no two arms test equal values, the last that hits is the first
unlike : (a : Arm) (arms : List Arm) (else v : Value) → any (same_key a) arms ≡ false → normal a.«when» ≡ v → last_hit arms else v ≡ else
unfolding any
unlike a [] else v n e = refl
unlike a (b ∷ arms) else v n e =
    by_test (same_key a b)
    (λ h. absurd (true≢false (rw h at n)))
    (λ h.
    ap (λ (t : Bool). last_hit arms (cond t (normal b.«then») else) v)
    (decided-no (equal (normal b.«when») v) (λ q. decided_false (equal (normal a.«when») (normal b.«when»)) h (e ∙ sym q)))
    ∙ unlike a arms else v (rw h at n) e)

pub not-any : (t : Bool) → not t ≡ true → t ≡ false
not-any true e = absurd (true≢false (sym e))
not-any false e = refl

pub last-first : (arms : List Arm) (else v : Value) → distinct same_key arms ≡ true → last_hit arms else v ≡ first_hit arms else v
unfolding distinct
last-first [] else v d = refl
last-first (a ∷ arms) else v d =
    let n = not-any (any (same_key a) arms) (both_left (not (any (same_key a) arms)) (distinct same_key arms) d) in
    by_test (hits (normal_arm a) v)
    (λ h. rw h (unlike a arms (normal a.«then») v n (decided_true (equal (normal a.«when») v) h)))
    (λ h. rw h (last-first arms else v (both_right (not (any (same_key a) arms)) (distinct same_key arms) d)))

-- and where all arms give one value
abbrev pub Give : Value → List Arm → Type 0
Give w arms = Every (λ a. normal a.«then» ≡ w) arms

cond_same : (t : Bool) (w : Value) → cond t w w ≡ w
cond_same true w = refl
cond_same false w = refl

given-last : (arms : List Arm) (w v : Value) → Give w arms → last_hit arms w v ≡ w
given-last [] w v none = refl
given-last (a ∷ arms) w v (also g gs) =
    ap (λ (u : Value). last_hit arms u v) (ap (λ (u : Value). cond (hits (normal_arm a) v) u w) g ∙ cond_same (hits (normal_arm a) v) w) ∙ given-last arms w v gs

pub last-first-one : (arms : List Arm) (w else v : Value) → Give w arms → last_hit arms else v ≡ first_hit arms else v
last-first-one [] w else v none = refl
last-first-one (a ∷ arms) w else v (also g gs) =
    by_test (hits (normal_arm a) v)
    (λ h. rw h (ap (λ (u : Value). last_hit arms u v) g ∙ given-last arms w v gs ∙ sym g))
    (λ h. rw h (last-first-one arms w else v gs))

-- a table gives its first hit, and where its keys ascend nothing else
gives-later : (a : Arm) (arms : List Arm) (else v w : Value) → (a.«when» ≡ v → ⊥) → Gives (table_of arms else) v w → Gives (table_of (a ∷ arms) else) v w
unfolding at
gives-later a arms else v w n (by_arm i b e p q) = by_arm (suc i) b e p q
gives-later a arms else v w n (by_default h q) = by_default (also n h) q

pub first-given : (arms : List Arm) (else v : Value) → Gives (table_of arms else) v (first_of arms else v)
unfolding first_of at
first-given [] else v = by_default none refl
first-given (a ∷ arms) else v =
    by_test (hits a v)
    (λ h. rw h (by_arm 0 a refl (decided_true (equal a.«when» v) h) refl))
    (λ h. rw h (gives-later a arms else v (first_of arms else v) (decided_false (equal a.«when» v) h) (first-given arms else v)))

pub every-at : {A : Type 0} (P : A → Type 0) (xs : List A) (i : ℕ) (y : A) → Every P xs → at xs i ≡ Some y → P y
unfolding at
every-at P [] i y none e = absurd (none-some e)
every-at P (x ∷ xs) zero y (also p ps) e = subst P (some_one e) p
every-at P (x ∷ xs) (suc i) y (also p ps) e = every-at P xs i y ps e

arm-first : (arms : List Arm) (else v : Value) (i : ℕ) (a : Arm) → Ascends key_text arms → at arms i ≡ Some a → a.«when» ≡ v → a.«then» ≡ first_of arms else v
unfolding first_of at
arm-first [] else v i a empty e p = absurd (none-some e)
arm-first (b ∷ arms) else v zero a (first h s) e p =
    let g : hits b v ≡ true = decided-yes (equal b.«when» v) (ap (λ (k : Arm). k.«when») (some_one e) ∙ p) in
    rw g (ap (λ (k : Arm). k.«then») (sym (some_one e)))
arm-first (b ∷ arms) else v (suc i) a (first h s) e p =
    let f = every-at (λ c. before (key_text b) (key_text c) ≡ true) arms i a h e in
    let g : hits b v ≡ false = decided-no (equal b.«when» v) (λ q. not-both b a v f q p) in
    rw g (arm-first arms else v i a s e p)

default-first : (arms : List Arm) (else v : Value) → Every (λ a. a.«when» ≡ v → ⊥) arms → else ≡ first_of arms else v
unfolding first_of
default-first [] else v none = refl
default-first (a ∷ arms) else v (also n ns) = let g : hits a v ≡ false = decided-no (equal a.«when» v) n in rw g (default-first arms else v ns)

pub only-first : (t : Table) (v w : Value) → Ascends key_text t.arms → Gives t v w → w ≡ lookup t v
only-first t v w s (by_arm i a e p q) = sym q ∙ arm-first t.arms t.«else» v i a s e p
only-first t v w s (by_default n q) = sym q ∙ default-first t.arms t.«else» v n
