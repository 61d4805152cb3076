-- Texts one after the other, each in the room of the text as it was written; and a text at the front of a part that was lent.
-- Assumes nothing.
use mathlib.Core.Path.{◌≡◌, refl, sym, ap, ◌∙◌, subst}
use mathlib.Core.List.{List, [], ◌++◌, append_assoc, append-nil}
use Prim.Native.Nat.{ℕ, min, ◌+◌, ◌-◌, ◌^◌, ◌≤◌, ◌<◌}
use native.Mathlib.Nat.{zero-add}
use native.Mathlib.Omega.{arith}
use lib.ListN.{length, take, drop, length-append, length-take, length-drop, take-append-drop, drop_of_length-le}
use lib.Seq.{take_all, take_at, drop_at, take-take, drop-drop, length-take-le, take-append-add, take-append-le, drop-append-add, drop-append-le}
use borrow.Rule.Slice.PartMut.{put_mid, same_len_mid, mid_len, drop_put}
use Rattle.ground.proofs.Tests.{one-result}
use Rattle.lent.specs.Put.{Offers}
use Rattle.lent.proofs.Pieces.{piece-long, piece-front, piece-behind}
use Rattle.literals.specs.Answer.{capped}
use Rattle.value_text.specs.Wrote.{Wrote}
use Rattle.value_text.specs.Laid.{Laid, Lays}

-- what is the same from a place on is the same from a later one on
drop-later : (m n : ℕ) (a b : List ℕ) → m ≤ n → drop m a ≡ drop m b → drop n a ≡ drop n b
drop-later m n a b h e =
    let k : m + (n - m) ≡ n = omega arith in
    sym (drop-drop (n - m) m a ∙ ap (λ (i : ℕ). drop i a) k) ∙ ap (drop (n - m)) e ∙ (drop-drop (n - m) m b ∙ ap (λ (i : ℕ). drop i b) k)

pub lays_then : {x x' y y' a b c : List ℕ} {at mid next : ℕ} → Lays x y a b at mid → Lays x' y' b c mid next → Lays (x ++ x') (y ++ y') a c at next
lays_then {x} {x'} {y} {y'} {a} {b} {c} {at} {mid} {next} f g h =
    let l : length (x ++ x') ≡ length x + length x' = length-append x x' in
    let m : length (y ++ y') ≡ length y + length y' = length-append y y' in
    let p = f (omega arith) in
    let ps : length b ≡ length a = p.same in
    let pa : mid ≡ at + length y = p.after in
    let pw : length y ≤ length x = p.within in
    let q = g (omega arith) in
    let qa : next ≡ mid + length y' = q.after in
    let qw : length y' ≤ length x' = q.within in
    record {
      after = omega arith;
      within = omega arith;
      same = q.same ∙ ps;
      front = q.front ∙ ap (λ (t : List ℕ). t ++ y') p.front ∙ append_assoc (take at a) y y';
      beyond =
          drop-later (mid + length x') (at + length (x ++ x')) c b (omega arith) q.beyond
          ∙ drop-later (at + length x) (at + length (x ++ x')) b a (omega arith) p.beyond;
    }

-- a piece in its own room
pub lays_put : {x a b : List ℕ} {at next : ℕ} → Offers a b at x next → Lays x x a b at next
lays_put {x} {a} {b} {at} {next} f h =
    let p = f h in
    record {
      after = p.after;
      within = omega arith;
      same = piece-long p;
      front = piece-front p (omega (arith, p.after));
      beyond = piece-behind p (at + length x) (omega (arith, p.after));
    }

pub lays_none : (a : List ℕ) (at : ℕ) → Lays [] [] a a at at
lays_none a at h = record { after = omega arith; within = omega arith; same = refl; front = sym (append-nil (take at a)); beyond = refl }

pub lays_as : {x x' y y' a b : List ℕ} {at next : ℕ} → x ≡ x' → y ≡ y' → Lays x y a b at next → Lays x' y' a b at next
lays_as {x} {x'} {y} {y'} {a} {b} {at} {next} e g f =
    subst (λ (t : List ℕ). Lays t y' a b at next) e (subst (λ (t : List ℕ). Lays x t a b at next) g f)

-- what stands from a place on, where it was laid
pub laid-part : {x y b c : List ℕ} {p q : ℕ} → Laid x y b c p q → p + length x ≤ length b → take (q - p) (drop p c) ≡ y
laid-part {x} {y} {b} {c} {p} {q} d h =
    let da : q ≡ p + length y = d.after in
    let dw : length y ≤ length x = d.within in
    let u : length (take p b) ≡ p = length-take-le p b (omega arith) in
    let w : c ≡ take p b ++ (y ++ drop q c) = sym (take-append-drop q c) ∙ ap (λ (t : List ℕ). t ++ drop q c) d.front ∙ append_assoc (take p b) y (drop q c) in
    ap (take (q - p)) (ap (drop p) w ∙ drop_at (take p b) (y ++ drop q c) p u) ∙ take_at y (drop q c) (q - p) (let z : length y ≡ q - p = omega arith in z)

-- from the front on
pub wrote_front : {x y a b : List ℕ} {r : ℕ} → Lays x y a b 0 r → length x ≤ length a → Wrote (length x) y a b r
wrote_front {x} {y} {a} {b} {r} f h =
    let p = f (omega arith) in
    let e : r ≡ length y = omega (arith, p.after) in
    record {
      long = e;
      within = p.within;
      front = ap (λ (k : ℕ). take k b) (sym e) ∙ p.front;
      beyond = ap (λ (k : ℕ). drop k b) (sym (zero-add (length x))) ∙ p.beyond ∙ ap (λ (k : ℕ). drop k a) (zero-add (length x));
    }

-- the front of a part that is back in its place
part-front : (c part : List ℕ) (p q n : ℕ) → p ≤ length c → n ≤ length part → take (p + n) (put_mid p (q - p) c part) ≡ take p c ++ take n part
part-front c part p q n h k =
    let l : length (take p c) ≡ p = length-take-le p c h in
    ap (λ (i : ℕ). take (i + n) (put_mid p (q - p) c part)) (sym l)
    ∙ take-append-add (take p c) (part ++ drop (q - p) (drop p c)) n
    ∙ ap (λ (t : List ℕ). take p c ++ t) (take-append-le n part (drop (q - p) (drop p c)) k)

-- as many bytes as a text is long are there where they are the text
taken-long : (n : ℕ) (part y : List ℕ) → take n part ≡ y → n ≡ length y → n ≤ length part
taken-long n part y e l = let m = ap length e in let k = length-take n part in omega arith

-- a place that is counted as far as a word goes
exact : (a n : ℕ) → n ≡ min a 18446744073709551615 → a < 2 ^ 64 → n ≡ a
exact a n e h = omega arith

-- a text at the front of the part from a place up to another one
module _ (c part : List ℕ) (p q : ℕ) (ordered : p ≤ q) (within : q ≤ length c) (long : length part ≡ q - p) where
  part_same : length (put_mid p (q - p) c part) ≡ length c
  part_same = same_len_mid p (q - p) c part (long ∙ sym (mid_len p q c within))

  -- in the room of what stands there already
  pub lays_part : {x x' y y' b : List ℕ} {n next : ℕ} → Lays x y b c p q → length x ≡ length x' → n ≡ length y' → length y' ≤ length y → take n part ≡ y' → next ≡ capped (p + n) → length b < 2 ^ 64 →
      Lays x' y' b (put_mid p (q - p) c part) p next
  lays_part {x} {x'} {y} {y'} {b} {n} {next} f e l w t m small h =
      let d = f (omega arith) in
      let da : q ≡ p + length y = d.after in
      let dw : length y ≤ length x = d.within in
      let ds : length c ≡ length b = d.same in
      let k : n ≤ length part = taken-long n part y' t l in
      let z : next ≡ p + n = exact (p + n) next m (omega arith) in
      let u : take p c ≡ take p b =
      sym (take-take p q c ordered) ∙ ap (take p) d.front ∙ take_at (take p b) y p (length-take-le p b (omega arith)) in
      record {
        after = z ∙ ap (λ (i : ℕ). p + i) l;
        within = omega arith;
        same = part_same ∙ ds;
        front = ap (λ (i : ℕ). take i (put_mid p (q - p) c part)) z ∙ part-front c part p q n (omega arith) k ∙ ap (λ (s : List ℕ). take p c ++ s) t ∙ ap (λ (s : List ℕ). s ++ y') u;
        beyond =
            ap (λ (i : ℕ). drop (p + i) (put_mid p (q - p) c part)) (sym e)
            ∙ drop-later q (p + length x) (put_mid p (q - p) c part) c (omega arith) (drop_put p q c part ordered within long)
            ∙ d.beyond ∙ ap (λ (i : ℕ). drop (p + i) b) e;
      }

-- a text at the front of the rest that was lent
pub lays_tail : (a part : List ℕ) (p : ℕ) → p ≤ length a → length part ≡ length (take (length a - p) (drop p a)) → length a < 2 ^ 64 → {x y : List ℕ} {n next : ℕ} →
    (length x ≤ length (take (length a - p) (drop p a)) → Wrote (length x) y (take (length a - p) (drop p a)) part n) → next ≡ capped (p + n) →
    Lays x y a (put_mid p (length a - p) a part) p next
lays_tail a part p under long small {x} {y} {n} {next} f m h =
    let t : take (length a - p) (drop p a) ≡ drop p a = take_all (length a - p) (drop p a) (rw (length-drop p a) (omega arith)) in
    let r : length (take (length a - p) (drop p a)) ≡ length a - p = mid_len p (length a) a (omega arith) in
    let w = f (omega arith) in
    let wl : n ≡ length y = w.long in
    let ww : length y ≤ length x = w.within in
    let z : next ≡ p + n = exact (p + n) next m (omega arith) in
    let k : length (take p a) ≡ p = length-take-le p a under in
    let o : drop (length a - p) (drop p a) ≡ [] = drop_of_length-le (drop p a) {i = length a - p} (rw (length-drop p a) (omega arith)) in
    record {
      after = z ∙ ap (λ (i : ℕ). p + i) wl;
      within = ww;
      same = same_len_mid p (length a - p) a part long;
      front =
          ap (λ (i : ℕ). take i (put_mid p (length a - p) a part)) z
          ∙ part-front a part p (length a) n under (omega arith)
          ∙ ap (λ (i : ℕ). take p a ++ take i part) wl ∙ ap (λ (s : List ℕ). take p a ++ s) w.front;
      beyond =
          ap (λ (i : ℕ). drop (i + length x) (put_mid p (length a - p) a part)) (sym k)
          ∙ drop-append-add (take p a) (part ++ drop (length a - p) (drop p a)) (length x)
          ∙ drop-append-le (length x) part (drop (length a - p) (drop p a)) (omega arith)
          ∙ ap (λ (s : List ℕ). drop (length x) part ++ s) o ∙ append-nil (drop (length x) part)
          ∙ w.beyond ∙ ap (drop (length x)) t ∙ drop-drop (length x) p a;
    }

-- any two results that a contract by `Wrote` allows agree: the length, the text, and the bytes past the room
pub one_wrote : {need : ℕ} {bytes entry d e : List ℕ} {r s : ℕ} → Wrote need bytes entry d r → Wrote need bytes entry e s → (r ≡ s) × (take r d ≡ take s e) × (drop need d ≡ drop need e)
one_wrote {need} {bytes} {entry} {d} {e} {r} {s} p q = (
  one-result p.long q.long,
  one-result (ap (λ (k : ℕ). take k d) p.long ∙ p.front) (ap (λ (k : ℕ). take k e) q.long ∙ q.front),
  one-result p.beyond q.beyond,
)

-- the same at a place: the answer, the bytes up to it, and those past the room of the text as it was written
pub one-laid : {written bytes entry d e : List ℕ} {at m n : ℕ} → Laid written bytes entry d at m → Laid written bytes entry e at n →
    (m ≡ n) × (take m d ≡ take n e) × (drop (at + length written) d ≡ drop (at + length written) e)
one-laid p q = (one-result p.after q.after, one-result p.front q.front, one-result p.beyond q.beyond)
