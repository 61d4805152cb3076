-- A text written to the front of a buffer, or refused for want of room.
-- Assumes nothing.
use Rattle.std.proofs.Common.{Err, Ok, Result}
use mathlib.Core.Path.{◌≡◌, refl, sym, ap, ◌∙◌, subst}
use mathlib.Core.List.{List, ◌++◌}
use Prim.Native.Nat.{ℕ, ◌+◌, ◌≤◌, ◌<◌}
use native.Mathlib.Omega.{arith}
use lib.ListN.{length, take, drop}
use lib.Seq.{take_at, drop_at}
use borrow.Author.Tests.{le-leb, lt-leb}
use Rattle.ground.proofs.Tests.{one-result, by_order}
use Rattle.refusals.specs.declared.Refusal.{Refusal}
use Rattle.lent.specs.Left.{Left, onto, refusing, writing, Leaves}
use Rattle.lent.specs.Put.{Puts, Fronts, Offers}

-- any two results that a contract by `Leaves` allows are equal, and so are the buffers
pub one_left : {left : Left} {r s : Result ℕ Refusal} {d e : List ℕ} → Leaves left r d → Leaves left s e → (r ≡ s) × (d ≡ e)
one_left p q = (one-result p.answers q.answers, one-result p.holds q.holds)

-- the same of a text at the front and of a piece at a place, with and without the question of room
pub one-front : {text entry d e : List ℕ} {m n : ℕ} → Fronts text entry d m → Fronts text entry e n → (m ≡ n) × (d ≡ e)
one-front p q = (one-result p.long q.long, one-result p.holds q.holds)

pub one-put : {entry d e : List ℕ} {at : ℕ} {bytes : List ℕ} {m n : ℕ} → Puts entry d at bytes m → Puts entry e at bytes n → (m ≡ n) × (d ≡ e)
one-put p q = (one-result p.after q.after, one-result p.holds q.holds)

pub one_offer : (entry d e : List ℕ) (at : ℕ) (bytes : List ℕ) (m n : ℕ) → at + length bytes ≤ length entry → Offers entry d at bytes m → Offers entry e at bytes n → (m ≡ n) × (d ≡ e)
one_offer entry d e at bytes m n room p q = one-put (p room) (q room)

-- a call for a text serves for one that is equal
pub leaves_as : (short : ℕ → Refusal) {a b : List ℕ} (buffer : List ℕ) {r : Result ℕ Refusal} {exit : List ℕ} → a ≡ b → Leaves (writing short a buffer) r exit → Leaves (writing short b buffer) r exit
leaves_as short buffer {r} {exit} q l = subst (λ (t : List ℕ). Leaves (writing short t buffer) r exit) q l

pub leaves-refused : (why : Refusal) (buffer : List ℕ) → Leaves (refusing why buffer) (Err why) buffer
leaves-refused why buffer = record { answers = refl; holds = refl }

module _ (short : ℕ → Refusal) (text buffer : List ℕ) where
  writing-fits : length text ≤ length buffer → writing short text buffer ≡ record { answer = Ok (length text); holds = onto text buffer }
  unfolding writing
  writing-fits h = rw (le-leb (length text) (length buffer) h)

  writing-short : length buffer < length text → writing short text buffer ≡ refusing (short (length text)) buffer
  unfolding writing
  writing-short h = rw (lt-leb (length text) (length buffer) h)

  pub leaves-text : (n : ℕ) (exit : List ℕ) → length text ≤ length buffer → n ≡ length text → exit ≡ onto text buffer → Leaves (writing short text buffer) (Ok n) exit
  leaves-text n exit h e f = rw (writing-fits h) (record { answers = ap Ok e; holds = f })

  pub leaves-short : (n : ℕ) → length buffer < length text → n ≡ length text → Leaves (writing short text buffer) (Err (short n)) buffer
  leaves-short n h e = rw (writing-short h) (record { answers = ap (λ (k : ℕ). Err (short k)) e; holds = refl })

-- what the contract says in plain words: on acceptance the text stands at the front and the bytes past it are as they were; on
-- refusal every byte is. So no program that writes past its text, or tells another length or need, meets it.
module _ (short : ℕ → Refusal) (text buffer : List ℕ) where
  pub written-front : {n : ℕ} {exit : List ℕ} → Leaves (writing short text buffer) (Ok n) exit → (n ≡ length text) × (take n exit ≡ text) × (drop n exit ≡ drop n buffer)
  unfolding onto
  written-front {n} {exit} l =
      by_order (length buffer) (length text)
      (λ h.
      let e : Ok n ≡ Err (short (length text)) = l.answers ∙ ap (λ (x : Left). x.answer) (writing-short short text buffer h) in
      let z : ◌≡◌ {A = ℕ} 0 1 = cc in
      absurd (omega arith))
      (λ h.
      let e : Ok n ≡ Ok (length text) = l.answers ∙ ap (λ (x : Left). x.answer) (writing-fits short text buffer h) in
      let m : n ≡ length text = cc in
      let f : exit ≡ text ++ drop (length text) buffer = l.holds ∙ ap (λ (x : Left). x.holds) (writing-fits short text buffer h) in (
        m,
        ap (take n) f ∙ take_at text (drop (length text) buffer) n (sym m),
        ap (drop n) f ∙ drop_at text (drop (length text) buffer) n (sym m) ∙ ap (λ (k : ℕ). drop k buffer) (sym m),
      ))

  pub written-not : {why : Refusal} {exit : List ℕ} → Leaves (writing short text buffer) (Err why) exit → (why ≡ short (length text)) × (length buffer < length text) × (exit ≡ buffer)
  written-not {why} {exit} l =
      by_order (length buffer) (length text)
      (λ h.
      let e : Err why ≡ Err (short (length text)) = l.answers ∙ ap (λ (x : Left). x.answer) (writing-short short text buffer h) in
      ((cc), h, l.holds ∙ ap (λ (x : Left). x.holds) (writing-short short text buffer h)))
      (λ h.
      let e : Err why ≡ Ok (length text) = l.answers ∙ ap (λ (x : Left). x.answer) (writing-fits short text buffer h) in
      let z : ◌≡◌ {A = ℕ} 0 1 = cc in
      absurd (omega arith))
