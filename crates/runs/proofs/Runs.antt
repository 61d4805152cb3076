-- A run and its records: parts of it, and the places where they begin.
-- Assumes nothing.
use mathlib.Core.Path.{◌≡◌, refl, ap, sym, ◌∙◌}
use mathlib.Core.Bool.{Bool, true, false, cond}
use mathlib.Core.List.{List, [], ◌∷◌, ◌++◌, append_assoc}
use Prim.Native.Nat.{ℕ, zero, suc, ◌+◌, ◌-◌, ◌≤◌, ◌<◌}
use native.Mathlib.Omega.{arith}
use lib.ListN.{length, get_or, drop, length-append, get_or-append}
use lib.Seq.{drop-drop, drop-append_seam, get_or-drop, get_or-append-add}
use Rattle.ground.proofs.Tests.{by_order}
use Rattle.order.specs.Order.{insert, arranged}
use Rattle.order.specs.Every.{none, also}
use Rattle.order.proofs.Befores.{by-order-of}
use Rattle.order.proofs.Inserts.{insert-here, insert-past, insert-same, insert-none}
use Rattle.runs.specs.Run.{key, run, plain}
use Rattle.runs.specs.Piece.{word, piece, key_at}
use Rattle.runs.specs.Place.{Plain, Ended}
use Rattle.runs.proofs.Words.{plain-head, plain-tail, word_record}
use Rattle.runs.proofs.Pieces.{piece_record}

pub run-nil : run [] ≡ []
unfolding run
run-nil = refl

pub run-cons : (r : List ℕ) (rs : List (List ℕ)) → run (r ∷ rs) ≡ r ++ (0 ∷ run rs)
unfolding run
run-cons r rs = refl

pub run-append : (us vs : List (List ℕ)) → run (us ++ vs) ≡ run us ++ run vs
run-append [] vs = sym (ap (λ (l : List ℕ). l ++ run vs) run-nil)
run-append (u ∷ us) vs =
    run-cons u (us ++ vs) ∙ ap (λ (l : List ℕ). u ++ (0 ∷ l)) (run-append us vs)
    ∙ sym (append_assoc u (0 ∷ run us) (run vs)) ∙ sym (ap (λ (l : List ℕ). l ++ run vs) (run-cons u us))

pub run_long : (r : List ℕ) (rs : List (List ℕ)) → length (run (r ∷ rs)) ≡ suc (length r + length (run rs))
run_long r rs = ap length (run-cons r rs) ∙ length-append r (0 ∷ run rs) ∙ omega arith

pub run-both : (us vs : List (List ℕ)) → length (run (us ++ vs)) ≡ length (run us) + length (run vs)
run-both us vs = ap length (run-append us vs) ∙ length-append (run us) (run vs)

pub run_none : (rs : List (List ℕ)) → length (run rs) ≡ 0 → rs ≡ []
run_none [] h = refl
run_none (r ∷ rs) h = absurd (omega (arith, run_long r rs))

-- what is arranged is not longer
insert-long : (last : Bool) (r : List ℕ) (rs : List (List ℕ)) → length (run (insert key last r rs)) ≤ suc (length r + length (run rs))
insert-long last r [] = omega (arith, ap (λ (l : List (List ℕ)). length (run l)) (insert-none key last r), run_long r [])
insert-long last r (q ∷ rs) =
    by-order-of (key r) (key q)
    (λ h. omega (arith, ap (λ (l : List (List ℕ)). length (run l)) (insert-here key last r q rs h), run_long r (q ∷ rs)))
    (λ h. met last (ap (λ (l : List (List ℕ)). length (run l)) (insert-same key last r q rs h)))
    (λ h. omega (arith, ap (λ (l : List (List ℕ)). length (run l)) (insert-past key last r q rs h), run_long q rs, run_long q (insert key last r rs), insert-long last r rs))
  where
    met : (t : Bool) → length (run (insert key last r (q ∷ rs))) ≡ length (run (cond t (q ∷ rs) (r ∷ rs))) → length (run (insert key last r (q ∷ rs))) ≤ suc (length r + length (run (q ∷ rs)))
    met true e = omega (arith, e)
    met false e = omega (arith, e, run_long r rs, run_long q rs)

pub arranged-long : (last : Bool) (rs : List (List ℕ)) → length (run (arranged key last rs)) ≤ length (run rs)
unfolding arranged
arranged-long last [] = omega arith
arranged-long last (r ∷ rs) = omega (arith, insert-long last r (arranged key last rs), arranged-long last rs, run_long r rs)

-- ---- a place behind an end parts the records

pub record Cut (rs : List (List ℕ)) (from p : ℕ) : Type 0 where
  pub ones : List (List ℕ)
  pub twos : List (List ℕ)
  pub parts : rs ≡ ones ++ twos
  pub place : p ≡ from + length (run ones)

plain_byte : (r : List ℕ) (i : ℕ) → plain r ≡ true → i < length r → get_or r i 0 ≡ 0 → ⊥
plain_byte [] i h l e = omega arith
plain_byte (b ∷ r) zero h l e = plain-head b r h e
plain_byte (b ∷ r) (suc i) h l e = plain_byte r i (plain-tail b r h) (omega arith) e

cut_more : (r : List ℕ) (rs : List (List ℕ)) (n : ℕ) → length r < n → Cut rs 0 (n - suc (length r)) → Cut (r ∷ rs) 0 n
cut_more r rs n k c = record { ones = r ∷ c.ones; twos = c.twos; parts = ap (λ (x : List (List ℕ)). r ∷ x) c.parts; place = let q = c.place in omega (arith, run_long r c.ones) }

cut_run : (rs : List (List ℕ)) (n : ℕ) → Plain rs → n ≤ length (run rs) → (0 < n → get_or (run rs) (n - 1) 0 ≡ 0) → Cut rs 0 n
cut_run [] n none l e = record { ones = []; twos = []; parts = refl; place = omega (arith, ap length run-nil) }
cut_run (r ∷ rs) n (also p ps) l e =
    by_order 0 n
    (λ h. by_order (length r) n
    (λ k. let m : get_or (run (r ∷ rs)) (n - 1) 0 ≡ get_or (r ++ (0 ∷ run rs)) (n - 1) 0 = ap (λ (x : List ℕ). get_or x (n - 1) 0) (run-cons r rs) in
    cut_more r rs n k (cut_run rs (n - suc (length r)) ps (omega (arith, run_long r rs))
    (λ z. let j : n - 1 ≡ length r + suc (n - suc (length r) - 1) = omega arith in
    sym (ap (λ (i : ℕ). get_or (r ++ (0 ∷ run rs)) i 0) j ∙ get_or-append-add r (0 ∷ run rs) (suc (n - suc (length r) - 1)) 0) ∙ sym m ∙ e h)))
    (λ k. absurd (plain_byte r (n - 1) p (omega arith)
    (sym (get_or-append r (0 ∷ run rs) 0 (n - 1) (omega arith)) ∙ sym (ap (λ (x : List ℕ). get_or x (n - 1) 0) (run-cons r rs)) ∙ e h))))
    (λ h. record { ones = []; twos = r ∷ rs; parts = refl; place = omega (arith, ap length run-nil) })

-- the same of a run that stands at a place among others
pub cut_at : (s : List ℕ) (from p : ℕ) (rs : List (List ℕ)) (t : List ℕ) → Plain rs → drop from s ≡ run rs ++ t → from ≤ p → p ≤ from + length (run rs) → (from < p → get_or s (p - 1) 0 ≡ 0) → Cut rs from p
cut_at s from p rs t ok is l m e =
    let c = cut_run rs (p - from) ok (omega arith)
    (λ h. let j : p - 1 ≡ from + (p - from - 1) = omega arith in
    sym (get_or-append (run rs) t 0 (p - from - 1) (omega arith)) ∙ sym (ap (λ (x : List ℕ). get_or x (p - from - 1) 0) is)
    ∙ get_or-drop from s (p - from - 1) 0 ∙ sym (ap (λ (i : ℕ). get_or s i 0) j) ∙ e (omega arith)) in
    record { ones = c.ones; twos = c.twos; parts = c.parts; place = let q = c.place in omega arith }

-- what stands at such a place
pub drop-run : (s : List ℕ) (from p : ℕ) (ones twos rs : List (List ℕ)) (t : List ℕ) → drop from s ≡ run rs ++ t → rs ≡ ones ++ twos → p ≡ from + length (run ones) → drop p s ≡ run twos ++ t
drop-run s from p ones twos rs t is parts place =
    ap (λ (k : ℕ). drop k s) place ∙ sym (drop-drop (length (run ones)) from s)
    ∙ ap (drop (length (run ones))) (is ∙ ap (λ (x : List (List ℕ)). run x ++ t) parts ∙ ap (λ (x : List ℕ). x ++ t) (run-append ones twos) ∙ append_assoc (run ones) (run twos) t)
    ∙ drop-append_seam (run ones) (run twos ++ t)

cons_tail : (r : List ℕ) (rs : List (List ℕ)) (t : List ℕ) → run (r ∷ rs) ++ t ≡ r ++ (0 ∷ (run rs ++ t))
cons_tail r rs t = ap (λ (l : List ℕ). l ++ t) (run-cons r rs) ∙ append_assoc r (0 ∷ run rs) t

-- the key, the piece and the end of the record at a place
pub key-at : (s : List ℕ) (p : ℕ) (r : List ℕ) (rs : List (List ℕ)) (t : List ℕ) → plain r ≡ true → drop p s ≡ run (r ∷ rs) ++ t → key_at s p ≡ key r
unfolding key_at
key-at s p r rs t h is = ap word (is ∙ cons_tail r rs t) ∙ word_record r (run rs ++ t) h

pub piece-at : (s : List ℕ) (p : ℕ) (r : List ℕ) (rs : List (List ℕ)) (t : List ℕ) → plain r ≡ true → drop p s ≡ run (r ∷ rs) ++ t → piece (drop p s) ≡ r ++ (0 ∷ [])
piece-at s p r rs t h is = ap piece (is ∙ cons_tail r rs t) ∙ piece_record r (run rs ++ t) h

pub end-at : (s : List ℕ) (p e : ℕ) (r : List ℕ) (rs : List (List ℕ)) (t : List ℕ) → plain r ≡ true → drop p s ≡ run (r ∷ rs) ++ t → Ended s p e → e ≡ p + suc (length r)
end-at s p e r rs t h is n = n.same ∙ ap (λ (x : List ℕ). p + length x) (piece-at s p r rs t h is) ∙ ap (λ (x : ℕ). p + x) (length-append r (0 ∷ []) ∙ omega arith)
