-- The words of the open lists: their lengths, and what the end of a list and one more child change of them.
-- Assumes nothing.
use mathlib.Core.Path.{◌≡◌, refl, sym, ◌∙◌}
use mathlib.Core.List.{List, [], ◌∷◌, ◌++◌, append_assoc}
use Prim.Native.Nat.{ℕ, suc, ◌+◌, ◌-◌, ◌*◌, ◌<◌}
use native.Mathlib.Omega.{arith}
use native.Mathlib.Numerals.{add-one}
use lib.ListN.{length, take, get_or, set, length-append}
use lib.Seq.{get_or-append-add, get_or_at, get_or-take, take-set-lt}
use lib.Dec.{eqb-suc-zero}
use Rattle.arena.specs.Tree.{Tree, Trees, app, count, nodes, nodes_of}
use Rattle.arena.specs.Layout.{stride, app_words, words, words_of}
use Rattle.arena.proofs.Layouts.{length-words-of}
use Rattle.brackets.specs.Walk.{snoc}
use Rattle.brackets.specs.Put.{bump_n}
use Rattle.brackets.proofs.Snoc.{count-snoc, words_of-snoc}
use Rattle.brackets.proofs.Frames.{laid_n, laid_t, laid_w, laid_s}
use Rattle.ground.proofs.Lists.{set-append-add}

pub len_laid : (st : List Trees) → length (laid_w st) ≡ laid_n st * stride
len_laid [] = refl
len_laid (ks ∷ st) =
    length-append (laid_w st) (app_words (count ks) 0 ++ words_of ks (laid_n st + 1) (length (laid_t st)))
    ∙ omega (arith, len_laid st, length-words-of ks (laid_n st + 1) (length (laid_t st)))

pub len_stack : (st : List Trees) → length (laid_s st) ≡ length st
len_stack [] = refl
len_stack (ks ∷ st) = length-append (laid_s st) (laid_n st ∷ []) ∙ omega (arith, len_stack st)

-- the end of the innermost list is written
pub shut : (ks : Trees) (st : List Trees) → set (laid_w (ks ∷ st)) (laid_n st * stride + 2) (laid_n (ks ∷ st)) ≡ laid_w st ++ words (app ks) (laid_n st) (length (laid_t st))
shut ks st =
    rw (← (len_laid st))
    (set-append-add (laid_w st) (app_words (count ks) 0 ++ words_of ks (laid_n st + 1) (length (laid_t st))) 2 (laid_n (ks ∷ st)))

-- the words of one more tree stand after those of the open lists
abbrev pub more : List Trees → Tree → List ℕ
more st t = laid_w st ++ words t (laid_n st) (length (laid_t st))

pub counted : (ps : Trees) (st : List Trees) (t : Tree) → get_or (more (ps ∷ st) t) (laid_n st * stride + 1) 0 ≡ count ps
counted ps st t =
    rw (← (len_laid st))
    (rw (append_assoc (laid_w st) (app_words (count ps) 0 ++ words_of ps (laid_n st + 1) (length (laid_t st))) (words t (laid_n (ps ∷ st)) (length (laid_t (ps ∷ st)))))
    (get_or-append-add (laid_w st) _ 1 0))

pub bumped : (ps : Trees) (st : List Trees) (t : Tree) → set (more (ps ∷ st) t) (laid_n st * stride + 1) (count ps + 1) ≡ laid_w (snoc ps t ∷ st)
bumped ps st t =
    let e1 : laid_n st + suc (nodes_of ps) ≡ laid_n st + 1 + nodes_of ps = omega arith in
    let e2 : count ps + 1 ≡ suc (count ps) = add-one (count ps) in
    rw (← (len_laid st))
    (rw (append_assoc (laid_w st) (app_words (count ps) 0 ++ words_of ps (laid_n st + 1) (length (laid_t st))) (words t (laid_n (ps ∷ st)) (length (laid_t (ps ∷ st)))))
    (set-append-add (laid_w st) _ 1 (count ps + 1) ∙ simp (count-snoc, words_of-snoc, length-append, e1, e2)))

-- the innermost open list's first node stands on the stack
pub top : (ks : Trees) (st : List Trees) (S : List ℕ) → take (suc (length st)) S ≡ laid_s (ks ∷ st) → get_or S (suc (length st) - 1) 0 ≡ laid_n st
top ks st S h =
    let e : suc (length st) - 1 ≡ length st = omega arith in
    rw e
    (sym (get_or-take (suc (length st)) S (length st) 0 (omega arith))
    ∙ (rw h (get_or_at (laid_s st) (laid_n st) [] 0 (length st) (len_stack st))))

-- one more tree is counted
pub bump-laid : (ps : Trees) (st : List Trees) (t : Tree) (N S : List ℕ) (m : ℕ)
    → take (m * stride) N ≡ more (ps ∷ st) t → m ≡ laid_n (ps ∷ st) + nodes t → take (suc (length st)) S ≡ laid_s (ps ∷ st)
    → take (m * stride) (bump_n (suc (length st)) N S) ≡ laid_w (snoc ps t ∷ st)
bump-laid ps st t N S m h e hs =
    let within : laid_n st * stride + 1 < m * stride = omega arith in
    let v : get_or N (laid_n st * stride + 1) 0 ≡ count ps = sym (get_or-take (m * stride) N (laid_n st * stride + 1) 0 within) ∙ (rw h (counted ps st t)) in
    rw eqb-suc-zero
    (rw (top ps st S hs)
    (rw v
    (rw (take-set-lt (m * stride) N (laid_n st * stride + 1) (count ps + 1) within)
    (rw h (bumped ps st t)))))
