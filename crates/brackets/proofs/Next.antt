-- One token of the second pass: what it writes is what the walk makes of it.
-- Assumes nothing.
use mathlib.Core.Path.{◌≡◌, refl, sym, ap, ◌∙◌, subst}
use mathlib.Core.List.{List, [], ◌∷◌, ◌++◌, append_assoc, append-nil}
use Prim.Native.Nat.{ℕ, zero, suc, ◌+◌, ◌-◌, ◌*◌, ◌^◌, ◌≤◌, ◌<◌}
use native.Mathlib.Omega.{arith}
use native.Mathlib.Nat.{lt_of_lt_of_le}
use lib.ListN.{length, take, drop, get_or, length-set}
use lib.Seq.{sets, length-sets, get_or-take, take-set-lt, take-suc-set, take-take, take_at, drop-set-lt}
use lib.Dec.{eqb-suc-zero}
use Rattle.ground.proofs.Lists.{take-sets, drop-sets}
use Rattle.arena.specs.Tree.{Tree, Trees, bit_vec, numeral, string, symbol, app, nil, cons, count, nodes, nodes_of, text, texts, depth}
use Rattle.arena.specs.Layout.{stride, app_words, words}
use Rattle.brackets.specs.Token.{Atom, Token, opens, closes, atom, leaf, atom_text, atom_words}
use Rattle.brackets.specs.Walk.{snoc, Walk, going, done, fault, add, onward}
use Rattle.brackets.specs.Put.{children_cell, innermost, node_n, bump_n, shut_n, put_n, put_t, put_s, Counts, FineOpen, FineClose, FineLeaf}
use Rattle.brackets.proofs.Leaves.{nodes-leaf, text-leaf, words-leaf, length-leaf}
use Rattle.brackets.proofs.Snoc.{nodes_of-snoc, texts-snoc}
use Rattle.brackets.proofs.Frames.{laid_n, laid_t, laid_w, laid_s, measure}
use Rattle.brackets.proofs.Laid.{more, shut, counted, top, bump-laid, len_stack}
use Rattle.brackets.proofs.Ends.{end_uncounted}
use Rattle.brackets.proofs.Upto.{Upto, Below, upto_add, len_text, len_snoc, deep}

abbrev pub Laid : Walk → List ℕ → List ℕ → List ℕ → Type 0
Laid (going st) N T S = (take (laid_n st * stride) N ≡ laid_w st) × (take (length (laid_t st)) T ≡ laid_t st) × (take (length st) S ≡ laid_s st)
Laid (done t) N T S = (take (nodes t * stride) N ≡ words t 0 0) × (take (length (text t)) T ≡ text t) × Unit {0}
Laid (fault n) N T S = Unit {0}

pub record Room (t : Tree) (N T S : List ℕ) : Type 0 where
  pub nodes : nodes t * stride ≤ length N
  pub small : length N < 2 ^ 63
  pub text : length (text t) ≤ length T
  pub depth : depth t ≤ length S

some-node : (t : Tree) → 1 ≤ nodes t
some-node (bit_vec w n) = omega arith
some-node (numeral n) = omega arith
some-node (string s) = omega arith
some-node (symbol s) = omega arith
some-node (app ts) = omega arith

count_le : (ks : Trees) → count ks ≤ nodes_of ks
count_le nil = omega arith
count_le (cons t ks) = omega (arith, count_le ks, some-node t)

less_one : (n : ℕ) → suc n - 1 ≡ n
less_one n = omega arith

-- where the innermost list counts its children is within what is written
cell-within : (st : List Trees) (S : List ℕ) → take (length st) S ≡ laid_s st → 0 < length st → children_cell (innermost (length st) S) < laid_n st * stride
cell-within [] S h z = absurd (omega arith)
cell-within (ps ∷ st) S h z = rw (top ps st S h) (omega arith)

counted-laid : (st : List Trees) (k : Tree) (N S : List ℕ) (m : ℕ)
    → take (m * stride) N ≡ more st k → m ≡ laid_n st + nodes k → m * stride ≤ length N → length N < 2 ^ 63
    → take (length st) S ≡ laid_s st → length st ≤ length S → Counts (length st) N S
counted-laid [] k N S m h e room small hs deep =
    record { inside = deep; within = λ z. absurd (omega arith); fits = λ z. absurd (omega arith) }
counted-laid (ps ∷ st) k N S m h e room small hs deep =
    let within : laid_n st * stride + 1 < m * stride = omega arith in
    let v : get_or N (laid_n st * stride + 1) 0 ≡ count ps = sym (get_or-take (m * stride) N (laid_n st * stride + 1) 0 within) ∙ (rw h (counted ps st k)) in
    let c = count_le ps in
    record {
      inside = deep;
      within = λ z. rw (top ps st S hs) (omega arith);
      fits = λ z. rw (top ps st S hs) (rw v (omega arith));
    }

laid-add : (st : List Trees) (k : Tree) (N T S : List ℕ) (m : ℕ)
    → take (m * stride) N ≡ more st k → m ≡ laid_n st + nodes k
    → take (length (laid_t st) + length (text k)) T ≡ laid_t st ++ text k
    → take (length st) S ≡ laid_s st
    → Laid (add st k) (bump_n (length st) N S) T S
laid-add [] k N T S m h e ht hs =
    let q : m ≡ nodes k = omega arith in
    let q2 : 0 + length (text k) ≡ length (text k) = omega arith in
    (rw q at h, rw q2 at ht, tt)
laid-add (ps ∷ st) k N T S m h e ht hs =
    let q : laid_n st + suc (nodes_of (snoc ps k)) ≡ m = omega (arith, nodes_of-snoc ps k) in
    let r : length (laid_t st ++ texts (snoc ps k)) ≡ length (laid_t (ps ∷ st)) + length (text k) = omega (arith, len_text (snoc ps k) st, len_snoc ps k, len_text ps st) in (
      rw q (bump-laid ps st k N S m h e hs),
      rw r (ht ∙ append_assoc (laid_t st) (texts ps) (text k) ∙ rw (texts-snoc ps k)),
      hs,
    )

-- the words of one more tree, where its list ends and where it is an atom
shut-laid : (ks : Trees) (st : List Trees) (N S : List ℕ) → take (laid_n (ks ∷ st) * stride) N ≡ laid_w (ks ∷ st) → take (suc (length st)) S ≡ laid_s (ks ∷ st)
    → take (laid_n (ks ∷ st) * stride) (shut_n (laid_n (ks ∷ st)) (suc (length st)) N S) ≡ more st (app ks)
shut-laid ks st N S h hs =
    rw (top ks st S hs)
    (rw (take-set-lt (laid_n (ks ∷ st) * stride) N (laid_n st * stride + 2) (laid_n (ks ∷ st)) (omega arith))
    (rw h (shut ks st)))

leaf-laid : (st : List Trees) (a : Atom) (N : List ℕ) (m : ℕ) → m ≡ laid_n st + 1 → m * stride ≤ length N → take (laid_n st * stride) N ≡ laid_w st
    → take (m * stride) (node_n (laid_n st) (atom_words a (length (laid_t st))) N) ≡ more st (leaf a)
leaf-laid st a N m e room h =
    let l = length-leaf a (length (laid_t st)) in
    take-sets (atom_words a (length (laid_t st))) N (laid_n st * stride) (m * stride) (omega arith) room
    ∙ rw h (ap (λ (ws : List ℕ). laid_w st ++ ws) (sym (words-leaf a (laid_n st) (length (laid_t st)))))

-- the stack without its top
popped : (ks : Trees) (st : List Trees) (S : List ℕ) → take (suc (length st)) S ≡ laid_s (ks ∷ st) → take (length st) S ≡ laid_s st
popped ks st S h =
    sym (take-take (length st) (suc (length st)) S (omega arith))
    ∙ (rw h (take_at (laid_s st) (laid_n st ∷ []) (length st) (len_stack st)))

module _ (t : Tree) (N T S : List ℕ) (room : Room t N T S) where
  pub fine_open : (st : List Trees) → Upto (onward st opens) t → FineOpen (laid_n st) (length st) N S
  fine_open st u = record { node = omega (arith, u.nodes); deep = omega (arith, u.depth) }

  pub fine-close : (st : List Trees) → Below st t → Upto (onward st closes) t → Laid (going st) N T S → FineClose (length st) N S
  fine-close [] a u l = absurd u
  fine-close (ks ∷ st) a u l =
      let d = deep (ks ∷ st) in
      record {
        some = omega arith;
        deep = omega arith;
        node = rw (top ks st S l.2) (omega arith);
        counts = subst (λ (k : ℕ). Counts k N S) (sym (less_one (length st)))
            (end_uncounted (length st) (innermost (suc (length st)) S) (laid_n (ks ∷ st)) N S (counted-laid st (app ks) _ S (laid_n (ks ∷ st)) (shut-laid ks st N S l.0 l.2) refl
            (rw length-set (omega arith)) (rw length-set room.small) (popped ks st S l.2) (omega arith)));
      }

  pub fine-leaf : (st : List Trees) (b : Atom) → Below st t → Upto (onward st (atom b)) t → Laid (going st) N T S → FineLeaf (laid_n st) (length st) (atom_words b (length (laid_t st))) N S
  fine-leaf st b a u l =
      let d = deep st in
      let v = upto_add st (leaf b) t u in
      let n = nodes-leaf b in
      record {
        node = omega (arith, v.nodes);
        counts = counted-laid st (leaf b) _ S (laid_n st + 1)
            (leaf-laid st b N (laid_n st + 1) refl (omega (arith, v.nodes)) l.0) (omega arith)
            (rw length-sets (omega (arith, v.nodes))) (rw length-sets room.small) l.2 (omega arith);
      }

  pub room-text : (st : List Trees) (b : Atom) → Upto (onward st (atom b)) t → length (laid_t st) + length (atom_text b) ≤ length T
  room-text st b u = let v = upto_add st (leaf b) t u in omega (arith, v.text, room.text, ap length (text-leaf b))

  pub laid_on : (st : List Trees) (x : Token) → Below st t → Upto (onward st x) t → Laid (going st) N T S
      → Laid (onward st x) (put_n (measure st) x N S) (put_t (measure st) x T) (put_s (measure st) x S)
  laid_on st opens a u l =
      let d = deep (nil ∷ st) in (
        take-sets (app_words 0 0) N (laid_n st * stride) ((laid_n st + 1) * stride) (omega arith) (omega (arith, u.nodes)) ∙ rw l.0,
        rw append-nil l.1,
        take-suc-set S (length st) (laid_n st) (omega (arith, u.depth)) ∙ rw l.2,
      )
  laid_on [] closes a u l = absurd u
  laid_on (ks ∷ st) closes a u l =
      subst (λ (k : ℕ). Laid (add st (app ks)) (bump_n k (shut_n (laid_n (ks ∷ st)) (suc (length st)) N S) S) T S) (sym (less_one (length st)))
      (laid-add st (app ks) _ T S (laid_n (ks ∷ st)) (shut-laid ks st N S l.0 l.2) refl
      (rw (len_text ks st) at l.1)
      (popped ks st S l.2))
  laid_on st (atom b) a u l =
      let v = upto_add st (leaf b) t u in
      let n = nodes-leaf b in
      let x : length (text (leaf b)) ≡ length (atom_text b) = ap length (text-leaf b) in
      laid-add st (leaf b) _ (sets T (length (laid_t st)) (atom_text b)) S (laid_n st + 1)
      (leaf-laid st b N (laid_n st + 1) refl (omega (arith, v.nodes)) l.0) (omega arith)
      (take-sets (atom_text b) T (length (laid_t st)) (length (laid_t st) + length (text (leaf b))) (omega arith) (omega (arith, v.text, room.text))
      ∙ rw l.1 (ap (λ (s : List ℕ). laid_t st ++ s) (sym (text-leaf b))))
      l.2

drop-bump : (d : ℕ) (N S : List ℕ) (m : ℕ) → (0 < d → children_cell (innermost d S) < m) → drop m (bump_n d N S) ≡ drop m N
drop-bump zero N S m h = refl
drop-bump (suc d) N S m h = rw eqb-suc-zero (drop-set-lt m N (children_cell (innermost (suc d) S)) (get_or N (children_cell (innermost (suc d) S)) 0 + 1) (h (omega arith)))

length-bump : (d : ℕ) (N S : List ℕ) → length (bump_n d N S) ≡ length N
length-bump zero N S = refl
length-bump (suc d) N S = rw eqb-suc-zero (length-set N (children_cell (innermost (suc d) S)) (get_or N (children_cell (innermost (suc d) S)) 0 + 1))

-- what lies past the whole tree is left alone, and so are the lengths
pub record Kept (t : Tree) (N T S N' T' S' : List ℕ) : Type 0 where
  pub nodes : drop (nodes t * stride) N' ≡ drop (nodes t * stride) N
  pub text : drop (length (text t)) T' ≡ drop (length (text t)) T
  pub stack : drop (depth t) S' ≡ drop (depth t) S
  pub long_n : length N' ≡ length N
  pub long_t : length T' ≡ length T
  pub long_s : length S' ≡ length S

pub kept-none : (t : Tree) (N T S : List ℕ) → Kept t N T S N T S
kept-none t N T S = record { nodes = refl; text = refl; stack = refl; long_n = refl; long_t = refl; long_s = refl }

pub kept_on : (t : Tree) (N T S : List ℕ) → length (text t) ≤ length T → (st : List Trees) (x : Token) → Below st t → Upto (onward st x) t → Laid (going st) N T S
    → Kept t N T S (put_n (measure st) x N S) (put_t (measure st) x T) (put_s (measure st) x S)
kept_on t N T S m st opens a u l =
    let d = deep (nil ∷ st) in
    record {
      nodes = drop-sets (app_words 0 0) N (laid_n st * stride) (nodes t * stride) (omega (arith, u.nodes));
      text = refl;
      stack = drop-set-lt (depth t) S (length st) (laid_n st) (omega (arith, u.depth));
      long_n = length-sets N (laid_n st * stride) (app_words 0 0);
      long_t = refl;
      long_s = length-set S (length st) (laid_n st);
    }
kept_on t N T S m [] closes a u l = absurd u
kept_on t N T S m (ks ∷ st) closes a u l =
    let n = laid_n (ks ∷ st) in
    let at = get_or S (suc (length st) - 1) 0 * stride + 2 in
    let below : get_or S (suc (length st) - 1) 0 * stride + 2 < nodes t * stride = rw (top ks st S l.2) (omega arith) in
    let within : 0 < suc (length st) - 1 → children_cell (innermost (suc (length st) - 1) S) < nodes t * stride
    = rw (less_one (length st)) (λ z. lt_of_lt_of_le (cell-within st S (popped ks st S l.2) z) (omega arith)) in
    record {
      nodes = drop-bump (suc (length st) - 1) (shut_n (laid_n (ks ∷ st)) (suc (length st)) N S) S (nodes t * stride) within
          ∙ drop-set-lt (nodes t * stride) N _ (laid_n (ks ∷ st)) below;
      text = refl;
      stack = refl;
      long_n = length-bump (suc (length st) - 1) (shut_n (laid_n (ks ∷ st)) (suc (length st)) N S) S ∙ length-set N _ (laid_n (ks ∷ st));
      long_t = refl;
      long_s = refl;
    }
kept_on t N T S m st (atom b) a u l =
    let v = upto_add st (leaf b) t u in
    let n = nodes-leaf b in
    let x : length (text (leaf b)) ≡ length (atom_text b) = ap length (text-leaf b) in
    let k = length-leaf b (length (laid_t st)) in
    record {
      nodes = drop-bump (length st) (node_n (laid_n st) (atom_words b (length (laid_t st))) N) S (nodes t * stride) (λ z. lt_of_lt_of_le (cell-within st S l.2 z) (omega (arith, a.nodes)))
          ∙ drop-sets (atom_words b (length (laid_t st))) N (laid_n st * stride) (nodes t * stride) (omega (arith, v.nodes));
      text = drop-sets (atom_text b) T (length (laid_t st)) (length (text t)) (omega (arith, v.text));
      stack = refl;
      long_n = length-bump (length st) (node_n (laid_n st) (atom_words b (length (laid_t st))) N) S ∙ length-sets N (laid_n st * stride) (atom_words b (length (laid_t st)));
      long_t = length-sets T (length (laid_t st)) (atom_text b);
      long_s = refl;
    }
