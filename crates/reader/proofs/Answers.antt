-- The answer from the first pass is the one that the tree asks for, and the second pass leaves what it asks for.
-- Assumes nothing.
use Rattle.std.proofs.Common.{Err, Ok, Result}
use mathlib.Core.Path.{◌≡◌, refl, sym, ap, ◌∙◌, subst}
use mathlib.Core.List.{List, [], ◌++◌}
use Prim.Native.Nat.{ℕ, ◌/◌, ◌≤◌, ◌<◌}
use native.Mathlib.Omega.{arith}
use lib.ListN.{length, drop, replicate}
use borrow.Author.Tests.{le-leb, lt-leb, lt-ltb, le-ltb}
use Rattle.ground.proofs.Tests.{by_order}
use Rattle.refusals.specs.declared.Refusal.{Refusal}
use Rattle.refusals.specs.declared.Refusal.TheVariants.{InputTooLong, NodeRoom, TextRoom, DepthRoom}
use Rattle.arena.specs.Tree.{Tree, nodes, text, depth}
use Rattle.arena.specs.Layout.{stride}
use Rattle.brackets.specs.declared.scan.Phase.{Phase}
use Rattle.brackets.specs.declared.scan.Phase.TheVariants.{Going, Done, Unclosed, Trailing}
use Rattle.brackets.specs.declared.scan.Scan.{Scan}
use Rattle.brackets.specs.Count.{start, counted}
use Rattle.brackets.specs.Walk.{Walk, going, done, fault, walk, Outcome, tree, refused, finish}
use Rattle.brackets.proofs.Agree.{Agrees, Faulty, agrees, whole}
use Rattle.tokens.specs.Piece.{Lexed, ok, bad, lex}
use Rattle.reader.specs.Tally.{tallied}
use Rattle.reader.specs.Judge.{fit, by_phase, judged}
use Rattle.refusals.specs.Limit.{input_limit}
use Rattle.reader.specs.Read.{outcome, parse, Left, refusing, written, fitted, settled, reading, Leaves}
use Rattle.reader.specs.Write.{Ready, Wrote}
use Rattle.reader.specs.declared.read.Reading.{Reading}
use Rattle.ground.proofs.Options.{ok-same}

-- the room's tests, by their outcomes
pub room-nodes : (c : Scan) (n x d : ℕ) → n < c.nodes → Err (NodeRoom c.nodes) ≡ fit c n x d
room-nodes c n x d h = rw (lt-ltb n c.nodes h) refl

pub room-text : (c : Scan) (n x d : ℕ) → c.nodes ≤ n → x < c.text → Err (TextRoom c.text) ≡ fit c n x d
room-text c n x d h g = rw (le-ltb n c.nodes h) (rw (lt-ltb x c.text g) refl)

pub room-depth : (c : Scan) (n x d : ℕ) → c.nodes ≤ n → c.text ≤ x → d < c.most → Err (DepthRoom c.most) ≡ fit c n x d
room-depth c n x d h g k = rw (le-ltb n c.nodes h) (rw (le-ltb x c.text g) (rw (lt-ltb d c.most k) refl))

pub room-all : (c : Scan) (n x d : ℕ) → c.nodes ≤ n → c.text ≤ x → c.most ≤ d → (Ok (record { nodes = c.nodes; text = c.text; depth = c.most })) ≡ fit c n x d
room-all c n x d h g k = rw (le-ltb n c.nodes h) (rw (le-ltb x c.text g) (rw (le-ltb d c.most k) refl))

-- what the numbers answer for an outcome
abbrev answer_of : Outcome → ℕ → ℕ → ℕ → Result Reading Refusal
answer_of (tree t) n x d = fit (whole t) n x d
answer_of (refused why) n x d = Err why

faulty_phase : (c : Scan) (n x d : ℕ) (p : Phase) (why : Refusal) → Faulty p why → by_phase c n x d p ≡ Err why
faulty_phase c n x d Going why h = absurd h
faulty_phase c n x d Done why h = absurd h
faulty_phase c n x d Unclosed why h = ap Err (sym h)
faulty_phase c n x d Trailing why h = ap Err (sym h)

by-walk : (w : Walk) (c : Scan) (n x d : ℕ) → Agrees w c → by_phase c n x d c.phase ≡ answer_of (finish w) n x d
by-walk (going st) c n x d h = ap (λ (y : Scan). by_phase y n x d y.phase) h
by-walk (done t) c n x d h = ap (λ (y : Scan). by_phase y n x d y.phase) h
by-walk (fault why) c n x d h = faulty_phase c n x d c.phase why h

answer-is : (r : Lexed) (n x d : ℕ) → judged (tallied start r) n x d ≡ answer_of (outcome r) n x d
answer-is (ok ts) n x d = by-walk (walk (going []) ts) (counted start ts) n x d (agrees ts)
answer-is (bad why) n x d = refl

module _ (N T S : List ℕ) where
  abbrev answers : Outcome → Result Reading Refusal
  answers o = answer_of o (length N / stride) (length T) (length S)

  fit_refused : (t : Tree) (why : Refusal) → Err why ≡ answers (tree t) → fitted N T S t ≡ refusing N T S why
  fit_refused t why e =
      by_order (length N / stride) (nodes t)
      (λ h.
      let q : Err why ≡ Err (NodeRoom (nodes t)) = rw (lt-ltb (length N / stride) (nodes t) h) at e in
      rw (lt-leb (nodes t) (length N / stride) h) (ap (refusing N T S) (cc)))
      (λ h.
      let e₁ = rw (le-ltb (length N / stride) (nodes t) h) at e in
      rw (le-leb (nodes t) (length N / stride) h)
      (by_order (length T) (length (text t))
      (λ g.
      let q : Err why ≡ Err (TextRoom (length (text t))) = rw (lt-ltb (length T) (length (text t)) g) at e₁ in
      rw (lt-leb (length (text t)) (length T) g) (ap (refusing N T S) (cc)))
      (λ g.
      let e₂ = rw (le-ltb (length T) (length (text t)) g) at e₁ in
      rw (le-leb (length (text t)) (length T) g)
      (by_order (length S) (depth t)
      (λ k.
      let q : Err why ≡ Err (DepthRoom (depth t)) = rw (lt-ltb (length S) (depth t) k) at e₂ in
      rw (lt-leb (depth t) (length S) k) (ap (refusing N T S) (cc)))
      (λ k.
      let q : Err why ≡ (Ok (record { nodes = nodes t; text = length (text t); depth = depth t })) = rw (le-ltb (length S) (depth t) k) at e₂ in
      let z : ◌≡◌ {A = ℕ} 0 1 = cc in absurd (omega arith))))))

  settled-refused : (o : Outcome) (why : Refusal) → Err why ≡ answers o → settled N T S o ≡ refusing N T S why
  settled-refused (tree t) why e = fit_refused t why e
  settled-refused (refused w) why e = ap (refusing N T S) (cc)

  -- a tree for which there is room
  record Fits (o : Outcome) (k j m : ℕ) : Type 0 where
    pub t : Tree
    pub is : o ≡ tree t
    pub size_n : k ≡ nodes t
    pub size_t : j ≡ length (text t)
    pub size_s : m ≡ depth t
    pub room_n : nodes t ≤ length N / stride
    pub room_t : length (text t) ≤ length T
    pub room_s : depth t ≤ length S

  fit-read : (t : Tree) (k j m : ℕ) → (Ok (record { nodes = k; text = j; depth = m })) ≡ answers (tree t) → Fits (tree t) k j m
  fit-read t k j m e =
      by_order (length N / stride) (nodes t)
      (λ h.
      let q : (Ok (record { nodes = k; text = j; depth = m })) ≡ Err (NodeRoom (nodes t)) = rw (lt-ltb (length N / stride) (nodes t) h) at e in
      let z : ◌≡◌ {A = ℕ} 0 1 = cc in absurd (omega arith))
      (λ h.
      let e₁ = rw (le-ltb (length N / stride) (nodes t) h) at e in
      by_order (length T) (length (text t))
      (λ g.
      let q : (Ok (record { nodes = k; text = j; depth = m })) ≡ Err (TextRoom (length (text t))) = rw (lt-ltb (length T) (length (text t)) g) at e₁ in
      let z : ◌≡◌ {A = ℕ} 0 1 = cc in absurd (omega arith))
      (λ g.
      let e₂ = rw (le-ltb (length T) (length (text t)) g) at e₁ in
      by_order (length S) (depth t)
      (λ i.
      let q : (Ok (record { nodes = k; text = j; depth = m })) ≡ Err (DepthRoom (depth t)) = rw (lt-ltb (length S) (depth t) i) at e₂ in
      let z : ◌≡◌ {A = ℕ} 0 1 = cc in absurd (omega arith))
      (λ i.
      let q : (Ok (record { nodes = k; text = j; depth = m })) ≡ (Ok (record { nodes = nodes t; text = length (text t); depth = depth t })) = rw (le-ltb (length S) (depth t) i) at e₂ in
      let f = ok-same q in
      record {
        t = t;
        is = refl;
        size_n = ap (λ (r : Reading). r.nodes) f;
        size_t = ap (λ (r : Reading). r.text) f;
        size_s = ap (λ (r : Reading). r.depth) f;
        room_n = h;
        room_t = g;
        room_s = i;
      })))

  settled-read : (o : Outcome) (k j m : ℕ) → (Ok (record { nodes = k; text = j; depth = m })) ≡ answers o → Fits o k j m
  settled-read (tree t) k j m e = fit-read t k j m e
  settled-read (refused w) k j m e = let z : ◌≡◌ {A = ℕ} 0 1 = cc in absurd (omega arith)

  fitted-is : (t : Tree) → nodes t ≤ length N / stride → length (text t) ≤ length T → depth t ≤ length S → fitted N T S t ≡ written N T S t
  fitted-is t h g k = rw (le-leb (nodes t) (length N / stride) h) (rw (le-leb (length (text t)) (length T) g) (rw (le-leb (depth t) (length S) k) refl))

-- bytes that are not too long are read as what they stand for
reading-is : (s N T S : List ℕ) → length s ≤ input_limit → reading N T S s ≡ settled N T S (parse s)
unfolding reading
reading-is s N T S short = rw (le-leb (length s) input_limit short) refl

pub read_left : (s N T S : List ℕ) (t : Tree) → parse s ≡ tree t → length s ≤ input_limit → reading N T S s ≡ fitted N T S t
read_left s N T S t e short = reading-is s N T S short ∙ ap (settled N T S) e

module _ (s N T S : List ℕ) where
  leaves : (l : Left) → reading N T S s ≡ l → Leaves (reading N T S s) l.answer l.nodes l.text l.stack
  leaves l e = subst (λ (x : Left). Leaves x l.answer l.nodes l.text l.stack) (sym e) (record { answers = refl; nodes = refl; text = refl; stack = refl })

  pub too_long : input_limit < length s → Leaves (reading N T S s) (Err InputTooLong) N T S
  unfolding reading
  too_long h = leaves (refusing N T S InputTooLong) (rw (lt-leb (length s) input_limit h) refl)

  module _ (short : length s ≤ input_limit) (r : Result Scan Refusal) (tally : r ≡ tallied start (lex s)) (a : Result Reading Refusal) (judge : a ≡ judged r (length N / stride) (length T) (length S)) where
    answered : a ≡ answers N T S (parse s)
    unfolding parse
    answered = judge ∙ ap (λ (x : Result Scan Refusal). judged x (length N / stride) (length T) (length S)) tally ∙ answer-is (lex s) (length N / stride) (length T) (length S)

    pub left-refused : (why : Refusal) → a ≡ Err why → Leaves (reading N T S s) a N T S
    left-refused why q =
        subst (λ (x : Result Reading Refusal). Leaves (reading N T S s) x N T S) (sym q)
        (leaves (refusing N T S why) (reading-is s N T S short ∙ settled-refused N T S (parse s) why (sym q ∙ answered)))

    module _ (k j m : ℕ) (q : a ≡ Ok (record { nodes = k; text = j; depth = m })) where
      fits : Fits N T S (parse s) k j m
      fits = settled-read N T S (parse s) k j m (sym q ∙ answered)

      pub ready : Ready s N T S
      ready = record { found = fits.t; parsed = fits.is; room_n = omega (arith, fits.room_n); room_t = fits.room_t; room_s = fits.room_s }

      module _ (N' T' S' : List ℕ) (w : Wrote s N N' T T' S S') where
        pub stack-room : m ≤ length S'
        stack-room = omega (arith, fits.size_s, fits.room_s, w.long)

        same-tree : fits.t ≡ w.found
        same-tree = let e : tree fits.t ≡ tree w.found = sym fits.is ∙ w.parsed in cc

        pub left-written : (S'' : List ℕ) → S'' ≡ replicate m 0 ++ drop m S' → Leaves (reading N T S s) (Ok (record { nodes = k; text = j; depth = m })) N' T' S''
        left-written S'' z =
            let l : reading N T S s ≡ written N T S w.found = reading-is s N T S short ∙ ap (settled N T S) fits.is ∙ fitted-is N T S fits.t fits.room_n fits.room_t fits.room_s ∙ ap (written N T S) same-tree in
            let k₁ : k ≡ nodes w.found = fits.size_n ∙ ap nodes same-tree in
            let j₁ : j ≡ length (text w.found) = fits.size_t ∙ ap (λ (t : Tree). length (text t)) same-tree in
            let m₁ : m ≡ depth w.found = fits.size_s ∙ ap depth same-tree in
            subst (λ (x : Left). Leaves x (Ok (record { nodes = k; text = j; depth = m })) N' T' S'') (sym l)
            (record {
              answers = rw k₁ (rw j₁ (rw m₁ refl));
              nodes = w.wrote_n;
              text = w.wrote_t;
              stack = z ∙ rw m₁ (rw w.stack refl);
            })
