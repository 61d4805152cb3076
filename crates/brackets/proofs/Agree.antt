-- The walk in numbers goes as the walk on trees goes.
-- Assumes nothing.
use mathlib.Core.Path.{◌≡◌, refl, sym, ap}
use mathlib.Core.List.{List, [], ◌∷◌, append-nil}
use Prim.Native.Nat.{ℕ, suc, ◌-◌}
use native.Mathlib.Omega.{arith}
use lib.Dec.{eqb-suc-zero}
use lib.ListN.{length, length-append}
use borrow.Author.Tests.{ne_eqb}
use Rattle.refusals.specs.declared.Refusal.{Refusal}
use Rattle.refusals.specs.declared.Refusal.TheVariants.{UnclosedSExpr, TrailingTokens}
use Rattle.arena.specs.Tree.{Tree, Trees, app, nodes, text, depth}
use Rattle.brackets.specs.declared.scan.Phase.{Phase}
use Rattle.brackets.specs.declared.scan.Phase.TheVariants.{Going, Done, Unclosed, Trailing}
use Rattle.brackets.specs.declared.scan.Scan.{Scan}
use Rattle.brackets.specs.Token.{Atom, Token, opens, closes, atom, leaf, atom_text}
use Rattle.brackets.specs.Walk.{Walk, going, done, fault, add, close, onward, step, walk}
use Rattle.brackets.specs.Count.{start, opened, closed, added, while, counts, counted}
use Rattle.brackets.proofs.Leaves.{nodes-leaf, text-leaf, depth-leaf}
use Rattle.brackets.proofs.Snoc.{nodes_of-snoc, texts-snoc, depth_of-snoc}
use Rattle.brackets.proofs.Frames.{measure}

scan_eq : {p p' : Phase} {b c d e b' c' d' e' : ℕ} → p ≡ p' → b ≡ b' → c ≡ c' → d ≡ d' → e ≡ e'
    → ◌≡◌ {A = Scan} (record { phase = p; depth = b; nodes = c; text = d; most = e }) (record { phase = p'; depth = b'; nodes = c'; text = d'; most = e' })
scan_eq o q r s t = simp (o, q, r, s, t)

abbrev pub whole : Tree → Scan
whole t = record { phase = Done; depth = 0; nodes = nodes t; text = length (text t); most = depth t }

-- the phase of a walk that was refused, and its refusal
abbrev pub Faulty : Phase → Refusal → Type 0
Faulty Going n = ⊥
Faulty Done n = ⊥
Faulty Unclosed n = n ≡ UnclosedSExpr
Faulty Trailing n = n ≡ TrailingTokens

abbrev pub Agrees : Walk → Scan → Type 0
Agrees (going st) c = c ≡ measure st
Agrees (done t) c = c ≡ whole t
Agrees (fault n) c = Faulty c.phase n

length-leaf : (a : Atom) → length (text (leaf a)) ≡ length (atom_text a)
length-leaf a = ap length (text-leaf a)

-- a tree is added
at-add : (st : List Trees) (a : Atom) → Agrees (add st (leaf a)) (added (measure st) (length (atom_text a)))
at-add [] a = scan_eq refl refl (omega (arith, nodes-leaf a)) (omega (arith, length-leaf a)) (sym (depth-leaf a))
at-add (ks ∷ st) a =
    scan_eq (rw eqb-suc-zero) refl
    (omega (arith, nodes_of-snoc ks (leaf a), nodes-leaf a))
    (simp (texts-snoc, length-append) (omega (arith, length-leaf a)))
    (omega (arith, depth_of-snoc ks (leaf a), depth-leaf a))

at-close : (st : List Trees) → Agrees (close st) (closed (measure st))
at-close [] = refl
at-close (ks ∷ []) = scan_eq refl refl (omega arith) refl (omega arith)
at-close (ks ∷ ps ∷ st) =
    rw (eqb-suc-zero (suc (length st)))
    (scan_eq (rw (ne_eqb (suc (suc (length st)) - 1) 0 (λ h. omega arith)))
    (omega arith)
    (omega (arith, nodes_of-snoc ps (app ks)))
    (simp (texts-snoc, length-append) (omega arith))
    (omega (arith, depth_of-snoc ps (app ks))))

at_on : (st : List Trees) (x : Token) → Agrees (onward st x) (counts (measure st) x)
at_on st opens = scan_eq refl (omega arith) (omega arith) (rw append-nil) (omega arith)
at_on st closes = at-close st
at_on st (atom a) = at-add st a

-- a walk that is whole or refused takes no token more
next_of : (c : Scan) → Token → Scan
next_of c opens = opened c
next_of c closes = closed c
next_of c (atom a) = added c (length (atom_text a))

counts-is : (c : Scan) (x : Token) → counts c x ≡ while c (next_of c x) c.phase
unfolding next_of
counts-is c opens = refl
counts-is c closes = refl
counts-is c (atom a) = refl

stays : (c n : Scan) (p : Phase) (f : Refusal) → c.phase ≡ p → Faulty p f → Faulty (while c n p).phase f
stays c n Going f e h = absurd h
stays c n Done f e h = absurd h
stays c n Unclosed f e h = rw e h
stays c n Trailing f e h = rw e h

pub agree-step : (w : Walk) (c : Scan) (x : Token) → Agrees w c → Agrees (step w x) (counts c x)
agree-step (going st) c x h = rw h (at_on st x)
agree-step (done t) c x h = rw (counts-is c x) (rw h refl)
agree-step (fault n) c x h = rw (counts-is c x) (stays c (next_of c x) c.phase n refl h)

pub agree : (xs : List Token) (w : Walk) (c : Scan) → Agrees w c → Agrees (walk w xs) (counted c xs)
agree [] w c h = h
agree (x ∷ xs) w c h = agree xs (step w x) (counts c x) (agree-step w c x h)

pub agrees : (xs : List Token) → Agrees (walk (going []) xs) (counted start xs)
agrees xs = agree xs (going []) start refl
