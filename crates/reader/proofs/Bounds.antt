-- How large an accepted tree can be: at most a node a byte, at most two bytes of text a byte.
-- Assumes nothing.
use Rattle.std.proofs.Common.{Err, Ok, Result}
use mathlib.Core.Path.{◌≡◌, refl, sym, ap, ◌∙◌, subst}
use mathlib.Core.List.{List, []}
use Prim.Native.Nat.{ℕ, zero, suc, ◌+◌, ◌*◌, ◌≤◌, ◌<◌}
use native.Mathlib.Omega.{arith}
use lib.ListN.{length, drop}
use Rattle.ground.proofs.Tests.{by_order}
use Rattle.strings.proofs.Texts.{Bytes}
use Rattle.arena.specs.Tree.{Tree, nodes, text}
use Rattle.brackets.specs.declared.scan.Scan.{Scan}
use Rattle.brackets.specs.Count.{start, counted}
use Rattle.brackets.specs.Walk.{Walk, going, done, walk, tree}
use Rattle.brackets.proofs.Agree.{Agrees, agrees, whole}
use Rattle.tokens.specs.Lexeme.{lexeme_at}
use Rattle.tokens.specs.Piece.{lex}
use Rattle.tokens.proofs.Lexes.{found_some}
use Rattle.reader.specs.Tally.{turned, tallied}
use Rattle.reader.specs.Read.{parse}
use Rattle.reader.proofs.Sofar.{Sofar, sofar-start, sofar-step, sofar-fault, sofar-end, piece}
use Rattle.reader.proofs.Holds.{found, parse-is}
use Rattle.refusals.specs.declared.Refusal.{Refusal}

abbrev Small : List ℕ → Result Scan Refusal → Type 0
Small s (Ok d) = (d.nodes ≤ length s) × (d.text ≤ 2 * length s)
Small s (Err why) = Unit {0}

small-here : (s : List ℕ) (at : ℕ) (c : Scan) → Sofar s at c → length s ≤ at → Small s (tallied start (lex s))
small-here s at c h past =
    subst (Small s) (sofar-end s at c h past) (omega (arith, h.nodes, h.within), omega (arith, h.text, h.within))

-- one lexeme more, where the rest is known to be small
small-turn : (s : List ℕ) (at : ℕ) (c : Scan) (h : Sofar s at c) (bytes : Bytes s) (less : at < length s)
    → ((d : Scan) → Sofar s (at + (lexeme_at (drop at s)).width) d → Small s (tallied start (lex s)))
    → (r : Result Scan Refusal) → r ≡ turned c (piece s at c (lexeme_at (drop at s)) h bytes less refl) → Small s (tallied start (lex s))
small-turn s at c h bytes less go (Ok d) q = go d (sofar-step s at c (lexeme_at (drop at s)) h bytes less refl d q)
small-turn s at c h bytes less go (Err why) q =
    subst (Small s) (sofar-fault s at c (lexeme_at (drop at s)) h bytes less refl (Err why) why refl q) tt

small-from : (fuel : ℕ) (s : List ℕ) (at : ℕ) (c : Scan) → Bytes s → length s ≤ at + fuel → Sofar s at c → Small s (tallied start (lex s))
small-from zero s at c bytes b h = small-here s at c h (omega arith)
small-from (suc fuel) s at c bytes b h =
    by_order at (length s)
    (λ less.
    small-turn s at c h bytes less
    (λ d k. small-from fuel s (at + (lexeme_at (drop at s)).width) d bytes (omega (arith, found_some s at (lexeme_at (drop at s)) less refl)) k)
    _ refl)
    (λ past. small-here s at c h past)

small : (s : List ℕ) → Bytes s → Small s (tallied start (lex s))
small s bytes = small-from (length s) s 0 start bytes (omega arith) (sofar-start s)

whole_of : (w : Walk) (c : Scan) (t : Tree) → Agrees w c → w ≡ done t → c ≡ whole t
whole_of w c t h e = rw e at h

pub record Bounded (s : List ℕ) (t : Tree) : Type 0 where
  pub few : nodes t ≤ length s
  pub short : length (text t) ≤ 2 * length s

pub accepted-small : (s : List ℕ) (t : Tree) → Bytes s → parse s ≡ tree t → Bounded s t
accepted-small s t bytes e =
    let f = found (lex s) t (sym (parse-is s) ∙ e) in
    let c : counted start f.ts ≡ whole t = whole_of (walk (going []) f.ts) (counted start f.ts) t (agrees f.ts) f.walked in
    let m : Small s (Ok (whole t)) = subst (Small s) (ap (tallied start) f.lexed ∙ ap Ok c) (small s bytes) in
    record { few = m.0; short = m.1 }
