-- One piece of the first pass, by its kind.
-- Assumes nothing.
use Rattle.std.proofs.Common.{Err, Ok, Result, ◌⊎◌, inl, inr}
use mathlib.Core.Path.{◌≡◌, refl, sym, ap, ◌∙◌, subst}
use mathlib.Core.Bool.{Bool, true, false, cond}
use mathlib.Core.List.{List}
use Prim.Native.Nat.{ℕ}
use Rattle.words.specs.declared.digits.Radix.{Radix}
use Rattle.words.specs.declared.digits.Radix.TheVariants.{Decimal}
use Rattle.words.specs.Run.{parsed}
use Rattle.utf8.specs.Octets.{utf8}
use Rattle.strings.specs.Points.{points}
use Rattle.strings.specs.Text.{any_surrogate}
use Rattle.brackets.specs.declared.scan.Scan.{Scan}
use Rattle.brackets.specs.Token.{Atom, opens, closes, atom}
use Rattle.brackets.specs.Count.{opened, closed, added, while}
use Rattle.tokens.specs.declared.lexeme.Kind.{Kind}
use Rattle.tokens.specs.declared.lexeme.Kind.TheVariants as K
use Rattle.tokens.specs.Piece.{Piece, space, token, wrong, from_parsed, piece_of, sized_of}
use Rattle.reader.specs.Tally.{turned, sized_turn}
use Rattle.refusals.specs.declared.Refusal.{Refusal}
use Rattle.words.specs.declared.pair.Pair.{Pair}

-- a piece that is an atom or a fault
abbrev pub Atomic : Piece → Type 0
Atomic space = ⊥
Atomic (token opens) = ⊥
Atomic (token closes) = ⊥
Atomic (token (atom a)) = Unit {0}
Atomic (wrong why) = Unit {0}

atomic_turn : (c : Scan) (p : Piece) → Atomic p → sized_turn c (sized_of p) ≡ turned c p
atomic_turn c space h = absurd h
atomic_turn c (token opens) h = absurd h
atomic_turn c (token closes) h = absurd h
atomic_turn c (token (atom a)) h = refl
atomic_turn c (wrong why) h = refl

atomic_parsed : (p : Result Pair Refusal) (make : ℕ → Atom) → Atomic (from_parsed p make)
atomic_parsed (Ok p) make = tt
atomic_parsed (Err why) make = tt

atomic_cond : (t : Bool) (x y : Piece) → Atomic x → Atomic y → Atomic (cond t x y)
atomic_cond true x y h k = h
atomic_cond false x y h k = k

-- the four kinds that are atoms
atomic_bits : (r : Radix) (x : List ℕ) → Atomic (piece_of (K.Bits r) x)
atomic_bits r x = atomic_parsed (parsed r x) _

atomic_number : (x : List ℕ) → Atomic (piece_of K.Number x)
atomic_number x = atomic_parsed (parsed Decimal x) _

atomic_quoted : (x : List ℕ) → Atomic (piece_of K.Quoted x)
atomic_quoted x = atomic_cond (any_surrogate (points x)) _ _ tt tt

atomic_name : (x : List ℕ) → Atomic (piece_of K.Name x)
atomic_name x = atomic_cond (utf8 x) _ _ tt tt

pub atomic_kind : (k : Kind) (x : List ℕ) → ((r : Radix) × (k ≡ K.Bits r)) ⊎ ((k ≡ K.Number) ⊎ ((k ≡ K.Quoted) ⊎ (k ≡ K.Name))) → Atomic (piece_of k x)
atomic_kind k x (inl h) = subst (λ (y : Kind). Atomic (piece_of y x)) (sym h.1) (atomic_bits h.0 x)
atomic_kind k x (inr (inl e)) = subst (λ (y : Kind). Atomic (piece_of y x)) (sym e) (atomic_number x)
atomic_kind k x (inr (inr (inl e))) = subst (λ (y : Kind). Atomic (piece_of y x)) (sym e) (atomic_quoted x)
atomic_kind k x (inr (inr (inr e))) = subst (λ (y : Kind). Atomic (piece_of y x)) (sym e) (atomic_name x)

pub turn-atom : (c : Scan) (p : Piece) → Atomic p → (n : ℕ) (r : Scan) → sized_of p ≡ Ok n → r ≡ while c (added c n) c.phase → Ok r ≡ turned c p
turn-atom c p a n r z w = ap Ok w ∙ sym (ap (sized_turn c) z) ∙ atomic_turn c p a

module _ (c : Scan) (k j : Kind) (x : List ℕ) (e : k ≡ j) where
  pub turn-plain : turned c (piece_of j x) ≡ turned c (piece_of k x)
  turn-plain = sym (ap (λ (y : Kind). turned c (piece_of y x)) e)

pub turn-opening : (c r : Scan) (k : Kind) (x : List ℕ) → k ≡ K.Opening → r ≡ while c (opened c) c.phase → Ok r ≡ turned c (piece_of k x)
turn-opening c r k x e q = ap Ok q ∙ turn-plain c k K.Opening x e

pub turn-closing : (c r : Scan) (k : Kind) (x : List ℕ) → k ≡ K.Closing → r ≡ while c (closed c) c.phase → Ok r ≡ turned c (piece_of k x)
turn-closing c r k x e q = ap Ok q ∙ turn-plain c k K.Closing x e
