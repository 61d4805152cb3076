-- One piece of the second pass, by its kind.
-- Assumes nothing.
use Rattle.std.proofs.Common.{Err, Ok, Result}
use mathlib.Core.Path.{◌≡◌, refl, sym, ap, subst}
use mathlib.Core.Bool.{Bool, true, false, cond}
use mathlib.Core.List.{List, []}
use Prim.Native.Nat.{ℕ, ◌*◌}
use lib.ListN.{length}
use lib.Seq.{sets}
use Rattle.refusals.specs.declared.Refusal.{Refusal}
use Rattle.words.specs.declared.digits.Radix.{Radix}
use Rattle.words.specs.declared.digits.Radix.TheVariants.{Decimal}
use Rattle.words.specs.Run.{parsed}
use Rattle.words.specs.Extension.{extended}
use Rattle.utf8.specs.Octets.{utf8}
use Rattle.strings.specs.Points.{points}
use Rattle.strings.specs.Text.{any_surrogate}
use Rattle.brackets.specs.declared.scan.Scan.{Scan}
use Rattle.brackets.specs.Token.{Atom, bits, number, atom, atom_text}
use Rattle.tokens.specs.declared.lexeme.Kind.{Kind}
use Rattle.tokens.specs.declared.lexeme.Kind.TheVariants as K
use Rattle.tokens.specs.Piece.{token, wrong, from_parsed, bits_of, piece_of}
use Rattle.reader.specs.Write.{FineNumber, Fine, piece_s, Numbered, Texted, OpenedBy, ClosedBy, Pieced}
use Rattle.words.specs.declared.pair.Pair.{Pair}

number-needs : (c : Scan) (p : Result Pair Refusal) (make : ℕ → Atom) (N T S : List ℕ) → Fine c (from_parsed p make) N T S → FineNumber c (from_parsed p make) N S
number-needs c (Ok x) make N T S h = h.node
number-needs c (Err why) make N T S h = h

number-gives : (c : Scan) (p : Result Pair Refusal) (make : ℕ → Atom) (N N' T S : List ℕ) (r : Scan) → ((n : ℕ) → atom_text (make n) ≡ [])
    → Numbered c (from_parsed p make) N N' S r → Pieced c (from_parsed p make) N N' T T S S r
number-gives c (Ok x) make N N' T S r bare h = record { nodes = h.nodes; text = sym (ap (sets T c.text) (bare _)); stack = refl; next = h.next }
number-gives c (Err why) make N N' T S r bare h = record { nodes = h.nodes; text = refl; stack = refl; next = h.next }

stack_else : (c : Scan) (t : Bool) (why : Refusal) (a : Atom) (S : List ℕ) → S ≡ piece_s c (cond t (wrong why) (token (atom a))) S
stack_else c true why a S = refl
stack_else c false why a S = refl

stack-then : (c : Scan) (t : Bool) (why : Refusal) (a : Atom) (S : List ℕ) → S ≡ piece_s c (cond t (token (atom a)) (wrong why)) S
stack-then c true why a S = refl
stack-then c false why a S = refl

module _ (c : Scan) (k : Kind) (x N T S : List ℕ) (fine : Fine c (piece_of k x) N T S) where
  abbrev Gives : (N' T' S' : List ℕ) → Scan → Kind → Type 0
  Gives N' T' S' r j = Pieced c (piece_of j x) N N' T T' S S' r

  pub by_kind : (j : Kind) → k ≡ j → Fine c (piece_of j x) N T S
  by_kind j e = subst (λ (y : Kind). Fine c (piece_of y x) N T S) e fine

  pub by_bits : (r : Radix) → k ≡ K.Bits r → FineNumber c (piece_of (K.Bits r) x) N S
  by_bits r e = number-needs c (parsed r x) (λ n. bits (bits_of r * length x) (extended (bits_of r * length x) n)) N T S (by_kind (K.Bits r) e)

  pub by_number : k ≡ K.Number → FineNumber c (piece_of K.Number x) N S
  by_number e = number-needs c (parsed Decimal x) (λ n. number n) N T S (by_kind K.Number e)

  pub blank-gives : k ≡ K.Blank → Gives N T S c k
  blank-gives e = subst (Gives N T S c) (sym e) (record { nodes = refl; text = refl; stack = refl; next = refl })

  pub opening-gives : (N' S' : List ℕ) (r : Scan) → k ≡ K.Opening → OpenedBy c N N' S S' r → Gives N' T S' r k
  opening-gives N' S' r e h = subst (Gives N' T S' r) (sym e) (record { nodes = h.nodes; text = refl; stack = h.stack; next = h.next })

  pub closing-gives : (N' : List ℕ) (r : Scan) → k ≡ K.Closing → ClosedBy c N N' S r → Gives N' T S r k
  closing-gives N' r e h = subst (Gives N' T S r) (sym e) (record { nodes = h.nodes; text = refl; stack = refl; next = h.next })

  pub bits_gives : (N' : List ℕ) (r : Scan) (radix : Radix) → k ≡ K.Bits radix → Numbered c (piece_of (K.Bits radix) x) N N' S r → Gives N' T S r k
  bits_gives N' r radix e h =
      subst (Gives N' T S r) (sym e)
      (number-gives c (parsed radix x) (λ n. bits (bits_of radix * length x) (extended (bits_of radix * length x) n)) N N' T S r (λ n. refl) h)

  pub numeral-gives : (N' : List ℕ) (r : Scan) → k ≡ K.Number → Numbered c (piece_of K.Number x) N N' S r → Gives N' T S r k
  numeral-gives N' r e h = subst (Gives N' T S r) (sym e) (number-gives c (parsed Decimal x) (λ n. number n) N N' T S r (λ n. refl) h)

  pub string-gives : (N' T' : List ℕ) (r : Scan) → k ≡ K.Quoted → Texted c (piece_of K.Quoted x) N N' T T' S r → Gives N' T' S r k
  string-gives N' T' r e h =
      subst (Gives N' T' S r) (sym e) (record { nodes = h.nodes; text = h.text; stack = stack_else c (any_surrogate (points x)) _ _ S; next = h.next })

  pub name-gives : (N' T' : List ℕ) (r : Scan) → k ≡ K.Name → Texted c (piece_of K.Name x) N N' T T' S r → Gives N' T' S r k
  name-gives N' T' r e h = subst (Gives N' T' S r) (sym e) (record { nodes = h.nodes; text = h.text; stack = stack-then c (utf8 x) _ _ S; next = h.next })
