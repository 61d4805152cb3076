-- One atom of the second pass: its node, and its text in the text's unwritten tail.
-- Assumes nothing.
use Rattle.std.proofs.Common.{Err, Ok, Result}
use mathlib.Core.Path.{◌≡◌, refl, sym, ap, ◌∙◌, subst}
use mathlib.Core.Bool.{Bool, true, false, cond, ◌&&◌}
use mathlib.Core.List.{List}
use Prim.Native.Nat.{ℕ, ◌-◌, ◌*◌, ◌^◌, ◌≤◌, ◌<◌}
use native.Mathlib.Omega.{arith}
use lib.Dec.{ltb}
use lib.ListN.{length, take, drop, length-take, length-drop}
use borrow.Rule.Slice.PartMut.{put_mid}
use Rattle.refusals.specs.Limit.{input_limit}
use Rattle.refusals.specs.declared.Refusal.{Refusal}
use Rattle.lent.specs.Put.{Fronts}
use Rattle.lent.proofs.Copies.{tail-front}
use Rattle.words.specs.declared.pair.Pair.{Pair}
use Rattle.words.specs.declared.digits.Radix.{Radix}
use Rattle.words.specs.declared.digits.Radix.TheVariants.{Binary, Decimal, Hexadecimal}
use Rattle.words.specs.Pair.{value, pair_of}
use Rattle.words.specs.Radix.{base_of}
use Rattle.words.specs.Run.{parsed, number, digits, some_byte}
use Rattle.words.specs.Extension.{extended}
use Rattle.words.proofs.Numbers.{value-pair}
use Rattle.utf8.specs.Octets.{utf8}
use Rattle.strings.specs.Points.{points}
use Rattle.strings.specs.Text.{text, any_surrogate}
use Rattle.arena.specs.Layout.{node_words, bit_vec_words, numeral_words}
use Rattle.brackets.specs.declared.scan.Scan.{Scan}
use Rattle.brackets.specs.Token.{Atom, quoted, name, atom, atom_text, atom_words}
use Rattle.tokens.specs.declared.lexeme.Kind.TheVariants.{Quoted, Name}
use Rattle.tokens.specs.Piece.{Piece, token, wrong, from_parsed, bits_of, piece_of}
use Rattle.reader.specs.Write.{FineNode, Noded, FineAtom, FineNumber, Fine, Numbered, Texted}

-- a number that a run of digits gave is the pair of its value
pair_in : Result Pair Refusal → Pair
pair_in (Ok x) = x
pair_in (Err why) = pair_of 0

pair_same : (x : Pair) (n : ℕ) → x ≡ pair_of n → x ≡ pair_of (value x)
pair_same x n q = q ∙ ap pair_of (sym (ap value q ∙ value-pair n))

number_when : (t : Bool) (n : ℕ) (why : Refusal) (x : Pair) → cond t (Ok (pair_of n)) (Err why) ≡ Ok x → x ≡ pair_of (value x)
unfolding pair_in
number_when true n why x q = pair_same x n (sym (ap pair_in q))
number_when false n why x q = pair_same x 0 (sym (ap pair_in q))

number-pair : (r : Radix) (s : List ℕ) (x : Pair) → parsed r s ≡ Ok x → x ≡ pair_of (value x)
unfolding parsed
number-pair r s x q = number_when (some_byte s && digits r s && ltb (number (base_of r) s) (2 ^ 128)) (number (base_of r) s) _ x q

-- a number's piece
module _ (c : Scan) (p : Result Pair Refusal) (make : ℕ → Atom) (N S : List ℕ) (fine : FineNumber c (from_parsed p make) N S) where
  pub no-fault : (why : Refusal) → p ≡ Err why → ⊥
  no-fault why q = subst (λ (x : Result Pair Refusal). FineNumber c (from_parsed x make) N S) q fine

  module _ (x : Pair) (q : p ≡ Ok x) (ws : List ℕ) (is : ws ≡ atom_words (make (value x)) c.text) (bare : length (atom_text (make (value x))) ≡ 0) where
    pub number-fine : FineNode c ws 0 N S
    number-fine = rw is (rw (← bare) (subst (λ (x : Result Pair Refusal). FineNumber c (from_parsed x make) N S) q fine))

    pub number-left : (N' : List ℕ) (r : Scan) → Noded c ws 0 N N' S r → Numbered c (from_parsed p make) N N' S r
    number-left N' r h =
        subst (λ (y : Result Pair Refusal). Numbered c (from_parsed y make) N N' S r) (sym q)
        (let g = rw is at h in record { nodes = g.nodes; next = rw bare g.next })

pub numeral-words : (s : List ℕ) (r : Radix) (x : Pair) → parsed r s ≡ Ok x → node_words 2 0 x.low x.high ≡ numeral_words (value x)
numeral-words s r x q = ap (λ (y : Pair). node_words 2 0 y.low y.high) (number-pair r s x q)

pub bits-words : (width w n : ℕ) (full : Pair) → w ≡ width → full ≡ pair_of (extended w n) → node_words 1 w full.low full.high ≡ bit_vec_words width (extended width n)
bits-words width w n full e q = rw q (rw e refl)

bits-few : (r : Radix) (n : ℕ) → bits_of r * n ≤ 4 * n
bits-few Binary n = omega arith
bits-few Decimal n = omega arith
bits-few Hexadecimal n = omega arith

pub bits_fit : (r : Radix) (n b : ℕ) → b ≡ bits_of r → n ≤ input_limit → b * n < 2 ^ 64
bits_fit r n b q h = rw q (omega (arith, bits-few r n))

-- a text's piece, which is no fault
right_else : (c : Scan) (t : Bool) (why : Refusal) (p : Piece) (N T S : List ℕ) → Fine c (cond t (wrong why) p) N T S → cond t (wrong why) p ≡ p
right_else c true why p N T S h = absurd h
right_else c false why p N T S h = refl

right-then : (c : Scan) (t : Bool) (why : Refusal) (p : Piece) (N T S : List ℕ) → Fine c (cond t p (wrong why)) N T S → cond t p (wrong why) ≡ p
right-then c true why p N T S h = refl
right-then c false why p N T S h = absurd h

module _ (c : Scan) (x N T S : List ℕ) where
  pub string-right : Fine c (piece_of Quoted x) N T S → piece_of Quoted x ≡ token (atom (quoted (text x)))
  string-right h = right_else c (any_surrogate (points x)) _ _ N T S h

  pub name-right : Fine c (piece_of Name x) N T S → piece_of Name x ≡ token (atom (name x))
  name-right h = right-then c (utf8 x) _ _ N T S h

module _ (c : Scan) (p : Piece) (a : Atom) (N T S : List ℕ) (is : p ≡ token (atom a)) (fine : Fine c p N T S) where
  atom-fine : FineAtom c (atom_words a c.text) (atom_text a) N T S
  atom-fine = subst (λ (x : Piece). Fine c x N T S) is fine

  abbrev tail : List ℕ
  tail = take (length T - c.text) (drop c.text T)

  pub tail-starts : c.text ≤ length T
  tail-starts = omega (arith, atom-fine.room)

  pub tail-room : length (atom_text a) ≤ length tail
  tail-room = omega (arith, atom-fine.room, length-take (length T - c.text) (drop c.text T), length-drop c.text T)

  module _ (ws : List ℕ) (n : ℕ) (part : List ℕ) (put : Fronts (atom_text a) tail part n) (words : ws ≡ atom_words a c.text) where
    pub text-fine : FineNode c ws n N S
    text-fine = rw words (rw put.long atom-fine.node)

    pub text-left : (N' : List ℕ) (r : Scan) → Noded c ws n N N' S r → Texted c p N N' T (put_mid c.text (length T - c.text) T part) S r
    text-left N' r h =
        subst (λ (x : Piece). Texted c x N N' T (put_mid c.text (length T - c.text) T part) S r) (sym is)
        (let g = rw words at h in
        record {
          nodes = g.nodes;
          text = tail-front (atom_text a) T part c.text atom-fine.room put.holds;
          next = rw (← put.long) g.next;
        })
