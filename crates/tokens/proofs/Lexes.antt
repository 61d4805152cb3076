-- The tokens from a place on; and how much text one piece brings.
-- Assumes nothing.
use Rattle.std.proofs.Common.{Err, Ok, Result}
use mathlib.Core.Path.{◌≡◌, refl, sym, ap, ◌∙◌, subst}
use mathlib.Core.Bool.{Bool, true, false, cond}
use mathlib.Core.List.{List, [], ◌∷◌}
use Prim.Native.Nat.{ℕ, zero, suc, ◌+◌, ◌-◌, ◌*◌, ◌≤◌, ◌<◌}
use native.Mathlib.Omega.{arith}
use lib.ListN.{length, get_or, take, drop, length-drop}
use lib.Seq.{drop-drop}
use Rattle.ground.proofs.Lists.{at_place}
use Rattle.words.specs.declared.digits.Radix.TheVariants.{Decimal}
use Rattle.words.specs.Run.{parsed}
use Rattle.utf8.specs.Octets.{utf8}
use Rattle.strings.specs.Points.{points}
use Rattle.strings.specs.Text.{any_surrogate}
use Rattle.strings.proofs.Texts.{Bytes, text_le}
use Rattle.words.specs.Extension.{extended}
use Rattle.lexicon.specs.Class.{class_of}
use Rattle.brackets.specs.Token.{Atom, bits, number, opens, closes, atom, atom_text}
use Rattle.tokens.specs.declared.lexeme.Kind.{Kind}
use Rattle.tokens.specs.declared.lexeme.Kind.TheVariants as K
use Rattle.tokens.specs.declared.lexeme.Lexeme.{Lexeme}
use Rattle.tokens.specs.Lexeme.{lexeme_at}
use Rattle.tokens.specs.Piece.{Piece, space, token, wrong, from_parsed, bits_of, piece_of, piece_at, ok, more, emit, lex_after, lex}
use Rattle.tokens.proofs.Reaches.{Reach, reach}
use Rattle.refusals.specs.declared.Refusal.{Refusal}
use Rattle.words.specs.declared.pair.Pair.{Pair}

lex_skip : (k : ℕ) (s : List ℕ) → lex_after k s ≡ lex (drop k s)
unfolding lex_after
lex_skip zero [] = refl
lex_skip (suc k) [] = refl
lex_skip zero (b ∷ bs) = refl
lex_skip (suc k) (b ∷ bs) = lex_skip k bs

lex-cons : (b : ℕ) (bs : List ℕ) → lex (b ∷ bs) ≡ emit (piece_at (b ∷ bs)) (lex_after ((lexeme_at (b ∷ bs)).width - 1) bs)
unfolding lex_after
lex-cons b bs = refl

pub lex-nil : lex [] ≡ ok []
unfolding lex_after
lex-nil = refl

-- brackets bring their tokens
pub lex-opening : (s : List ℕ) → lex (0x28 ∷ s) ≡ more opens (lex s)
unfolding lex_after piece_at lexeme_at class_of
lex-opening s = refl

pub lex-closing : (s : List ℕ) → lex (0x29 ∷ s) ≡ more closes (lex s)
unfolding lex_after piece_at lexeme_at class_of
lex-closing s = refl

-- a lexeme that the code has found at a place
module _ (s : List ℕ) (at : ℕ) (l : Lexeme) (less : at < length s) (is : l ≡ lexeme_at (drop at s)) where
  reaches : Reach l (suc (length (drop (at + 1) s)))
  reaches = subst (λ (x : Lexeme). Reach x (suc (length (drop (at + 1) s)))) (ap lexeme_at (sym (at_place s at less)) ∙ sym is) (reach (get_or s at 0) (drop (at + 1) s))

  pub found_some : 1 ≤ l.width
  found_some = reaches.some

  pub found_within : l.skip + l.size ≤ l.width
  found_within = reaches.within

  pub found-there : at + l.width ≤ length s
  found-there = omega (arith, reaches.there, length-drop (at + 1) s)

  -- its content, as the code cuts it out
  pub found-piece : piece_at (drop at s) ≡ piece_of l.kind (take (at + l.skip + l.size - (at + l.skip)) (drop (at + l.skip) s))
  unfolding piece_at
  found-piece =
      let e : at + l.skip + l.size - (at + l.skip) ≡ l.size = omega arith in
      ap (λ (x : Lexeme). piece_of x.kind (take x.size (drop x.skip (drop at s)))) (sym is)
      ∙ ap (λ (t : List ℕ). piece_of l.kind (take l.size t)) (drop-drop l.skip at s)
      ∙ ap (λ (n : ℕ). piece_of l.kind (take n (drop (at + l.skip) s))) (sym e)

  pub lex-at : lex (drop at s) ≡ emit (piece_at (drop at s)) (lex (drop (at + l.width) s))
  lex-at =
      let e : at + 1 + (l.width - 1) ≡ at + l.width = omega (arith, reaches.some) in
      let q : lexeme_at (get_or s at 0 ∷ drop (at + 1) s) ≡ l = ap lexeme_at (sym (at_place s at less)) ∙ sym is in
      ap lex (at_place s at less) ∙ lex-cons (get_or s at 0) (drop (at + 1) s)
      ∙ ap (λ (x : Lexeme). emit (piece_at (get_or s at 0 ∷ drop (at + 1) s)) (lex_after (x.width - 1) (drop (at + 1) s))) q
      ∙ ap (emit (piece_at (get_or s at 0 ∷ drop (at + 1) s)))
      (lex_skip (l.width - 1) (drop (at + 1) s) ∙ ap lex (drop-drop (l.width - 1) (at + 1) s ∙ ap (λ (n : ℕ). drop n s) e))
      ∙ ap (λ (t : List ℕ). emit (piece_at t) (lex (drop (at + l.width) s))) (sym (at_place s at less))

-- how many bytes of text a piece brings
abbrev pub text_size : Piece → ℕ
text_size space = 0
text_size (token opens) = 0
text_size (token closes) = 0
text_size (token (atom a)) = length (atom_text a)
text_size (wrong why) = 0

parsed-small : (p : Result Pair Refusal) (make : ℕ → Atom) → ((n : ℕ) → length (atom_text (make n)) ≡ 0) → text_size (from_parsed p make) ≡ 0
parsed-small (Ok p) make h = h _
parsed-small (Err why) make h = refl

cond_small : (t : Bool) (x y : Piece) (n : ℕ) → text_size x ≤ n → text_size y ≤ n → text_size (cond t x y) ≤ n
cond_small true x y n h k = h
cond_small false x y n h k = k

pub size_small : (k : Kind) (x : List ℕ) → Bytes x → text_size (piece_of k x) ≤ 2 * length x
size_small K.Blank x h = omega arith
size_small K.Opening x h = omega arith
size_small K.Closing x h = omega arith
size_small (K.Bits r) x h =
    omega (arith, parsed-small (parsed r x) (λ (n : ℕ). bits (bits_of r * length x) (extended (bits_of r * length x) n)) (λ n. refl))
size_small K.Number x h = omega (arith, parsed-small (parsed Decimal x) (λ (n : ℕ). number n) (λ n. refl))
size_small K.Quoted x h = cond_small (any_surrogate (points x)) _ _ (2 * length x) (omega arith) (text_le x h)
size_small K.Name x h = cond_small (utf8 x) _ _ (2 * length x) (omega arith) (omega arith)
size_small K.Stray x h = omega arith
size_small K.Unclosed x h = omega arith

-- what a slice's rule says of each place
pub bytes_of : (s : List ℕ) → ((i : ℕ) → get_or s i 0 < 256) → Bytes s
bytes_of [] h = tt
bytes_of (b ∷ bs) h = (h 0, bytes_of bs (λ i. h (suc i)))

bytes_drop : (n : ℕ) (s : List ℕ) → Bytes s → Bytes (drop n s)
bytes_drop zero [] h = tt
bytes_drop zero (b ∷ bs) h = h
bytes_drop (suc n) [] h = tt
bytes_drop (suc n) (b ∷ bs) h = bytes_drop n bs h.1

bytes_take : (n : ℕ) (s : List ℕ) → Bytes s → Bytes (take n s)
bytes_take zero [] h = tt
bytes_take zero (b ∷ bs) h = tt
bytes_take (suc n) [] h = tt
bytes_take (suc n) (b ∷ bs) h = (h.0, bytes_take n bs h.1)

pub bytes-part : (s : List ℕ) (n m : ℕ) → Bytes s → Bytes (take n (drop m s))
bytes-part s n m h = bytes_take n (drop m s) (bytes_drop m s h)
