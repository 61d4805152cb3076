-- Every accepted tree is sound, so that its words and text pass the check of 27 as that same tree.
-- Assumes nothing.
use Rattle.std.proofs.Common.{Err, Ok}
use mathlib.Core.Path.{◌≡◌, refl, sym, ◌∙◌, subst}
use mathlib.Core.Bool.{Bool, true, false, cond, ◌&&◌}
use mathlib.Core.List.{List, [], ◌∷◌, ◌++◌}
use Prim.Native.Nat.{◌-◌, ℕ, zero, suc, ◌*◌, ◌^◌, ◌≤◌, ◌<◌}
use native.Mathlib.Omega.{arith}
use lib.Dec.{eqb, ltb}
use lib.ListN.{length, take, drop, length-take, length-drop}
use lib.Seq.{take-append_seam}
use borrow.Author.Tests.{ltb-true}
use Rattle.refusals.specs.declared.Refusal.{Refusal}
use Rattle.utf8.specs.Octets.{utf8}
use Rattle.words.specs.declared.digits.Radix.{Radix}
use Rattle.words.specs.declared.digits.Radix.TheVariants.{Binary, Decimal, Hexadecimal}
use Rattle.words.specs.Pair.{value, pair_of}
use Rattle.words.specs.Radix.{base_of}
use Rattle.words.specs.Run.{number, digits, some_byte, parsed}
use Rattle.words.specs.Extension.{extended}
use Rattle.words.proofs.Numbers.{value-pair}
use Rattle.strings.specs.Points.{points}
use Rattle.strings.specs.Text.{any_surrogate}
use Rattle.strings.proofs.Texts.{Bytes, text-utf8}
use Rattle.lexicon.specs.Class.{class_of}
use Rattle.arena.specs.Tree.{Tree, Trees, app, nil, cons, text, BitVector, Sound, SoundAll}
use Rattle.arena.specs.Layout.{words}
use Rattle.arena.specs.Arena.{Arena}
use Rattle.arena.proofs.Layouts.{length-words}
use Rattle.brackets.specs.Token.{Atom, Token, opens, closes, atom, leaf}
use Rattle.brackets.specs.Walk.{snoc, Walk, going, done, fault, add, close, onward, step, walk, tree}
use Rattle.tokens.specs.declared.lexeme.Kind.{Kind}
use Rattle.tokens.specs.declared.lexeme.Kind.TheVariants as K
use Rattle.tokens.specs.declared.lexeme.Lexeme.{Lexeme}
use Rattle.tokens.specs.Lexeme.{after_quote, after_hash, by_class, lexeme_at, inside}
use Rattle.tokens.specs.Piece.{Piece, space, token, wrong, from_parsed, piece_of, piece_at, Lexed, ok, bad, emit, lex_after, lex}
use Rattle.refusals.specs.Limit.{input_limit}
use Rattle.reader.specs.Read.{parse}
use Rattle.reader.proofs.Signs.{binary-below, hexadecimal-below, extended-sound}
use Rattle.reader.proofs.Bounds.{accepted-small}
use Rattle.reader.proofs.Holds.{found, parse-is}

abbrev SoundToken : Token → Type 0
SoundToken opens = Unit {0}
SoundToken closes = Unit {0}
SoundToken (atom a) = Sound (leaf a)

abbrev SoundPiece : Piece → Type 0
SoundPiece space = Unit {0}
SoundPiece (token x) = SoundToken x
SoundPiece (wrong why) = Unit {0}

-- what a run that was taken gives: some digits, and a number below 2 ^ 128
record Run (r : Radix) (s : List ℕ) (n : ℕ) : Type 0 where
  pub some : 0 < length s
  pub all : digits r s ≡ true
  pub is : n ≡ number (base_of r) s
  pub below : n < 2 ^ 128

some-length : (s : List ℕ) → some_byte s ≡ true → 0 < length s
some-length [] h = let z : ◌≡◌ {A = ℕ} 0 1 = cc in absurd (omega arith)
some-length (b ∷ bs) h = omega arith

-- a piece that a run gives is sound if its atom is
run_when : (r : Radix) (s : List ℕ) (a b c : Bool) (make : ℕ → Atom) (why : Refusal) → a ≡ some_byte s → b ≡ digits r s → c ≡ ltb (number (base_of r) s) (2 ^ 128)
    → ((n : ℕ) → Run r s n → Sound (leaf (make n))) → SoundPiece (from_parsed (cond (a && b && c) (Ok (pair_of (number (base_of r) s))) (Err why)) make)
run_when r s false b c make why p q o go = tt
run_when r s true false c make why p q o go = tt
run_when r s true true false make why p q o go = tt
run_when r s true true true make why p q o go =
    let e : value (pair_of (number (base_of r) s)) ≡ number (base_of r) s = value-pair (number (base_of r) s) in
    go (value (pair_of (number (base_of r) s)))
    (record {
      some = some-length s (sym p);
      all = sym q;
      is = e;
      below = subst (λ (n : ℕ). n < 2 ^ 128) (sym e) (ltb-true (number (base_of r) s) (2 ^ 128) (sym o));
    })

run_sound : (r : Radix) (s : List ℕ) (make : ℕ → Atom) → ((n : ℕ) → Run r s n → Sound (leaf (make n))) → SoundPiece (from_parsed (parsed r s) make)
unfolding parsed
run_sound r s make go = run_when r s (some_byte s) (digits r s) (ltb (number (base_of r) s) (2 ^ 128)) make _ refl refl refl go

binary-sound : (x : List ℕ) (n : ℕ) → length x ≤ input_limit → Run Binary x n → BitVector (1 * length x) (extended (1 * length x) n)
binary-sound x n h u =
    extended-sound (1 * length x) n (omega (arith, u.some))
    (subst (λ (k : ℕ). k < 2 ^ (1 * length x)) (sym u.is) (binary-below x u.all))
    u.below (omega arith)

hexadecimal-sound : (x : List ℕ) (n : ℕ) → length x ≤ input_limit → Run Hexadecimal x n → BitVector (4 * length x) (extended (4 * length x) n)
hexadecimal-sound x n h u =
    extended-sound (4 * length x) n (omega (arith, u.some))
    (subst (λ (k : ℕ). k < 2 ^ (4 * length x)) (sym u.is) (hexadecimal-below x u.all))
    u.below (omega arith)

-- the lexer gives no bit vector of radix 10
abbrev Two : Kind → Type 0
Two K.Blank = Unit {0}
Two K.Opening = Unit {0}
Two K.Closing = Unit {0}
Two (K.Bits Binary) = Unit {0}
Two (K.Bits Decimal) = ⊥
Two (K.Bits Hexadecimal) = Unit {0}
Two K.Number = Unit {0}
Two K.Quoted = Unit {0}
Two K.Name = Unit {0}
Two K.Stray = Unit {0}
Two K.Unclosed = Unit {0}

two-cond : (t : Bool) (x y : Lexeme) → Two x.kind → Two y.kind → Two (cond t x y).kind
two-cond true x y h k = h
two-cond false x y h k = k

two-hash : (s : List ℕ) → Two (after_hash s).kind
two-hash [] = tt
two-hash (b ∷ bs) = two-cond (eqb b 0x62) _ _ tt (two-cond (eqb b 0x78) _ _ tt tt)

two-quote : (s : List ℕ) → Two (after_quote s).kind
two-quote s = two-cond (ltb (inside s) (length s)) _ _ tt tt

two_class : (k b : ℕ) (bs : List ℕ) → Two (by_class k b bs).kind
two_class k b bs =
    two-cond (eqb k 0) _ _ tt
    (two-cond (eqb k 1) _ _ tt
    (two-cond (eqb k 2) _ _ tt
    (two-cond (eqb k 3) _ _ tt
    (two-cond (eqb k 4) _ _ (two-quote bs)
    (two-cond (eqb k 5) _ _ (two-hash bs)
    (two-cond (eqb k 6) _ _ tt tt))))))

two_at : (s : List ℕ) → Two (lexeme_at s).kind
unfolding lexeme_at
two_at [] = tt
two_at (b ∷ bs) = two_class (class_of b) b bs

sound_else : (t : Bool) (why : Refusal) (a : Atom) → Sound (leaf a) → SoundPiece (cond t (wrong why) (token (atom a)))
sound_else true why a h = tt
sound_else false why a h = h

sound-then : (t : Bool) (why : Refusal) (a : Atom) → (t ≡ true → Sound (leaf a)) → SoundPiece (cond t (token (atom a)) (wrong why))
sound-then true why a h = h refl
sound-then false why a h = tt

piece-sound : (k : Kind) (x : List ℕ) → Two k → length x ≤ input_limit → SoundPiece (piece_of k x)
piece-sound K.Blank x two h = tt
piece-sound K.Opening x two h = tt
piece-sound K.Closing x two h = tt
piece-sound (K.Bits Binary) x two h = run_sound Binary x _ (λ n u. binary-sound x n h u)
piece-sound (K.Bits Decimal) x two h = absurd two
piece-sound (K.Bits Hexadecimal) x two h = run_sound Hexadecimal x _ (λ n u. hexadecimal-sound x n h u)
piece-sound K.Number x two h = run_sound Decimal x _ (λ n u. u.below)
piece-sound K.Quoted x two h = sound_else (any_surrogate (points x)) _ _ (text-utf8 x)
piece-sound K.Name x two h = sound-then (utf8 x) _ _ (λ t. t)
piece-sound K.Stray x two h = tt
piece-sound K.Unclosed x two h = tt

abbrev SoundTokens : List Token → Type 0
SoundTokens [] = Unit {0}
SoundTokens (x ∷ xs) = SoundToken x × SoundTokens xs

abbrev SoundLexed : Lexed → Type 0
SoundLexed (ok xs) = SoundTokens xs
SoundLexed (bad why) = Unit {0}

emit-sound : (p : Piece) (r : Lexed) → SoundPiece p → SoundLexed r → SoundLexed (emit p r)
emit-sound space r h k = k
emit-sound (token x) (ok xs) h k = (h, k)
emit-sound (token x) (bad why) h k = tt
emit-sound (wrong why) r h k = tt

at-sound : (s : List ℕ) → length s ≤ input_limit → SoundPiece (piece_at s)
unfolding piece_at
at-sound s h = piece-sound (lexeme_at s).kind _ (two_at s) (omega (arith, length-take (lexeme_at s).size (drop (lexeme_at s).skip s), length-drop (lexeme_at s).skip s))

lex-sound : (k : ℕ) (s : List ℕ) → length s ≤ input_limit → SoundLexed (lex_after k s)
unfolding lex_after
lex-sound zero [] h = tt
lex-sound (suc k) [] h = tt
lex-sound zero (b ∷ bs) h = emit-sound (piece_at (b ∷ bs)) _ (at-sound (b ∷ bs) h) (lex-sound ((lexeme_at (b ∷ bs)).width - 1) bs (omega arith))
lex-sound (suc k) (b ∷ bs) h = lex-sound k bs (omega arith)

snoc-sound : (ks : Trees) (t : Tree) → SoundAll ks → Sound t → SoundAll (snoc ks t)
snoc-sound nil t h k = (k, tt)
snoc-sound (cons u us) t h k = (h.0, snoc-sound us t h.1 k)

abbrev SoundOpen : List Trees → Type 0
SoundOpen [] = Unit {0}
SoundOpen (ks ∷ st) = SoundAll ks × SoundOpen st

abbrev SoundWalk : Walk → Type 0
SoundWalk (going st) = SoundOpen st
SoundWalk (done t) = Sound t
SoundWalk (fault why) = Unit {0}

add-sound : (st : List Trees) (t : Tree) → SoundOpen st → Sound t → SoundWalk (add st t)
add-sound [] t h k = k
add-sound (ks ∷ st) t h k = (snoc-sound ks t h.0 k, h.1)

close-sound : (st : List Trees) → SoundOpen st → SoundWalk (close st)
close-sound [] h = tt
close-sound (ks ∷ st) h = add-sound st (app ks) h.1 h.0

onward-sound : (st : List Trees) (x : Token) → SoundOpen st → SoundToken x → SoundWalk (onward st x)
onward-sound st opens h k = (tt, h)
onward-sound st closes h k = close-sound st h
onward-sound st (atom a) h k = add-sound st (leaf a) h k

step-sound : (w : Walk) (x : Token) → SoundWalk w → SoundToken x → SoundWalk (step w x)
step-sound (going st) x h k = onward-sound st x h k
step-sound (done t) x h k = tt
step-sound (fault why) x h k = tt

walk-sound : (xs : List Token) (w : Walk) → SoundWalk w → SoundTokens xs → SoundWalk (walk w xs)
walk-sound [] w h k = h
walk-sound (x ∷ xs) w h k = walk-sound xs (step w x) (step-sound w x h k.0) k.1

accepted-sound : (s : List ℕ) (t : Tree) → length s ≤ input_limit → parse s ≡ tree t → Sound t
accepted-sound s t h e =
    let f = found (lex s) t (sym (parse-is s) ∙ e) in
    subst SoundWalk f.walked (walk-sound f.ts (going []) tt (subst SoundLexed f.lexed (lex-sound 0 s h)))

-- what stands before the rest of the buffers is that tree's arena
pub accepted-arena : (s : List ℕ) (t : Tree) (N T : List ℕ) → Bytes s → length s ≤ input_limit → parse s ≡ tree t → Arena (words t 0 0 ++ N) (text t ++ T) t
accepted-arena s t N T bytes h e =
    let b = accepted-small s t bytes e in
    record {
      few = omega (arith, b.few);
      short = omega (arith, b.short);
      sound = accepted-sound s t h e;
      laid = subst (λ (k : ℕ). take k (words t 0 0 ++ N) ≡ words t 0 0) (length-words t 0 0) (take-append_seam (words t 0 0) N);
      written = take-append_seam (text t) T;
    }
