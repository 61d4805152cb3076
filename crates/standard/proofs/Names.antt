-- Simple symbols, reserved words, keywords and quoted symbols without a break: each is one symbol.
-- Assumes nothing.
use mathlib.Core.Path.{◌≡◌, refl, sym, ap, ◌∙◌}
use mathlib.Core.Bool.{true, not, false≢true}
use mathlib.Core.List.{List, [], ◌∷◌, ◌++◌}
use Prim.Native.Nat.{ℕ, ◌≤◌}
use native.Mathlib.Omega.{arith}
use lib.Dec.{eqb, ltb}
use lib.ListN.{length}
use lib.Seq.{take-append_seam, drop-append_seam}
use borrow.Author.Tests.{eqb-true, ltb-true}
use Rattle.ground.proofs.Tests.{both_left, both_right}
use Rattle.utf8.specs.Octets.{octets, utf8}
use Rattle.utf8.proofs.Leads.{row-tells}
use Rattle.utf8.proofs.Concatenations.{utf8_append}
use Rattle.lexicon.specs.Class.{class_of}
use Rattle.lexicon.specs.Span.{in_symbol}
use Rattle.brackets.specs.Token.{name, atom}
use Rattle.tokens.specs.declared.lexeme.Kind.TheVariants.{Name}
use Rattle.tokens.specs.Lexeme.{whole}
use Rattle.tokens.specs.Piece.{Piece, token, piece_of, more, emit, lex}
use Rattle.ground.specs.Lists.{all}
use Rattle.standard.specs.Bytes.{among, from, enders, decimal_digits, symbol_starts, symbol_bytes}
use Rattle.standard.specs.Written.{run, is_simple, ended}
use Rattle.standard.specs.Limits.{Unbroken}
use Rattle.standard.proofs.Runs.{pass, pass_all, all_append, span_run}
use Rattle.standard.proofs.Separators.{one_piece, at_class}

one_octet : (b : ℕ) (bs : List ℕ) → b ≤ 0x7F → octets 0 (b ∷ bs) ≡ octets 0 bs
unfolding octets
one_octet b bs h = rw (row-tells 0 0 0x7F b [] bs refl (omega arith) h)

-- bytes below 80 hex are UTF-8
low-octets : (s : List ℕ) → all (λ b. ltb b 0x80) s ≡ true → octets 0 s ≡ true
unfolding octets all
low-octets [] h = refl
low-octets (b ∷ bs) h =
    let l = ltb-true b 0x80 (both_left (ltb b 0x80) (all (λ (c : ℕ). ltb c 0x80) bs) h) in
    one_octet b bs (omega arith) ∙ low-octets bs (both_right (ltb b 0x80) (all (λ (c : ℕ). ltb c 0x80) bs) h)

stop : all (λ b. not (in_symbol b)) enders ≡ true
unfolding all in_symbol class_of
stop = refl

bytes-are : all in_symbol symbol_bytes ≡ true
unfolding all from decimal_digits symbol_starts symbol_bytes in_symbol class_of
bytes-are = refl

bytes_low : all (λ b. ltb b 0x80) symbol_bytes ≡ true
unfolding all from decimal_digits symbol_starts symbol_bytes
bytes_low = refl

starts-among : all (among symbol_bytes) symbol_starts ≡ true
unfolding among all from decimal_digits symbol_starts symbol_bytes
starts-among = refl

start_class : (b : ℕ) → among symbol_starts b ≡ true → class_of b ≡ 7
unfolding all from symbol_starts class_of
start_class b h = eqb-true (class_of b) 7 (pass (λ (c : ℕ). eqb (class_of c) 7) symbol_starts b refl h)

low-utf8 : (s : List ℕ) → all (λ b. ltb b 0x80) s ≡ true → utf8 s ≡ true
unfolding utf8
low-utf8 s h = low-octets s h

piece_is : (x : List ℕ) → utf8 x ≡ true → piece_of Name x ≡ token (atom (name x))
piece_is x h = rw h

-- a byte that starts symbols of ours, and others of the standard's
lex-name : (b : ℕ) (bs s : List ℕ) → class_of b ≡ 7 → all in_symbol (b ∷ bs) ≡ true → utf8 (b ∷ bs) ≡ true → ended s ≡ true
    → lex (b ∷ (bs ++ s)) ≡ more (atom (name (b ∷ bs))) (lex s)
lex-name b bs s c h u e =
    one_piece b (bs ++ s) s (whole Name (length (b ∷ bs)))
    (ap (whole Name) (sym (span_run in_symbol (b ∷ bs) s h stop e)) ∙ at_class 7 b (bs ++ s) c)
    (drop-append_seam (b ∷ bs) s)
    ∙ ap (λ (x : List ℕ). emit (piece_of Name x) (lex s)) (take-append_seam (b ∷ bs) s)
    ∙ ap (λ (p : Piece). emit p (lex s)) (piece_is (b ∷ bs) u)

simple-bytes : (b : ℕ) (bs : List ℕ) → is_simple (b ∷ bs) ≡ true → all (among symbol_bytes) (b ∷ bs) ≡ true
unfolding all
simple-bytes b bs h =
    rw (pass (among symbol_bytes) symbol_starts b starts-among (both_left (among symbol_starts b) (all (among symbol_bytes) bs) h))
    (both_right (among symbol_starts b) (all (among symbol_bytes) bs) h)

pub lex-simple : (x s : List ℕ) → is_simple x ≡ true → ended s ≡ true → lex (x ++ s) ≡ more (atom (name x)) (lex s)
lex-simple [] s h e = absurd (false≢true h)
lex-simple (b ∷ bs) s h e =
    let a : all (among symbol_bytes) (b ∷ bs) ≡ true = simple-bytes b bs h in
    lex-name b bs s (start_class b (both_left (among symbol_starts b) (all (among symbol_bytes) bs) h))
    (pass_all in_symbol symbol_bytes (b ∷ bs) bytes-are a) (low-utf8 (b ∷ bs) (pass_all (λ (c : ℕ). ltb c 0x80) symbol_bytes (b ∷ bs) bytes_low a)) e

-- the colon first
colon_in : (x : List ℕ) → all in_symbol x ≡ true → all in_symbol (0x3A ∷ x) ≡ true
unfolding all in_symbol class_of
colon_in x h = h

colon_low : (x : List ℕ) → all (λ c. ltb c 0x80) x ≡ true → all (λ c. ltb c 0x80) (0x3A ∷ x) ≡ true
unfolding all
colon_low x h = h

pub lex-keyword : (x s : List ℕ) → run symbol_bytes x ≡ true → ended s ≡ true → lex (0x3A ∷ (x ++ s)) ≡ more (atom (name (0x3A ∷ x))) (lex s)
unfolding class_of
lex-keyword [] s h e = absurd (false≢true h)
lex-keyword (b ∷ bs) s h e =
    lex-name 0x3A (b ∷ bs) s refl
    (colon_in (b ∷ bs) (pass_all in_symbol symbol_bytes (b ∷ bs) bytes-are h))
    (low-utf8 (0x3A ∷ b ∷ bs) (colon_low (b ∷ bs) (pass_all (λ (c : ℕ). ltb c 0x80) symbol_bytes (b ∷ bs) bytes_low h))) e

-- a bar is a byte of symbols, and UTF-8 by itself
bar_in : all in_symbol (0x7C ∷ []) ≡ true
unfolding all in_symbol class_of
bar_in = refl

bar_first : (x : List ℕ) → all in_symbol x ≡ true → all in_symbol (0x7C ∷ x) ≡ true
unfolding all in_symbol class_of
bar_first x h = h

bar_utf8 : utf8 (0x7C ∷ []) ≡ true
unfolding utf8 octets
bar_utf8 = refl

pub lex-barred : (x s : List ℕ) → Unbroken x → ended s ≡ true
    → lex (0x7C ∷ ((x ++ (0x7C ∷ [])) ++ s)) ≡ more (atom (name (0x7C ∷ (x ++ (0x7C ∷ []))))) (lex s)
unfolding class_of
lex-barred x s u e =
    lex-name 0x7C (x ++ (0x7C ∷ [])) s refl
    (bar_first (x ++ (0x7C ∷ [])) (all_append in_symbol x (0x7C ∷ []) u.goes bar_in))
    (utf8_append (0x7C ∷ []) (x ++ (0x7C ∷ [])) bar_utf8 (utf8_append x (0x7C ∷ []) u.encoded bar_utf8)) e
