-- Names and numbers have no space and no line feed in them.
-- Assumes nothing.
use mathlib.Core.Path.{◌≡◌, refl, sym, ap, ◌∙◌}
use mathlib.Core.Bool.{Bool, true, false, not, ◌||◌, true≢false}
use mathlib.Core.List.{List, [], ◌∷◌, ◌++◌}
use Prim.Native.Nat.{ℕ, zero, suc, ◌+◌, ◌/◌, ◌%◌, ◌<◌}
use native.Mathlib.Omega.{arith}
use lib.Dec.{eqb, leb}
use lib.ListN.{length, drop}
use borrow.Author.Tests.{eq-eqb, ne_eqb, eqb-true, eqb-false}
use Rattle.ground.specs.Lists.{all, any}
use Rattle.ground.proofs.Tests.{by_test, both_left, both_right, both}
use Rattle.lexicon.specs.Class.{class_of}
use Rattle.lexicon.specs.Span.{in_symbol, symbol_span}
use Rattle.lexicon.specs.Symbol.{one_symbol}
use Rattle.lexicon.proofs.Spans.{all_span}
use Rattle.lexicon.proofs.Symbols.{one-symbol_span}
use Rattle.decimals.specs.Decimal.{last_digits, digit_count, decimal}
use Rattle.tables.specs.Rules.{name_limit, name_right, own_name}
use Rattle.tables_text.specs.Line.{one_line}
use Rattle.tables_text.specs.Parse.{apart, space, line_feed}
use Rattle.tables_text.proofs.Cuts.{clear}

pub clear-append : (byte : ℕ) (a b : List ℕ) → clear byte a ≡ true → clear byte b ≡ true → clear byte (a ++ b) ≡ true
unfolding all
clear-append byte [] b p q = q
clear-append byte (x ∷ a) b p q =
    both (both_left (apart byte x) (clear byte a) p) (clear-append byte a b (both_right (apart byte x) (clear byte a) p) q)

pub clear-drop : (byte k : ℕ) (s : List ℕ) → clear byte s ≡ true → clear byte (drop k s) ≡ true
unfolding all
clear-drop byte zero s p = p
clear-drop byte (suc k) [] p = p
clear-drop byte (suc k) (x ∷ s) p = clear-drop byte k s (both_right (apart byte x) (clear byte s) p)

-- a symbol's bytes
symbol-apart : (byte : ℕ) → in_symbol byte ≡ false → (s : List ℕ) → all in_symbol s ≡ true → clear byte s ≡ true
unfolding all
symbol-apart byte f [] h = refl
symbol-apart byte f (b ∷ bs) h =
    by_test (eqb b byte)
    (λ e. absurd (true≢false (sym (both_left (in_symbol b) (all in_symbol bs) h) ∙ ap in_symbol (eqb-true b byte e) ∙ f)))
    (λ e. both (ap not e) (symbol-apart byte f bs (both_right (in_symbol b) (all in_symbol bs) h)))

symbol-every : (s : List ℕ) → one_symbol s ≡ true → all in_symbol s ≡ true
symbol-every s h = all_span in_symbol s ∙ eq-eqb (symbol_span s) (length s) (one-symbol_span s h)

no-space : in_symbol space ≡ false
unfolding in_symbol class_of
no-space = refl

no-feed : in_symbol line_feed ≡ false
unfolding in_symbol class_of
no-feed = refl

pub name_spaceless : (s : List ℕ) → name_right s ≡ true → clear space s ≡ true
name_spaceless s h = symbol-apart space no-space s (symbol-every s (both_right (leb (length s) name_limit) (one_symbol s) h))

pub name_feedless : (s : List ℕ) → name_right s ≡ true → clear line_feed s ≡ true
name_feedless s h = symbol-apart line_feed no-feed s (symbol-every s (both_right (leb (length s) name_limit) (one_symbol s) h))

pub own-right : (s : List ℕ) → own_name s ≡ true → name_right s ≡ true
own-right s h = both_left (name_right s) _ h

-- digits
digits-clear : (byte : ℕ) → byte < 48 → (k n : ℕ) → clear byte (last_digits k n) ≡ true
unfolding all last_digits
digits-clear byte h zero n = refl
digits-clear byte h (suc k) n =
    clear-append byte (last_digits k (n / 10)) ((48 + n % 10) ∷ []) (digits-clear byte h k (n / 10))
    (both (ap not (ne_eqb (48 + n % 10) byte (λ e. omega arith))) refl)

pub decimal-clear : (byte : ℕ) → byte < 48 → (n : ℕ) → clear byte (decimal n) ≡ true
unfolding decimal
decimal-clear byte h n = digits-clear byte h (digit_count n) n

-- a text on one line
pub one-line-clear : (s : List ℕ) → one_line s ≡ true → clear line_feed s ≡ true
unfolding all any
one-line-clear [] h = refl
one-line-clear (b ∷ bs) h =
    by_test (eqb 0x0A b)
    (λ e. absurd (true≢false (sym h ∙ ap (λ (t : Bool). not (t || any (eqb 0x0A) bs)) e)))
    (λ e.
    both (ap not (ne_eqb b line_feed (λ q. eqb-false 0x0A b e (sym q))))
    (one-line-clear bs (sym (ap (λ (t : Bool). not (t || any (eqb 0x0A) bs)) e) ∙ h)))

pub clear-one-line : (s : List ℕ) → clear line_feed s ≡ true → one_line s ≡ true
unfolding all any
clear-one-line [] h = refl
clear-one-line (b ∷ bs) h =
    by_test (eqb 0x0A b)
    (λ e. absurd (true≢false (sym (both_left (apart line_feed b) (clear line_feed bs) h) ∙ ap not (eq-eqb b line_feed (sym (eqb-true 0x0A b e))))))
    (λ e. ap (λ (t : Bool). not (t || any (eqb 0x0A) bs)) e ∙ clear-one-line bs (both_right (apart line_feed b) (clear line_feed bs) h))
