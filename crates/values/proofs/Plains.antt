-- The text of a value that has a sort is of printable bytes, so none of them ends a record of a run or its key.
-- Assumes nothing.
use mathlib.Core.Path.{◌≡◌, refl, ap, sym, subst}
use mathlib.Core.Bool.{Bool, true, false, not}
use mathlib.Core.List.{List, [], ◌∷◌, ◌++◌}
use Prim.Native.Nat.{ℕ, ◌≤◌, ◌<◌}
use native.Mathlib.Omega.{arith}
use lib.Dec.{eqb, leb}
use borrow.Author.Tests.{eqb-true, ne_eqb, leb-true}
use Rattle.ground.specs.Bytes.{bytes}
use Rattle.ground.specs.Lists.{all, joined}
use Rattle.ground.proofs.Tests.{by_test, both_left, both_right, both}
use Rattle.words.specs.Radix.{within}
use Rattle.words.proofs.Worths.{inside}
use Rattle.decimals.specs.Decimal.{decimal, signed_decimal}
use Rattle.runs.specs.Run.{end, stop, plain, key}
use Rattle.tables.specs.Sort.{decimal as is_decimal, datetime, duration, Tables}
use Rattle.values.specs.Value.{Value, Values, v_bool, v_string, v_ext, v_bits, v_none, v_some, v_set, v_entity, v_record, v_nil, v_cons}
use Rattle.values.specs.Text.{text, texts, hex, hex_text, hex_width}
use Rattle.values.specs.HasSort.{HasSort, HaveSort, FieldSorts}
use Rattle.values.proofs.Alls.{all_append, all-by, all-joined}
use Rattle.values.proofs.Digits.{is_hex_digit, in_run, run_of, hex_text-digits, hex-digits, decimal-digits, signed-run}

abbrev pub printable : ℕ → Bool
printable b = within 33 126 b

wider : (least most b : ℕ) → 33 ≤ least → most ≤ 126 → within least most b ≡ true → printable b ≡ true
wider least most b p q h =
    let l = leb-true least b (both_left (leb least b) (leb b most) h) in
    let m = leb-true b most (both_right (leb least b) (leb b most) h) in
    inside 33 126 b (omega arith) (omega arith)

run-printable : (b : ℕ) → in_run b ≡ true → printable b ≡ true
run-printable b e =
    by_test (eqb b 45)
    (λ h. subst (λ (x : ℕ). printable x ≡ true) (sym (eqb-true b 45 h)) refl)
    (λ h. by_test (within 48 57 b)
    (λ k. wider 48 57 b (omega arith) (omega arith) k)
    (λ k. wider 97 102 b (omega arith) (omega arith) (rw (h, k) at e)))

run-plain : (s : List ℕ) → all in_run s ≡ true → all printable s ≡ true
run-plain s h = all-by in_run printable run-printable s h

digits-plain : (s : List ℕ) → all is_hex_digit s ≡ true → all printable s ≡ true
digits-plain s h = run-plain s (run_of s h)

-- a number, one more byte, and what follows
led-plain : (n c : ℕ) (s : List ℕ) → printable c ≡ true → all printable s ≡ true → all printable (decimal n ++ (c ∷ s)) ≡ true
unfolding all
led-plain n c s h k = all_append printable (decimal n) (c ∷ s) (digits-plain (decimal n) (decimal-digits n)) (both h k)

module _ (A : Values → Type 0) (T : Tables) where
  mutual
    unfolding text all

    pub text-plain : (v : Value) (r : ℕ) → HasSort v A T r → all printable (text v) ≡ true
    text-plain (v_bool true) r h = refl
    text-plain (v_bool false) r h = refl
    text-plain (v_string s) r h = digits-plain (hex_text s) (hex_text-digits s h.1)
    text-plain (v_ext is_decimal z) r h = run-plain (signed_decimal z) (signed-run z)
    text-plain (v_ext datetime z) r h = run-plain (signed_decimal z) (signed-run z)
    text-plain (v_ext duration z) r h = run-plain (signed_decimal z) (signed-run z)
    text-plain (v_bits w n) r h = led-plain w 58 (hex (hex_width w) n) refl (digits-plain (hex (hex_width w) n) (hex-digits (hex_width w) n))
    text-plain v_none r h = refl
    text-plain (v_some v) r h = all_append printable (text v) (bytes ")") (text-plain v h.inner h.has) refl
    text-plain (v_set vs) r h = all_append printable (joined (bytes ",") (texts vs)) (bytes "}") (all-joined printable (bytes ",") (texts vs) refl (texts-plain vs h.0.inner h.0.has)) refl
    text-plain (v_entity q s) r h = led-plain q 58 (hex_text s) refl (digits-plain (hex_text s) (hex_text-digits s h.has))
    text-plain (v_record q vs) r h =
        led-plain q 40 (joined (bytes ",") (texts vs) ++ bytes ")") refl
        (all_append printable (joined (bytes ",") (texts vs)) (bytes ")") (all-joined printable (bytes ",") (texts vs) refl (fields-plain vs h.fields h.has)) refl)

    pub texts-plain : (vs : Values) (r : ℕ) → HaveSort vs A T r → all (λ s. all printable s) (texts vs) ≡ true
    texts-plain v_nil r h = refl
    texts-plain (v_cons v vs) r h = both (text-plain v r h.0) (texts-plain vs r h.1)

    pub fields-plain : (vs : Values) (fs : List ℕ) → FieldSorts vs A T fs → all (λ s. all printable s) (texts vs) ≡ true
    fields-plain v_nil fs h = refl
    fields-plain (v_cons v vs) fs h = both (text-plain v h.first h.head) (fields-plain vs h.rest h.tail)

-- a byte that is not printable stands in no such text
pub without : (c : ℕ) → c < 33 → (s : List ℕ) → all printable s ≡ true → all (λ b. not (eqb b c)) s ≡ true
without c l s h =
    all-by printable (λ b. not (eqb b c))
    (λ b k. let m = leb-true 33 b (both_left (leb 33 b) (leb b 126) k) in rw (ne_eqb b c (λ e. omega arith))) s h

pub plain-all : (ss : List (List ℕ)) → all (λ s. all printable s) ss ≡ true → all plain ss ≡ true
plain-all ss h = all-by (λ s. all printable s) plain (λ s k. without end (omega arith) s k) ss h

-- a printable text is its own key
pub key-whole : (s : List ℕ) → all printable s ≡ true → key s ≡ s
unfolding key all
key-whole [] h = refl
key-whole (b ∷ bs) h =
    let m = leb-true 33 b (both_left (leb 33 b) (leb b 126) (both_left (printable b) (all printable bs) h)) in
    rw (ne_eqb b stop (λ e. omega arith)) (ap (λ (t : List ℕ). b ∷ t) (key-whole bs (both_right (printable b) (all printable bs) h)))
