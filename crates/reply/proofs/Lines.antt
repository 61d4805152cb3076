-- A refusal's two lines, put piece after piece at the front of a lent buffer.
-- Assumes nothing.
use Rattle.std.proofs.Common.{Err}
use mathlib.Core.Path.{◌≡◌, refl, sym, ap, ◌∙◌}
use mathlib.Core.Bool.{cond}
use mathlib.Core.List.{List, ◌++◌, append_assoc}
use Prim.Native.Nat.{ℕ, ◌+◌, ◌≤◌, ◌<◌}
use native.Mathlib.Omega.{arith}
use lib.Dec.{leb}
use lib.ListN.{length, length-append}
use borrow.Author.Tests.{le-leb, lt-leb}
use Rattle.ground.specs.Bytes.{bytes}
use Rattle.refusals.specs.declared.Refusal.{Refusal}
use Rattle.refusals.specs.Number.{number_of, detail_of}
use Rattle.lent.specs.Left.{onto}
use Rattle.lent.specs.Put.{Offers}
use Rattle.lent.proofs.Offers.{offers_then, offers_as, offers_front}
use Rattle.decimals.specs.Decimal.{decimal, digit_count}
use Rattle.decimals.proofs.Counts.{count_most}
use Rattle.decimals.proofs.Texts.{length-decimal}
use Rattle.reply.specs.Printed.{refusal_lines, Shown, shown, Shows}

-- lines where they fit, and where they do not
module _ (lines out : List ℕ) where
  abbrev fitting : Shown
  fitting = cond (leb (length lines) (length out)) (record { count = length lines; holds = onto lines out }) (record { count = 0; holds = out })

  shows-fit : (r : ℕ) (exit : List ℕ) → length lines ≤ length out → r ≡ length lines → exit ≡ onto lines out → Shows fitting r exit
  shows-fit r exit h p q = rw (le-leb (length lines) (length out) h) (record { counts = p; holds = q })

  shows-none : length out < length lines → Shows fitting 0 out
  shows-none h = rw (lt-leb (length lines) (length out) h) (record { counts = refl; holds = refl })

-- the pieces as they are put
abbrev pieces : ℕ → ℕ → List ℕ
pieces n d = (((bytes "refused=" ++ decimal n) ++ bytes "\ndetail=") ++ decimal d) ++ bytes "\n"

pieces-lines : (why : Refusal) → pieces (number_of why) (detail_of why) ≡ refusal_lines why
pieces-lines why = joins (decimal (number_of why)) (decimal (detail_of why))
  where
    joins : (a b : List ℕ) → (((bytes "refused=" ++ a) ++ bytes "\ndetail=") ++ b) ++ bytes "\n" ≡ bytes "refused=" ++ ((a ++ bytes "\n") ++ (bytes "detail=" ++ (b ++ bytes "\n")))
    joins a b =
        ap (λ (l : List ℕ). bytes "refused=" ++ l)
        (append_assoc (a ++ bytes "\ndetail=") b (bytes "\n")
        ∙ append_assoc a (bytes "\ndetail=") (b ++ bytes "\n")
        ∙ sym (append_assoc a (bytes "\n") (bytes "detail=" ++ (b ++ bytes "\n"))))

lines_long : (why : Refusal) → length (refusal_lines why) ≡ 17 + digit_count (number_of why) + digit_count (detail_of why)
lines_long why = long (decimal (number_of why)) (decimal (detail_of why)) (digit_count (number_of why)) (digit_count (detail_of why)) (length-decimal (number_of why)) (length-decimal (detail_of why))
  where
    long : (a b : List ℕ) (i j : ℕ) → length a ≡ i → length b ≡ j → length (bytes "refused=" ++ ((a ++ bytes "\n") ++ (bytes "detail=" ++ (b ++ bytes "\n")))) ≡ 17 + i + j
    long a b i j p q =
        omega (arith, length-append (a ++ bytes "\n") (bytes "detail=" ++ (b ++ bytes "\n")), length-append a (bytes "\n"), length-append b (bytes "\n"), p, q)

module _ (why : Refusal) (n d i j : ℕ) (number : n ≡ number_of why) (detail : d ≡ detail_of why) (first : i ≡ digit_count n) (second : j ≡ digit_count d) where
  need-so : 17 + i + j ≡ length (refusal_lines why)
  need-so =
      let p : i ≡ digit_count (number_of why) = first ∙ ap (λ (k : ℕ). digit_count k) number in
      let q : j ≡ digit_count (detail_of why) = second ∙ ap (λ (k : ℕ). digit_count k) detail in
      omega (arith, lines_long why)

  pub refusal-short : (out : List ℕ) → length out < 17 + i + j → Shows (shown (Err why) out) 0 out
  refusal-short out h = shows-none (refusal_lines why) out (omega (arith, need-so))

  pub refusal-put : {out a b c e exit : List ℕ} {one two three four r : ℕ} → 17 + i + j ≤ length out
      → Offers out a 0 (bytes "refused=") one → Offers a b one (decimal n) two → Offers b c two (bytes "\ndetail=") three → Offers c e three (decimal d) four → Offers e exit four (bytes "\n") r
      → Shows (shown (Err why) out) r exit
  refusal-put {out} {a} {b} {c} {e} {exit} {one} {two} {three} {four} {r} h p q s t u =
      let whole : Offers out exit 0 (pieces n d) r = offers_then (offers_then (offers_then (offers_then p q) s) t) u in
      let same : pieces n d ≡ refusal_lines why =
      ap (λ (k : ℕ). pieces k d) number ∙ ap (λ (k : ℕ). pieces (number_of why) k) detail ∙ pieces-lines why in
      let fits : length (refusal_lines why) ≤ length out = omega (arith, need-so) in
      let w = offers_front (offers_as same whole) fits in
      shows-fit (refusal_lines why) out r exit fits w.long w.holds

-- no sum of the counts goes over a word
pub digits-fit : (n i : ℕ) → i ≡ digit_count n → i ≤ 40
digits-fit n i e = omega (arith, count_most n)
