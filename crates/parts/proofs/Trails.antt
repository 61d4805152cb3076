-- Parts written one after the other with what stands between them.
-- Assumes nothing.
use mathlib.Core.Path.{◌≡◌, refl, sym, ap, ◌∙◌, subst}
use mathlib.Core.Bool.{true}
use mathlib.Core.List.{List, [], ◌∷◌, ◌++◌, append_assoc, append-nil}
use Prim.Native.Nat.{ℕ, zero, suc, ◌+◌, ◌-◌, ◌≤◌, ◌<◌}
use native.Mathlib.Numerals.{add-one}
use native.Mathlib.Omega.{arith}
use lib.ListN.{length, get_or, take, drop, drop_of_length-le}
use lib.Seq.{drop-cons, take_all}
use Rattle.ground.specs.Bytes.{bytes}
use Rattle.ground.specs.Lists.{joined}
use Rattle.lent.specs.Put.{Offers}
use Rattle.lent.proofs.Offers.{offers_then, offers_as, Onwards, onwards-start, onwards-step, onwards-end}
use Rattle.parts.specs.Parts.{parts, parts_from, paired, trailed, rise}
use Rattle.parts.specs.Texts.{pair}
use Rattle.parts.proofs.Rises.{Rising, rises}

pub joined-trailed : (separator part : List ℕ) (ps : List (List ℕ)) → joined separator (part ∷ ps) ≡ part ++ trailed separator ps
unfolding joined trailed
joined-trailed separator part [] = sym (append-nil part)
joined-trailed separator part (p ∷ ps) = ap (λ (l : List ℕ). part ++ (separator ++ l)) (joined-trailed separator p ps)

-- what a list of parts is at a place of the table of ends
module _ (start : ℕ) (string ends : List ℕ) (at : ℕ) where
  pub parts_next : at < length ends → parts_from start string (drop at ends) ≡ take (get_or ends at 0 - start) (drop start string) ∷ parts_from (get_or ends at 0) string (drop (at + 1) ends)
  unfolding parts_from
  parts_next less = rw (add-one at) (ap (parts_from start string) (drop-cons ends at 0 less))

  pub parts-end : length ends ≤ at → parts_from start string (drop at ends) ≡ []
  unfolding parts_from
  parts-end past = ap (parts_from start string) (drop_of_length-le ends {i = at} past)

  pub rise-next : at < length ends → rise start (length string) (drop at ends) ≡ true → Rising start (length string) (get_or ends at 0) (drop (at + 1) ends)
  rise-next less h = rw (add-one at) (rises start (length string) (get_or ends at 0) (drop (suc at) ends) (sym (ap (rise start (length string)) (drop-cons ends at 0 less)) ∙ h))

-- what is still to be written of a list: what leads to its next part, and the separator before each of the others
abbrev pub led : List ℕ → List ℕ → List (List ℕ) → List ℕ
led lead separator [] = []
led lead separator (part ∷ parts) = lead ++ (part ++ trailed separator parts)

led-joined : (separator : List ℕ) (ps : List (List ℕ)) → joined separator ps ≡ led [] separator ps
unfolding joined
led-joined separator [] = refl
led-joined separator (part ∷ parts) = joined-trailed separator part parts

led-trailed : (separator : List ℕ) (ps : List (List ℕ)) → trailed separator ps ≡ led separator separator ps
unfolding trailed
led-trailed separator [] = refl
led-trailed separator (part ∷ parts) = refl

-- a loop over a list: nothing leads to the first part, the separator to each other, and at the end nothing is left
pub record Listing (separator entry : List ℕ) (at : ℕ) (whole : List (List ℕ)) (d lead : List ℕ) (to : ℕ) (rest : List (List ℕ)) : Type 0 where
  pub ahead : Onwards entry at (joined separator whole) d to (led lead separator rest)

pub listing_start : (separator entry : List ℕ) (at : ℕ) (whole : List (List ℕ)) → Listing separator entry at whole entry [] at whole
listing_start separator entry at whole =
    record { ahead = subst (λ (l : List ℕ). Onwards entry at (joined separator whole) entry at l) (led-joined separator whole) (onwards-start entry (joined separator whole) at) }

module _ (separator entry : List ℕ) (at : ℕ) (whole : List (List ℕ)) (d lead : List ℕ) (to : ℕ) where
  pub listing_step : (part : List ℕ) (rest : List (List ℕ)) → Listing separator entry at whole d lead to (part ∷ rest) → (d' : List ℕ) (to' : ℕ) → Offers d d' to (lead ++ part) to'
      → Listing separator entry at whole d' separator to' rest
  listing_step part rest so d' to' p = record {
    ahead =
        let so' : Onwards entry at (joined separator whole) d to ((lead ++ part) ++ trailed separator rest) =
        subst (λ (l : List ℕ). Onwards entry at (joined separator whole) d to l) (sym (append_assoc lead part (trailed separator rest))) so.ahead in
        subst (λ (l : List ℕ). Onwards entry at (joined separator whole) d' to' l) (led-trailed separator rest)
        (onwards-step entry (joined separator whole) at d d' (lead ++ part) (trailed separator rest) to to' so' p);
  }

  pub listing_end : Listing separator entry at whole d lead to [] → Offers entry d at (joined separator whole) to
  listing_end so = onwards-end entry (joined separator whole) at d to so.ahead

-- the loop over parts
pub record Trailing (separator string ends entry : List ℕ) (at : ℕ) (d lead : List ℕ) (from to i : ℕ) : Type 0 where
  pub right : rise from (length string) (drop i ends) ≡ true
  pub listing : Listing separator entry at (parts string ends) d lead to (parts_from from string (drop i ends))

module _ (separator string ends entry : List ℕ) (at : ℕ) where
  pub trailing_start : rise 0 (length string) ends ≡ true → Trailing separator string ends entry at entry [] 0 at 0
  trailing_start h = record { right = h; listing = listing_start separator entry at (parts string ends) }

  module _ (d lead : List ℕ) (from to i : ℕ) (so : Trailing separator string ends entry at d lead from to i) where
    pub trailing_next : i < length ends → Rising from (length string) (get_or ends i 0) (drop (i + 1) ends)
    trailing_next less = rise-next from string ends i less so.right

    pub trailing_step : i < length ends → (d' d'' : List ℕ) (behind to' : ℕ) → Offers d d' to lead behind → Offers d' d'' behind (take (get_or ends i 0 - from) (drop from string)) to'
        → Trailing separator string ends entry at d'' separator (get_or ends i 0) to' (i + 1)
    trailing_step less d' d'' behind to' p q = record {
      right = (trailing_next less).rest;
      listing =
          listing_step separator entry at (parts string ends) d lead to (take (get_or ends i 0 - from) (drop from string)) (parts_from (get_or ends i 0) string (drop (i + 1) ends))
          (subst (λ (l : List (List ℕ)). Listing separator entry at (parts string ends) d lead to l) (parts_next from string ends i less) so.listing)
          d'' to' (offers_then p q);
    }

    pub trailing_end : length ends ≤ i → Offers entry d at (joined separator (parts string ends)) to
    trailing_end past =
        listing_end separator entry at (parts string ends) d lead to
        (subst (λ (l : List (List ℕ)). Listing separator entry at (parts string ends) d lead to l) (parts-end from string ends i past) so.listing)

-- what leads to the part with the number i: nothing to the first
abbrev pub leading : List ℕ → ℕ → List ℕ
leading separator zero = []
leading separator (suc i) = separator

pub leading-first : (separator : List ℕ) (i : ℕ) → i ≡ 0 → leading separator i ≡ []
leading-first separator i e = ap (leading separator) e

pub leading-later : (separator : List ℕ) (i : ℕ) → (i ≡ 0 → ⊥) → leading separator i ≡ separator
leading-later separator zero h = absurd (h refl)
leading-later separator (suc i) h = refl

pub leading_step : (separator string ends entry : List ℕ) (at : ℕ) (d : List ℕ) (from to i : ℕ) → Trailing separator string ends entry at d (leading separator i) from to i → i < length ends
    → (d' d'' : List ℕ) (behind to' : ℕ) → Offers d d' to (leading separator i) behind → Offers d' d'' behind (take (get_or ends i 0 - from) (drop from string)) to'
    → Trailing separator string ends entry at d'' (leading separator (i + 1)) (get_or ends i 0) to' (i + 1)
leading_step separator string ends entry at d from to i so less d' d'' behind to' p q =
    subst (λ (lead : List ℕ). Trailing separator string ends entry at d'' lead (get_or ends i 0) to' (i + 1)) (sym (ap (leading separator) (add-one i)))
    (trailing_step separator string ends entry at d (leading separator i) from to i so less d' d'' behind to' p q)

-- a pair as it is written
pub pair-pieces : (name sort : List ℕ) → bytes "(" ++ (name ++ (bytes " " ++ (sort ++ bytes ")"))) ≡ pair name sort
unfolding joined
pair-pieces name sort = ap (λ (l : List ℕ). bytes "(" ++ l) (sym (append_assoc name (bytes " " ++ sort) (bytes ")")))

-- the loop over pairs: two ends at a time, and one that is left over is of no pair; what leads to a pair ends with its bracket
pub record Pairing (string ends entry : List ℕ) (at : ℕ) (d lead : List ℕ) (from to : ℕ) (rest : List ℕ) : Type 0 where
  pub gap : List ℕ
  pub opens : lead ≡ gap ++ bytes "("
  pub right : rise from (length string) rest ≡ true
  pub listing : Listing (bytes " ") entry at (paired pair (parts string ends)) d gap to (paired pair (parts_from from string rest))

-- what leads to a pair and the rest of it, as what stands before the bracket and the pair
pair-led : (gap lead name sort : List ℕ) → lead ≡ gap ++ bytes "(" → lead ++ (name ++ (bytes " " ++ (sort ++ bytes ")"))) ≡ gap ++ pair name sort
pair-led gap lead name sort e =
    ap (λ (l : List ℕ). l ++ (name ++ (bytes " " ++ (sort ++ bytes ")")))) e
    ∙ append_assoc gap (bytes "(") (name ++ (bytes " " ++ (sort ++ bytes ")")))
    ∙ ap (λ (l : List ℕ). gap ++ l) (pair-pieces name sort)

module _ (string ends entry : List ℕ) (at : ℕ) where
  pub pairing_start : rise 0 (length string) ends ≡ true → Pairing string ends entry at entry (bytes "(") 0 at ends
  pairing_start h = record { gap = []; opens = refl; right = h; listing = listing_start (bytes " ") entry at (paired pair (parts string ends)) }

  module _ (d lead : List ℕ) (from to : ℕ) where
    pub pairing_one : (rest : List ℕ) → 2 ≤ length rest → Pairing string ends entry at d lead from to rest → Rising from (length string) (get_or rest 0 0) (drop 1 rest)
    pairing_one [] two so = absurd (omega arith)
    pairing_one (middle ∷ others) two so = rises from (length string) middle others so.right

    pub pairing_two : (rest : List ℕ) → 2 ≤ length rest → Pairing string ends entry at d lead from to rest → Rising (get_or rest 0 0) (length string) (get_or rest 1 0) (drop 2 rest)
    pairing_two [] two so = absurd (omega arith)
    pairing_two (middle ∷ []) two so = absurd (omega arith)
    pairing_two (middle ∷ end ∷ others) two so = rises middle (length string) end others (rises from (length string) middle (end ∷ others) so.right).rest

    pub pairing_step : (rest : List ℕ) → 2 ≤ length rest → Pairing string ends entry at d lead from to rest → (d' : List ℕ) (to' : ℕ)
        → Offers d d' to (lead ++ (take (get_or rest 0 0 - from) (drop from string) ++ (bytes " " ++ (take (get_or rest 1 0 - get_or rest 0 0) (drop (get_or rest 0 0) string) ++ bytes ")")))) to'
        → Pairing string ends entry at d' (bytes " (") (get_or rest 1 0) to' (take (length rest - 2) (drop 2 rest))
    unfolding parts_from paired
    pairing_step [] two so d' to' p = absurd (omega arith)
    pairing_step (middle ∷ []) two so d' to' p = absurd (omega arith)
    pairing_step (middle ∷ end ∷ others) two so d' to' p =
        let whole : take (length (middle ∷ end ∷ others) - 2) others ≡ others = take_all _ others (omega arith) in
        rw whole
        (record {
          gap = bytes " ";
          opens = refl;
          right = (pairing_two (middle ∷ end ∷ others) two so).rest;
          listing =
              listing_step (bytes " ") entry at (paired pair (parts string ends)) d so.gap to (pair (take (middle - from) (drop from string)) (take (end - middle) (drop middle string)))
              (paired pair (parts_from end string others)) so.listing d' to'
              (offers_as (pair-led so.gap lead (take (middle - from) (drop from string)) (take (end - middle) (drop middle string)) so.opens) p);
        })

    pub pairing_end : (rest : List ℕ) → length rest < 2 → Pairing string ends entry at d lead from to rest → Offers entry d at (joined (bytes " ") (paired pair (parts string ends))) to
    unfolding parts_from paired
    pairing_end [] few so = listing_end (bytes " ") entry at (paired pair (parts string ends)) d so.gap to so.listing
    pairing_end (end ∷ []) few so = listing_end (bytes " ") entry at (paired pair (parts string ends)) d so.gap to so.listing
    pairing_end (middle ∷ end ∷ others) few so = absurd (omega arith)
