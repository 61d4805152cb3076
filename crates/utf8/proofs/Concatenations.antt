-- RFC 3629, section 4, both ways: the test says yes exactly of the concatenations of sequences.
-- Assumes nothing.
use mathlib.Core.Path.{◌≡◌, refl, sym, ap, ◌∙◌, subst}
use mathlib.Core.Logic.{◌↔◌}
use mathlib.Core.Bool.{Bool, true, false, cond, ◌&&◌, false≢true}
use mathlib.Core.List.{List, [], ◌∷◌, ◌++◌, append_assoc, Memᴰ}
use Prim.Native.Nat.{ℕ, zero, suc, ◌-◌, ◌≤◌, ◌<◌}
use native.Mathlib.Omega.{arith}
use lib.Dec.{leb, ltb}
use lib.ListN.{length, get_or, take, drop, length-drop, take-append-drop}
use lib.Seq.{drop-append_seam}
use borrow.Author.Tests.{lt-ltb, le-leb, leb-true}
use Rattle.ground.proofs.Tests.{both_left, both_right}
use Rattle.utf8.specs.Rows.{Span, ◌to◌, rows}
use Rattle.utf8.specs.Octets.{Sequence, Concatenation, none, more, within, starts_with, width, octets, utf8}
use Rattle.utf8.proofs.Leads.{row-tells}

octets_skip : (k : ℕ) (s : List ℕ) → octets k s ≡ octets 0 (drop k s)
unfolding octets
octets_skip zero [] = refl
octets_skip (suc k) [] = refl
octets_skip zero (b ∷ bs) = refl
octets_skip (suc k) (b ∷ bs) = octets_skip k bs

-- a sequence is passed over whole
pub octets-step : (s : List ℕ) → 0 < width rows s → octets 0 s ≡ octets 0 (drop (width rows s) s)
unfolding octets
octets-step [] h = refl
octets-step (b ∷ bs) h = go (width rows (b ∷ bs)) h
  where
    go : (w : ℕ) → 0 < w → (ltb 0 w && octets (w - 1) bs) ≡ octets 0 (drop w (b ∷ bs))
    go zero l = absurd (omega arith)
    go (suc w) l =
        let e : suc w - 1 ≡ w = omega arith in
        rw (lt-ltb 0 (suc w) l) (rw e (octets_skip w bs))

pub octets-stuck : (s : List ℕ) → 0 < length s → width rows s ≡ 0 → octets 0 s ≡ false
unfolding octets
octets-stuck [] l h = absurd (omega arith)
octets-stuck (b ∷ bs) l h = rw h

starts : (r : List Span) (bs rest : List ℕ) → Sequence r bs → starts_with r (bs ++ rest) ≡ true
starts [] [] rest h = refl
starts [] (b ∷ bs) rest h = absurd h
starts (p ∷ ps) [] rest h = absurd h
starts (first to last ∷ ps) (b ∷ bs) rest h = rw (le-leb first b h.0) (rw (le-leb b last h.1) (starts ps bs rest h.2))

same_length : (r : List Span) (bs : List ℕ) → Sequence r bs → length r ≡ length bs
same_length [] [] h = refl
same_length [] (b ∷ bs) h = absurd h
same_length (p ∷ ps) [] h = absurd h
same_length (first to last ∷ ps) (b ∷ bs) h = ap suc (same_length ps bs h.2)

begun : (r : List Span) (s : List ℕ) → starts_with r s ≡ true → Sequence r (take (length r) s)
begun [] [] h = tt
begun [] (b ∷ bs) h = tt
begun (p ∷ ps) [] h = absurd (false≢true h)
begun (first to last ∷ ps) (b ∷ bs) h =
    let w : within (first to last) b ≡ true = both_left (within (first to last) b) (starts_with ps bs) h in (
      leb-true first b (both_left (leb first b) (leb b last) w),
      leb-true b last (both_right (leb first b) (leb b last) w),
      begun ps bs (both_right (within (first to last) b) (starts_with ps bs) h),
    )

pub fits : (r : List Span) (s : List ℕ) → starts_with r s ≡ true → length r ≤ length s
fits [] s h = omega arith
fits (p ∷ ps) [] h = absurd (false≢true h)
fits (p ∷ ps) (b ∷ bs) h = omega (arith, fits ps bs (both_right (within p b) (starts_with ps bs) h))

pub width_le : (rs : List (List Span)) (s : List ℕ) → width rs s ≤ length s
width_le [] s = omega arith
width_le (r ∷ rs) s = go (starts_with r s) refl (width_le rs s)
  where
    go : (t : Bool) → starts_with r s ≡ t → width rs s ≤ length s → cond t (length r) (width rs s) ≤ length s
    go true e h = fits r s e
    go false e h = h

-- the row that a width is of
record Of (rs : List (List Span)) (s : List ℕ) (w : ℕ) : Type 0 where
  row : List Span
  listed : Memᴰ row rs
  long : length row ≡ w
  sequence : Sequence row (take w s)

of_width : (rs : List (List Span)) (s : List ℕ) → 0 < width rs s → Of rs s (width rs s)
of_width [] s h = absurd (omega arith)
of_width (r ∷ rs) s h = go (starts_with r s) refl h (λ l. of_width rs s l)
  where
    go : (t : Bool) → starts_with r s ≡ t → 0 < cond t (length r) (width rs s) → (0 < width rs s → Of rs s (width rs s))
        → Of (r ∷ rs) s (cond t (length r) (width rs s))
    go true e l f = record { row = r; listed = Memᴰ.head refl; long = refl; sequence = begun r s e }
    go false e l f = let o = f l in record { row = o.row; listed = Memᴰ.tail o.listed; long = o.long; sequence = o.sequence }

at-number : {r : List Span} {rs : List (List Span)} → Memᴰ r rs → (k : ℕ) × (get_or rs k [] ≡ r)
at-number (Memᴰ.head e) = (zero, sym e)
at-number (Memᴰ.tail m) = let n = at-number m in (suc n.0, n.1)

passes : (row : List Span) (bs rest : List ℕ) → Memᴰ row rows → Sequence row bs → octets 0 (bs ++ rest) ≡ octets 0 rest
passes [] [] rest m h = refl
passes [] (b ∷ bs) rest m h = absurd h
passes (p ∷ ps) [] rest m h = absurd h
passes (first to last ∷ ps) (b ∷ bs) rest m h =
    let n = at-number m in
    let w : width rows (b ∷ (bs ++ rest)) ≡ suc (length bs) =
    row-tells n.0 first last b ps (bs ++ rest) n.1 h.0 h.1
    ∙ ap (λ (t : Bool). cond t (suc (length ps)) 0) (starts ps bs rest h.2) ∙ ap suc (same_length ps bs h.2) in
    octets-step (b ∷ (bs ++ rest)) (omega arith) ∙ ap (λ (k : ℕ). octets 0 (drop k (b ∷ (bs ++ rest)))) w
    ∙ ap (λ (l : List ℕ). octets 0 l) (drop-append_seam bs rest)

complete : {s : List ℕ} → Concatenation s → octets 0 s ≡ true
unfolding octets
complete none = refl
complete (more {row} bs {rest} m h c) = passes row bs rest m h ∙ complete c

sound : (n : ℕ) (s : List ℕ) → length s ≤ n → octets 0 s ≡ true → Concatenation s
sound zero [] l h = none
sound (suc n) [] l h = none
sound zero (b ∷ bs) l h = absurd (omega arith)
sound (suc n) (b ∷ bs) l h = go (width rows (b ∷ bs)) refl (λ s k g. sound n s k g)
  where
    go : (w : ℕ) → width rows (b ∷ bs) ≡ w → ((s : List ℕ) → length s ≤ n → octets 0 s ≡ true → Concatenation s) → Concatenation (b ∷ bs)
    go zero e f = absurd (false≢true (sym (octets-stuck (b ∷ bs) (omega arith) e) ∙ h))
    go (suc w) e f =
        let o : Of rows (b ∷ bs) (suc w) = subst (λ (k : ℕ). Of rows (b ∷ bs) k) e (of_width rows (b ∷ bs) (omega arith)) in
        let t : octets 0 (b ∷ bs) ≡ octets 0 (drop (suc w) (b ∷ bs)) =
        octets-step (b ∷ bs) (omega arith) ∙ ap (λ (k : ℕ). octets 0 (drop k (b ∷ bs))) e in
        subst (λ (x : List ℕ). Concatenation x) (take-append-drop (suc w) (b ∷ bs))
        (more (take (suc w) (b ∷ bs)) o.listed o.sequence
        (f (drop (suc w) (b ∷ bs)) (rw (length-drop (suc w) (b ∷ bs)) (omega arith)) (sym t ∙ h)))

pub utf8-means : (s : List ℕ) → (utf8 s ≡ true) ↔ Concatenation s
unfolding utf8
utf8-means s = (λ h. sound (length s) s (omega arith) h, λ c. complete c)

pub utf8_nil : utf8 [] ≡ true
utf8_nil = (utf8-means []).1 none

joined : {a b : List ℕ} → Concatenation a → Concatenation b → Concatenation (a ++ b)
joined none c = c
joined {b} (more bs {rest} m h d) c = rw (append_assoc bs rest b) (more bs m h (joined d c))

pub utf8_append : (a b : List ℕ) → utf8 a ≡ true → utf8 b ≡ true → utf8 (a ++ b) ≡ true
utf8_append a b h k = (utf8-means (a ++ b)).1 (joined ((utf8-means a).0 h) ((utf8-means b).0 k))
