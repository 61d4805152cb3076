-- What a line is read as is written as that line.
-- Assumes nothing.
use Rattle.std.proofs.lemmas.Option.{same_Some}
use Rattle.std.proofs.Common.{None, Option, Some}
use mathlib.Core.Path.{◌≡◌, refl, sym, ap, ap₂, ◌∙◌, subst}
use mathlib.Core.Bool.{Bool, true, false, cond}
use mathlib.Core.List.{List, [], ◌∷◌, ◌++◌, map, append_assoc, append-nil}
use Prim.Native.Nat.{ℕ, suc, ◌≤◌, ◌<◌}
use native.Mathlib.Omega.{arith}
use lib.Dec.{eqb}
use lib.ListN.{length, get_or, take, drop, length-drop, take-append-drop}
use lib.Seq.{drop-cons}
use borrow.Author.Tests.{eqb-true, not-false}
use Rattle.ground.specs.Bytes.{bytes}
use Rattle.ground.specs.Lists.{joined}
use Rattle.ground.specs.Options.{over}
use Rattle.ground.proofs.Options.{over-some}
use Rattle.ground.proofs.Tests.{by_test, by_order, by_cond}
use Rattle.lexicon.proofs.Spans.{span_next}
use Rattle.arena.specs.Text.{same_text}
use Rattle.arena.proofs.Texts.{same-equal}
use Rattle.decimals.specs.Decimal.{decimal}
use Rattle.tables.specs.Sort as Sort
use Rattle.tables.specs.Sort.{Sort, bool, string, ext, bit_vec, option_of, set_of, entity_of, record_of, Variable, Function, Member}
use Rattle.tables_text.specs.Line.{sort_line, variable_line, function_line, member_line}
use Rattle.tables_text.specs.Parse.{begins, apart, span_to, space, line_feed, Cut, cut_at, numeral, Led, led, grown, pieces, further, numerals, record_in, numbered, named_form, numbered_form, form, filled, sort_in, variable_after, variable_in, function_after, function_in, member_after, member_in, line_row}
use Rattle.tables_text.specs.declared.sort.SortLine.TheVariants as sort
use Rattle.tables_text.specs.Told.{form_told}
use Rattle.tables_text.proofs.Cuts.{begins-split, cut_found, cut_none, cut_split, cut_joins}
use Rattle.tables_text.proofs.Numerals.{numeral-sound}

-- what is there, where a test passes
pub test_some : {A : Type 0} (t : Bool) (o : Option A) (y : A) → cond t o None ≡ Some y → (t ≡ true) × (o ≡ Some y)
test_some true o y h = (refl, h)
test_some false o y h = let z : ◌≡◌ {A = ℕ} 0 1 = cc in absurd (omega arith)

pub some-equal : {A : Type 0} {x y : A} → ◌≡◌ {A = Option A} (Some x) (Some y) → x ≡ y
some-equal e = same_Some _ _ e

-- a line and its line feed
abbrev pub ended : List ℕ → List ℕ
ended s = s ++ (line_feed ∷ [])

led-sound : (s : List ℕ) (d : Led) → led s ≡ Some d → s ≡ decimal d.number ++ space ∷ d.rest
unfolding led
led-sound s d h =
    let a = over-some (cut_at space s) (λ c. over (numeral c.word) (λ n. Some (record { number = n; word = c.word; rest = c.rest }))) d h in
    let c = a.0 in
    let b = over-some (numeral c.word) (λ n. Some (record { number = n; word = c.word; rest = c.rest })) d a.2 in
    let n = b.0 in
    subst (λ (x : Led). s ≡ decimal x.number ++ space ∷ x.rest) (same_Some _ _ b.2)
    (cut_split space s c a.1 ∙ ap (λ (w : List ℕ). w ++ space ∷ c.rest) (sym (numeral-sound c.word n b.1)))

pub variable-sound : (s : List ℕ) (v : Variable) → variable_in s ≡ Some v → variable_line v ≡ ended s
unfolding variable_in variable_after joined
variable-sound s v h =
    let k = test_some (begins (bytes "var=") s) (variable_after (drop 4 s)) v h in
    let a = over-some (cut_at space (drop 4 s)) (λ c. over (numeral c.rest) (λ n. Some (record { name = c.word; sort = n }))) v k.1 in
    let c = a.0 in
    let b = over-some (numeral c.rest) (λ n. Some (record { name = c.word; sort = n })) v a.2 in
    let n = b.0 in
    let body : drop 4 s ≡ c.word ++ space ∷ decimal n = cut_split space (drop 4 s) c a.1 ∙ ap (λ (w : List ℕ). c.word ++ space ∷ w) (sym (numeral-sound c.rest n b.1)) in
    subst (λ (x : Variable). variable_line x ≡ ended s) (same_Some _ _ b.2)
    (sym (ap ended (begins-split (bytes "var=") s k.0 ∙ ap (λ (w : List ℕ). bytes "var=" ++ w) body)))

pub function-sound : (s : List ℕ) (f : Function) → function_in s ≡ Some f → function_line f ≡ ended s
unfolding function_in function_after joined
function-sound s f h =
    let k = test_some (begins (bytes "fun=") s) (function_after (drop 4 s)) f h in
    let a = over-some (cut_at space (drop 4 s)) (λ c. over (led c.rest) (λ d. over (numeral d.rest) (λ n. Some (record { name = c.word; argument = d.number; result = n })))) f k.1 in
    let c = a.0 in
    let b = over-some (led c.rest) (λ d. over (numeral d.rest) (λ n. Some (record { name = c.word; argument = d.number; result = n }))) f a.2 in
    let d = b.0 in
    let e = over-some (numeral d.rest) (λ n. Some (record { name = c.word; argument = d.number; result = n })) f b.2 in
    let n = e.0 in
    let body : drop 4 s ≡ c.word ++ space ∷ (decimal d.number ++ space ∷ decimal n) =
    cut_split space (drop 4 s) c a.1
    ∙ ap (λ (w : List ℕ). c.word ++ space ∷ w) (led-sound c.rest d b.1 ∙ ap (λ (w : List ℕ). decimal d.number ++ space ∷ w) (sym (numeral-sound d.rest n e.1))) in
    subst (λ (x : Function). function_line x ≡ ended s) (same_Some _ _ e.2)
    (sym (ap ended (begins-split (bytes "fun=") s k.0 ∙ ap (λ (w : List ℕ). bytes "fun=" ++ w) body)))

pub member-sound : (s : List ℕ) (m : Member) → member_in s ≡ Some m → member_line m ≡ ended s
unfolding member_in member_after joined
member-sound s m h =
    let k = test_some (begins (bytes "enum=") s) (member_after (drop 5 s)) m h in
    let a = over-some (cut_at space (drop 5 s)) (λ c. over (led c.rest) (λ d. Some (record { name = c.word; entity = d.number; text = d.rest }))) m k.1 in
    let c = a.0 in
    let b = over-some (led c.rest) (λ d. Some (record { name = c.word; entity = d.number; text = d.rest })) m a.2 in
    let d = b.0 in
    let body : drop 5 s ≡ c.word ++ space ∷ (decimal d.number ++ space ∷ d.rest) =
    cut_split space (drop 5 s) c a.1 ∙ ap (λ (w : List ℕ). c.word ++ space ∷ w) (led-sound c.rest d b.1) in
    subst (λ (x : Member). member_line x ≡ ended s) (same_Some _ _ b.2)
    (sym (ap ended (begins-split (bytes "enum=") s k.0 ∙ ap (λ (w : List ℕ). bytes "enum=" ++ w) body)))

-- words between spaces, joined again
not-empty : (b : ℕ) (ws : List (List ℕ)) → joined (bytes " ") (grown b ws) ≡ b ∷ joined (bytes " ") ws
unfolding joined
not-empty b [] = refl
not-empty b (w ∷ []) = refl
not-empty b (w ∷ v ∷ ws) = refl

pieces-some : (s : List ℕ) → (w : List ℕ) × (ws : List (List ℕ)) × (pieces s ≡ w ∷ ws)
unfolding pieces
pieces-some [] = ([], [], refl)
pieces-some (b ∷ bs) =
    by_test (eqb b space)
    (λ e. ([], pieces bs, ap (λ (t : Bool). cond t ([] ∷ pieces bs) (grown b (pieces bs))) e))
    (λ e.
    let r = pieces-some bs in
    (b ∷ r.0, r.1, ap (λ (t : Bool). cond t ([] ∷ pieces bs) (grown b (pieces bs))) e ∙ ap (grown b) r.2))

pub pieces-joined : (s : List ℕ) → joined (bytes " ") (pieces s) ≡ s
unfolding pieces joined
pieces-joined [] = refl
pieces-joined (b ∷ bs) =
    by_test (eqb b space)
    (λ e.
    let r = pieces-some bs in
    ap (λ (t : Bool). joined (bytes " ") (cond t ([] ∷ pieces bs) (grown b (pieces bs)))) e
    ∙ ap (λ (ws : List (List ℕ)). joined (bytes " ") ([] ∷ ws)) r.2
    ∙ ap₂ (λ (x : ℕ) (y : List ℕ). x ∷ y) (sym (eqb-true b space e)) (ap (joined (bytes " ")) (sym r.2) ∙ pieces-joined bs))
    (λ e.
    ap (λ (t : Bool). joined (bytes " ") (cond t ([] ∷ pieces bs) (grown b (pieces bs)))) e
    ∙ not-empty b (pieces bs) ∙ ap (λ (y : List ℕ). b ∷ y) (pieces-joined bs))

numerals-sound : (ws : List (List ℕ)) (ns : List ℕ) → numerals ws ≡ Some ns → map decimal ns ≡ ws
unfolding numerals
numerals-sound [] ns h = let e : ◌≡◌ {A = List ℕ} [] ns = cc in ap (map decimal) (sym e)
numerals-sound (w ∷ ws) ns h =
    let a = over-some (numeral w) (λ n. over (numerals ws) (λ ms. Some (n ∷ ms))) ns h in
    let b = over-some (numerals ws) (λ ms. Some (a.0 ∷ ms)) ns a.2 in
    ap (map decimal) (sym (same_Some _ _ b.2))
    ∙ ap₂ (λ (x : List ℕ) (y : List (List ℕ)). x ∷ y) (numeral-sound w a.0 a.1) (numerals-sound ws b.0 b.1)

further-joined : (name s : List ℕ) → (0 < length s → get_or s 0 0 ≡ space) → joined (bytes " ") (name ∷ further s) ≡ name ++ s
unfolding joined
further-joined name [] f = sym (append-nil name)
further-joined name (b ∷ bs) f =
    let r = pieces-some bs in
    ap (λ (ws : List (List ℕ)). joined (bytes " ") (name ∷ ws)) r.2
    ∙ ap₂ (λ (x : ℕ) (y : List ℕ). name ++ x ∷ y) (sym (f (omega arith))) (ap (joined (bytes " ")) (sym r.2) ∙ pieces-joined bs)

pub record IsRecord (s : List ℕ) (x : Sort) : Type 0 where
  pub name : List ℕ
  pub rows : List ℕ
  pub is : x ≡ record_of name rows
  pub joins : joined (bytes " ") (name ∷ map decimal rows) ≡ s

pub record_sound : (s : List ℕ) (x : Sort) → record_in s ≡ Some x → IsRecord s x
unfolding record_in
record_sound s x h =
    let a = over-some (numerals (further (drop (span_to space s) s))) (λ rows. Some (record_of (take (span_to space s) s) rows)) x h in
    record {
      name = take (span_to space s) s;
      rows = a.0;
      is = sym (same_Some _ _ a.2);
      joins =
          ap (λ (ws : List (List ℕ)). joined (bytes " ") (take (span_to space s) s ∷ ws)) (numerals-sound (further (drop (span_to space s) s)) a.0 a.1)
          ∙ further-joined (take (span_to space s) s) (drop (span_to space s) s)
          (λ l.
          let q : span_to space s < length s = omega (arith, length-drop (span_to space s) s) in
          ap (λ (k : List ℕ). get_or k 0 0) (drop-cons s (span_to space s) 0 q)
          ∙ eqb-true (get_or s (span_to space s) 0) space (not-false (eqb (get_or s (span_to space s) 0) space) (span_next (apart space) s q)))
          ∙ take-append-drop (span_to space s) s;
    }

-- what the form of a sort's line says of the line
abbrev Formed : List ℕ → Option Sort → Type 0
Formed s None = Unit {0}
Formed s (Some bool) = sort_line bool ≡ ended s
Formed s (Some string) = sort_line string ≡ ended s
Formed s (Some (ext e)) = sort_line (ext e) ≡ ended s
Formed s (Some (bit_vec width)) = sort_line (bit_vec width) ≡ ended s
Formed s (Some (option_of row)) = sort_line (option_of row) ≡ ended s
Formed s (Some (set_of row)) = sort_line (set_of row) ≡ ended s
Formed s (Some (entity_of name)) = sort_line (entity_of name) ≡ ended s
Formed s (Some (record_of body fields)) = s ≡ bytes "sort=record " ++ body

with_number : (P : Option Sort → Type 0) (make : ℕ → Sort) (s : List ℕ) → P None → ((n : ℕ) → decimal n ≡ s → P (Some (make n))) → P (numbered make s)
with_number P make s f g = by_number (numeral s) refl
  where
    by_number : (o : Option ℕ) → numeral s ≡ o → P (over o (λ n. Some (make n)))
    by_number None e = f
    by_number (Some n) e = g n (numeral-sound s n e)

module _ (s : List ℕ) where
  abbrev P : Option Sort → Type 0
  P o = Formed s o

  whole : (word : List ℕ) → same_text s word ≡ true → word ++ (line_feed ∷ []) ≡ ended s
  whole word e = ap ended (sym (same-equal s word e))

  keyed : (key body : List ℕ) → begins key s ≡ true → body ≡ drop (length key) s → key ++ (body ++ (line_feed ∷ [])) ≡ ended s
  keyed key body e q = sym (append_assoc key body (line_feed ∷ [])) ∙ ap ended (ap (λ (w : List ℕ). key ++ w) q ∙ sym (begins-split key s e))

  named-formed : Formed s (named_form s)
  unfolding named_form joined
  named-formed =
      by_cond P (begins (bytes "sort=entity ") s) (Some (entity_of (drop 12 s))) (cond (begins (bytes "sort=record ") s) (Some (record_of (drop 12 s) [])) None)
      (λ e. keyed (bytes "sort=entity ") (drop 12 s) e refl)
      (λ _. by_cond P (begins (bytes "sort=record ") s) (Some (record_of (drop 12 s) [])) None
      (λ e. begins-split (bytes "sort=record ") s e)
      (λ _. tt))

  numbered-formed : Formed s (numbered_form s)
  unfolding numbered_form joined
  numbered-formed =
      by_cond P (begins (bytes "sort=bitvec ") s) (numbered bit_vec (drop 12 s)) (cond (begins (bytes "sort=option ") s) (numbered option_of (drop 12 s)) (cond (begins (bytes "sort=set ") s) (numbered set_of (drop 9 s)) (named_form s)))
      (λ e. with_number P bit_vec (drop 12 s) tt (λ n q. keyed (bytes "sort=bitvec ") (decimal n) e q))
      (λ _. by_cond P (begins (bytes "sort=option ") s) (numbered option_of (drop 12 s)) (cond (begins (bytes "sort=set ") s) (numbered set_of (drop 9 s)) (named_form s))
      (λ e. with_number P option_of (drop 12 s) tt (λ n q. keyed (bytes "sort=option ") (decimal n) e q))
      (λ _. by_cond P (begins (bytes "sort=set ") s) (numbered set_of (drop 9 s)) (named_form s)
      (λ e. with_number P set_of (drop 9 s) tt (λ n q. keyed (bytes "sort=set ") (decimal n) e q))
      (λ _. named-formed)))

  formed : Formed s (form s)
  unfolding form joined
  formed =
      by_cond P (same_text s (bytes "sort=bool")) (Some bool) _ (whole (bytes "sort=bool"))
      (λ _. by_cond P (same_text s (bytes "sort=string")) (Some string) _ (whole (bytes "sort=string"))
      (λ _. by_cond P (same_text s (bytes "sort=decimal")) (Some (ext Sort.decimal)) _ (whole (bytes "sort=decimal"))
      (λ _. by_cond P (same_text s (bytes "sort=datetime")) (Some (ext Sort.datetime)) _ (whole (bytes "sort=datetime"))
      (λ _. by_cond P (same_text s (bytes "sort=duration")) (Some (ext Sort.duration)) _ (whole (bytes "sort=duration"))
      (λ _. numbered-formed)))))

  filled-sound : (o : Option Sort) → Formed s o → (x : Sort) → filled o ≡ Some x → sort_line x ≡ ended s
  unfolding joined
  filled-sound None f x h = let z : ◌≡◌ {A = ℕ} 0 1 = cc in absurd (omega arith)
  filled-sound (Some bool) f x h = subst (λ (y : Sort). sort_line y ≡ ended s) (same_Some _ _ h) f
  filled-sound (Some string) f x h = subst (λ (y : Sort). sort_line y ≡ ended s) (same_Some _ _ h) f
  filled-sound (Some (ext e)) f x h = subst (λ (y : Sort). sort_line y ≡ ended s) (same_Some _ _ h) f
  filled-sound (Some (bit_vec n)) f x h = subst (λ (y : Sort). sort_line y ≡ ended s) (same_Some _ _ h) f
  filled-sound (Some (option_of n)) f x h = subst (λ (y : Sort). sort_line y ≡ ended s) (same_Some _ _ h) f
  filled-sound (Some (set_of n)) f x h = subst (λ (y : Sort). sort_line y ≡ ended s) (same_Some _ _ h) f
  filled-sound (Some (entity_of name)) f x h = subst (λ (y : Sort). sort_line y ≡ ended s) (same_Some _ _ h) f
  filled-sound (Some (record_of body fields)) f x h =
      let r = record_sound body x h in
      subst (λ (y : Sort). sort_line y ≡ ended s) (sym r.is)
      (ap (λ (w : List ℕ). bytes "sort=record " ++ (w ++ (line_feed ∷ []))) r.joins ∙ sym (append_assoc (bytes "sort=record ") body (line_feed ∷ [])) ∙ ap ended (sym f))

  pub sort-sound : (x : Sort) → sort_in s ≡ Some x → sort_line x ≡ ended s
  sort-sound x h = filled-sound (form s) formed x h

-- a line that starts as a record's does
pub record_form : (s : List ℕ) → sort.Record ≡ form_told (form s) → (sort_in s ≡ record_in (drop 12 s)) × (12 ≤ length s)
record_form s h = by_form (form s) (formed s) h
  where
    by_form : (o : Option Sort) → Formed s o → sort.Record ≡ form_told o → (filled o ≡ record_in (drop 12 s)) × (12 ≤ length s)
    by_form None f q = let z : ◌≡◌ {A = ℕ} 0 1 = cc in absurd (omega arith)
    by_form (Some bool) f q = let z : ◌≡◌ {A = ℕ} 0 1 = cc in absurd (omega arith)
    by_form (Some string) f q = let z : ◌≡◌ {A = ℕ} 0 1 = cc in absurd (omega arith)
    by_form (Some (ext e)) f q = let z : ◌≡◌ {A = ℕ} 0 1 = cc in absurd (omega arith)
    by_form (Some (bit_vec n)) f q = let z : ◌≡◌ {A = ℕ} 0 1 = cc in absurd (omega arith)
    by_form (Some (option_of n)) f q = let z : ◌≡◌ {A = ℕ} 0 1 = cc in absurd (omega arith)
    by_form (Some (set_of n)) f q = let z : ◌≡◌ {A = ℕ} 0 1 = cc in absurd (omega arith)
    by_form (Some (entity_of name)) f q = let z : ◌≡◌ {A = ℕ} 0 1 = cc in absurd (omega arith)
    by_form (Some (record_of body fields)) f q = (ap record_in (sym (ap (drop 12) f)), omega (arith, ap length f))

-- a whole line, and what is left after it
module _ {A : Type 0} (row : List ℕ → Option A) (write : A → List ℕ) (sound : (s : List ℕ) (x : A) → row s ≡ Some x → write x ≡ ended s) where
  pub line-sound : (s : List ℕ) (x : A) → line_row row s ≡ Some x → s ≡ write x ++ drop (suc (span_to line_feed s)) s
  unfolding line_row
  line-sound s x h =
      by_order (span_to line_feed s) (length s)
      (λ l.
      let k : row (take (span_to line_feed s) s) ≡ Some x = ap (λ (o : Option Cut). over o (λ c. row c.word)) (sym (cut_found line_feed s l)) ∙ h in
      cut_joins line_feed s l
      ∙ sym (append_assoc (take (span_to line_feed s) s) (line_feed ∷ []) (drop (suc (span_to line_feed s)) s))
      ∙ ap (λ (w : List ℕ). w ++ drop (suc (span_to line_feed s)) s) (sym (sound (take (span_to line_feed s) s) x k)))
      (λ l.
      let q : None ≡ Some x = ap (λ (o : Option Cut). over o (λ c. row c.word)) (sym (cut_none line_feed s l)) ∙ h in
      let z : ◌≡◌ {A = ℕ} 0 1 = cc in
      absurd (omega arith))
