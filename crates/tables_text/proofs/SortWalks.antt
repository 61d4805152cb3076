-- Sorts written one after the other, and the fields of records behind each other.
-- Assumes nothing.
use Rattle.std.proofs.lemmas.Option.{same_Some}
use Rattle.std.proofs.Common.{None, Option, Some}
use mathlib.Core.Path.{◌≡◌, refl, sym, ap, ap₂, ◌∙◌, subst}
use mathlib.Core.List.{List, [], ◌∷◌, ◌++◌, map, append_assoc, append-nil}
use Prim.Native.Nat.{ℕ, suc, ◌+◌, ◌-◌, ◌*◌, ◌≤◌, ◌<◌}
use native.Mathlib.Omega.{arith}
use lib.ListN.{length, take, drop, length-append, length-drop, length-take}
use lib.Seq.{sets, length-sets, drop-drop, length-take-le}
use Rattle.ground.specs.Bytes.{bytes}
use Rattle.ground.specs.Lists.{joined}
use Rattle.ground.proofs.Lists.{take-sets}
use Rattle.decimals.specs.Decimal.{decimal}
use Rattle.decimals.proofs.Counts.{count-least}
use Rattle.decimals.proofs.Texts.{length-decimal}
use Rattle.tables.specs.Sort.{Sort, bool, string, ext, bit_vec, option_of, set_of, entity_of, record_of}
use Rattle.tables.specs.Layout.{stride}
use Rattle.tables.specs.Rules.{row_limit, ext_kind}
use Rattle.tables_text.specs.declared.sort.SortLine.{SortLine}
use Rattle.tables_text.specs.declared.sort.SortLine.TheVariants as sort
use Rattle.tables_text.specs.Line.{lines, sort_line}
use Rattle.tables_text.specs.Words.{row_words, sort_words, fields_of, all_fields, all_sort_words}
use Rattle.tables_text.specs.Parse.{span_to, line_feed, record_in, form, filled, sort_in, Walked, stopped, line_row, walk}
use Rattle.tables_text.specs.Told.{form_told, record_told, FieldsPut, sort_told, sort_held, FineSort, FineRecord, SortLined, SortsWalked}
use Rattle.tables_text.proofs.Cuts.{word-long}
use Rattle.tables_text.proofs.Spelled.{record_sound, record_form, sort-sound}
use Rattle.tables_text.proofs.Walks.{line-past, line-here, line-ends, walk-stop, walk_none, walk-goes, line-within}
use Rattle.tables_text.specs.declared.sort.RecordLine.{RecordLine}
use Rattle.tables_text.specs.declared.sorts.SortNext.{SortNext}
use Rattle.ground.proofs.Options.{some-same}

-- a row has five words, and a field takes at least two bytes
pub five : (at before : ℕ) (x : Sort) → length (sort_words at before x) ≡ stride
five at before bool = refl
five at before string = refl
five at before (ext e) = refl
five at before (bit_vec n) = refl
five at before (option_of n) = refl
five at before (set_of n) = refl
five at before (entity_of name) = refl
five at before (record_of name rows) = refl

joined-long : (name : List ℕ) (rows : List ℕ) → length rows * 2 ≤ length (joined (bytes " ") (name ∷ map decimal rows))
unfolding joined
joined-long name [] = omega arith
joined-long name (n ∷ rows) =
    omega (arith, length-append name (bytes " " ++ joined (bytes " ") (decimal n ∷ map decimal rows)), least (decimal n) rows (omega (arith, length-decimal n, count-least n)))
  where
    least : (w rows : List ℕ) → 1 ≤ length w → length rows * 2 + 1 ≤ length (joined (bytes " ") (w ∷ map decimal rows))
    least w [] h = omega arith
    least w (m ∷ rows) h = omega (arith, length-append w (bytes " " ++ joined (bytes " ") (decimal m ∷ map decimal rows)), least (decimal m) rows (omega (arith, length-decimal m, count-least m)))

record_long : (name rows : List ℕ) → length (sort_line (record_of name rows)) ≡ 13 + length (joined (bytes " ") (name ∷ map decimal rows))
unfolding joined
record_long name rows = omega (arith, length-append (joined (bytes " ") (name ∷ map decimal rows)) (bytes "\n"))

pub half : (x : Sort) → length (fields_of x) * 2 ≤ length (sort_line x)
half bool = omega arith
half string = omega arith
half (ext e) = omega arith
half (bit_vec n) = omega arith
half (option_of n) = omega arith
half (set_of n) = omega arith
half (entity_of name) = omega arith
half (record_of name rows) = omega (arith, record_long name rows, joined-long name rows)

-- a record's line
module _ (text : List ℕ) (at end : ℕ) (table : List ℕ) (number : ℕ) (fields : List ℕ) (before : ℕ) (fine : FineRecord text at end table number fields before) where
  abbrev line : List ℕ
  line = take (end - at) (drop at text)

  line-long : length line ≡ end - at
  line-long = length-take-le (end - at) (drop at text) (omega (arith, length-drop at text, fine.ends, fine.starts))

  pub record_fits : (12 ≤ length line) × (before * 2 + length line ≤ length fields * 2)
  record_fits = (omega (arith, line-long, fine.starts), omega (arith, line-long, fine.starts, fine.ends, fine.fine.few, fine.fine.ample))

  module _ (after : List ℕ) (r : Option RecordLine) (f : FieldsPut before (drop 12 line) fields after r) where
    pub record_other : r ≡ None → SortLined at number before (record_in (drop 12 line)) table table fields after None
    record_other q = by_record (record_in (drop 12 line)) refl
      where
        by_record : (o : Option Sort) → record_in (drop 12 line) ≡ o → SortLined at number before (record_in (drop 12 line)) table table fields after None
        by_record None e = record {
          answers = ap (sort_told at before) (sym e);
          holds = ap (sort_held at number before table) (sym e);
          stay = f.stay;
          fields = λ x p. let y : None ≡ Some x = sym e ∙ p in let z : ◌≡◌ {A = ℕ} 0 1 = cc in absurd (omega arith);
        }
        by_record (Some x) e =
            let s = record_sound (drop 12 line) x e in
            let y : ◌≡◌ {A = Option RecordLine} None (Some (record { name = length s.name; count = length s.rows })) = sym q ∙ f.answers ∙ ap record_told e ∙ ap (λ (w : Sort). record_told (Some w)) s.is in
            let z : ◌≡◌ {A = ℕ} 0 1 = cc in
            absurd (omega arith)

    pub RecordRow : (name count : ℕ) → r ≡ Some (record { name = name; count = count }) → (exit : List ℕ) → exit ≡ sets table (number * stride) (row_words (at + 12) name 10 before count)
        → SortLined at number before (record_in (drop 12 line)) table exit fields after (Some (record { at = end + 1; fields = before + count }))
    RecordRow name count q exit held = by_record (record_in (drop 12 line)) refl
      where
        by_record : (o : Option Sort) → record_in (drop 12 line) ≡ o → SortLined at number before (record_in (drop 12 line)) table exit fields after (Some (record { at = end + 1; fields = before + count }))
        by_record None e =
            let y : ◌≡◌ {A = Option RecordLine} (Some (record { name = name; count = count })) None = sym q ∙ f.answers ∙ ap record_told e in
            let z : ◌≡◌ {A = ℕ} 0 1 = cc in
            absurd (omega arith)
        by_record (Some x) e =
            let s = record_sound (drop 12 line) x e in
            let g : record_in (drop 12 line) ≡ Some (record_of s.name s.rows) = e ∙ ap Some s.is in
            let y : ◌≡◌ {A = Option RecordLine} (Some (record { name = name; count = count })) (Some (record { name = length s.name; count = length s.rows })) = sym q ∙ f.answers ∙ ap record_told g in
            let n : name ≡ length s.name = ap (λ (l : RecordLine). l.name) (some-same y) in
            let c : count ≡ length s.rows = ap (λ (l : RecordLine). l.count) (some-same y) in
            let d : end + 1 ≡ at + length (sort_line (record_of s.name s.rows)) =
            omega (arith, record_long s.name s.rows, ap length s.joins, length-drop 12 line, line-long, fine.starts) in
            record {
              answers = ap₂ (λ (i j : ℕ). (Some (record { at = i; fields = before + j }))) d c ∙ ap (sort_told at before) (sym g);
              holds = held ∙ ap₂ (λ (i j : ℕ). sets table (number * stride) (row_words (at + 12) i 10 before j)) n c ∙ ap (sort_held at number before table) (sym g);
              stay = f.stay;
              fields = λ w p.
                  subst (λ (v : Sort). take (before + length (fields_of v)) after ≡ take before fields ++ fields_of v) (same_Some _ _ (sym g ∙ p)) (f.holds s.name s.rows g);
            }

    pub record_count : (name count : ℕ) → r ≡ Some (record { name = name; count = count }) → before + count ≤ length after
    record_count name count q = by_record (record_in (drop 12 line)) refl
      where
        by_record : (o : Option Sort) → record_in (drop 12 line) ≡ o → before + count ≤ length after
        by_record None e =
            let y : ◌≡◌ {A = Option RecordLine} (Some (record { name = name; count = count })) None = sym q ∙ f.answers ∙ ap record_told e in
            let z : ◌≡◌ {A = ℕ} 0 1 = cc in
            absurd (omega arith)
        by_record (Some x) e =
            let s = record_sound (drop 12 line) x e in
            let g : record_in (drop 12 line) ≡ Some (record_of s.name s.rows) = e ∙ ap Some s.is in
            let y : ◌≡◌ {A = Option RecordLine} (Some (record { name = name; count = count })) (Some (record { name = length s.name; count = length s.rows })) = sym q ∙ f.answers ∙ ap record_told g in
            let c : count ≡ length s.rows = ap (λ (l : RecordLine). l.count) (some-same y) in
            omega (
              arith,
              c,
              ap length (f.holds s.name s.rows g),
              length-append (take before fields) s.rows,
              length-take-le before fields (omega (arith, fine.fine.few, fine.fine.ample, fine.starts, fine.ends)),
              length-take (before + length s.rows) after,
            )

-- what was told of a form
told-plain : (at before : ℕ) (o : Option Sort) (kind number : ℕ) → sort.Plain kind number ≡ form_told o
    → (x : Sort) × (filled o ≡ Some x) × (row_words 0 0 kind number 0 ≡ sort_words at before x) × (fields_of x ≡ [])
told-plain at before None kind number h = let z : ◌≡◌ {A = ℕ} 0 1 = cc in absurd (omega arith)
told-plain at before (Some bool) kind number h = let k : kind ≡ 1 = cc in let n : number ≡ 0 = cc in (bool, refl, ap₂ (λ (i j : ℕ). row_words 0 0 i j 0) k n, refl)
told-plain at before (Some string) kind number h = let k : kind ≡ 2 = cc in let n : number ≡ 0 = cc in (string, refl, ap₂ (λ (i j : ℕ). row_words 0 0 i j 0) k n, refl)
told-plain at before (Some (ext e)) kind number h = let k : kind ≡ ext_kind e = cc in let n : number ≡ 0 = cc in (ext e, refl, ap₂ (λ (i j : ℕ). row_words 0 0 i j 0) k n, refl)
told-plain at before (Some (bit_vec w)) kind number h = let k : kind ≡ 6 = cc in let n : number ≡ w = cc in (bit_vec w, refl, ap₂ (λ (i j : ℕ). row_words 0 0 i j 0) k n, refl)
told-plain at before (Some (option_of w)) kind number h = let k : kind ≡ 7 = cc in let n : number ≡ w = cc in (option_of w, refl, ap₂ (λ (i j : ℕ). row_words 0 0 i j 0) k n, refl)
told-plain at before (Some (set_of w)) kind number h = let k : kind ≡ 8 = cc in let n : number ≡ w = cc in (set_of w, refl, ap₂ (λ (i j : ℕ). row_words 0 0 i j 0) k n, refl)
told-plain at before (Some (entity_of name)) kind number h = let z : ◌≡◌ {A = ℕ} 0 1 = cc in absurd (omega arith)
told-plain at before (Some (record_of name rows)) kind number h = let z : ◌≡◌ {A = ℕ} 0 1 = cc in absurd (omega arith)

told-entity : (o : Option Sort) → sort.Entity ≡ form_told o → (name : List ℕ) × (filled o ≡ Some (entity_of name))
told-entity None h = let z : ◌≡◌ {A = ℕ} 0 1 = cc in absurd (omega arith)
told-entity (Some bool) h = let z : ◌≡◌ {A = ℕ} 0 1 = cc in absurd (omega arith)
told-entity (Some string) h = let z : ◌≡◌ {A = ℕ} 0 1 = cc in absurd (omega arith)
told-entity (Some (ext e)) h = let z : ◌≡◌ {A = ℕ} 0 1 = cc in absurd (omega arith)
told-entity (Some (bit_vec w)) h = let z : ◌≡◌ {A = ℕ} 0 1 = cc in absurd (omega arith)
told-entity (Some (option_of w)) h = let z : ◌≡◌ {A = ℕ} 0 1 = cc in absurd (omega arith)
told-entity (Some (set_of w)) h = let z : ◌≡◌ {A = ℕ} 0 1 = cc in absurd (omega arith)
told-entity (Some (entity_of name)) h = (name, refl)
told-entity (Some (record_of name rows)) h = let z : ◌≡◌ {A = ℕ} 0 1 = cc in absurd (omega arith)

told_none : (o : Option Sort) → sort.Other ≡ form_told o → filled o ≡ None
told_none None h = refl
told_none (Some bool) h = let z : ◌≡◌ {A = ℕ} 0 1 = cc in absurd (omega arith)
told_none (Some string) h = let z : ◌≡◌ {A = ℕ} 0 1 = cc in absurd (omega arith)
told_none (Some (ext e)) h = let z : ◌≡◌ {A = ℕ} 0 1 = cc in absurd (omega arith)
told_none (Some (bit_vec w)) h = let z : ◌≡◌ {A = ℕ} 0 1 = cc in absurd (omega arith)
told_none (Some (option_of w)) h = let z : ◌≡◌ {A = ℕ} 0 1 = cc in absurd (omega arith)
told_none (Some (set_of w)) h = let z : ◌≡◌ {A = ℕ} 0 1 = cc in absurd (omega arith)
told_none (Some (entity_of name)) h = let z : ◌≡◌ {A = ℕ} 0 1 = cc in absurd (omega arith)
told_none (Some (record_of name rows)) h = let z : ◌≡◌ {A = ℕ} 0 1 = cc in absurd (omega arith)

entity-long : (name : List ℕ) → length (sort_line (entity_of name)) ≡ 13 + length name
unfolding joined
entity-long name = omega (arith, length-append name (bytes "\n"))

-- a sort's line
module _ (text : List ℕ) (at end : ℕ) (table : List ℕ) (number : ℕ) (fields : List ℕ) (before : ℕ) (fine : FineSort text at table number fields before)
    (e : end ≡ at + span_to line_feed (drop at text)) where
  sorted_none : line_row sort_in (drop at text) ≡ None → SortLined at number before (line_row sort_in (drop at text)) table table fields fields None
  sorted_none q = record {
    answers = ap (sort_told at before) (sym q);
    holds = ap (sort_held at number before table) (sym q);
    stay = refl;
    fields = λ x p. let y : None ≡ Some x = sym q ∙ p in let z : ◌≡◌ {A = ℕ} 0 1 = cc in absurd (omega arith);
  }

  pub sorted-past : length text ≤ end → SortLined at number before (line_row sort_in (drop at text)) table table fields fields None
  sorted-past h = sorted_none (line-past sort_in sort_line (λ i. sort_words i before) sort-sound text at end fine.within e number table h)

  module _ (h : end < length text) (r : SortLine) (g : r ≡ form_told (form (take (end - at) (drop at text)))) where
    abbrev body : List ℕ
    body = take (end - at) (drop at text)

    here : line_row sort_in (drop at text) ≡ sort_in body
    here = line-here sort_in sort_line (λ i. sort_words i before) sort-sound text at end fine.within e number table h

    sorted-row : (x : Sort) → sort_in body ≡ Some x → fields_of x ≡ [] → (exit : List ℕ) → exit ≡ sets table (number * stride) (sort_words at before x)
        → SortLined at number before (line_row sort_in (drop at text)) table exit fields fields (Some (record { at = end + 1; fields = before }))
    sorted-row x q none_of exit held =
        let f : line_row sort_in (drop at text) ≡ Some x = here ∙ q in
        let d : end + 1 ≡ at + length (sort_line x) = line-ends sort_in sort_line (λ i. sort_words i before) sort-sound text at end fine.within e number table x q in
        let b : before ≡ before + length (fields_of x) = omega (arith, ap length none_of) in
        record {
          answers = ap₂ (λ (i j : ℕ). (Some (record { at = i; fields = j }))) d b ∙ ap (sort_told at before) (sym f);
          holds = held ∙ ap (sort_held at number before table) (sym f);
          stay = refl;
          fields = λ y p.
              subst (λ (v : Sort). take (before + length (fields_of v)) fields ≡ take before fields ++ fields_of v) (same_Some _ _ (sym f ∙ p))
              (ap (λ (i : ℕ). take i fields) (sym b) ∙ sym (append-nil (take before fields)) ∙ ap (λ (l : List ℕ). take before fields ++ l) (sym none_of));
        }

    pub sorted-other : r ≡ sort.Other → SortLined at number before (line_row sort_in (drop at text)) table table fields fields None
    sorted-other q = sorted_none (here ∙ told_none (form body) (sym q ∙ g))

    pub sorted-plain : (kind n : ℕ) → r ≡ sort.Plain kind n → (exit : List ℕ) → exit ≡ sets table (number * stride) (row_words 0 0 kind n 0)
        → SortLined at number before (line_row sort_in (drop at text)) table exit fields fields (Some (record { at = end + 1; fields = before }))
    sorted-plain kind n q exit held =
        let t = told-plain at before (form body) kind n (sym q ∙ g) in
        sorted-row t.0 t.1 t.3 exit (held ∙ ap (sets table (number * stride)) t.2)

    module _ (q : r ≡ sort.Entity) where
      entity-size : length (told-entity (form body) (sym q ∙ g)).0 + 12 ≡ end - at
      entity-size =
          let t = told-entity (form body) (sym q ∙ g) in
          let d : end + 1 ≡ at + length (sort_line (entity_of t.0)) = line-ends sort_in sort_line (λ i. sort_words i before) sort-sound text at end fine.within e number table (entity_of t.0) t.1 in
          omega (arith, d, entity-long t.0)

      pub sorted-starts : at + 12 ≤ end
      sorted-starts = omega (arith, entity-size)

      pub sorted-entity : (exit : List ℕ) → exit ≡ sets table (number * stride) (row_words (at + 12) (end - at - 12) 9 0 0)
          → SortLined at number before (line_row sort_in (drop at text)) table exit fields fields (Some (record { at = end + 1; fields = before }))
      sorted-entity exit held =
          let t = told-entity (form body) (sym q ∙ g) in
          let n : end - at - 12 ≡ length t.0 = omega (arith, entity-size) in
          sorted-row (entity_of t.0) t.1 refl exit (held ∙ ap (λ (i : ℕ). sets table (number * stride) (row_words (at + 12) i 9 0 0)) n)

    module _ (q : r ≡ sort.Record) where
      pub sorted-fine : FineRecord text at end table number fields before
      sorted-fine = record {
        fine = fine;
        starts = omega (arith, (record_form body (sym q ∙ g)).1, word-long line_feed text at end fine.within e);
        ends = h;
      }

      pub sorted_record : (exit after : List ℕ) (n : Option SortNext) → SortLined at number before (record_in (drop 12 body)) table exit fields after n
          → SortLined at number before (line_row sort_in (drop at text)) table exit fields after n
      sorted_record exit after n l = subst (λ (o : Option Sort). SortLined at number before o table exit fields after n) (sym (here ∙ (record_form body (sym q ∙ g)).0)) l

told-next : (at before next count : ℕ) (o : Option Sort) → (Some (record { at = next; fields = count })) ≡ sort_told at before o → (x : Sort) × (o ≡ Some x) × (next ≡ at + length (sort_line x)) × (count ≡ before + length (fields_of x))
told-next at before next count None h = let z : ◌≡◌ {A = ℕ} 0 1 = cc in absurd (omega arith)
told-next at before next count (Some x) h = let e = some-same h in (x, refl, ap (λ (n : SortNext). n.at) e, ap (λ (n : SortNext). n.fields) e)

told-stop : (at before : ℕ) (o : Option Sort) → None ≡ sort_told at before o → o ≡ None
told-stop at before None h = refl
told-stop at before (Some x) h = let z : ◌≡◌ {A = ℕ} 0 1 = cc in absurd (omega arith)

pub record Sorting (text entry list : List ℕ) (at number count : ℕ) (table fields : List ℕ) : Type 0 where
  pub long : length table ≡ length entry
  pub listed : length fields ≡ length list
  pub within : at ≤ length text
  pub few : number ≤ row_limit
  pub halved : count * 2 ≤ at
  pub counts : number + length (walk sort_in (row_limit - number) (drop at text)).rows ≡ length (walk sort_in row_limit text).rows
  pub ends : at + length (lines sort_line (walk sort_in (row_limit - number) (drop at text)).rows) ≡ length (lines sort_line (walk sort_in row_limit text).rows)
  pub sums : count + length (all_fields (walk sort_in (row_limit - number) (drop at text)).rows) ≡ length (all_fields (walk sort_in row_limit text).rows)
  pub holds : take (number * stride) table ++ all_sort_words at count (walk sort_in (row_limit - number) (drop at text)).rows ≡ all_sort_words 0 0 (walk sort_in row_limit text).rows
  pub lists : take count fields ++ all_fields (walk sort_in (row_limit - number) (drop at text)).rows ≡ all_fields (walk sort_in row_limit text).rows

pub sorting_start : (text entry list : List ℕ) → Sorting text entry list 0 0 0 entry list
sorting_start text entry list = record {
  long = refl;
  listed = refl;
  within = omega arith;
  few = omega arith;
  halved = omega arith;
  counts = omega arith;
  ends = omega arith;
  sums = omega arith;
  holds = refl;
  lists = refl;
}

module _ (text entry list : List ℕ) (at number count : ℕ) (table fields : List ℕ) (so : Sorting text entry list at number count table fields)
    (room : row_limit * stride ≤ length entry) (ample : length text ≤ length list * 2) where
  sorting_end : walk sort_in (row_limit - number) (drop at text) ≡ stopped (drop at text) → (table' fields' : List ℕ) → table' ≡ table → take count fields' ≡ take count fields
      → SortsWalked (walk sort_in row_limit text) table' fields' (record { at = at; rows = number; fields = count })
  unfolding lines all_fields all_sort_words
  sorting_end q table' fields' same stay =
      let r : (walk sort_in (row_limit - number) (drop at text)).rows ≡ [] = ap (λ (w : Walked Sort). w.rows) q in
      record {
        counts = omega (arith, so.counts, ap length r);
        ends = omega (arith, so.ends, ap (λ (l : List Sort). length (lines sort_line l)) r);
        sums = omega (arith, so.sums, ap (λ (l : List Sort). length (all_fields l)) r);
        holds =
            ap (take (number * stride)) same ∙ sym (append-nil (take (number * stride) table))
            ∙ ap (λ (l : List Sort). take (number * stride) table ++ all_sort_words at count l) (sym r) ∙ so.holds;
        lists = stay ∙ sym (append-nil (take count fields)) ∙ ap (λ (l : List Sort). take count fields ++ all_fields l) (sym r) ∙ so.lists;
      }

  pub sorting_full : row_limit ≤ number → SortsWalked (walk sort_in row_limit text) table fields (record { at = at; rows = row_limit; fields = count })
  sorting_full h =
      let z : row_limit - number ≡ 0 = omega arith in
      let e : number ≡ row_limit = omega (arith, so.few) in
      subst (λ (n : ℕ). SortsWalked (walk sort_in row_limit text) table fields (record { at = at; rows = n; fields = count })) e
      (sorting_end (ap (λ (k : ℕ). walk sort_in k (drop at text)) z ∙ walk_none sort_in (drop at text)) table fields refl refl)

  module _ (less : number < row_limit) where
    pub sorting_fine : FineSort text at table number fields count
    sorting_fine = record {
      within = so.within;
      room = omega (arith, so.long, room);
      few = so.halved;
      ample = omega (arith, so.listed, ample);
    }

    module _ (table' fields' : List ℕ) (r : Option SortNext) (l : SortLined at number count (line_row sort_in (drop at text)) table table' fields fields' r) where
      pub sorting_stop : r ≡ None → SortsWalked (walk sort_in row_limit text) table' fields' (record { at = at; rows = number; fields = count })
      sorting_stop q =
          let f : line_row sort_in (drop at text) ≡ None = told-stop at count (line_row sort_in (drop at text)) (sym q ∙ l.answers) in
          sorting_end (walk-stop sort_in (row_limit - number) (drop at text) f) table' fields' (l.holds ∙ ap (sort_held at number count table) f) l.stay

      pub sorting_long : length table' ≡ length entry
      sorting_long = ap length l.holds ∙ held (line_row sort_in (drop at text)) ∙ so.long
        where
          held : (o : Option Sort) → length (sort_held at number count table o) ≡ length table
          held None = refl
          held (Some x) = length-sets table (number * stride) (sort_words at count x)

      module _ (listed : length fields' ≡ length list) (next more : ℕ) (q : r ≡ Some (record { at = next; fields = more })) where
        pub sorting_step : Sorting text entry list next (number + 1) more table' fields'
        unfolding lines all_fields all_sort_words
        sorting_step =
            let t = told-next at count next more (line_row sort_in (drop at text)) (sym q ∙ l.answers) in
            let x = t.0 in
            let f : line_row sort_in (drop at text) ≡ Some x = t.1 in
            let n : next ≡ at + length (sort_line x) = t.2 in
            let c : more ≡ count + length (fields_of x) = t.3 in
            let k : row_limit - number ≡ suc (row_limit - (number + 1)) = omega arith in
            let d : drop (length (sort_line x)) (drop at text) ≡ drop next text = drop-drop (length (sort_line x)) at text ∙ ap (λ (i : ℕ). drop i text) (sym n) in
            let w : (walk sort_in (row_limit - number) (drop at text)).rows ≡ x ∷ (walk sort_in (row_limit - (number + 1)) (drop next text)).rows =
            ap (λ (i : ℕ). (walk sort_in i (drop at text)).rows) k
            ∙ ap (λ (v : Walked Sort). v.rows) (walk-goes sort_in sort_line sort-sound (row_limit - (number + 1)) (drop at text) x f)
            ∙ ap (λ (s : List ℕ). x ∷ (walk sort_in (row_limit - (number + 1)) s).rows) d in
            let held : table' ≡ sets table (number * stride) (sort_words at count x) = l.holds ∙ ap (sort_held at number count table) f in
            let m : (number + 1) * stride ≡ number * stride + length (sort_words at count x) = omega (arith, five at count x) in
            record {
              long = sorting_long;
              listed = listed;
              within = omega (arith, n, line-within sort_in sort_line sort-sound text at x so.within f);
              few = omega arith;
              halved = omega (arith, so.halved, n, c, half x);
              counts = omega (arith, so.counts, ap length w);
              ends = omega (arith, so.ends, ap (λ (v : List Sort). length (lines sort_line v)) w, n, length-append (sort_line x) (lines sort_line (walk sort_in (row_limit - (number + 1)) (drop next text)).rows));
              sums = omega (arith, so.sums, ap (λ (v : List Sort). length (all_fields v)) w, c, length-append (fields_of x) (all_fields (walk sort_in (row_limit - (number + 1)) (drop next text)).rows));
              holds =
                  ap (λ (s : List ℕ). s ++ all_sort_words next more (walk sort_in (row_limit - (number + 1)) (drop next text)).rows)
                  (ap (take ((number + 1) * stride)) held ∙ take-sets (sort_words at count x) table (number * stride) ((number + 1) * stride) m (omega (arith, so.long, room)))
                  ∙ append_assoc (take (number * stride) table) (sort_words at count x) (all_sort_words next more (walk sort_in (row_limit - (number + 1)) (drop next text)).rows)
                  ∙ ap₂ (λ (i j : ℕ). take (number * stride) table ++ (sort_words at count x ++ all_sort_words i j (walk sort_in (row_limit - (number + 1)) (drop next text)).rows)) n c
                  ∙ ap (λ (v : List Sort). take (number * stride) table ++ all_sort_words at count v) (sym w)
                  ∙ so.holds;
              lists =
                  ap (λ (s : List ℕ). s ++ all_fields (walk sort_in (row_limit - (number + 1)) (drop next text)).rows) (ap (λ (i : ℕ). take i fields') c ∙ l.fields x f)
                  ∙ append_assoc (take count fields) (fields_of x) (all_fields (walk sort_in (row_limit - (number + 1)) (drop next text)).rows)
                  ∙ ap (λ (v : List Sort). take count fields ++ all_fields v) (sym w)
                  ∙ so.lists;
            }
