-- Literals without another one in them: bit vectors, strings, extensions, and words, of which some are enum members.
-- Assumes nothing.
use Rattle.std.proofs.Common.{Option, Some, Err, None, Ok, Result}
use mathlib.Core.Path.{◌≡◌, refl, sym, ap, ◌∙◌, subst}
use mathlib.Core.Bool.{Bool, true, false}
use mathlib.Core.List.{List}
use Prim.Native.Nat.{ℕ, ◌+◌, ◌*◌, ◌-◌, ◌^◌, ◌<◌}
use Prim.Native.String.{String}
use native.Mathlib.Omega.{arith}
use lib.IntN.{ℤ}
use lib.ListN.{length}
use mir.Syntax.{w64}
use mir.Val.{SFits}
use mir.ValLaws.{to_z-of_z}
use Rattle.ground.specs.Bytes.{bytes}
use Rattle.refusals.specs.declared.Refusal.TheVariants.{UnknownLiteral}
use Rattle.decimals.specs.Decimal.{digit_count, signed_decimal}
use Rattle.decimals.proofs.Magnitudes.{back}
use Rattle.words.specs.Extension.{signed}
use Rattle.arena.specs.Text.{same_text}
use Rattle.tables.specs.declared.row.Range.{Range}
use Rattle.tables.specs.declared.sort.Wanted.{Wanted}
use Rattle.tables.specs.Find.{member_row}
use Rattle.tables.specs.Layout.{word, part, member_at, tables_of}
use Rattle.tables.specs.Lookup.{FindsMember}
use Rattle.tables.specs.Range.{Clamps}
use Rattle.tables.specs.Sort.{Sort, ext, Member}
use Rattle.tables.specs.View.{sort_wanted}
use Rattle.tables.proofs.Ranges.{length_clamped}
use Rattle.shapes.specs.declared.shape.Kind.{Kind}
use Rattle.shapes.specs.Shows.{ext_of}
use Rattle.values.specs.Text.{hex_width}
use Rattle.values.specs.Value.{v_bool, v_string, v_ext, v_bits, v_entity}
use Rattle.values.proofs.Lengths.{length_true, length_false, length-string, signed-most, length-ext, length-bits, length-entity}
use Rattle.forms.proofs.Leaves.{found-row, found_none, member-place}
use Rattle.means.specs.Literal.{lit_of, member_lit, at_row}
use Rattle.literals.specs.Answer.{answer, need, capped, ValueOf}
use Rattle.literals.specs.Parts.{wanted_of, BitsOf, StringOf, ExtensionOf, MemberOf, WordOf}
use Rattle.literals.proofs.Needs.{need-is, need-twice}
use Rattle.literals.proofs.Answers.{same-value}
use Rattle.literals.specs.declared.answer.Literal.{Literal}
use Rattle.refusals.specs.declared.Refusal.{Refusal}

ext-wanted : (kind : Kind) → sort_wanted (wanted_of kind) ≡ ext (ext_of kind)
ext-wanted Kind.Decimal = refl
ext-wanted Kind.Datetime = refl
ext-wanted Kind.Duration = refl

module _ (sorts : List ℕ) (n : ℕ) (r : Result Literal Refusal) where
  pub bits-value : (width : ℕ) → n < 2 ^ 64 → n ≡ digit_count width + hex_width width + 3 → ValueOf sorts (Wanted.BitVec width) n false r → BitsOf sorts width r
  bits-value width h e k l s m = k l s (v_bits width m) (need-is (v_bits width m) n (digit_count width + hex_width width + 3) h e (length-bits width m)) refl

  pub string-value : (size twice : ℕ) → twice ≡ capped (size + size) → n ≡ capped (twice + 2) → ValueOf sorts Wanted.String n false r → StringOf sorts size r
  string-value size twice e g k l s t h = k l s (v_string t) (need-twice (v_string t) n twice size 2 e g (omega (arith, length-string t, h))) refl

  -- the number as the machine reads it back from its bits
  pub extension-value : (kind : Kind) (low : ℕ) (z : ℤ) → SFits w64 z → z ≡ signed 64 low → n ≡ length (signed_decimal (back z)) + 2 → (wanted : Wanted) → wanted ≡ wanted_of kind → ValueOf sorts wanted n false r → ExtensionOf sorts kind low r
  extension-value kind low z f g e wanted w k l s =
      let v = v_ext (ext_of kind) (signed 64 low) in
      let q : length (signed_decimal (back z)) ≡ length (signed_decimal (signed 64 low)) = ap (λ (y : ℤ). length (signed_decimal y)) (to_z-of_z w64 z f ∙ g) in
      k l s v (omega (arith, e, q, signed-most (back z), length-ext (ext_of kind) (signed 64 low))) refl
      ∙ ap (λ (x : Sort). answer (lit_of (tables_of l) x v)) (ap sort_wanted w ∙ ext-wanted kind)

-- an enum member, by the words of its row
entity-same : (row first size i j k : ℕ) (names : List ℕ) → row ≡ i → first ≡ j → size ≡ k → ◌≡◌ {A = Result Literal Refusal} (Ok (record { row = row; need = need (v_entity row (part names first size)); is_set = false })) (Ok (record { row = i; need = need (v_entity i (part names j k)); is_set = false }))
entity-same row first size i j k names e g h = rw (e, g, h)

pub member-value : (members : List ℕ) (most i row first size : ℕ) (range : Range) (n : ℕ) → row ≡ word members i 2 → first ≡ word members i 3 → size ≡ word members i 4 →
    Clamps first size most range → n ≡ capped (digit_count row + 2 * (range.end - range.start) + 2) → MemberOf members most i (Ok (record { row = row; need = n; is_set = false }))
member-value members most i row first size range n e f s c k l h g =
    let p : length (part l.names first size) ≡ range.end - range.start = length_clamped l.names first size range (subst (λ (m : ℕ). Clamps first size m range) (sym g) c) in
    let q : n ≡ need (v_entity row (part l.names first size)) = omega (arith, k, p, length-entity row (part l.names first size)) in
    same-value row n (need (v_entity row (part l.names first size))) false false q refl
    ∙ entity-same row first size (word l.members i 2) (word l.members i 3) (word l.members i 4) l.names
    (e ∙ ap (λ (ws : List ℕ). word ws i 2) (sym h))
    (f ∙ ap (λ (ws : List ℕ). word ws i 3) (sym h))
    (s ∙ ap (λ (ws : List ℕ). word ws i 4) (sym h))

module _ (sorts members names name : List ℕ) where
  abbrev Says : String → Bool → Type 0
  Says this b = same_text name (bytes this) ≡ b

  pub word_true : Says "true" true → (r : Result Literal Refusal) → ValueOf sorts Wanted.Bool 4 false r → WordOf sorts members names name r
  word_true a r k l s m n = rw a (k l s (v_bool true) (need-is (v_bool true) 4 4 (omega arith) refl length_true) refl)

  pub word_false : Says "true" false → Says "false" true → (r : Result Literal Refusal) → ValueOf sorts Wanted.Bool 5 false r → WordOf sorts members names name r
  word_false a b r k l s m n = rw (a, b) (k l s (v_bool false) (need-is (v_bool false) 5 5 (omega arith) refl length_false) refl)

  module _ (a : Says "true" false) (b : Says "false" false) (q : Option ℕ) (h : FindsMember members names name q) where
    pub word-member : (row : ℕ) → q ≡ Some row → (r : Result Literal Refusal) → MemberOf members (length names) row r → WordOf sorts members names name r
    word-member row e r k l s m n =
        let f = found-row (member_row (tables_of l) name) q row (h l m n) e in
        let g : at_row (tables_of l) (tables_of l).members (member_row (tables_of l) name) ≡ Some (member_at l row) =
        ap (λ (o : Option ℕ). at_row (tables_of l) (tables_of l).members o) f ∙ member-place l name row f in
        rw (a, b) (k l m (ap (λ (ys : List ℕ). length ys) n) ∙ ap (λ (o : Option Member). answer (member_lit (tables_of l) o)) (sym g))

    pub word-unknown : q ≡ None → WordOf sorts members names name (Err UnknownLiteral)
    word-unknown e l s m n =
        let f = found_none (member_row (tables_of l) name) q (h l m n) e in
        rw (a, b) (ap (λ (o : Option ℕ). answer (member_lit (tables_of l) (at_row (tables_of l) (tables_of l).members o))) (sym f))
