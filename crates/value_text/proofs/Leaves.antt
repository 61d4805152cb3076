-- Values without another one in them: what their writers leave.
-- Assumes nothing.
use Rattle.std.proofs.Common.{Option, Some, Err, None, Ok, Result}
use mathlib.Core.Path.{◌≡◌, refl, sym, ap, ap₂, ◌∙◌, subst}
use mathlib.Core.Bool.{Bool, true, false, ◌||◌, true≢false}
use mathlib.Core.List.{List, [], ◌∷◌, ◌++◌, append_assoc}
use Prim.Native.Nat.{ℕ, ◌+◌, ◌-◌, ◌%◌, ◌^◌, ◌≤◌, ◌<◌}
use Prim.Native.String.{String}
use native.Mathlib.Omega.{arith}
use lib.IntN.{ℤ}
use lib.ListN.{length, take, drop}
use mir.Syntax.{w64}
use mir.Val.{SFits}
use mir.ValLaws.{to_z-of_z}
use borrow.Author.Tests.{le-leb, lt-leb}
use types.Run.{OneOf, miss}
use denote.Enum.Declared.{tag_of}
use borrow.Rule.Slice.PartMut.{put_mid, mid_len}
use Rattle.ground.specs.Bytes.{bytes}
use Rattle.ground.proofs.Tests.{by_test, by_order}
use Rattle.ground.proofs.Options.{ok-same}
use Rattle.lent.proofs.Lefts.{written-not}
use Rattle.refusals.specs.declared.Refusal.{Refusal}
use Rattle.refusals.specs.declared.Refusal.TheVariants.{OutRoom}
use Rattle.lent.specs.Left.{onto, writing, Leaves}
use Rattle.lent.specs.Put.{Offers}
use Rattle.lent.proofs.Offers.{offers_then, offers_as, offers_past, offers_tail}
use Rattle.words.specs.declared.digits.Radix.{Radix}
use Rattle.words.specs.declared.pair.Pair.{Pair}
use Rattle.words.specs.Extension.{signed}
use Rattle.words.specs.Pair.{value}
use Rattle.words.specs.Run.{parsed}
use Rattle.decimals.specs.Decimal.{decimal, signed_decimal}
use Rattle.decimals.proofs.Magnitudes.{back}
use Rattle.arena.specs.declared.node.Node.{Node}
use Rattle.arena.specs.Node.{node_at}
use Rattle.arena.specs.contracts.node.Node as NodeType
use Rattle.arena.specs.Text.{text_at, same_text}
use Rattle.arena.proofs.Texts.{same-equal}
use Rattle.tables.specs.declared.row.Range.{Range}
use Rattle.tables.specs.Find.{member_row}
use Rattle.tables.specs.Layout.{Lent, word, part, member_at, tables_of}
use Rattle.tables.specs.Lookup.{FindsMember}
use Rattle.tables.specs.Range.{Clamps}
use Rattle.tables.specs.Sort.{Sort, bool}
use Rattle.shapes.specs.declared.shape.Kind.{Kind}
use Rattle.shapes.specs.Shows.{ext_of}
use Rattle.values.specs.Value.{Value, v_bool, v_string, v_ext, v_bits, v_entity}
use Rattle.values.specs.Text.{text, hex, hex_text, hex_width, mark}
use Rattle.means.specs.Literal.{Lit, unsigned, numbered, lit_of, member_lit, at_row, word_lit}
use Rattle.forms.proofs.Leaves.{found-row, found_none, member-place}
use Rattle.well_sorted.proofs.Results.{refuses, ok_same, went}
use Rattle.value_text.specs.Leaf.{IndexedText, EntityText, MemberText, WordText}

-- a text that has room is what the buffer holds
holds_text : (s buffer : List ℕ) → length s ≤ length buffer → (writing OutRoom s buffer).holds ≡ onto s buffer
unfolding writing
holds_text s buffer h = rw (le-leb (length s) (length buffer) h)

answers_text : (s buffer : List ℕ) → length s ≤ length buffer → (writing OutRoom s buffer).answer ≡ Ok (length s)
unfolding writing
answers_text s buffer h = rw (le-leb (length s) (length buffer) h)

refused_text : (s buffer : List ℕ) → length buffer < length s → (writing OutRoom s buffer).answer ≡ Err (OutRoom (length s))
unfolding writing
refused_text s buffer h = rw (lt-leb (length s) (length buffer) h)

-- a text at a place, written to the front of the rest where there is room
module _ (s d : List ℕ) (at : ℕ) where
  pub rest-past : length d < at → Offers d d at s at
  rest-past h = offers_past d s at at (omega arith)

  -- a writer of the text was lent the rest
  module _ (under : at ≤ length d) (w : Result ℕ Refusal) (part : List ℕ) (k : Leaves (writing OutRoom s (take (length d - at) (drop at d))) w part) where
    front-long : length (take (length d - at) (drop at d)) ≡ length d - at
    front-long = mid_len at (length d) d (omega arith)

    wrote : (long : ℕ) → w ≡ Ok long → (long ≡ length s) × (length s ≤ length (take (length d - at) (drop at d)))
    wrote long e =
        by_order (length (take (length d - at) (drop at d))) (length s)
        (λ h. let g : ◌≡◌ {A = Result ℕ Refusal} (Ok long) (Err (OutRoom (length s))) = sym e ∙ k.answers ∙ refused_text s (take (length d - at) (drop at d)) h in
        let z : ◌≡◌ {A = ℕ} 0 1 = cc in absurd (omega arith))
        (λ h. (ok-same {B = Refusal} (sym e ∙ k.answers ∙ answers_text s (take (length d - at) (drop at d)) h), h))

    pub rest-within : (long : ℕ) → w ≡ Ok long → at + long ≤ length d
    rest-within long e = let p = wrote long e in omega (arith, p.0, p.1, front-long)

    pub rest-text : (long : ℕ) → w ≡ Ok long → Offers d (put_mid at (length d - at) d part) at s (at + long)
    rest-text long e =
        let p = wrote long e in
        offers_tail d s part at long (record { long = p.0; holds = k.holds ∙ holds_text s (take (length d - at) (drop at d)) p.1 })

    pub rest-full : (z : Refusal) → w ≡ Err z → Offers d (put_mid at (length d - at) d part) at s at
    rest-full z e h =
        let p = written-not OutRoom s (take (length d - at) (drop at d)) (subst (λ (x : Result ℕ Refusal). Leaves (writing OutRoom s (take (length d - at) (drop at d))) x part) e k) in
        absurd (omega (arith, p.1, front-long))

-- a signed number arrives as the machine reads it back from its bits
pub signed_back : (z : ℤ) → SFits w64 z → signed_decimal (back z) ≡ signed_decimal z
signed_back z f = ap signed_decimal (to_z-of_z w64 z f)

module _ (z : ℤ) (f : SFits w64 z) (d : List ℕ) (at : ℕ) (under : at ≤ length d) (w : Result ℕ Refusal) (part : List ℕ) (k : Leaves (writing OutRoom (signed_decimal (back z)) (take (length d - at) (drop at d))) w part) where
  pub integer-within : (long : ℕ) → w ≡ Ok long → at + long ≤ length d
  integer-within long e = rest-within (signed_decimal (back z)) d at under w part k long e

  pub integer_text : (long : ℕ) → w ≡ Ok long → Offers d (put_mid at (length d - at) d part) at (signed_decimal z) (at + long)
  integer_text long e = offers_as (signed_back z f) (rest-text (signed_decimal (back z)) d at under w part k long e)

  pub integer_full : (why : Refusal) → w ≡ Err why → Offers d (put_mid at (length d - at) d part) at (signed_decimal z) at
  integer_full why e = offers_as (signed_back z f) (rest-full (signed_decimal (back z)) d at under w part k why e)

-- a text whose head was written before
headed : (letters : String) (n last : ℕ) (s : List ℕ) → bytes letters ++ (decimal n ++ (last ∷ [])) ++ s ≡ bytes letters ++ (decimal n ++ (last ∷ s))
headed letters n last s = append_assoc (bytes letters) (decimal n ++ (last ∷ [])) s ∙ ap (λ (t : List ℕ). bytes letters ++ t) (append_assoc (decimal n) (last ∷ []) s)

pub head-text : (letters : List ℕ) (n last : ℕ) {a b c d : List ℕ} {one two r : ℕ} → Offers a b 0 letters one → Offers b c one (decimal n) two → Offers c d two (last ∷ []) r → Offers a d 0 (letters ++ (decimal n ++ (last ∷ []))) r
head-text letters n last f g h = offers_then f (offers_then g h)

pub bits-text : (w n count m : ℕ) {a b c : List ℕ} {one r : ℕ} → Offers a b 0 (bytes "bv" ++ (decimal w ++ (58 ∷ []))) one → Offers b c one (hex count m) r →
    count ≡ hex_width w → m ≡ n → Offers a c 0 (text (v_bits w n)) r
unfolding text
bits-text w n count m f k p q = offers_as (headed "bv" w 58 (hex (hex_width w) n)) (offers_then f (offers_as (ap₂ hex p q) k))

-- what a range holds
pub range_holds : (xs : List ℕ) (first size : ℕ) (range : Range) → Clamps first size (length xs) range → take (range.end - range.start) (drop range.start xs) ≡ text_at xs first size
range_holds xs first size range c = c.holds xs refl

module _ (digits slice a b : List ℕ) (w r : ℕ) (s : slice ≡ digits) (p : Result Pair Refusal) (e : p ≡ parsed Radix.Decimal (unsigned slice)) where
  pub indexed-number : (pair : Pair) → p ≡ Ok pair → Offers a b 0 (text (v_bits w (value pair % 2 ^ w))) r → IndexedText digits w a b r
  indexed-number pair k f n g =
      let v : value pair ≡ n = ok_same (ap numbered (sym k ∙ e ∙ ap (λ (t : List ℕ). parsed Radix.Decimal (unsigned t)) s) ∙ g) in
      subst (λ (m : ℕ). Offers a b 0 (text (v_bits w (m % 2 ^ w))) r) v f

  pub indexed-refused : (why : Refusal) → p ≡ Err why → IndexedText digits w a b r
  indexed-refused why k n g = refuses (ap numbered (sym k ∙ e ∙ ap (λ (t : List ℕ). parsed Radix.Decimal (unsigned t)) s) ∙ g)

pub string-text : (s slice : List ℕ) {a b c : List ℕ} {one r : ℕ} → Offers a b 0 (bytes "s:") one → Offers b c one (hex_text slice) r → slice ≡ s → Offers a c 0 (text (v_string s)) r
unfolding text
string-text s slice f g e = offers_then f (offers_as (ap hex_text e) g)

pub entity-text : (row : ℕ) (s : List ℕ) {a b c : List ℕ} {one r : ℕ} → Offers a b 0 (bytes "e" ++ (decimal row ++ (58 ∷ []))) one → Offers b c one (hex_text s) r → Offers a c 0 (text (v_entity row s)) r
unfolding text
entity-text row s f k = offers_as (headed "e" row 58 (hex_text s)) (offers_then f k)

abbrev is_string : Node → Bool
is_string (Node.BitVec width low high) = false
is_string (Node.Numeral low high) = false
is_string (Node.String size offset) = true
is_string (Node.Symbol size offset) = false
is_string (Node.App many next) = false
is_string Node.NoNode = false

other-node : (n : Node) → OneOf (0 ∷ 1 ∷ 3 ∷ 4 ∷ 5 ∷ []) (tag_of NodeType.the_type n) → is_string n ≡ false
other-node (Node.BitVec width low high) h = refl
other-node (Node.Numeral low high) h = refl
other-node (Node.String size offset) h = absurd (miss (0 ∷ 1 ∷ 3 ∷ 4 ∷ 5 ∷ []) 2 tt h)
other-node (Node.Symbol size offset) h = refl
other-node (Node.App many next) h = refl
other-node Node.NoNode h = refl

-- a string at a node, and no string
module _ (ws ts a b : List ℕ) (row i r : ℕ) where
  pub named-string : (size offset : ℕ) (slice : List ℕ) → node_at ws i ≡ Node.String size offset → slice ≡ text_at ts offset size → Offers a b 0 (text (v_entity row slice)) r → EntityText ws ts row i a b r
  named-string size offset slice e h f s st =
      let k : ◌≡◌ {A = Node} (Node.String (length s) st.from) (Node.String size offset) = sym st.there.here ∙ e in
      let p : length s ≡ size = cc in
      let q : st.from ≡ offset = cc in
      let z : slice ≡ s = h ∙ sym (ap₂ (λ (x y : ℕ). text_at ts x y) q p) ∙ st.there.written in
      subst (λ (t : List ℕ). Offers a b 0 (text (v_entity row t)) r) z f

  pub named_other : (n : Node) → n ≡ node_at ws i → OneOf (0 ∷ 1 ∷ 3 ∷ 4 ∷ 5 ∷ []) (tag_of NodeType.the_type n) → EntityText ws ts row i a b r
  named_other n e h s st = absurd (true≢false (sym (ap is_string (e ∙ st.there.here)) ∙ other-node n h))

-- an enum member, by the words of its row
pub member-text : (members names a b : List ℕ) (i row first size r : ℕ) (range : Range) → row ≡ word members i 2 → first ≡ word members i 3 → size ≡ word members i 4 → Clamps first size (length names) range →
    Offers a b 0 (text (v_entity row (take (range.end - range.start) (drop range.start names)))) r → MemberText members names i a b r
member-text members names a b i row first size r range e f s c g l h n =
    subst (λ (v : Value). Offers a b 0 (text v) r)
    (ap₂ v_entity (e ∙ ap (λ (ws : List ℕ). word ws i 2) (sym h))
    (range_holds names first size range c
    ∙ ap₂ (λ (x y : ℕ). part names x y) (f ∙ ap (λ (ws : List ℕ). word ws i 3) (sym h)) (s ∙ ap (λ (ws : List ℕ). word ws i 4) (sym h))
    ∙ ap (λ (ns : List ℕ). part ns (word l.members i 3) (word l.members i 4)) (sym n))) g

-- the two tests one after the other
pub truth-first : (name : List ℕ) → same_text name (bytes "true") ≡ true → true ≡ (same_text name (bytes "true") || same_text name (bytes "false"))
truth-first name e = ap (λ (t : Bool). t || same_text name (bytes "false")) (sym e)

pub truth-second : (name : List ℕ) (z : Bool) → same_text name (bytes "true") ≡ false → z ≡ same_text name (bytes "false") → z ≡ (same_text name (bytes "true") || same_text name (bytes "false"))
truth-second name z e h = h ∙ ap (λ (t : Bool). t || same_text name (bytes "false")) (sym e)

-- `true`, `false`, or an enum member
module _ (members names name a b : List ℕ) (r : ℕ) where
  abbrev Says : String → Bool → Type 0
  Says this t = same_text name (bytes this) ≡ t

  lit-value : (l : Lent) (s : Sort) (v : Value) (k : Lit) → lit_of (tables_of l) s v ≡ Ok k → v ≡ k.value
  lit-value l s v k e = let w = went _ _ k e in ap (λ (x : Lit). x.value) (ok_same w.next)

  name_true : Says "true" true → Offers a b 0 (bytes "true") r → WordText members names name a b r
  unfolding text
  name_true h f l m n k e = subst (λ (v : Value). Offers a b 0 (text v) r) (lit-value l bool (v_bool true) k (rw h at e)) f

  name_false : Says "true" false → Says "false" true → Offers a b 0 (bytes "false") r → WordText members names name a b r
  unfolding text
  name_false h g f l m n k e = subst (λ (v : Value). Offers a b 0 (text v) r) (lit-value l bool (v_bool false) k (rw (h, g) at e)) f

  abbrev truthful : Bool
  truthful = same_text name (bytes "true") || same_text name (bytes "false")

  pub name-truth : truthful ≡ true → Offers a b 0 name r → WordText members names name a b r
  name-truth e f =
      by_test (same_text name (bytes "true"))
      (λ h. name_true h (offers_as (same-equal name (bytes "true") h) f))
      (λ h. let g : Says "false" true = rw h at e in name_false h g (offers_as (same-equal name (bytes "false") g) f))

  no_true : truthful ≡ false → Says "true" false
  no_true e = by_test (same_text name (bytes "true")) (λ h. absurd (true≢false (rw h at e))) (λ h. h)

  no_false : truthful ≡ false → Says "false" false
  no_false e = rw (no_true e) at e

  module _ (no_truth : truthful ≡ false) (q : Option ℕ) (found : FindsMember members names name q) where
    abbrev member_of : Lent → Option ℕ → Result Lit Refusal
    member_of l o = member_lit (tables_of l) (at_row (tables_of l) (tables_of l).members o)

    is_member : (l : Lent) (k : Lit) → word_lit (tables_of l) name ≡ Ok k → member_of l (member_row (tables_of l) name) ≡ Ok k
    is_member l k e = rw (no_true no_truth, no_false no_truth) at e

    pub name-member : (row : ℕ) → q ≡ Some row → MemberText members names row a b r → WordText members names name a b r
    name-member row e f l m n k w =
        let o = found-row (member_row (tables_of l) name) q row (found l m n) e in
        let p : member_lit (tables_of l) (Some (member_at l row)) ≡ Ok k =
        sym (ap (member_of l) o ∙ ap (member_lit (tables_of l)) (member-place l name row o)) ∙ is_member l k w in
        subst (λ (x : Lit). Offers a b 0 (text x.value) r) (ok_same p) (f l m n)

    pub name-unknown : q ≡ None → WordText members names name a b r
    name-unknown e l m n k w = refuses (sym (ap (member_of l) (found_none (member_row (tables_of l) name) q (found l m n) e)) ∙ is_member l k w)

pub word_as : (members names a b name slice : List ℕ) (r : ℕ) → slice ≡ name → WordText members names slice a b r → WordText members names name a b r
word_as members names a b name slice r e f = subst (λ (t : List ℕ). WordText members names t a b r) e f

pub letter_as : (kind k : Kind) (letter : ℕ) → kind ≡ k → mark (ext_of k) ≡ letter ∷ bytes ":" → mark (ext_of kind) ≡ letter ∷ bytes ":"
letter_as kind k letter e h = ap (λ (x : Kind). mark (ext_of x)) e ∙ h

pub extension-text : (low : ℕ) (kind : Kind) (z : ℤ) (letter : ℕ) {a b c : List ℕ} {one r : ℕ} → SFits w64 z → z ≡ signed 64 low → mark (ext_of kind) ≡ letter ∷ bytes ":" → Offers a b 0 (letter ∷ bytes ":") one → Offers b c one (signed_decimal (back z)) r →
    Offers a c 0 (text (v_ext (ext_of kind) (signed 64 low))) r
unfolding text
extension-text low kind z letter f e m g h = offers_then (offers_as (sym m) g) (offers_as (signed_back z f ∙ ap signed_decimal e) h)
