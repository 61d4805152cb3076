-- A sort's line as the code tells it: its kind and number, or that a name follows.
-- Assumes nothing.
use Rattle.std.proofs.Common.{None, Option, Some}
use mathlib.Core.Path.{◌≡◌, refl, sym, ap, ◌∙◌}
use mathlib.Core.Bool.{Bool, true, false}
use mathlib.Core.List.{List}
use Prim.Native.Nat.{ℕ, ◌-◌}
use lib.ListN.{length, take, drop}
use Rattle.ground.specs.Bytes.{bytes}
use Rattle.ground.specs.Options.{over}
use Rattle.arena.specs.Text.{same_text}
use Rattle.tables.specs.Sort.{bit_vec, option_of, set_of}
use Rattle.tables_text.specs.declared.sort.SortLine.{SortLine}
use Rattle.tables_text.specs.declared.sort.SortLine.TheVariants as sort
use Rattle.tables_text.specs.Parse.{begins, numeral, named_form, numbered_form, form}
use Rattle.tables_text.specs.Told.{number_told, plain_told, numbered_told, form_told}
use Rattle.tables_text.proofs.Cuts.{to_end}
use Rattle.tables_text.proofs.Numerals.{told_is, told-other}

-- the test that the code made
pub yes : {a b : Bool} → a ≡ b → a ≡ true → b ≡ true
yes e h = sym e ∙ h

pub no : {a b : Bool} → a ≡ b → a ≡ false → b ≡ false
no e h = sym e ∙ h

module _ (kind : ℕ) (s : List ℕ) (start : ℕ) (r : Option ℕ) (g : r ≡ number_told (numeral (take (length s - start) (drop start s)))) where
  value : r ≡ number_told (numeral (drop start s))
  value = g ∙ ap (λ (l : List ℕ). number_told (numeral l)) (to_end s start)

  pub numbered_is : (n : ℕ) → r ≡ Some n → sort.Plain kind n ≡ numbered_told kind (drop start s)
  numbered_is n o = ap (plain_told kind) (sym (told_is (numeral (drop start s)) n (sym o ∙ value)))

  pub numbered-other : r ≡ None → sort.Other ≡ numbered_told kind (drop start s)
  numbered-other o = ap (plain_told kind) (sym (told-other (numeral (drop start s)) (sym o ∙ value)))

as_bits : (o : Option ℕ) → plain_told 6 o ≡ form_told (over o (λ n. Some (bit_vec n)))
as_bits None = refl
as_bits (Some n) = refl

as_option : (o : Option ℕ) → plain_told 7 o ≡ form_told (over o (λ n. Some (option_of n)))
as_option None = refl
as_option (Some n) = refl

as_set : (o : Option ℕ) → plain_told 8 o ≡ form_told (over o (λ n. Some (set_of n)))
as_set None = refl
as_set (Some n) = refl

module _ (s : List ℕ) where
  pub form-entity : begins (bytes "sort=entity ") s ≡ true → sort.Entity ≡ form_told (named_form s)
  unfolding named_form
  form-entity a = rw a

  module _ (a : begins (bytes "sort=entity ") s ≡ false) where
    pub form_record : begins (bytes "sort=record ") s ≡ true → sort.Record ≡ form_told (named_form s)
    unfolding named_form
    form_record b = rw (a, b)

    pub form-unnamed : begins (bytes "sort=record ") s ≡ false → sort.Other ≡ form_told (named_form s)
    unfolding named_form
    form-unnamed b = rw (a, b)

  module _ (r : SortLine) where
    pub form-bits : begins (bytes "sort=bitvec ") s ≡ true → r ≡ numbered_told 6 (drop 12 s) → r ≡ form_told (numbered_form s)
    unfolding numbered_form
    form-bits a e = rw a (e ∙ as_bits (numeral (drop 12 s)))

    module _ (a : begins (bytes "sort=bitvec ") s ≡ false) where
      pub form_option : begins (bytes "sort=option ") s ≡ true → r ≡ numbered_told 7 (drop 12 s) → r ≡ form_told (numbered_form s)
      unfolding numbered_form
      form_option b e = rw (a, b) (e ∙ as_option (numeral (drop 12 s)))

      module _ (b : begins (bytes "sort=option ") s ≡ false) where
        pub form-set : begins (bytes "sort=set ") s ≡ true → r ≡ numbered_told 8 (drop 9 s) → r ≡ form_told (numbered_form s)
        unfolding numbered_form
        form-set c e = rw (a, b, c) (e ∙ as_set (numeral (drop 9 s)))

        pub form-named : begins (bytes "sort=set ") s ≡ false → r ≡ form_told (named_form s) → r ≡ form_told (numbered_form s)
        unfolding numbered_form
        form-named c e = rw (a, b, c) e

  pub form_1 : same_text s (bytes "sort=bool") ≡ true → sort.Plain 1 0 ≡ form_told (form s)
  unfolding form
  form_1 a = rw a

  module _ (a : same_text s (bytes "sort=bool") ≡ false) where
    pub form_2 : same_text s (bytes "sort=string") ≡ true → sort.Plain 2 0 ≡ form_told (form s)
    unfolding form
    form_2 b = rw (a, b)

    module _ (b : same_text s (bytes "sort=string") ≡ false) where
      pub form_3 : same_text s (bytes "sort=decimal") ≡ true → sort.Plain 3 0 ≡ form_told (form s)
      unfolding form
      form_3 c = rw (a, b, c)

      module _ (c : same_text s (bytes "sort=decimal") ≡ false) where
        pub form_4 : same_text s (bytes "sort=datetime") ≡ true → sort.Plain 4 0 ≡ form_told (form s)
        unfolding form
        form_4 d = rw (a, b, c, d)

        module _ (d : same_text s (bytes "sort=datetime") ≡ false) where
          pub form_5 : same_text s (bytes "sort=duration") ≡ true → sort.Plain 5 0 ≡ form_told (form s)
          unfolding form
          form_5 e = rw (a, b, c, d, e)

          pub form-more : (r : SortLine) → same_text s (bytes "sort=duration") ≡ false → r ≡ form_told (numbered_form s) → r ≡ form_told (form s)
          unfolding form
          form-more r e g = rw (a, b, c, d, e) g
