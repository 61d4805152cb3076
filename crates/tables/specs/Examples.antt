-- Document 01, "Sorts and literals" and "The listing": tables and names beside the rules.
use Rattle.std.specs.Prelude.{◌≡◌, refl, true, false, List, [], ◌∷◌, ◌++◌, map, ℕ, None, Some}
use Rattle.ground.specs.Bytes.{bytes}
use Rattle.ground.specs.Lists.{any, all, distinct, find, at, tabulate}
use Rattle.utf8.specs.Octets.{octets, utf8}
use Rattle.lexicon.specs.Class.{class_of}
use Rattle.lexicon.specs.Span.{in_symbol}
use Rattle.lexicon.specs.Symbol.{one_symbol}
use Rattle.arena.specs.Text.{same_text}
use Rattle.tables.specs.Sort.{bool, string, bit_vec, option_of, set_of, entity_of, record_of, Tables}
use Rattle.tables.specs.Layout.{Lent, tables_of, formed}
use Rattle.tables.specs.Kept.{kept_words, kept}
use Rattle.tables.specs.Rules.{name_right, own_name, sorts_right, same_sort, lawful}
use Rattle.tables.specs.Find.{sort_row, named_sort, variable_row}
use Rattle.tables.specs.Check.{passes}

kept-words : map kept (bytes "_" ∷ bytes "set.union" ∷ bytes "V6" ∷ bytes "V" ∷ bytes "trues" ∷ []) ≡ true ∷ true ∷ true ∷ false ∷ false ∷ []
unfolding kept kept_words any same_text
kept-words = refl

-- with a bracket, a number, nothing, and one symbol
names : map name_right (bytes "a(" ∷ bytes "1a" ∷ [] ∷ bytes "a1" ∷ []) ≡ false ∷ false ∷ false ∷ true ∷ []
unfolding one_symbol all in_symbol class_of utf8 octets
names = refl

-- `_` is one symbol, but no sort's name
own-names : map own_name (bytes "_" ∷ bytes "__" ∷ []) ≡ false ∷ true ∷ []
unfolding one_symbol all in_symbol class_of utf8 octets kept kept_words any same_text
own-names = refl

-- widths 0, 128 and 129; an option of itself and of a lower row; a record with itself as a field
sort-rows : map (sorts_right 0)
    ((bit_vec 0 ∷ [])
    ∷ (bit_vec 128 ∷ [])
    ∷ (bit_vec 129 ∷ [])
    ∷ (option_of 0 ∷ [])
    ∷ (bool ∷ option_of 0 ∷ [])
    ∷ (bool ∷ record_of (bytes "R") (0 ∷ 1 ∷ []) ∷ [])
    ∷ [])
    ≡ false ∷ true ∷ false ∷ false ∷ true ∷ false ∷ []
unfolding sorts_right all one_symbol in_symbol class_of utf8 octets kept kept_words any same_text
sort-rows = refl

-- widths tell bit vectors apart; an entity and a record share names
apart : map (distinct same_sort)
    ((bool ∷ string ∷ [])
    ∷ (bool ∷ bool ∷ [])
    ∷ (bit_vec 8 ∷ bit_vec 9 ∷ [])
    ∷ (option_of 0 ∷ set_of 0 ∷ [])
    ∷ (entity_of (bytes "a") ∷ record_of (bytes "a") [] ∷ [])
    ∷ [])
    ≡ true ∷ false ∷ true ∷ true ∷ false ∷ []
unfolding distinct any same_text
apart = refl

-- two variables of these names, which may be a function's too
abbrev two : List ℕ → List ℕ → Tables
two first second =
    record {
      sorts = bool ∷ [];
      variables = record { name = first; sort = 0 } ∷ record { name = second; sort = 0 } ∷ [];
      functions = record { name = first; argument = 0; result = 0 } ∷ [];
      members = [];
    }

repeated : lawful (two (bytes "x") (bytes "y")) ∷ lawful (two (bytes "x") (bytes "x")) ∷ [] ≡ true ∷ false ∷ []
unfolding lawful all distinct any at sorts_right same_text one_symbol in_symbol class_of utf8 octets
repeated = refl

-- bool, bitvec 8, option 1, entity E, record R 0 3; x of sort 2; f from 1 to 0; m of entity 3
unfoldable sample : Lent
sample =
    record {
      sorts =
          (0 ∷ 0 ∷ 1 ∷ 0 ∷ 0 ∷ [])
          ++ (0 ∷ 0 ∷ 6 ∷ 8 ∷ 0 ∷ [])
          ++ (0 ∷ 0 ∷ 7 ∷ 1 ∷ 0 ∷ [])
          ++ (2 ∷ 1 ∷ 9 ∷ 0 ∷ 0 ∷ [])
          ++ (3 ∷ 1 ∷ 10 ∷ 0 ∷ 2 ∷ []);
      fields = 0 ∷ 3 ∷ [];
      variables = 0 ∷ 1 ∷ 2 ∷ 0 ∷ 0 ∷ [];
      functions = 1 ∷ 1 ∷ 1 ∷ 0 ∷ 0 ∷ [];
      members = 4 ∷ 1 ∷ 3 ∷ 4 ∷ 1 ∷ [];
      names = bytes "xfERm";
    }

lawful-sample : passes sample ≡ true
unfolding sample passes formed lawful tables_of tabulate all distinct any at sorts_right same_text one_symbol in_symbol class_of utf8 octets kept kept_words
lawful-sample = refl

found_rows : sort_row (tables_of sample) (option_of 1) ∷ sort_row (tables_of sample) (option_of 0) ∷ named_sort (tables_of sample) (bytes "R") ∷ variable_row (tables_of sample) (bytes "x") ∷ []
    ≡ Some 2 ∷ None ∷ Some 4 ∷ Some 0 ∷ []
unfolding sample tables_of tabulate sort_row named_sort variable_row find same_text
found_rows = refl
