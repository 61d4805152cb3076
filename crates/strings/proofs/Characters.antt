-- The character at a place, by the bytes that the code looks at.
-- Assumes nothing.
use Rattle.std.proofs.Common.{None, Option, Some}
use mathlib.Core.Path.{◌≡◌, sym, ap, ◌∙◌}
use mathlib.Core.Bool.{cond}
use mathlib.Core.List.{List, ◌∷◌}
use Prim.Native.Nat.{ℕ, ◌+◌, ◌≤◌, ◌<◌}
use lib.ListN.{length, get_or, drop, drop_of_length-le}
use borrow.Author.Tests.{eq-eqb, ne_eqb}
use Rattle.ground.proofs.Lists.{at_place}
use Rattle.strings.specs.declared.character.Character.{Character}
use Rattle.strings.specs.Escape.{starts_by, escape}
use Rattle.strings.specs.Points.{one, escaped, two_quotes, lone_quote, character_at}
use Rattle.strings.specs.declared.escape.Escape.{Escape}

module _ (s : List ℕ) (i : ℕ) (less : i < length s) where
  character-here : {x : Character} → x ≡ character_at (get_or s i 0 ∷ drop (i + 1) s) → x ≡ character_at (drop i s)
  character-here q = q ∙ ap character_at (sym (at_place s i less))

  module _ (b : get_or s i 0 ≡ 0x5C) where
    character-escaped : escaped (escape (drop (i + 1) s)) ≡ character_at (drop i s)
    unfolding character_at
    character-escaped = character-here (sym (rw (eq-eqb (get_or s i 0) 0x5C b)))

    module _ (e : Option Escape) (is : e ≡ escape (drop (i + 1) s)) where
      pub character-plain : e ≡ None → one 0x5C ≡ character_at (drop i s)
      character-plain q = ap escaped (sym q ∙ is) ∙ character-escaped

      pub character_point : (v n : ℕ) → e ≡ Some (record { value = v; bytes = n }) → record { point = v; more = n } ≡ character_at (drop i s)
      character_point v n q = ap escaped (sym q ∙ is) ∙ character-escaped

  module _ (b : get_or s i 0 ≡ 0x5C → ⊥) where
    pub character-raw : (get_or s i 0 ≡ 0x22 → ⊥) → one (get_or s i 0) ≡ character_at (drop i s)
    unfolding character_at
    character-raw h = character-here (rw (ne_eqb (get_or s i 0) 0x5C b) (rw (ne_eqb (get_or s i 0) 0x22 h)))

    module _ (q : get_or s i 0 ≡ 0x22) where
      character-quote : cond (starts_by 0x22 (drop (i + 1) s)) two_quotes lone_quote ≡ character_at (drop i s)
      unfolding character_at
      character-quote = character-here (sym (rw (ne_eqb (get_or s i 0) 0x5C b) (rw (eq-eqb (get_or s i 0) 0x22 q))))

      pub character-last : length s ≤ i + 1 → lone_quote ≡ character_at (drop i s)
      character-last h = sym (rw (drop_of_length-le s h)) ∙ character-quote

      module _ (more : i + 1 < length s) where
        pub character-two : get_or s (i + 1) 0 ≡ 0x22 → two_quotes ≡ character_at (drop i s)
        character-two h = sym (rw (at_place s (i + 1) more) (rw (eq-eqb (get_or s (i + 1) 0) 0x22 h))) ∙ character-quote

        pub character_lone : (get_or s (i + 1) 0 ≡ 0x22 → ⊥) → lone_quote ≡ character_at (drop i s)
        character_lone h = sym (rw (at_place s (i + 1) more) (rw (ne_eqb (get_or s (i + 1) 0) 0x22 h))) ∙ character-quote
