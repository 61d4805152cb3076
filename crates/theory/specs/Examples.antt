-- Unicode Strings, string literals: the six forms, and what is near them.
use Rattle.std.specs.Prelude.{◌≡◌, refl, true, false, List, [], ◌∷◌, map, ℕ, length}
use Rattle.std.proofs.Common.{sym, ap, ◌∙◌, arith}
use Prim.Native.String.{String}
use Rattle.words.specs.Radix.{worth}
use Rattle.words.specs.Run.{from}
use Rattle.strings.specs.Escape.{hex_run, braced, braced_escape, escape}
use Rattle.strings.specs.Points.{character_at, points_after, points}
use Rattle.ground.specs.Bytes.{bytes}
use Rattle.theory.specs.Literal.{Literal, empty, byte, unquoted}
use Rattle.theory.specs.Theory.{is_hex, hex_value, number_by, spelled_by, characters_by, characters}
use Rattle.theory.specs.Agreement.{nowhere, no_six_digits, none_within, no_surrogate}

abbrev read : String → List ℕ
read s = characters (unquoted (bytes s))

the_forms : map read ("\\u0041" ∷ "\\u{a}" ∷ "\\u{fF}" ∷ "\\u{0fF}" ∷ "a\\u{0041}b" ∷ "\\u{2FFFF}" ∷ "\\uD800" ∷ "say \"\"A\"\"" ∷ [])
    ≡ (0x41 ∷ []) ∷ (0xA ∷ []) ∷ (0xFF ∷ []) ∷ (0xFF ∷ []) ∷ bytes "aAb" ∷ (0x2FFFF ∷ []) ∷ (0xD800 ∷ []) ∷ bytes "say \"A\"" ∷ []
unfolding characters unquoted characters_by spelled_by number_by is_hex hex_value
the_forms = refl

-- each stands as it is written
near_them : map read ("\\u{30000}" ∷ "\\u{}" ∷ "\\u{000041}" ∷ "\\u004" ∷ "\\u{41" ∷ "\\U0041" ∷ "\\x41" ∷ "\\\\" ∷ [])
    ≡ map bytes ("\\u{30000}" ∷ "\\u{}" ∷ "\\u{000041}" ∷ "\\u004" ∷ "\\u{41" ∷ "\\U0041" ∷ "\\x41" ∷ "\\\\" ∷ [])
unfolding characters unquoted characters_by spelled_by number_by is_hex hex_value
near_them = refl

-- seven digits, and six past 2FFFF, are no departure
departures : map (λ (s : String). no_six_digits (bytes s)) ("\\u{000041}" ∷ "\\\\u{02FFFF}" ∷ "\\u{0000041}" ∷ "\\u{030000}" ∷ "\\u{100000}" ∷ [])
    ≡ false ∷ false ∷ true ∷ true ∷ true ∷ []
unfolding no_six_digits nowhere unquoted number_by is_hex hex_value
departures = refl

surrogates : map (λ (s : String). no_surrogate (bytes s)) ("\\ud7ff" ∷ "\\ud800" ∷ "\\u{dfff}" ∷ "\\ue000" ∷ "\\u{000d800}" ∷ []) ≡ true ∷ false ∷ false ∷ true ∷ true ∷ []
unfolding no_surrogate none_within characters unquoted characters_by spelled_by number_by is_hex hex_value
surrogates = refl

-- `no_six_digits` is no idle premise: this literal is one character for `strings`, and ten for the theory
abbrev six : List ℕ
six = bytes "\\u{000041}"

six-literal : Literal six
six-literal =
    byte refl refl (byte refl refl (byte refl refl (byte refl refl (byte refl refl
    (byte refl refl (byte refl refl (byte refl refl (byte refl refl (byte refl refl empty)))))))))

one-character : points six ≡ 0x41 ∷ []
unfolding points_after character_at escape braced_escape braced hex_run worth from
one-character = refl

ten_characters : characters (unquoted six) ≡ six
unfolding characters unquoted characters_by spelled_by number_by is_hex hex_value
ten_characters = refl

pub six_differ : Literal six × (points six ≡ characters (unquoted six) → ⊥)
six_differ = (six-literal, λ e. let l : ◌≡◌ {A = ℕ} 1 10 = ap length (sym one-character ∙ e ∙ ten_characters) in omega arith)
