-- Document 01, "Bytes to tokens" and "Errors a hasty port makes": bytes beside the classes' edges, and names beside one symbol.
use Rattle.std.specs.Prelude.{◌≡◌, refl, true, false, [], ◌∷◌, map}
use Rattle.utf8.specs.Octets.{octets, utf8}
use Rattle.lexicon.specs.Class.{blank, opening, closing, comment, quote, hash, digit, other, class_of}
use Rattle.lexicon.specs.Span.{span_by, in_symbol, symbol_span, in_line, line_span}
use Rattle.ground.specs.Lists.{all}
use Rattle.lexicon.specs.Symbol.{one_symbol}

-- vertical tab is no white space, and the neighbours of the digits are none
classed : map class_of (0x09 ∷ 0x0A ∷ 0x0B ∷ 0x0C ∷ 0x0D ∷ 0x20 ∷ 0x22 ∷ 0x23 ∷ 0x28 ∷ 0x29 ∷ 0x2F ∷ 0x30 ∷ 0x39 ∷ 0x3A ∷ 0x3B ∷ 0x7C ∷ 0xFF ∷ [])
    ≡ blank ∷ blank ∷ other ∷ blank ∷ blank ∷ blank ∷ quote ∷ hash ∷ opening ∷ closing ∷ other ∷ digit ∷ digit ∷ other ∷ comment ∷ other ∷ other ∷ []
unfolding class_of
classed = refl

-- `a1`, `|`, one with vertical tab in it, and é
symbols : map one_symbol ((0x61 ∷ 0x31 ∷ []) ∷ (0x7C ∷ []) ∷ (0x61 ∷ 0x0B ∷ 0x61 ∷ []) ∷ (0xC3 ∷ 0xA9 ∷ []) ∷ []) ≡ true ∷ true ∷ true ∷ true ∷ []
unfolding one_symbol all in_symbol class_of utf8 octets
symbols = refl

-- nothing, `1a`, `a b`, `a#`, and a lone FF, which is not UTF-8
no-symbols : map one_symbol ([] ∷ (0x31 ∷ 0x61 ∷ []) ∷ (0x61 ∷ 0x20 ∷ 0x62 ∷ []) ∷ (0x61 ∷ 0x23 ∷ []) ∷ (0xFF ∷ []) ∷ [])
    ≡ false ∷ false ∷ false ∷ false ∷ false ∷ []
unfolding one_symbol all in_symbol class_of utf8 octets
no-symbols = refl

-- `ab(` and `a` with a line feed after it
spans : symbol_span (0x61 ∷ 0x62 ∷ 0x28 ∷ []) ∷ line_span (0x61 ∷ 0x0A ∷ 0x62 ∷ []) ∷ [] ≡ 2 ∷ 1 ∷ []
unfolding span_by in_symbol in_line class_of
spans = refl
