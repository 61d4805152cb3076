use Rattle.std.proofs.Common.{inl, inr}
use Rattle.tokens.specs.declared.lexeme.Kind.TheVariants as K
use Rattle.reader.proofs.Pieces.{by_kind, by_bits, by_number, blank-gives, opening-gives, closing-gives, bits_gives, numeral-gives, string-gives, name-gives}
use Rattle.reader.proofs.write.write_piece.Goals as goal

pub write_open-requires : goal.write_open-requires
write_open-requires c = let a = c.args in by_kind a.scan a.kind a.content.now a.nodes.now a.text.now a.stack.now c.requires.1 K.Opening c.in-Opening.is

pub write_close-requires : goal.write_close-requires
write_close-requires c = let a = c.args in by_kind a.scan a.kind a.content.now a.nodes.now a.text.now a.stack.now c.requires.1 K.Closing c.in-Closing.is

pub write_bits-requires : goal.write_bits-requires
write_bits-requires c = let a = c.args in (c.requires.0, by_bits a.scan a.kind a.content.now a.nodes.now a.text.now a.stack.now c.requires.1 _ c.in-Bits.is)

pub write_numeral-requires : goal.write_numeral-requires
write_numeral-requires c = let a = c.args in by_number a.scan a.kind a.content.now a.nodes.now a.text.now a.stack.now c.requires.1 c.in-Number.is

pub write_string-requires : goal.write_string-requires
write_string-requires c = let a = c.args in by_kind a.scan a.kind a.content.now a.nodes.now a.text.now a.stack.now c.requires.1 K.Quoted c.in-Quoted.is

pub write_name-requires : goal.write_name-requires
write_name-requires c = let a = c.args in by_kind a.scan a.kind a.content.now a.nodes.now a.text.now a.stack.now c.requires.1 K.Name c.in-Name.is

pub returns-in-Blank : goal.returns-in-Blank
returns-in-Blank c =
    let a = c.args in
    elim c.in-Blank.is [
      | inl q ↦ blank-gives a.scan a.kind a.content.now a.nodes.now a.text.now a.stack.now c.requires.1 q
      | inr w ↦ elim w [
        | inl q ↦ absurd (by_kind a.scan a.kind a.content.now a.nodes.now a.text.now a.stack.now c.requires.1 K.Stray q)
        | inr q ↦ absurd (by_kind a.scan a.kind a.content.now a.nodes.now a.text.now a.stack.now c.requires.1 K.Unclosed q)
      ]
    ]

pub returns-in-Opening : goal.returns-in-Opening
returns-in-Opening c = let a = c.args in opening-gives a.scan a.kind a.content.now a.nodes.now a.text.now a.stack.now c.requires.1 _ _ _ c.in-Opening.is c.write_open.ensures

pub returns-in-Closing : goal.returns-in-Closing
returns-in-Closing c = let a = c.args in closing-gives a.scan a.kind a.content.now a.nodes.now a.text.now a.stack.now c.requires.1 _ _ c.in-Closing.is c.write_close.ensures

pub returns-in-Bits : goal.returns-in-Bits
returns-in-Bits c = let a = c.args in bits_gives a.scan a.kind a.content.now a.nodes.now a.text.now a.stack.now c.requires.1 _ _ _ c.in-Bits.is c.write_bits.ensures

pub returns-in-Number : goal.returns-in-Number
returns-in-Number c = let a = c.args in numeral-gives a.scan a.kind a.content.now a.nodes.now a.text.now a.stack.now c.requires.1 _ _ c.in-Number.is c.write_numeral.ensures

pub returns-in-Quoted : goal.returns-in-Quoted
returns-in-Quoted c = let a = c.args in string-gives a.scan a.kind a.content.now a.nodes.now a.text.now a.stack.now c.requires.1 _ _ _ c.in-Quoted.is c.write_string.ensures

pub returns-in-Name : goal.returns-in-Name
returns-in-Name c = let a = c.args in name-gives a.scan a.kind a.content.now a.nodes.now a.text.now a.stack.now c.requires.1 _ _ _ c.in-Name.is c.write_name.ensures
