use Rattle.tokens.proofs.Sizes.{size-bits, size_number, size-quoted, size-name}
use Rattle.tokens.proofs.atom.atom_size.Goals as goal

pub returns-in-Bits : goal.returns-in-Bits
returns-in-Bits c = size-bits c.args.content.now _ c.number_size.ensures c.in-Bits.is

pub returns-in-Number : goal.returns-in-Number
returns-in-Number c = size_number c.args.content.now c.number_size-in-Number.ensures c.in-Number.is

pub returns-in-Quoted : goal.returns-in-Quoted
returns-in-Quoted c = size-quoted c.args.content.now c.string_size.ensures c.in-Quoted.is

pub returns-in-Name : goal.returns-in-Name
returns-in-Name c = size-name c.args.content.now c.name_size.ensures c.in-Name.is
