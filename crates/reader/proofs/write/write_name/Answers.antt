use mathlib.Core.Path.{ap}
use Prim.Native.Nat.{ℕ}
use Rattle.arena.specs.Layout.{symbol_words}
use Rattle.brackets.specs.Token.{name}
use Rattle.reader.proofs.Atoms.{name-right, tail-starts, tail-room, text-fine, text-left}
use Rattle.reader.proofs.write.write_name.Goals as goal

pub slice_bounds-copy-count : goal.slice_bounds-copy-count
slice_bounds-copy-count c = let a = c.args in tail-starts a.scan _ (name a.name.now) a.nodes.now a.text.now a.stack.now (name-right a.scan a.name.now a.nodes.now a.text.now a.stack.now c.requires) c.requires

pub slice_bounds-copy-start : goal.slice_bounds-copy-start
slice_bounds-copy-start c = let a = c.args in tail-starts a.scan _ (name a.name.now) a.nodes.now a.text.now a.stack.now (name-right a.scan a.name.now a.nodes.now a.text.now a.stack.now c.requires) c.requires

pub copy-size-requires : goal.copy-size-requires
copy-size-requires c = let a = c.args in tail-room a.scan _ (name a.name.now) a.nodes.now a.text.now a.stack.now (name-right a.scan a.name.now a.nodes.now a.text.now a.stack.now c.requires) c.requires

pub write_node-requires : goal.write_node-requires
write_node-requires c = let a = c.args in text-fine a.scan _ (name a.name.now) a.nodes.now a.text.now a.stack.now (name-right a.scan a.name.now a.nodes.now a.text.now a.stack.now c.requires) c.requires _ _ _ c.copy-size.ensures (ap (λ (n : ℕ). symbol_words n a.scan.text) c.copy-size.ensures.long)

pub returns : goal.returns
returns c = let a = c.args in text-left a.scan _ (name a.name.now) a.nodes.now a.text.now a.stack.now (name-right a.scan a.name.now a.nodes.now a.text.now a.stack.now c.requires) c.requires _ _ _ c.copy-size.ensures (ap (λ (n : ℕ). symbol_words n a.scan.text) c.copy-size.ensures.long) _ _ c.write_node.ensures
