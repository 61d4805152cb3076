use mathlib.Core.Path.{ap}
use Prim.Native.Nat.{ℕ}
use Rattle.arena.specs.Layout.{string_words}
use Rattle.brackets.specs.Token.{quoted}
use Rattle.strings.specs.Text.{text}
use Rattle.reader.proofs.Atoms.{string-right, tail-starts, tail-room, text-fine, text-left}
use Rattle.reader.proofs.write.write_string.Goals as goal

pub slice_bounds-write_text-count : goal.slice_bounds-write_text-count
slice_bounds-write_text-count c = let a = c.args in tail-starts a.scan _ (quoted (text a.inside.now)) a.nodes.now a.text.now a.stack.now (string-right a.scan a.inside.now a.nodes.now a.text.now a.stack.now c.requires) c.requires

pub slice_bounds-write_text-start : goal.slice_bounds-write_text-start
slice_bounds-write_text-start c = let a = c.args in tail-starts a.scan _ (quoted (text a.inside.now)) a.nodes.now a.text.now a.stack.now (string-right a.scan a.inside.now a.nodes.now a.text.now a.stack.now c.requires) c.requires

pub write_text-size-requires : goal.write_text-size-requires
write_text-size-requires c = let a = c.args in tail-room a.scan _ (quoted (text a.inside.now)) a.nodes.now a.text.now a.stack.now (string-right a.scan a.inside.now a.nodes.now a.text.now a.stack.now c.requires) c.requires

pub write_node-requires : goal.write_node-requires
write_node-requires c = let a = c.args in text-fine a.scan _ (quoted (text a.inside.now)) a.nodes.now a.text.now a.stack.now (string-right a.scan a.inside.now a.nodes.now a.text.now a.stack.now c.requires) c.requires _ _ _ c.write_text-size.ensures (ap (λ (n : ℕ). string_words n a.scan.text) c.write_text-size.ensures.long)

pub returns : goal.returns
returns c = let a = c.args in text-left a.scan _ (quoted (text a.inside.now)) a.nodes.now a.text.now a.stack.now (string-right a.scan a.inside.now a.nodes.now a.text.now a.stack.now c.requires) c.requires _ _ _ c.write_text-size.ensures (ap (λ (n : ℕ). string_words n a.scan.text) c.write_text-size.ensures.long) _ _ c.write_node.ensures
