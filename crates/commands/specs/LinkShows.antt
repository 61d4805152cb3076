-- Document 01, "The model walk": what a step of a body found in the arena says of the tree that stands there.
use Rattle.std.specs.Prelude.{◌≡◌, List, ℕ, ◌<◌, None, Option, Some}
use Rattle.ground.specs.Bytes.{bytes}
use Rattle.arena.specs.Tree.{Tree, symbol, app, nil, cons}
use Rattle.shapes.specs.Shows.{Standing}
use Rattle.commands.specs.Command.{arm, default, chain}
use Rattle.commands.specs.declared.chain.Link.{Link}

-- (ite b c d)
abbrev pub ite : Tree → Tree → Tree → Tree
ite b c d = app (cons (symbol (bytes "ite")) (cons b (cons c (cons d nil))))

-- what follows an arm stands behind it
abbrev pub LinkShows : List ℕ → List ℕ → ℕ → Option Link → Tree → Type 0
LinkShows ws ts i (Some it) t =
    (b : Tree) × (c : Tree) × (d : Tree) × (t ≡ ite b c d) × (chain t ≡ arm b c (chain d)) × Standing b ws ts it.test × Standing c ws ts it.value × Standing d ws ts it.rest × (i < it.rest)
LinkShows ws ts i None t = chain t ≡ default t

abbrev pub LinkAt : List ℕ → List ℕ → ℕ → Option Link → Type 0
LinkAt ws ts i r = (t : Tree) → Standing t ws ts i → LinkShows ws ts i r t
