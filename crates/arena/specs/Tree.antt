-- Document 01, "The arena": the trees that a reading gives, their needs of room, and what document 01 allows of them.
use Rattle.std.specs.Prelude.{◌≡◌, true, List, [], ◌++◌, ℕ, suc, max, ◌+◌, ◌%◌, ◌^◌, ◌≤◌, ◌<◌}
use Rattle.words.specs.Extension.{extended}
use Rattle.utf8.specs.Octets.{utf8}

-- a bit vector has its width and its number, 128 bits sign-extended; a string and a symbol have their text
mutual
  pub data Tree : Type 0 where
    bit_vec : ℕ → ℕ → Tree
    numeral : ℕ → Tree
    string : List ℕ → Tree
    symbol : List ℕ → Tree
    app : Trees → Tree

  pub data Trees : Type 0 where
    nil : Trees
    cons : Tree → Trees → Trees

abbrev pub count : Trees → ℕ
count nil = 0
count (cons t ts) = suc (count ts)

-- how many nodes a tree has
abbrev mutual
  pub nodes : Tree → ℕ
  nodes (bit_vec w n) = 1
  nodes (numeral n) = 1
  nodes (string s) = 1
  nodes (symbol s) = 1
  nodes (app ts) = suc (nodes_of ts)

  pub nodes_of : Trees → ℕ
  nodes_of nil = 0
  nodes_of (cons t ts) = nodes t + nodes_of ts

-- its text, in the order of the tokens, without gaps
abbrev mutual
  pub text : Tree → List ℕ
  text (bit_vec w n) = []
  text (numeral n) = []
  text (string s) = s
  text (symbol s) = s
  text (app ts) = texts ts

  pub texts : Trees → List ℕ
  texts nil = []
  texts (cons t ts) = text t ++ texts ts

-- the greatest count of open brackets
abbrev mutual
  pub depth : Tree → ℕ
  depth (bit_vec w n) = 0
  depth (numeral n) = 0
  depth (string s) = 0
  depth (symbol s) = 0
  depth (app ts) = suc (depth_of ts)

  pub depth_of : Trees → ℕ
  depth_of nil = 0
  depth_of (cons t ts) = max (depth t) (depth_of ts)

abbrev pub most_nodes : ℕ
most_nodes = 16777216

abbrev pub most_text : ℕ
most_text = 33554432

abbrev pub most_width : ℕ
most_width = 67108864

-- a number of 128 bits that is the sign extension of its low bits
pub record BitVector (width number : ℕ) : Type 0 where
  pub least : 1 ≤ width
  pub most : width ≤ most_width
  pub fits : number < 2 ^ 128
  pub sign : number ≡ extended width (number % 2 ^ width)

-- what document 01 asks of each atom: widths, sign extension, numbers of 128 bits, texts that are UTF-8
abbrev mutual
  pub Sound : Tree → Type 0
  Sound (bit_vec w n) = BitVector w n
  Sound (numeral n) = n < 2 ^ 128
  Sound (string s) = utf8 s ≡ true
  Sound (symbol s) = utf8 s ≡ true
  Sound (app ts) = SoundAll ts

  pub SoundAll : Trees → Type 0
  SoundAll nil = Unit {0}
  SoundAll (cons t ts) = Sound t × SoundAll ts
