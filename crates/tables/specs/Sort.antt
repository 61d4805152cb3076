-- Document 01, "Sorts and literals": what the tables hold.
use Rattle.std.specs.Prelude.{List, ℕ}

-- the sorts that hold a signed 64-bit number
pub data Ext : Type 0 where
  decimal datetime duration : Ext

-- a sort row; a number in it is another row, or a bit vector's width
pub data Sort : Type 0 where
  bool : Sort
  string : Sort
  ext : Ext → Sort
  bit_vec : ℕ → Sort
  option_of : ℕ → Sort
  set_of : ℕ → Sort
  entity_of : List ℕ → Sort
  record_of : List ℕ → List ℕ → Sort

-- a name and the row of its sort
pub record Variable : Type 0 where
  pub name : List ℕ
  pub sort : ℕ

pub record Function : Type 0 where
  pub name : List ℕ
  pub argument : ℕ
  pub result : ℕ

-- an entity's row, and the text that tells which one
pub record Member : Type 0 where
  pub name : List ℕ
  pub entity : ℕ
  pub text : List ℕ

pub record Tables : Type 0 where
  pub sorts : List Sort
  pub variables : List Variable
  pub functions : List Function
  pub members : List Member
