-- Document 01, "Numbers given back", for callers in other languages: one word, 0 for acceptance; the numbers of an acceptance at the
-- front of a lent slice.
use Rattle.std.specs.Prelude.{◌≡◌, List, ℕ}
use Rattle.refusals.specs.declared.Refusal.{Refusal}
use Rattle.lent.specs.Left.{onto}
use Rattle.told.specs.Code.{code_of}

-- the numbers that a call yields, or why it yields none
pub data Yield : Type 0 where
  yields : List ℕ → Yield
  refuses : Refusal → Yield

abbrev pub word_of : Yield → ℕ
word_of (yields ns) = 0
word_of (refuses why) = code_of why

-- what is lent for numbers is written only where there are some
abbrev pub told_by : Yield → List ℕ → List ℕ
told_by (yields ns) told = onto ns told
told_by (refuses why) told = told

-- a word and the slice for numbers at exit are a yield's
pub record Tells (yield : Yield) (told : List ℕ) (r : ℕ) (exit : List ℕ) : Type 0 where
  pub word : r ≡ word_of yield
  pub tells : exit ≡ told_by yield told
