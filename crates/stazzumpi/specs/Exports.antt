-- Document 01, "Numbers given back", for callers in other languages: what a call tells, and every lent buffer.
use Rattle.std.specs.Prelude.{◌≡◌, cond, List, ℕ, ◌≤◌, ◌<◌, leb, length}
use Rattle.refusals.specs.declared.Refusal.TheVariants.{OutRoom}
use Rattle.told.specs.Tells.{Yield, refuses, Tells}

-- what a call leaves: its yield, and what each lent buffer then holds, in the order of the arguments
pub record Left : Type 0 where
  pub yield : Yield
  pub lent : List (List ℕ)

-- 26 before anything else, where the slice for numbers is too short: with the need, and the buffers as they were
unfoldable pub exported : ℕ → List ℕ → List (List ℕ) → Left → Left
exported need told buffers left =
    cond (leb need (length told)) left (record { yield = refuses (OutRoom need); lent = buffers })

-- the word, the slice for numbers and the buffers at exit are those that are left
pub record Exports (told : List ℕ) (left : Left) (r : ℕ) (exit : List ℕ) (buffers : List (List ℕ)) : Type 0 where
  pub tells : Tells left.yield told r exit
  pub lent : buffers ≡ left.lent

-- a call that promises something of its answer and of what its buffers then hold: an answer of which that is so, told
pub record Answered {A B : Type 0} (yield : A → Yield) (promise : A → B → Type 0) (told : List ℕ) (r : ℕ) (exit : List ℕ) (buffers : B) : Type 0 where
  pub answer : A
  pub promised : promise answer buffers
  pub tells : Tells (yield answer) told r exit

-- where there is room for its numbers; else 26, as above
pub record Promises {A B : Type 0} (need : ℕ) (yield : A → Yield) (promise : A → B → Type 0) (told : List ℕ) (entry : B) (r : ℕ) (exit : List ℕ) (buffers : B) : Type 0 where
  pub short : length told < need → Tells (refuses (OutRoom need)) told r exit × (buffers ≡ entry)
  pub room : need ≤ length told → Answered yield promise told r exit buffers
