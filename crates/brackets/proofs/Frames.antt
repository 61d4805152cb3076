-- The lists that are open, the innermost first: the nodes, the text, the words and the depth that they stand for so far, and the
-- stack of their first nodes. An open list's end is not written yet.
-- Assumes nothing.
use mathlib.Core.List.{List, [], ◌∷◌, ◌++◌}
use Prim.Native.Nat.{ℕ, suc, ◌+◌, max}
use lib.ListN.{length}
use Rattle.arena.specs.Tree.{Trees, count, nodes_of, texts, depth_of}
use Rattle.arena.specs.Layout.{app_words, words_of}
use Rattle.brackets.specs.declared.scan.Phase.TheVariants.{Going}
use Rattle.brackets.specs.declared.scan.Scan.{Scan}

abbrev pub laid_n : List Trees → ℕ
laid_n [] = 0
laid_n (ks ∷ st) = laid_n st + suc (nodes_of ks)

abbrev pub laid_t : List Trees → List ℕ
laid_t [] = []
laid_t (ks ∷ st) = laid_t st ++ texts ks

abbrev pub laid_d : List Trees → ℕ
laid_d [] = 0
laid_d (ks ∷ st) = max (laid_d st) (suc (length st) + depth_of ks)

abbrev pub laid_w : List Trees → List ℕ
laid_w [] = []
laid_w (ks ∷ st) = laid_w st ++ (app_words (count ks) 0 ++ words_of ks (laid_n st + 1) (length (laid_t st)))

abbrev pub laid_s : List Trees → List ℕ
laid_s [] = []
laid_s (ks ∷ st) = laid_s st ++ (laid_n st ∷ [])

abbrev pub measure : List Trees → Scan
measure st = record { phase = Going; depth = length st; nodes = laid_n st; text = length (laid_t st); most = laid_d st }
