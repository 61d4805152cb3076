-- Document 01, "Sorts and literals", row by row: what the form and the rules ask of one row, and of it and the later ones.
use Rattle.std.specs.Prelude.{Bool, not, ◌&&◌, List, [], ℕ, ◌+◌, ◌-◌, leb, ltb, eqb, length}
use Rattle.ground.specs.Lists.{all}
use Rattle.utf8.specs.Octets.{utf8}
use Rattle.arena.specs.Text.{same_text}
use Rattle.tables.specs.Layout.{Lent, count, word, part, name_at, sort_at, inside, name_inside, sort_formed, whole}
use Rattle.tables.specs.Rules.{row_limit, name_limit, field_limit, name_right, own_name, sort_right, same_sort}
use Rattle.tables.specs.Search.{is_row, first_row, every_row}

abbrev pub right_name : List ℕ → List ℕ → ℕ → Bool
right_name names ws i = name_inside names ws i && name_right (name_at names ws i)

-- of a sort or an enum member
abbrev pub right_own : List ℕ → List ℕ → ℕ → Bool
right_own names ws i = name_inside names ws i && own_name (name_at names ws i)

abbrev pub right_text : List ℕ → ℕ → ℕ → Bool
right_text names first size = inside first size names && (leb (length (part names first size)) name_limit && utf8 (part names first size))

abbrev pub right_fields : List ℕ → ℕ → ℕ → ℕ → Bool
right_fields fields first size i =
    inside first size fields && (leb (length (part fields first size)) field_limit && all (λ row. ltb row i) (part fields first size))

-- the sorts alone
abbrev pub lent_sorts : List ℕ → List ℕ → List ℕ → Lent
lent_sorts sorts fields names = record { sorts = sorts; fields = fields; variables = []; functions = []; members = []; names = names }

abbrev pub right_sort : List ℕ → List ℕ → List ℕ → ℕ → Bool
right_sort sorts fields names i = sort_formed (lent_sorts sorts fields names) i && sort_right i (sort_at (lent_sorts sorts fields names) i)

-- with so many sort rows
abbrev pub right_variable : List ℕ → List ℕ → ℕ → ℕ → Bool
right_variable ws names n i = right_name names ws i && ltb (word ws i 2) n

abbrev pub right_function : List ℕ → List ℕ → ℕ → ℕ → Bool
right_function ws names n i = right_name names ws i && (ltb (word ws i 2) n && ltb (word ws i 3) n)

abbrev pub entity_at : List ℕ → ℕ → Bool
entity_at sorts row = ltb row (count sorts) && eqb (word sorts row 2) 9

abbrev pub right_member : List ℕ → List ℕ → List ℕ → ℕ → Bool
right_member ws sorts names i = right_own names ws i && (entity_at sorts (word ws i 2) && right_text names (word ws i 3) (word ws i 4))

-- no later row is the same
abbrev pub alone : List ℕ → List ℕ → ℕ → Bool
alone names ws i = not (is_row (first_row (λ j. same_text (name_at names ws i) (name_at names ws j)) (i + 1) (count ws - (i + 1))))

abbrev pub alone_sort : List ℕ → List ℕ → ℕ → Bool
alone_sort sorts names i =
    not (is_row (first_row (λ j. same_sort (sort_at (lent_sorts sorts [] names) i) (sort_at (lent_sorts sorts [] names) j)) (i + 1) (count sorts - (i + 1))))

abbrev pub sized : List ℕ → Bool
sized ws = whole ws && leb (count ws) row_limit

abbrev pub table_passes : List ℕ → (ℕ → Bool) → Bool
table_passes ws test = sized ws && every_row test 0 (count ws)
