-- How long the lines of a row are.
-- Assumes nothing.
use Rattle.std.proofs.Common.{Some}
use mathlib.Core.Path.{◌≡◌, refl, sym, ◌∙◌}
use mathlib.Core.Bool.{true, ◌&&◌}
use mathlib.Core.List.{List, ◌++◌}
use Prim.Native.Nat.{ℕ, min, ◌+◌, ◌-◌, ◌≤◌, ◌<◌}
use native.Mathlib.Omega.{arith}
use lib.Dec.{leb}
use lib.ListN.{length, length-append}
use borrow.Author.Tests.{leb-true}
use Rattle.ground.proofs.Tests.{both_left}
use Rattle.lexicon.specs.Symbol.{one_symbol}
use Rattle.decimals.specs.Decimal.{digit_count, decimal}
use Rattle.decimals.proofs.Counts.{count_most}
use Rattle.decimals.proofs.Texts.{length-decimal}
use Rattle.tables.specs.declared.row.Range.{Range}
use Rattle.tables.specs.Layout.{Lent, count, word, name_at, variable_at, function_at, tables_of}
use Rattle.tables.specs.Range.{Clamps}
use Rattle.tables.specs.Rules.{name_limit, name_right, present, lawful}
use Rattle.tables.proofs.Lawful.{lawful-parts, variable-right, function-right}
use Rattle.tables.proofs.Ranges.{length_clamped}
use Rattle.tables.proofs.Rows.{variable-row, function-row}
use Rattle.values.specs.Text.{text}
use Rattle.values.specs.Value.{Value}
use Rattle.literals.specs.Answer.{capped}
use Rattle.model.specs.Model.{Table}
use Rattle.model.specs.Listing.{line, arm_lines, variable_lines, function_lines}
use Rattle.model.proofs.Lengths.{length-line}
use Rattle.definitions.specs.Measure.{value_size, table_size}
use Rattle.listing.specs.Line.{header}
use Rattle.listing.specs.Tally.{variable_size, function_size}

pub length-header : (v f : ℕ) → length (header v f) ≡ digit_count v + digit_count f + 12
length-header v f =
    omega (arith, length-append (line "vars" (decimal v)) (line "funs" (decimal f)), length-line "vars" (decimal v), length-line "funs" (decimal f), length-decimal v, length-decimal f)

pub header-small : (v f : ℕ) → length (header v f) ≤ 92
header-small v f = omega (arith, length-header v f, count_most v, count_most f)

pub header-sum : (v f one two : ℕ) → one ≡ digit_count v → two ≡ digit_count f → one + two ≤ 80
header-sum v f one two p q = omega (arith, count_most v, count_most f)

pub header-need : (v f one two : ℕ) → one ≡ digit_count v → two ≡ digit_count f → one + two + 12 ≡ length (header v f)
header-need v f one two p q = omega (arith, length-header v f)

module _ (l : Lent) (row : ℕ) where
  pub length-variable : (v : Value) → length (variable_lines (variable_at l row) (Some v)) ≡ variable_size l.names l.variables row (value_size v)
  length-variable v =
      let n = name_at l.names l.variables row in
      let d = decimal (word l.variables row 2) in
      omega (arith, length-append (line "var" n) (line "sort" d ++ line "value" (text v)), length-append (line "sort" d) (line "value" (text v)), length-line "var" n, length-line "sort" d, length-line "value" (text v), length-decimal (word l.variables row 2))

  pub length-function : (t : Table) → length (function_lines (function_at l row) (Some t)) ≡ function_size l.names l.functions row (table_size t)
  length-function t =
      let n = name_at l.names l.functions row in
      let a = decimal (word l.functions row 2) in
      let r = decimal (word l.functions row 3) in
      let rest = arm_lines t.arms ++ line "else" (text t.«else») in
      omega (arith, length-append (line "fun" n) (line "arg" a ++ (line "out" r ++ rest)), length-append (line "arg" a) (line "out" r ++ rest), length-append (line "out" r) rest, length-line "fun" n, length-line "arg" a, length-line "out" r, length-decimal (word l.functions row 2), length-decimal (word l.functions row 3))

  module _ (rules : lawful (tables_of l) ≡ true) where
    variable-name : row < count l.variables → length (name_at l.names l.variables row) ≤ name_limit
    variable-name h =
        let v = variable_at l row in
        let e = variable-right (tables_of l) (lawful-parts (tables_of l) rules) row v (variable-row l row h) in
        let f = both_left (name_right v.name) (present (tables_of l) v.sort) e in
        leb-true (length v.name) name_limit (both_left (leb (length v.name) name_limit) (one_symbol v.name) f)

    function-name : row < count l.functions → length (name_at l.names l.functions row) ≤ name_limit
    function-name h =
        let v = function_at l row in
        let e = function-right (tables_of l) (lawful-parts (tables_of l) rules) row v (function-row l row h) in
        let f = both_left (name_right v.name) (present (tables_of l) v.argument) (both_left (name_right v.name && present (tables_of l) v.argument) (present (tables_of l) v.result) e) in
        leb-true (length v.name) name_limit (both_left (leb (length v.name) name_limit) (one_symbol v.name) f)

    pub variable-most : (long : ℕ) → row < count l.variables → variable_size l.names l.variables row long ≤ long + 66000
    variable-most long h = omega (arith, variable-name h, count_most (word l.variables row 2))

    pub function-most : (long : ℕ) → row < count l.functions → function_size l.names l.functions row long ≤ long + 66000
    function-most long h = omega (arith, function-name h, count_most (word l.functions row 2), count_most (word l.functions row 3))

-- summed up as far as a word counts
three-capped : (a b long : ℕ) → min (min (min (a + b) 18446744073709551615 + 18) 18446744073709551615 + long) 18446744073709551615 ≡ min (a + b + 18 + long) 18446744073709551615
three-capped a b long = omega arith

four-capped : (a b c long : ℕ) →
    min (min (min (min (a + b) 18446744073709551615 + c) 18446744073709551615 + 15) 18446744073709551615 + long) 18446744073709551615 ≡ min (a + b + c + 15 + long) 18446744073709551615
four-capped a b c long = omega arith

pub name-long : (names rows : List ℕ) (row first size : ℕ) (r : Range) → first ≡ word rows row 0 → size ≡ word rows row 1 → Clamps first size (length names) r → r.end - r.start ≡ length (name_at names rows row)
name-long names rows row first size r e g h = sym (length_clamped names first size r h) ∙ rw (e, g) refl

module _ (names rows : List ℕ) (row long name : ℕ) (n : name ≡ length (name_at names rows row)) where
  pub variable-sum : (w sort one two three : ℕ) → w ≡ word rows row 2 → sort ≡ digit_count w → one ≡ capped (name + sort) → two ≡ capped (one + 18) → three ≡ capped (two + long) →
      three ≡ capped (variable_size names rows row long)
  variable-sum w sort one two three a b c d f = f ∙ rw (d, c, b, a, n) (three-capped (length (name_at names rows row)) (digit_count (word rows row 2)) long)

  pub function-sum : (w x argument result one two three four : ℕ) → w ≡ word rows row 2 → argument ≡ digit_count w → x ≡ word rows row 3 → result ≡ digit_count x →
      one ≡ capped (name + argument) → two ≡ capped (one + result) → three ≡ capped (two + 15) → four ≡ capped (three + long) →
      four ≡ capped (function_size names rows row long)
  function-sum w x argument result one two three four a b a' b' c d f k =
      k ∙ rw (f, d, c, b, b', a, a', n) (four-capped (length (name_at names rows row)) (digit_count (word rows row 2)) (digit_count (word rows row 3)) long)
