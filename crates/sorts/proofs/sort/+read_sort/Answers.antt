use Rattle.std.proofs.lemmas.Result.{err_from_is_err_and}
use Rattle.tables.specs.Sort.{option_of, set_of}
use Rattle.sorts.proofs.Read.{sort_nested, sort-word, sort-width, sort-unknown, makes_option, makes_set, inner-refused, inner-row}
use Rattle.sorts.proofs.sort.+read_sort.Goals as goal

pub returns-then-allow-eq0 : goal.returns-then-allow-eq0
returns-then-allow-eq0 t c = sort_nested _ _ _ _ _ _ c.if-allow-eq0.true

pub returns-in-Word : goal.returns-in-Word
returns-in-Word t c = sort-word _ _ _ _ _ _ c.if-allow-eq0.false _ c.sort_shape_at.ensures _ _ c.in-Word.is _ c.word_at.ensures

pub returns-in-Width : goal.returns-in-Width
returns-in-Width t c = sort-width _ _ _ _ _ _ c.if-allow-eq0.false _ c.sort_shape_at.ensures _ _ c.in-Width.is _ c.sort_width.ensures

pub returns-in_ok-row-in-OptionOf : goal.returns-in_ok-row-in-OptionOf
returns-in_ok-row-in-OptionOf t c =
    inner-row _ _ _ _ _ _ c.if-allow-eq0.false _ c.sort_shape_at.ensures option_of _
    (makes_option c.args.sorts.now c.args.names.now _ _ _ _ c.if-allow-eq0.false _ c.sort_shape_at.ensures _ c.in-OptionOf.is) _ c.read_sort.ensures _ c.in_ok-row-in-OptionOf.was _ c.row_of.ensures

pub returns-in_err-row-in-OptionOf : goal.returns-in_err-row-in-OptionOf
returns-in_err-row-in-OptionOf t c =
    let p = err_from_is_err_and c.from_residual.result c.from_residual.ensures.1 in
    rw (p.1, p.2)
    (inner-refused _ _ _ _ _ _ c.if-allow-eq0.false _ c.sort_shape_at.ensures option_of _
    (makes_option c.args.sorts.now c.args.names.now _ _ _ _ c.if-allow-eq0.false _ c.sort_shape_at.ensures _ c.in-OptionOf.is) _ c.read_sort.ensures _ c.in_err-row-in-OptionOf.was)

pub returns-in_ok-row-in-SetOf : goal.returns-in_ok-row-in-SetOf
returns-in_ok-row-in-SetOf t c =
    inner-row _ _ _ _ _ _ c.if-allow-eq0.false _ c.sort_shape_at.ensures set_of _
    (makes_set c.args.sorts.now c.args.names.now _ _ _ _ c.if-allow-eq0.false _ c.sort_shape_at.ensures _ c.in-SetOf.is) _ c.read_sort-in-SetOf.ensures _ c.in_ok-row-in-SetOf.was _ c.row_of-in-SetOf.ensures

pub returns-in_err-row-in-SetOf : goal.returns-in_err-row-in-SetOf
returns-in_err-row-in-SetOf t c =
    let p = err_from_is_err_and c.from_residual-in_err-row-in-SetOf.result c.from_residual-in_err-row-in-SetOf.ensures.1 in
    rw (p.1, p.2)
    (inner-refused _ _ _ _ _ _ c.if-allow-eq0.false _ c.sort_shape_at.ensures set_of _
    (makes_set c.args.sorts.now c.args.names.now _ _ _ _ c.if-allow-eq0.false _ c.sort_shape_at.ensures _ c.in-SetOf.is) _ c.read_sort-in-SetOf.ensures _ c.in_err-row-in-SetOf.was)

pub returns-in-NoSort : goal.returns-in-NoSort
returns-in-NoSort t c = sort-unknown _ _ _ _ _ _ c.if-allow-eq0.false _ c.sort_shape_at.ensures c.in-NoSort.is
