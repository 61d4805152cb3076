use Rattle.std.proofs.lemmas.Result.{err_from_is_err_and}
use Rattle.definitions.proofs.Functions.{function-first, function-second, function-argument, function-result, function-body}
use Rattle.definitions.proofs.function.check_function.Goals as goal
use Rattle.definitions.proofs.function.check_function.Goals.{then-row-argument-via-then-row-argument, then-row-argument-via-else-row-argument+then-other-res}

pub returns-in_err-row : goal.returns-in_err-row
returns-in_err-row c = let p = err_from_is_err_and c.from_residual.result c.from_residual.ensures.1 in rw (p.1, p.2) (function-first _ _ _ _ _ _ _ _ _ _ _ _ _ _ c.read_sort.ensures _ c.in_err-row.was)

pub returns-in_err-other : goal.returns-in_err-other
returns-in_err-other c =
    let p = err_from_is_err_and c.from_residual-in_err-other.result c.from_residual-in_err-other.ensures.1 in
    rw (p.1, p.2) (function-second _ _ _ _ _ _ _ _ _ _ _ _ _ _ c.read_sort.ensures _ c.in_ok-row.was _ c.read_sort-2.ensures _ c.in_err-other.was)

pub returns-then-row-argument : goal.returns-then-row-argument
returns-then-row-argument c =
    elim c.then-row-argument.branch [
      | then-row-argument-via-then-row-argument w ↦ function-argument _ _ _ _ _ _ _ _ _ _ _ _ _ _ c.read_sort.ensures _ c.in_ok-row.was _ c.read_sort-2.ensures _ c.in_ok-other.was w.if-row-argument.true
      | then-row-argument-via-else-row-argument+then-other-res w ↦ function-result _ _ _ _ _ _ _ _ _ _ _ _ _ _ c.read_sort.ensures _ c.in_ok-row.was _ c.read_sort-2.ensures _ c.in_ok-other.was w.if-row-argument.false w.if-other-res.true
    ]

pub returns : goal.returns
returns c = function-body _ _ _ _ _ _ _ _ _ _ _ _ _ _ c.read_sort.ensures _ c.in_ok-row.was _ c.read_sort-2.ensures _ c.in_ok-other.was c.if-row-argument.false c.if-other-res.false _ c.check_body.ensures
