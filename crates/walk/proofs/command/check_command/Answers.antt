use Rattle.std.proofs.lemmas.Result.{err_from_is_err_and}
use Rattle.std.proofs.Common.{Ok, ap, ◌∙◌}
use Rattle.walk.proofs.Notes.{command-variable, command-function, command-refused}
use Rattle.walk.proofs.command.check_command.Goals as goal

pub returns-in-Variable : goal.returns-in-Variable
returns-in-Variable c = command-variable _ _ _ _ _ c.command_at.ensures.command_at c.command_at.ensures.last_at _ _ _ _ (c.in_ok-command.was ∙ ap Ok c.in-Variable.is) _ c.note_variable.ensures

pub returns-in-Function : goal.returns-in-Function
returns-in-Function c = command-function _ _ _ _ _ c.command_at.ensures.command_at c.command_at.ensures.last_at _ _ _ _ _ _ _ (c.in_ok-command.was ∙ ap Ok c.in-Function.is) _ c.note_function.ensures

pub returns-in_err-command : goal.returns-in_err-command
returns-in_err-command c =
    let p = err_from_is_err_and c.from_residual.result c.from_residual.ensures.1 in
    rw (p.1, p.2) (command-refused _ _ _ _ _ c.command_at.ensures.command_at _ c.in_err-command.was)
