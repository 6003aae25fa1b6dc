use Rattle.rinv_answers.specs.Commands.Laws.{IsCut}
use Rattle.rinv_answers.proofs.commands.laws.lawful.Goals as goal

pub returns-in-Err-Degree-clause-stop : goal.returns-in-Err-Degree-clause-stop
returns-in-Err-Degree-clause-stop c =
    IsCut.in_laws c.in_ok-group.group.basis c.in_ok-group.group.reduced.items c.in-Err-Degree.left c.in-Err-Degree.right c.in_ok-group.ensures.basis c.in_ok-group.ensures.within
    (rw c.in-Err-Degree.field-0-is at c.in-Err-Degree.ensures.stop) c.in_ok-text-in-Err-Degree.ensures
