use Rattle.rinv_gens.specs.declared.kinds.Phase.TheVariants.{Tail}
use Rattle.rinv_generators.specs.Proving.{FractionsMeet}
use Rattle.rinv_generators.proofs.Stopping.{halts-so}
use Rattle.rinv_generators.proofs.proving.generator_proofs.Goals as goal

pub returns-in-Err-Degree-clause-stop : goal.returns-in-Err-Degree-clause-stop
returns-in-Err-Degree-clause-stop c =
    let s = c.args.system.now.system in
    let group = c.args.group.now.basis in
    halts-so group c.args.action.now Tail (FractionsMeet s group c.args.fractions.now) c.in-Err-Degree.left c.in-Err-Degree.right
    (rw c.in-Err-Degree.field-0-is at c.in-Err-Degree.ensures.degree) c.halted.result c.halted.ensures
