use Rattle.std.proofs.Common.{refl}
use Rattle.rinv_generators.specs.Made.{generated_of}
use Rattle.rinv_generators.proofs.Together.{invariant-generators, runs-within}
use Rattle.rinv_generators.proofs.finding.generators_on.Goals as goal

pub returns-in-Ok-clause-generators : goal.returns-in-Ok-clause-generators
returns-in-Ok-clause-generators c = rw c.with_system.ensures (refl, c.in-Ok.ensures.made)

pub returns-in-Ok-clause-invariant : goal.returns-in-Ok-clause-invariant
returns-in-Ok-clause-invariant c = rw c.with_system.ensures (invariant-generators (generated_of c.args.system c.in-Ok.made) c.in-Ok.ensures.made)

pub returns-in-Ok-clause-within : goal.returns-in-Ok-clause-within
returns-in-Ok-clause-within c = λ pairs steps.
    let made = c.in-Ok.made in
    rw c.with_system.ensures (runs-within c.args.system made.group.basis made.action (generated_of c.args.system made).journal c.in-Ok.ensures.ends c.in-Ok.ensures.made.journal pairs steps)

pub returns-in-Err-clause-stop : goal.returns-in-Err-clause-stop
returns-in-Err-clause-stop c = c.told_apart.ensures c.args.system c.in-Err.ensures.stop
