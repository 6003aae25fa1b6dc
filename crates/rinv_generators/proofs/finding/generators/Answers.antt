use Rattle.std.proofs.Common.{refl}
use Rattle.rinv_generators.specs.Made.{generated_of}
use Rattle.rinv_generators.proofs.Stopping.{never-misses}
use Rattle.rinv_generators.proofs.Together.{runs-within, sound-generators}
use Rattle.rinv_generators.proofs.finding.generators.Goals as goal

pub returns-in-Ok-clause-generators : goal.returns-in-Ok-clause-generators
returns-in-Ok-clause-generators c = rw c.with_system.ensures (refl, c.in-Ok.ensures.made)

pub returns-in-Ok-clause-sound : goal.returns-in-Ok-clause-sound
returns-in-Ok-clause-sound c = rw c.with_system.ensures (sound-generators (generated_of c.args.system c.in-Ok.made) c.requires.no_section c.in-Ok.ensures.made)

pub returns-in-Ok-clause-within : goal.returns-in-Ok-clause-within
returns-in-Ok-clause-within c = λ pairs steps.
    let made = c.in-Ok.made in
    rw c.with_system.ensures (runs-within c.args.system made.group.basis made.action (generated_of c.args.system made).journal c.in-Ok.ensures.ends c.in-Ok.ensures.made.journal pairs steps)

pub returns-in-Err-clause-stop : goal.returns-in-Err-clause-stop
returns-in-Err-clause-stop c = never-misses c.args.system c.requires.system c.requires.no_section c.in-Err.stop c.in-Err.ensures.stop
