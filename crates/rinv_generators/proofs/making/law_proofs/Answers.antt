use Rattle.std.proofs.Common.{◌⊎◌, subst}
use Rattle.rinv_laws.specs.Faults.{LawStopsSo, TestMeets}
use Rattle.rinv_laws.specs.Proofs.{ProofsMeet}
use Rattle.rinv_gens.specs.declared.kinds.Phase.TheVariants.{Laws}
use Rattle.rinv_generators.proofs.Stopping.{halts-so, laws-stop}
use Rattle.rinv_generators.proofs.Together.{prove-laws}
use Rattle.rinv_generators.proofs.making.law_proofs.Goals as goal

pub returns-in-Ok-clause-proofs : goal.returns-in-Ok-clause-proofs
returns-in-Ok-clause-proofs c = prove-laws c.args.system.now.system c.args.found.now.group.basis c.in-Ok.laws c.in-Ok.ensures.laws c.in-Ok.ensures.proofs

pub returns-in-Err-Fault-clause-stop : goal.returns-in-Err-Fault-clause-stop
returns-in-Err-Fault-clause-stop c =
    let s = c.args.system.now.system in
    let found = c.args.found.now.group.basis in
    let stop = subst (LawStopsSo s (λ x y. TestMeets s found x y ⊎ ProofsMeet s found x y)) c.in-Err-Fault.field-0-is c.in-Err-Fault.ensures.stop in
    rw c.in-Err-Fault.fault-is (record { fault = stop.0; normal = stop.1 })

pub returns-in-Err-Degree-clause-stop : goal.returns-in-Err-Degree-clause-stop
returns-in-Err-Degree-clause-stop c =
    let s = c.args.system.now.system in
    let group = c.args.found.now.group.basis in
    let action = c.args.found.now.action in
    let pieces = c.requires.pieces in
    let meets = subst (LawStopsSo s (λ x y. TestMeets s group x y ⊎ ProofsMeet s group x y)) c.in-Err-Degree.field-0-is c.in-Err-Degree.ensures.stop in
    laws-stop c.args.system.now group action (record { hold = pieces.hold; both_end = pieces.both_end; met = pieces.met }) c.halted.result
    (halts-so group action Laws (λ x y. TestMeets s group x y ⊎ ProofsMeet s group x y) c.in-Err-Degree.left c.in-Err-Degree.right meets c.halted.result c.halted.ensures)
