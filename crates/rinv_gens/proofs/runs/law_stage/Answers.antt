use Rattle.std.proofs.Common.{subst}
use Rattle.rinv_laws.specs.Faults.{LawStopsSo, TestMeets}
use Rattle.rinv_gens.proofs.runs.law_stage.Goals as goal

pub returns-in-Err-Fault-clause-stop : goal.returns-in-Err-Fault-clause-stop
returns-in-Err-Fault-clause-stop c =
    let s = c.args.system.now.system in
    let stop = subst (LawStopsSo s (TestMeets s c.in_ok-group.group.basis)) c.in-Err-Fault.field-0-is c.in-Err-Fault.ensures.stop in
    rw c.in-Err-Fault.fault-is (record { fault = stop.0; normal = stop.1 })
