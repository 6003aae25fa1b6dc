use Rattle.rinv_serve.proofs.CheckedRuns.{accepted-run}
use Rattle.rinv_serve.proofs.accepted.certified_runs_are_accepted.Goals as goal

pub returns : goal.returns
returns c = accepted-run
