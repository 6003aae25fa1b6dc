use Rattle.rinv_generators.proofs.Stopping.{pieces-stop}
use Rattle.rinv_generators.proofs.making.found_for.Goals as goal

pub returns-in-Err-clause-stop : goal.returns-in-Err-clause-stop
returns-in-Err-clause-stop c = pieces-stop c.args.system.now c.in-Err.stop c.in-Err.ensures.stop
