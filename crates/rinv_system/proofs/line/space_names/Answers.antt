use Rattle.std.proofs.Common.{sym, ap}
use Rattle.rinv_system.proofs.LineSteps.{space-tells}
use Rattle.rinv_system.proofs.line.space_names.Goals as goal

pub read-requires : goal.read-requires
read-requires c = space-tells c.args.draft.now c.in-Some.group c.draft.inside.group c.in-Some.is (ap (λ d. d.group) (sym c.draft.view_is))
