use Rattle.rinv_elim.proofs.CutElements.{all-nonzero}
use Rattle.rinv_elim.proofs.localising.localise.Goals as goal

pub leads_in_z-requires-clause-nonzero : goal.leads_in_z-requires-clause-nonzero
leads_in_z-requires-clause-nonzero c = all-nonzero c.args.system.now.system c.args.cut.now c.requires.cut
