use Rattle.rinv_defs.specs.System.{space_count}
use Rattle.rinv_certify.proofs.TieProducts.{constant-fits}
use Rattle.rinv_certify.proofs.ties.tied.Goals as goal

pub returns-in-Constant-clause-fits : goal.returns-in-Constant-clause-fits
returns-in-Constant-clause-fits c whole common = rw c.in-Constant.is (constant-fits c.args.gens.now whole common c.args.d.now c.args.c.now _ (space_count c.args.gens.now.told.system) c.requires.denominator)
