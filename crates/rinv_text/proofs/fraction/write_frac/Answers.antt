use Rattle.rinv_text.proofs.KeptFractions.{den-vars}
use Rattle.rinv_text.proofs.fraction.write_frac.Goals as goal

pub write_fraction-requires-clause-den : goal.write_fraction-requires-clause-den
write_fraction-requires-clause-den c = den-vars c.args.field.now.base.coeffs c.args.field.now.base.vars _ c.args.f.now c.den.result.now c.den.ensures c.requires.fraction c.requires.names
