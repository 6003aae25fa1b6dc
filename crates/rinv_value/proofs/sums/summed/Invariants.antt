use Rattle.std.proofs.Common.{take}
use Rattle.rinv_algebra.specs.Residue.{residue_ops}
use Rattle.rinv_frac.specs.Fractions.{IsStored}
use Rattle.rinv_value.specs.Values.{Summed}
use Rattle.rinv_value.proofs.sums.summed.Given as goal

abbrev pub invariant-terms : goal.invariant-terms
invariant-terms l = record {
  stored : IsStored l.field.base.coeffs l.field.base.vars l.sum;
  made : Summed (residue_ops l.field.base.coeffs) l.at (take l.mono-index l.terms) l.sum;
}
