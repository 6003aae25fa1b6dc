use Rattle.std.proofs.Common.{take}
use Rattle.rinv_algebra.specs.Residue.{residue_ops}
use Rattle.rinv_algebra.specs.Value.{factors}
use Rattle.rinv_frac.specs.Fractions.{IsStored}
use Rattle.rinv_value.specs.Values.{number, Multiplied}
use Rattle.rinv_value.proofs.products.term_value.Given as goal

abbrev pub invariant-values : goal.invariant-values
invariant-values l = let o = residue_ops l.field.base.coeffs in record {
  stored : IsStored l.field.base.coeffs l.field.base.vars l.product;
  made : Multiplied o (number o l.coefficient) (factors (take l.k l.at) (take l.k l.mono)) l.product;
}
