use Rattle.std.specs.Prelude.{replicate}
use Rattle.rinv_algebra.specs.Residue.{residue_ops}
use Rattle.rinv_frac.specs.Fractions.{IsStored}
use Rattle.rinv_value.specs.Values.{Multiplied}
use Rattle.rinv_value.proofs.products.times_power.Given as goal

abbrev pub invariant-powers : goal.invariant-powers
invariant-powers l = record {
  stored : IsStored l.field.base.coeffs l.field.base.vars l.product;
  made : Multiplied (residue_ops l.field.base.coeffs) l.initial.product (replicate l.k l.factor) l.product;
}
