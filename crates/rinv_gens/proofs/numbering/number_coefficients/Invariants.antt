use Rattle.std.proofs.Common.{◌≡◌, [], take, All}
use Rattle.std.specs.List.{AllZip}
use Rattle.rinv_frac.specs.Fractions.{IsStored}
use Rattle.rinv_coefficients.specs.Coefficients.{coefficients, new_values}
use Rattle.rinv_coefficients.specs.Ties.{Ties}
use Rattle.rinv_gens.proofs.numbering.number_coefficients.Given as goal

abbrev pub invariant-relations : goal.invariant-relations
invariant-relations l = let p = l.field.base.coeffs in record {
  fractions : l.fractions.items ≡ new_values p [] (coefficients (take l.k l.monic));
  stored : All (IsStored p l.field.base.vars) l.fractions.items;
  ties : AllZip (Ties p l.fractions.items) l.numbered.items (take l.k l.monic);
}
