use Rattle.std.proofs.Common.{◌*◌, map, All}
use Rattle.std.specs.List.{AllZip, range_with_len}
use Rattle.rinv_algebra.specs.Residue.{residue_ops}
use Rattle.rinv_groebner.specs.Division.{AreSame}
use Rattle.rinv_parts.specs.Points.{ArePolynomials}
use Rattle.rinv_laws.specs.Proofs.{chosen, past_lists}
use Rattle.rinv_laws.proofs.cofactors.lists_in_copies.Given as goal

abbrev pub invariant-copies : goal.invariant-copies
invariant-copies l = record {
  normal : All (λ ls. All (λ us. ArePolynomials l.to.coeffs l.to.vars us.items) ls.items) l.all.items;
  value : AllZip (AllZip (AreSame (residue_ops l.to.coeffs))) (map (λ ls. map (λ us. us.items) ls.items) l.all.items) (map (λ j. past_lists (j * l.from.vars) (chosen (map (λ us. us.items) l.lists) l.places)) (range_with_len 0 l.copy));
}
