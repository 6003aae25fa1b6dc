use Rattle.rinv_algebra.specs.Residue.{residue_ops}
use Rattle.rinv_algebra.specs.Polynomial.{poly_ops, constant}
use Rattle.rinv_algebra.proofs.ResidueLaws.{residue_laws}
use Rattle.rinv_algebra.proofs.PolynomialLaws.{poly_laws}
use Rattle.rinv_theory.proofs.Values.{constant_map, value_map, value-constant, value-variable}
use Rattle.rinv_theory.proofs.substitution_is_a_map.Goals as goal

pub returns : goal.returns
returns c = record {
  sameness = λ p images. let o = residue_ops p in let l = residue_laws p in (value_map o l (poly_ops o) (poly_laws o l) (constant o) (constant_map o l) images).same;
  sums = λ p images. let o = residue_ops p in let l = residue_laws p in (value_map o l (poly_ops o) (poly_laws o l) (constant o) (constant_map o l) images).add;
  products = λ p images. let o = residue_ops p in let l = residue_laws p in (value_map o l (poly_ops o) (poly_laws o l) (constant o) (constant_map o l) images).mul;
  constants = λ p. let o = residue_ops p in let l = residue_laws p in value-constant o l (poly_ops o) (poly_laws o l) (constant o) (constant_map o l);
  variables = λ p. let o = residue_ops p in let l = residue_laws p in value-variable o l (poly_ops o) (poly_laws o l) (constant o) (constant_map o l);
}
