use Rattle.rinv_algebra.specs.Residue.{residue_ops}
use Rattle.rinv_algebra.specs.Polynomial.{poly_ops}
use Rattle.rinv_algebra.proofs.ResidueLaws.{residue_laws}
use Rattle.rinv_algebra.proofs.ResidueField.{residue_field_laws}
use Rattle.rinv_algebra.proofs.PolynomialLaws.{poly_laws}
use Rattle.rinv_theory.proofs.Fields.{poly_domain, fraction_laws, fraction_field}
use Rattle.rinv_theory.proofs.FractionLaws.{over_one_map, over_one-exact}
use Rattle.rinv_theory.proofs.fractions_are_a_field.Goals as goal

pub returns : goal.returns
returns c = record {
  ring = λ p. fraction_laws (residue_ops p) (residue_laws p) (residue_field_laws p);
  field = λ p. fraction_field (residue_ops p) (residue_laws p) (residue_field_laws p);
  exact = λ p f g.
      let o = residue_ops p in
      let l = residue_laws p in
      let domain = poly_domain o l (residue_field_laws p) in
      (over_one-exact (poly_ops o) (poly_laws o l) domain f g, (over_one_map (poly_ops o) (poly_laws o l) domain).same f g);
}
