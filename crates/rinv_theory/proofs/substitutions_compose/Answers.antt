use Rattle.rinv_algebra.specs.Residue.{residue_ops}
use Rattle.rinv_algebra.specs.Polynomial.{poly_ops, constant}
use Rattle.rinv_algebra.proofs.ResidueLaws.{residue_laws}
use Rattle.rinv_algebra.proofs.PolynomialLaws.{poly_laws}
use Rattle.rinv_theory.proofs.Values.{constant_map, value-substitute}
use Rattle.rinv_theory.proofs.substitutions_compose.Goals as goal

pub returns : goal.returns
returns c = λ p. let o = residue_ops p in let l = residue_laws p in value-substitute o l (poly_ops o) (poly_laws o l) (constant o) (constant_map o l)
