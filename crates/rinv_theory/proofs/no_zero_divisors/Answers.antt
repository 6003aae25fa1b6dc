use Rattle.rinv_algebra.specs.Residue.{residue_ops}
use Rattle.rinv_algebra.proofs.ResidueLaws.{residue_laws}
use Rattle.rinv_algebra.proofs.ResidueField.{residue_field_laws}
use Rattle.rinv_theory.proofs.Fields.{product-zero}
use Rattle.rinv_theory.proofs.no_zero_divisors.Goals as goal

pub returns : goal.returns
returns c = λ p. product-zero (residue_ops p) (residue_laws p) (residue_field_laws p)
