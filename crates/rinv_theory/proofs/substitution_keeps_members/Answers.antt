use Rattle.rinv_algebra.specs.Residue.{residue_ops}
use Rattle.rinv_algebra.proofs.ResidueLaws.{residue_laws}
use Rattle.rinv_theory.proofs.Members.{member-substitute}
use Rattle.rinv_theory.proofs.substitution_keeps_members.Goals as goal

pub returns : goal.returns
returns c = λ p. member-substitute (residue_ops p) (residue_laws p)
