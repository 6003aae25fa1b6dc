use Rattle.rinv_algebra.specs.Residue.{residue_ops, modulus_of}
use Rattle.rinv_algebra.proofs.ResidueLaws.{residue_laws}
use Rattle.rinv_theory.proofs.Examples.{squares}
use Rattle.rinv_theory.proofs.difference_of_squares.Goals as goal

pub returns : goal.returns
unfolding modulus_of
returns c = rw (c.from-a.ensures, c.from-b.ensures) (squares (residue_ops 7) (residue_laws 7) c.args.a c.args.b)
