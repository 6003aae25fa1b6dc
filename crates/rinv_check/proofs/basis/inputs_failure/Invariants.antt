use Rattle.std.proofs.Common.{not, List, Bool}
use Rattle.std.specs.Prelude.{zip}
use Rattle.rinv_algebra.specs.Residue.{residue_ops}
use Rattle.rinv_algebra.specs.Fits.{multiplies_out}
use Rattle.rinv_defs.specs.System.{Poly}
use Rattle.rinv_identities.proofs.Walks.{Walks}
use Rattle.rinv_check.proofs.basis.inputs_failure.Given as goal

abbrev pub invariant-generators : goal.invariant-generators
invariant-generators l =
    let test : Poly × List Poly → Bool = λ x. not (multiplies_out (residue_ops l.ring.coeffs) x.0 x.1 l.basis) in
    Walks test (zip l.polynomials l.inputs) l.k
