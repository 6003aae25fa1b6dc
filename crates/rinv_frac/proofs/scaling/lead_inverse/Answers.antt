use Rattle.std.proofs.Common.{[]}
use Rattle.std.specs.Prelude.{ℕ, nat_lt}
use Rattle.rinv_algebra.specs.Residue.{residue_ops}
use Rattle.rinv_algebra.specs.Polynomial.{Term}
use Rattle.rinv_poly.proofs.Forms.{ordered-from_normal}
use Rattle.rinv_frac.proofs.ScaledParts.{inverts-lead}
use Rattle.rinv_frac.proofs.scaling.lead_inverse.Goals as goal

pub inverse_of-requires-clause-element : goal.inverse_of-requires-clause-element
inverse_of-requires-clause-element c =
    let p = c.args.ring.now.coeffs in
    let n = ordered-from_normal (residue_ops p) (λ x. nat_lt x p) c.args.ring.now.vars c.args.d.now c.requires.polynomial in
    let d : Term ℕ = ([], 0) in
    rw (c.coeffs.ensures, c.coeff.ensures d) (n.terms c.in-Some.place d c.in-Some.ensures.place).coefficient

pub inverse_of-requires-clause-nonzero : goal.inverse_of-requires-clause-nonzero
inverse_of-requires-clause-nonzero c =
    let p = c.args.ring.now.coeffs in
    let n = ordered-from_normal (residue_ops p) (λ x. nat_lt x p) c.args.ring.now.vars c.args.d.now c.requires.polynomial in
    let d : Term ℕ = ([], 0) in
    rw (c.coeffs.ensures, c.coeff.ensures d) (n.terms c.in-Some.place d c.in-Some.ensures.place).nonzero

pub returns-clause-inverse : goal.returns-clause-inverse
returns-clause-inverse c =
    let d : Term ℕ = ([], 0) in
    inverts-lead c.args.ring.now.coeffs c.args.ring.now.vars c.args.d.now c.requires.polynomial c.in-Some.place d c.in-Some.ensures.place (c.in-Some.ensures.greatest d) c.coeff.result.now c.in_ok-inverse.inverse (c.coeff.ensures d) (rw c.coeffs.ensures at c.in_ok-inverse.ensures.value)
