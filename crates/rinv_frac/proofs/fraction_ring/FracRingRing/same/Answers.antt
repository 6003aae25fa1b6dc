use Rattle.std.proofs.Common.{◌∙◌, subst₂}
use Rattle.rinv_algebra.specs.Ring.{IsSame}
use Rattle.rinv_algebra.specs.Residue.{residue_ops}
use Rattle.rinv_algebra.specs.Polynomial.{poly_ops, product}
use Rattle.rinv_algebra.specs.Fraction.{Fraction}
use Rattle.rinv_algebra.proofs.ResidueLaws.{residue_laws}
use Rattle.rinv_frac.proofs.Stored.{stored}
use Rattle.rinv_frac.proofs.Values.{same-value}
use Rattle.rinv_frac.proofs.fraction_ring.FracRingRing.same.Goals as goal

pub returns-clause-value : goal.returns-clause-value
returns-clause-value c =
    let p = c.args.self.now.base.coeffs in
    let v = c.args.self.now.base.vars in
    let o = residue_ops p in
    let a = c.args.a.now in
    let b = c.args.b.now in
    c.in_ok-same.ensures ∙ same-value o (residue_laws p) a b (stored p v a c.requires.left).nonzero (stored p v b c.requires.right).nonzero c.in_ok-left.left c.in_ok-right.right
    (subst₂ (λ (x y : Fraction _). IsSame (poly_ops o) c.in_ok-left.left (product o x.0 y.1)) c.a.view_is c.b.view_is c.in_ok-left.ensures.value)
    (subst₂ (λ (x y : Fraction _). IsSame (poly_ops o) c.in_ok-right.right (product o y.0 x.1)) c.a.view_is c.b.view_is c.in_ok-right.ensures.value)
