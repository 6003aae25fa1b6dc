use Rattle.std.proofs.Common.{◌++◌, List, map, subst, append-nil}
use Rattle.std.proofs.lemmas.List.{take_all}
use Rattle.rinv_algebra.specs.Ring.{IsSame}
use Rattle.rinv_algebra.specs.Residue.{residue_ops}
use Rattle.rinv_algebra.specs.Polynomial.{poly_ops, past}
use Rattle.rinv_defs.specs.System.{Poly}
use Rattle.rinv_parts.specs.Points.{AreStored}
use Rattle.rinv_identities.proofs.GrowingLists.{taken-behind}
use Rattle.rinv_identities.proofs.ideals.add_copy.Goals as goal

pub polynomials-init : goal.polynomials-init
polynomials-init c gs h = rw (append-nil gs) h

pub polynomials-preserved : goal.polynomials-preserved
polynomials-preserved c gs h =
    let p = c.args.to.now.coeffs in
    let wide : Poly = c.in_ok-wide.wide in
    rw c.in_ok-push.ensures.items (taken-behind p c.args.to.now.vars (past c.args.place) gs c.args.fs.now c.polynomials.k c.index-fs-k.result c.polynomials.copies.items wide c.polynomials-test.true c.index-fs-k.is (c.polynomials.invariant gs h)
    (record { normal = c.in_ok-wide.ensures.element; value = subst (λ (f : Poly). IsSame (poly_ops (residue_ops p)) wide f) c.in_ok-moved.ensures.value c.in_ok-wide.ensures.value }))

pub returns : goal.returns
returns c gs h =
    subst (λ (fs : List Poly). AreStored c.args.to.now.coeffs c.args.to.now.vars (gs ++ map (past c.args.place) fs) c.polynomials.copies.items) (take_all c.polynomials.k c.args.fs.now c.polynomials-test.false) (c.polynomials.invariant gs h)
