use Rattle.std.proofs.Common.{List, subst}
use Rattle.rinv_defs.specs.System.{Poly}
use Rattle.rinv_laws.specs.Modulo.{AreInIdeal}
use Rattle.rinv_laws.proofs.LawsModulo.{vanish-parts}
use Rattle.rinv_laws.proofs.quickly.vanish_at.Goals as goal

pub are_zero-requires-clause-polynomials : goal.are_zero-requires-clause-polynomials
are_zero-requires-clause-polynomials c = rw c.deref.ensures.value c.in_ok-values.ensures.normal

pub returns : goal.returns
returns c = λ e.
    let p = c.args.ring.now.coeffs in
    let hs = c.args.basis.now.polys.items in
    vanish-parts p c.args.ring.now.vars hs c.args.fs.now c.args.point.now c.in_ok-values.values.items c.in_ok-values.ensures
    (subst (λ (xs : List Poly). AreInIdeal p hs xs) c.deref.ensures.value (c.in_ok-vanish.ensures e))
