use Rattle.std.proofs.Common.{List, subst₂, ◌∙◌, sym}
use Rattle.rinv_defs.specs.System.{Poly}
use Rattle.rinv_laws.specs.Modulo.{DifferInIdeal}
use Rattle.rinv_laws.proofs.LawsModulo.{agree-parts}
use Rattle.rinv_laws.proofs.quickly.agree_at.Goals as goal

pub are_same-requires-clause-many : goal.are_same-requires-clause-many
are_same-requires-clause-many c = rw (c.deref.ensures.value, c.deref-2.ensures.value) (c.in_ok-left.ensures.many ∙ sym c.in_ok-right.ensures.many)

pub are_same-requires-clause-left : goal.are_same-requires-clause-left
are_same-requires-clause-left c = rw c.deref.ensures.value c.in_ok-left.ensures.normal

pub are_same-requires-clause-right : goal.are_same-requires-clause-right
are_same-requires-clause-right c = rw c.deref-2.ensures.value c.in_ok-right.ensures.normal

pub returns : goal.returns
returns c = λ e.
    let p = c.args.ring.now.coeffs in
    let hs = c.args.basis.now.polys.items in
    agree-parts p c.args.ring.now.vars hs c.args.fs.now c.args.first.now c.args.second.now c.in_ok-left.left.items c.in_ok-right.right.items c.in_ok-left.ensures c.in_ok-right.ensures
    (subst₂ (λ (xs ys : List Poly). DifferInIdeal p hs xs ys) c.deref.ensures.value c.deref-2.ensures.value (c.in_ok-agree.ensures e))
