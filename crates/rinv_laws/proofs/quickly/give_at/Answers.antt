use Rattle.std.proofs.Common.{List, subst, ◌∙◌, sym}
use Rattle.rinv_defs.specs.System.{Poly}
use Rattle.rinv_laws.specs.Modulo.{DifferInIdeal}
use Rattle.rinv_laws.proofs.LawsModulo.{give-parts}
use Rattle.rinv_laws.proofs.quickly.give_at.Goals as goal

pub are_same-requires-clause-many : goal.are_same-requires-clause-many
are_same-requires-clause-many c = rw c.deref.ensures.value (c.in_ok-values.ensures.many ∙ sym c.requires.wanted.many)

pub are_same-requires-clause-left : goal.are_same-requires-clause-left
are_same-requires-clause-left c = rw c.deref.ensures.value c.in_ok-values.ensures.normal

pub returns : goal.returns
returns c = λ e.
    let p = c.args.ring.now.coeffs in
    let hs = c.args.basis.now.polys.items in
    give-parts p c.args.ring.now.vars hs c.args.fs.now c.args.point.now c.args.wanted.now c.in_ok-values.values.items c.in_ok-values.ensures
    (subst (λ (xs : List Poly). DifferInIdeal p hs xs c.args.wanted.now) c.deref.ensures.value (c.in_ok-give.ensures e))
