use Rattle.std.proofs.Common.{◌≡◌, ◌∙◌, sym, subst, ℕ, List}
use Rattle.std.specs.declared.cmp.Ordering.TheVariants.{Less}
use Rattle.rinv_algebra.specs.Leading.{leading_monomial}
use Rattle.rinv_buch.proofs.Inserted.{orders_in, above-more, above-later, less-from, not-less}
use Rattle.rinv_buch.proofs.reducing.place_of.Goals as goal

pub returns-then-eq-clause-after : goal.returns-then-eq-clause-after
returns-then-eq-clause-after g c =
    let o = g.F.Ring.ops c.args.ring.now.coeffs in
    let cmp = g.O.MonoOrder.cmp c.args.order.now in
    let order = orders_in cmp (g.O.MonoOrder.fits c.args.order.now) (g.O.MonoOrder.laws c.args.order.now) (g.O.MonoOrder.ties c.args.order.now) c.args.ring.now.vars c.requires.suits in
    let less : cmp c.args.mono.now c.leading_term.result.0.now ≡ Less = sym c.compare.ensures ∙ less-from c.compare.result (sym c.eq.ensures ∙ c.if-eq.true) in
    above-later cmp c.args.ring.now.vars order (leading_monomial o cmp) c.args.list.now c.places.place c.index-list-place.result c.args.mono.now c.places-test.true c.index-list-place.is c.requires.ascending
    (subst (λ (m : List ℕ). cmp c.args.mono.now m ≡ Less) c.leading_term.ensures.monomial less)

pub places-preserved : goal.places-preserved
places-preserved g c =
    let o = g.F.Ring.ops c.args.ring.now.coeffs in
    let cmp = g.O.MonoOrder.cmp c.args.order.now in
    let order = orders_in cmp (g.O.MonoOrder.fits c.args.order.now) (g.O.MonoOrder.laws c.args.order.now) (g.O.MonoOrder.ties c.args.order.now) c.args.ring.now.vars c.requires.suits in
    above-more cmp c.args.ring.now.vars order (leading_monomial o cmp) c.args.list.now c.places.place c.index-list-place.result c.args.mono.now c.leading_term.result.0.now c.places-test.true c.index-list-place.is c.leading_term.ensures.monomial
    c.requires.vars c.leading_term.ensures.vars c.requires.new (λ less. not-less c.compare.result (sym c.eq.ensures ∙ c.if-eq.false) (c.compare.ensures ∙ less)) c.places.invariant
