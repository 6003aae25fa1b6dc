use Rattle.std.proofs.Common.{◌≡◌, ◌∙◌, sym, subst, arith, false}
use Rattle.std.specs.List.{list_any}
use Rattle.std.proofs.lemmas.List.{take_all}
use Rattle.std.proofs.lemmas.List.Elements.{All-more}
use Rattle.std.proofs.lemmas.Result.{IfOk-weaker}
use Rattle.rinv_algebra.specs.Monomial.{divides}
use Rattle.rinv_buch.specs.Halting.{CanStep}
use Rattle.rinv_buch.proofs.PreparedFacts.{leads-fit, can-step, not-divided, cannot-step}
use Rattle.rinv_buch.proofs.halting.reducible_monomial.Goals as goal

pub terms-init : goal.terms-init
terms-init g c = λ k d low. absurd (omega (arith, low))

pub is_divided-requires : goal.is_divided-requires
is_divided-requires g c =
    leads-fit (g.F.Ring.ops c.args.ring.now.coeffs) (g.F.Ring.laws c.args.ring.now.coeffs) (g.F.Ring.is_element c.args.ring.now.coeffs) c.args.ring.now.vars (g.O.MonoOrder.cmp c.args.order.now) c.args.elements.now c.requires.prepared
    c.args.f.now c.requires.polynomial c.terms-mono-items.result.now c.terms-mono-items.ensures.value c.deref.result.now c.deref.ensures.value c.terms.mono-index c.terms-item.result c.terms-test.true c.terms-item.is

pub returns-then-is_divided : goal.returns-then-is_divided
returns-then-is_divided g c =
    let o = g.F.Ring.ops c.args.ring.now.coeffs in
    let cmp = g.O.MonoOrder.cmp c.args.order.now in
    let can : CanStep o cmp c.args.elements.now.polys.items c.args.f.now c.terms-item.result.0 =
    can-step o (g.F.Ring.laws c.args.ring.now.coeffs) (g.F.Ring.is_element c.args.ring.now.coeffs) c.args.ring.now.vars cmp c.args.elements.now c.requires.prepared
    c.args.f.now c.requires.polynomial c.terms-mono-items.result.now c.terms-mono-items.ensures.value c.deref.result.now c.deref.ensures.value c.terms.mono-index c.terms-item.result c.terms-test.true c.terms-item.is
    (sym c.is_divided.ensures ∙ c.if-is_divided.true) in
    IfOk-weaker c.copy.result (λ m. m ≡ c.terms-item.result.0) (CanStep o cmp c.args.elements.now.polys.items c.args.f.now)
    (λ m e. subst (CanStep o cmp c.args.elements.now.polys.items c.args.f.now) (sym e) can) c.copy.ensures

pub terms-preserved : goal.terms-preserved
terms-preserved g c =
    All-more (λ t. list_any (λ lead. divides lead t.0) c.args.elements.now.leads.items ≡ false) c.terms-mono-items.result.now c.terms.mono-index c.terms-item.result c.terms-test.true c.terms.invariant
    (not-divided (g.F.Ring.ops c.args.ring.now.coeffs) (g.F.Ring.laws c.args.ring.now.coeffs) (g.F.Ring.is_element c.args.ring.now.coeffs) c.args.ring.now.vars (g.O.MonoOrder.cmp c.args.order.now) c.args.elements.now c.requires.prepared
    c.args.f.now c.requires.polynomial c.terms-mono-items.result.now c.terms-mono-items.ensures.value c.deref.result.now c.deref.ensures.value c.terms.mono-index c.terms-item.result c.terms-test.true c.terms-item.is
    (sym c.is_divided.ensures ∙ c.if-is_divided.false))

pub unreachable-requires : goal.unreachable-requires
unreachable-requires g c =
    cannot-step (g.F.Ring.ops c.args.ring.now.coeffs) (g.F.Ring.laws c.args.ring.now.coeffs) (g.F.Ring.is_element c.args.ring.now.coeffs) c.args.ring.now.vars (g.O.MonoOrder.cmp c.args.order.now) c.args.elements.now c.requires.prepared
    c.args.f.now c.requires.polynomial c.terms-mono-items.result.now c.terms-mono-items.ensures.value
    (rw (take_all c.terms.mono-index c.terms-mono-items.result.now c.terms-test.false) at c.terms.invariant) c.requires.reducible
