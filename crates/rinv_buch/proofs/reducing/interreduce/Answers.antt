use Rattle.std.proofs.Common.{◌≡◌, ◌∙◌, sym, ap, subst, arith, ◌∷◌, ◌<◌, length}
use Rattle.std.proofs.lemmas.Result.{err_from_is_err_and}
use Rattle.std.proofs.lemmas.List.Elements.{All-nil, All-cons}
use Rattle.std.proofs.lemmas.List.Sorted.{All-permutation}
use Rattle.rinv_algebra.specs.Normal.{IsNormal}
use Rattle.rinv_groebner.specs.Reduced.{kept}
use Rattle.rinv_buch.specs.Kinds.{Found}
use Rattle.rinv_buch.specs.Reducing.{AreLeadsApart}
use Rattle.rinv_buch.proofs.Inserted.{orders_in}
use Rattle.rinv_buch.proofs.MadeSoFar.{made-none, made-more, made-nonzero, made_at-nonzero, made-new, made-whole, making-meets}
use Rattle.rinv_buch.proofs.Makings.{kept-leads_apart}
use Rattle.rinv_buch.proofs.reducing.interreduce.Goals as goal

pub places-init : goal.places-init
places-init g c =
    rw c.in_ok-made.ensures.items (record {
      prepared = c.in_ok-kept.ensures.prepared;
      same = c.in_ok-kept.ensures.kept ∙ ap (kept (g.F.Ring.ops c.args.ring.now.coeffs) (g.O.MonoOrder.cmp c.args.order.now)) (c.deref.ensures.value ∙ ap (λ (b : Found _). b.polys) c.basis.view_is);
      made = made-none (g.F.Ring.ops c.args.ring.now.coeffs) (g.O.MonoOrder.cmp c.args.order.now) _;
      ascending = λ i j d low high. absurd (omega (arith, high));
      normal = All-nil (IsNormal (g.F.Ring.ops c.args.ring.now.coeffs) (g.F.Ring.is_element c.args.ring.now.coeffs) c.args.ring.now.vars);
    })

pub made_at-requires-clause-apart : goal.made_at-requires-clause-apart
made_at-requires-clause-apart g c =
    let o = g.F.Ring.ops c.args.ring.now.coeffs in
    let cmp = g.O.MonoOrder.cmp c.args.order.now in
    subst (AreLeadsApart o cmp) (sym c.places.invariant.same) (kept-leads_apart o cmp c.args.basis.now.polys)

pub returns-in_err-element-clause-degree : goal.returns-in_err-element-clause-degree
returns-in_err-element-clause-degree g c =
    let o = g.F.Ring.ops c.args.ring.now.coeffs in
    let cmp = g.O.MonoOrder.cmp c.args.order.now in
    let count : length c.in_ok-kept.kept.polys.items ≡ length (kept (g.F.Ring.ops c.args.ring.now.coeffs) cmp c.args.basis.now.polys) = ap length (c.in_ok-kept.ensures.kept ∙ ap (kept (g.F.Ring.ops c.args.ring.now.coeffs) cmp) (c.deref.ensures.value ∙ ap (λ (b : Found _). b.polys) c.basis.view_is)) in
    let p = err_from_is_err_and c.from_residual-in_err-element.result c.from_residual-in_err-element.ensures.1 in
    rw (p.1, p.2) (making-meets o cmp (g.F.Ring.is_element c.args.ring.now.coeffs) (g.F.Ring.too_high c.args.ring.now.coeffs) c.args.ring.now.vars c.args.basis.now.polys c.places.kept.polys.items c.places.place c.places.invariant.same (omega (arith, c.places-test.true, c.len-place-end.ensures, count, ap length c.places.invariant.same)) _ c.in_err-element.ensures.degree)

pub insert-requires-clause-nonzero : goal.insert-requires-clause-nonzero
insert-requires-clause-nonzero g c =
    let cmp = g.O.MonoOrder.cmp c.args.order.now in
    let order = orders_in cmp (g.O.MonoOrder.fits c.args.order.now) (g.O.MonoOrder.laws c.args.order.now) (g.O.MonoOrder.ties c.args.order.now) c.args.ring.now.vars c.requires.suits in
    let count : length c.in_ok-kept.kept.polys.items ≡ length (kept (g.F.Ring.ops c.args.ring.now.coeffs) cmp c.args.basis.now.polys) = ap length (c.in_ok-kept.ensures.kept ∙ ap (kept (g.F.Ring.ops c.args.ring.now.coeffs) cmp) (c.deref.ensures.value ∙ ap (λ (b : Found _). b.polys) c.basis.view_is)) in
    let inside : c.places.place < length (kept (g.F.Ring.ops c.args.ring.now.coeffs) cmp c.args.basis.now.polys) = omega (arith, c.places-test.true, c.len-place-end.ensures, count) in
    made-nonzero (g.F.Ring.ops c.args.ring.now.coeffs) cmp (g.F.Ring.laws c.args.ring.now.coeffs) (g.met.F.Field.field_laws c.args.ring.now.coeffs) (g.F.Ring.is_element c.args.ring.now.coeffs) c.args.ring.now.vars order c.args.basis.now.polys c.requires.polys c.requires.nonzero
    c.places.place c.places.made.items (omega (arith, inside)) c.places.invariant.made

pub insert-requires-clause-element_nonzero : goal.insert-requires-clause-element_nonzero
insert-requires-clause-element_nonzero g c =
    let cmp = g.O.MonoOrder.cmp c.args.order.now in
    let order = orders_in cmp (g.O.MonoOrder.fits c.args.order.now) (g.O.MonoOrder.laws c.args.order.now) (g.O.MonoOrder.ties c.args.order.now) c.args.ring.now.vars c.requires.suits in
    let count : length c.in_ok-kept.kept.polys.items ≡ length (kept (g.F.Ring.ops c.args.ring.now.coeffs) cmp c.args.basis.now.polys) = ap length (c.in_ok-kept.ensures.kept ∙ ap (kept (g.F.Ring.ops c.args.ring.now.coeffs) cmp) (c.deref.ensures.value ∙ ap (λ (b : Found _). b.polys) c.basis.view_is)) in
    let inside : c.places.place < length (kept (g.F.Ring.ops c.args.ring.now.coeffs) cmp c.args.basis.now.polys) = omega (arith, c.places-test.true, c.len-place-end.ensures, count) in
    made_at-nonzero (g.F.Ring.ops c.args.ring.now.coeffs) cmp (g.F.Ring.laws c.args.ring.now.coeffs) (g.met.F.Field.field_laws c.args.ring.now.coeffs) (g.F.Ring.is_element c.args.ring.now.coeffs) c.args.ring.now.vars order c.args.basis.now.polys c.requires.polys c.requires.nonzero
    c.places.place c.in_ok-element.element inside (rw c.places.invariant.same at c.in_ok-element.ensures.made)

pub insert-requires-clause-new : goal.insert-requires-clause-new
insert-requires-clause-new g c =
    let cmp = g.O.MonoOrder.cmp c.args.order.now in
    let order = orders_in cmp (g.O.MonoOrder.fits c.args.order.now) (g.O.MonoOrder.laws c.args.order.now) (g.O.MonoOrder.ties c.args.order.now) c.args.ring.now.vars c.requires.suits in
    let count : length c.in_ok-kept.kept.polys.items ≡ length (kept (g.F.Ring.ops c.args.ring.now.coeffs) cmp c.args.basis.now.polys) = ap length (c.in_ok-kept.ensures.kept ∙ ap (kept (g.F.Ring.ops c.args.ring.now.coeffs) cmp) (c.deref.ensures.value ∙ ap (λ (b : Found _). b.polys) c.basis.view_is)) in
    let inside : c.places.place < length (kept (g.F.Ring.ops c.args.ring.now.coeffs) cmp c.args.basis.now.polys) = omega (arith, c.places-test.true, c.len-place-end.ensures, count) in
    made-new (g.F.Ring.ops c.args.ring.now.coeffs) cmp (g.F.Ring.laws c.args.ring.now.coeffs) (g.met.F.Field.field_laws c.args.ring.now.coeffs) (g.F.Ring.is_element c.args.ring.now.coeffs) c.args.ring.now.vars order c.args.basis.now.polys c.requires.polys c.requires.nonzero
    c.places.place c.places.made.items c.in_ok-element.element inside c.places.invariant.made (rw c.places.invariant.same at c.in_ok-element.ensures.made)

pub places-preserved : goal.places-preserved
places-preserved g c =
    let o = g.F.Ring.ops c.args.ring.now.coeffs in
    let cmp = g.O.MonoOrder.cmp c.args.order.now in
    let normal = IsNormal o (g.F.Ring.is_element c.args.ring.now.coeffs) c.args.ring.now.vars in
    record {
      prepared = c.in_ok-element.ensures.prepared;
      same = c.in_ok-element.ensures.same ∙ c.places.invariant.same;
      made = made-more o cmp (kept o cmp c.args.basis.now.polys) c.places.made.items c.insert.new.list.items c.places.place c.in_ok-element.element c.places.invariant.made (rw c.places.invariant.same at c.in_ok-element.ensures.made) c.in_ok-insert.ensures.same;
      ascending = c.in_ok-insert.ensures.ascending;
      normal = All-permutation normal (c.in_ok-element.element ∷ c.places.made.items) c.insert.new.list.items c.in_ok-insert.ensures.same (All-cons normal c.in_ok-element.element c.places.made.items c.in_ok-element.ensures.normal c.places.invariant.normal);
    }

pub returns-clause-reduced : goal.returns-clause-reduced
returns-clause-reduced g c =
    let cmp = g.O.MonoOrder.cmp c.args.order.now in
    let order = orders_in cmp (g.O.MonoOrder.fits c.args.order.now) (g.O.MonoOrder.laws c.args.order.now) (g.O.MonoOrder.ties c.args.order.now) c.args.ring.now.vars c.requires.suits in
    let count : length c.in_ok-kept.kept.polys.items ≡ length (kept (g.F.Ring.ops c.args.ring.now.coeffs) cmp c.args.basis.now.polys) = ap length (c.in_ok-kept.ensures.kept ∙ ap (kept (g.F.Ring.ops c.args.ring.now.coeffs) cmp) (c.deref.ensures.value ∙ ap (λ (b : Found _). b.polys) c.basis.view_is)) in
    made-whole (g.F.Ring.ops c.args.ring.now.coeffs) cmp (g.F.Ring.laws c.args.ring.now.coeffs) (g.met.F.Field.field_laws c.args.ring.now.coeffs) (g.F.Ring.is_element c.args.ring.now.coeffs) c.args.ring.now.vars order c.args.basis.now.polys c.requires.polys c.requires.nonzero
    c.places.place c.places.made.items (omega (arith, c.places-test.false, c.places.auto.place-end, c.len-place-end.ensures, count)) c.places.invariant.made c.requires.groebner
