use Rattle.std.proofs.Common.{◌≡◌, ◌∙◌, ◌<◌, length, map, get_or, take_all, ap}
use Rattle.rinv_algebra.specs.BlockEnds.{sizes_from}
use Rattle.rinv_algebra.specs.Order.{block_order}
use Rattle.rinv_reduction.specs.Localised.{all_count, lead_in_z}
use Rattle.rinv_elim.proofs.LeadsMade.{lead-is, leads-more, normal-item, nonzero-item}
use Rattle.rinv_elim.proofs.localising.leads_in_z.Goals as goal

pub leading_term-requires-clause-polynomial : goal.leading_term-requires-clause-polynomial
leading_term-requires-clause-polynomial c =
    let s = c.args.system.now.system in
    let ring = c.action_ring-ring in
    let k = c.elements.h-index in
    let h = c.h-item.result in
    let low : k < length c.args.cut.now = c.elements-test.true in
    let here : h ≡ get_or c.args.cut.now k h = c.h-item.is in
    normal-item ring.result.coeffs s.p ring.result.vars (all_count s) c.args.cut.now k h ring.ensures.field ring.ensures.vars low here c.requires.normal

pub leading_term-requires-clause-nonzero : goal.leading_term-requires-clause-nonzero
leading_term-requires-clause-nonzero c =
    let s = c.args.system.now.system in
    let ring = c.action_ring-ring in
    let k = c.elements.h-index in
    let h = c.h-item.result in
    let low : k < length c.args.cut.now = c.elements-test.true in
    let here : h ≡ get_or c.args.cut.now k h = c.h-item.is in
    nonzero-item ring.result.coeffs s.p c.args.cut.now k h ring.ensures.field low here c.requires.nonzero

pub leading_term-requires-clause-suits : goal.leading_term-requires-clause-suits
leading_term-requires-clause-suits c = c.action_ring-ring.ensures.vars ∙ c.in_ok-order.ensures.suits

pub z_part-requires-clause-vars : goal.z_part-requires-clause-vars
z_part-requires-clause-vars c = c.leading_term.ensures.vars ∙ c.action_ring-ring.ensures.vars

pub elements-preserved : goal.elements-preserved
elements-preserved c =
    let s = c.args.system.now.system in
    let ring = c.action_ring-ring in
    let k = c.elements.h-index in
    let h = c.h-item.result in
    let low : k < length c.args.cut.now = c.elements-test.true in
    let here : h ≡ get_or c.args.cut.now k h = c.h-item.is in
    let cmp = block_order (sizes_from 0 c.in_ok-order.order) in
    let is = lead-is s ring.result.coeffs cmp h c.leading_term.result.0.now c.in_ok-z.z ring.ensures.field c.in_ok-order.ensures.order c.leading_term.ensures.monomial c.in_ok-z.ensures in
    leads-more s c.args.cut.now k h c.elements.leads.items c.push.new.self.items c.in_ok-z.z low here c.elements.invariant c.in_ok-push.ensures.items is

pub returns : goal.returns
returns c = c.elements.invariant ∙ ap (map (lead_in_z c.args.system.now.system)) (take_all c.elements.h-index c.args.cut.now c.elements-test.false)
