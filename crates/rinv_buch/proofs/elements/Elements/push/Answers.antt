use Rattle.std.proofs.Common.{◌≡◌, ◌∙◌, length, rules}
use Rattle.rinv_buch.specs.declared.elements.Elements.{Elements}
use Rattle.rinv_buch.proofs.AddedElements.{added-lead, adds-element}
use Rattle.rinv_buch.proofs.elements.Elements.push.Goals as goal

pub returns : goal.returns
returns g c =
    let o = g.F.Ring.ops c.args.ring.now.coeffs in
    let l = g.F.Ring.laws c.args.ring.now.coeffs in
    let e = g.F.Ring.is_element c.args.ring.now.coeffs in
    let v = c.args.ring.now.vars in
    let cmp = g.O.MonoOrder.cmp c.args.order.now in
    let laws = g.O.MonoOrder.laws c.args.order.now in
    let p = c.requires.prepared in
    let after : Elements _ _ = record { polys = c.push-3.new.self; leads = c.push-2.new.self; divisors = c.push.new.self } in
    let at : c.len-place.result ≡ length c.args.self.now.polys.items = search rules in
    let lead = added-lead o l e v cmp laws c.args.self.now.polys.items c.args.h c.args.self.now.divisors.list.items c.push.new.self.list.items p.divisors c.in_ok-push.ensures c.len-place.result c.lead.result.now at c.lead.ensures in
    adds-element o l e v cmp laws c.args.h c.args.self.now after c.in_ok-lead.lead p c.requires.polynomial c.in_ok-push.ensures (c.in_ok-lead.ensures ∙ lead) c.in_ok-push-3.ensures.items c.in_ok-push-2.ensures.items
