use Rattle.std.proofs.Common.{◌≡◌, ◌∙◌, ◌<◌, length, get_or, sym, ap, arith}
use Rattle.rinv_text.specs.Told.{Told}
use Rattle.rinv_text.proofs.SystemParts.{parts-of}
use Rattle.rinv_reduction.specs.Localised.{all_count}
use Rattle.rinv_action.proofs.Generators.{stored-next, stored-whole, normal-at, stored-one}
use Rattle.rinv_action.proofs.inputs.group_ideal.Goals as goal

pub generators-init : goal.generators-init
generators-init c = rw c.new-ideal.ensures.items tt

pub widened-requires-clause-coeffs : goal.widened-requires-clause-coeffs
widened-requires-clause-coeffs c = c.new-from.ensures.ring ∙ ap (λ (t : Told). t.system.p) c.system.view_is ∙ sym c.requires.field

pub widened-requires-clause-more : goal.widened-requires-clause-more
widened-requires-clause-more c =
    let l = c.len.ensures.len ∙ ap (λ (t : Told). length t.system.group) c.system.view_is in
    omega (arith, c.new-from.ensures.count, l, c.requires.vars)

pub widened-requires-clause-polynomial : goal.widened-requires-clause-polynomial
widened-requires-clause-polynomial c =
    let s = c.args.system.now.system in
    let f = c.index.result.now in
    let k = c.generators.k in
    let l = c.len.ensures.len ∙ ap (λ (t : Told). length t.system.group) c.system.view_is in
    let many = ap (λ (t : Told). length t.system.ideal) c.system.view_is in
    let low : k < length s.ideal = omega (arith, c.generators-test.true, c.len-k-end.ensures, many) in
    let here : f ≡ get_or s.ideal k f = c.index.ensures ∙ ap (λ (t : Told). get_or t.system.ideal k f) c.system.view_is in
    normal-at c.new-from.result.coeffs s.p c.new-from.result.vars (length s.group) s.ideal k f (c.new-from.ensures.ring ∙ ap (λ (t : Told). t.system.p) c.system.view_is) (c.new-from.ensures.count ∙ l) low here (parts-of s c.requires.system).ideal

pub generators-preserved : goal.generators-preserved
generators-preserved c =
    let s = c.args.system.now.system in
    let f = c.index.result.now in
    let k = c.generators.k in
    let l = c.len.ensures.len ∙ ap (λ (t : Told). length t.system.group) c.system.view_is in
    let many = ap (λ (t : Told). length t.system.ideal) c.system.view_is in
    let low : k < length s.ideal = omega (arith, c.generators-test.true, c.len-k-end.ensures, many) in
    let here : f ≡ get_or s.ideal k f = c.index.ensures ∙ ap (λ (t : Told). get_or t.system.ideal k f) c.system.view_is in
    rw c.in_ok-push.ensures.items (stored-next s.p (all_count s) s.ideal k f c.generators.ideal.items c.in_ok-f.f low here c.generators.invariant (stored-one c.args.ring.now.coeffs s.p c.args.ring.now.vars (all_count s) f c.in_ok-f.f c.requires.field c.requires.vars c.in_ok-f.ensures.element c.in_ok-f.ensures.value))

pub returns : goal.returns
returns c =
    let s = c.args.system.now.system in
    let many = ap (λ (t : Told). length t.system.ideal) c.system.view_is in
    stored-whole s.p (all_count s) s.ideal c.generators.k c.generators.ideal.items (omega (arith, c.generators-test.false, c.len-k-end.ensures, many)) c.generators.invariant
