use Rattle.std.proofs.Common.{◌≡◌, ◌∙◌, ◌<◌, ◌+◌, ℕ, List, length, map, take_all, get_or, sym, ap, subst, arith}
use Rattle.rinv_algebra.specs.Polynomial.{past}
use Rattle.rinv_defs.specs.System.{Poly, group_count}
use Rattle.rinv_text.specs.Told.{Told}
use Rattle.rinv_parts.specs.Points.{AreStored}
use Rattle.rinv_parts.proofs.Stored.{stored-more}
use Rattle.rinv_reduction.specs.Localised.{all_count}
use Rattle.rinv_action.proofs.Generators.{normal-at, section-normal, stored-one, stored-is}
use Rattle.rinv_action.proofs.inputs.section_in_z.Goals as goal

pub polynomials-init : goal.polynomials-init
polynomials-init c = rw c.new-section.ensures.items tt

pub behind-requires-clause-polynomial : goal.behind-requires-clause-polynomial
behind-requires-clause-polynomial c =
    let s = c.args.system.now.system in
    let k = c.polynomials.k in
    let l : c.len-group.result ≡ length s.group = c.len-group.ensures.len ∙ ap (λ (t : Told). length t.system.group) c.system.view_is in
    let n : c.len-space.result ≡ length s.space = c.len-space.ensures.len ∙ ap (λ (t : Told). length t.system.space) c.system.view_is in
    let f = c.index.result.now in
    let many = ap (λ (t : Told). length t.system.section) c.system.view_is in
    let low : k < length s.section = omega (arith, c.polynomials-test.true, c.len-k-end.ensures, many) in
    let here : f ≡ get_or s.section k f = c.index.ensures ∙ ap (λ (t : Told). get_or t.system.section k f) c.system.view_is in
    normal-at c.new-from.result.coeffs s.p c.new-from.result.vars (length s.space) s.section k f (c.new-from.ensures.ring ∙ ap (λ (t : Told). t.system.p) c.system.view_is) (c.new-from.ensures.count ∙ n) low here (section-normal s c.requires.system)

pub behind-requires-clause-ring : goal.behind-requires-clause-ring
behind-requires-clause-ring c = c.new-through.ensures.ring ∙ sym c.new-from.ensures.ring

pub behind-requires-clause-count : goal.behind-requires-clause-count
behind-requires-clause-count c = c.new-through.ensures.count ∙ ap (λ (j : ℕ). c.len-group.result + j) (sym c.new-from.ensures.count)

pub widened-requires-clause-coeffs : goal.widened-requires-clause-coeffs
widened-requires-clause-coeffs c = c.new-through.ensures.ring ∙ ap (λ (t : Told). t.system.p) c.system.view_is ∙ sym c.requires.field

pub widened-requires-clause-more : goal.widened-requires-clause-more
widened-requires-clause-more c =
    let s = c.args.system.now.system in
    let l : c.len-group.result ≡ length s.group = c.len-group.ensures.len ∙ ap (λ (t : Told). length t.system.group) c.system.view_is in
    let n : c.len-space.result ≡ length s.space = c.len-space.ensures.len ∙ ap (λ (t : Told). length t.system.space) c.system.view_is in
    omega (arith, c.new-through.ensures.count, l, n, c.requires.vars)

pub polynomials-preserved : goal.polynomials-preserved
polynomials-preserved c =
    let s = c.args.system.now.system in
    let k = c.polynomials.k in
    let l : c.len-group.result ≡ length s.group = c.len-group.ensures.len ∙ ap (λ (t : Told). length t.system.group) c.system.view_is in
    let n : c.len-space.result ≡ length s.space = c.len-space.ensures.len ∙ ap (λ (t : Told). length t.system.space) c.system.view_is in
    let f = c.index.result.now in
    let many = ap (λ (t : Told). length t.system.section) c.system.view_is in
    let low : k < length s.section = omega (arith, c.polynomials-test.true, c.len-k-end.ensures, many) in
    let here : f ≡ get_or s.section k f = c.index.ensures ∙ ap (λ (t : Told). get_or t.system.section k f) c.system.view_is in
    let g = c.in_ok-f.f in
    let moved : c.in_ok-moved.moved ≡ past (group_count s) f = c.in_ok-moved.ensures.value ∙ ap (λ (j : ℕ). past j f) l in
    rw c.in_ok-push.ensures.items (stored-more s.p (all_count s) (past (group_count s)) s.section k f c.polynomials.section.items g low here c.polynomials.invariant
    (stored-is s.p (all_count s) c.in_ok-moved.moved (past (group_count s) f) g moved (stored-one c.args.ring.now.coeffs s.p c.args.ring.now.vars (all_count s) c.in_ok-moved.moved g c.requires.field c.requires.vars c.in_ok-f.ensures.element c.in_ok-f.ensures.value)))

pub returns : goal.returns
returns c =
    let s = c.args.system.now.system in
    let many = ap (λ (t : Told). length t.system.section) c.system.view_is in
    subst (λ (fs : List Poly). AreStored s.p (all_count s) (map (past (group_count s)) fs) c.polynomials.section.items) (take_all c.polynomials.k s.section (omega (arith, c.polynomials-test.false, c.len-k-end.ensures, many))) c.polynomials.invariant
