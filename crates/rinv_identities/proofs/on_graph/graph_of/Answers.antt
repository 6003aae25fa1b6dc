use Rattle.std.proofs.Common.{◌≡◌, ◌∙◌, ◌+◌, List, length, refl, sym, ap, arith}
use Rattle.rinv_defs.specs.System.{Poly}
use Rattle.rinv_cert.specs.Seen.{plain}
use Rattle.rinv_parts.proofs.Stored.{normal-over, stored-normal, stored-over}
use Rattle.rinv_identities.proofs.GraphEquations.{point-stored, point-count}
use Rattle.rinv_identities.proofs.SeenParts.{action-count, action-normal, ideal-normal, same-list}
use Rattle.rinv_identities.proofs.on_graph.graph_of.Goals as goal

pub graph_point-requires-clause-action : goal.graph_point-requires-clause-action
graph_point-requires-clause-action c =
    let sizes = c.sizes_in-sizes.ensures in
    let s = c.args.stored.now.system in
    normal-over c.new-whole.result.coeffs s.field c.new-whole.result.vars (length s.group + length s.space) c.as_slice.result.now s.action (c.new-whole.ensures.ring ∙ sizes.field) (c.new-whole.ensures.count ∙ sizes.whole) c.as_slice.ensures
    (action-normal c.args.stored.now c.requires)

pub widened_ideal-requires-clause-polynomials : goal.widened_ideal-requires-clause-polynomials
widened_ideal-requires-clause-polynomials c =
    let sizes = c.sizes_in-sizes.ensures in
    let s = c.args.stored.now.system in
    normal-over c.new-whole.result.coeffs s.field c.new-group.result.vars (length s.group) c.as_slice-2.result.now s.ideal (c.new-whole.ensures.ring ∙ sizes.field) (c.new-group.ensures.count ∙ sizes.group) c.as_slice-2.ensures
    (ideal-normal c.args.stored.now c.requires)

pub invariant_of-result : goal.invariant_of-result
invariant_of-result c =
    let sizes = c.sizes_in-sizes.ensures in
    let z = c.sizes_in-sizes.result in
    let s = c.args.stored.now.system in
    let p = c.new-whole.result.coeffs in
    let v = c.new-whole.result.vars in
    let many : length c.as_slice.result.now ≡ z.space = ap (λ (fs : List Poly). length fs) c.as_slice.ensures ∙ action-count c.args.stored.now c.requires ∙ sym sizes.space in
    record {
      field = c.new-ring.ensures.ring ∙ sym c.new-whole.ensures.ring;
      many = omega (arith, point-count p z.group z.space v c.as_slice.result.now c.in_ok-point.point.items many c.in_ok-point.ensures, c.new-ring.ensures.count, sizes.graph, sizes.group, sizes.space);
      coordinates = stored-normal p v _ c.in_ok-point.point.items c.in_ok-point.ensures;
      generators = stored-normal p v _ c.in_ok-ideal.ideal.items c.in_ok-ideal.ensures;
    }

pub returns : goal.returns
returns c =
    let sizes = c.sizes_in-sizes.ensures in
    let z = c.sizes_in-sizes.result in
    let s = c.args.stored.now.system in
    let field : c.new-whole.result.coeffs ≡ s.field = c.new-whole.ensures.ring ∙ sizes.field in
    record {
      field = field;
      whole = c.new-whole.ensures.count ∙ sizes.whole;
      ring = c.new-ring.ensures.count ∙ sizes.graph;
      point = point-stored (plain c.args.stored.now).system c.new-whole.result.coeffs z.group z.space c.new-whole.result.vars c.as_slice.result.now c.in_ok-point.point.items field sizes.group sizes.space (c.as_slice.ensures ∙ sym (same-list s.action)) c.in_ok-point.ensures;
      ideal = stored-over s.field c.new-whole.result.coeffs _ c.new-whole.result.vars _ c.in_ok-ideal.ideal.items c.as_slice-2.result.now c.in_ok-ideal.ideal.items (sym field) refl (same-list s.ideal ∙ sym c.as_slice-2.ensures) refl c.in_ok-ideal.ensures;
    }
