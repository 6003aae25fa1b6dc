use Rattle.std.proofs.Common.{◌≡◌, ℕ, ◌<◌, ◌≤◌, List, length, map, false, nat_lt, sym, ap, ◌∙◌, subst, arith}
use Rattle.std.proofs.lemmas.List.{take_all}
use Rattle.std.proofs.lemmas.List.Elements.{All-get_or}
use Rattle.rinv_algebra.specs.Residue.{residue_ops}
use Rattle.rinv_algebra.specs.Order.{block_order}
use Rattle.rinv_algebra.specs.BlockEnds.{sizes_from, last_from}
use Rattle.rinv_algebra.specs.Polynomial.{is_zero}
use Rattle.rinv_algebra.specs.Normal.{IsNormal}
use Rattle.rinv_algebra.specs.Leading.{leading_monomial}
use Rattle.rinv_defs.specs.System.{Poly}
use Rattle.rinv_cert.specs.Seen.{plain, kind_of}
use Rattle.rinv_basis_check.proofs.BasisElements.{elements-normal, elements-nonzero, leads-more}
use Rattle.rinv_basis_check.proofs.elements.basis_of.Goals as goal

pub elements-init : goal.elements-init
elements-init c = c.new-leads.ensures.items

pub lead_of-requires-clause-polynomial : goal.lead_of-requires-clause-polynomial
lead_of-requires-clause-polynomial c =
    let p = c.new-ring.result.coeffs in
    let v = c.new-ring.result.vars in
    let es = c.in_ok-elements.elements.items in
    let few : c.elements.k < length es = omega (arith, c.elements-test.true, c.len-k-end.ensures) in
    let all = elements-normal (plain c.args.stored.now) (ap kind_of c.requires.kind) c.requires.form p v es (c.new-ring.ensures.ring ∙ c.sizes_in-sizes.ensures.field) (c.new-ring.ensures.count ∙ c.sizes_in-sizes.ensures.graph) c.in_ok-elements.ensures in
    subst (IsNormal (residue_ops p) (λ x. nat_lt x p) v) (sym c.index.ensures) (All-get_or (IsNormal (residue_ops p) (λ x. nat_lt x p) v) es c.elements.k c.index.result.now few all)

pub lead_of-requires-clause-nonzero : goal.lead_of-requires-clause-nonzero
lead_of-requires-clause-nonzero c =
    let p = c.new-ring.result.coeffs in
    let es = c.in_ok-elements.elements.items in
    let few : c.elements.k < length es = omega (arith, c.elements-test.true, c.len-k-end.ensures) in
    let all = elements-nonzero (plain c.args.stored.now) (ap kind_of c.requires.kind) c.requires.form p es (c.new-ring.ensures.ring ∙ c.sizes_in-sizes.ensures.field) c.in_ok-elements.ensures in
    subst (λ (f : Poly). is_zero (residue_ops p) f ≡ false) (sym c.index.ensures) (All-get_or (λ (f : Poly). is_zero (residue_ops p) f ≡ false) es c.elements.k c.index.result.now few all)

pub elements-preserved : goal.elements-preserved
elements-preserved c =
    let p = c.new-ring.result.coeffs in
    let es = c.in_ok-elements.elements.items in
    let few : c.elements.k < length es = omega (arith, c.elements-test.true, c.len-k-end.ensures) in
    c.in_ok-push.ensures.items
    ∙ leads-more (leading_monomial (residue_ops p) (block_order (sizes_from 0 c.order.inside.ends.items))) es c.elements.k c.index.result.now c.elements.leads.items c.in_ok-lead.lead few c.index.ensures
    (c.in_ok-lead.ensures ∙ c.lead_of.ensures.lead ∙ ap (λ (ends : List ℕ). leading_monomial (residue_ops p) (block_order (sizes_from 0 ends)) c.index.result.now) (sym c.order.view_is)) c.elements.invariant

pub invariant_of-result : goal.invariant_of-result
invariant_of-result c =
    let p = c.new-ring.result.coeffs in
    let v = c.new-ring.result.vars in
    let es = c.in_ok-elements.elements.items in
    let past : length es ≤ c.elements.k = omega (arith, c.elements-test.false, c.len-k-end.ensures) in
    let field = c.new-ring.ensures.ring ∙ c.sizes_in-sizes.ensures.field in
    record {
      polynomials = elements-normal (plain c.args.stored.now) (ap kind_of c.requires.kind) c.requires.form p v es field (c.new-ring.ensures.count ∙ c.sizes_in-sizes.ensures.graph) c.in_ok-elements.ensures;
      nonzero = elements-nonzero (plain c.args.stored.now) (ap kind_of c.requires.kind) c.requires.form p es field c.in_ok-elements.ensures;
      suits = c.new-ring.ensures.count ∙ sym (ap (last_from 0) c.in_ok-order.ensures);
      leading = c.elements.invariant ∙ ap (map (leading_monomial (residue_ops p) (block_order (sizes_from 0 c.order.inside.ends.items)))) (take_all c.elements.k es past)
          ∙ ap (λ (ends : List ℕ). map (leading_monomial (residue_ops p) (block_order (sizes_from 0 ends))) es) c.order.view_is;
    }
