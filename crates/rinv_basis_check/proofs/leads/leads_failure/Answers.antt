use Rattle.std.proofs.Common.{◌≡◌, ℕ, ◌<◌, [], length, map, get_or, not, false, Some, refl, sym, ap, ◌∙◌, subst, arith}
use Rattle.rinv_defs.specs.System.{Poly}
use Rattle.rinv_defs.specs.PairConditions.{leading}
use Rattle.rinv_defs.specs.RelationConditions.{is_covered}
use Rattle.rinv_cert.specs.Seen.{plain, kind_of, relation_item_by}
use Rattle.rinv_identities.proofs.Walks.{walk-more, walk-stop, walk-end}
use Rattle.rinv_basis_check.proofs.StoredElements.{leads-many, lead-length, lead-of, leading-is}
use Rattle.rinv_basis_check.proofs.MultiplierTerms.{own}
use Rattle.rinv_basis_check.proofs.CoveredLeads.{covered, uncovered, unfree, leads-walk}
use Rattle.rinv_basis_check.proofs.RelationForms.{relation-leads}
use Rattle.rinv_basis_check.proofs.leads.leads_failure.Goals as goal
use Rattle.rinv_basis_check.proofs.leads.leads_failure.Goals.{else-is_free_of_group-via-then-is_free_of_group+else-not-is_covered, else-is_free_of_group-via-else-is_free_of_group}

pub is_covered-requires-clause-count : goal.is_covered-requires-clause-count
is_covered-requires-clause-count c =
    let b = c.args.basis.now in
    let few : c.elements.k < length b.elements.items = omega (arith, c.elements-test.true, c.len-k-end.ensures) in
    let many : c.elements.k < length b.leads.items = subst (λ (n : ℕ). c.elements.k < n) (sym (leads-many b)) few in
    let here : length c.index-then-is_free_of_group.result.now ≡ b.ring.vars = ap length (own b.leads.items c.elements.k c.index-then-is_free_of_group.result.now [] many c.index-then-is_free_of_group.ensures) ∙ lead-length b c.elements.k few in
    let vars = c.requires.basis.vars in
    let group = c.sizes_in-sizes.ensures.group in
    let space = c.sizes_in-sizes.ensures.space in
    omega (arith, here, vars, group, space)

pub is_covered-requires-clause-leads : goal.is_covered-requires-clause-leads
is_covered-requires-clause-leads c = relation-leads c.args.stored.now c.sizes_in-sizes.result c.sizes_in-sizes.ensures (ap kind_of c.requires.kind) c.requires.form c.as_slice-relations.result.now c.as_slice-relations.ensures

pub returns-then-not-is_covered : goal.returns-then-not-is_covered
returns-then-not-is_covered c =
    let b = c.args.basis.now in
    let cert = plain c.args.stored.now in
    let is = c.requires.basis in
    let few : c.elements.k < length b.elements.items = omega (arith, c.elements-test.true, c.len-k-end.ensures) in
    let many : c.elements.k < length b.leads.items = subst (λ (n : ℕ). c.elements.k < n) (sym (leads-many b)) few in
    let lead : c.index-then-is_free_of_group.result.now ≡ leading cert.system c.index.result.now =
    own b.leads.items c.elements.k c.index-then-is_free_of_group.result.now [] many c.index-then-is_free_of_group.ensures ∙ lead-of b c.elements.k few ∙ leading-is b cert is (get_or b.elements.items c.elements.k [])
    ∙ ap (leading cert.system) (sym (own b.elements.items c.elements.k c.index.result.now [] few c.index.ensures)) in
    ap Some c.in-Ok.ensures.1
    ∙ sym (walk-stop (λ (h : Poly). not (is_covered cert h)) b.elements.items c.elements.k c.index.result.now few c.index.ensures
    (uncovered cert c.index.result.now b.ring.coeffs c.sizes_in-sizes.result.group c.sizes_in-sizes.result.space c.index-then-is_free_of_group.result.now c.as_slice-relations.result.now is.field c.sizes_in-sizes.ensures.group c.sizes_in-sizes.ensures.space lead
    (ap (map (relation_item_by (λ f. f))) (sym c.as_slice-relations.ensures)) c.is_free_of_group.result c.is_covered.result c.is_free_of_group.ensures c.is_covered.ensures c.if-is_free_of_group.true c.if-not-is_covered.true) c.elements.invariant)
    ∙ sym (leads-walk cert b.elements.items is.elements)

pub elements-preserved : goal.elements-preserved
elements-preserved c =
    let b = c.args.basis.now in
    let cert = plain c.args.stored.now in
    let is = c.requires.basis in
    let few : c.elements.k < length b.elements.items = omega (arith, c.elements-test.true, c.len-k-end.ensures) in
    let many : c.elements.k < length b.leads.items = subst (λ (n : ℕ). c.elements.k < n) (sym (leads-many b)) few in
    let relations = ap (map (relation_item_by (λ f. f))) (sym c.as_slice-relations.ensures) in
    let passes : not (is_covered cert c.index.result.now) ≡ false =
    elim c.else-is_free_of_group.branch [
      | else-is_free_of_group-via-then-is_free_of_group+else-not-is_covered w ↦ covered cert c.index.result.now b.ring.coeffs c.sizes_in-sizes.result.group c.sizes_in-sizes.result.space w.index-then-is_free_of_group.result.now c.as_slice-relations.result.now
          is.field c.sizes_in-sizes.ensures.group c.sizes_in-sizes.ensures.space
          (own b.leads.items c.elements.k w.index-then-is_free_of_group.result.now [] many w.index-then-is_free_of_group.ensures ∙ lead-of b c.elements.k few ∙ leading-is b cert is (get_or b.elements.items c.elements.k []) ∙ ap (leading cert.system) (sym (own b.elements.items c.elements.k c.index.result.now [] few c.index.ensures)))
          relations w.is_covered.result w.is_covered.ensures w.if-not-is_covered.false
      | else-is_free_of_group-via-else-is_free_of_group w ↦ unfree cert c.index.result.now b.ring.coeffs c.sizes_in-sizes.result.group c.sizes_in-sizes.result.space (leading cert.system c.index.result.now) c.as_slice-relations.result.now
          is.field c.sizes_in-sizes.ensures.group c.sizes_in-sizes.ensures.space refl relations c.is_free_of_group.result c.is_free_of_group.ensures w.if-is_free_of_group.false
    ] in
    walk-more (λ (h : Poly). not (is_covered cert h)) b.elements.items c.elements.k c.index.result.now few c.index.ensures passes c.elements.invariant

pub returns : goal.returns
returns c =
    let b = c.args.basis.now in
    sym (walk-end (λ (h : Poly). not (is_covered (plain c.args.stored.now) h)) b.elements.items c.elements.k (omega (arith, c.elements-test.false, c.len-k-end.ensures)) c.elements.invariant) ∙ sym (leads-walk (plain c.args.stored.now) b.elements.items c.requires.basis.elements)
