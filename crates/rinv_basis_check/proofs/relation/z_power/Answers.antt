use Rattle.std.proofs.Common.{◌≡◌, ℕ, ◌≤◌, List, ◌++◌, length, replicate, ap, ap₂, ◌∙◌, subst, arith}
use Rattle.rinv_basis_check.proofs.PairMultiples.{one-distinct}
use Rattle.rinv_basis_check.proofs.RelationTerms.{made-length, made-normal, made-same}
use Rattle.rinv_basis_check.proofs.relation.z_power.Goals as goal

pub from_exponents-requires : goal.from_exponents-requires
from_exponents-requires c =
    let g = c.args.rings.now.group in
    let n = c.args.rings.now.space.vars in
    let es = c.args.exponents.now in
    let whole : c.deref-2.result.now ≡ (replicate g 0 ++ es) ++ replicate (length es) 0 =
    c.deref-2.ensures.value ∙ c.in_ok-extend_from_slice-2.ensures.items
    ∙ ap₂ (λ (xs ys : List ℕ). xs ++ ys) (c.in_ok-extend_from_slice.ensures.items ∙ ap (λ (xs : List ℕ). xs ++ es) (c.in_ok-list.ensures.items_if_clones_equal (λ y h. h))) (c.deref.ensures.value ∙ c.in_ok-after.ensures.items_if_clones_equal (λ y h. h)) in
    let long : length c.deref-2.result.now ≡ c.args.rings.now.graph.vars = made-length g n es c.deref-2.result.now c.requires whole c.args.rings.now.graph.vars c.args.rings.now.vars in
    let few = c.args.rings.now.few in
    let vars = c.args.rings.now.vars in
    omega (arith, long, few, vars)

pub from_distinct-requires-clause-terms : goal.from_distinct-requires-clause-terms
from_distinct-requires-clause-terms c =
    let g = c.args.rings.now.group in
    let n = c.args.rings.now.space.vars in
    let es = c.args.exponents.now in
    let whole : c.deref-2.result.now ≡ (replicate g 0 ++ es) ++ replicate (length es) 0 =
    c.deref-2.ensures.value ∙ c.in_ok-extend_from_slice-2.ensures.items
    ∙ ap₂ (λ (xs ys : List ℕ). xs ++ ys) (c.in_ok-extend_from_slice.ensures.items ∙ ap (λ (xs : List ℕ). xs ++ es) (c.in_ok-list.ensures.items_if_clones_equal (λ y h. h))) (c.deref.ensures.value ∙ c.in_ok-after.ensures.items_if_clones_equal (λ y h. h)) in
    let monomial : c.in-Some.monomial ≡ c.deref-2.result.now = rw c.in-Some.is at c.in_ok-monomial.ensures.some in
    let two : 2 ≤ c.args.rings.now.graph.coeffs = subst (λ (p : ℕ). 2 ≤ p) c.coeffs.ensures c.modulus-p.ensures.least in
    made-normal g n es c.in-Some.monomial c.requires (monomial ∙ whole) c.args.rings.now.graph.coeffs c.args.rings.now.graph.vars c.args.rings.now.vars two c.in_ok-terms.terms.items c.in_ok-terms.ensures.items

pub from_distinct-requires-clause-distinct : goal.from_distinct-requires-clause-distinct
from_distinct-requires-clause-distinct c = rw c.in_ok-terms.ensures.items (one-distinct c.in-Some.monomial)

pub returns-clause-value : goal.returns-clause-value
returns-clause-value c =
    let g = c.args.rings.now.group in
    let n = c.args.rings.now.space.vars in
    let es = c.args.exponents.now in
    let whole : c.deref-2.result.now ≡ (replicate g 0 ++ es) ++ replicate (length es) 0 =
    c.deref-2.ensures.value ∙ c.in_ok-extend_from_slice-2.ensures.items
    ∙ ap₂ (λ (xs ys : List ℕ). xs ++ ys) (c.in_ok-extend_from_slice.ensures.items ∙ ap (λ (xs : List ℕ). xs ++ es) (c.in_ok-list.ensures.items_if_clones_equal (λ y h. h))) (c.deref.ensures.value ∙ c.in_ok-after.ensures.items_if_clones_equal (λ y h. h)) in
    let monomial : c.in-Some.monomial ≡ c.deref-2.result.now = rw c.in-Some.is at c.in_ok-monomial.ensures.some in
    made-same g n es c.in-Some.monomial c.requires (monomial ∙ whole) c.args.rings.now.graph.coeffs c.in_ok-power.power c.in_ok-terms.terms.items c.in_ok-terms.ensures.items c.in_ok-power.ensures.value
