use Rattle.std.proofs.Common.{◌≡◌, ℕ, ◌+◌, ◌<◌, [], length, map, get_or, drop, take, ◌==◌, nat_lt, sym, ap, ◌∙◌, arith}
use Rattle.std.specs.List.{list_all}
use Rattle.rinv_algebra.specs.Residue.{residue_ops}
use Rattle.rinv_algebra.specs.Monomial.{total_degree}
use Rattle.rinv_algebra.specs.Polynomial.{Term}
use Rattle.rinv_poly.proofs.Forms.{ordered-from_normal}
use Rattle.rinv_basis_check.proofs.Combinations.{all-next, all-fails, all-ends}
use Rattle.rinv_basis_check.proofs.LeadTests.{monomials-are, monomial-at, monomials-past}
use Rattle.rinv_basis_check.proofs.leads.is_free_of_group.Goals as goal

pub has_none_of_first-requires : goal.has_none_of_first-requires
has_none_of_first-requires c =
    let b = c.args.basis.now in
    let d : Term ℕ = ([], 0) in
    let few : c.terms.k < length c.args.f.now = omega (arith, c.terms-test.true, c.len-k-end.ensures) in
    let vars : length (get_or c.args.f.now c.terms.k d).0 ≡ b.ring.vars = ((ordered-from_normal (residue_ops b.ring.coeffs) (λ x. nat_lt x b.ring.coeffs) b.ring.vars c.args.f.now c.requires.polynomial).terms c.terms.k d few).vars in
    let here : length c.mono.result.now ≡ b.ring.vars = ap length (c.mono.ensures d) ∙ vars in
    omega (arith, here, c.requires.few)

pub returns-then-not-has_none_of_first : goal.returns-then-not-has_none_of_first
returns-then-not-has_none_of_first c =
    let b = c.args.basis.now in
    let d : Term ℕ = ([], 0) in
    let few : c.terms.k < length c.args.f.now = omega (arith, c.terms-test.true, c.len-k-end.ensures) in
    all-fails (λ m. total_degree (take c.args.group m) == 0) (get_or c.args.f.now c.terms.k d).0 (drop c.terms.k (map (λ t. t.0) c.args.f.now)) (drop (c.terms.k + 1) (map (λ t. t.0) c.args.f.now)) (list_all (λ m. total_degree (take c.args.group m) == 0) (map (λ t. t.0) c.args.f.now))
    (monomial-at c.args.f.now c.terms.k d few) (sym (c.has_none_of_first.ensures ∙ ap (λ m. total_degree (take c.args.group m) == 0) (c.mono.ensures d)) ∙ c.if-not-has_none_of_first.true) c.terms.invariant
    ∙ ap (list_all (λ m. total_degree (take c.args.group m) == 0)) (sym (monomials-are b.ring.coeffs b.ring.vars c.args.f.now c.requires.polynomial))

pub terms-preserved : goal.terms-preserved
terms-preserved c =
    let d : Term ℕ = ([], 0) in
    let few : c.terms.k < length c.args.f.now = omega (arith, c.terms-test.true, c.len-k-end.ensures) in
    all-next (λ m. total_degree (take c.args.group m) == 0) (get_or c.args.f.now c.terms.k d).0 (drop c.terms.k (map (λ t. t.0) c.args.f.now)) (drop (c.terms.k + 1) (map (λ t. t.0) c.args.f.now)) (list_all (λ m. total_degree (take c.args.group m) == 0) (map (λ t. t.0) c.args.f.now))
    (monomial-at c.args.f.now c.terms.k d few) (sym (c.has_none_of_first.ensures ∙ ap (λ m. total_degree (take c.args.group m) == 0) (c.mono.ensures d)) ∙ c.if-not-has_none_of_first.false) c.terms.invariant

pub returns : goal.returns
returns c =
    let b = c.args.basis.now in
    all-ends (λ m. total_degree (take c.args.group m) == 0) c.terms.k (map (λ t. t.0) c.args.f.now) (list_all (λ m. total_degree (take c.args.group m) == 0) (map (λ t. t.0) c.args.f.now)) (monomials-past c.args.f.now c.terms.k (omega (arith, c.terms-test.false, c.len-k-end.ensures))) c.terms.invariant
    ∙ ap (list_all (λ m. total_degree (take c.args.group m) == 0)) (sym (monomials-are b.ring.coeffs b.ring.vars c.args.f.now c.requires.polynomial))
