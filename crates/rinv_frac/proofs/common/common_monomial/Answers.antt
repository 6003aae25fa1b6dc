use Rattle.std.proofs.Common.{ℕ, ◌<◌, ◌∙◌, sym, ap, subst, length, get_or, nat_lt, arith}
use Rattle.rinv_algebra.specs.Residue.{residue_ops}
use Rattle.rinv_algebra.specs.Polynomial.{Polynomial}
use Rattle.rinv_algebra.proofs.ResidueLaws.{residue_laws}
use Rattle.rinv_poly.proofs.NormalFacts.{some-term}
use Rattle.rinv_frac.specs.Exponents.{IsLeast}
use Rattle.rinv_frac.proofs.LeastExponents.{common-divides}
use Rattle.rinv_frac.proofs.common.common_monomial.Goals as goal

pub unreachable-requires : goal.unreachable-requires
unreachable-requires c =
    let p = c.args.ring.now.coeffs in
    let some : 0 < length c.args.den.now = some-term (residue_ops p) (residue_laws p) (λ x. nat_lt x p) c.args.ring.now.vars c.args.den.now c.requires.nonzero in
    omega (arith, some, c.in_default.ensures.cases, ap length c.terms.ensures.value)

pub returns-clause-greatest : goal.returns-clause-greatest
returns-clause-greatest c =
    let p = c.args.ring.now.coeffs in
    let v = c.args.ring.now.vars in
    let t = c.in-Some.field-0-0.now in
    let all = c.in_ok-exponents.exponents.items in
    let here = subst (λ (n : ℕ). (k : ℕ) → k < n → IsLeast t.0 c.terms-2.result.now c.terms-3.result.now k (get_or all k 0)) c.vars.ensures c.in_ok-exponents.ensures.least in
    let left = subst (λ (f : Polynomial ℕ). (k : ℕ) → k < v → IsLeast t.0 f c.terms-3.result.now k (get_or all k 0)) c.terms-2.ensures.value here in
    let both = subst (λ (g : Polynomial ℕ). (k : ℕ) → k < v → IsLeast t.0 c.args.num.now g k (get_or all k 0)) c.terms-3.ensures.value left in
    common-divides p v c.args.num.now c.args.den.now t c.in-Some.field-0-1.now (sym c.terms.ensures.value ∙ c.in-Some.ensures.cases.0) c.requires.numerator c.requires.denominator all (c.in_ok-exponents.ensures.len ∙ c.vars.ensures) both c.in_ok-common.common (c.in_ok-common.ensures ∙ c.deref.ensures.value)
