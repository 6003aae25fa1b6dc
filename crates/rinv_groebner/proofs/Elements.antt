-- Elements with their leading terms: what the theory of bases is told of a list of polynomials.
--   Elements 𝓣 𝓞 I       elements, their leading monomials, leading coefficients with inverses, and tails below the leading monomials
--   element-of, element-lead, element-leads    the monomials of an element are up to its leading monomial, which leads it
--   IsBelow 𝓗 m, IsUp 𝓗 m    sums of multiples whose greatest monomials are below m, or up to it
--   multiples-of         the monomials of a sum of multiples
use Rattle.std.proofs.Common.{◌≡◌, Bool, true, false, cond, refl, sym, ◌∙◌, ap, ap₂, subst, inl, inr, true≢false}
use Rattle.rinv_theory.proofs.CRing.{CRing, add_zero, mul_zero}
use Rattle.rinv_theory.proofs.Monoid.{Monoid}
use Rattle.rinv_theory.proofs.TermRing.{TermRing}
use Rattle.rinv_theory.proofs.Of.{Of, of-add, of-times, of-weaken, of-coefficient}
use Rattle.rinv_theory.proofs.Leads.{MonomialOrder, IsUpTo, Leads, below-ne, upto-below, mul-upto}
use Rattle.rinv_groebner.proofs.Multiples.{Multiples}

-- elements with their leading terms
pub record Elements {K M P : Type 0} {𝓚 : CRing K} {𝓜 : Monoid M} (𝓣 : TermRing 𝓚 𝓜 P) (𝓞 : MonomialOrder 𝓜) (I : Type 0) : Type 0 where
  pub element : I → P
  pub lead : I → M
  pub lead_coefficient : I → K
  pub tail : I → P
  pub inverse : I → K
  pub whole : (k : I) → element k ≡ 𝓣.ring.add (𝓣.term (lead_coefficient k) (lead k)) (tail k)
  pub tail_below : (k : I) → Of 𝓣 (λ n. 𝓞.below n (lead k)) (tail k)
  pub inverse_mul : (k : I) → 𝓚.mul (inverse k) (lead_coefficient k) ≡ 𝓚.one

module _ {K M P I : Type 0} {𝓚 : CRing K} {𝓜 : Monoid M} {𝓣 : TermRing 𝓚 𝓜 P} {𝓞 : MonomialOrder 𝓜} (𝓗 : Elements 𝓣 𝓞 I) where
  -- sums of multiples below m
  abbrev pub IsBelow : M → P → Type 0
  IsBelow m = Multiples 𝓣 𝓗.element 𝓗.lead (λ n. 𝓞.below n m)

  -- sums of multiples up to m
  abbrev pub IsUp : M → P → Type 0
  IsUp m = Multiples 𝓣 𝓗.element 𝓗.lead (λ n. IsUpTo 𝓞 n m)

  -- the monomials of an element are up to its leading monomial
  pub element-of : (k : I) → Of 𝓣 (λ n. IsUpTo 𝓞 n (𝓗.lead k)) (𝓗.element k)
  element-of k = subst (Of 𝓣 (λ n. IsUpTo 𝓞 n (𝓗.lead k))) (sym (𝓗.whole k)) (Of.more (𝓗.lead_coefficient k) (𝓗.lead k) (inr refl) (of-weaken 𝓣 (λ n q. inl q) (𝓗.tail_below k)))

  -- the coefficient there
  pub element-lead : (k : I) → 𝓣.coefficient (𝓗.element k) (𝓗.lead k) ≡ 𝓗.lead_coefficient k
  element-lead k =
      ap (λ x. 𝓣.coefficient x (𝓗.lead k)) (𝓗.whole k) ∙ 𝓣.coefficient_add _ _ _
      ∙ ap₂ 𝓚.add (𝓣.coefficient_term _ _ _ ∙ go (𝓜.same (𝓗.lead k) (𝓗.lead k)) (𝓜.same_refl (𝓗.lead k))) (of-coefficient 𝓣 {Q = λ n. 𝓞.below n (𝓗.lead k)} (𝓗.lead k) (λ n q. below-ne 𝓞 n (𝓗.lead k) q) (𝓗.tail_below k)) ∙ add_zero 𝓚 _
    where
      go : (b : Bool) → b ≡ true → cond b (𝓗.lead_coefficient k) 𝓚.zero ≡ 𝓗.lead_coefficient k
      go true e = refl
      go false e = absurd (true≢false (sym e))

  -- a leading coefficient is not zero, where one is not
  pub lead_nonzero : (𝓚.one ≡ 𝓚.zero → ⊥) → (k : I) → 𝓗.lead_coefficient k ≡ 𝓚.zero → ⊥
  lead_nonzero n k z = n (sym (𝓗.inverse_mul k) ∙ ap (𝓚.mul (𝓗.inverse k)) z ∙ mul_zero 𝓚 _)

  -- the leading monomial leads
  pub element-leads : (𝓚.one ≡ 𝓚.zero → ⊥) → (k : I) → Leads 𝓣 𝓞 (𝓗.element k) (𝓗.lead k)
  element-leads n k = record {
    nonzero = λ z. lead_nonzero n k (sym (element-lead k) ∙ z);
    above = λ e h. of-coefficient 𝓣 {Q = λ n. IsUpTo 𝓞 n (𝓗.lead k)} e (λ x u i. 𝓞.irreflexive e (subst (λ y. 𝓞.below y e) i (upto-below 𝓞 x (𝓗.lead k) e u h))) (element-of k);
  }

  -- the monomials of a sum of multiples
  pub multiples-of : {Q Q' : M → Type 0} → ((n n' : M) → Q n → IsUpTo 𝓞 n' n → Q' n') → {f : P} → Multiples 𝓣 𝓗.element 𝓗.lead Q f → Of 𝓣 Q' f
  multiples-of w Multiples.none = Of.none
  multiples-of w (Multiples.more c t k q r) = of-add 𝓣 (of-times 𝓣 c t (λ n u. w _ _ q (mul-upto 𝓞 t n (𝓗.lead k) u)) (element-of k)) (multiples-of w r)
