-- Worked examples of this crate's ways of proof: docs/ALGEBRA.md speaks of them.
use Rattle.std.proofs.Common.{◌≡◌, ℕ, List, [], ◌∷◌, get_or, refl, sym, ap, ◌∙◌}
use Rattle.rinv_algebra.specs.Ring.{RingOps, RingLaws, FieldLaws, IsSame}
use Rattle.rinv_algebra.specs.Polynomial.{Polynomial, poly_ops, product}
use Rattle.rinv_algebra.specs.Fraction.{fraction_ops}
use Rattle.rinv_algebra.proofs.PolynomialLaws.{poly_laws}
use mathlib.Core.Logic.{∥∥₁_elim, ∥∥₁_prop}
use Rattle.rinv_theory.proofs.CRing.{CRing, Hom, compose, by, add_cancel, add_neg, mul_one}
use Rattle.rinv_theory.proofs.Classes.{Class, class, class_sound, class_exact, class-mul, class-zero}
use Rattle.rinv_theory.proofs.Polynomials.{poly_ring, polynomials}
use Rattle.rinv_theory.proofs.Monoid.{monomials}
use Rattle.rinv_theory.proofs.TermRing.{TermRing, constants}
use Rattle.rinv_theory.proofs.Substitution.{substitution, substitution-term, substitution-variable, monomial_at-one, variable_monomial, agree_variables}
use Rattle.rinv_theory.proofs.Domain.{IsDomain}
use Rattle.rinv_theory.proofs.Of.{of_any}
use Rattle.rinv_theory.proofs.Fields.{poly_domain, fraction_laws}
use Rattle.rinv_theory.proofs.Fractions.{polynomial_fractions, Cleared, clear}
use Rattle.rinv_theory.proofs.Solver.{ring, reading}
use Rattle.rinv_theory.proofs.AlikeSolver.{alike_ring, alike_by, alike_reading}

module _ {R : Type 0} (𝓡 : CRing R) where
  open 𝓡 use {add as ◌+◌, mul as ◌*◌, neg as -◌}

  infixl 60 ◌+◌
  infixl 70 ◌*◌
  infix 80 -◌
  -- an identity: two S-polynomials make a third
  telescope : (ci cj ck si sj sk hi hj hk : R) → ck * (cj * si * hi + - (ci * sj * hj)) ≡ cj * (ck * si * hi + - (ci * sk * hk)) + ci * (cj * sk * hk + - (ck * sj * hj))
  telescope ci cj ck si sj sk hi hj hk = ring 𝓡 (ci ∷ cj ∷ ck ∷ si ∷ sj ∷ sk ∷ hi ∷ hj ∷ hk ∷ []) (search reading depth 30) refl

  -- a linear combination: from n*e = m*d, the same with both sides times k
  scaled : (n d m e k : R) → n * e ≡ m * d → k * n * e ≡ m * (d * k)
  scaled n d m e k h = by 𝓡 (n * e) (m * d) k _ _ h (ring 𝓡 (n ∷ d ∷ m ∷ e ∷ k ∷ []) (search reading depth 30) refl)

module _ {E : Type 0} (o : RingOps E) (l : RingLaws o) where
  -- an identity up to a tested sameness; the contract of `difference_of_squares` is it, over residues
  pub squares : (a b : E) → IsSame o (o.add (o.mul a a) (o.neg (o.mul b b))) (o.mul (o.add a b) (o.add a (o.neg b)))
  squares a b = alike_ring o l (a ∷ b ∷ []) (search alike_reading depth 30) refl

  -- and a linear combination
  same_scaled : (n d m e k : E) → IsSame o (o.mul n e) (o.mul m d) → IsSame o (o.mul (o.mul k n) e) (o.mul m (o.mul d k))
  same_scaled n d m e k h = alike_by o l (o.mul n e) (o.mul m d) k _ _ h (alike_ring o l (n ∷ d ∷ m ∷ e ∷ k ∷ []) (search alike_reading depth 30) refl)

-- from values of the code to honest rings and back: over a field, a factor that is not zero cancels
module _ {E : Type 0} (o : RingOps E) (l : RingLaws o) (field : FieldLaws o) where
  abbrev poly : Polynomial E → Class (poly_ops o)
  poly f = class (poly_ops o) f

  cancelled : {R : Type 0} (𝓡 : CRing R) → IsDomain 𝓡 → (g h f : R) → (f ≡ 𝓡.zero → ⊥) → 𝓡.mul g f ≡ 𝓡.mul h f → g ≡ h
  cancelled 𝓡 domain g h f nonzero e = add_cancel 𝓡 g h (𝓡.neg h) (domain.no_divisors _ f difference nonzero ∙ sym (add_neg 𝓡 h))
    where
      difference : 𝓡.mul (𝓡.add g (𝓡.neg h)) f ≡ 𝓡.zero
      difference = by 𝓡 (𝓡.mul g f) (𝓡.mul h f) 𝓡.one _ _ e (ring 𝓡 (g ∷ h ∷ f ∷ []) (search reading depth 30) refl)

  product-cancel : (g h f : Polynomial E) → ¬ (IsSame (poly_ops o) f []) → IsSame (poly_ops o) (product o g f) (product o h f) → IsSame (poly_ops o) g h
  product-cancel g h f nonzero s = class_exact (poly_ops o) (poly_laws o l) g h (cancelled (poly_ring o l) (poly_domain o l field) (poly g) (poly h) (poly f) not_zero products)
    where
      not_zero : poly f ≡ (poly_ring o l).zero → ⊥
      not_zero e = nonzero (class_exact (poly_ops o) (poly_laws o l) f [] (e ∙ sym (class-zero (poly_ops o) (poly_laws o l))))

      products : (poly_ring o l).mul (poly g) (poly f) ≡ (poly_ring o l).mul (poly h) (poly f)
      products = sym (class-mul (poly_ops o) (poly_laws o l) g f) ∙ class_sound (poly_ops o) (poly_laws o l) _ _ s ∙ class-mul (poly_ops o) (poly_laws o l) h f

-- the universal property: two maps that undo each other at the variables undo each other
undone : {K P : Type 0} {𝓚 : CRing K} (𝓣 : TermRing 𝓚 monomials P) (there back : List P)
    → ((k : ℕ) → (substitution 𝓣 𝓣.ring (constants 𝓣) back).at (get_or there k 𝓣.ring.one) ≡ 𝓣.term 𝓚.one (variable_monomial k))
    → (x : P) → (substitution 𝓣 𝓣.ring (constants 𝓣) back).at ((substitution 𝓣 𝓣.ring (constants 𝓣) there).at x) ≡ x
unfolding compose constants
undone {K = K} {P = P} {𝓚 = 𝓚} 𝓣 there back at_variables =
    agree_variables 𝓣 𝓣.ring (compose β α) identity (λ c. ap β.at (at_constant there c) ∙ at_constant back c) (λ k. ap β.at (substitution-variable 𝓣 𝓣.ring (constants 𝓣) there k) ∙ at_variables k)
  where
    α : Hom 𝓣.ring 𝓣.ring
    α = substitution 𝓣 𝓣.ring (constants 𝓣) there

    β : Hom 𝓣.ring 𝓣.ring
    β = substitution 𝓣 𝓣.ring (constants 𝓣) back

    identity : Hom 𝓣.ring 𝓣.ring
    identity = record { at = λ x. x; add = λ x y. refl; mul = λ x y. refl; one = refl }

    at_constant : (point : List P) (c : K) → (substitution 𝓣 𝓣.ring (constants 𝓣) point).at (𝓣.term c monomials.one) ≡ 𝓣.term c monomials.one
    at_constant point c = substitution-term 𝓣 𝓣.ring (constants 𝓣) point c monomials.one ∙ ap (𝓣.ring.mul _) (monomial_at-one 𝓣.ring point) ∙ mul_one 𝓣.ring _

-- clearing of denominators, at polynomials over the fractions of polynomials over a field
cleared : {E : Type 0} (o : RingOps E) (l : RingLaws o) (f : FieldLaws o) (x : Class (poly_ops (fraction_ops o))) → ∥ Cleared (poly_domain o l f) (polynomial_fractions o l f) (polynomials (poly_ops o) (poly_laws o l)) (polynomials (fraction_ops o) (fraction_laws o l f)) (λ n. Unit {0}) x ∥₁
cleared o l f x = ∥∥₁_elim (of_any (polynomials (fraction_ops o) (fraction_laws o l f)) x) ∥∥₁_prop (clear (poly_domain o l f) (polynomial_fractions o l f) (polynomials (poly_ops o) (poly_laws o l)) (polynomials (fraction_ops o) (fraction_laws o l f)))
