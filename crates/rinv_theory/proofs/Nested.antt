-- Polynomials in all variables as polynomials in the first k over polynomials in the others: K[Z,x] as K[x][Z].
--   nest                 the map of rings; nest-term
--   inner, flat          the inner polynomials among all; the map back
--   flat_nest            there and back is nothing
--   nest_injective, nest-member    so it is injective, and membership is the same in both
use Rattle.std.proofs.Common.{◌≡◌, ℕ, refl, sym, ◌∙◌, ap, ap₂, subst}
use Rattle.rinv_theory.proofs.CRing.{CRing, Hom, compose, mul_one}
use Rattle.rinv_theory.proofs.Monoid.{Monomial, monomials, monoid_map-one}
use Rattle.rinv_theory.proofs.TermRing.{TermRing, constants, constants-at, constant-term, monomial-term}
use Rattle.rinv_theory.proofs.Universal.{evaluation, evaluation-term, agree, relabel, relabel-term}
use Rattle.rinv_theory.proofs.Ideals.{In, in_one, in-in, in-hom}
use Rattle.rinv_theory.proofs.Places.{front, back, behind, front-mul, back-mul, behind-mul, front_behind}

module _ {K P D S : Type 0} {𝓚 : CRing K} (𝓟 : TermRing 𝓚 monomials P) (𝓓 : TermRing 𝓚 monomials D) (𝓢 : TermRing 𝓓.ring monomials S) (k : ℕ) where
  numbers : Hom 𝓚 𝓢.ring
  numbers = compose (constants 𝓢) (constants 𝓓)

  at_parts : Monomial → S
  at_parts m = 𝓢.term (𝓓.term 𝓚.one (back k m)) (front k m)

  at_parts-mul : (m n : Monomial) → at_parts (monomials.mul m n) ≡ 𝓢.ring.mul (at_parts m) (at_parts n)
  unfolding at_parts
  at_parts-mul m n = ap₂ 𝓢.term (ap (𝓓.term 𝓚.one) (back-mul k m n) ∙ sym (monomial-term 𝓓 (back k m) (back k n) 𝓚.one)) (front-mul k m n) ∙ sym (𝓢.term_mul _ _ _ _)

  at_parts-one : at_parts monomials.one ≡ 𝓢.ring.one
  unfolding at_parts
  at_parts-one = ap₂ 𝓢.term (ap (𝓓.term 𝓚.one) (monoid_map-one monomials monomials (back k) (back-mul k)) ∙ 𝓓.term_one) (monoid_map-one monomials monomials (front k) (front-mul k)) ∙ 𝓢.term_one

  -- the first k variables outside, the others inside
  pub nest : Hom 𝓟.ring 𝓢.ring
  nest = evaluation 𝓟 𝓢.ring numbers at_parts at_parts-mul at_parts-one

  -- its value at a term
  pub nest-term : (c : K) (m : Monomial) → nest.at (𝓟.term c m) ≡ 𝓢.term (𝓓.term c (back k m)) (front k m)
  unfolding nest numbers at_parts compose
  nest-term c m =
      evaluation-term 𝓟 𝓢.ring numbers at_parts at_parts-mul at_parts-one c m ∙ ap (λ x. 𝓢.ring.mul x (at_parts m)) (constants-at 𝓢 _ ∙ ap (λ x. 𝓢.term x monomials.one) (constants-at 𝓓 c))
      ∙ constant-term 𝓢 _ _ (front k m) ∙ ap (λ x. 𝓢.term x (front k m)) (constant-term 𝓓 c 𝓚.one (back k m) ∙ ap (λ x. 𝓓.term x (back k m)) (mul_one 𝓚 c))

  -- the inner polynomials, in the variables past the first k
  pub inner : Hom 𝓓.ring 𝓟.ring
  inner = relabel 𝓓 𝓟 (behind k) (behind-mul k)

  -- its value at a term
  pub inner-term : (c : K) (m : Monomial) → inner.at (𝓓.term c m) ≡ 𝓟.term c (behind k m)
  unfolding inner
  inner-term c m = relabel-term 𝓓 𝓟 (behind k) (behind-mul k) c m

  outer-mul : (m n : Monomial) → 𝓟.term 𝓚.one (monomials.mul m n) ≡ 𝓟.ring.mul (𝓟.term 𝓚.one m) (𝓟.term 𝓚.one n)
  outer-mul m n = sym (monomial-term 𝓟 m n 𝓚.one)

  -- the map back
  pub flat : Hom 𝓢.ring 𝓟.ring
  flat = evaluation 𝓢 𝓟.ring inner (λ m. 𝓟.term 𝓚.one m) outer-mul 𝓟.term_one

  -- its value at a term
  pub flat-term : (d : D) (m : Monomial) → flat.at (𝓢.term d m) ≡ 𝓟.ring.mul (inner.at d) (𝓟.term 𝓚.one m)
  unfolding flat
  flat-term d m = evaluation-term 𝓢 𝓟.ring inner (λ m. 𝓟.term 𝓚.one m) outer-mul 𝓟.term_one d m

  -- there and back is nothing
  pub flat_nest : (f : P) → flat.at (nest.at f) ≡ f
  flat_nest = agree 𝓟 𝓟.ring (λ f. flat.at (nest.at f)) (λ f. f) (λ x y. ap flat.at (nest.add x y) ∙ flat.add _ _) (λ x y. refl) (λ c m.
      ap flat.at (nest-term c m) ∙ flat-term _ _ ∙ ap (λ x. 𝓟.ring.mul x (𝓟.term 𝓚.one (front k m))) (inner-term c (back k m))
      ∙ 𝓟.ring.mul_comm _ _ ∙ monomial-term 𝓟 (front k m) (behind k (back k m)) c ∙ ap (𝓟.term c) (front_behind k m))

  -- so different polynomials stay different
  pub nest_injective : (f g : P) → nest.at f ≡ nest.at g → f ≡ g
  nest_injective f g e = sym (flat_nest f) ∙ ap flat.at e ∙ flat_nest g

  -- and what becomes a member was one
  pub nest-member : {I : Type 0} (F : I → P) (f : P) → In 𝓢.ring (λ i. nest.at (F i)) (nest.at f) → In 𝓟.ring F f
  nest-member F f r = subst (In 𝓟.ring F) (flat_nest f) (in-in 𝓟.ring F (λ i. flat.at (nest.at (F i))) (λ i. subst (In 𝓟.ring F) (sym (flat_nest (F i))) (in_one 𝓟.ring F i)) (in-hom flat (λ i. nest.at (F i)) r))
