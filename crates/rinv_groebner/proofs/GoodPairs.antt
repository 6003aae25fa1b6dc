-- Pairs of a list of polynomials that are good: by their S-polynomial, by coprime leading monomials, by a third element.
--   s_polynomial-class   the S-polynomial, in the honest ring
--   s_polynomial-of      its monomials are below the least common multiple of the leading monomials
--   quotients-good, coprime-good, chain-good    when a pair is good
--   place_equal          two places with one number are equal
use Rattle.std.proofs.Common.{◌≡◌, ℕ, Bool, true, false, not, List, [], ◌∷◌, refl, sym, ◌∙◌, ap₂, subst, arith, true≢false}
use mathlib.Core.Bool.{Bool-set}
use mathlib.Core.HLevel.{Σ_prop_path}
use Rattle.rinv_algebra.specs.Ring.{RingOps}
use Rattle.rinv_algebra.specs.Monomial.{lcm}
use Rattle.rinv_algebra.specs.Polynomial.{Polynomial}
use Rattle.rinv_algebra.proofs.MonomialLaws.{same_from}
use Rattle.rinv_theory.proofs.CRing.{CRing, by}
use Rattle.rinv_theory.proofs.Solver.{ring, reading}
use Rattle.rinv_theory.proofs.Monoid.{Monoid, monomial, monomial_sound}
use Rattle.rinv_theory.proofs.TermRing.{TermRing, term-neg}
use Rattle.rinv_theory.proofs.Of.{Of, of-add, of-times}
use Rattle.rinv_theory.proofs.Leads.{MonomialOrder, is_upto, upto-from, above-from, below-upto}
use Rattle.rinv_groebner.proofs.Elements.{Elements}
use Rattle.rinv_groebner.proofs.Pairs.{cancelling}
use Rattle.rinv_groebner.proofs.MonomialLists.{lcm-at}
use Rattle.rinv_groebner.proofs.ListElements.{Place}

-- two places with one number are equal
pub place_equal : {E : Type 0} (o : RingOps E) (hs : List (Polynomial E)) (x y : Place o hs) → x.0 ≡ y.0 → x ≡ y
place_equal o hs x y e = Σ_prop_path (λ k. Bool-set _ _) e

-- the least common multiple does not depend on the order of the two
pub lcm_comm : (a b : List ℕ) → monomial (lcm a b) ≡ monomial (lcm b a)
lcm_comm a b = monomial_sound _ _ (same_from (lcm a b) (lcm b a) (λ k. let x = lcm-at a b k in let y = lcm-at b a k in omega (arith, x, y)))

module _ {K M P I : Type 0} {𝓚 : CRing K} {𝓜 : Monoid M} {𝓣 : TermRing 𝓚 𝓜 P} {𝓞 : MonomialOrder 𝓜} (𝓗 : Elements 𝓣 𝓞 I) where
  open 𝓣.ring use {add as ◌+◌, mul as ◌*◌, neg as -◌}

  infixl 60 ◌+◌
  infixl 70 ◌*◌
  infix 80 -◌
  -- the leading terms of two multiples cancel, and the tails are left
  cancelling-tails : (s t : M) (a b : I) → 𝓜.mul s (𝓗.lead a) ≡ 𝓜.mul t (𝓗.lead b) → cancelling 𝓗 s t a b ≡ 𝓣.term (𝓗.lead_coefficient b) s * 𝓗.tail a + 𝓣.term (𝓚.neg (𝓗.lead_coefficient a)) t * 𝓗.tail b
  cancelling-tails s t a b e = identity _ _ _ _ _ _ _ _ _ (𝓗.whole a) (𝓗.whole b) (𝓣.term_mul _ _ _ _ ∙ ap₂ 𝓣.term (𝓚.mul_comm _ _) e ∙ sym (𝓣.term_mul _ _ _ _)) (term-neg 𝓣 (𝓗.lead_coefficient a) t)
    where
      identity : (x y p q f g h k z : P) → h ≡ p + f → k ≡ q + g → x * p ≡ y * q → z ≡ - y → x * h + - (y * k) ≡ x * f + z * g
      identity x y p q f g h k z e e' i j = rw (e, e', j) (sides x y p q f g i)
        where
          sides : (x y p q f g : P) → x * p ≡ y * q → x * (p + f) + - (y * (q + g)) ≡ x * f + - y * g
          sides x y p q f g i = by 𝓣.ring (x * p) (y * q) 𝓣.ring.one _ _ i (ring 𝓣.ring (x ∷ y ∷ p ∷ q ∷ f ∷ g ∷ []) (search reading depth 30) refl)

  -- so all its monomials are below
  pub cancelling-of : (m s t : M) (a b : I) → 𝓜.mul s (𝓗.lead a) ≡ m → 𝓜.mul t (𝓗.lead b) ≡ m → Of 𝓣 (λ n. 𝓞.below n m) (cancelling 𝓗 s t a b)
  cancelling-of m s t a b e e' = subst (Of 𝓣 (λ n. 𝓞.below n m)) (sym (cancelling-tails s t a b (e ∙ sym e')))
      (of-add 𝓣 (of-times 𝓣 (𝓗.lead_coefficient b) s (λ n q. subst (𝓞.below (𝓜.mul s n)) e (𝓞.mul_below s n (𝓗.lead a) q)) (𝓗.tail_below a)) (of-times 𝓣 (𝓚.neg (𝓗.lead_coefficient a)) t (λ n q. subst (𝓞.below (𝓜.mul t n)) e' (𝓞.mul_below t n (𝓗.lead b) q)) (𝓗.tail_below b)))

-- whether a monomial is below m
module _ {M : Type 0} {𝓜 : Monoid M} (𝓞 : MonomialOrder 𝓜) (m : M) where
  pub is_below : M → Bool
  is_below n = not (is_upto 𝓞 m n)

  pub below-from : (n : M) → is_below n ≡ true → 𝓞.below n m
  unfolding is_below
  below-from n t = above-from 𝓞 m n (off (is_upto 𝓞 m n) t)
    where
      off : (b : Bool) → not b ≡ true → b ≡ false
      off true e = absurd (true≢false (sym e))
      off false e = refl

  pub below-to : (n : M) → 𝓞.below n m → is_below n ≡ true
  unfolding is_below
  below-to n h = go (is_upto 𝓞 m n) refl
    where
      go : (b : Bool) → is_upto 𝓞 m n ≡ b → not b ≡ true
      go true e = absurd (𝓞.irreflexive n (below-upto 𝓞 n m n h (upto-from 𝓞 m n e)))
      go false e = refl

  -- it passes down
  pub is_below-down : (n k : M) → 𝓞.below n k → is_below k ≡ true → is_below n ≡ true
  is_below-down n k h t = below-to n (𝓞.trans n k m h (below-from k t))
