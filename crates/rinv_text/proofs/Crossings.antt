-- Numerators and denominators of parts of an expression, where a denominator may be left out.
--   over-alone, over-first, over-second     products with a denominator that is left out
--   over-both                               of two that are kept
--   over-power                              its powers
--   ...-low                                 degrees that may be multiplied
use Rattle.std.proofs.Common.{◌≡◌, ℕ, zero, suc, ◌+◌, ◌≤◌, max, List, false, subst, arith, Option, Some, None}
use Rattle.std.proofs.lemmas.Bool.Decides.{nat_tests}
use Rattle.rinv_algebra.specs.Ring.{RingOps, RingLaws, IsSame}
use Rattle.rinv_algebra.specs.Residue.{residue_ops}
use Rattle.rinv_algebra.specs.Monomial.{max_degree}
use Rattle.rinv_algebra.specs.Polynomial.{Polynomial, poly_ops, product, constant}
use Rattle.rinv_algebra.proofs.RingFacts as facts
use Rattle.rinv_algebra.proofs.PolynomialLaws.{poly_laws}
use Rattle.rinv_algebra.proofs.ResidueLaws.{residue_laws}
use Rattle.rinv_text.specs.declared.formal.Formal.{Formal}
use Rattle.rinv_text.specs.Formal.{is_above}
use Rattle.rinv_text.specs.Reading.{to_the}
use Rattle.rinv_text.specs.Values.{IsNormalOver, IsStored, IsOver, IsSplit}
use Rattle.rinv_text.proofs.Low.{low-weaker, low-product, low-normal}

-- degrees that are not above the formal limit may be multiplied
pub num-low : (f : Formal) → is_above f ≡ false → f.num_degree ≤ max_degree
num-low f h = grind (arith, nat_tests)

pub den-low : (f : Formal) → is_above f ≡ false → f.den_degree ≤ max_degree
den-low f h = grind (arith, nat_tests)

-- of two, the greater is not above it
pub left-low : (a b : ℕ) → max a b ≤ max_degree → a ≤ max_degree
left-low a b h = omega (arith, h)

pub right-low : (a b : ℕ) → max a b ≤ max_degree → b ≤ max_degree
right-low a b h = omega (arith, h)

module _ (p v : ℕ) where
  abbrev o : RingOps ℕ
  o = residue_ops p

  abbrev P : RingOps (Polynomial ℕ)
  P = poly_ops (residue_ops p)

  abbrev L : RingLaws (poly_ops (residue_ops p))
  L = poly_laws (residue_ops p) (residue_laws p)

  -- the 1 of the polynomials
  abbrev one : Polynomial ℕ
  one = constant (residue_ops p) 1

  pub times-one : (f g : Polynomial ℕ) → IsSame P g one → IsSame P f (product o f g)
  times-one f g e = facts.back P L (facts.then P L (facts.mul2 P L (L.same_refl f) e) (L.mul_one f))

  pub one-times : (f g : Polynomial ℕ) → IsSame P f one → IsSame P g (product o f g)
  one-times f g e = facts.back P L (facts.then P L (facts.mul2 P L e (L.same_refl g)) (facts.one_mul P L g))

  -- a denominator that is left out, and one that is kept
  pub none-over : (d : ℕ) (f : Polynomial ℕ) (den : Option (Polynomial ℕ)) → den ≡ None → IsOver p v d f den → IsSame P f one
  none-over d f den e h = subst (λ x. IsOver p v d f x) e h

  pub some-over : (d : ℕ) (f r : Polynomial ℕ) (den : Option (Polynomial ℕ)) → den ≡ Some r → IsOver p v d f den → IsStored p v d f r
  some-over d f r den e h = subst (λ x. IsOver p v d f x) e h

  -- 1 is left out
  pub over-one : IsOver p v 0 one None
  over-one = L.same_refl one

  -- a numerator over a denominator that is left out
  pub over-alone : (s d e : ℕ) (fs : List (Polynomial ℕ)) (f g : Polynomial ℕ) → IsSplit p v s fs d f → IsSame P g one → IsSplit p v s fs (d + e) (product o f g)
  over-alone s d e fs f g x h = record {
    scalar = x.scalar;
    normal = x.normal;
    low = low-weaker d (d + e) _ (omega arith) x.low;
    value = facts.then P L x.value (times-one f g h);
  }

  stored-as : (d e : ℕ) (f g r : Polynomial ℕ) → d ≤ e → IsSame P f g → IsStored p v d f r → IsStored p v e g r
  stored-as d e f g r le h x = record { normal = x.normal; low = low-weaker d e r le x.low; value = facts.then P L x.value h }

  -- the first of two denominators is left out
  pub over-first : (d e : ℕ) (f g : Polynomial ℕ) (den : Option (Polynomial ℕ)) → IsSame P f one → IsOver p v e g den → IsOver p v (d + e) (product o f g) den
  over-first d e f g None h k = facts.then P L (facts.back P L (one-times f g h)) k
  over-first d e f g (Some r) h k = stored-as e (d + e) g (product o f g) r (omega arith) (one-times f g h) k

  -- the second
  pub over-second : (d e : ℕ) (f g r : Polynomial ℕ) → IsSame P g one → IsStored p v d f r → IsStored p v (d + e) (product o f g) r
  over-second d e f g r h k = stored-as d (d + e) f (product o f g) r (omega arith) (times-one f g h) k

  -- of two that are kept
  pub over-both : (d e : ℕ) (f g a b r : Polynomial ℕ) → IsStored p v d f a → IsStored p v e g b → IsNormalOver p v r → IsSame P r (product o a b) → IsStored p v (d + e) (product o f g) r
  over-both d e f g a b r sa sb n h = record {
    normal = n;
    low = low-normal p v (d + e) r (product o a b) n h (low-product o d e a b sa.low sb.low);
    value = facts.then P L h (facts.mul2 P L sa.value sb.value);
  }

  -- its powers
  pub over-power : (f : Polynomial ℕ) (k : ℕ) → IsSame P f one → IsSame P (to_the o k f) one
  unfolding to_the
  over-power f zero h = L.same_refl one
  over-power f (suc k) h = facts.then P L (facts.mul2 P L (over-power f k h) h) (L.mul_one one)
