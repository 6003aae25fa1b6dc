-- Powers modulo the ideal of a list of polynomials.
--   stands-product       a product of what stands for others
--   power-first, power-next, powers-push     tables of powers
--   times-known, times-none, times-next      products with powers
use Rattle.std.proofs.Common.{◌≡◌, ℕ, ◌+◌, List, [], ◌∷◌, ◌++◌, length, nat_lt, arith, length-append}
use Rattle.std.specs.Prelude.{replicate}
use Rattle.rinv_algebra.specs.Ring.{IsSame}
use Rattle.rinv_algebra.specs.Residue.{residue_ops}
use Rattle.rinv_algebra.specs.Polynomial.{Polynomial, poly_ops, product}
use Rattle.rinv_algebra.specs.Normal.{IsNormal}
use Rattle.rinv_algebra.specs.Value.{times_all}
use Rattle.rinv_algebra.proofs.PolynomialLaws.{poly_laws}
use Rattle.rinv_algebra.proofs.Products.{times_all-same}
use Rattle.rinv_algebra.proofs.ResidueLaws.{residue_laws}
use Rattle.rinv_algebra.proofs.RingFacts as facts
use Rattle.rinv_sub.proofs.Factors.{power-value}
use Rattle.rinv_sub.proofs.KnownPowers.{each-push, mul-times_all}
use Rattle.rinv_modulo.specs.Congruence.{AreCongruent, StandsFor, ArePowersModulo}
use Rattle.rinv_modulo.proofs.Congruences.{congruent-same, congruent-then, congruent-mul}

module _ (p v : ℕ) (hs : List (Polynomial ℕ)) where
  -- what is the same, first
  pub stands-same : (f g r : Polynomial ℕ) → IsSame (poly_ops (residue_ops p)) f g → StandsFor p v hs g r → StandsFor p v hs f r
  stands-same f g r s h = record { normal = h.normal; congruent = congruent-then (residue_ops p) (residue_laws p) hs f g r (congruent-same (residue_ops p) (residue_laws p) hs f g s) h.congruent }

  -- a polynomial that is the same
  pub stands-self : (f r : Polynomial ℕ) → IsNormal (residue_ops p) (λ c. nat_lt c p) v r → IsSame (poly_ops (residue_ops p)) r f → StandsFor p v hs f r
  stands-self f r normal s = record { normal = normal; congruent = congruent-same (residue_ops p) (residue_laws p) hs f r (facts.back (poly_ops (residue_ops p)) (poly_laws (residue_ops p) (residue_laws p)) s) }

  -- the product of what stands for f and for g
  pub stands-product : (f g a b r : Polynomial ℕ) → AreCongruent (residue_ops p) hs f a → AreCongruent (residue_ops p) hs g b → StandsFor p v hs (product (residue_ops p) a b) r → StandsFor p v hs (product (residue_ops p) f g) r
  stands-product f g a b r x y h = record {
    normal = h.normal;
    congruent = congruent-then (residue_ops p) (residue_laws p) hs (product (residue_ops p) f g) (product (residue_ops p) a b) r (congruent-mul (residue_ops p) (residue_laws p) hs f g a b x y) h.congruent;
  }

  itself : (f : Polynomial ℕ) → AreCongruent (residue_ops p) hs f f
  itself f = congruent-same (residue_ops p) (residue_laws p) hs f f ((poly_laws (residue_ops p) (residue_laws p)).same_refl f)

  -- one factor more
  pub times-next : (f x a r : Polynomial ℕ) (k : ℕ) → StandsFor p v hs (times_all (poly_ops (residue_ops p)) f (replicate k x)) a → StandsFor p v hs (product (residue_ops p) a x) r
      → StandsFor p v hs (times_all (poly_ops (residue_ops p)) f (replicate (k + 1) x)) r
  times-next f x a r k h step =
      let o = residue_ops p in
      let q = poly_laws o (residue_laws p) in
      let so_far : Polynomial ℕ = times_all (poly_ops o) f (replicate k x) in
      stands-same (times_all (poly_ops o) f (replicate (k + 1) x)) (product o so_far x) r
      (facts.back (poly_ops o) q (power-value o (residue_laws p) f so_far (product o so_far x) x k (q.same_refl (product o so_far x)) (q.same_refl so_far)))
      (stands-product so_far x a x r h.congruent (itself x) step)

  -- no factor
  pub times-none : (f x r : Polynomial ℕ) (k : ℕ) → k ≡ 0 → IsNormal (residue_ops p) (λ c. nat_lt c p) v r → IsSame (poly_ops (residue_ops p)) r f → StandsFor p v hs (times_all (poly_ops (residue_ops p)) f (replicate k x)) r
  unfolding times_all
  times-none f x r k e normal s = rw e (stands-self f r normal s)

  -- a power that is known
  pub times-known : (f x a r : Polynomial ℕ) (k : ℕ) → StandsFor p v hs (times_all (poly_ops (residue_ops p)) (poly_ops (residue_ops p)).one (replicate k x)) a → StandsFor p v hs (product (residue_ops p) f a) r
      → StandsFor p v hs (times_all (poly_ops (residue_ops p)) f (replicate k x)) r
  times-known f x a r k h step =
      let o = residue_ops p in
      let q = poly_laws o (residue_laws p) in
      let power : Polynomial ℕ = times_all (poly_ops o) (poly_ops o).one (replicate k x) in
      stands-same (times_all (poly_ops o) f (replicate k x)) (product o f power) r
      (facts.back (poly_ops o) q (facts.then (poly_ops o) q (mul-times_all (poly_ops o) q f (poly_ops o).one (replicate k x)) (times_all-same (poly_ops o) q (product o f (poly_ops o).one) f (replicate k x) (q.mul_one f))))
      (stands-product f power f a r (itself f) h.congruent step)

  -- one power more
  pub powers-push : (f a : Polynomial ℕ) (ps : List (Polynomial ℕ)) (k : ℕ) → length ps ≡ k → ArePowersModulo p v hs f ps → StandsFor p v hs (times_all (poly_ops (residue_ops p)) (poly_ops (residue_ops p)).one (replicate k f)) a → ArePowersModulo p v hs f (ps ++ a ∷ [])
  powers-push f a ps k long each here j d below =
      each-push (λ i x. StandsFor p v hs (times_all (poly_ops (residue_ops p)) (poly_ops (residue_ops p)).one (replicate i f)) x) ps a k long (λ i e b. each i e (omega (arith, b, long))) here j d (omega (arith, below, length-append ps (a ∷ []), long))
