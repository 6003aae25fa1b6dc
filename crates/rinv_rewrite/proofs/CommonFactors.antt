-- What is cancelled leaves out a common factor of both parts.
--   cancelled_factor    the fact
use Rattle.std.proofs.Common.{◌≡◌, ℕ, Bool, true, false, List, [], ◌∷◌, refl, sym, ◌∙◌, subst}
use Rattle.std.proofs.lemmas.List.{append-nil}
use Rattle.std.specs.Prelude.{if◌then◌else◌}
use Rattle.rinv_algebra.specs.Ring.{RingOps, RingLaws, IsSame}
use Rattle.rinv_algebra.specs.Polynomial.{Polynomial, poly_ops, product, term_product, constant, coefficient}
use Rattle.rinv_algebra.specs.Monomial.{same_monomial, monomial_product}
use Rattle.rinv_algebra.specs.Fraction.{Fraction}
use Rattle.rinv_algebra.proofs.RingFacts as facts
use Rattle.rinv_algebra.proofs.PolynomialLaws.{poly_laws}
use Rattle.rinv_algebra.proofs.Same.{same-from_coefficients}
use Rattle.rinv_frac.specs.Cancelling.{IsStripped, IsDivided, whole, reciprocal, neither, IsScaled, IsCancelled, zero, nonzero}

module _ {E : Type 0} (o : RingOps E) (l : RingLaws o) where
  abbrev P : RingOps (Polynomial E)
  P = poly_ops o

  abbrev q : RingLaws (poly_ops o)
  q = poly_laws o l

  -- a term times a polynomial, as a product
  by_term : (t : List ℕ × E) (g : Polynomial E) → term_product o t g ≡ product o (t ∷ []) g
  unfolding product
  by_term t g = sym (append-nil (term_product o t g))

  -- both parts of f are multiples of those of g, by one factor
  pub record HasFactor (f g : Fraction E) : Type 0 where
    pub factor : Polynomial E
    pub numerator : IsSame P f.0 (product o factor g.0)
    pub denominator : IsSame P f.1 (product o factor g.1)

  after : (f g h : Fraction E) → HasFactor f g → HasFactor g h → HasFactor f h
  after f g h a b = record {
    factor = product o a.factor b.factor;
    numerator = along a.factor b.factor f.0 g.0 h.0 a.numerator b.numerator;
    denominator = along a.factor b.factor f.1 g.1 h.1 a.denominator b.denominator;
  }
    where
      along : (s t x y z : Polynomial E) → IsSame P x (P.mul s y) → IsSame P y (P.mul t z) → IsSame P x (P.mul (P.mul s t) z)
      along s t x y z i j = facts.then P q i (facts.then P q (q.mul_same s s y (P.mul t z) (q.same_refl s) j) (q.same_sym _ _ (q.mul_assoc s t z)))

  -- one times, from the left
  by_one : (x : Polynomial E) → IsSame P x (P.mul P.one x)
  by_one x = q.same_sym _ _ (facts.one_mul P q x)

  stripped : (f g : Fraction E) → IsStripped o f g → HasFactor f g
  stripped f g s = record {
    factor = (s.monomial, o.one) ∷ [];
    numerator = subst (IsSame P f.0) (by_term (s.monomial, o.one) g.0) s.whole.numerator;
    denominator = subst (IsSame P f.1) (by_term (s.monomial, o.one) g.1) s.whole.denominator;
  }

  divided : (f g : Fraction E) → IsDivided o f g → HasFactor f g
  divided f _ (whole k e) = record { factor = f.1; numerator = facts.then P q e (q.mul_comm k f.1); denominator = q.same_sym _ _ (q.mul_one f.1) }
  divided f _ (reciprocal k differs e) = record { factor = f.0; numerator = q.same_sym _ _ (q.mul_one f.0); denominator = facts.then P q e (q.mul_comm k f.0) }
  divided f _ (neither a b) = record { factor = P.one; numerator = by_one f.0; denominator = by_one f.1 }

  constants-at : (c d : E) → IsSame o (o.mul c d) o.one → (m : List ℕ) → IsSame o (coefficient o (term_product o ([], c) (constant o d)) m) (coefficient o P.one m)
  unfolding coefficient monomial_product
  constants-at c d e m = go (same_monomial [] m)
    where
      go : (b : Bool) → IsSame o (if b then o.add (o.mul c d) o.zero else o.zero) (if b then o.add o.one o.zero else o.zero)
      go true = l.add_same _ _ o.zero o.zero e (l.same_refl o.zero)
      go false = l.same_refl o.zero

  -- the product of constants whose product is one
  constants : (c d : E) → IsSame o (o.mul c d) o.one → IsSame P (P.mul (constant o c) (constant o d)) P.one
  constants c d e = subst (λ x. IsSame P x P.one) (by_term ([], c) (constant o d)) (same-from_coefficients o (term_product o ([], c) (constant o d)) P.one (constants-at c d e))

  scaled : (f g : Fraction E) → IsScaled o f g → HasFactor f g
  scaled f g s = record {
    factor = constant o lead;
    numerator = undone f.0 g.0 (subst (IsSame P g.0) (by_term ([], s.factor) f.0) s.scaled.numerator);
    denominator = undone f.1 g.1 (subst (IsSame P g.1) (by_term ([], s.factor) f.1) s.scaled.denominator);
  }
    where
      lead : E
      lead = coefficient o f.1 s.inverts.lead

      undone : (x y : Polynomial E) → IsSame P y (P.mul (constant o s.factor) x) → IsSame P x (P.mul (constant o lead) y)
      undone x y e =
          facts.then P q (by_one x)
          (facts.then P q (q.mul_same _ _ x x (q.same_sym _ _ (constants lead s.factor (facts.then o l (l.mul_comm lead s.factor) s.inverts.inverse))) (q.same_refl x))
          (facts.then P q (q.mul_assoc (constant o lead) (constant o s.factor) x) (q.mul_same (constant o lead) (constant o lead) _ y (q.same_refl (constant o lead)) (q.same_sym y _ e))))

  pub cancelled_factor : (f r : Fraction E) → IsCancelled o f r → HasFactor f r
  cancelled_factor f r (zero _ z s) = record {
    factor = f.1;
    numerator = facts.then P q z (q.same_sym _ _ (facts.then P q (q.mul_same f.1 f.1 r.0 [] (q.same_refl f.1) s.numerator) (facts.mul_zero P q f.1)));
    denominator = facts.then P q (q.same_sym _ _ (q.mul_one f.1)) (q.mul_same f.1 f.1 P.one r.1 (q.same_refl f.1) (q.same_sym _ _ s.denominator));
  }
  cancelled_factor f r (nonzero g h _ z a b c) = after f g r (stripped f g a) (after g h r (divided g h b) (scaled h r c))
