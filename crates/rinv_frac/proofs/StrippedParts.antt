-- A monomial that divides both parts is divided out.
--   has-quotient         each part is a multiple of it
--   stripped-part        what is left, times it, is the part
--   stripped-of, monomial-nonzero    the fraction as it is seen, and the monomial as a polynomial
--   divisible            the terms of a stored part
--   nothing-stripped     a monomial of degree 0 leaves the fraction as it is
use Rattle.std.proofs.Common.{◌≡◌, ℕ, ◌==◌, true, false, List, [], ◌∷◌, length, get_or, map, All, refl, sym, ◌∙◌, subst, arith, IsTrue, eq-eqb}
use Rattle.std.specs.Prelude.{nat_lt}
use Rattle.std.proofs.lemmas.List.Elements.{All-head, All-tail, Contains-get_or}
use Rattle.std.proofs.lemmas.List.Sums.{sum_by-cons}
use Rattle.rinv_algebra.specs.Ring.{RingOps, RingLaws, FieldLaws, IsSame}
use Rattle.rinv_algebra.specs.Residue.{residue_ops}
use Rattle.rinv_algebra.specs.Monomial.{same_monomial, divides, quotient, total_degree}
use Rattle.rinv_algebra.specs.Polynomial.{Term, Polynomial, poly_ops, product, term_product, constant, has_monomial, is_zero}
use Rattle.rinv_algebra.specs.Fraction.{Fraction}
use Rattle.rinv_algebra.proofs.Degrees.{is_zero-same}
use Rattle.rinv_algebra.proofs.Same.{and_true}
use Rattle.rinv_algebra.proofs.PolynomialLaws.{poly_laws}
use Rattle.rinv_algebra.proofs.ResidueLaws.{residue_laws}
use Rattle.rinv_poly.proofs.Dividing.{product-quotient}
use Rattle.rinv_poly.proofs.Forms.{ordered-from_normal}
use Rattle.rinv_poly.proofs.Gather.{term-same}
use Rattle.rinv_poly.proofs.NormalFacts.{has-term}
use Rattle.rinv_poly.proofs.Units.{term-same_monomial}
use Rattle.rinv_frac.specs.Fractions.{IsPart}
use Rattle.rinv_frac.specs.Cancelling.{HasQuotient, IsStripped, IsGreatestDivisor}
use Rattle.rinv_frac.proofs.CancelledValues.{by_term}
use Rattle.rinv_frac.proofs.CancelledDegrees.{term_nonzero}

-- the terms with their monomials divided by m
abbrev quotients : {E : Type 0} → List ℕ → Polynomial E → Polynomial E
quotients m f = map (λ t. (quotient t.0 m, t.1)) f

-- m divides the monomial of the term, of as many variables
abbrev IsDivisible : {E : Type 0} → List ℕ → Term E → Type 0
IsDivisible m t = (length t.0 ≡ length m) × (divides m t.0 ≡ true)

-- a monomial of degree 0 is one
zero-monomial : (m : List ℕ) → total_degree m ≡ 0 → same_monomial m [] ≡ true
unfolding same_monomial
zero-monomial [] e = refl
zero-monomial (x ∷ a) e = and_true (x == 0) (same_monomial a []) (eq-eqb x 0 (omega (arith, e, sum_by-cons (λ (n : ℕ). n) x a))) (zero-monomial a (omega (arith, e, sum_by-cons (λ (n : ℕ). n) x a)))

module _ {E : Type 0} (o : RingOps E) (l : RingLaws o) where
  abbrev P : RingOps (Polynomial E)
  P = poly_ops o

  abbrev q : RingLaws (poly_ops o)
  q = poly_laws o l

  one-step : (m : List ℕ) (t : Term E) → IsDivisible m t → IsSame P (term_product o (quotient t.0 m, t.1) ((m, o.one) ∷ [])) (t ∷ [])
  one-step m t h = subst (λ (x : List ℕ). IsSame P ((x, o.mul t.1 o.one) ∷ []) (t ∷ [])) (sym (product-quotient t.0 m h.1 h.0)) (term-same o l t.0 (o.mul t.1 o.one) t.1 (l.mul_one t.1))

  quotients-product : (m : List ℕ) (f : Polynomial E) → All (IsDivisible m) f → IsSame P (product o (quotients m f) ((m, o.one) ∷ [])) f
  unfolding product
  quotients-product m [] all = q.same_refl []
  quotients-product m (t ∷ f) all =
      q.add_same (term_product o (quotient t.0 m, t.1) ((m, o.one) ∷ [])) (t ∷ []) (product o (quotients m f) ((m, o.one) ∷ [])) f
      (one-step m t (All-head (IsDivisible m) t f all)) (quotients-product m f (All-tail (IsDivisible m) t f all))

  -- each part is a multiple of it
  pub has-quotient : (m : List ℕ) (f d : Polynomial E) → All (IsDivisible m) f → IsSame P d ((m, o.one) ∷ []) → HasQuotient o f d
  has-quotient m f d all e = (
    quotients m f,
    q.same_trans f (product o (quotients m f) ((m, o.one) ∷ [])) (product o (quotients m f) d) (q.same_sym (product o (quotients m f) ((m, o.one) ∷ [])) f (quotients-product m f all))
        (q.mul_same (quotients m f) (quotients m f) ((m, o.one) ∷ []) d (q.same_refl (quotients m f)) (q.same_sym d ((m, o.one) ∷ []) e)),
  )

  module _ (F : FieldLaws o) where
    -- what is left, times it, is the part
    pub stripped-part : (m : List ℕ) (f g d : Polynomial E) → IsSame P d ((m, o.one) ∷ []) → IsSame P f (product o g d) → IsSame P f (term_product o (m, o.one) g)
    stripped-part m f g d e s = subst (IsSame P f) (sym (by_term o l F (m, o.one) g))
        (q.same_trans f (product o g d) (product o ((m, o.one) ∷ []) g) s (q.same_trans (product o g d) (product o d g) (product o ((m, o.one) ∷ []) g) (q.mul_comm g d) (q.mul_same d ((m, o.one) ∷ []) g g e (q.same_refl g))))

    unstripped-part : (m : List ℕ) (f : Polynomial E) → total_degree m ≡ 0 → IsSame P f (term_product o (m, o.one) f)
    unstripped-part m f z = stripped-part m f f (constant o o.one) (q.same_sym ((m, o.one) ∷ []) (constant o o.one) (term-same_monomial o l m [] o.one (zero-monomial m z))) (q.same_sym (product o f (constant o o.one)) f (q.mul_one f))

    -- a monomial of degree 0 leaves the fraction as it is
    pub nothing-stripped : (m : List ℕ) (f : Fraction E) → IsGreatestDivisor o f m → total_degree m ≡ 0 → IsStripped o f f
    nothing-stripped m f d z = record { monomial = m; divisor = d; whole = record { numerator = unstripped-part m f.0 z; denominator = unstripped-part m f.1 z } }

-- what divides the fraction, as it is seen
pub stripped-of : {E : Type 0} (o : RingOps E) (l : RingLaws o) (F : FieldLaws o) {x f : Fraction E} → x ≡ f → (m : List ℕ) (d num den : Polynomial E) → IsGreatestDivisor o x m → IsSame (poly_ops o) d ((m, o.one) ∷ []) → IsSame (poly_ops o) x.0 (product o num d) → IsSame (poly_ops o) x.1 (product o den d) → IsStripped o f (num, den)
stripped-of o l F {x} {f} at m d num den g e a b = subst (λ (y : Fraction _). IsStripped o y (num, den)) at (record {
  monomial = m;
  divisor = g;
  whole = record { numerator = stripped-part o l F m x.0 num d e a; denominator = stripped-part o l F m x.1 den d e b };
})

-- the monomial is not zero
pub monomial-nonzero : {E : Type 0} (o : RingOps E) (l : RingLaws o) (F : FieldLaws o) (m : List ℕ) (d : Polynomial E) → IsSame (poly_ops o) d ((m, o.one) ∷ []) → is_zero o d ≡ false
monomial-nonzero o l F m d e = is_zero-same o l d ((m, o.one) ∷ []) e ∙ term_nonzero o l F m

-- each term of a stored part is divisible by what divides its monomials
pub divisible : (p v : ℕ) (f : Polynomial ℕ) → IsPart p v f → (m : List ℕ) → length m ≡ v → ((e : List ℕ) → IsTrue (has_monomial (residue_ops p) f e) → IsTrue (divides m e)) → All (IsDivisible m) f
divisible p v f n m len each i d inside =
    let ordered = ordered-from_normal (residue_ops p) (λ c. nat_lt c p) v f n in
    ((ordered.terms i d inside).vars ∙ sym len, each (get_or f i d).0 (has-term (residue_ops p) (residue_laws p) (λ c. nat_lt c p) v f ordered (get_or f i d) (Contains-get_or f i d inside)))
