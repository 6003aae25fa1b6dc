-- From kept parts of an expression to its fraction.
--   one-kept            a denominator that was left out
--   never-zero          the denominator is not zero
--   cancelled-as, low-as    what is cancelled
--   den-vars            the monomials of a denominator
use Rattle.std.proofs.Common.{◌≡◌, length, All, nat_lt, ℕ, ◌*◌, ◌≤◌, false, sym, ap, subst, ◌∙◌, arith, Option, None}
use Rattle.rinv_algebra.specs.Ring.{RingOps, IsSame}
use Rattle.rinv_algebra.specs.Residue.{residue_ops}
use Rattle.rinv_algebra.specs.Polynomial.{Polynomial, poly_ops, constant, is_zero, degree}
use Rattle.rinv_algebra.specs.Fraction.{Fraction}
use Rattle.rinv_algebra.proofs.RingFacts as facts
use Rattle.rinv_algebra.proofs.PolynomialLaws.{poly_laws}
use Rattle.rinv_algebra.proofs.ResidueLaws.{residue_laws}
use Rattle.rinv_algebra.proofs.ResidueField.{residue_field_laws}
use Rattle.rinv_algebra.proofs.Degrees.{is_zero-same}
use Rattle.rinv_poly.proofs.Degrees.{degree-terms}
use Rattle.rinv_poly.proofs.Forms.{ordered-from_normal}
use Rattle.rinv_frac.specs.Fractions.{IsStored as IsStoredFraction}
use Rattle.rinv_frac.proofs.Stored.{stored}
use Rattle.rinv_frac.specs.Cancelling.{IsCancelled}
use Rattle.rinv_frac.proofs.CancelledValues.{cancelled-same}
use Rattle.rinv_text.specs.Values.{IsNormalOver, IsLow, IsStored, IsOver}
use Rattle.rinv_text.proofs.Low.{low-weaker}
use Rattle.rinv_text.proofs.Powers.{power-start}
use Rattle.rinv_text.proofs.FractionAnswers.{low-degree}

module _ (p v : ℕ) where
  abbrev o : RingOps ℕ
  o = residue_ops p

  -- a denominator that was left out is 1
  pub one-kept : (d : ℕ) (f r : Polynomial ℕ) (den : Option (Polynomial ℕ)) → den ≡ None → IsOver p v d f den → IsNormalOver p v r → IsSame (poly_ops o) r (constant o 1) → IsStored p v d f r
  one-kept d f r den e h n one =
      let over : IsSame (poly_ops o) f (constant o 1) = subst (λ x. IsOver p v d f x) e h in
      record {
        normal = n;
        low = low-weaker (0 * d) d r (omega arith) (power-start p v d f r n one).low;
        value = facts.then (poly_ops o) (poly_laws o (residue_laws p)) one (facts.back (poly_ops o) (poly_laws o (residue_laws p)) over);
      }

  module _ (d e : ℕ) (f : Fraction ℕ) (num den : Polynomial ℕ) (above : IsStored p v d f.0 num) (below : IsStored p v e f.1 den) where
    -- the denominator is not zero
    pub never-zero : is_zero o f.1 ≡ false → is_zero o den ≡ false
    never-zero h = is_zero-same o (residue_laws p) den f.1 below.value ∙ h

    -- what is cancelled of the parts is cancelled of the fraction
    pub cancelled-as : (kept r : Fraction ℕ) → kept ≡ (num, den) → IsCancelled o kept r → IsCancelled o f r
    cancelled-as kept r is c = cancelled-same o (residue_laws p) (residue_field_laws p) (num, den) f r (record { numerator = above.value; denominator = below.value }) (subst (λ x. IsCancelled o x r) is c)

    -- it has no term above theirs
    pub low-as : (kept r : Fraction ℕ) → kept ≡ (num, den) → IsNormalOver p v r.0 → IsNormalOver p v r.1 → degree o r.0 ≤ degree o kept.0 → degree o r.1 ≤ degree o kept.1 → IsLow d r.0 × IsLow e r.1
    low-as kept r is na nb a b = (
      low-degree p v d r.0 na (omega (arith, a, ap (λ (x : Fraction ℕ). degree o x.0) is, degree-terms o (residue_laws p) num d above.low)),
      low-degree p v e r.1 nb (omega (arith, b, ap (λ (x : Fraction ℕ). degree o x.1) is, degree-terms o (residue_laws p) den e below.low)),
    )

-- the monomials of a stored denominator
pub den-vars : (p v n : ℕ) (f : Fraction ℕ) (den : Polynomial ℕ) → den ≡ f.1 → IsStoredFraction p v f → n ≡ v → All (λ t. length t.0 ≡ n) den
den-vars p v n f den e s many =
    subst (λ d. All (λ t. length t.0 ≡ n) d) (sym e)
    (λ k d b. ((ordered-from_normal (residue_ops p) (λ c. nat_lt c p) v f.1 (stored p v f s).denominator).terms k d b).vars ∙ sym many)
