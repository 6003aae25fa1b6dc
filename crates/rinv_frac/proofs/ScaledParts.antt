-- Both parts times the inverse of the denominator's leading coefficient.
--   scaled-same          the parts may be written in another way
--   scaled-by_one        where that inverse is one, nothing changes
--   scaled-nonzero       the denominator stays other than zero
--   inverts-lead         the inverse of the coefficient at the place of the greatest monomial
--   cancelled-pair       the result may be written in another way
--   from-steps, from-zero           what the steps make is cancelled
use Rattle.std.proofs.Common.{◌≡◌, ℕ, ◌<◌, true, false, List, [], length, get_or, nat_lt, sym, ◌∙◌, subst, subst₂}
use Rattle.std.proofs.lemmas.List.Elements.{Contains-get_or}
use Rattle.rinv_algebra.specs.Ring.{RingOps, RingLaws, FieldLaws, IsSame}
use Rattle.rinv_algebra.specs.Order.{grevlex}
use Rattle.rinv_algebra.specs.Residue.{residue_ops}
use Rattle.rinv_algebra.specs.Polynomial.{Term, Polynomial, poly_ops, product, scale, coefficient, constant, is_zero}
use Rattle.rinv_algebra.specs.Leading.{IsLeadingMonomial}
use Rattle.rinv_algebra.specs.Fraction.{Fraction, over_one}
use Rattle.rinv_algebra.proofs.RingFacts as facts
use Rattle.rinv_algebra.proofs.Same.{same-coefficients}
use Rattle.rinv_algebra.proofs.Degrees.{has_monomial-same}
use Rattle.rinv_algebra.proofs.PolynomialLaws.{poly_laws}
use Rattle.rinv_algebra.proofs.ResidueLaws.{residue_laws}
use Rattle.rinv_poly.proofs.Forms.{ordered-from_normal}
use Rattle.rinv_poly.proofs.NormalFacts.{coefficient-of_term}
use Rattle.rinv_frac.specs.Fractions.{IsPart}
use Rattle.rinv_frac.specs.Cancelling.{IsSamePair, IsStripped, IsDividedTo, InvertsLead, IsScaled, IsCancelled, zero, nonzero}
use Rattle.rinv_frac.proofs.CancelledValues.{by_term, scaled}

module _ {E : Type 0} (o : RingOps E) (l : RingLaws o) (F : FieldLaws o) where
  abbrev P : RingOps (Polynomial E)
  P = poly_ops o

  abbrev q : RingLaws (poly_ops o)
  q = poly_laws o l

  leads-same : (f g : Polynomial E) (m : List ℕ) → IsSame P f g → IsLeadingMonomial o grevlex f m → IsLeadingMonomial o grevlex g m
  leads-same f g m s h = record {
    has = sym (has_monomial-same o l f g s m) ∙ h.has;
    greatest = λ e k. h.greatest e (has_monomial-same o l f g s e ∙ k);
  }

  inverts-same : (f g : Polynomial E) (c : E) → IsSame P f g → InvertsLead o f c → InvertsLead o g c
  inverts-same f g c s h = record {
    lead = h.lead;
    leads = leads-same f g h.lead s h.leads;
    inverse = facts.then o l (facts.mul2 o l (l.same_refl c) (facts.back o l (same-coefficients o l f g s h.lead))) h.inverse;
  }

  scale-same : (c : E) (f g : Polynomial E) → IsSame P f g → IsSame P (scale o c f) (scale o c g)
  scale-same c f g s = subst₂ (IsSame P) (sym (by_term o l F ([], c) f)) (sym (by_term o l F ([], c) g)) (q.mul_same (constant o c) (constant o c) f g (q.same_refl (constant o c)) s)

  -- the parts may be written in another way
  pub scaled-same : (f g r : Fraction E) → IsSamePair o f g → IsScaled o f r → IsScaled o g r
  scaled-same f g r s h = record {
    factor = h.factor;
    inverts = inverts-same f.1 g.1 h.factor s.denominator h.inverts;
    scaled = record {
      numerator = q.same_trans r.0 (scale o h.factor f.0) (scale o h.factor g.0) h.scaled.numerator (scale-same h.factor f.0 g.0 s.numerator);
      denominator = q.same_trans r.1 (scale o h.factor f.1) (scale o h.factor g.1) h.scaled.denominator (scale-same h.factor f.1 g.1 s.denominator);
    };
  }

  by-one : (f : Polynomial E) → IsSame P f (scale o o.one f)
  by-one f = subst (IsSame P f) (sym (by_term o l F ([], o.one) f)) (q.same_sym (product o (constant o o.one) f) f (facts.one_mul P q f))

  -- where that inverse is one, nothing changes
  pub scaled-by_one : (f : Fraction E) (c : E) → c ≡ o.one → InvertsLead o f.1 c → IsScaled o f f
  scaled-by_one f c e h = record { factor = o.one; inverts = subst (InvertsLead o f.1) e h; scaled = record { numerator = by-one f.0; denominator = by-one f.1 } }

  -- the denominator stays other than zero
  pub scaled-nonzero : {x f : Fraction E} → x ≡ f → (c : E) → is_zero o f.1 ≡ false → InvertsLead o x.1 c → (den : Polynomial E) → IsSame P den (scale o c x.1) → is_zero o den ≡ false
  scaled-nonzero {x} {f} at c n h den e = (scaled o l F x (scale o c x.0, den) (subst (λ (y : Fraction E). is_zero o y.1 ≡ false) (sym at) n) (by-scaling x (x.0, den) c h e)).nonzero
    where
      by-scaling : (x r : Fraction E) (c : E) → InvertsLead o x.1 c → IsSame P r.1 (scale o c x.1) → IsScaled o x (scale o c x.0, r.1)
      by-scaling x r c h e = record { factor = c; inverts = h; scaled = record { numerator = q.same_refl (scale o c x.0); denominator = e } }

  -- what the steps make is cancelled
  pub from-steps : (f g h r : Fraction E) → is_zero o f.0 ≡ false → IsStripped o f g → IsDividedTo o g h → IsScaled o h r → IsCancelled o f r
  from-steps f g h r n s d k = nonzero g d.exact r n s d.divided (scaled-same h d.exact r d.pair k)

  -- the result may be written in another way
  pub cancelled-pair : (f h r : Fraction E) → IsCancelled o f h → IsSamePair o r h → IsCancelled o f r
  cancelled-pair f h r (zero _ z s) t = zero r z (record { numerator = q.same_trans r.0 h.0 _ t.numerator s.numerator; denominator = q.same_trans r.1 h.1 _ t.denominator s.denominator })
  cancelled-pair f h r (nonzero g d _ z a b k) t = nonzero g d r z a b (record {
    factor = k.factor;
    inverts = k.inverts;
    scaled = record { numerator = q.same_trans r.0 h.0 _ t.numerator k.scaled.numerator; denominator = q.same_trans r.1 h.1 _ t.denominator k.scaled.denominator };
  })

  -- a polynomial over one may be written in another way
  pub over_one-pair : (r : Fraction E) (f g : Polynomial E) → IsSame P f g → IsSamePair o r (over_one o f) → IsSamePair o r (over_one o g)
  over_one-pair r f g e s = record { numerator = q.same_trans r.0 f g s.numerator e; denominator = s.denominator }

  -- a zero numerator over one
  pub from-zero : (f r : Fraction E) (z : Polynomial E) → is_zero o f.0 ≡ true → IsSame P z [] → IsSamePair o r (over_one o z) → IsCancelled o f r
  from-zero f r z n e s = zero r n (record { numerator = q.same_trans r.0 z [] s.numerator e; denominator = s.denominator })

-- the inverse of the coefficient of the term at the place of the greatest monomial
pub inverts-lead : (p v : ℕ) (f : Polynomial ℕ) → IsPart p v f → (k : ℕ) (d : Term ℕ) → k < length f → IsLeadingMonomial (residue_ops p) grevlex f (get_or f k d).0 → (c r : ℕ) → c ≡ (get_or f k d).1 → IsSame (residue_ops p) ((residue_ops p).mul c r) 1 → InvertsLead (residue_ops p) f r
inverts-lead p v f n k d inside leads c r at e =
    let o = residue_ops p in
    let l = residue_laws p in
    let is = coefficient-of_term o l (λ x. nat_lt x p) v f (ordered-from_normal o (λ x. nat_lt x p) v f n) (get_or f k d) (Contains-get_or f k d inside) in
    record {
      lead = (get_or f k d).0;
      leads = leads;
      inverse = facts.then o l (l.mul_comm r (coefficient o f (get_or f k d).0)) (facts.then o l (facts.mul2 o l (facts.then o l is (facts.of_same o l (sym at))) (l.same_refl r)) e);
    }
