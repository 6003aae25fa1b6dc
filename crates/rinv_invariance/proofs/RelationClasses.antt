-- Relations over fractions, as classes.
--   rationals s          the field of fractions; rational s x: a polynomial in it
--   coefficient_over s x b    a coefficient of a polynomial over fractions
--   relation-class, relation-coefficient    a relation is its lead minus its tail
--   tail-zero            the tail of a relation of a reduced basis has no reducible monomial
use Rattle.std.proofs.Common.{◌≡◌, ℕ, Bool, true, false, cond, not, List, refl, sym, ◌∙◌, ap, ap₂, true≢false}
use Rattle.std.specs.Prelude.{IsTrue, IsFalse}
use Rattle.rinv_algebra.specs.Ring.{RingLaws}
use Rattle.rinv_algebra.specs.Polynomial.{coefficient, opposite, poly_ops, has_monomial}
use Rattle.rinv_algebra.proofs.PolynomialLaws.{poly_laws}
use Rattle.rinv_theory.proofs.CRing.{CRing}
use Rattle.rinv_theory.proofs.Classes.{Class, class, class_ring, class_sound, class-neg, class-zero, class-one}
use Rattle.rinv_theory.proofs.Monoid.{Monomial, monomial, monomials}
use Rattle.rinv_theory.proofs.TermRing.{TermRing, coefficient-neg}
use Rattle.rinv_theory.proofs.Polynomials.{polynomials, coefficient_at, class-cons, class-coefficient}
use Rattle.rinv_theory.proofs.Fields.{fraction_laws}
use Rattle.rinv_soundness.proofs.OverFractions.{into}
use Rattle.rinv_soundness.proofs.ExtendedIdeals.{ops, laws, field}
use Rattle.rinv_defs.specs.System.{System}
use Rattle.rinv_defs.specs.Generators.{rational_ops}
use Rattle.rinv_defs.specs.Extended.{Relation, relation_poly, is_reducible}
use Rattle.rinv_invariance.proofs.Points.{PolyClass}

module _ (s : System) where
  -- the field of fractions
  abbrev pub rationals : CRing (Class (rational_ops s.p))
  rationals = class_ring (rational_ops s.p) (fraction_laws (ops s) (laws s) (field s))

  -- a polynomial as a fraction
  abbrev pub rational : PolyClass s.p → Class (rational_ops s.p)
  rational x = (into (ops s) (laws s) (field s)).at x

  -- polynomials over fractions
  abbrev pub over_terms : TermRing rationals monomials (Class (poly_ops (rational_ops s.p)))
  over_terms = polynomials (rational_ops s.p) (fraction_laws (ops s) (laws s) (field s))

  -- a coefficient of one
  abbrev pub coefficient_over : Class (poly_ops (rational_ops s.p)) → Monomial → Class (rational_ops s.p)
  coefficient_over x m = coefficient_at (rational_ops s.p) (fraction_laws (ops s) (laws s) (field s)) x m

  -- the class of a tail
  abbrev pub tail_class : Relation → Class (poly_ops (rational_ops s.p))
  tail_class r = class (poly_ops (rational_ops s.p)) r.tail

  -- a relation is its lead minus its tail
  pub relation-class : (r : Relation) → class (poly_ops (rational_ops s.p)) (relation_poly s r) ≡ over_terms.ring.add (over_terms.term rationals.one (monomial r.lead)) (over_terms.ring.neg (tail_class r))
  relation-class r =
      let q = rational_ops s.p in
      let m = fraction_laws (ops s) (laws s) (field s) in
      class-cons q m q.one r.lead (opposite q r.tail) ∙ ap₂ over_terms.ring.add (ap (λ c. over_terms.term c (monomial r.lead)) (class-one q m)) (class-neg (poly_ops q) (poly_laws q m) r.tail)

  -- by coefficients
  pub relation-coefficient : (r : Relation) (b : Monomial) → coefficient_over (class (poly_ops (rational_ops s.p)) (relation_poly s r)) b ≡ rationals.add (cond (monomials.same (monomial r.lead) b) rationals.one rationals.zero) (rationals.neg (coefficient_over (tail_class r) b))
  relation-coefficient r b = ap (λ x. coefficient_over x b) (relation-class r) ∙ over_terms.coefficient_add _ _ b ∙ ap₂ rationals.add (over_terms.coefficient_term rationals.one (monomial r.lead) b) (coefficient-neg over_terms (tail_class r) b)

  -- the tail of a relation of a reduced basis has no reducible monomial
  pub tail-zero : (rs : List Relation) (r : Relation) → ((m : List ℕ) → IsTrue (has_monomial (rational_ops s.p) r.tail m) → IsFalse (is_reducible rs m)) → (e : List ℕ) → IsTrue (is_reducible rs e) → coefficient_over (tail_class r) (monomial e) ≡ rationals.zero
  tail-zero rs r reduced e i = class-coefficient (rational_ops s.p) m r.tail e ∙ go ((rational_ops s.p).same (coefficient (rational_ops s.p) r.tail e) (rational_ops s.p).zero) refl
    where
      m : RingLaws (rational_ops s.p)
      m = fraction_laws (ops s) (laws s) (field s)

      go : (t : Bool) → (rational_ops s.p).same (coefficient (rational_ops s.p) r.tail e) (rational_ops s.p).zero ≡ t → class (rational_ops s.p) (coefficient (rational_ops s.p) r.tail e) ≡ rationals.zero
      go true q = class_sound (rational_ops s.p) m _ _ q ∙ class-zero (rational_ops s.p) m
      go false q = absurd (true≢false (sym i ∙ reduced e (ap not q)))
