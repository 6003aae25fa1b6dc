-- Formal sums in given variables: in the first v, and moved past the first k.
--   IsFront v m          m is a monomial in the first v variables
--   in_variables-of      a formal sum in the first v variables is a sum of such terms
--   of-in_variables      and the other way round
--   past_map             to move the variables is a map of rings
--   past-class           its class is the class relabelled
use Rattle.std.proofs.Common.{◌≡◌, ℕ, ◌≤◌, List, [], ◌∷◌, ◌++◌, IsTrue, length, length-take, take, take_all, replicate, refl, sym, ◌∙◌, ap, ap₂, subst, arith}
use Rattle.std.specs.Prelude.{nat_le}
use Rattle.std.proofs.lemmas.Bool.Decides.{nat_tests}
use mathlib.Core.Logic.{∥∥₁_prop, ∥∥₁_map}
use Rattle.rinv_algebra.specs.Ring.{RingOps, RingLaws}
use Rattle.rinv_algebra.specs.Polynomial.{Polynomial, poly_ops, past}
use Rattle.rinv_algebra.specs.Normal.{is_in_variables}
use Rattle.rinv_algebra.proofs.Same.{both, and_true}
use Rattle.rinv_algebra.proofs.PolynomialLaws.{poly_laws}
use Rattle.rinv_theory.proofs.CRing.{hom-zero}
use Rattle.rinv_theory.proofs.Classes.{Class, class, class_ind, class-zero}
use Rattle.rinv_theory.proofs.Monoid.{Monomial, monomial, monomial_ind}
use Rattle.rinv_theory.proofs.Universal.{relabel, relabel-term}
use Rattle.rinv_theory.proofs.Polynomials.{polynomials, poly_ring, term_at, class-cons}
use Rattle.rinv_theory.proofs.Values.{IsMap, map_of_class}
use Rattle.rinv_theory.proofs.Of.{Of}
use Rattle.rinv_theory.proofs.Places.{front, front-list, behind, behind-list, behind-mul}

-- a monomial in the first v variables
abbrev pub IsFront : ℕ → Monomial → Type 0
IsFront v m = front v m ≡ m

module _ {E : Type 0} (o : RingOps E) (l : RingLaws o) where
  -- a formal sum in the first v variables is a sum of terms in them
  pub in_variables-of : (v : ℕ) (f : Polynomial E) → IsTrue (is_in_variables v f) → Of (polynomials o l) (IsFront v) (class (poly_ops o) f)
  in_variables-of v [] h = subst (Of (polynomials o l) (IsFront v)) (sym (class-zero (poly_ops o) (poly_laws o l))) Of.none
  in_variables-of v ((a, c) ∷ f) h =
      let parts = both _ (is_in_variables v f) h in
      let low : length a ≤ v = grind (arith, nat_tests, parts) in
      subst (Of (polynomials o l) (IsFront v)) (sym (class-cons o l c a f)) (Of.more (class o c) (monomial a) (front-list v a ∙ ap monomial (take_all v a low)) (in_variables-of v f parts.1))

  -- a sum of terms in the first v variables is the class of a formal sum in them
  pub of-in_variables : (v : ℕ) {x : Class (poly_ops o)} → Of (polynomials o l) (IsFront v) x → ∥ ((f : Polynomial E) × IsTrue (is_in_variables v f) × (class (poly_ops o) f ≡ x)) ∥₁
  of-in_variables v Of.none = ∣ ([], refl, class-zero (poly_ops o) (poly_laws o l)) ∣₁
  of-in_variables v (Of.more {f = x} c m q r) =
      class_ind o l (λ c. ∥ Written (term_at o l c m) ∥₁) (λ c. ∥∥₁_prop) (λ c. monomial_ind (λ m. IsFront v m → ∥ Written (term_at o l (class o c) m) ∥₁) (λ m. hlevel (∥∥₁_prop {A = Written (term_at o l (class o c) m)})) (λ a q. ∥∥₁_map (of-in_variables v r) (with_term c a q)) m q) c
    where
      Written : Class (poly_ops o) → Type 0
      Written t = (f : Polynomial E) × IsTrue (is_in_variables v f) × (class (poly_ops o) f ≡ (poly_ring o l).add t x)

      short : (a : List ℕ) → IsTrue (nat_le (length (take v a)) v)
      short a = let e = length-take v a in grind (arith, nat_tests, e)

      with_term : (c : E) (a : List ℕ) → IsFront v (monomial a) → (f : Polynomial E) × IsTrue (is_in_variables v f) × (class (poly_ops o) f ≡ x) → Written (term_at o l (class o c) (monomial a))
      with_term c a q (f, h, e) = ((take v a, c) ∷ f, and_true _ (is_in_variables v f) (short a) h, class-cons o l c (take v a) f ∙ ap₂ (poly_ring o l).add (ap (term_at o l (class o c)) (sym (front-list v a) ∙ q)) e)

  -- the class of a polynomial moved to other variables
  pub past-class : (k : ℕ) (f : Polynomial E) → class (poly_ops o) (past k f) ≡ (relabel (polynomials o l) (polynomials o l) (behind k) (behind-mul k)).at (class (poly_ops o) f)
  past-class k [] = class-zero (poly_ops o) (poly_laws o l) ∙ sym (hom-zero (relabel (polynomials o l) (polynomials o l) (behind k) (behind-mul k))) ∙ ap (relabel (polynomials o l) (polynomials o l) (behind k) (behind-mul k)).at (sym (class-zero (poly_ops o) (poly_laws o l)))
  past-class k ((a, c) ∷ f) =
      class-cons o l c (replicate k 0 ++ a) (past k f)
      ∙ ap₂ (poly_ring o l).add (ap (term_at o l (class o c)) (sym (behind-list k a)) ∙ sym (relabel-term (polynomials o l) (polynomials o l) (behind k) (behind-mul k) (class o c) (monomial a))) (past-class k f)
      ∙ sym ((relabel (polynomials o l) (polynomials o l) (behind k) (behind-mul k)).add _ _)
      ∙ ap (relabel (polynomials o l) (polynomials o l) (behind k) (behind-mul k)).at (sym (class-cons o l c a f))

  -- to move the variables is a map of rings
  pub past_map : (k : ℕ) → IsMap (poly_ops o) (poly_ops o) (past k)
  past_map k = map_of_class (poly_ops o) (poly_laws o l) (poly_ops o) (poly_laws o l) (past k) (relabel (polynomials o l) (polynomials o l) (behind k) (behind-mul k)) (past-class k)
