-- Cancelling steps from the first to the last. The definition grows at its end, as a loop does; here it grows at its front.
--   step-same            a step depends on the coefficients alone
--   Path hs f steps left    the steps take f to what is left
--   path_steps, steps_path    the two are one
--   steps-same           steps depend on the coefficients alone
use Rattle.std.proofs.Common.{ℕ, List, [], ◌∷◌, ◌++◌, get_or, sym, ◌∙◌}
use Rattle.std.specs.declared.cmp.Ordering.{Ordering}
use Rattle.rinv_algebra.specs.Ring.{RingOps, RingLaws, IsSame}
use Rattle.rinv_algebra.specs.Polynomial.{Polynomial, poly_ops, opposite, term_product}
use Rattle.rinv_algebra.proofs.PolynomialLaws.{poly_laws}
use Rattle.rinv_algebra.proofs.Same.{same-coefficients}
use Rattle.rinv_algebra.proofs.Degrees.{has_monomial-same}
use Rattle.rinv_algebra.proofs.RingFacts as facts
use Rattle.rinv_groebner.specs.Division.{Step, IsNext, IsStep, Steps}

module _ {E : Type 0} (o : RingOps E) (cmp : List ℕ → List ℕ → Ordering) (hs : List (Polynomial E)) where
  -- the steps take f to what is left
  pub data Path : Polynomial E → List (Step E) → Polynomial E → Type 0 where
    stay : {f left : Polynomial E} → IsSame (poly_ops o) left f → Path f [] left
    take : {f mid left : Polynomial E} {s : Step E} {steps : List (Step E)} → IsStep o cmp hs f s mid → Path mid steps left → Path f (s ∷ steps) left

  module _ (l : RingLaws o) where
    next-same : (f g : Polynomial E) → IsSame (poly_ops o) f g → (m : List ℕ) (p : ℕ) → IsNext o cmp hs f m p → IsNext o cmp hs g m p
    next-same f g e m p n = record {
      has = sym (has_monomial-same o l f g e m) ∙ n.has;
      greatest = λ d h r. n.greatest d (has_monomial-same o l f g e d ∙ h) r;
      inside = n.inside;
      divides = n.divides;
      first = n.first;
    }

    -- a step depends on the coefficients alone
    pub step-same : (f g left other : Polynomial E) (s : Step E) → IsSame (poly_ops o) f g → IsSame (poly_ops o) other left → IsStep o cmp hs f s left → IsStep o cmp hs g s other
    step-same f g left other s e e' step = record {
      cancelled = step.cancelled;
      next = next-same f g e step.cancelled s.place step.next;
      monomial = step.monomial;
      coefficient = facts.then o l step.coefficient (same-coefficients o l f g e step.cancelled);
      taken = facts.then (poly_ops o) (poly_laws o l) e' (facts.then (poly_ops o) (poly_laws o l) step.taken ((poly_laws o l).add_same f g multiple multiple e ((poly_laws o l).same_refl multiple)));
    }
      where
        multiple : Polynomial E
        multiple = opposite o (term_product o s.multiplier (get_or hs s.place []))

    then_step : {f mid left : Polynomial E} {steps : List (Step E)} (s : Step E) → Path f steps mid → IsStep o cmp hs mid s left → Path f (steps ++ s ∷ []) left
    then_step {f} {mid} {left} s (stay e) step = take (step-same mid f left left s e ((poly_laws o l).same_refl left) step) (stay ((poly_laws o l).same_refl left))
    then_step s (take t p) step = take t (then_step s p step)

    -- steps, as a path
    pub steps_path : {f left : Polynomial E} {steps : List (Step E)} → Steps o cmp hs f steps left → Path f steps left
    steps_path (Steps.start left e) = stay e
    steps_path (Steps.next steps before s left r step) = then_step s (steps_path r) step

    step_first : {f mid left : Polynomial E} {steps : List (Step E)} (s : Step E) → IsStep o cmp hs f s mid → Steps o cmp hs mid steps left → Steps o cmp hs f (s ∷ steps) left
    step_first {f} {mid} s step (Steps.start left e) = Steps.next [] f s left (Steps.start f ((poly_laws o l).same_refl f)) (step-same f f mid left s ((poly_laws o l).same_refl f) e step)
    step_first s step (Steps.next steps before t left r u) = Steps.next (s ∷ steps) before t left (step_first s step r) u

    -- and the other way round
    pub path_steps : {f left : Polynomial E} {steps : List (Step E)} → Path f steps left → Steps o cmp hs f steps left
    path_steps (stay {left = left} e) = Steps.start left e
    path_steps (take {s = s} step p) = step_first s step (path_steps p)

    path-same : {f g left other : Polynomial E} {steps : List (Step E)} → Path f steps left → IsSame (poly_ops o) f g → IsSame (poly_ops o) other left → Path g steps other
    path-same (stay a) e e' = stay (facts.then (poly_ops o) (poly_laws o l) e' (facts.then (poly_ops o) (poly_laws o l) a e))
    path-same {f} {g} (take {mid = mid} {s = s} step p) e e' = take (step-same f g mid mid s e ((poly_laws o l).same_refl mid) step) (path-same p ((poly_laws o l).same_refl mid) e')

    -- steps depend on the coefficients alone
    pub steps-same : {f g left other : Polynomial E} {steps : List (Step E)} → IsSame (poly_ops o) f g → IsSame (poly_ops o) other left → Steps o cmp hs f steps left → Steps o cmp hs g steps other
    steps-same e e' r = path_steps (path-same (steps_path r) e e')
