-- The laws of division, over lists.
--   division-identity    the polynomial is the sum of the quotients times the elements, and of what is left
--   step-descends        what can be reduced after a step is less than what was cancelled
--   division-bounded, left-bounded    no product, and nothing left, has a monomial above the greatest of the polynomial
use Rattle.std.proofs.Common.{◌≡◌, ℕ, Bool, true, false, not, List, [], ◌∷◌, ◌++◌, length, get_or, map, refl, sym, ◌∙◌, ap, subst, inl, inr, IsTrue}
use Rattle.std.specs.Prelude.{filter, unwrap_or, if◌then◌else◌}
use Rattle.std.specs.List.{reduce}
use Rattle.std.specs.Ordering.{is_lt, is_ge}
use Rattle.std.specs.declared.cmp.Ordering.{Ordering}
use Rattle.std.specs.declared.cmp.Ordering.TheVariants.{Less}
use Rattle.rinv_algebra.specs.Ring.{RingOps, RingLaws, IsSame}
use Rattle.rinv_algebra.specs.Polynomial.{Polynomial, poly_ops, coefficient, has_monomial, product, is_zero}
use Rattle.rinv_algebra.specs.Ideal.{combination}
use Rattle.rinv_algebra.specs.Leading.{leading_monomial}
use Rattle.rinv_algebra.proofs.PolynomialLaws.{poly_laws}
use Rattle.rinv_algebra.proofs.Same.{same-coefficients}
use Rattle.std.proofs.Math.Seq.{take-nil}
use Rattle.rinv_theory.proofs.Places.{front-list}
use Rattle.rinv_theory.proofs.Classes.{class, class_sound, class_exact, class-add, class-zero}
use Rattle.rinv_theory.proofs.Monoid.{Monomial, monomial}
use Rattle.rinv_theory.proofs.Polynomials.{polynomials}
use Rattle.rinv_theory.proofs.Of.{Of, of-weaken}
use Rattle.rinv_theory.proofs.Variables.{IsFront}
use Rattle.rinv_theory.proofs.Leads.{IsUpTo, is_upto, lead-of, upto-from, above-from, upto-below}
use Rattle.rinv_groebner.specs.Orders.{OrdersMonomials}
use Rattle.rinv_groebner.specs.Division.{Step, quotient_at, quotients, is_reducible, IsStep, Steps}
use Rattle.rinv_groebner.proofs.Greatest.{not_less}
use Rattle.rinv_groebner.proofs.Compared.{all_monomials, InFirst, of_passes, has-coefficient, has_front, nonzero-front, class_leads, less_below, below_less}
use Rattle.rinv_groebner.proofs.ListElements.{AllFirst}
use Rattle.rinv_groebner.proofs.StepClasses.{cancelled_front, step-first, step-falls}
use Rattle.rinv_groebner.proofs.Paths.{steps_path}
use Rattle.rinv_groebner.proofs.StepSums.{path-sum}
use Rattle.rinv_groebner.proofs.StepMultiples.{Passes, path-of, path-products}

filter-none : {X : Type 0} (test : X → Bool) → ((x : X) → test x ≡ false) → (xs : List X) → filter test xs ≡ []
filter-none test h [] = refl
filter-none test h (x ∷ xs) = rw (h x) (filter-none test h xs)

module _ {E : Type 0} (o : RingOps E) (l : RingLaws o) (cmp : List ℕ → List ℕ → Ordering) (hs : List (Polynomial E)) where
  -- the polynomial is the sum of the quotients times the elements, and of what is left
  pub division-identity : (f left : Polynomial E) (steps : List (Step E)) → Steps o cmp hs f steps left → IsSame (poly_ops o) f (combination o (quotients (length hs) steps) hs ++ left)
  division-identity f left steps r = class_exact (poly_ops o) (poly_laws o l) f _ (path-sum o l cmp hs (steps_path o cmp hs l r) ∙ sym (class-add (poly_ops o) (poly_laws o l) _ left))

  module _ (v : ℕ) (order : OrdersMonomials cmp v) (first : AllFirst o l v hs) (f : Polynomial E) (f_first : InFirst o l v f) where
    -- whether a monomial is up to the greatest of f
    is_bounded : Monomial → Bool
    is_bounded n = is_upto (all_monomials cmp v order) n (monomial (leading_monomial o cmp f))

    down : (n m : Monomial) → IsFront v n → (all_monomials cmp v order).below n m → is_bounded m ≡ true → is_bounded n ≡ true
    unfolding is_bounded
    down n m q h t = go (is_upto (all_monomials cmp v order) n (monomial (leading_monomial o cmp f))) refl (upto-from (all_monomials cmp v order) m (monomial (leading_monomial o cmp f)) t)
      where
        under : IsUpTo (all_monomials cmp v order) m (monomial (leading_monomial o cmp f)) → (all_monomials cmp v order).below (monomial (leading_monomial o cmp f)) n → ⊥
        under (inl u) k = (all_monomials cmp v order).irreflexive n ((all_monomials cmp v order).trans n m n h ((all_monomials cmp v order).trans m _ n u k))
        under (inr i) k = (all_monomials cmp v order).irreflexive n ((all_monomials cmp v order).trans n m n h (subst (λ x. (all_monomials cmp v order).below x n) (sym i) k))

        go : (b : Bool) → is_upto (all_monomials cmp v order) n (monomial (leading_monomial o cmp f)) ≡ b → IsUpTo (all_monomials cmp v order) m (monomial (leading_monomial o cmp f)) → b ≡ true
        go true e u = refl
        go false e u = absurd (under u (above-from (all_monomials cmp v order) n _ e))

    bounded : Of (polynomials o l) (Passes o l cmp v order hs first is_bounded down) (class (poly_ops o) f)
    unfolding is_bounded
    bounded = go (is_zero o f) refl
      where
        go : (b : Bool) → is_zero o f ≡ b → Of (polynomials o l) (λ n. IsFront v n × (is_upto (all_monomials cmp v order) n (monomial (leading_monomial o cmp f)) ≡ true)) (class (poly_ops o) f)
        go true e = subst (Of (polynomials o l) (λ n. IsFront v n × (is_upto (all_monomials cmp v order) n (monomial (leading_monomial o cmp f)) ≡ true))) (sym (class_sound (poly_ops o) (poly_laws o l) f [] e ∙ class-zero (poly_ops o) (poly_laws o l))) Of.none
        go false n = lead-of (polynomials o l) (all_monomials cmp v order) (class_leads o l v cmp order f f_first n) f_first

    lead_nil : is_zero o f ≡ true → leading_monomial o cmp f ≡ []
    unfolding leading_monomial coefficient
    lead_nil e = ap (λ (ms : List (List ℕ)). unwrap_or (reduce (λ a b. if is_lt (cmp a b) then b else a) ms) []) (filter-none (has_monomial o f) (absent e) (map (λ t. t.0) f))
      where
        absent : is_zero o f ≡ true → (m : List ℕ) → has_monomial o f m ≡ false
        absent e m = ap not (same-coefficients o l f [] e m)

    within : (g : Polynomial E) → Of (polynomials o l) (Passes o l cmp v order hs first is_bounded down) (class (poly_ops o) g) → (m : List ℕ) → IsTrue (has_monomial o g m) → IsTrue (is_ge (cmp (leading_monomial o cmp f) m))
    unfolding is_bounded
    within g r m h = not_less cmp order.laws.total (leading_monomial o cmp f) m (λ low. above (less_below cmp v order (leading_monomial o cmp f) m lead_first front low) upto)
      where
        front : IsFront v (monomial m)
        front = has_front o l v g (of-weaken (polynomials o l) (λ n q. q.0) r) m h

        upto : IsUpTo (all_monomials cmp v order) (monomial m) (monomial (leading_monomial o cmp f))
        upto = upto-from (all_monomials cmp v order) (monomial m) (monomial (leading_monomial o cmp f)) (of_passes (polynomials o l) is_bounded (monomial m) (of-weaken (polynomials o l) (λ n q. q.1) r) (has-coefficient o l g m h))

        lead_first : IsFront v (monomial (leading_monomial o cmp f))
        lead_first = go (is_zero o f) refl
          where
            go : (b : Bool) → is_zero o f ≡ b → IsFront v (monomial (leading_monomial o cmp f))
            go true e = subst (λ (m : List ℕ). IsFront v (monomial m)) (sym (lead_nil e)) (front-list v [] ∙ ap monomial (take-nil v))
            go false n = nonzero-front o l v f_first (monomial (leading_monomial o cmp f)) (class_leads o l v cmp order f f_first n).nonzero

        above : (all_monomials cmp v order).below (monomial (leading_monomial o cmp f)) (monomial m) → IsUpTo (all_monomials cmp v order) (monomial m) (monomial (leading_monomial o cmp f)) → ⊥
        above h u = (all_monomials cmp v order).irreflexive (monomial m) (upto-below (all_monomials cmp v order) (monomial m) _ (monomial m) u h)

    -- no product of a quotient and its element has a monomial above the greatest of f
    pub division-bounded : (left : Polynomial E) (steps : List (Step E)) → Steps o cmp hs f steps left → (k : ℕ) (m : List ℕ) → IsTrue (has_monomial o (product o (quotient_at steps k) (get_or hs k [])) m) → IsTrue (is_ge (cmp (leading_monomial o cmp f) m))
    division-bounded left steps r k = within (product o (quotient_at steps k) (get_or hs k [])) (path-products o l cmp v order hs first is_bounded down (steps_path o cmp hs l r) bounded k)

    -- and nothing that is left
    pub left-bounded : (left : Polynomial E) (steps : List (Step E)) → Steps o cmp hs f steps left → (m : List ℕ) → IsTrue (has_monomial o left m) → IsTrue (is_ge (cmp (leading_monomial o cmp f) m))
    left-bounded left steps r = within left (path-of o l cmp v order hs first is_bounded down (steps_path o cmp hs l r) bounded)

module _ {E : Type 0} (o : RingOps E) (l : RingLaws o) (cmp : List ℕ → List ℕ → Ordering) (v : ℕ) (order : OrdersMonomials cmp v) where
  -- what can be reduced after a step is less than what was cancelled
  pub step-descends : {hs : List (Polynomial E)} → AllFirst o l v hs → {f left : Polynomial E} {s : Step E} → InFirst o l v f → (step : IsStep o cmp hs f s left) → (e : List ℕ) → IsTrue (has_monomial o left e) → IsTrue (is_reducible o cmp hs e) → cmp e step.cancelled ≡ Less
  step-descends first {left = left} r step e has red =
      below_less cmp v order e step.cancelled (has_front o l v left (step-first o l cmp step v order first r) e has) (cancelled_front o l cmp step v order first r) (step-falls o l cmp step v order first r e has red)
