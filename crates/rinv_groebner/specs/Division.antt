-- Division by a list of polynomials: cancelling steps, one after another, until no term can be cancelled.
use Rattle.std.specs.Prelude.{◌≡◌, ℕ, ◌<◌, Bool, not, ◌&&◌, ◌==◌, List, [], ◌∷◌, ◌++◌, map, length, get_or, IsTrue, IsFalse, if◌then◌else◌}
use Rattle.std.specs.List.{list_any, range_with_len, AllZip}
use Rattle.std.specs.Ordering.{is_ge}
use Rattle.std.specs.declared.cmp.Ordering.{Ordering}
use Rattle.rinv_algebra.specs.Ring.{RingOps, IsSame}
use Rattle.rinv_algebra.specs.Monomial.{same_monomial, monomial_product, divides}
use Rattle.rinv_algebra.specs.Polynomial.{Term, Polynomial, coefficient, poly_ops, has_monomial, is_zero, term_product, difference}
use Rattle.rinv_algebra.specs.Leading.{leading_monomial, leading_coefficient}

-- the step that takes away a multiple, by a term, of the element at a place
pub record Step (E : Type 0) : Type 0 where
  pub place : ℕ
  pub multiplier : Term E

-- the multipliers at a place, in their order: its quotient
abbrev pub quotient_at : {E : Type 0} → List (Step E) → ℕ → Polynomial E
quotient_at [] k = []
quotient_at (s ∷ steps) k = if s.place == k then s.multiplier ∷ quotient_at steps k else quotient_at steps k

-- the quotients of the first n places
abbrev pub quotients : {E : Type 0} → ℕ → List (Step E) → List (Polynomial E)
quotients n steps = map (quotient_at steps) (range_with_len 0 n)

-- two steps take the same multiple of the element at one place
pub record IsSameStep {E : Type 0} (o : RingOps E) (s t : Step E) : Type 0 where
  pub place : s.place ≡ t.place
  pub monomial : IsTrue (same_monomial s.multiplier.0 t.multiplier.0)
  pub coefficient : IsSame o s.multiplier.1 t.multiplier.1

-- two lists of steps are the same, step by step
abbrev pub AreSameSteps : {E : Type 0} → RingOps E → List (Step E) → List (Step E) → Type 0
AreSameSteps o steps others = AllZip (IsSameStep o) steps others

-- two lists of polynomials are the same, place by place
abbrev pub AreSame : {E : Type 0} → RingOps E → List (Polynomial E) → List (Polynomial E) → Type 0
AreSame o fs gs = AllZip (IsSame (poly_ops o)) fs gs

module _ {E : Type 0} (o : RingOps E) (cmp : List ℕ → List ℕ → Ordering) where
  -- whether the leading monomial of h divides m; the zero polynomial has none
  abbrev pub lead_divides : Polynomial E → List ℕ → Bool
  lead_divides h m = not (is_zero o h) && divides (leading_monomial o cmp h) m

  -- whether that of some element of the list does
  abbrev pub is_reducible : List (Polynomial E) → List ℕ → Bool
  is_reducible hs m = list_any (λ h. lead_divides h m) hs

  -- no monomial that f has is reducible
  abbrev pub IsIrreducible : List (Polynomial E) → Polynomial E → Type 0
  IsIrreducible hs f = (m : List ℕ) → IsTrue (has_monomial o f m) → IsFalse (is_reducible hs m)

  -- m is the greatest reducible monomial that f has, and the place is that of the first element whose leading monomial divides it
  pub record IsNext (hs : List (Polynomial E)) (f : Polynomial E) (m : List ℕ) (place : ℕ) : Type 0 where
    pub has : IsTrue (has_monomial o f m)
    pub greatest : (e : List ℕ) → IsTrue (has_monomial o f e) → IsTrue (is_reducible hs e) → IsTrue (is_ge (cmp m e))
    pub inside : place < length hs
    pub divides : IsTrue (lead_divides (get_or hs place []) m)
    pub first : (j : ℕ) → j < place → IsFalse (lead_divides (get_or hs j []) m)

  -- a cancelling step takes away the multiple of that element whose leading term is this term of f
  pub record IsStep (hs : List (Polynomial E)) (f : Polynomial E) (s : Step E) (left : Polynomial E) : Type 0 where
    pub cancelled : List ℕ
    pub next : IsNext hs f cancelled s.place
    pub monomial : IsTrue (same_monomial (monomial_product s.multiplier.0 (leading_monomial o cmp (get_or hs s.place []))) cancelled)
    pub coefficient : IsSame o (o.mul s.multiplier.1 (leading_coefficient o cmp (get_or hs s.place []))) (coefficient o f cancelled)
    pub taken : IsSame (poly_ops o) left (difference o f (term_product o s.multiplier (get_or hs s.place [])))

  -- these cancelling steps, in turn, take f to what is left
  pub data Steps (hs : List (Polynomial E)) (f : Polynomial E) : List (Step E) → Polynomial E → Type 0 where
    start : (left : Polynomial E) → IsSame (poly_ops o) left f → Steps hs f [] left
    next : (steps : List (Step E)) (before : Polynomial E) (s : Step E) (left : Polynomial E) → Steps hs f steps before → IsStep hs before s left → Steps hs f (steps ++ s ∷ []) left

  -- division: they leave a rest none of whose monomials is reducible
  pub record IsDivision (hs : List (Polynomial E)) (f : Polynomial E) (steps : List (Step E)) (rest : Polynomial E) : Type 0 where
    pub by_steps : Steps hs f steps rest
    pub irreducible : IsIrreducible hs rest
