-- Elimination: polynomials without the first variables.
use Rattle.std.specs.Prelude.{ℕ, Bool, ◌==◌, List, take, filter, IsTrue, IsFalse}
use Rattle.std.specs.List.{AllByRecursion}
use Rattle.std.specs.Ordering.{is_ge}
use Rattle.std.specs.declared.cmp.Ordering.{Ordering}
use Rattle.rinv_algebra.specs.Ring.{RingOps}
use Rattle.rinv_algebra.specs.Monomial.{total_degree}
use Rattle.rinv_algebra.specs.Polynomial.{Polynomial, has_monomial, is_zero}
use Rattle.rinv_algebra.specs.Normal.{is_in_variables}
use Rattle.rinv_algebra.specs.Ideal.{IsMember}
use Rattle.rinv_algebra.specs.Leading.{leading_monomial}
use Rattle.rinv_groebner.specs.Division.{is_reducible}
use Rattle.rinv_groebner.specs.Basis.{AreMembers}

-- whether a monomial has none of the first k variables
abbrev pub is_free : ℕ → List ℕ → Bool
is_free k m = total_degree (take k m) == 0

-- an order eliminates the first k variables: what is not greater than a monomial without them has none of them
abbrev pub Eliminates : (List ℕ → List ℕ → Ordering) → ℕ → Type 0
Eliminates cmp k = (a b : List ℕ) → IsTrue (is_ge (cmp b a)) → IsTrue (is_free k b) → IsTrue (is_free k a)

module _ {E : Type 0} (o : RingOps E) where
  -- no monomial that f has has one of the first k variables
  abbrev pub IsFreeOf : ℕ → Polynomial E → Type 0
  IsFreeOf k f = (m : List ℕ) → IsTrue (has_monomial o f m) → IsTrue (is_free k m)

  -- the elements whose leading monomials have none of the first k variables
  abbrev pub free_part : (List ℕ → List ℕ → Ordering) → ℕ → List (Polynomial E) → List (Polynomial E)
  free_part cmp k hs = filter (λ h. is_free k (leading_monomial o cmp h)) hs

  -- ps is a Gröbner basis of those polynomials of the ideal of fs, in v variables, that have none of the first k
  pub record IsEliminationBasis (cmp : List ℕ → List ℕ → Ordering) (v k : ℕ) (fs ps : List (Polynomial E)) : Type 0 where
    pub free : AllByRecursion (IsFreeOf k) ps
    pub members : AreMembers o fs ps
    pub generate : (f : Polynomial E) → IsTrue (is_in_variables v f) → IsFreeOf k f → IsMember o fs f → IsMember o ps f
    pub divided : (f : Polynomial E) → IsTrue (is_in_variables v f) → IsFreeOf k f → IsMember o fs f → IsFalse (is_zero o f) → IsTrue (is_reducible o cmp ps (leading_monomial o cmp f))
