-- Gröbner bases.
use Rattle.std.specs.Prelude.{ℕ, not, List, IsTrue, IsFalse}
use Rattle.std.specs.List.{AllByRecursion, list_all}
use Rattle.std.specs.declared.cmp.Ordering.{Ordering}
use Rattle.rinv_algebra.specs.Ring.{RingOps}
use Rattle.rinv_algebra.specs.Polynomial.{Polynomial, is_zero}
use Rattle.rinv_algebra.specs.Normal.{is_in_variables}
use Rattle.rinv_algebra.specs.Ideal.{IsMember}
use Rattle.rinv_algebra.specs.Leading.{leading_monomial}
use Rattle.rinv_groebner.specs.Division.{is_reducible}

module _ {E : Type 0} (o : RingOps E) where
  -- each polynomial of the second list lies in the ideal of the first
  abbrev pub AreMembers : List (Polynomial E) → List (Polynomial E) → Type 0
  AreMembers fs gs = AllByRecursion (IsMember o fs) gs

  -- two lists generate one ideal
  abbrev pub GenerateOneIdeal : List (Polynomial E) → List (Polynomial E) → Type 0
  GenerateOneIdeal fs gs = AreMembers fs gs × AreMembers gs fs

  -- no polynomial of the list is zero
  abbrev pub AreNonzero : List (Polynomial E) → Type 0
  AreNonzero hs = IsTrue (list_all (λ h. not (is_zero o h)) hs)

  -- hs is a Gröbner basis of the ideal of fs in v variables: it generates this ideal, and the leading monomial of each member
  -- that is not zero is divided by that of an element
  pub record IsGroebnerBasis (cmp : List ℕ → List ℕ → Ordering) (v : ℕ) (fs hs : List (Polynomial E)) : Type 0 where
    pub ideal : GenerateOneIdeal fs hs
    pub divided : (f : Polynomial E) → IsTrue (is_in_variables v f) → IsMember o fs f → IsFalse (is_zero o f) → IsTrue (is_reducible o cmp hs (leading_monomial o cmp f))
