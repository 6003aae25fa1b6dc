-- A list generates the ideal in which it divides the leading monomials: each member has cofactors over the list, by division.
--   own_members          the elements of a list are members of its ideal
--   division-first       what a division leaves is a sum of terms in the same variables
--   generates            each member, in v variables, is a member of the ideal of the list
use Rattle.std.proofs.Common.{ℕ, List, []}
use Rattle.std.specs.declared.cmp.Ordering.{Ordering}
use Rattle.rinv_algebra.specs.Ring.{RingOps, RingLaws, FieldLaws}
use Rattle.rinv_algebra.specs.Polynomial.{Polynomial}
use Rattle.rinv_algebra.specs.Ideal.{IsMember}
use Rattle.rinv_algebra.proofs.PolynomialLaws.{poly_laws}
use Rattle.rinv_groebner.specs.Orders.{OrdersMonomials}
use Rattle.rinv_groebner.specs.Division.{Step, Steps}
use Rattle.rinv_groebner.specs.Basis.{AreMembers}
use Rattle.rinv_groebner.proofs.Ascending.{has_at}
use Rattle.rinv_groebner.proofs.Compared.{InFirst, first-same}
use Rattle.rinv_groebner.proofs.IdealBases.{all_from, AreDivided, list_basis}
use Rattle.rinv_groebner.proofs.ListElements.{AllFirst}
use Rattle.rinv_groebner.proofs.MemberLists.{member_one}
use Rattle.rinv_groebner.proofs.NextSteps.{division_exists}
use Rattle.rinv_groebner.proofs.NormalForms.{division-normal_form, normal_form-zero, zero-member}
use Rattle.rinv_groebner.proofs.StepClasses.{step-first}

module _ {E : Type 0} (o : RingOps E) (l : RingLaws o) where
  -- the elements of a list are members of its ideal
  pub own_members : (hs : List (Polynomial E)) → AreMembers o hs hs
  own_members hs = all_from (IsMember o hs) [] hs (λ k inside. member_one o l (has_at [] hs k inside))

  module _ (cmp : List ℕ → List ℕ → Ordering) (v : ℕ) (order : OrdersMonomials cmp v) (hs : List (Polynomial E)) (first : AllFirst o l v hs) where
    -- what cancelling steps leave is a sum of terms in the same variables
    pub steps-first : (f : Polynomial E) (steps : List (Step E)) (left : Polynomial E) → Steps o cmp hs f steps left → InFirst o l v f → InFirst o l v left
    steps-first f steps left (Steps.start left' s) r = first-same o l v f left ((poly_laws o l).same_sym left f s) r
    steps-first f steps left (Steps.next steps' before s left' h step) r = step-first o l cmp step v order first (steps-first f steps' before h r)

    -- each member, in v variables, is a member of the ideal of the list
    pub generates : FieldLaws o → (fs : List (Polynomial E)) → AreMembers o fs hs → AreDivided o l v cmp order fs hs → (f : Polynomial E) → InFirst o l v f → IsMember o fs f → IsMember o hs f
    generates field fs members divided f r m =
        let (steps, rest, d) = division_exists o l field cmp v order hs first f r in
        zero-member o l cmp hs hs f rest (division-normal_form o l cmp hs hs (own_members hs) f steps rest d)
        (normal_form-zero o l cmp v order fs hs (list_basis o l v cmp order fs hs field first members divided) f rest (steps-first f steps rest d.by_steps r) (division-normal_form o l cmp fs hs members f steps rest d) m)
