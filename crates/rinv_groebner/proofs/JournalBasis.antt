-- A complete journal makes a Gröbner basis of the ideal of the polynomials given.
use Rattle.std.proofs.Common.{ℕ, suc, ◌<◌, not, List, [], ◌∷◌, length, append-nil, get_or, refl, sym, ap, arith}
use Rattle.std.specs.Prelude.{IsFalse}
use Rattle.std.specs.declared.cmp.Ordering.{Ordering}
use Rattle.rinv_algebra.specs.Ring.{RingOps, RingLaws, FieldLaws}
use Rattle.rinv_algebra.specs.Polynomial.{Polynomial, is_zero}
use Rattle.rinv_algebra.proofs.Same.{and_true}
use Rattle.rinv_theory.proofs.Variables.{in_variables-of}
use Rattle.rinv_groebner.specs.Orders.{OrdersMonomials}
use Rattle.rinv_groebner.specs.Basis.{AreNonzero, IsGroebnerBasis}
use Rattle.rinv_groebner.specs.Journal.{Entry, Journal, IsComplete}
use Rattle.rinv_groebner.proofs.ListElements.{AllFirst}
use Rattle.rinv_groebner.proofs.Reducible.{place-inside}
use Rattle.rinv_groebner.proofs.MembersOfLists.{member_trans, members_from}
use Rattle.rinv_groebner.proofs.ListBases.{good_basis}
use Rattle.rinv_groebner.proofs.SettledLists.{all-good}
use Rattle.rinv_groebner.proofs.JournalPairs.{journal-good}
use Rattle.rinv_groebner.proofs.JournalFacts.{ListFacts, journal-facts}

-- a list without zero, from its places
pub nonzero_from : {E : Type 0} (o : RingOps E) (hs : List (Polynomial E)) → ((k : ℕ) → k < length hs → IsFalse (is_zero o (get_or hs k []))) → AreNonzero o hs
nonzero_from o [] h = refl
nonzero_from o (f ∷ hs) h = and_true (not (is_zero o f)) _ (ap not (h 0 (omega arith))) (nonzero_from o hs (λ k low. h (suc k) (omega (arith, low))))

module _ {E : Type 0} (o : RingOps E) (l : RingLaws o) (field : FieldLaws o) (cmp : List ℕ → List ℕ → Ordering) (v : ℕ) (order : OrdersMonomials cmp v)
    (given : List (Polynomial E)) (given_first : AllFirst o l v given) {journal : List Entry} {list : List (Polynomial E)} (j : Journal o cmp given journal list) where
  facts : ListFacts o l field cmp v order given given_first list
  facts = journal-facts o l field cmp v order given given_first j

  -- no element is zero
  pub journal-nonzero : AreNonzero o list
  journal-nonzero = nonzero_from o list facts.nonzero

  -- and where the journal is complete, the list is a Gröbner basis
  pub journal-basis : IsComplete o cmp journal list → IsGroebnerBasis o cmp v given list
  journal-basis complete = record {
    ideal = (members_from o l given list facts.members, members_from o l list given facts.generates);
    divided = λ f f_in m n. good_basis o l field cmp v order list facts.first
        (all-good o l field cmp v order list facts.first (λ x y low. journal-good o l field cmp v order list facts.first facts.nonzero j [] (sym (append-nil list)) x y (complete x.0 y.0 low (place-inside o cmp list y))))
        f (in_variables-of o l v f f_in) (member_trans o l list given facts.generates f m) n;
  }
