-- A run at its end: each pair was taken, so that the list is a Gröbner basis.
use Rattle.std.proofs.Common.{◌≡◌, ◌∙◌, ℕ, Bool, List, All, length, sym, ap, arith}
use Rattle.std.proofs.lemmas.List.{length-map}
use Rattle.std.specs.declared.cmp.Ordering.{Ordering}
use Rattle.rinv_algebra.specs.Ring.{RingOps, RingLaws, FieldLaws}
use Rattle.rinv_algebra.specs.Polynomial.{Polynomial}
use Rattle.rinv_algebra.specs.Leading.{leading_monomial}
use Rattle.rinv_algebra.specs.Normal.{IsNormal}
use Rattle.rinv_groebner.specs.Orders.{OrdersMonomials}
use Rattle.rinv_groebner.specs.Basis.{AreNonzero, IsGroebnerBasis}
use Rattle.rinv_groebner.specs.Journal.{IsComplete}
use Rattle.rinv_groebner.proofs.ListElements.{AllFirst, all_first}
use Rattle.rinv_groebner.proofs.JournalBasis.{journal-basis, journal-nonzero}
use Rattle.rinv_pairs.specs.Pairs.{Pairs, AreAllTaken}
use Rattle.rinv_buch.specs.declared.run.Run.{Run}
use Rattle.rinv_buch.specs.Kinds.{journal_of}
use Rattle.rinv_buch.specs.Runs.{IsRun}
use Rattle.rinv_buch.proofs.InVariables.{all-in_variables}

module _ {R E S : Type 0} (o : RingOps E) (l : RingLaws o) (field : FieldLaws o) (is_element : E → Bool) (v : ℕ) (cmp : List ℕ → List ℕ → Ordering) (order : OrdersMonomials cmp v)
    (given : List (Polynomial E)) (normal : All (IsNormal o is_element v) given) (queue : Pairs S) (run : Run R E) (is_run : IsRun o is_element v cmp given queue run) where
  given_first : AllFirst o l v given
  given_first = all_first o l v given (all-in_variables o is_element v given normal)

  number : length queue.leads ≡ length run.elements.polys.items
  number = ap length is_run.leads ∙ length-map run.elements.polys.items (leading_monomial o cmp)

  pub run-complete : AreAllTaken queue → IsComplete o cmp (journal_of run.journal.items) run.elements.polys.items
  run-complete all i j low inside = sym (is_run.taken.taken i j) ∙ all i j low (omega (arith, inside, number))

  pub run-nonzero : AreNonzero o run.elements.polys.items
  run-nonzero = journal-nonzero o l field cmp v order given given_first is_run.journal

  pub run-basis : AreAllTaken queue → IsGroebnerBasis o cmp v given run.elements.polys.items
  run-basis all = journal-basis o l field cmp v order given given_first is_run.journal (run-complete all)
