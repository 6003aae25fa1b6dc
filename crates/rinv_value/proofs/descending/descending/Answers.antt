use Rattle.std.proofs.Common.{rules, ℕ, subst}
use Rattle.std.specs.Ordering.{is_lt}
use Rattle.std.proofs.lemmas.List.MinMax.{IsStrictWeakOrder-flip}
use Rattle.std.proofs.lemmas.List.Sorted.{answers_always, ranks_by}
use Rattle.rinv_algebra.specs.Order.{grevlex}
use Rattle.rinv_algebra.specs.Polynomial.{Polynomial, Term}
use Rattle.rinv_algebra.proofs.Grevlex.{grevlex_laws}
use Rattle.rinv_value.specs.Values.{AreDescending}
use Rattle.rinv_value.proofs.descending.descending.Goals as goal

pub returns : goal.returns
returns c =
    subst (λ (f : Polynomial ℕ). AreDescending f c.sort_unstable_by.new.self.items) c.in_ok-terms.ensures (record {
      terms = c.sort_unstable_by.ensures.permutation;
      descending = c.sort_unstable_by.ensures.sorted (λ s t. is_lt (grevlex t.0 s.0)) (IsStrictWeakOrder-flip (λ (s t : Term ℕ). is_lt (grevlex s.0 t.0)) (ranks_by grevlex_laws.total (λ s. s.0)))
          (answers_always _ _ _ (λ f a r h called. search rules));
    })
