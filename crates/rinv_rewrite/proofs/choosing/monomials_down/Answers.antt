use Rattle.std.proofs.Common.{rules, ℕ, List, subst}
use Rattle.std.specs.List.Sorted.{IsPermutation}
use Rattle.std.specs.Ordering.{is_lt}
use Rattle.std.proofs.lemmas.List.MinMax.{IsStrictWeakOrder-flip}
use Rattle.std.proofs.lemmas.List.Sorted.{answers_always, ranks_by}
use Rattle.rinv_algebra.specs.Order.{grevlex}
use Rattle.rinv_algebra.proofs.Grevlex.{grevlex_laws}
use Rattle.rinv_rewrite.proofs.choosing.monomials_down.Goals as goal

pub returns : goal.returns
returns c = record {
  monomials = subst (λ (ms : List (List ℕ)). IsPermutation ms c.sort_unstable_by.new.self.items) c.in_ok-monomials.ensures c.sort_unstable_by.ensures.permutation;
  descending = c.sort_unstable_by.ensures.sorted (λ a b. is_lt (grevlex b a)) (IsStrictWeakOrder-flip (λ a b. is_lt (grevlex a b)) (ranks_by grevlex_laws.total (λ a. a)))
      (answers_always _ _ _ (λ f a r h called. search rules));
}
