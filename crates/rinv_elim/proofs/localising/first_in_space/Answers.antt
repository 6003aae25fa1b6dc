use Rattle.std.proofs.Common.{◌<◌, List, ℕ, take_all, subst, arith}
use Rattle.std.proofs.lemmas.List.Elements.{All-more}
use Rattle.rinv_algebra.specs.Monomial.{total_degree}
use Rattle.rinv_elim.proofs.localising.first_in_space.Goals as goal

pub leads-preserved : goal.leads-preserved
leads-preserved c =
    All-more (λ m. 0 < total_degree m) c.args.leads.now c.leads.place c.index-leads-place.result (omega arith) c.leads.invariant
    (subst (λ (m : List ℕ). 0 < total_degree m) c.index-leads-place.is (omega (arith, c.degree.ensures.value, c.if-degree-eq0.false)))

pub returns-clause-none : goal.returns-clause-none
returns-clause-none c = rw (take_all c.leads.place c.args.leads.now c.leads-test.false) at c.leads.invariant
