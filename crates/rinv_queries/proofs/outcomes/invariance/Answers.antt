use Rattle.rinv_poly.proofs.Meets.{meet-weaker}
use Rattle.rinv_change.specs.Changes.{ChangeMeets}
use Rattle.rinv_script.specs.Queries.{whether_invariant}
use Rattle.rinv_queries.specs.Outcomes.{Answers}
use Rattle.rinv_queries.specs.Cuts.{QueryMeets}
use Rattle.rinv_queries.proofs.outcomes.invariance.Goals as goal

pub returns-in-Ok-None-clause-answers : goal.returns-in-Ok-None-clause-answers
returns-in-Ok-None-clause-answers c = Answers.it_is_invariant (rw c.in-Ok-None.field-0-is at c.in-Ok-None.ensures.exact)

pub returns-in-Ok-Some-clause-answers : goal.returns-in-Ok-Some-clause-answers
returns-in-Ok-Some-clause-answers c = Answers.it_is_not (rw c.in-Ok-Some.field-0-is at c.in-Ok-Some.ensures.exact)

pub returns-in-Err-clause-degree : goal.returns-in-Err-clause-degree
returns-in-Err-clause-degree c =
    let known = c.group.ensures c.args.system.now c.requires.known in
    meet-weaker (ChangeMeets c.args.system.now.system c.group.result.now.basis c.args.f.now) (QueryMeets c.args.system.now (whether_invariant c.args.f.now))
    (λ x y h. record { group = c.group.result.now.basis; reduced = c.group.result.now.reduced.items; basis = known.basis; within = known.within; meets = h })
    c.in-Err.fault c.in-Err.ensures.degree

pub test_invariant-requires-clause-group : goal.test_invariant-requires-clause-group
test_invariant-requires-clause-group c = (c.group.ensures c.args.system.now c.requires.known).basis
