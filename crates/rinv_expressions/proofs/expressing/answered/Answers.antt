use Rattle.std.proofs.Common.{subst}
use Rattle.rinv_generators.specs.Generated.{Generated}
use Rattle.rinv_expressions.specs.Expressed.{Answers}
use Rattle.rinv_expressions.proofs.Tied.{generators-symbols, generators-tied, answers-of}
use Rattle.rinv_expressions.proofs.expressing.answered.Goals as goal

pub prepared_for-requires-clause-relations : goal.prepared_for-requires-clause-relations
prepared_for-requires-clause-relations c = rw (c.deref.ensures.value, c.deref-2.ensures.value) (generators-symbols _ c.gens.invariant)

pub returns-clause-answer : goal.returns-clause-answer
returns-clause-answer c =
    let known = rw c.deref-3.ensures.value at c.in_ok-answer.ensures.answer in
    let ready = rw (c.deref.ensures.value, c.deref-2.ensures.value) at c.in-Ok.ensures in
    subst (λ (g : Generated). Answers g c.args.f.now c.in_ok-answer.answer) c.gens.view_is
    (answers-of _ c.gens.invariant c.args.f.now c.in_ok-answer.answer c.in_ok-answer.ensures.invariant
    (known c.gens.inside.relations.items (generators-tied _ c.gens.invariant) ready))
