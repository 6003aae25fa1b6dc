use Rattle.rinv_gens.specs.declared.kinds.Findings.{Findings}
use Rattle.rinv_rewrite.proofs.AnswerClauses.{found-tied}
use Rattle.rinv_rewrite.proofs.TiedRelations.{tied_relations}
use Rattle.rinv_rewrite.proofs.basis.prepared.Goals as goal

pub prepared_for-requires-clause-relations : goal.prepared_for-requires-clause-relations
prepared_for-requires-clause-relations c =
    let g : Findings = c.args.found.now in
    let told = c.args.system.now in
    rw (c.deref.ensures.value, c.deref-2.ensures.value) (tied_relations told.system g.fractions.items g.relations.items (found-tied told g c.requires.pieces))

pub returns : goal.returns
returns c = rw (c.deref.ensures.value, c.deref-2.ensures.value) at c.in_ok-basis.ensures
