use Rattle.rinv_gens.specs.declared.kinds.Findings.{Findings}
use Rattle.rinv_rewrite.specs.Prepared.{symbol_relations}
use Rattle.rinv_rewrite.proofs.AnswerClauses.{exact, found-tied, stored_symbols, taken}
use Rattle.rinv_rewrite.proofs.rewriting.rewritten.Goals as goal

pub rewritten_by-requires-clause-group : goal.rewritten_by-requires-clause-group
rewritten_by-requires-clause-group c = c.requires.pieces.group

pub rewritten_by-requires-clause-fractions : goal.rewritten_by-requires-clause-fractions
rewritten_by-requires-clause-fractions c = rw c.deref.ensures.value c.requires.pieces.stored

pub rewritten_by-requires-clause-basis : goal.rewritten_by-requires-clause-basis
rewritten_by-requires-clause-basis c = let g : Findings = c.args.found.now in (g.relations.items, rw c.deref.ensures.value c.requires.basis)

pub returns-clause-exact : goal.returns-clause-exact
returns-clause-exact c =
    let g : Findings = c.args.found.now in
    let s = c.args.system.now.system in
    let known = rw c.deref.ensures.value at c.in_ok-expression.ensures.answer in
    exact s g.fractions.items (symbol_relations s.p g.relations.items) c.args.f.now c.in_ok-expression.expression (known g.relations.items (found-tied c.args.system.now g c.requires.pieces) c.requires.basis)

pub returns-clause-symbols : goal.returns-clause-symbols
returns-clause-symbols c =
    let g : Findings = c.args.found.now in
    let s = c.args.system.now.system in
    let known = rw c.deref.ensures.value at c.in_ok-expression.ensures.answer in
    stored_symbols s g.fractions.items (symbol_relations s.p g.relations.items) c.args.f.now c.in_ok-expression.expression (known g.relations.items (found-tied c.args.system.now g c.requires.pieces) c.requires.basis)

pub returns-clause-taken : goal.returns-clause-taken
returns-clause-taken c =
    let g : Findings = c.args.found.now in
    let s = c.args.system.now.system in
    let known = rw c.deref.ensures.value at c.in_ok-expression.ensures.answer in
    taken s g.fractions.items (symbol_relations s.p g.relations.items) c.args.f.now c.in_ok-expression.expression (known g.relations.items (found-tied c.args.system.now g c.requires.pieces) c.requires.basis)
