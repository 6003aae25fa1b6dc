use Rattle.rinv_rewrite.proofs.AnswerClauses.{vanishing-of}
use Rattle.rinv_queries.specs.Outcomes.{Answers}
use Rattle.rinv_queries.proofs.outcomes.expression.Goals as goal

pub returns-in-Ok-Some-clause-answers : goal.returns-in-Ok-Some-clause-answers
returns-in-Ok-Some-clause-answers c =
    let exact = (rw c.in-Ok-Some.field-0-is at c.in-Ok-Some.ensures.exact) in
    Answers.it_is_written (record { is_invariant = c.in-Ok-Some.ensures.invariant; lasts = exact.0; denotes = exact.1 })

pub returns-in-Ok-None-clause-answers : goal.returns-in-Ok-None-clause-answers
returns-in-Ok-None-clause-answers c =
    Answers.it_vanishes (vanishing-of c.args.system.now.system c.args.f.now c.requires.system c.requires.pieces.hold c.in-Ok-None.ensures.invariant (rw c.in-Ok-None.field-0-is at c.in-Ok-None.ensures.exact))

pub returns-in-Err-NotInvariant-clause-answers : goal.returns-in-Err-NotInvariant-clause-answers
returns-in-Err-NotInvariant-clause-answers c = Answers.it_is_not_written (rw c.in-Err-NotInvariant.field-0-is at c.in-Err-NotInvariant.ensures.stop)

pub returns-in-Err-Degree-clause-degree : goal.returns-in-Err-Degree-clause-degree
returns-in-Err-Degree-clause-degree c = record {
  found = c.args.found.now;
  pieces = c.requires.pieces;
  meets = rw c.in-Err-Degree.field-0-is at c.in-Err-Degree.ensures.stop;
}
