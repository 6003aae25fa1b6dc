use Rattle.rinv_queries.specs.Outcomes.{Answers}
use Rattle.rinv_queries.proofs.KnownFacts.{known-laws}
use Rattle.rinv_queries.proofs.outcomes.outcome.Goals as goal

pub returns-in-Laws-clause-answers : goal.returns-in-Laws-clause-answers
returns-in-Laws-clause-answers c = rw c.in-Laws.is (Answers.they_hold (known-laws c.args.system.now c.args.known.now c.requires.known))

pub returns-in-Generators-clause-answers : goal.returns-in-Generators-clause-answers
returns-in-Generators-clause-answers c = rw c.in-Generators.is Answers.they_are_shown
