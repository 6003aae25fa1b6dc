use Rattle.rinv_queries.proofs.KnownFacts.{known-laws}
use Rattle.rinv_queries.proofs.answering.answered.Goals as goal

pub returns-in_ok-line-in-Err-Degree-clause-stop : goal.returns-in_ok-line-in-Err-Degree-clause-stop
returns-in_ok-line-in-Err-Degree-clause-stop c = record {
  laws = known-laws c.args.system.now c.args.known.now c.requires.known;
  number = c.in-Err-Degree.number;
  x = c.in-Err-Degree.left;
  y = c.in-Err-Degree.right;
  meets = rw c.in-Err-Degree.field-0-is at c.in-Err-Degree.ensures.stop;
  printed = c.in_ok-line-in-Err-Degree.ensures;
}
