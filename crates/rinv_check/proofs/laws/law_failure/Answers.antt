use Rattle.std.proofs.Common.{arith}
use Rattle.rinv_cert.specs.Seen.{plain}
use Rattle.rinv_check.proofs.LawWalks.{laws-stop, laws-more, laws-end}
use Rattle.rinv_check.proofs.laws.law_failure.Goals as goal

pub returns-then-not-branch : goal.returns-then-not-branch
returns-then-not-branch c = laws-stop (plain c.args.stored.now) c.laws.k c.laws.invariant (omega (arith, c.laws-test.true)) c.in_ok-law_is_shown.field-0 c.in_ok-law_is_shown.ensures c.if-not-branch.true

pub laws-preserved : goal.laws-preserved
laws-preserved c = laws-more (plain c.args.stored.now) c.laws.k c.laws.invariant (omega (arith, c.laws-test.true)) c.in_ok-law_is_shown.field-0 c.in_ok-law_is_shown.ensures c.if-not-branch.false

pub returns : goal.returns
returns c = laws-end (plain c.args.stored.now) c.laws.k c.laws.invariant (omega (arith, c.laws-test.false))
