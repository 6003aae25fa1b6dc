use Rattle.std.proofs.Common.{subst}
use Rattle.std.specs.List.{All}
use Rattle.rinv_system.specs.Forms.{IsSomeExpression}
use Rattle.rinv_system.proofs.Mapped.{Any_mapped, All_mapped-more, mapped_all, at_yes, at_no}
use Rattle.rinv_system.proofs.listing.are_expressions.Goals as goal

pub returns-then-not-branch : goal.returns-then-not-branch
returns-then-not-branch c = Any_mapped (λ e. e.now) c.args.entries.now c.entries.entry-index _ (λ e. ¬ (IsSomeExpression e)) c.entries-test.true (at_no _ _ _ c.in_ok-is_expression.ensures c.if-not-branch.true)

pub entries-preserved : goal.entries-preserved
entries-preserved c = All_mapped-more (λ e. e.now) c.args.entries.now c.entries.entry-index _ IsSomeExpression c.entries-test.true c.entries.invariant (at_yes _ _ _ c.in_ok-is_expression.ensures c.if-not-branch.false)

pub returns : goal.returns
returns c = subst (All IsSomeExpression) (mapped_all (λ e. e.now) c.args.entries.now c.entries.entry-index c.entries-test.false) c.entries.invariant
