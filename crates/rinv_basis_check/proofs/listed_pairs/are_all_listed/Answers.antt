use Rattle.std.proofs.Common.{ℕ, ◌∙◌, sym, arith}
use Rattle.rinv_basis_check.specs.Listed.{is_listed}
use Rattle.rinv_basis_check.proofs.Ranges.{pairs-more, pairs-stop}
use Rattle.rinv_basis_check.proofs.listed_pairs.are_all_listed.Goals as goal

pub returns-then-not-are_all_listed_with : goal.returns-then-not-are_all_listed_with
returns-then-not-are_all_listed_with c =
    sym (sym c.seconds.invariant ∙ pairs-stop (λ (p : ℕ × ℕ). is_listed c.args.listed.now p.0 p.1) _ _ (omega (arith, c.seconds-test.true)) (sym c.are_all_listed_with.ensures ∙ c.if-not-are_all_listed_with.true))

pub seconds-preserved : goal.seconds-preserved
seconds-preserved c =
    pairs-more (λ (p : ℕ × ℕ). is_listed c.args.listed.now p.0 p.1) _ _ (omega (arith, c.seconds-test.true)) (sym c.are_all_listed_with.ensures ∙ c.if-not-are_all_listed_with.false) ∙ c.seconds.invariant
