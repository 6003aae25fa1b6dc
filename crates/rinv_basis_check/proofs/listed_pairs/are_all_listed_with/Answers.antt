use Rattle.std.proofs.Common.{◌∙◌, refl, sym, arith}
use Rattle.rinv_basis_check.specs.Listed.{is_listed}
use Rattle.rinv_basis_check.proofs.Ranges.{all-more}
use Rattle.rinv_basis_check.proofs.listed_pairs.are_all_listed_with.Goals as goal

pub firsts-init : goal.firsts-init
firsts-init c = refl

pub firsts-preserved : goal.firsts-preserved
firsts-preserved c = all-more (λ i. is_listed c.args.listed.now i c.args.j) _ _ (omega (arith, c.firsts-test.true)) (sym c.has.ensures ∙ c.if-not-has.false) ∙ c.firsts.invariant
