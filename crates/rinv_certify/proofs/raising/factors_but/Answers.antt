use Rattle.std.proofs.Common.{◌∙◌, not, ap}
use Rattle.std.specs.Prelude.{filter}
use Rattle.std.proofs.lemmas.List.{take_all}
use Rattle.rinv_algebra.specs.Residue.{residue_ops}
use Rattle.rinv_algebra.specs.Polynomial.{same}
use Rattle.rinv_certify.proofs.Factors.{others-next}
use Rattle.rinv_certify.proofs.raising.factors_but.Goals as goal

pub factors-preserved : goal.factors-preserved
factors-preserved c = record {
  normal = c.in_ok-add_other.ensures.normal;
  value = others-next c.args.system.now.system c.args.den.now c.args.factors.now c.factors.k c.index-factors-k.result c.factors.others.items c.add_other.new.others.items c.factors-test.true c.index-factors-k.is c.factors.invariant.value c.in_ok-add_other.ensures.value;
}

pub returns-clause-value : goal.returns-clause-value
returns-clause-value c = c.factors.invariant.value ∙ ap (λ ds. filter (λ d. not (same (residue_ops c.args.system.now.system.p) d c.args.den.now)) ds) (take_all c.factors.k c.args.factors.now c.factors-test.false)
