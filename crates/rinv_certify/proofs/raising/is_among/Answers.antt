use Rattle.std.proofs.Common.{◌∙◌, sym, ap}
use Rattle.std.specs.List.{list_any}
use Rattle.std.proofs.lemmas.List.{take_all}
use Rattle.rinv_algebra.specs.Residue.{residue_ops}
use Rattle.rinv_algebra.specs.Polynomial.{same}
use Rattle.rinv_certify.proofs.Factors.{among-none, among-some}
use Rattle.rinv_certify.proofs.raising.is_among.Goals as goal

pub returns-then-same : goal.returns-then-same
returns-then-same c = among-some c.args.system.now.system c.args.f.now c.args.list.now c.list.k c.index-list-k.result c.in_ok-same.same c.list-test.true c.index-list-k.is c.in_ok-same.ensures c.if-same.true

pub list-preserved : goal.list-preserved
list-preserved c = among-none c.args.system.now.system c.args.f.now c.args.list.now c.list.k c.index-list-k.result c.in_ok-same.same c.list-test.true c.index-list-k.is c.in_ok-same.ensures c.if-same.false c.list.invariant

pub returns : goal.returns
returns c = sym c.list.invariant ∙ ap (list_any (λ d. same (residue_ops c.args.system.now.system.p) d c.args.f.now)) (take_all c.list.k c.args.list.now c.list-test.false)
