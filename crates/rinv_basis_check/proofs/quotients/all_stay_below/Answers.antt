use Rattle.std.proofs.lemmas.List.{get_or_default}
use Rattle.std.proofs.Common.{◌+◌, ◌<◌, [], length, zip, get_or, drop, sym, ◌∙◌, arith}
use Rattle.rinv_defs.specs.Conditions.{elements}
use Rattle.rinv_defs.specs.PairConditions.{element, stays_below}
use Rattle.rinv_basis_check.proofs.Combinations.{fits-at, all-next, all-fails, all-ends}
use Rattle.rinv_basis_check.proofs.MultiplierTerms.{pair-at, pairs-past}
use Rattle.rinv_basis_check.proofs.quotients.all_stay_below.Goals as goal

pub stays_below-requires-clause-fits : goal.stays_below-requires-clause-fits
stays_below-requires-clause-fits c =
    let b = c.args.basis.now in
    let few : c.quotients.k < length c.args.quotients.now = c.quotients-test.true in
    let many : c.quotients.k < length b.elements.items = omega (arith, few, c.requires.many) in
    fits-at b.ring.coeffs c.args.quotients.now b.elements.items c.requires.fits c.quotients.k c.index-quotients-k.result (get_or b.elements.items c.quotients.k []) few many c.index-quotients-k.is (get_or_default b.elements.items c.quotients.k [] (get_or b.elements.items c.quotients.k []) many)

pub returns-then-not-branch : goal.returns-then-not-branch
returns-then-not-branch c = λ cert is.
    let few : c.quotients.k < length c.args.quotients.now = c.quotients-test.true in
    all-fails (stays_below cert.system c.args.common.now) (c.index-quotients-k.result, element cert (c.quotients.k + 1)) (drop c.quotients.k (zip c.args.quotients.now (elements cert))) (drop (c.quotients.k + 1) (zip c.args.quotients.now (elements cert))) _
    (pair-at cert c.args.basis.now is c.args.quotients.now c.quotients.k c.index-quotients-k.result few c.requires.many c.index-quotients-k.is) (sym (c.in_ok-stays_below.ensures cert is) ∙ c.if-not-branch.true) (c.quotients.invariant cert is)

pub quotients-preserved : goal.quotients-preserved
quotients-preserved c = λ cert is.
    let few : c.quotients.k < length c.args.quotients.now = c.quotients-test.true in
    all-next (stays_below cert.system c.args.common.now) (c.index-quotients-k.result, element cert (c.quotients.k + 1)) (drop c.quotients.k (zip c.args.quotients.now (elements cert))) (drop (c.quotients.k + 1) (zip c.args.quotients.now (elements cert))) _
    (pair-at cert c.args.basis.now is c.args.quotients.now c.quotients.k c.index-quotients-k.result few c.requires.many c.index-quotients-k.is) (sym (c.in_ok-stays_below.ensures cert is) ∙ c.if-not-branch.false) (c.quotients.invariant cert is)

pub returns : goal.returns
returns c = λ cert is.
    all-ends (stays_below cert.system c.args.common.now) c.quotients.k (zip c.args.quotients.now (elements cert)) _ (pairs-past c.args.quotients.now (elements cert) c.quotients.k c.quotients-test.false) (c.quotients.invariant cert is)
