use Rattle.std.proofs.Common.{◌≡◌, ◌∙◌, ◌<◌, ℕ, List, Bool, Some, not, length, sym, ap, arith}
use Rattle.rinv_defs.specs.System.{Poly}
use Rattle.rinv_defs.specs.Invariant.{Fraction}
use Rattle.rinv_defs.specs.Conditions.{invariance_is_shown}
use Rattle.rinv_check.specs.Setting.{setting}
use Rattle.rinv_check.proofs.PairWalks.{pairs-more, pairs-stop, pairs-end}
use Rattle.rinv_check.proofs.invariance.first_not_shown.Goals as goal

pub returns-then-not-branch : goal.returns-then-not-branch
returns-then-not-branch c =
    let r = c.args.rings.now in
    let test : Fraction × List Poly → Bool = λ x. not (invariance_is_shown (setting r.whole.coeffs r.group c.args.action.now c.args.ideal.now) x.0 x.1) in
    let f : Fraction = c.index-fractions-k.result in
    let us : List Poly = c.index-cofactors-k.result in
    let few : c.fractions.k < length c.args.cofactors.now = omega (arith, c.fractions-test.true, c.requires.as_many) in
    let here : c.in_ok-is_shown.field-0 ≡ invariance_is_shown (setting r.whole.coeffs r.group c.args.action.now c.args.ideal.now) f us = rw c.as_slice.ensures at c.in_ok-is_shown.ensures in
    ap (λ (n : ℕ). Some n) c.in-Ok.ensures.1 ∙ sym (pairs-stop test c.args.fractions.now c.args.cofactors.now c.fractions.k f us c.fractions-test.true few c.index-fractions-k.is c.index-cofactors-k.is c.fractions.invariant (ap not (sym here ∙ c.if-not-branch.true)))

pub fractions-preserved : goal.fractions-preserved
fractions-preserved c =
    let r = c.args.rings.now in
    let test : Fraction × List Poly → Bool = λ x. not (invariance_is_shown (setting r.whole.coeffs r.group c.args.action.now c.args.ideal.now) x.0 x.1) in
    let f : Fraction = c.index-fractions-k.result in
    let us : List Poly = c.index-cofactors-k.result in
    let few : c.fractions.k < length c.args.cofactors.now = omega (arith, c.fractions-test.true, c.requires.as_many) in
    let here : c.in_ok-is_shown.field-0 ≡ invariance_is_shown (setting r.whole.coeffs r.group c.args.action.now c.args.ideal.now) f us = rw c.as_slice.ensures at c.in_ok-is_shown.ensures in
    pairs-more test c.args.fractions.now c.args.cofactors.now c.fractions.k f us c.fractions-test.true few c.index-fractions-k.is c.index-cofactors-k.is c.fractions.invariant (ap not (sym here ∙ c.if-not-branch.false))

pub returns : goal.returns
returns c =
    let r = c.args.rings.now in
    let test : Fraction × List Poly → Bool = λ x. not (invariance_is_shown (setting r.whole.coeffs r.group c.args.action.now c.args.ideal.now) x.0 x.1) in
    sym (pairs-end test c.args.fractions.now c.args.cofactors.now c.fractions.k c.fractions-test.false c.fractions.invariant)
