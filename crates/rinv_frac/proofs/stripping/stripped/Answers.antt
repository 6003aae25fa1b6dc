use Rattle.std.proofs.Common.{◌∙◌, sym, subst}
use Rattle.rinv_algebra.specs.Residue.{residue_ops}
use Rattle.rinv_algebra.specs.Fraction.{Fraction}
use Rattle.rinv_algebra.proofs.ResidueField.{residue_field_laws}
use Rattle.rinv_algebra.proofs.ResidueLaws.{residue_laws}
use Rattle.rinv_frac.specs.Cancelling.{IsGreatestDivisor}
use Rattle.rinv_frac.specs.Fractions.{IsStored}
use Rattle.rinv_frac.proofs.DividedParts.{quotient-nonzero}
use Rattle.rinv_frac.proofs.Stored.{stored, stored-from}
use Rattle.rinv_frac.proofs.StrippedParts.{has-quotient, divisible, nothing-stripped, stripped-of, monomial-nonzero}
use Rattle.rinv_frac.proofs.stripping.stripped.Goals as goal

pub returns-then-degree-eq0-clause-stripped : goal.returns-then-degree-eq0-clause-stripped
returns-then-degree-eq0-clause-stripped c =
    let p = c.args.ring.now.coeffs in
    nothing-stripped (residue_ops p) (residue_laws p) (residue_field_laws p) c.in_ok-common.common c.args.f (subst (λ (x : Fraction _). IsGreatestDivisor (residue_ops p) x c.in_ok-common.common) c.f.view_is c.in_ok-common.ensures.greatest) (sym c.degree.ensures.value ∙ c.if-degree-eq0.true)

pub exact_quotient-requires-clause-nonzero : goal.exact_quotient-requires-clause-nonzero
exact_quotient-requires-clause-nonzero c =
    let p = c.args.ring.now.coeffs in
    monomial-nonzero (residue_ops p) (residue_laws p) (residue_field_laws p) c.in_ok-common.common c.in_ok-divisor.divisor c.in_ok-divisor.ensures.value

pub exact_quotient-requires-clause-divides : goal.exact_quotient-requires-clause-divides
exact_quotient-requires-clause-divides c =
    let p = c.args.ring.now.coeffs in
    let v = c.args.ring.now.vars in
    let part = (stored p v (c.f.inside.num, c.f.inside.den) (subst (IsStored p v) (sym c.f.view_is) c.requires)).numerator in
    has-quotient (residue_ops p) (residue_laws p) c.in_ok-common.common c.f.inside.num c.in_ok-divisor.divisor (divisible p v c.f.inside.num part c.in_ok-common.common c.in_ok-common.ensures.vars c.in_ok-common.ensures.greatest.common.numerator) c.in_ok-divisor.ensures.value

pub exact_quotient-requires-2-clause-nonzero : goal.exact_quotient-requires-2-clause-nonzero
exact_quotient-requires-2-clause-nonzero c =
    let p = c.args.ring.now.coeffs in
    monomial-nonzero (residue_ops p) (residue_laws p) (residue_field_laws p) c.in_ok-common.common c.in_ok-divisor.divisor c.in_ok-divisor.ensures.value

pub exact_quotient-requires-2-clause-divides : goal.exact_quotient-requires-2-clause-divides
exact_quotient-requires-2-clause-divides c =
    let p = c.args.ring.now.coeffs in
    let v = c.args.ring.now.vars in
    let part = (stored p v (c.f.inside.num, c.f.inside.den) (subst (IsStored p v) (sym c.f.view_is) c.requires)).denominator in
    has-quotient (residue_ops p) (residue_laws p) c.in_ok-common.common c.f.inside.den c.in_ok-divisor.divisor (divisible p v c.f.inside.den part c.in_ok-common.common c.in_ok-common.ensures.vars c.in_ok-common.ensures.greatest.common.denominator) c.in_ok-divisor.ensures.value

pub returns-clause-element : goal.returns-clause-element
returns-clause-element c =
    let p = c.args.ring.now.coeffs in
    let v = c.args.ring.now.vars in
    let n = (stored p v (c.f.inside.num, c.f.inside.den) (subst (IsStored p v) (sym c.f.view_is) c.requires)).nonzero in
    stored-from p v (c.in_ok-num.num, c.in_ok-den.den) c.in_ok-num.ensures.element c.in_ok-den.ensures.element (quotient-nonzero (residue_ops p) (residue_laws p) (residue_field_laws p) c.f.inside.den c.in_ok-den.den c.in_ok-divisor.divisor n c.in_ok-den.ensures.value)

pub returns-clause-stripped : goal.returns-clause-stripped
returns-clause-stripped c =
    let p = c.args.ring.now.coeffs in
    stripped-of (residue_ops p) (residue_laws p) (residue_field_laws p) c.f.view_is c.in_ok-common.common c.in_ok-divisor.divisor c.in_ok-num.num c.in_ok-den.den c.in_ok-common.ensures.greatest c.in_ok-divisor.ensures.value c.in_ok-num.ensures.value c.in_ok-den.ensures.value
