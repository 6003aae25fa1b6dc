use Rattle.std.proofs.Common.{length}
use Rattle.std.proofs.lemmas.Result.{err_from_is_err_and}
use Rattle.rinv_algebra.specs.Residue.{residue_ops}
use Rattle.rinv_algebra.proofs.ResidueField.{residue_field_laws}
use Rattle.rinv_algebra.proofs.ResidueLaws.{residue_laws}
use Rattle.rinv_theory.proofs.Fields.{fraction_laws}
use Rattle.rinv_ring.specs.Fault.{DegreesMeet}
use Rattle.rinv_poly.proofs.Meets.{meet-weaker}
use Rattle.rinv_frac.proofs.Stored.{stored}
use Rattle.rinv_value.specs.Values.{value_at, Summed, SumsMeet, ValueMeets}
use Rattle.rinv_value.proofs.Summing.{all-terms, summed-value, value-descending}
use Rattle.rinv_value.proofs.values.value_at.Goals as goal

pub summed-requires-clause-terms : goal.summed-requires-clause-terms
summed-requires-clause-terms c = rw c.deref.ensures.value (all-terms c.args.field.now.base.coeffs (length c.args.at.now) c.args.f.now c.in_ok-terms.terms.items c.requires.polynomial c.in_ok-terms.ensures.terms)

pub returns-in_err-value-clause-degree : goal.returns-in_err-value-clause-degree
returns-in_err-value-clause-degree c =
    let o = residue_ops c.args.field.now.base.coeffs in
    let ts = c.in_ok-terms.terms.items in
    let p = err_from_is_err_and c.from_residual-in_err-value.result c.from_residual-in_err-value.ensures.1 in
    let meets : DegreesMeet (SumsMeet o c.args.at.now ts) c.in_err-value.field-0.0 = rw c.deref.ensures.value at c.in_err-value.ensures.degree in
    rw (p.1, p.2) (meet-weaker (SumsMeet o c.args.at.now ts) (ValueMeets o c.args.at.now c.args.f.now) (λ x y h. (ts, c.in_ok-terms.ensures, h)) c.in_err-value.field-0.0 meets)

pub returns-clause-value : goal.returns-clause-value
returns-clause-value c =
    let p = c.args.field.now.base.coeffs in
    let v = c.args.field.now.base.vars in
    let o = residue_ops p in
    let l = residue_laws p in
    let F = residue_field_laws p in
    let points = c.args.at.now in
    let ts = c.in_ok-terms.terms.items in
    let r = c.in_ok-value.value in
    let made : Summed o points ts r = rw c.deref.ensures.value at c.in_ok-value.ensures.made in
    (fraction_laws o l F).same_trans r (value_at o points ts) (value_at o points c.args.f.now) (summed-value o l F points (λ k d b. (stored p v _ (c.requires.values k d b)).nonzero) ts r made).value (value-descending o l F points c.args.f.now ts c.in_ok-terms.ensures.terms)
