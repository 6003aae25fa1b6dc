use Rattle.std.proofs.lemmas.Result.{err_from_is_err_and}
use Rattle.rinv_algebra.specs.Residue.{residue_ops}
use Rattle.rinv_algebra.proofs.ResidueField.{residue_field_laws}
use Rattle.rinv_algebra.proofs.ResidueLaws.{residue_laws}
use Rattle.rinv_value.specs.Values.{begin}
use Rattle.rinv_value.proofs.Summing.{summed-more, term-meets, sum-meets}
use Rattle.rinv_value.proofs.sums.summed.Goals as goal

pub terms-init : goal.terms-init
terms-init c = record { stored = c.in_ok-sum.ensures.element; made = begin c.in_ok-sum.sum c.in_ok-sum.ensures.made }

pub terms-preserved : goal.terms-preserved
terms-preserved c =
    let p = c.args.field.now.base.coeffs in
    record {
      stored = c.in_ok-sum-2.ensures.element;
      made = summed-more (residue_ops p) (residue_laws p) (residue_field_laws p) c.args.at.now c.args.terms.now c.terms.mono-index c.terms-item.result c.terms.sum c.in_ok-value.value c.in_ok-sum-2.sum c.terms-test.true c.terms-item.is c.terms.invariant.made c.in_ok-value.ensures.made c.in_ok-sum-2.ensures.made;
    }

pub returns-in_err-value-clause-degree : goal.returns-in_err-value-clause-degree
returns-in_err-value-clause-degree c =
    let q = c.args.field.now.base.coeffs in
    let p = err_from_is_err_and c.from_residual-in_err-value.result c.from_residual-in_err-value.ensures.1 in
    rw (p.1, p.2) (term-meets (residue_ops q) (residue_laws q) (residue_field_laws q) c.args.at.now c.args.terms.now c.terms.mono-index c.terms-item.result c.terms-test.true c.terms-item.is c.in_err-value.field-0.0 c.in_err-value.ensures.degree)

pub returns-in_err-sum-2-clause-degree : goal.returns-in_err-sum-2-clause-degree
returns-in_err-sum-2-clause-degree c =
    let q = c.args.field.now.base.coeffs in
    let p = err_from_is_err_and c.from_residual-in_err-sum-2.result c.from_residual-in_err-sum-2.ensures.1 in
    rw (p.1, p.2) (sum-meets (residue_ops q) (residue_laws q) (residue_field_laws q) c.args.at.now c.args.terms.now c.terms.mono-index c.terms-item.result c.terms.sum c.in_ok-value.value c.terms-test.true c.terms-item.is c.terms.invariant.made c.in_ok-value.ensures.made c.in_err-sum-2.field-0.0 c.in_err-sum-2.ensures.degree)
