use Rattle.std.proofs.Common.{◌≡◌, ◌<◌, ◌≤◌, ap, ◌∙◌, arith, length, take}
use Rattle.std.proofs.lemmas.List.{take_all}
use Rattle.std.proofs.lemmas.Result.{err_from_is_err_and}
use Rattle.rinv_algebra.specs.Residue.{residue_ops}
use Rattle.rinv_algebra.specs.Value.{factors}
use Rattle.rinv_algebra.proofs.ResidueField.{residue_field_laws}
use Rattle.rinv_algebra.proofs.ResidueLaws.{residue_laws}
use Rattle.rinv_value.specs.Values.{number, start}
use Rattle.rinv_value.proofs.Multiplying.{block-made, block-meets}
use Rattle.rinv_value.proofs.products.term_value.Goals as goal

pub values-init : goal.values-init
unfolding factors
values-init c = record { stored = c.in_ok-product.ensures.element; made = start c.in_ok-product.product c.in_ok-product.ensures.value }

pub returns-in_err-product-2-clause-degree : goal.returns-in_err-product-2-clause-degree
returns-in_err-product-2-clause-degree c =
    let q = c.args.field.now.base.coeffs in
    let o = residue_ops q in
    let few : c.values.k < length c.args.at.now = omega (arith, c.values-test.true, c.vars-k-end.ensures, c.requires.many) in
    let p = err_from_is_err_and c.from_residual-in_err-product-2.result c.from_residual-in_err-product-2.ensures.1 in
    rw (p.1, p.2)
    (block-meets o (residue_laws q) (residue_field_laws q) (number o c.args.coefficient) c.values.product c.args.at.now c.args.mono.now c.values.k c.index-at-k.result few c.requires.many c.values.invariant.made c.in_err-product-2.field-0.0
    (rw (c.exponent.ensures, c.index-at-k.is) at c.in_err-product-2.ensures.degree))

pub values-preserved : goal.values-preserved
values-preserved c =
    let q = c.args.field.now.base.coeffs in
    let o = residue_ops q in
    let few : c.values.k < length c.args.at.now = omega (arith, c.values-test.true, c.vars-k-end.ensures, c.requires.many) in
    record {
      stored = c.in_ok-product-2.ensures.element;
      made = block-made o (residue_laws q) (residue_field_laws q) (number o c.args.coefficient) c.values.product c.args.at.now c.args.mono.now c.values.k c.index-at-k.result few c.requires.many c.values.invariant.made c.in_ok-product-2.product (rw (← c.exponent.ensures, ← c.index-at-k.is) c.in_ok-product-2.ensures.made);
    }

pub returns-clause-made : goal.returns-clause-made
returns-clause-made c =
    let points = c.args.at.now in
    let m = c.args.mono.now in
    let past : length m ≤ c.values.k = omega (arith, c.values-test.false, c.vars-k-end.ensures) in
    let past' : length points ≤ c.values.k = omega (arith, past, c.requires.many) in
    let whole : factors (take c.values.k points) (take c.values.k m) ≡ factors points m = ap (λ xs. factors xs (take c.values.k m)) (take_all c.values.k points past') ∙ ap (factors points) (take_all c.values.k m past) in
    rw whole at c.values.invariant.made
