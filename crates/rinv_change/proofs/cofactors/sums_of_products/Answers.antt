use Rattle.std.proofs.Common.{◌∙◌, ◌+◌, ℕ, [], map, ap, nat_lt}
use Rattle.std.proofs.lemmas.List.{length_push}
use Rattle.std.proofs.lemmas.List.Elements.{All-push}
use Rattle.std.proofs.lemmas.Result.{err_from_is_err_and}
use Rattle.rinv_algebra.specs.Ring.{IsSame}
use Rattle.rinv_algebra.specs.Residue.{residue_ops}
use Rattle.rinv_algebra.specs.Polynomial.{poly_ops}
use Rattle.rinv_algebra.specs.Normal.{IsNormal}
use Rattle.rinv_algebra.specs.Ideal.{combination}
use Rattle.rinv_cofactors.specs.Combining.{column}
use Rattle.rinv_cofactors.proofs.Cofactors.{each-more}
use Rattle.rinv_defs.specs.System.{Poly}
use Rattle.rinv_laws.proofs.CopiedCofactors.{products-meet}
use Rattle.rinv_change.proofs.cofactors.sums_of_products.Goals as goal

pub places-preserved : goal.places-preserved
places-preserved c =
    let o = residue_ops c.args.ring.now.coeffs in
    let made = c.places.sums.items in
    let u = c.in_ok-sum.sum in
    rw c.in_ok-push.ensures.items (record {
      number = length_push made u ∙ ap (λ (n : ℕ). n + 1) c.places.invariant.number;
      normal = All-push (IsNormal o (λ n. nat_lt n c.args.ring.now.coeffs) c.args.ring.now.vars) made u c.places.invariant.normal c.in_ok-sum.ensures.element;
      rule = each-more (λ (m : ℕ) (f : Poly). IsSame (poly_ops o) f (combination o c.args.quotients.now (column (map (λ us. us.items) c.args.lists.now) m))) [] made u c.places.place c.places.invariant.number c.places.invariant.rule c.in_ok-sum.ensures.value;
    })

pub returns-in_err-sum-clause-degree : goal.returns-in_err-sum-clause-degree
returns-in_err-sum-clause-degree c =
    let q = err_from_is_err_and c.from_residual-in_err-sum.result c.from_residual-in_err-sum.ensures.1 in
    rw (q.1, q.2) (products-meet c.args.ring.now.coeffs c.args.ring.now.vars c.args.quotients.now (map (λ us. us.items) c.args.lists.now) c.places.place c.in_err-sum.field-0.0 c.in_err-sum.ensures.degree)
