use Rattle.std.proofs.Common.{◌≡◌, ◌+◌, ◌-◌, ◌*◌, ◌∙◌, ℕ, List, [], length, map, take, drop, get_or, arith, ap, subst, subst₂}
use Rattle.std.proofs.lemmas.Result.{err_from_is_err_and}
use Rattle.rinv_algebra.specs.Ring.{IsSame}
use Rattle.rinv_algebra.specs.Residue.{residue_ops}
use Rattle.rinv_algebra.specs.Polynomial.{poly_ops}
use Rattle.rinv_algebra.specs.Ideal.{combination}
use Rattle.rinv_ring.specs.Fault.{DegreesMeet}
use Rattle.rinv_cofactors.specs.Combining.{column}
use Rattle.rinv_defs.specs.System.{Poly}
use Rattle.rinv_laws.specs.Proofs.{AreInCopies, ProductsMeet}
use Rattle.rinv_laws.proofs.CopiedCofactors.{copies-none, copies-more, copy-meets, list-at, part-of}
use Rattle.rinv_laws.proofs.cofactors.cofactors_in_copies.Goals as goal

pub copies-init : goal.copies-init
copies-init c = rw c.new-cofactors.ensures.items (copies-none c.args.ring.now.coeffs c.args.ring.now.vars c.args.count c.args.kept (λ j. get_or (map (λ ls. map (λ us. us.items) ls.items) c.args.copies.now) j []) c.args.quotients.now)

pub copies-preserved : goal.copies-preserved
copies-preserved c =
    let p = c.args.ring.now.coeffs in
    let o = residue_ops p in
    let F : ℕ → List (List Poly) = λ j. get_or (map (λ ls. map (λ us. us.items) ls.items) c.args.copies.now) j [] in
    let k = c.copies.copy in
    let sums = c.in_ok-sums.sums.items in
    let here : map (λ us. us.items) c.deref.result.now ≡ F k =
    ap (λ us. map (λ us. us.items) us) c.deref.ensures.value ∙ list-at (λ ls. map (λ us. us.items) ls.items) [] c.args.copies.now k c.index-copies-copy.result c.copies-test.true c.index-copies-copy.is in
    rw c.in_ok-cofactors.ensures (copies-more p c.args.ring.now.vars c.args.count c.args.kept F c.args.quotients.now k c.copies.cofactors.items sums c.copies.invariant c.in_ok-sums.ensures.number c.in_ok-sums.ensures.normal
    (λ m low. subst₂ (λ (qs : List Poly) (ls : List (List Poly)). IsSame (poly_ops o) (get_or sums m []) (combination o qs (column ls m))) (part-of c.args.kept k c.args.quotients.now) here (c.in_ok-sums.ensures.rule m low)))

pub returns-in_err-sums-clause-degree : goal.returns-in_err-sums-clause-degree
returns-in_err-sums-clause-degree c =
    let p = c.args.ring.now.coeffs in
    let F : ℕ → List (List Poly) = λ j. get_or (map (λ ls. map (λ us. us.items) ls.items) c.args.copies.now) j [] in
    let k = c.copies.copy in
    let here : map (λ us. us.items) c.deref.result.now ≡ F k =
    ap (λ us. map (λ us. us.items) us) c.deref.ensures.value ∙ list-at (λ ls. map (λ us. us.items) ls.items) [] c.args.copies.now k c.index-copies-copy.result c.copies-test.true c.index-copies-copy.is in
    let own = take (k * c.args.kept + c.args.kept - k * c.args.kept) (drop (k * c.args.kept) c.args.quotients.now) in
    let q = err_from_is_err_and c.from_residual.result c.from_residual.ensures.1 in
    rw (q.1, q.2) (copy-meets p (length c.args.copies.now) c.args.kept F c.args.quotients.now own k c.copies-test.true (part-of c.args.kept k c.args.quotients.now)
    c.in_err-sums.field-0.0 (subst (λ (ls : List (List Poly)). DegreesMeet (ProductsMeet p own ls) c.in_err-sums.field-0.0) here c.in_err-sums.ensures.degree))

pub returns-clause-cofactors : goal.returns-clause-cofactors
returns-clause-cofactors c =
    let whole : c.copies.copy ≡ length c.args.copies.now = omega (arith, c.copies-test.false, c.copies.auto.copy-end) in
    subst (λ (n : ℕ). AreInCopies c.args.ring.now.coeffs c.args.ring.now.vars n c.args.count c.args.kept (λ j. get_or (map (λ ls. map (λ us. us.items) ls.items) c.args.copies.now) j []) c.args.quotients.now c.copies.cofactors.items) whole c.copies.invariant
