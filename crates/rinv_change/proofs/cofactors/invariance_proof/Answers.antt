use Rattle.std.proofs.Common.{◌≡◌, ◌<◌, ◌∙◌, ℕ, List, [], length, get_or, map, All, sym, ap, subst, subst₂, arith}
use Rattle.std.proofs.lemmas.List.{length-map}
use Rattle.std.proofs.lemmas.Result.{err_from_is_err_and}
use Rattle.rinv_algebra.specs.Ring.{IsSame}
use Rattle.rinv_algebra.specs.Residue.{residue_ops}
use Rattle.rinv_algebra.specs.Polynomial.{poly_ops}
use Rattle.rinv_algebra.specs.Ideal.{combination}
use Rattle.rinv_ring.specs.Fault.{DegreesMeet}
use Rattle.rinv_poly.proofs.Meets.{meet-first}
use Rattle.rinv_cofactors.specs.Combining.{column}
use Rattle.rinv_text.specs.Told.{Told}
use Rattle.rinv_defs.specs.System.{Poly}
use Rattle.rinv_parts.specs.Points.{ArePolynomials}
use Rattle.rinv_laws.specs.Proofs.{ProductsMeet}
use Rattle.rinv_laws.proofs.ProvedLaws.{all-viewed}
use Rattle.rinv_change.specs.Changes.{ChangeMeets, change_count}
use Rattle.rinv_change.specs.Cofactors.{CofactorMeets}
use Rattle.rinv_change.proofs.ProvedChanges.{change-proved, quotients-number, sums-meet, wide-long}
use Rattle.rinv_change.proofs.cofactors.invariance_proof.Goals as goal

pub returns-in_err-quotients-clause-degree : goal.returns-in_err-quotients-clause-degree
returns-in_err-quotients-clause-degree c =
    let q = err_from_is_err_and c.from_residual.result c.from_residual.ensures.1 in
    rw (q.1, q.2) (meet-first (ChangeMeets c.args.system.now.system c.args.group.now.basis c.args.f.now) (CofactorMeets c.args.system.now.system c.args.group.now.basis c.args.f.now) c.in_err-quotients.field-0.0 c.in_err-quotients.ensures.degree)

pub sums_of_products-requires-clause-many : goal.sums_of_products-requires-clause-many
sums_of_products-requires-clause-many c =
    let lists = c.args.cofactors.now.lists.items in
    ap (λ (qs : List Poly). length qs) c.deref.ensures.value
    ∙ quotients-number c.args.system.now.system c.args.group.now.basis (map (λ us. us.items) lists) c.requires.cofactors c.args.f.now c.in_ok-quotients.quotients.items c.in_ok-quotients.ensures.quotients
    ∙ length-map lists (λ us. us.items) ∙ sym (ap (λ xs. length xs) c.deref-2.ensures.value)

pub sums_of_products-requires-clause-quotients : goal.sums_of_products-requires-clause-quotients
sums_of_products-requires-clause-quotients c =
    let ring = c.change_ring-ring.ensures in
    rw c.deref.ensures.value (subst₂ (λ (p v : ℕ). ArePolynomials p v c.in_ok-quotients.quotients.items) (sym ring.field) (sym ring.vars) c.in_ok-quotients.ensures.quotients.normal)

pub sums_of_products-requires-clause-lists : goal.sums_of_products-requires-clause-lists
sums_of_products-requires-clause-lists c =
    let ring = c.change_ring-ring.ensures in
    let s = c.args.system.now.system in
    let lists = c.args.cofactors.now.lists.items in
    subst (λ xs. All (λ us. ArePolynomials c.change_ring-ring.result.coeffs c.change_ring-ring.result.vars us.items) xs) (sym c.deref-2.ensures.value)
    (subst₂ (λ (p v : ℕ). All (λ us. ArePolynomials p v us.items) lists) (sym ring.field) (sym ring.vars) (all-viewed (ArePolynomials s.p (change_count s)) (λ us. us.items) lists c.requires.cofactors.normal))

pub sums_of_products-requires-clause-lengths : goal.sums_of_products-requires-clause-lengths
sums_of_products-requires-clause-lengths c =
    let s = c.args.system.now.system in
    let lists = c.args.cofactors.now.lists.items in
    let given : c.len-count.result ≡ length s.ideal = omega (arith, c.len-count.ensures, ap (λ (t : Told). length t.system.ideal) c.system.view_is) in
    subst₂ (λ xs (n : ℕ). All (λ us. length us.items ≡ n) xs) (sym c.deref-2.ensures.value) (sym given)
    (all-viewed (λ (us : List Poly). length us ≡ length s.ideal) (λ us. us.items) lists (wide-long s c.args.group.now.basis (map (λ us. us.items) lists) c.requires.cofactors))

pub returns-in_err-sums-clause-degree : goal.returns-in_err-sums-clause-degree
returns-in_err-sums-clause-degree c =
    let s = c.args.system.now.system in
    let lists = c.args.cofactors.now.lists.items in
    let ring = c.change_ring-ring.ensures in
    let fault = c.in_err-sums.field-0.0 in
    let q = err_from_is_err_and c.from_residual-in_err-sums.result c.from_residual-in_err-sums.ensures.1 in
    rw (q.1, q.2) (sums-meet s c.args.group.now.basis (map (λ us. us.items) lists) c.requires.cofactors c.args.f.now c.in_ok-quotients.quotients.items c.in_ok-quotients.ensures.quotients fault
    (subst (λ (p : ℕ). DegreesMeet (ProductsMeet p c.in_ok-quotients.quotients.items (map (λ us. us.items) lists)) fault) ring.field
    (subst₂ (λ (qs : List Poly) xs. DegreesMeet (ProductsMeet c.change_ring-ring.result.coeffs qs (map (λ us. us.items) xs)) fault) c.deref.ensures.value c.deref-2.ensures.value c.in_err-sums.ensures.degree)))

pub returns-clause-proof : goal.returns-clause-proof
returns-clause-proof c =
    let s = c.args.system.now.system in
    let lists = c.args.cofactors.now.lists.items in
    let ring = c.change_ring-ring.ensures in
    let us = c.in_ok-sums.sums.items in
    let given : c.len-count.result ≡ length s.ideal = omega (arith, c.len-count.ensures, ap (λ (t : Told). length t.system.ideal) c.system.view_is) in
    change-proved s c.args.group.now.basis (map (λ us. us.items) lists) c.requires.cofactors c.args.f.now c.in_ok-quotients.quotients.items c.in_ok-quotients.ensures.quotients us
    (c.in_ok-sums.ensures.number ∙ given) (subst₂ (λ (p v : ℕ). ArePolynomials p v us) ring.field ring.vars c.in_ok-sums.ensures.normal)
    (subst₂ (λ (p n : ℕ). (m : ℕ) → m < n → IsSame (poly_ops (residue_ops p)) (get_or us m []) (combination (residue_ops p) c.in_ok-quotients.quotients.items (column (map (λ us. us.items) lists) m))) ring.field given
    (subst₂ (λ (qs : List Poly) xs. (m : ℕ) → m < c.len-count.result → IsSame (poly_ops (residue_ops c.change_ring-ring.result.coeffs)) (get_or us m []) (combination (residue_ops c.change_ring-ring.result.coeffs) qs (column (map (λ us. us.items) xs) m)))
    c.deref.ensures.value c.deref-2.ensures.value c.in_ok-sums.ensures.rule))
