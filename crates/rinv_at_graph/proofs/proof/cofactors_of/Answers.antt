use Rattle.std.proofs.Common.{◌≡◌, ◌<◌, ◌∙◌, ℕ, List, [], length, get_or, map, All, sym, ap, subst, subst₂, arith}
use Rattle.std.proofs.lemmas.Result.{err_from_is_err_and}
use Rattle.rinv_algebra.specs.Ring.{IsSame}
use Rattle.rinv_algebra.specs.Residue.{residue_ops}
use Rattle.rinv_algebra.specs.Polynomial.{poly_ops}
use Rattle.rinv_algebra.specs.Ideal.{combination}
use Rattle.rinv_ring.specs.Fault.{DegreesMeet}
use Rattle.rinv_cofactors.specs.Combining.{column}
use Rattle.rinv_defs.specs.System.{Poly}
use Rattle.rinv_parts.specs.Points.{ArePolynomials}
use Rattle.rinv_parts.proofs.Stored.{stored-count}
use Rattle.rinv_laws.specs.Proofs.{ProductsMeet}
use Rattle.rinv_laws.proofs.ProvedLaws.{all-viewed}
use Rattle.rinv_change.specs.Changes.{change_count}
use Rattle.rinv_change.proofs.ProvedChanges.{wide-long}
use Rattle.rinv_at_graph.proofs.ProvedValues.{sums-meet, value-proved}
use Rattle.rinv_at_graph.proofs.proof.cofactors_of.Goals as goal

pub sums_of_products-requires-clause-many : goal.sums_of_products-requires-clause-many
sums_of_products-requires-clause-many c = c.requires.many ∙ sym (ap (λ xs. length xs) c.deref.ensures.value)

pub sums_of_products-requires-clause-lists : goal.sums_of_products-requires-clause-lists
sums_of_products-requires-clause-lists c =
    let r = c.requires.ground in
    let lists = c.args.ground.now.cofactors.lists.items in
    subst (λ xs. All (λ us. ArePolynomials c.args.ground.now.whole.coeffs c.args.ground.now.whole.vars us.items) xs) (sym c.deref.ensures.value)
    (subst₂ (λ (p v : ℕ). All (λ us. ArePolynomials p v us.items) lists) (sym r.is.whole_field) (sym r.is.whole_vars) (all-viewed (ArePolynomials r.s.p (change_count r.s)) (λ us. us.items) lists r.is.cofactors.normal))

pub sums_of_products-requires-clause-lengths : goal.sums_of_products-requires-clause-lengths
sums_of_products-requires-clause-lengths c =
    let r = c.requires.ground in
    let lists = c.args.ground.now.cofactors.lists.items in
    let given : c.len-count.result ≡ length r.s.ideal = omega (arith, c.len-count.ensures, stored-count r.s.p (change_count r.s) r.s.ideal c.args.ground.now.ideal.items r.is.ideal) in
    subst₂ (λ xs (n : ℕ). All (λ us. length us.items ≡ n) xs) (sym c.deref.ensures.value) (sym given)
    (all-viewed (λ (us : List Poly). length us ≡ length r.s.ideal) (λ us. us.items) lists (wide-long r.s r.found (map (λ us. us.items) lists) r.is.cofactors))

pub returns-in_err-cofactors-clause-cofactors : goal.returns-in_err-cofactors-clause-cofactors
returns-in_err-cofactors-clause-cofactors c s found h g own =
    let lists = c.args.ground.now.cofactors.lists.items in
    let fault = c.in_err-cofactors.field-0.0 in
    let q = err_from_is_err_and c.from_residual.result c.from_residual.ensures.1 in
    rw (q.1, q.2) (sums-meet s found h (map (λ us. us.items) lists) g.cofactors c.args.quotients.now own fault
    (subst₂ (λ (p : ℕ) xs. DegreesMeet (ProductsMeet p c.args.quotients.now (map (λ us. us.items) xs)) fault) g.whole_field c.deref.ensures.value c.in_err-cofactors.ensures.degree))

pub returns-clause-number : goal.returns-clause-number
returns-clause-number c = c.in_ok-cofactors.ensures.number ∙ omega (arith, c.len-count.ensures)

pub returns-clause-cofactors : goal.returns-clause-cofactors
returns-clause-cofactors c s found h g own =
    let lists = c.args.ground.now.cofactors.lists.items in
    let us = c.in_ok-cofactors.cofactors.items in
    let made = c.in_ok-cofactors.ensures in
    let given : c.len-count.result ≡ length s.ideal = omega (arith, c.len-count.ensures, stored-count s.p (change_count s) s.ideal c.args.ground.now.ideal.items g.ideal) in
    value-proved s found h (map (λ us. us.items) lists) g.cofactors c.args.quotients.now own us (made.number ∙ given)
    (subst₂ (λ (p v : ℕ). ArePolynomials p v us) g.whole_field g.whole_vars made.normal)
    (subst₂ (λ (p n : ℕ). (m : ℕ) → m < n → IsSame (poly_ops (residue_ops p)) (get_or us m []) (combination (residue_ops p) c.args.quotients.now (column (map (λ us. us.items) lists) m))) g.whole_field given
    (subst (λ xs. (m : ℕ) → m < c.len-count.result → IsSame (poly_ops (residue_ops c.args.ground.now.whole.coeffs)) (get_or us m []) (combination (residue_ops c.args.ground.now.whole.coeffs) c.args.quotients.now (column (map (λ us. us.items) xs) m)))
    c.deref.ensures.value made.rule))
