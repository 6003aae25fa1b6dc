use Rattle.std.proofs.Common.{◌∙◌, List, length, map, sym, ap}
use Rattle.std.proofs.lemmas.List.{take_all}
use Rattle.std.proofs.lemmas.Result.{err_from_is_err_and}
use Rattle.std.specs.List.{list_all}
use Rattle.rinv_algebra.specs.Residue.{residue_ops}
use Rattle.rinv_algebra.specs.Fits.{combination_fits}
use Rattle.rinv_text.specs.Told.{Told}
use Rattle.rinv_defs.specs.System.{Poly, ideal_copies}
use Rattle.rinv_defs.specs.Laws.{copies}
use Rattle.rinv_parts.specs.LawNames.{law_of, variables_of}
use Rattle.rinv_parts.proofs.Stored.{normal-over, stored-count, stored-normal}
use Rattle.rinv_certify.specs.Parts.{AreCofactors}
use Rattle.rinv_certify.proofs.LawDegrees.{array-met, arrays-all}
use Rattle.rinv_certify.proofs.Taken.{holds-at}
use Rattle.rinv_certify.proofs.laws.arrays_fit.Goals as goal

pub check_sums-requires-clause-many : goal.check_sums-requires-clause-many
check_sums-requires-clause-many c =
    let s = c.args.system.now.system in
    let law = law_of c.args.law in
    let field = c.new-ring.ensures.ring ∙ ap (λ (t : Told). t.system.p) c.system.view_is in
    let vars = c.new-ring.ensures.count ∙ c.variables_of.ensures in
    let of = holds-at (λ us. AreCofactors s law us.items) c.args.arrays.now c.arrays.k c.index-arrays-k.result c.requires.arrays c.arrays-test.true c.index-arrays-k.is in
    ap (λ (us : List Poly). length us) c.as_slice-cofactors.ensures.value ∙ of.number
    ∙ sym (ap (λ (us : List Poly). length us) c.deref.ensures.value ∙ stored-count s.p (variables_of s law) (ideal_copies s (copies law)) c.in_ok-generators.generators.items c.in_ok-generators.ensures)

pub check_sums-requires-clause-cofactors : goal.check_sums-requires-clause-cofactors
check_sums-requires-clause-cofactors c =
    let s = c.args.system.now.system in
    let law = law_of c.args.law in
    let field = c.new-ring.ensures.ring ∙ ap (λ (t : Told). t.system.p) c.system.view_is in
    let vars = c.new-ring.ensures.count ∙ c.variables_of.ensures in
    let of = holds-at (λ us. AreCofactors s law us.items) c.args.arrays.now c.arrays.k c.index-arrays-k.result c.requires.arrays c.arrays-test.true c.index-arrays-k.is in
    normal-over c.new-ring.result.coeffs s.p c.new-ring.result.vars (variables_of s law) c.as_slice-cofactors.result.now c.index-arrays-k.result.items field vars c.as_slice-cofactors.ensures.value of.normal

pub check_sums-requires-clause-generators : goal.check_sums-requires-clause-generators
check_sums-requires-clause-generators c =
    let s = c.args.system.now.system in
    let law = law_of c.args.law in
    let field = c.new-ring.ensures.ring ∙ ap (λ (t : Told). t.system.p) c.system.view_is in
    let vars = c.new-ring.ensures.count ∙ c.variables_of.ensures in
    normal-over c.new-ring.result.coeffs s.p c.new-ring.result.vars (variables_of s law) c.deref.result.now c.in_ok-generators.generators.items field vars c.deref.ensures.value
    (stored-normal s.p (variables_of s law) (ideal_copies s (copies law)) c.in_ok-generators.generators.items c.in_ok-generators.ensures)

pub returns-in_err-check_sums-clause-degree : goal.returns-in_err-check_sums-clause-degree
returns-in_err-check_sums-clause-degree c =
    let s = c.args.system.now.system in
    let law = law_of c.args.law in
    let field = c.new-ring.ensures.ring ∙ ap (λ (t : Told). t.system.p) c.system.view_is in
    let vars = c.new-ring.ensures.count ∙ c.variables_of.ensures in
    let q = err_from_is_err_and c.from_residual-in_err-check_sums.result c.from_residual-in_err-check_sums.ensures.1 in
    rw (q.1, q.2) (array-met (λ us. us.items) s law c.args.arrays.now c.arrays.k c.index-arrays-k.result c.new-ring.result.coeffs c.new-ring.result.vars c.as_slice-cofactors.result.now c.deref.result.now c.in_ok-generators.generators.items
    c.in_err-check_sums.field-0.0 field vars c.arrays-test.true c.index-arrays-k.is c.as_slice-cofactors.ensures.value c.deref.ensures.value c.in_ok-generators.ensures c.in_err-check_sums.ensures.degree)

pub returns-clause-fits : goal.returns-clause-fits
returns-clause-fits c =
    let s = c.args.system.now.system in
    let law = law_of c.args.law in
    let field = c.new-ring.ensures.ring ∙ ap (λ (t : Told). t.system.p) c.system.view_is in
    arrays-all s law c.new-ring.result.coeffs c.in_ok-generators.generators.items field c.in_ok-generators.ensures (map (λ us. us.items) c.args.arrays.now)
    (sym (ap (λ xs. list_all (λ us. combination_fits (residue_ops c.new-ring.result.coeffs) us c.in_ok-generators.generators.items) (map (λ us. us.items) xs)) (take_all c.arrays.k c.args.arrays.now c.arrays-test.false)) ∙ c.arrays.invariant)
