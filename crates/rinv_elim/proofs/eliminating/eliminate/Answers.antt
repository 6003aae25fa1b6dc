use Rattle.std.proofs.Common.{◌≡◌, ◌∙◌, ℕ, List, false, All, sym, ap, subst}
use Rattle.std.proofs.lemmas.Result.{err_from_is_err_and}
use Rattle.rinv_algebra.specs.BlockEnds.{sizes_from}
use Rattle.rinv_algebra.specs.Order.{block_order}
use Rattle.rinv_algebra.specs.Residue.{residue_ops}
use Rattle.rinv_algebra.specs.Polynomial.{is_zero}
use Rattle.rinv_groebner.specs.Elimination.{free_part}
use Rattle.rinv_defs.specs.System.{Poly, group_count}
use Rattle.rinv_buch.specs.Kinds.{Found}
use Rattle.rinv_parts.proofs.Stored.{normal-over}
use Rattle.rinv_reduction.specs.Localised.{all_count}
use Rattle.rinv_elim.proofs.CutFacts.{nonzero-all, free-normal, free-nonzero, free-groebner, cut-is, cut-normal, elimination-meets}
use Rattle.rinv_elim.proofs.eliminating.eliminate.Goals as goal

pub free_elements-requires-clause-suits : goal.free_elements-requires-clause-suits
free_elements-requires-clause-suits c = c.action_ring-ring.ensures.vars ∙ c.in_ok-order.ensures.suits

pub free_elements-requires-clause-polys : goal.free_elements-requires-clause-polys
free_elements-requires-clause-polys c =
    let s = c.args.system.now.system in
    let ring = c.action_ring-ring in
    let cmp = block_order (sizes_from 0 c.in_ok-order.order) in
    let given : c.deref.result.now ≡ c.args.basis.now.polys = c.deref.ensures.value ∙ ap (λ (b : Found ℕ). b.polys) c.basis.view_is in
    normal-over ring.result.coeffs s.p ring.result.vars (all_count s) c.deref.result.now c.args.basis.now.polys ring.ensures.field ring.ensures.vars given c.requires.basis.normal

pub free_elements-requires-clause-nonzero : goal.free_elements-requires-clause-nonzero
free_elements-requires-clause-nonzero c =
    let s = c.args.system.now.system in
    let ring = c.action_ring-ring in
    let cmp = block_order (sizes_from 0 c.in_ok-order.order) in
    let given : c.deref.result.now ≡ c.args.basis.now.polys = c.deref.ensures.value ∙ ap (λ (b : Found ℕ). b.polys) c.basis.view_is in
    subst (λ (p : ℕ). All (λ h. is_zero (residue_ops p) h ≡ false) c.deref.result.now) (sym ring.ensures.field) (subst (λ (hs : List Poly). All (λ h. is_zero (residue_ops s.p) h ≡ false) hs) (sym given) (nonzero-all s c.requires.system c.args.basis.now c.requires.basis))

pub interreduce-requires-clause-polys : goal.interreduce-requires-clause-polys
interreduce-requires-clause-polys c =
    let s = c.args.system.now.system in
    let ring = c.action_ring-ring in
    let cmp = block_order (sizes_from 0 c.in_ok-order.order) in
    let given : c.deref.result.now ≡ c.args.basis.now.polys = c.deref.ensures.value ∙ ap (λ (b : Found ℕ). b.polys) c.basis.view_is in
    let polys = c.in_ok-polys.polys.items in
    let are : polys ≡ free_part (residue_ops ring.result.coeffs) cmp (group_count s) c.args.basis.now.polys = c.in_ok-polys.ensures ∙ ap (free_part (residue_ops ring.result.coeffs) cmp (group_count s)) given in
    free-normal s c.requires.system c.args.basis.now c.requires.basis ring.result.coeffs ring.result.vars cmp polys ring.ensures.field ring.ensures.vars c.in_ok-order.ensures.order are

pub interreduce-requires-clause-nonzero : goal.interreduce-requires-clause-nonzero
interreduce-requires-clause-nonzero c =
    let s = c.args.system.now.system in
    let ring = c.action_ring-ring in
    let cmp = block_order (sizes_from 0 c.in_ok-order.order) in
    let given : c.deref.result.now ≡ c.args.basis.now.polys = c.deref.ensures.value ∙ ap (λ (b : Found ℕ). b.polys) c.basis.view_is in
    let polys = c.in_ok-polys.polys.items in
    let are : polys ≡ free_part (residue_ops ring.result.coeffs) cmp (group_count s) c.args.basis.now.polys = c.in_ok-polys.ensures ∙ ap (free_part (residue_ops ring.result.coeffs) cmp (group_count s)) given in
    free-nonzero s c.requires.system c.args.basis.now c.requires.basis ring.result.coeffs ring.result.vars cmp polys ring.ensures.field ring.ensures.vars c.in_ok-order.ensures.order are

pub interreduce-requires-clause-groebner : goal.interreduce-requires-clause-groebner
interreduce-requires-clause-groebner c =
    let s = c.args.system.now.system in
    let ring = c.action_ring-ring in
    let cmp = block_order (sizes_from 0 c.in_ok-order.order) in
    let given : c.deref.result.now ≡ c.args.basis.now.polys = c.deref.ensures.value ∙ ap (λ (b : Found ℕ). b.polys) c.basis.view_is in
    let polys = c.in_ok-polys.polys.items in
    let are : polys ≡ free_part (residue_ops ring.result.coeffs) cmp (group_count s) c.args.basis.now.polys = c.in_ok-polys.ensures ∙ ap (free_part (residue_ops ring.result.coeffs) cmp (group_count s)) given in
    free-groebner s c.requires.system c.args.basis.now c.requires.basis ring.result.coeffs ring.result.vars cmp polys ring.ensures.field ring.ensures.vars c.in_ok-order.ensures.order are

pub interreduce-requires-clause-suits : goal.interreduce-requires-clause-suits
interreduce-requires-clause-suits c = c.action_ring-ring.ensures.vars ∙ c.in_ok-order.ensures.suits

pub returns-clause-cut : goal.returns-clause-cut
returns-clause-cut c =
    let s = c.args.system.now.system in
    let ring = c.action_ring-ring in
    let cmp = block_order (sizes_from 0 c.in_ok-order.order) in
    let given : c.deref.result.now ≡ c.args.basis.now.polys = c.deref.ensures.value ∙ ap (λ (b : Found ℕ). b.polys) c.basis.view_is in
    let polys = c.in_ok-polys.polys.items in
    let are : polys ≡ free_part (residue_ops ring.result.coeffs) cmp (group_count s) c.args.basis.now.polys = c.in_ok-polys.ensures ∙ ap (free_part (residue_ops ring.result.coeffs) cmp (group_count s)) given in
    let made = c.in_ok-cut.ensures in
    cut-is s c.requires.system c.args.basis.now c.requires.basis ring.result.coeffs ring.result.vars cmp polys ring.ensures.field ring.ensures.vars c.in_ok-order.ensures.order are c.in_ok-cut.cut.items made.reduced made.ascending made.normal

pub returns-clause-normal : goal.returns-clause-normal
returns-clause-normal c =
    let s = c.args.system.now.system in
    let ring = c.action_ring-ring in
    let cmp = block_order (sizes_from 0 c.in_ok-order.order) in
    let given : c.deref.result.now ≡ c.args.basis.now.polys = c.deref.ensures.value ∙ ap (λ (b : Found ℕ). b.polys) c.basis.view_is in
    let polys = c.in_ok-polys.polys.items in
    let are : polys ≡ free_part (residue_ops ring.result.coeffs) cmp (group_count s) c.args.basis.now.polys = c.in_ok-polys.ensures ∙ ap (free_part (residue_ops ring.result.coeffs) cmp (group_count s)) given in
    cut-normal s c.requires.system c.args.basis.now c.requires.basis ring.result.coeffs ring.result.vars cmp polys ring.ensures.field ring.ensures.vars c.in_ok-order.ensures.order are c.in_ok-cut.cut.items c.in_ok-cut.ensures.normal

pub returns-in_err-cut-clause-degree : goal.returns-in_err-cut-clause-degree
returns-in_err-cut-clause-degree c =
    let s = c.args.system.now.system in
    let ring = c.action_ring-ring in
    let cmp = block_order (sizes_from 0 c.in_ok-order.order) in
    let given : c.deref.result.now ≡ c.args.basis.now.polys = c.deref.ensures.value ∙ ap (λ (b : Found ℕ). b.polys) c.basis.view_is in
    let polys = c.in_ok-polys.polys.items in
    let are : polys ≡ free_part (residue_ops ring.result.coeffs) cmp (group_count s) c.args.basis.now.polys = c.in_ok-polys.ensures ∙ ap (free_part (residue_ops ring.result.coeffs) cmp (group_count s)) given in
    let fault = c.in_err-cut.field-0.0 in
    let q = err_from_is_err_and c.from_residual-in_err-cut.result c.from_residual-in_err-cut.ensures.1 in
    rw (q.1, q.2) (elimination-meets s c.requires.system c.args.basis.now c.requires.basis ring.result.coeffs ring.result.vars cmp polys ring.ensures.field ring.ensures.vars c.in_ok-order.ensures.order are fault c.in_err-cut.ensures.degree)
