use Rattle.std.proofs.Common.{◌∙◌, sym, subst}
use Rattle.std.proofs.lemmas.Result.{err_from_is_err_and}
use Rattle.rinv_algebra.specs.BlockEnds.{sizes_from}
use Rattle.rinv_algebra.specs.Order.{block_order}
use Rattle.rinv_defs.specs.Extended.{action_ideal}
use Rattle.rinv_parts.specs.Points.{AreStored}
use Rattle.rinv_parts.proofs.Stored.{stored-normal, normal-over}
use Rattle.rinv_reduction.specs.Localised.{all_count}
use Rattle.rinv_action.proofs.ActionFacts.{action_basis-of, stops-over}
use Rattle.rinv_action.proofs.action.action_basis.Goals as goal

pub basis_by-requires-clause-given : goal.basis_by-requires-clause-given
basis_by-requires-clause-given c =
    let s = c.args.system.now.system in
    let ring = c.action_ring-ring in
    normal-over ring.result.coeffs s.p ring.result.vars (all_count s) c.deref.result.now c.in_ok-given.given.items ring.ensures.field ring.ensures.vars c.deref.ensures.value (stored-normal s.p (all_count s) (action_ideal s) c.in_ok-given.given.items c.in_ok-given.ensures)

pub basis_by-requires-clause-suits : goal.basis_by-requires-clause-suits
basis_by-requires-clause-suits c = c.action_ring-ring.ensures.vars ∙ c.in_ok-order.ensures.suits

pub returns-clause-basis : goal.returns-clause-basis
returns-clause-basis c =
    let s = c.args.system.now.system in
    let ring = c.action_ring-ring in
    let stored = subst (λ fs. AreStored s.p (all_count s) (action_ideal s) fs) (sym c.deref.ensures.value) c.in_ok-given.ensures in
    let found = c.in_ok-found.ensures in
    action_basis-of s ring.result.coeffs ring.result.vars (block_order (sizes_from 0 c.in_ok-order.order)) c.deref.result.now ring.ensures.field ring.ensures.vars c.in_ok-order.ensures.order stored c.in_ok-found.found found.journal found.complete found.polys

pub returns-in_err-found-clause-stop : goal.returns-in_err-found-clause-stop
returns-in_err-found-clause-stop c =
    let s = c.args.system.now.system in
    let ring = c.action_ring-ring in
    let stored = subst (λ fs. AreStored s.p (all_count s) (action_ideal s) fs) (sym c.deref.ensures.value) c.in_ok-given.ensures in
    let q = err_from_is_err_and c.from_residual-in_err-found.result c.from_residual-in_err-found.ensures.1 in
    rw (q.1, q.2) (stops-over s ring.result.coeffs ring.result.vars (block_order (sizes_from 0 c.in_ok-order.order)) c.deref.result.now ring.ensures.field ring.ensures.vars c.in_ok-order.ensures.order stored c.args.budget.now c.basis_by.new.budget c.in_err-found.field-0.0 c.in_err-found.ensures.stop)
