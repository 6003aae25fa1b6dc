use Rattle.std.proofs.Common.{◌∙◌, ℕ, ap, length, nat_lt, subst, sym}
use Rattle.std.specs.Prelude.{None}
use Rattle.std.proofs.lemmas.Result.{err_from_is_err_and}
use Rattle.rinv_text.specs.Told.{Told}
use Rattle.rinv_text.proofs.SystemParts.{parts-of}
use Rattle.rinv_parts.proofs.Stored.{normal-over as over}
use Rattle.rinv_algebra.specs.Order.{grevlex}
use Rattle.rinv_algebra.specs.Residue.{residue_ops}
use Rattle.rinv_algebra.proofs.ResidueField.{residue_field_laws}
use Rattle.rinv_algebra.proofs.ResidueLaws.{residue_laws}
use Rattle.rinv_groebner.proofs.KnownOrders.{grevlex_orders}
use Rattle.rinv_buch.proofs.OwnIdeal.{over-itself}
use Rattle.rinv_buch.specs.declared.kinds.Why.TheVariants.{Degree}
use Rattle.rinv_buch.specs.Kinds.{Found}
use Rattle.rinv_buch.specs.Reducing.{ReducingMeets}
use Rattle.rinv_ring.specs.Fault.{DegreesMeet}
use Rattle.rinv_sub.specs.Refusal.{never}
use Rattle.rinv_laws.specs.Group.{HaltsInGroup}
use Rattle.rinv_laws.proofs.GroupFacts.{group_basis-of, reducing-halts, stops-over}
use Rattle.rinv_laws.proofs.group.group_basis.Goals as goal

pub basis-requires-clause-given : goal.basis-requires-clause-given
basis-requires-clause-given c =
    let s = c.args.system.now.system in
    over c.new-ring.result.coeffs s.p c.new-ring.result.vars (length s.group) c.deref.result.now s.ideal
    (c.new-ring.ensures.ring ∙ ap (λ (t : Told). t.system.p) c.system.view_is)
    (c.new-ring.ensures.count ∙ c.len.ensures.len ∙ ap (λ (t : Told). length t.system.group) c.system.view_is)
    (c.deref.ensures.value ∙ ap (λ (t : Told). t.system.ideal) c.system.view_is)
    (parts-of s c.requires.system).ideal

pub interreduce-requires-clause-groebner : goal.interreduce-requires-clause-groebner
interreduce-requires-clause-groebner c =
    let p = c.new-ring.result.coeffs in
    let v = c.new-ring.result.vars in
    over-itself (residue_ops p) (residue_laws p) (residue_field_laws p) grevlex v (grevlex_orders v) c.deref.result.now c.in_ok-found.found.polys c.in_ok-found.ensures.groebner

pub returns-in-Ok-clause-basis : goal.returns-in-Ok-clause-basis
returns-in-Ok-clause-basis c =
    let found = c.in_ok-found.ensures in
    let made = c.in-Ok.ensures in
    group_basis-of c.args.system.now.system c.new-ring.result.coeffs c.new-ring.result.vars c.deref.result.now c.in_ok-found.found c.in-Ok.reduced.items
    (c.new-ring.ensures.ring ∙ ap (λ (t : Told). t.system.p) c.system.view_is)
    (c.new-ring.ensures.count ∙ c.len.ensures.len ∙ ap (λ (t : Told). length t.system.group) c.system.view_is)
    (c.deref.ensures.value ∙ ap (λ (t : Told). t.system.ideal) c.system.view_is)
    found.journal found.complete found.polys found.groebner made.reduced made.ascending made.normal

pub returns-in_err-found-clause-stop : goal.returns-in_err-found-clause-stop
returns-in_err-found-clause-stop c =
    let q = err_from_is_err_and c.from_residual.result c.from_residual.ensures.1 in
    rw (q.1, q.2) (stops-over c.args.system.now.system c.new-ring.result.coeffs c.new-ring.result.vars c.deref.result.now
    (c.new-ring.ensures.ring ∙ ap (λ (t : Told). t.system.p) c.system.view_is)
    (c.new-ring.ensures.count ∙ c.len.ensures.len ∙ ap (λ (t : Told). length t.system.group) c.system.view_is)
    (c.deref.ensures.value ∙ ap (λ (t : Told). t.system.ideal) c.system.view_is)
    c.args.budget.now c.basis.new.budget c.in_err-found.field-0.0 c.in_err-found.ensures.stop)

pub returns-in_ok-working-in-Err-Degree-clause-stop : goal.returns-in_ok-working-in-Err-Degree-clause-stop
returns-in_ok-working-in-Err-Degree-clause-stop c =
    let s = c.args.system.now.system in
    let found = c.in_ok-found.ensures in
    let p = c.new-ring.result.coeffs in
    let working = c.in_ok-working-in-Err-Degree.working in
    let left = c.in-Err-Degree.left in
    let right = c.in-Err-Degree.right in
    subst (λ (f : Found ℕ). HaltsInGroup s c.args.budget.now c.basis.new.budget (record { polys = f.polys; journal = f.journal; working = working; origin = None; why = Degree left right })) (sym c.found.view_is)
    (reducing-halts s c.new-ring.result.coeffs c.new-ring.result.vars c.deref.result.now
    (c.new-ring.ensures.ring ∙ ap (λ (t : Told). t.system.p) c.system.view_is)
    (c.new-ring.ensures.count ∙ c.len.ensures.len ∙ ap (λ (t : Told). length t.system.group) c.system.view_is)
    (c.deref.ensures.value ∙ ap (λ (t : Told). t.system.ideal) c.system.view_is)
    c.args.budget.now c.basis.new.budget c.in_ok-found.found working left right found.journal found.complete found.spent c.in_ok-working-in-Err-Degree.ensures.value
    (subst (DegreesMeet (ReducingMeets (residue_ops p) (λ n. nat_lt n p) never c.new-ring.result.vars grevlex c.in_ok-found.found.polys)) c.in-Err-Degree.field-0-is c.in-Err-Degree.ensures.degree))
