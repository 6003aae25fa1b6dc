use Rattle.std.proofs.Common.{refl}
use Rattle.rinv_cert.specs.Seen.{system_by}
use Rattle.rinv_form.proofs.FirstParts.{false_where_none, field_fails, group_fails, space_fails, frame_holds}
use Rattle.rinv_form.proofs.frame.frame_of.Goals as goal

pub returns-in_default-clause-part : goal.returns-in_default-clause-part
returns-in_default-clause-part c = field_fails (system_by (λ f. f) c.args.system.now) _ c.from.ensures (false_where_none _ c.in_default.ensures.listed.1)

pub returns-in_default-count_names-clause-part : goal.returns-in_default-count_names-clause-part
returns-in_default-count_names-clause-part c =
    group_fails (system_by (λ f. f) c.args.system.now) _ c.from.ensures (c.in-Ok.ensures.listed.0 refl) _ _ refl c.as_slice.ensures c.in_default-count_names.ensures

pub returns-in_default-count_names-2-clause-part : goal.returns-in_default-count_names-2-clause-part
returns-in_default-count_names-2-clause-part c =
    space_fails (system_by (λ f. f) c.args.system.now) _ c.from.ensures (c.in-Ok.ensures.listed.0 refl) _ _ refl c.as_slice.ensures _ c.in-Some.ensures
    _ _ c.as_slice-2.ensures c.as_slice-3.ensures c.in_default-count_names-2.ensures

pub returns-clause-ok : goal.returns-clause-ok
returns-clause-ok c =
    rw c.in-Ok.ensures.ok
    (frame_holds (system_by (λ f. f) c.args.system.now) _ c.from.ensures (c.in-Ok.ensures.listed.0 refl) _ _ refl c.as_slice.ensures _ c.in-Some.ensures _ _ c.as_slice-2.ensures c.as_slice-3.ensures _ c.in-Some-count_names.ensures)
