use Rattle.std.proofs.Common.{◌≡◌, drop}
use Rattle.rinv_form.specs.Forms.{each_stored}
use Rattle.rinv_form.proofs.StoredLists.{with_front}
use Rattle.rinv_form.proofs.form.each.Given as goal

abbrev pub invariant-loop-item : goal.invariant-loop-item
invariant-loop-item g l = with_front l.found.items (each_stored (g.F.Form.stores l.form) (drop l.item-index l.plain)) ≡ each_stored (g.F.Form.stores l.form) l.plain
