use Rattle.std.proofs.Common.{◌≡◌, take, true}
use Rattle.rinv_defs.specs.Names.{are_names}
use Rattle.rinv_form.proofs.names.are_names.Given as goal

abbrev pub invariant-loop-place : goal.invariant-loop-place
invariant-loop-place l = are_names l.earlier (take l.place l.names) ≡ true
