use Rattle.std.proofs.Common.{◌≡◌, take}
use Rattle.rinv_form.proofs.copies.names_again.Given as goal

abbrev pub invariant-names : goal.invariant-names
invariant-names l = l.copies.items ≡ take l.k l.slice
