use Rattle.std.proofs.Common.{◌≡◌, take}
use Rattle.rinv_value.proofs.descending.copied.Given as goal

abbrev pub invariant-loop-mono : goal.invariant-loop-mono
invariant-loop-mono l = l.terms.items ≡ take l.mono-index l.f
