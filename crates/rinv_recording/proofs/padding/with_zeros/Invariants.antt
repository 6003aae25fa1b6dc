use Rattle.std.proofs.Common.{◌-◌, length}
use Rattle.rinv_parts.specs.Points.{ArePolynomials}
use Rattle.rinv_recording.proofs.PaddedLists.{AreZerosBehind}
use Rattle.rinv_recording.proofs.padding.with_zeros.Given as goal

abbrev pub invariant-zeros : goal.invariant-zeros
invariant-zeros l = record {
  normal : ArePolynomials l.ring.coeffs l.ring.vars l.list.items;
  behind : AreZerosBehind l.ring.coeffs l.initial.list.items l.count l.list.items;
}

abbrev pub decreases-zeros : goal.decreases-zeros
decreases-zeros l = l.count - length l.list.items
