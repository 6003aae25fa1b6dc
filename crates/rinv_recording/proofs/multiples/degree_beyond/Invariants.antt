use Rattle.std.proofs.Common.{◌≡◌, ◌+◌, drop}
use Rattle.rinv_cofactors.proofs.PairMultipliers.{beyond}
use Rattle.rinv_recording.proofs.multiples.degree_beyond.Given as goal

abbrev pub invariant-variables : goal.invariant-variables
invariant-variables l = l.degree + beyond (drop l.k l.mono) (drop l.k l.other) ≡ beyond l.mono l.other
