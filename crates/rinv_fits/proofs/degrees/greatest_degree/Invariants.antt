use Rattle.rinv_fits.proofs.Greatest.{IsGreatest}
use Rattle.rinv_fits.proofs.degrees.greatest_degree.Given as goal

abbrev pub invariant-terms : goal.invariant-terms
invariant-terms l = IsGreatest l.terms l.k l.greatest
