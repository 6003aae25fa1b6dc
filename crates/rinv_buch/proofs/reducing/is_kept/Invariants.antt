use Rattle.std.proofs.Common.{◌≡◌, ℕ, ◌<◌, false}
use Rattle.rinv_buch.proofs.KeptPlaces.{stands_against}
use Rattle.rinv_buch.proofs.reducing.is_kept.Given as goal

abbrev pub invariant-others : goal.invariant-others
invariant-others l = (j : ℕ) → j < l.k → stands_against l.monomials l.place j ≡ false
