use Rattle.std.proofs.Common.{[], get_or, map}
use Rattle.rinv_laws.specs.Proofs.{AreInCopies}
use Rattle.rinv_laws.proofs.cofactors.cofactors_in_copies.Given as goal

abbrev pub invariant-copies : goal.invariant-copies
invariant-copies l = AreInCopies l.ring.coeffs l.ring.vars l.copy l.count l.kept (λ j. get_or (map (λ ls. map (λ us. us.items) ls.items) l.copies) j []) l.quotients l.cofactors.items
