use Rattle.std.proofs.Common.{◌≡◌, take}
use Rattle.rinv_check.proofs.named_system.copied.Given as goal

abbrev pub invariant-polynomials : goal.invariant-polynomials
invariant-polynomials l = l.copies.items ≡ take l.k l.fs
