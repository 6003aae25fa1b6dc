use Rattle.std.proofs.Common.{◌≡◌, ◌++◌, length, map, take}
use Rattle.rinv_defs.specs.Text.{poly_text}
use Rattle.rinv_system.specs.Written.{list_text}
use Rattle.rinv_system.specs.Writing.{WhereAllStored}
use Rattle.rinv_system.proofs.write.write_polynomials.Given as goal

abbrev pub invariant-polynomials : goal.invariant-polynomials
invariant-polynomials l = WhereAllStored (length l.names) l.polynomials (λ p. l.out.items ≡ l.initial.out.items ++ list_text (take l.k (map (poly_text p l.names) l.polynomials)))
