use Rattle.std.proofs.Common.{map, take}
use Rattle.rinv_algebra.specs.Residue.{residue_ops}
use Rattle.rinv_algebra.specs.Polynomial.{constant, poly_ops}
use Rattle.rinv_poly.specs.Faults.{AreWorkedOut}
use Rattle.rinv_rewrite.specs.Symbols.{is_symbolic}
use Rattle.rinv_rewrite.proofs.symbols.terms_in_z.Given as goal

abbrev pub invariant-places : goal.invariant-places
invariant-places l = let p = l.ring.coeffs.coeffs in AreWorkedOut (poly_ops (residue_ops p)) (is_symbolic p l.ring.coeffs.vars) (map (λ t. (t.0, constant (residue_ops p) t.1)) (take l.k l.f)) l.out.items
