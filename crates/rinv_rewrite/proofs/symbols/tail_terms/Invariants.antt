use Rattle.std.proofs.Common.{map, take}
use Rattle.rinv_algebra.specs.Residue.{residue_ops}
use Rattle.rinv_algebra.specs.Polynomial.{poly_ops}
use Rattle.rinv_poly.specs.Faults.{AreWorkedOut}
use Rattle.rinv_soundness.specs.Rewriting.{symbol_of}
use Rattle.rinv_gens.specs.Symbols.{tied_of}
use Rattle.rinv_rewrite.specs.Symbols.{is_symbolic}
use Rattle.rinv_rewrite.proofs.symbols.tail_terms.Given as goal

abbrev pub invariant-places : goal.invariant-places
invariant-places l = let p = l.ring.coeffs.coeffs in AreWorkedOut (poly_ops (residue_ops p)) (is_symbolic p l.ring.coeffs.vars) (map (λ t. (t.0, symbol_of p (tied_of t.1))) (take l.k l.tail)) l.terms.items
