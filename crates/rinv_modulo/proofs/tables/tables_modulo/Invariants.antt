use Rattle.std.proofs.Common.{◌≡◌, ◌<◌, ℕ, List, length, get_or, map}
use Rattle.rinv_algebra.specs.Polynomial.{Polynomial}
use Rattle.rinv_modulo.specs.Congruence.{ArePowersModulo}
use Rattle.rinv_modulo.proofs.tables.tables_modulo.Given as goal

abbrev pub invariant-polynomials : goal.invariant-polynomials
invariant-polynomials l = record {
  many : length (map (λ t. t.items) l.tables.items) ≡ l.k;
  each : (j : ℕ) (t : List (Polynomial ℕ)) → j < l.k → (f : Polynomial ℕ) → ArePowersModulo l.ring.coeffs l.ring.vars l.basis (get_or l.fs j f) (get_or (map (λ t. t.items) l.tables.items) j t);
}
