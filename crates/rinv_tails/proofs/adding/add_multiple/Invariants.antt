use Rattle.rinv_algebra.specs.Monomial.{quotient}
use Rattle.rinv_tails.proofs.Multiples.{IsAdding}
use Rattle.rinv_tails.proofs.adding.add_multiple.Given as goal

abbrev pub invariant-terms : goal.invariant-terms
invariant-terms l = IsAdding l.field.base.coeffs l.field.base.vars (quotient l.mono l.by.lead) l.c l.mono l.initial.tail.items l.by.tail l.k l.tail.items
