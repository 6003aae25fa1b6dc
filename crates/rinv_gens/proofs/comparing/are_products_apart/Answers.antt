use Rattle.std.proofs.Common.{◌≡◌, ◌+◌, arith}
use Rattle.rinv_gens.proofs.Apart.{products-apart}
use Rattle.rinv_gens.proofs.comparing.are_products_apart.Goals as goal

pub returns-then-first-second : goal.returns-then-first-second
returns-then-first-second c = λ e. products-apart c.args.a.now c.args.b.now c.args.c.now c.args.d.now c.variables.k (λ s. c.if-first-second.true (omega (
  arith,
  s,
  c.from.ensures,
  c.exponent.ensures,
  c.from-in-variables.ensures,
  c.exponent-in-variables.ensures,
  c.from-in-variables-2.ensures,
  c.exponent-in-variables-2.ensures,
  c.from-in-variables-3.ensures,
  c.exponent-in-variables-3.ensures,
)))
