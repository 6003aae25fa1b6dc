use Rattle.rinv_basis_check.proofs.LeadTests.{z-over, z-within, z-end}
use Rattle.rinv_basis_check.proofs.leads.divides_z_part.Goals as goal

pub returns-then-exponents-k : goal.returns-then-exponents-k
returns-then-exponents-k c = z-over c.args.exponents.now c.args.mono.now c.args.group c.variables.k c.exponent.result c.requires.count c.variables-test.true c.exponent.ensures c.if-exponents-k.true c.variables.invariant

pub variables-preserved : goal.variables-preserved
variables-preserved c = z-within c.args.exponents.now c.args.mono.now c.args.group c.variables.k c.exponent.result c.requires.count c.variables-test.true c.exponent.ensures c.if-exponents-k.false c.variables.invariant

pub returns : goal.returns
returns c = z-end c.args.exponents.now c.args.mono.now c.args.group c.variables.k c.variables-test.false c.variables.invariant
