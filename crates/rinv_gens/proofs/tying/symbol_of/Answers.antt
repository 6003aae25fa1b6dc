use Rattle.std.proofs.Common.{sym}
use Rattle.rinv_gens.proofs.Tied.{tied-constant}
use Rattle.rinv_gens.proofs.tying.symbol_of.Goals as goal

pub generator_of-requires-clause-no_number : goal.generator_of-requires-clause-no_number
generator_of-requires-clause-no_number c = rw c.in-None.is at c.in_ok-constant.ensures.none

pub returns-in-Some-clause-fractions : goal.returns-in-Some-clause-fractions
returns-in-Some-clause-fractions c =
    let low = rw c.in-Some.is at c.in_ok-constant.ensures.element in
    let value = rw c.in-Some.is at c.in_ok-constant.ensures.value in
    sym (tied-constant c.args.field.now.base.coeffs c.args.fractions.now.items c.args.c.now c.in-Some.value low value).0

pub returns-in-Some-clause-tied : goal.returns-in-Some-clause-tied
returns-in-Some-clause-tied c =
    let low = rw c.in-Some.is at c.in_ok-constant.ensures.element in
    let value = rw c.in-Some.is at c.in_ok-constant.ensures.value in
    (tied-constant c.args.field.now.base.coeffs c.args.fractions.now.items c.args.c.now c.in-Some.value low value).1
