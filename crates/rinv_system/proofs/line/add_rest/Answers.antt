use Rattle.std.proofs.Common.{sym, subst}
use Rattle.rinv_system.specs.Forms.{TellsNames}
use Rattle.rinv_system.specs.declared.keyword.Keyword.TheVariants.{Group}
use Rattle.rinv_system.proofs.LineSteps.{numbers-of, polynomials-others}
use Rattle.rinv_system.proofs.line.add_rest.Goals as goal

pub add_number-requires : goal.add_number-requires
add_number-requires c = numbers-of _ c.in-Field.is

pub read-requires : goal.read-requires
read-requires c = subst (λ k. TellsNames c.args.draft.now k c.empty.result) (sym c.in-Group.is) (subst (TellsNames c.args.draft.now Group) (sym c.empty.ensures) TellsNames.group_line)

pub add_polynomials-requires-clause-tells : goal.add_polynomials-requires-clause-tells
add_polynomials-requires-clause-tells c = polynomials-others _ c.in_default.not-Field c.in_default.not-Group c.in_default.not-Space c.in_default.not-Pairs c.in_default.not-Steps
