use Rattle.rinv_expressions.proofs.expressing.rewrite.Goals as goal

pub unreachable-requires : goal.unreachable-requires
unreachable-requires c = (rw c.in-None.is at c.in_ok-expression.ensures.answer).on_section c.requires.no_section
