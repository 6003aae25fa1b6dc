use Rattle.rinv_system.proofs.LineSteps.{polynomials-taken, unit-normal, unit-taken}
use Rattle.rinv_system.proofs.line.add_polynomials.Goals as goal

pub constants-requires : goal.constants-requires
constants-requires c = unit-normal c.args.draft.now c.args.keyword c.args.rest.now c.in_ok-list.list.items c.in_ok-list.ensures.length c.in_ok-list.ensures.entries _ _ c.in-Unit.is c.field.ensures c.deref.ensures.value

pub returns-in_ok-unit-in-Unit-clause-ok : goal.returns-in_ok-unit-in-Unit-clause-ok
returns-in_ok-unit-in-Unit-clause-ok c =
    unit-taken c.args.draft.now c.args.keyword c.args.rest.now c.in_ok-list.list.items c.in_ok-list.ensures.length c.in_ok-list.ensures.entries _ _ _ _ c.in-Unit.is c.requires.tells c.field.ensures c.deref.ensures.value c.in_ok-unit-in-Unit.ensures c.set_unit.ensures

pub returns-in_default : goal.returns-in_default
returns-in_default c = record { ok = polynomials-taken c.args.draft.now c.args.keyword c.args.rest.now c.in_ok-list.list.items c.in_ok-list.ensures.length c.in_ok-list.ensures.entries _ c.requires.tells c.set_polynomials.ensures; fault = tt }
