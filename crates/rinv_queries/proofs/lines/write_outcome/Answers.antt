use Rattle.std.proofs.Common.{refl}
use Rattle.rinv_queries.proofs.Pieces.{laws-line, shown-line, invariant-line, vanishing-line, stray-line, unwritten-line, written-line}
use Rattle.rinv_queries.proofs.lines.write_outcome.Goals as goal

pub returns-in_ok-write_head-in-LawsHold : goal.returns-in_ok-write_head-in-LawsHold
returns-in_ok-write_head-in-LawsHold c = rw c.in-LawsHold.is (laws-line c.args.system.now.system c.args.variables.now.symbols c.args.number c.args.out.now.items _ c.in_ok-write_head-in-LawsHold.ensures)

pub returns-in-GeneratorsShown : goal.returns-in-GeneratorsShown
returns-in-GeneratorsShown c = rw c.in-GeneratorsShown.is (shown-line c.args.system.now.system c.args.variables.now.symbols c.args.number c.args.out.now.items _ refl)

pub returns-in_ok-write_head-in-Invariant : goal.returns-in_ok-write_head-in-Invariant
returns-in_ok-write_head-in-Invariant c = rw c.in-Invariant.is (invariant-line c.args.system.now.system c.args.variables.now.symbols c.args.number c.args.out.now.items _ c.in_ok-write_head-in-Invariant.ensures)

pub returns-in_ok-write_rest-in-NotInvariant : goal.returns-in_ok-write_rest-in-NotInvariant
returns-in_ok-write_rest-in-NotInvariant c =
    rw c.in-NotInvariant.is (stray-line c.args.system.now.system c.args.variables.now.symbols c.args.number c.args.out.now.items _ c.in-NotInvariant.rest c.args.variables.now.changes _
    c.requires.variables.1.changes c.in_ok-write_head-in-NotInvariant.ensures c.in_ok-write_rest-in-NotInvariant.ensures)

pub returns-in_ok-write_expression-in-Rewritten : goal.returns-in_ok-write_expression-in-Rewritten
returns-in_ok-write_expression-in-Rewritten c =
    rw c.in-Rewritten.is (written-line c.args.system.now.system c.args.variables.now.symbols c.args.number c.args.out.now.items _ c.in-Rewritten.expression _
    c.in_ok-write_head-in-Rewritten.ensures c.in_ok-write_expression-in-Rewritten.ensures)

pub returns-in_ok-write_rest-in-NotRewritten : goal.returns-in_ok-write_rest-in-NotRewritten
returns-in_ok-write_rest-in-NotRewritten c =
    rw c.in-NotRewritten.is (unwritten-line c.args.system.now.system c.args.variables.now.symbols c.args.number c.args.out.now.items _ c.in-NotRewritten.rest c.args.variables.now.changes _
    c.requires.variables.1.changes c.in_ok-write_head-in-NotRewritten.ensures c.in_ok-write_rest-in-NotRewritten.ensures)

pub returns-in_ok-write_head-in-Vanishing : goal.returns-in_ok-write_head-in-Vanishing
returns-in_ok-write_head-in-Vanishing c = rw c.in-Vanishing.is (vanishing-line c.args.system.now.system c.args.variables.now.symbols c.args.number c.args.out.now.items _ c.in_ok-write_head-in-Vanishing.ensures)
