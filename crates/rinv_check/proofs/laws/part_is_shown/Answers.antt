use Rattle.std.proofs.Common.{◌∙◌}
use Rattle.rinv_parts.specs.LawNames.{law_of}
use Rattle.rinv_check.proofs.ShownParts.{part-shown, part-unfit}
use Rattle.rinv_check.proofs.laws.part_is_shown.Goals as goal

pub multiplies_out-requires-clause-polynomial : goal.multiplies_out-requires-clause-polynomial
multiplies_out-requires-clause-polynomial c = rw (c.requires.parts.ring.field, c.requires.parts.ring.vars) c.in-Ok.ensures.stored.normal

pub returns-in-Err-Degree : goal.returns-in-Err-Degree
returns-in-Err-Degree c =
    let l = c.args.law_parts.now in
    part-unfit c.args.system.now.system (law_of l.law) c.args.place c.args.cofactors.now c.args.generators.now c.requires.parts.ring.system _ _ (rw c.in-Err-Degree.field-0-is at c.in-Err-Degree.ensures)

pub returns : goal.returns
returns c =
    let l = c.args.law_parts.now in
    c.in_ok-shown.ensures
    ∙ part-shown c.args.system.now.system (law_of l.law) c.args.place c.args.cofactors.now c.args.generators.now l.ring.coeffs c.in-Ok.part c.requires.parts.ring.field c.in-Ok.ensures
