use Rattle.std.proofs.Common.{◌∙◌, sym, ap}
use Rattle.rinv_defs.specs.System.{space_count}
use Rattle.rinv_reduction.specs.Localised.{z_coefficient}
use Rattle.rinv_elim.proofs.LeadsMade.{part-over, nonzero-over, fraction-over, cancelled-over}
use Rattle.rinv_elim.proofs.relating.solved_at.Goals as goal

pub z_coefficient-requires-clause-field : goal.z_coefficient-requires-clause-field
z_coefficient-requires-clause-field c = ap (λ r. r.coeffs) c.base.ensures ∙ c.requires.field

pub z_coefficient-requires-clause-vars : goal.z_coefficient-requires-clause-vars
z_coefficient-requires-clause-vars c = ap (λ r. r.vars) c.base.ensures ∙ c.requires.vars

pub solved-requires-clause-num : goal.solved-requires-clause-num
solved-requires-clause-num c =
    let s = c.args.system.now.system in
    part-over c.args.field.now.base.coeffs s.p c.args.field.now.base.vars (space_count s) c.in_ok-coefficient.coefficient c.requires.field c.requires.vars c.in_ok-coefficient.ensures.stored

pub solved-requires-clause-den : goal.solved-requires-clause-den
solved-requires-clause-den c =
    let s = c.args.system.now.system in
    part-over c.args.field.now.base.coeffs s.p c.args.field.now.base.vars (space_count s) c.args.divisor.now c.requires.field c.requires.vars c.requires.divisor

pub solved-requires-clause-nonzero : goal.solved-requires-clause-nonzero
solved-requires-clause-nonzero c = nonzero-over c.args.field.now.base.coeffs c.args.system.now.system.p c.args.divisor.now c.requires.field c.requires.nonzero

pub returns-clause-stored : goal.returns-clause-stored
returns-clause-stored c =
    let s = c.args.system.now.system in
    fraction-over s.p c.args.field.now.base.coeffs (space_count s) c.args.field.now.base.vars c.in_ok-solved.solved (sym c.requires.field) (sym c.requires.vars) c.in_ok-solved.ensures.stored

pub returns-clause-solved : goal.returns-clause-solved
returns-clause-solved c =
    let s = c.args.system.now.system in
    cancelled-over c.args.field.now.base.coeffs s.p c.in_ok-coefficient.coefficient c.args.divisor.now (z_coefficient s c.args.h.now c.args.z.now) c.in_ok-solved.solved c.requires.field c.in_ok-coefficient.ensures.value c.in_ok-solved.ensures.solved
