use Rattle.std.proofs.Common.{◌≡◌, ◌∙◌, ◌<◌, ℕ, List, length, sym, ap, arith, subst₂}
use Rattle.rinv_text.specs.Told.{Told}
use Rattle.rinv_defs.specs.System.{Poly}
use Rattle.rinv_defs.specs.Laws.{parts}
use Rattle.rinv_parts.specs.LawNames.{law_of, polynomial_variables, variables_of}
use Rattle.rinv_parts.specs.Points.{ArePoints, law_points, law_polynomials, part_number}
use Rattle.rinv_parts.proofs.PartCounts.{coordinates-over, points-form, polynomials-normal}
use Rattle.rinv_parts.proofs.PartForms.{part-number}
use Rattle.rinv_parts.proofs.PartsMade.{part-answer}
use Rattle.rinv_parts.proofs.Stored.{normal-over}
use Rattle.rinv_parts.proofs.parts.part_at.Goals as goal

pub made_at-requires-clause-field : goal.made_at-requires-clause-field
made_at-requires-clause-field c = c.new-from.ensures.ring ∙ ap (λ (t : Told). t.system.p) c.system.view_is ∙ sym c.requires.parts.ring.field

pub made_at-requires-clause-polynomials : goal.made_at-requires-clause-polynomials
made_at-requires-clause-polynomials c =
    let s = c.args.system.now.system in
    let law = law_of c.args.law_parts.now.law in
    normal-over c.args.law_parts.now.ring.coeffs s.p c.new-from.result.vars (polynomial_variables s law) c.law_polynomials-fs.result.now (law_polynomials s law) c.requires.parts.ring.field
    (c.new-from.ensures.count ∙ c.polynomial_variables.ensures) c.law_polynomials-fs.ensures (polynomials-normal s c.requires.parts.ring.system law)

pub made_at-requires-clause-points : goal.made_at-requires-clause-points
made_at-requires-clause-points c =
    let s = c.args.system.now.system in
    let law = law_of c.args.law_parts.now.law in
    let h = points-form s c.requires.parts.ring.system law (variables_of s law) c.args.law_parts.now.points c.requires.parts.points in
    coordinates-over c.args.law_parts.now.ring.coeffs s.p c.args.law_parts.now.ring.vars (variables_of s law) c.new-from.result.vars (polynomial_variables s law) (length c.law_polynomials-fs.result.now) (length (law_polynomials s law)) c.args.law_parts.now.points
    c.requires.parts.ring.field c.requires.parts.ring.vars (c.new-from.ensures.count ∙ c.polynomial_variables.ensures) (ap (λ (fs : List Poly). length fs) c.law_polynomials-fs.ensures) h.coordinates

pub made_at-requires-clause-inside : goal.made_at-requires-clause-inside
made_at-requires-clause-inside c =
    let s = c.args.system.now.system in
    let law = law_of c.args.law_parts.now.law in
    let points = c.args.law_parts.now.points in
    let h = points-form s c.requires.parts.ring.system law (variables_of s law) points c.requires.parts.points in
    let e : part_number (length c.law_polynomials-fs.result.now) points ≡ length (parts s law) = ap (λ (fs : List Poly). part_number (length fs) points) c.law_polynomials-fs.ensures ∙ h.number ∙ sym (part-number s c.requires.parts.ring.system law) in
    omega (arith, e, c.requires.inside)

pub returns : goal.returns
returns c =
    let s = c.args.system.now.system in
    let law = law_of c.args.law_parts.now.law in
    let ring = c.requires.parts.ring in
    part-answer s ring.system law c.args.place c.requires.inside c.made_at.result c.args.law_parts.now.ring.coeffs c.args.law_parts.now.ring.vars c.law_polynomials-fs.result.now ring.field ring.vars c.law_polynomials-fs.ensures
    (c.made_at.ensures (law_points s law) (subst₂ (λ (p v : ℕ). ArePoints p v (law_points s law) c.args.law_parts.now.points) (sym ring.field) (sym ring.vars) c.requires.parts.points))
