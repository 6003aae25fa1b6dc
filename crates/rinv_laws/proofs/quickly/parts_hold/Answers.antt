use Rattle.std.proofs.Common.{ℕ, List, length, nat_lt, sym, ap, subst₂}
use Rattle.rinv_algebra.specs.Order.{grevlex}
use Rattle.rinv_algebra.specs.Residue.{residue_ops}
use Rattle.rinv_div.specs.Divisors.{AreDivisors}
use Rattle.rinv_defs.specs.System.{Poly}
use Rattle.rinv_parts.specs.LawNames.{law_of, polynomial_variables, variables_of}
use Rattle.rinv_parts.specs.Points.{law_polynomials}
use Rattle.rinv_parts.proofs.PartCounts.{coordinates-over, points-form, polynomials-normal}
use Rattle.rinv_parts.proofs.Stored.{normal-over}
use Rattle.rinv_laws.proofs.LawsModulo.{law-holds}
use Rattle.rinv_laws.proofs.quickly.parts_hold.Goals as goal

pub polynomial_variables-vars-requires : goal.polynomial_variables-vars-requires
polynomial_variables-vars-requires c = c.requires.parts.ring.system

pub holds_at-requires-clause-polynomials : goal.holds_at-requires-clause-polynomials
holds_at-requires-clause-polynomials c =
    let s = c.args.system.now.system in
    let law = law_of c.args.own.now.law in
    normal-over c.args.own.now.ring.coeffs s.p c.polynomial_variables-vars.result (polynomial_variables s law) c.law_polynomials-fs.result.now (law_polynomials s law) c.requires.parts.ring.field
    c.polynomial_variables-vars.ensures c.law_polynomials-fs.ensures (polynomials-normal s c.requires.parts.ring.system law)

pub holds_at-requires-clause-points : goal.holds_at-requires-clause-points
holds_at-requires-clause-points c =
    let s = c.args.system.now.system in
    let law = law_of c.args.own.now.law in
    let h = points-form s c.requires.parts.ring.system law (variables_of s law) c.args.own.now.points c.requires.parts.points in
    coordinates-over c.args.own.now.ring.coeffs s.p c.args.own.now.ring.vars (variables_of s law) c.polynomial_variables-vars.result (polynomial_variables s law) (length c.law_polynomials-fs.result.now) (length (law_polynomials s law)) c.args.own.now.points
    c.requires.parts.ring.field c.requires.parts.ring.vars c.polynomial_variables-vars.ensures (ap (λ (fs : List Poly). length fs) c.law_polynomials-fs.ensures) h.coordinates

pub holds_at-requires-clause-divisors : goal.holds_at-requires-clause-divisors
holds_at-requires-clause-divisors c =
    let ring = c.requires.parts.ring in
    let b = c.args.basis.now in
    subst₂ (λ (p v : ℕ). AreDivisors (residue_ops p) (λ c. nat_lt c p) v grevlex b.polys.items b.divisors.list.items) (sym ring.field) (sym ring.vars) c.requires.basis.divisors

pub returns-in-Ok : goal.returns-in-Ok
returns-in-Ok c = λ e.
    let s = c.args.system.now.system in
    let law = law_of c.args.own.now.law in
    let ring = c.requires.parts.ring in
    law-holds s c.args.group.now.basis c.args.group.now.reduced.items ring.system c.requires.group law c.args.basis.now c.requires.basis c.args.own.now.points c.requires.parts.points
    c.args.own.now.ring.coeffs c.law_polynomials-fs.result.now ring.field c.law_polynomials-fs.ensures (c.in-Ok.ensures e)
