use Rattle.std.proofs.Common.{ℕ, nat_lt, sym, subst₂}
use Rattle.std.proofs.lemmas.Result.{err_from_is_err_and}
use Rattle.rinv_algebra.specs.Order.{grevlex}
use Rattle.rinv_algebra.specs.Residue.{residue_ops}
use Rattle.rinv_algebra.specs.Normal.{IsNormal}
use Rattle.rinv_div.specs.Divisors.{AreDivisors}
use Rattle.rinv_parts.specs.LawNames.{law_of, variables_of}
use Rattle.rinv_laws.proofs.TestedLaws.{answer-holds, answer-normal, answer-stops, answer-zero, made-stops}
use Rattle.rinv_laws.proofs.testing.test_part.Goals as goal

pub divide_part-requires-clause-part : goal.divide_part-requires-clause-part
divide_part-requires-clause-part c =
    let ring = c.requires.parts.ring in
    subst₂ (λ (p v : ℕ). IsNormal (residue_ops p) (λ c. nat_lt c p) v c.in_ok-part.part) (sym ring.field) (sym ring.vars) c.in_ok-part.ensures.stored.normal

pub divide_part-requires-clause-divisors : goal.divide_part-requires-clause-divisors
divide_part-requires-clause-divisors c =
    let ring = c.requires.parts.ring in
    let b = c.args.basis.now in
    subst₂ (λ (p v : ℕ). AreDivisors (residue_ops p) (λ c. nat_lt c p) v grevlex b.polys.items b.divisors.list.items) (sym ring.field) (sym ring.vars) c.requires.basis.divisors

pub returns-clause-normal : goal.returns-clause-normal
returns-clause-normal c =
    let s = c.args.system.now.system in
    let ring = c.requires.parts.ring in
    answer-normal (λ qs. qs.items) c.args.own.now.ring.coeffs s.p c.args.own.now.ring.vars (variables_of s (law_of c.args.own.now.law)) ring.field ring.vars c.divide_part.result c.divide_part.ensures.normal

pub returns-clause-holds : goal.returns-clause-holds
returns-clause-holds c =
    let ring = c.requires.parts.ring in
    answer-holds c.args.system.now.system c.args.group.now.basis c.args.group.now.reduced.items ring.system c.requires.group (law_of c.args.own.now.law) c.args.place c.args.basis.now c.requires.basis c.in_ok-part.part c.in_ok-part.ensures
    c.args.own.now.ring.coeffs c.args.own.now.ring.vars ring.field ring.vars (λ qs. qs.items) c.divide_part.result c.divide_part.ensures.nothing

pub returns-clause-zero : goal.returns-clause-zero
returns-clause-zero c =
    let ring = c.requires.parts.ring in
    answer-zero c.args.system.now.system c.args.group.now.basis c.args.group.now.reduced.items ring.system c.requires.group (law_of c.args.own.now.law) c.args.place c.args.basis.now c.requires.basis c.in_ok-part.part c.in_ok-part.ensures
    c.args.own.now.ring.coeffs c.args.own.now.ring.vars ring.field ring.vars (λ qs. qs.items) c.divide_part.result c.divide_part.ensures.nothing

pub returns-clause-stop : goal.returns-clause-stop
returns-clause-stop c =
    let ring = c.requires.parts.ring in
    answer-stops c.args.system.now.system c.args.group.now.basis c.args.group.now.reduced.items ring.system c.requires.group (law_of c.args.own.now.law) c.args.place c.args.basis.now c.requires.basis c.in_ok-part.part c.in_ok-part.ensures
    c.args.own.now.ring.coeffs c.args.own.now.ring.vars ring.field ring.vars c.divide_part.result c.divide_part.ensures.stop c.divide_part.ensures.fault

pub returns-in_err-part-clause-stop : goal.returns-in_err-part-clause-stop
returns-in_err-part-clause-stop c =
    let q = err_from_is_err_and c.from_residual.result c.from_residual.ensures.1 in
    rw (q.1, q.2) (made-stops c.args.system.now.system c.args.group.now.basis (law_of c.args.own.now.law) c.args.place c.in_err-part.field-0.0 c.in_err-part.ensures)
