use Rattle.std.proofs.Common.{◌∙◌, ℕ, nat_lt, sym, subst₂}
use Rattle.std.proofs.lemmas.Result.{err_from_is_err_and}
use Rattle.rinv_algebra.specs.Order.{grevlex}
use Rattle.rinv_algebra.specs.Residue.{residue_ops}
use Rattle.rinv_div.specs.Divisors.{AreDivisors}
use Rattle.rinv_poly.proofs.Meets.{meet-first}
use Rattle.rinv_change.specs.Changes.{ChangingMeets, DivisionMeets}
use Rattle.rinv_change.proofs.DividedChanges.{TestedBy, tested-meets, tested-none, tested-some}
use Rattle.rinv_change.proofs.testing.test_invariant.Goals as goal

pub returns-in_err-asked-clause-degree : goal.returns-in_err-asked-clause-degree
returns-in_err-asked-clause-degree c =
    let q = err_from_is_err_and c.from_residual.result c.from_residual.ensures.1 in
    rw (q.1, q.2) (meet-first (ChangingMeets c.args.system.now.system c.args.f.now) (DivisionMeets c.args.system.now.system c.args.group.now.basis c.args.f.now) c.in_err-asked.field-0.0 c.in_err-asked.ensures)

pub remainder_wholly-requires-clause-divisors : goal.remainder_wholly-requires-clause-divisors
remainder_wholly-requires-clause-divisors c =
    let a = c.in_ok-asked.ensures in
    let asked = c.in_ok-asked.asked in
    rw c.deref.ensures.value
    (subst₂ (λ (p v : ℕ). AreDivisors (residue_ops p) (λ n. nat_lt n p) v grevlex asked.basis.polys.items asked.basis.divisors.list.items) (sym a.ring.field) (sym a.ring.vars) a.basis.divisors)

pub returns-in_err-rest-clause-degree : goal.returns-in_err-rest-clause-degree
returns-in_err-rest-clause-degree c =
    let a = c.in_ok-asked.ensures in
    let asked = c.in_ok-asked.asked in
    let s = c.args.system.now.system in
    let found = c.args.group.now.basis in
    let t : TestedBy s found c.args.f.now asked.ring.coeffs asked.ring.vars asked.change asked.basis.polys.items c.deref.result.now = record { ring = a.ring; change = a.change.value; alike = a.basis.same; normal = a.basis.normal; same = c.deref.ensures.value } in
    let q = err_from_is_err_and c.from_residual-in_err-rest.result c.from_residual-in_err-rest.ensures.1 in
    rw (q.1, q.2) (tested-meets s found c.args.group.now.reduced.items c.requires.group c.args.f.now c.requires.fraction asked.ring.coeffs asked.ring.vars asked.change asked.basis.polys.items c.deref.result.now t c.in_err-rest.field-0.0 c.in_err-rest.ensures.degree)

pub returns-then-is_zero-clause-exact : goal.returns-then-is_zero-clause-exact
returns-then-is_zero-clause-exact c =
    let a = c.in_ok-asked.ensures in
    let asked = c.in_ok-asked.asked in
    let s = c.args.system.now.system in
    let found = c.args.group.now.basis in
    let t : TestedBy s found c.args.f.now asked.ring.coeffs asked.ring.vars asked.change asked.basis.polys.items c.deref.result.now = record { ring = a.ring; change = a.change.value; alike = a.basis.same; normal = a.basis.normal; same = c.deref.ensures.value } in
    let d = c.in_ok-rest.ensures in
    tested-none s found c.args.group.now.reduced.items c.requires.group c.args.f.now c.requires.fraction asked.ring.coeffs asked.ring.vars asked.change asked.basis.polys.items c.deref.result.now t d.division.0 c.in_ok-rest.rest d.division.1 (sym c.is_zero.ensures ∙ c.if-is_zero.true)

pub returns-clause-exact : goal.returns-clause-exact
returns-clause-exact c =
    let a = c.in_ok-asked.ensures in
    let asked = c.in_ok-asked.asked in
    let s = c.args.system.now.system in
    let found = c.args.group.now.basis in
    let t : TestedBy s found c.args.f.now asked.ring.coeffs asked.ring.vars asked.change asked.basis.polys.items c.deref.result.now = record { ring = a.ring; change = a.change.value; alike = a.basis.same; normal = a.basis.normal; same = c.deref.ensures.value } in
    let d = c.in_ok-rest.ensures in
    tested-some s found c.args.group.now.reduced.items c.requires.group c.args.f.now c.requires.fraction asked.ring.coeffs asked.ring.vars asked.change asked.basis.polys.items c.deref.result.now t d.division.0 c.in_ok-rest.rest d.division.1 d.rest (sym c.is_zero.ensures ∙ c.if-is_zero.false)
