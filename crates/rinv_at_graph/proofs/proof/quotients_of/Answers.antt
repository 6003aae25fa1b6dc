use Rattle.std.proofs.Common.{◌∙◌, ℕ, map, nat_lt, sym, subst₂}
use Rattle.std.proofs.lemmas.List.{length-map}
use Rattle.std.proofs.lemmas.Result.{err_from_is_err_and}
use Rattle.rinv_algebra.specs.Order.{grevlex}
use Rattle.rinv_algebra.specs.Residue.{residue_ops}
use Rattle.rinv_div.specs.Divisors.{AreDivisors}
use Rattle.rinv_at_graph.proofs.ProvedValues.{divided-at, division-meets, quotients-number}
use Rattle.rinv_at_graph.proofs.proof.quotients_of.Goals as goal

pub divide_wholly-requires-clause-divisors : goal.divide_wholly-requires-clause-divisors
divide_wholly-requires-clause-divisors c =
    let g = c.requires.ground.is in
    let basis = c.args.ground.now.basis in
    rw c.deref.ensures.value
    (subst₂ (λ (p v : ℕ). AreDivisors (residue_ops p) (λ n. nat_lt n p) v grevlex basis.polys.items basis.divisors.list.items) (sym g.whole_field) (sym g.whole_vars) g.basis.divisors)

pub returns-in_err-division-clause-quotients : goal.returns-in_err-division-clause-quotients
returns-in_err-division-clause-quotients c s found h g value member =
    let basis = c.args.ground.now.basis in
    let q = err_from_is_err_and c.from_residual.result c.from_residual.ensures.1 in
    rw (q.1, q.2) (division-meets s found g.reduced g.system g.group h c.args.value.now basis.polys.items c.deref.result.now c.args.ground.now.whole.coeffs g.whole_field value g.basis.same g.basis.normal c.deref.ensures.value
    c.in_err-division.field-0.0 c.in_err-division.ensures.degree)

pub returns-clause-number : goal.returns-clause-number
returns-clause-number c =
    let r = c.requires.ground in
    let basis = c.args.ground.now.basis in
    let lists = c.args.ground.now.cofactors.lists.items in
    let d = c.in_ok-division.ensures in
    let division = c.in_ok-division.division in
    quotients-number r.s r.found (map (λ us. us.items) lists) r.is.cofactors c.args.ground.now.whole.coeffs basis.polys.items c.deref.result.now c.args.value.now division.quotients.items division.rest d.division.0 r.is.basis.same c.deref.ensures.value d.division.1
    ∙ length-map lists (λ us. us.items)

pub returns-clause-quotients : goal.returns-clause-quotients
returns-clause-quotients c s found h g value member =
    let basis = c.args.ground.now.basis in
    let d = c.in_ok-division.ensures in
    let division = c.in_ok-division.division in
    divided-at s found g.reduced g.system g.group h c.args.value.now basis.polys.items c.deref.result.now c.args.ground.now.whole.coeffs g.whole_field value g.basis.same g.basis.normal c.deref.ensures.value
    c.args.ground.now.whole.vars g.whole_vars division.quotients.items division.rest d.division.0 d.division.1 d.quotients member
