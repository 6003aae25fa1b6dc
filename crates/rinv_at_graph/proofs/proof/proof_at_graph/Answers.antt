use Rattle.std.proofs.Common.{◌∙◌, List, length, sym, ap}
use Rattle.std.proofs.lemmas.Result.{err_from_is_err_and}
use Rattle.rinv_defs.specs.System.{Poly}
use Rattle.rinv_defs.specs.Conditions.{graph_point}
use Rattle.rinv_poly.proofs.Meets.{meet-weaker}
use Rattle.rinv_parts.specs.Substitutions.{TakenMeets}
use Rattle.rinv_parts.proofs.Stored.{normal-over, stored-normal}
use Rattle.rinv_change.specs.Changes.{change_count}
use Rattle.rinv_at_graph.specs.AtGraph.{AtGraphMeets, CofactorMeets, DivisionMeets}
use Rattle.rinv_at_graph.specs.AtGraph.AtGraphMeets.{in_value, in_division, in_cofactor}
use Rattle.rinv_at_graph.proofs.ProvedValues.{identity-meets, is-proved}
use Rattle.rinv_at_graph.proofs.proof.proof_at_graph.Goals as goal

pub returns-in_err-value : goal.returns-in_err-value
returns-in_err-value c s found g member =
    let q = err_from_is_err_and c.from_residual.result c.from_residual.ensures.1 in
    rw (q.1, q.2) (meet-weaker (TakenMeets s.p (change_count s) (graph_point s) c.args.h.now) (AtGraphMeets s found c.args.h.now) (λ x y m. in_value m) c.in_err-value.field-0.0 (c.in_err-value.ensures.value s found g))

pub returns-in_err-quotients : goal.returns-in_err-quotients
returns-in_err-quotients c s found g member =
    let q = err_from_is_err_and c.from_residual-in_err-quotients.result c.from_residual-in_err-quotients.ensures.1 in
    rw (q.1, q.2) (meet-weaker (DivisionMeets s found c.args.h.now) (AtGraphMeets s found c.args.h.now) (λ x y m. in_division m) c.in_err-quotients.field-0.0
    (c.in_err-quotients.ensures.quotients s found c.args.h.now g (c.in_ok-value.ensures.value s found g).stored.value member))

pub returns-in_err-cofactors : goal.returns-in_err-cofactors
returns-in_err-cofactors c s found g member =
    let q = err_from_is_err_and c.from_residual-in_err-cofactors.result c.from_residual-in_err-cofactors.ensures.1 in
    let own = c.in_ok-quotients.ensures.quotients s found c.args.h.now g (c.in_ok-value.ensures.value s found g).stored.value member in
    rw (q.1, q.2) (meet-weaker (CofactorMeets s found c.args.h.now) (AtGraphMeets s found c.args.h.now) (λ x y m. in_cofactor m) c.in_err-cofactors.field-0.0
    (c.in_err-cofactors.ensures.cofactors s found c.args.h.now g (rw c.deref.ensures.value own)))

pub cofactors_of-requires-clause-many : goal.cofactors_of-requires-clause-many
cofactors_of-requires-clause-many c = ap (λ (fs : List Poly). length fs) c.deref.ensures.value ∙ c.in_ok-quotients.ensures.number

pub check_sums-requires-clause-many : goal.check_sums-requires-clause-many
check_sums-requires-clause-many c = ap (λ (fs : List Poly). length fs) c.deref-2.ensures.value ∙ c.in_ok-cofactors.ensures.number ∙ sym (ap (λ (fs : List Poly). length fs) c.deref-3.ensures.value)

pub check_sums-requires-clause-generators : goal.check_sums-requires-clause-generators
check_sums-requires-clause-generators c =
    let s = c.requires.ground.s in
    let g = c.requires.ground.is in
    normal-over c.args.ground.now.whole.coeffs s.p c.args.ground.now.whole.vars (change_count s) c.deref-3.result.now c.args.ground.now.ideal.items g.whole_field g.whole_vars c.deref-3.ensures.value
    (stored-normal s.p (change_count s) s.ideal c.args.ground.now.ideal.items g.ideal)

pub returns-in_err-check_sums : goal.returns-in_err-check_sums
returns-in_err-check_sums c s found g member =
    let q = err_from_is_err_and c.from_residual-in_err-check_sums.result c.from_residual-in_err-check_sums.ensures.1 in
    let own = c.in_ok-quotients.ensures.quotients s found c.args.h.now g (c.in_ok-value.ensures.value s found g).stored.value member in
    let proves = c.in_ok-cofactors.ensures.cofactors s found c.args.h.now g (rw c.deref.ensures.value own) in
    rw (q.1, q.2) (identity-meets s found c.args.h.now c.args.ground.now.ideal.items g.ideal c.in_ok-cofactors.cofactors.items proves c.args.ground.now.whole.coeffs c.args.ground.now.whole.vars g.whole_field g.whole_vars
    c.in_err-check_sums.field-0.0 (rw (c.deref-2.ensures.value, c.deref-3.ensures.value) at c.in_err-check_sums.ensures.degree))

pub returns : goal.returns
returns c s found g member =
    let own = c.in_ok-quotients.ensures.quotients s found c.args.h.now g (c.in_ok-value.ensures.value s found g).stored.value member in
    let proves = c.in_ok-cofactors.ensures.cofactors s found c.args.h.now g (rw c.deref.ensures.value own) in
    is-proved s found c.args.h.now c.args.ground.now.ideal.items g.ideal c.in_ok-cofactors.cofactors.items proves c.args.ground.now.whole.coeffs c.args.ground.now.whole.vars g.whole_field g.whole_vars
    (c.in_ok-value.ensures.value s found g).fits (rw (c.deref-2.ensures.value, c.deref-3.ensures.value) at c.in_ok-check_sums.ensures.fits)
