use Rattle.std.proofs.Common.{sym, subst}
use Rattle.std.proofs.lemmas.Result.{err_from_is_err_and}
use Rattle.rinv_algebra.specs.Residue.{residue_ops}
use Rattle.rinv_algebra.specs.Polynomial.{past, product}
use Rattle.rinv_frac.specs.Fractions.{IsPart}
use Rattle.rinv_frac.proofs.Stored.{stored}
use Rattle.rinv_defs.specs.System.{group_count, space_count}
use Rattle.rinv_defs.specs.Invariant.{at_moved_point}
use Rattle.rinv_change.specs.Changes.{change_count}
use Rattle.rinv_change.proofs.MadeChanges.{change-stored, first-meets, normal-over, second-meets, taken-denominator, taken-numerator}
use Rattle.rinv_change.proofs.changing.change_of.Goals as goal

pub at_moved_point-requires-clause-polynomial : goal.at_moved_point-requires-clause-polynomial
at_moved_point-requires-clause-polynomial c =
    let s = c.args.system.now.system in
    subst (IsPart s.p (space_count s)) (sym c.num-num.ensures) (stored s.p (space_count s) c.args.f.now c.requires.fraction).numerator

pub at_moved_point-requires-2-clause-polynomial : goal.at_moved_point-requires-2-clause-polynomial
at_moved_point-requires-2-clause-polynomial c =
    let s = c.args.system.now.system in
    subst (IsPart s.p (space_count s)) (sym c.den-den.ensures) (stored s.p (space_count s) c.args.f.now c.requires.fraction).denominator

pub behind_group-requires-clause-polynomial : goal.behind_group-requires-clause-polynomial
behind_group-requires-clause-polynomial c =
    let s = c.args.system.now.system in
    subst (IsPart s.p (space_count s)) (sym c.num-num.ensures) (stored s.p (space_count s) c.args.f.now c.requires.fraction).numerator

pub behind_group-requires-2-clause-polynomial : goal.behind_group-requires-2-clause-polynomial
behind_group-requires-2-clause-polynomial c =
    let s = c.args.system.now.system in
    subst (IsPart s.p (space_count s)) (sym c.den-den.ensures) (stored s.p (space_count s) c.args.f.now c.requires.fraction).denominator

pub product-requires-clause-left : goal.product-requires-clause-left
product-requires-clause-left c =
    let s = c.args.system.now.system in
    normal-over c.args.ring.now.coeffs s.p c.args.ring.now.vars (change_count s) c.in_ok-num_moved.num_moved c.requires.ring.field c.requires.ring.vars c.in_ok-num_moved.ensures.normal

pub product-requires-clause-right : goal.product-requires-clause-right
product-requires-clause-right c =
    let s = c.args.system.now.system in
    normal-over c.args.ring.now.coeffs s.p c.args.ring.now.vars (change_count s) c.in_ok-den_behind.den_behind c.requires.ring.field c.requires.ring.vars c.in_ok-den_behind.ensures.normal

pub product-requires-2-clause-left : goal.product-requires-2-clause-left
product-requires-2-clause-left c =
    let s = c.args.system.now.system in
    normal-over c.args.ring.now.coeffs s.p c.args.ring.now.vars (change_count s) c.in_ok-num_behind.num_behind c.requires.ring.field c.requires.ring.vars c.in_ok-num_behind.ensures.normal

pub product-requires-2-clause-right : goal.product-requires-2-clause-right
product-requires-2-clause-right c =
    let s = c.args.system.now.system in
    normal-over c.args.ring.now.coeffs s.p c.args.ring.now.vars (change_count s) c.in_ok-den_moved.den_moved c.requires.ring.field c.requires.ring.vars c.in_ok-den_moved.ensures.normal

pub difference-requires-clause-left : goal.difference-requires-clause-left
difference-requires-clause-left c =
    let s = c.args.system.now.system in
    normal-over c.args.ring.now.coeffs s.p c.args.ring.now.vars (change_count s) c.in_ok-first.first c.requires.ring.field c.requires.ring.vars (c.in_ok-first.ensures s (at_moved_point s c.num-num.result.now) (past (group_count s) c.den-den.result.now) c.requires.ring c.in_ok-num_moved.ensures c.in_ok-den_behind.ensures).normal

pub difference-requires-clause-right : goal.difference-requires-clause-right
difference-requires-clause-right c =
    let s = c.args.system.now.system in
    normal-over c.args.ring.now.coeffs s.p c.args.ring.now.vars (change_count s) c.in_ok-second.second c.requires.ring.field c.requires.ring.vars (c.in_ok-second.ensures s (past (group_count s) c.num-num.result.now) (at_moved_point s c.den-den.result.now) c.requires.ring c.in_ok-num_behind.ensures c.in_ok-den_moved.ensures).normal

pub returns-in_err-num_moved : goal.returns-in_err-num_moved
returns-in_err-num_moved c =
    let q = err_from_is_err_and c.from_residual.result c.from_residual.ensures.1 in
    rw (q.1, q.2) (taken-numerator c.args.system.now.system c.args.f.now c.num-num.result.now c.num-num.ensures c.in_err-num_moved.field-0.0 c.in_err-num_moved.ensures)

pub returns-in_err-den_moved : goal.returns-in_err-den_moved
returns-in_err-den_moved c =
    let q = err_from_is_err_and c.from_residual-in_err-den_moved.result c.from_residual-in_err-den_moved.ensures.1 in
    rw (q.1, q.2) (taken-denominator c.args.system.now.system c.args.f.now c.den-den.result.now c.den-den.ensures c.in_err-den_moved.field-0.0 c.in_err-den_moved.ensures)

pub returns-in_err-first : goal.returns-in_err-first
returns-in_err-first c =
    let s = c.args.system.now.system in
    let q = err_from_is_err_and c.from_residual-in_err-first.result c.from_residual-in_err-first.ensures.1 in
    rw (q.1, q.2) (first-meets s c.args.f.now c.num-num.result.now c.den-den.result.now c.num-num.ensures c.den-den.ensures c.in_err-first.field-0.0
    (c.in_err-first.ensures s (at_moved_point s c.num-num.result.now) (past (group_count s) c.den-den.result.now) c.requires.ring c.in_ok-num_moved.ensures c.in_ok-den_behind.ensures))

pub returns-in_err-second : goal.returns-in_err-second
returns-in_err-second c =
    let s = c.args.system.now.system in
    let q = err_from_is_err_and c.from_residual-in_err-second.result c.from_residual-in_err-second.ensures.1 in
    rw (q.1, q.2) (second-meets s c.args.f.now c.num-num.result.now c.den-den.result.now c.num-num.ensures c.den-den.ensures c.in_err-second.field-0.0
    (c.in_err-second.ensures s (past (group_count s) c.num-num.result.now) (at_moved_point s c.den-den.result.now) c.requires.ring c.in_ok-num_behind.ensures c.in_ok-den_moved.ensures))

pub returns : goal.returns
returns c =
    let s = c.args.system.now.system in
    let o = residue_ops s.p in
    let n = c.num-num.result.now in
    let d = c.den-den.result.now in
    change-stored s c.args.f.now n d c.in_ok-change.change c.num-num.ensures c.den-den.ensures
    (c.in_ok-change.ensures s (product o (at_moved_point s n) (past (group_count s) d)) (product o (past (group_count s) n) (at_moved_point s d)) c.requires.ring
    (c.in_ok-first.ensures s (at_moved_point s n) (past (group_count s) d) c.requires.ring c.in_ok-num_moved.ensures c.in_ok-den_behind.ensures)
    (c.in_ok-second.ensures s (past (group_count s) n) (at_moved_point s d) c.requires.ring c.in_ok-num_behind.ensures c.in_ok-den_moved.ensures))
