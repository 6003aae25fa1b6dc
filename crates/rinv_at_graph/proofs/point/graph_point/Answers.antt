use Rattle.std.proofs.Common.{◌+◌, ◌++◌, List, [], map, take, subst, append-nil}
use Rattle.std.specs.List.{range_with_len}
use Rattle.std.proofs.lemmas.List.{take_all}
use Rattle.rinv_algebra.specs.Residue.{residue_ops}
use Rattle.rinv_algebra.specs.Polynomial.{variable}
use Rattle.rinv_sub.proofs.Sums.{take-at}
use Rattle.rinv_defs.specs.System.{Poly}
use Rattle.rinv_parts.specs.Points.{AreStored}
use Rattle.rinv_identities.proofs.GrowingLists.{stored-behind, copy-stored}
use Rattle.rinv_at_graph.proofs.point.graph_point.Goals as goal

pub action-init : goal.action-init
action-init c =
    let p = c.args.whole.now.coeffs in
    rw (append-nil (map (variable (residue_ops p)) (range_with_len 0 c.args.group))) (c.in_ok-add_variables.ensures [] (rw c.new-point.ensures.items tt))

pub action-preserved : goal.action-preserved
action-preserved c =
    let p = c.args.whole.now.coeffs in
    let v = c.args.whole.now.vars in
    let gs = c.args.action.now in
    let f = c.index-action-k.result in
    let k = c.action.k in
    rw c.in_ok-push.ensures.items (stored-behind p v (map (variable (residue_ops p)) (range_with_len 0 c.args.group)) (take k gs) (take (k + 1) gs) c.action.point.items f c.in_ok-coordinate.coordinate
    (take-at gs k f c.action-test.true c.index-action-k.is) c.action.invariant (copy-stored p v gs k f c.in_ok-coordinate.coordinate c.action-test.true c.index-action-k.is c.requires.action c.in_ok-coordinate.ensures))

pub returns : goal.returns
returns c =
    let p = c.args.whole.now.coeffs in
    let xs : List Poly = map (variable (residue_ops p)) (range_with_len 0 c.args.group) in
    c.in_ok-add_variables-2.ensures (xs ++ c.args.action.now) (subst (λ (fs : List Poly). AreStored p c.args.whole.now.vars (xs ++ fs) c.action.point.items) (take_all c.action.k c.args.action.now c.action-test.false) c.action.invariant)
