use Rattle.std.proofs.Common.{◌≡◌, ◌++◌, ℕ, map, subst, append-nil, arith}
use Rattle.std.specs.List.{range_with_len}
use Rattle.rinv_algebra.specs.Residue.{residue_ops}
use Rattle.rinv_algebra.specs.Polynomial.{variable}
use Rattle.rinv_parts.specs.Points.{AreStored}
use Rattle.rinv_identities.proofs.GrowingLists.{range-behind}
use Rattle.rinv_at_graph.proofs.point.add_variables.Goals as goal

pub places-init : goal.places-init
places-init c xs h = rw (append-nil xs) h

pub places-preserved : goal.places-preserved
places-preserved c xs h =
    let p = c.args.ring.now.coeffs in
    rw c.in_ok-push.ensures.items (range-behind p c.args.ring.now.vars (variable (residue_ops p)) xs c.args.place c.places.k c.places.point.items c.in_ok-coordinate.coordinate (c.places.invariant xs h)
    (record { normal = c.in_ok-coordinate.ensures.normal; value = c.in_ok-coordinate.ensures.value }))

pub returns : goal.returns
returns c xs h =
    let p = c.args.ring.now.coeffs in
    let whole : c.places.k ≡ c.args.count = omega (arith, c.places-test.false, c.places.auto.k-end) in
    subst (λ (k : ℕ). AreStored p c.args.ring.now.vars (xs ++ map (variable (residue_ops p)) (range_with_len c.args.place k)) c.places.point.items) whole (c.places.invariant xs h)
