use Rattle.std.proofs.Common.{◌≡◌, ℕ, map, arith, subst}
use Rattle.std.specs.List.{range_with_len}
use Rattle.rinv_algebra.specs.Residue.{residue_ops}
use Rattle.rinv_algebra.specs.Polynomial.{variable}
use Rattle.rinv_parts.specs.Points.{AreStored}
use Rattle.rinv_parts.proofs.Stored.{stored-range}
use Rattle.rinv_parts.proofs.coordinates.variables.Goals as goal

pub places-init : goal.places-init
places-init c = rw c.new-point.ensures.items tt

pub places-preserved : goal.places-preserved
places-preserved c =
    let p = c.args.ring.now.coeffs in
    rw c.in_ok-push.ensures.items (stored-range p c.args.ring.now.vars (variable (residue_ops p)) c.args.place c.places.k c.places.point.items c.in_ok-coordinate.coordinate c.places.invariant
    (record { normal = c.in_ok-coordinate.ensures.normal; value = c.in_ok-coordinate.ensures.value }))

pub returns : goal.returns
returns c =
    let p = c.args.ring.now.coeffs in
    let whole : c.places.k ≡ c.args.count = omega (arith, c.places-test.false, c.places.auto.k-end) in
    subst (λ (k : ℕ). AreStored p c.args.ring.now.vars (map (variable (residue_ops p)) (range_with_len c.args.place k)) c.places.point.items) whole c.places.invariant
