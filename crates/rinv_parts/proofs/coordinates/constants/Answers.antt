use Rattle.std.proofs.Common.{◌≡◌, ℕ, List, map, get_or, subst}
use Rattle.std.proofs.lemmas.List.{take_all, get_or_default}
use Rattle.rinv_algebra.specs.Residue.{residue_ops}
use Rattle.rinv_algebra.specs.Polynomial.{constant}
use Rattle.rinv_parts.specs.Points.{AreStored}
use Rattle.rinv_parts.proofs.Names.{below-at}
use Rattle.rinv_parts.proofs.Stored.{stored-more}
use Rattle.rinv_parts.proofs.coordinates.constants.Goals as goal

pub numbers-init : goal.numbers-init
numbers-init c = rw c.new-point.ensures.items tt

pub constant-requires : goal.constant-requires
constant-requires c = below-at c.args.ring.now.coeffs c.args.numbers.now c.numbers.k c.numbers-test.true c.requires

pub numbers-preserved : goal.numbers-preserved
numbers-preserved c =
    let p = c.args.ring.now.coeffs in
    let n = get_or c.args.numbers.now c.numbers.k 0 in
    rw c.in_ok-push.ensures.items (stored-more p c.args.ring.now.vars (constant (residue_ops p)) c.args.numbers.now c.numbers.k n c.numbers.point.items c.in_ok-coordinate.coordinate c.numbers-test.true
    (get_or_default c.args.numbers.now c.numbers.k 0 n c.numbers-test.true) c.numbers.invariant (record { normal = c.in_ok-coordinate.ensures.element; value = c.in_ok-coordinate.ensures.value }))

pub returns : goal.returns
returns c =
    let p = c.args.ring.now.coeffs in
    subst (λ (ns : List ℕ). AreStored p c.args.ring.now.vars (map (constant (residue_ops p)) ns) c.numbers.point.items) (take_all c.numbers.k c.args.numbers.now c.numbers-test.false) c.numbers.invariant
