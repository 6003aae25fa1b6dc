use Rattle.std.proofs.Common.{◌≡◌, ◌++◌, ◌*◌, ℕ, List, map, sym, subst, arith}
use Rattle.std.specs.Prelude.{flat_map}
use Rattle.std.specs.List.{range_with_len}
use Rattle.rinv_algebra.specs.Polynomial.{past}
use Rattle.rinv_defs.specs.System.{Poly}
use Rattle.rinv_parts.specs.Points.{AreStored}
use Rattle.rinv_identities.proofs.GrowingLists.{copies-behind}
use Rattle.rinv_identities.proofs.ideals.copied_ideal.Goals as goal

pub copies-init : goal.copies-init
copies-init c = rw c.new-copies.ensures.items tt

pub copies-preserved : goal.copies-preserved
copies-preserved c =
    let p = c.args.to.now.coeffs in
    let copy : ℕ → List Poly = λ j. map (past (j * c.args.from.now.vars)) c.args.fs.now in
    subst (λ (fs : List Poly). AreStored p c.args.to.now.vars fs c.add_copy.new.copies.items) (sym (copies-behind copy c.copies.j))
    (subst (λ (n : ℕ). AreStored p c.args.to.now.vars (flat_map copy (range_with_len 0 c.copies.j) ++ map (past (c.copies.j * n)) c.args.fs.now) c.add_copy.new.copies.items) c.vars.ensures
    (c.in_ok-add_copy.ensures (flat_map copy (range_with_len 0 c.copies.j)) c.copies.invariant))

pub returns : goal.returns
returns c =
    let whole : c.copies.j ≡ c.args.count = omega (arith, c.copies-test.false, c.copies.auto.j-end) in
    subst (λ (k : ℕ). AreStored c.args.to.now.coeffs c.args.to.now.vars (flat_map (λ j. map (past (j * c.args.from.now.vars)) c.args.fs.now) (range_with_len 0 k)) c.copies.copies.items) whole c.copies.invariant
