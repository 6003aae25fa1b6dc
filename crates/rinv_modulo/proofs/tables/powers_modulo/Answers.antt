use Rattle.std.proofs.Common.{arith, length-append, refl, [], ◌∷◌}
use Rattle.rinv_algebra.specs.Residue.{residue_ops}
use Rattle.rinv_algebra.specs.Polynomial.{poly_ops}
use Rattle.rinv_modulo.proofs.Powers.{times-none, times-next, powers-push}
use Rattle.rinv_modulo.proofs.tables.powers_modulo.Goals as goal

pub powers-init : goal.powers-init
powers-init c =
    let p = c.args.ring.now.coeffs in
    rw c.new-powers.ensures.items (record {
      many = refl;
      before = λ k d b. absurd (omega (arith, b));
      here = times-none p c.args.ring.now.vars c.args.basis.now (poly_ops (residue_ops p)).one c.args.f.now c.in_ok-power.power 0 refl c.in_ok-power.ensures.element c.in_ok-power.ensures.value;
    })

pub powers-preserved : goal.powers-preserved
powers-preserved c =
    let p = c.args.ring.now.coeffs in
    let v = c.args.ring.now.vars in
    let hs = c.args.basis.now in
    let f = c.args.f.now in
    let h = c.powers.invariant in
    rw c.in_ok-push.ensures.items (record {
      many = omega (arith, length-append c.powers.powers.items (c.powers.power ∷ []), h.many);
      before = powers-push p v hs f c.powers.power c.powers.powers.items c.powers.k h.many h.before h.here;
      here = times-next p v hs (poly_ops (residue_ops p)).one f c.powers.power c.in_ok-next.next c.powers.k h.here c.in_ok-next.ensures;
    })

pub returns : goal.returns
returns c =
    let h = c.powers.invariant in
    rw c.in_ok-push-2.ensures.items (powers-push c.args.ring.now.coeffs c.args.ring.now.vars c.args.basis.now c.args.f.now c.powers.power c.powers.powers.items c.powers.k h.many h.before h.here)
