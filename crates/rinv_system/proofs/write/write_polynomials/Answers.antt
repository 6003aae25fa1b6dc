use Rattle.std.proofs.Common.{refl, length, nat_lt}
use Rattle.rinv_algebra.specs.Residue.{residue_ops}
use Rattle.rinv_algebra.specs.Normal.{IsNormal}
use Rattle.rinv_defs.specs.Text.{poly_text}
use Rattle.rinv_system.specs.Writing.{AreOver}
use Rattle.rinv_system.proofs.WrittenLists.{seen-step, seen-all, element-of}
use Rattle.rinv_system.proofs.write.write_polynomials.Goals as goal

pub write_poly-requires : goal.write_poly-requires
write_poly-requires c = element-of (AreOver (length c.args.names.now)) c.args.polynomials.now c.polynomials.k c.index-polynomials-k.result c.polynomials-test.true c.index-polynomials-k.is c.requires

pub polynomials-preserved : goal.polynomials-preserved
polynomials-preserved c p listed all =
    seen-step (poly_text p c.args.names.now) c.args.polynomials.now c.args.out.now.items _ _ _ c.polynomials.k _ _ c.polynomials-test.true refl c.index-polynomials-k.is (c.polynomials.invariant p listed all) c.in_ok-separate.ensures
    (c.in_ok-write_poly.ensures.text p listed
    (element-of (IsNormal (residue_ops p) (λ x. nat_lt x p) (length c.args.names.now)) c.args.polynomials.now c.polynomials.k c.index-polynomials-k.result c.polynomials-test.true c.index-polynomials-k.is all))

pub returns : goal.returns
returns c p listed all = seen-all (poly_text p c.args.names.now) c.args.polynomials.now _ c.args.out.now.items c.polynomials.k c.polynomials-test.false (c.polynomials.invariant p listed all)
