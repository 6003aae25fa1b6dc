use Rattle.rinv_algebra.specs.Residue.{residue_ops}
use Rattle.rinv_algebra.specs.Polynomial.{product}
use Rattle.rinv_algebra.proofs.PolynomialLaws.{poly_laws}
use Rattle.rinv_algebra.proofs.ResidueLaws.{residue_laws}
use Rattle.rinv_modulo.proofs.Powers.{stands-same}
use Rattle.rinv_modulo.proofs.reducing.product_modulo.Goals as goal

pub returns : goal.returns
returns c =
    let o = residue_ops c.args.ring.now.coeffs in
    let exact = product o c.args.f.now c.args.g.now in
    stands-same c.args.ring.now.coeffs c.args.ring.now.vars c.args.basis.now exact c.in_ok-product.product c.in_ok-rest.rest
    ((poly_laws o (residue_laws c.args.ring.now.coeffs)).same_sym c.in_ok-product.product exact c.in_ok-product.ensures.value) c.in_ok-rest.ensures
