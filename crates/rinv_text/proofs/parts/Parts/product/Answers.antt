use Rattle.std.proofs.Common.{Bool, ◌||◌, ap₂, ◌∙◌}
use Rattle.rinv_text.specs.Formal.{formal_product}
use Rattle.rinv_text.specs.Meanings.{product_meaning}
use Rattle.rinv_text.proofs.Crossings.{num-low, den-low}
use Rattle.rinv_text.proofs.Piles.{along, within-some}
use Rattle.rinv_text.proofs.parts.Parts.product.Goals as goal

pub product-requires-clause-fits : goal.product-requires-clause-fits
product-requires-clause-fits c =
    let (a, b, z, sa, sb, e) = c.requires in
    let (low, same) = within-some (product_meaning c.args.ring.now.coeffs a b) z e in
    (a.numbers.num_degree, b.numbers.num_degree, sa.num.low, sb.num.low, num-low (formal_product a.numbers b.numbers) low)

pub joined-requires : goal.joined-requires
joined-requires c =
    let (a, b, z, sa, sb, e) = c.requires in
    let (low, same) = within-some (product_meaning c.args.ring.now.coeffs a b) z e in
    record { left = a.numbers.den_degree; right = b.numbers.den_degree; f = a.value.1; g = b.value.1; first = sa.den; second = sb.den; low = den-low (formal_product a.numbers b.numbers) low }

pub returns : goal.returns
returns c = λ a b z sa sb e.
    let (low, same) = within-some (product_meaning c.args.ring.now.coeffs a b) z e in
    along c.args.ring.now.coeffs c.args.ring.now.vars _ (product_meaning c.args.ring.now.coeffs a b) z same
    (record {
      num = c.in_ok-num.ensures a.numbers.num_degree b.numbers.num_degree a.value.0 b.value.0 sa.num sb.num;
      den = c.in_ok-den.ensures a.numbers.den_degree b.numbers.den_degree a.value.1 b.value.1 sa.den sb.den;
      by_zero = c.either-by_zero.ensures ∙ ap₂ (λ (x y : Bool). x || y) sa.by_zero sb.by_zero;
    })
