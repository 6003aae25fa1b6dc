use Rattle.std.proofs.Common.{Bool, ◌||◌, ap₂, ◌∙◌}
use Rattle.rinv_algebra.specs.Residue.{residue_ops}
use Rattle.rinv_algebra.proofs.ResidueLaws.{residue_laws}
use Rattle.rinv_algebra.proofs.Degrees.{is_zero-same}
use Rattle.rinv_text.specs.Formal.{formal_product, turned}
use Rattle.rinv_text.specs.Meanings.{quotient_meaning}
use Rattle.rinv_text.proofs.Crossings.{num-low, den-low}
use Rattle.rinv_text.proofs.Piles.{along, within-some}
use Rattle.rinv_text.proofs.parts.Parts.quotient.Goals as goal

pub crossed-requires : goal.crossed-requires
crossed-requires c =
    let (a, b, z, sa, sb, e) = c.requires in
    let (low, same) = within-some (quotient_meaning c.args.ring.now.coeffs a b) z e in
    record { left = a.numbers.num_degree; right = b.numbers.den_degree; f = a.value.0; g = b.value.1; stands = sa.num; over = sb.den; low = num-low (formal_product a.numbers (turned b.numbers)) low }

pub is_zero-is_zero-requires : goal.is_zero-is_zero-requires
is_zero-is_zero-requires c =
    let (a, b, z, sa, sb, e) = c.requires in
    (c.in_ok-divisor.ensures b.numbers.num_degree b.value.0 sb.num).normal

pub joined-requires : goal.joined-requires
joined-requires c =
    let (a, b, z, sa, sb, e) = c.requires in
    let (low, same) = within-some (quotient_meaning c.args.ring.now.coeffs a b) z e in
    record { left = a.numbers.den_degree; right = b.numbers.num_degree; f = a.value.1; g = b.value.0; first = sa.den; second = c.in_ok-divisor.ensures b.numbers.num_degree b.value.0 sb.num; low = den-low (formal_product a.numbers (turned b.numbers)) low }

pub returns : goal.returns
returns c = λ a b z sa sb e.
    let (low, same) = within-some (quotient_meaning c.args.ring.now.coeffs a b) z e in
    let divisor = c.in_ok-divisor.ensures b.numbers.num_degree b.value.0 sb.num in
    along c.args.ring.now.coeffs c.args.ring.now.vars _ (quotient_meaning c.args.ring.now.coeffs a b) z same
    (record {
      num = c.in_ok-num.ensures a.numbers.num_degree b.numbers.den_degree a.value.0 b.value.1 sa.num sb.den;
      den = c.in_ok-den.ensures a.numbers.den_degree b.numbers.num_degree a.value.1 b.value.0 sa.den divisor;
      by_zero = c.either-by_zero.ensures ∙ ap₂ (λ (x y : Bool). x || y) (c.either-any.ensures ∙ ap₂ (λ (x y : Bool). x || y) sa.by_zero sb.by_zero) (c.is_zero-is_zero.ensures ∙ is_zero-same (residue_ops c.args.ring.now.coeffs) (residue_laws c.args.ring.now.coeffs) _ b.value.0 divisor.value);
    })
