use Rattle.std.proofs.Common.{◌+◌, Bool, ◌||◌, ap₂, ◌∙◌}
use Rattle.rinv_algebra.specs.Residue.{residue_ops}
use Rattle.rinv_algebra.specs.Polynomial.{product}
use Rattle.rinv_text.specs.Formal.{formal_sum}
use Rattle.rinv_text.specs.Meanings.{sum_meaning}
use Rattle.rinv_text.proofs.Crossings.{num-low, den-low, left-low, right-low}
use Rattle.rinv_text.proofs.Piles.{along, within-some}
use Rattle.rinv_text.proofs.parts.Parts.sum.Goals as goal

pub crossed-requires : goal.crossed-requires
crossed-requires c =
    let (a, b, z, sa, sb, e) = c.requires in
    let (low, same) = within-some (sum_meaning c.args.ring.now.coeffs a b) z e in
    record {
      left = a.numbers.num_degree;
      right = b.numbers.den_degree;
      f = a.value.0;
      g = b.value.1;
      stands = sa.num;
      over = sb.den;
      low = left-low (a.numbers.num_degree + b.numbers.den_degree) (b.numbers.num_degree + a.numbers.den_degree) (num-low (formal_sum a.numbers b.numbers) low);
    }

pub crossed-requires-2 : goal.crossed-requires-2
crossed-requires-2 c =
    let (a, b, z, sa, sb, e) = c.requires in
    let (low, same) = within-some (sum_meaning c.args.ring.now.coeffs a b) z e in
    record {
      left = b.numbers.num_degree;
      right = a.numbers.den_degree;
      f = b.value.0;
      g = a.value.1;
      stands = sb.num;
      over = sa.den;
      low = right-low (a.numbers.num_degree + b.numbers.den_degree) (b.numbers.num_degree + a.numbers.den_degree) (num-low (formal_sum a.numbers b.numbers) low);
    }

pub sum-requires-clause-left : goal.sum-requires-clause-left
sum-requires-clause-left c =
    let (a, b, z, sa, sb, e) = c.requires in
    let s = c.in_ok-left.ensures a.numbers.num_degree b.numbers.den_degree a.value.0 b.value.1 sa.num sb.den in
    (s.scalar, s.normal)

pub sum-requires-clause-right : goal.sum-requires-clause-right
sum-requires-clause-right c =
    let (a, b, z, sa, sb, e) = c.requires in
    let s = c.in_ok-right.ensures b.numbers.num_degree a.numbers.den_degree b.value.0 a.value.1 sb.num sa.den in
    (s.scalar, s.normal)

pub joined-requires : goal.joined-requires
joined-requires c =
    let (a, b, z, sa, sb, e) = c.requires in
    let (low, same) = within-some (sum_meaning c.args.ring.now.coeffs a b) z e in
    record { left = a.numbers.den_degree; right = b.numbers.den_degree; f = a.value.1; g = b.value.1; first = sa.den; second = sb.den; low = den-low (formal_sum a.numbers b.numbers) low }

pub returns : goal.returns
returns c = λ a b z sa sb e.
    let (low, same) = within-some (sum_meaning c.args.ring.now.coeffs a b) z e in
    along c.args.ring.now.coeffs c.args.ring.now.vars _ (sum_meaning c.args.ring.now.coeffs a b) z same
    (record {
      num = c.in_ok-num.ensures (a.numbers.num_degree + b.numbers.den_degree) (b.numbers.num_degree + a.numbers.den_degree) (product (residue_ops c.args.ring.now.coeffs) a.value.0 b.value.1) (product (residue_ops c.args.ring.now.coeffs) b.value.0 a.value.1)
          (c.in_ok-left.ensures a.numbers.num_degree b.numbers.den_degree a.value.0 b.value.1 sa.num sb.den)
          (c.in_ok-right.ensures b.numbers.num_degree a.numbers.den_degree b.value.0 a.value.1 sb.num sa.den);
      den = c.in_ok-den.ensures a.numbers.den_degree b.numbers.den_degree a.value.1 b.value.1 sa.den sb.den;
      by_zero = c.either-by_zero.ensures ∙ ap₂ (λ (x y : Bool). x || y) sa.by_zero sb.by_zero;
    })
