use Rattle.rinv_text.specs.Formal.{formal_power}
use Rattle.rinv_text.specs.Meanings.{power_meaning}
use Rattle.rinv_text.proofs.Crossings.{den-low}
use Rattle.rinv_text.proofs.Piles.{along, within-some}
use Rattle.rinv_text.proofs.parts.Parts.power.Goals as goal

pub den_power-requires : goal.den_power-requires
den_power-requires c =
    let (a, z, s, e) = c.requires in
    let (low, same) = within-some (power_meaning c.args.ring.now.coeffs a c.args.exponent) z e in
    (a.numbers.den_degree, a.value.1, s.den, den-low (formal_power a.numbers c.args.exponent) low)

pub returns : goal.returns
returns c = λ a z s e.
    let (low, same) = within-some (power_meaning c.args.ring.now.coeffs a c.args.exponent) z e in
    along c.args.ring.now.coeffs c.args.ring.now.vars _ (power_meaning c.args.ring.now.coeffs a c.args.exponent) z same
    (record { num = c.in_ok-num.ensures a.numbers.num_degree a.value.0 s.num; den = c.in_ok-den.ensures a.numbers.den_degree a.value.1 s.den; by_zero = s.by_zero })
