use Rattle.rinv_text.proofs.parts.Parts.negative.Goals as goal

pub returns : goal.returns
returns c = λ a s. record { num = c.negative-num.ensures a.numbers.num_degree a.value.0 s.num; den = s.den; by_zero = s.by_zero }
