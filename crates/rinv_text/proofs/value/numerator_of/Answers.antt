use Rattle.rinv_text.proofs.value.numerator_of.Goals as goal

pub settled-requires : goal.settled-requires
settled-requires c =
    let (g, e) = c.requires.may in
    let s = (c.in_ok-parts.ensures g e).num in
    rw c.base.ensures (s.scalar, s.normal)

pub returns : goal.returns
returns c = λ g e. (rw c.base.ensures at c.in_ok-numerator.ensures) g.numbers.num_degree g.value.0 (c.in_ok-parts.ensures g e).num
