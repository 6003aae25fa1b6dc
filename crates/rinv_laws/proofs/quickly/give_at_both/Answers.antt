use Rattle.rinv_laws.proofs.LawsModulo.{both-parts}
use Rattle.rinv_laws.proofs.quickly.give_at_both.Goals as goal

pub returns : goal.returns
returns c = λ e.
    both-parts c.args.ring.now.coeffs c.args.ring.now.vars c.args.basis.now.polys.items c.args.fs.now c.args.first.now c.args.second.now c.args.wanted.now (c.in_ok-left.ensures c.if-not-left.false) (c.in_ok-right.ensures e)
