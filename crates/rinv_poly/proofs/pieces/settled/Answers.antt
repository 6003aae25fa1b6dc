use Rattle.std.proofs.Common.{◌++◌}
use Rattle.rinv_poly.proofs.Gather.{same-refl}
use Rattle.rinv_poly.proofs.pieces.settled.Goals as goal

pub returns-then-len-lt-PIECE-clause-value : goal.returns-then-len-lt-PIECE-clause-value
returns-then-len-lt-PIECE-clause-value g c = same-refl (g.R.Ring.ops c.args.coeffs.now) (g.R.Ring.laws c.args.coeffs.now) (c.args.sum.items ++ c.args.piece.items)
