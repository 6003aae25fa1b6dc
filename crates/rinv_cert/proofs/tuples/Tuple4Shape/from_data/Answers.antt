use Rattle.std.proofs.Common.{◌∙◌, ap, length}
use Rattle.rinv_cert.proofs.Lists.{quadruple-short}
use Rattle.rinv_cert.proofs.tuples.Tuple4Shape.from_data.Goals as goal

pub returns-then-values-ne4 : goal.returns-then-values-ne4
returns-then-values-ne4 g c = quadruple-short g.A.Shape.shape g.B.Shape.shape g.C.Shape.shape g.D.Shape.shape _ _ c.in-Some.ensures (λ e. c.if-values-ne4.true (ap length c.deref-values.ensures.value ∙ e))
