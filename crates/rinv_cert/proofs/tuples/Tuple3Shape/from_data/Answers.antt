use Rattle.std.proofs.Common.{◌∙◌, ap, length}
use Rattle.rinv_cert.proofs.Lists.{triple-short}
use Rattle.rinv_cert.proofs.tuples.Tuple3Shape.from_data.Goals as goal

pub returns-then-values-ne3 : goal.returns-then-values-ne3
returns-then-values-ne3 g c = triple-short g.A.Shape.shape g.B.Shape.shape g.C.Shape.shape _ _ c.in-Some.ensures (λ e. c.if-values-ne3.true (ap length c.deref-values.ensures.value ∙ e))
