use Rattle.std.proofs.Common.{length}
use Rattle.rinv_text.proofs.Lengths.{lengths-from_normal}
use Rattle.rinv_text_tests.proofs.polynomials.polynomial.Goals as goal

pub returns : goal.returns
returns c = lengths-from_normal c.in-Ok.field (length c.args.names.now) c.in_ok-f.f c.in_ok-f.ensures.normal
