use Rattle.rinv_system.proofs.SystemWritten.{line-of}
use Rattle.rinv_system.proofs.write.polynomials_line.Goals as goal

pub returns : goal.returns
returns c p listed all = line-of c.args.out.now.items _ _ _ c.args.word.now _ c.in_ok-begin.ensures (c.in_ok-write_polynomials.ensures p listed all) c.in_ok-extend_from_slice.ensures.items
