use Rattle.std.proofs.Common.{arith}
use Rattle.rinv_cert.specs.Seen.{plain}
use Rattle.rinv_certificates.proofs.PrintedTexts.{certified, too-long}
use Rattle.rinv_certificates.proofs.text.certificate_answer.Goals as goal

pub returns-then-len-gt-MAX_TEXT : goal.returns-then-len-gt-MAX_TEXT
returns-then-len-gt-MAX_TEXT c =
    too-long c.args.gens.now (plain c.in-Ok.certificate) c.in_ok-text-in-Ok.text.items c.in_ok-line-in-Ok.line.items c.requires c.in-Ok.ensures.made
    c.in_ok-text-in-Ok.ensures.text (omega (arith, c.len.ensures, c.if-len-gt-MAX_TEXT.true)) c.in_ok-line-in-Ok.ensures

pub returns-else-len-gt-MAX_TEXT : goal.returns-else-len-gt-MAX_TEXT
returns-else-len-gt-MAX_TEXT c =
    certified c.args.gens.now (plain c.in-Ok.certificate) c.in_ok-text-in-Ok.text.items c.requires c.in-Ok.ensures.made c.in-Ok.ensures.accepted c.in-Ok.ensures.writable
    c.in_ok-text-in-Ok.ensures.text (c.in_ok-text-in-Ok.ensures.denoted c.in-Ok.ensures.writable) (omega (arith, c.len.ensures, c.if-len-gt-MAX_TEXT.false))
