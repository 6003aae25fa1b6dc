use Rattle.std.proofs.Common.{ℕ, List, ap, subst}
use Rattle.rinv_text.specs.Told.{Told}
use Rattle.rinv_text.specs.Printed.{AppendsPolynomial}
use Rattle.rinv_text.proofs.SystemParts.{parts-of}
use Rattle.rinv_answers.proofs.Lines.{missed-line}
use Rattle.rinv_answers.proofs.generator_lines.missed_line.Goals as goal

pub returns : goal.returns
returns c =
    let s = c.args.system.now.system in
    missed-line s c.args.element.now c.in_ok-line.line.items c.write_poly.new.out.items c.extend_from_slice.new.self.items c.in_ok-line.ensures.items
    (subst (λ (names : List (List ℕ)). AppendsPolynomial names c.args.element.now c.in_ok-line.line.items c.write_poly.new.out.items) (ap (λ (t : Told). t.system.space) c.system.view_is) c.in_ok-write_poly.ensures.text s.p (parts-of s c.requires.system).listed c.requires.element)
    c.in_ok-extend_from_slice.ensures.items
