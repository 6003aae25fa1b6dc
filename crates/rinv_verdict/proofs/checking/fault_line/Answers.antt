use Rattle.std.proofs.Common.{◌∙◌, sym, ap}
use Rattle.std.specs.Prelude.{decimal, codes}
use Rattle.rinv_defs.specs.Text.{refused_text}
use Rattle.rinv_cert.specs.Faults.{part_word}
use Rattle.rinv_lines.proofs.Lines.{append_assoc-5}
use Rattle.rinv_verdict.proofs.checking.fault_line.Goals as goal

pub returns : goal.returns
unfolding refused_text
returns c =
    ap (λ w. w.items) c.into_bytes.ensures.value ∙ c.in_ok-line.ensures.ok
    ∙ sym (append_assoc-5 (codes "refused ") (part_word c.args.fault.part) (codes " ") (decimal c.args.fault.index) (codes "\n"))
