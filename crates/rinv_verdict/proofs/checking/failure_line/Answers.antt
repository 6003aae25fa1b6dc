use Rattle.std.proofs.Common.{◌∙◌, sym, ap}
use Rattle.std.specs.Prelude.{decimal, codes}
use Rattle.rinv_defs.specs.Text.{no_text}
use Rattle.rinv_lines.proofs.Lines.{append_assoc-5}
use Rattle.rinv_verdict.proofs.checking.failure_line.Goals as goal

pub returns : goal.returns
unfolding no_text
returns c =
    ap (λ w. w.items) c.into_bytes.ensures.value ∙ c.in_ok-line.ensures.ok
    ∙ sym (append_assoc-5 (codes "no C") (decimal c.args.condition) (codes " ") (decimal c.args.index) (codes "\n"))
