use Rattle.std.proofs.Common.{◌∙◌, ◌++◌, List, ℕ, ap}
use Rattle.rinv_answers.specs.GeneratorLines.{generator_lines}
use Rattle.rinv_answers.proofs.Lines.{generator-text}
use Rattle.rinv_answers.proofs.generator_lines.generator_text.Goals as goal

pub returns : goal.returns
returns c =
    let s = c.args.system.now.system in
    generator-text s c.args.fractions.now _ _ _
    (c.in_ok-write_generators.ensures ∙ ap (λ (r : List ℕ). r ++ generator_lines s c.args.fractions.now) c.new-out.ensures.items)
    c.complete_line.ensures c.in_ok-extend_from_slice.ensures.items
