use Rattle.std.proofs.Common.{◌∙◌, ◌++◌, List, ℕ, ap, append_assoc}
use Rattle.std.specs.Prelude.{codes, decimal}
use Rattle.rinv_answers.specs.GeneratorLines.{generator_lines}
use Rattle.rinv_queries.specs.Known.{fractions_of}
use Rattle.rinv_queries.proofs.answering.write_before.Goals as goal

pub returns-in_ok-write_generators-in-Generators : goal.returns-in_ok-write_generators-in-Generators
returns-in_ok-write_generators-in-Generators c =
    let lines = generator_lines c.args.system.now.system (fractions_of c.args.known.now) in
    rw c.in-Generators.is
    (c.in_ok-write_generators-in-Generators.ensures ∙ ap (λ (w : List ℕ). w ++ lines) c.in_ok-write_head-in-Generators.ensures
    ∙ append_assoc c.args.out.now.items ((codes "generators " ++ decimal c.args.number) ++ codes "\n") lines)
