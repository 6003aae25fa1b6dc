use Rattle.std.proofs.Common.{◌+◌, take, ◌∙◌, ◌++◌, List, ℕ, ap, sym, arith, append-nil, take_all}
use Rattle.rinv_defs.specs.Invariant.{Fraction}
use Rattle.rinv_defs.specs.Text.{fraction_lines}
use Rattle.rinv_text.proofs.Joined.{append-step}
use Rattle.rinv_lines.specs.Pieces.{fraction_line}
use Rattle.rinv_lines.proofs.Lines.{fraction_lines-nil, fraction_lines-take_more}
use Rattle.rinv_answers.proofs.generator_lines.write_generators.Goals as goal

pub lines-init : goal.lines-init
lines-init c = sym (ap (λ (r : List ℕ). c.args.out.now.items ++ r) (fraction_lines-nil c.args.system.now.system.p c.args.system.now.system.space 1) ∙ append-nil c.args.out.now.items)

pub lines-preserved : goal.lines-preserved
lines-preserved c =
    let s = c.args.system.now.system in
    append-step _ _ _ _ _ _ c.lines.invariant c.in_ok-write_line.ensures
    (fraction_lines-take_more s.p s.space c.args.fractions.now c.lines.k c.index-fractions-k.result (omega arith)
    ∙ ap (λ (f : Fraction). fraction_lines s.p s.space 1 (take c.lines.k c.args.fractions.now) ++ fraction_line s.p s.space (c.lines.k + 1) f) (sym c.index-fractions-k.is))

pub returns : goal.returns
returns c =
    let s = c.args.system.now.system in
    c.lines.invariant ∙ ap (λ (fs : List Fraction). c.args.out.now.items ++ fraction_lines s.p s.space 1 fs) (take_all c.lines.k c.args.fractions.now (omega (arith, c.lines-test.false)))
