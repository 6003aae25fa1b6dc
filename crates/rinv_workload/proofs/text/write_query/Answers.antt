use Rattle.std.proofs.Common.{true, false, ◌∙◌, ap, String, ℕ, ◌==◌}
use Rattle.std.specs.Prelude.{string_bytes}
use Rattle.std.specs.declared.alloc.Global.{Global}
use Rattle.rinv_workload.proofs.Texts.{appended, no-third}
use Rattle.rinv_workload.proofs.text.write_query.Goals as goal
use Rattle.rinv_workload.proofs.text.write_query.Goals.{then-i-eq0+in_ok-line, else-i-eq0+in_ok-line-2}

pub returns : goal.returns
returns c = elim c.if-i-eq0.branch [
  | then-i-eq0+in_ok-line w ↦ appended c.args.k c.args.i c.args.out.now.items _ _ true (ap (λ (n : ℕ). n == 0) w.if-i-eq0.true)
      (c.as_bytes.ensures.value ∙ ap (λ (s : String Global). string_bytes s) w.line-is ∙ w.in_ok-line.ensures.ok) c.in_ok-extend_from_slice.ensures.items
  | else-i-eq0+in_ok-line-2 w ↦ appended c.args.k c.args.i c.args.out.now.items _ _ false (no-third c.args.i w.if-i-eq0.false)
      (c.as_bytes.ensures.value ∙ ap (λ (s : String Global). string_bytes s) w.line-is ∙ w.in_ok-line-2.ensures.ok) c.in_ok-extend_from_slice.ensures.items
]
