use Rattle.std.proofs.Common.{◌≡◌, ◌+◌, ◌∙◌, ℕ, arith, subst}
use Rattle.rinv_workload.proofs.Texts.{so_far, begins, more, all}
use Rattle.rinv_workload.proofs.text.bench_text.Goals as goal

pub queries-init : goal.queries-init
queries-init c = c.in_ok-text.ensures.items ∙ c.as_bytes.ensures.value ∙ begins c.args.k

pub queries-preserved : goal.queries-preserved
queries-preserved c = more c.args.k c.queries.i _ _ _ (let e : 1 + c.queries.i ≡ c.queries.i + 1 = omega arith in e) c.queries.invariant c.in_ok-write_query.ensures

pub returns : goal.returns
returns c =
    let e : c.queries.i ≡ c.args.k = omega (arith, c.queries-test.false, c.queries.auto.i-end) in
    all c.args.k _ (subst (λ (n : ℕ). c.queries.text.items ≡ so_far c.args.k n) e c.queries.invariant)
