use Rattle.std.proofs.Common.{◌≡◌, ◌∙◌, ◌-◌, ℕ, length, take, drop, sym, ap}
use Rattle.rinv_algebra.specs.Monomial.{total_degree}
use Rattle.rinv_algebra.specs.BlockEnds.{sizes_from}
use Rattle.rinv_mono.proofs.Degrees.{past-part}
use Rattle.rinv_mono.proofs.PartialSums.{length-sizes}
use Rattle.rinv_mono.proofs.degree_from.degree_from.Goals as goal

pub returns : goal.returns
returns c =
    let exponents = sizes_from 0 c.args.sums.now in
    let count = length c.args.sums.now in
    c.degree_between.ensures ∙ ap (λ (s : ℕ). total_degree (take (count - s) (drop s exponents))) c.min-start.ensures
    ∙ ap total_degree (past-part exponents c.args.from count (sym (length-sizes 0 c.args.sums.now)))
