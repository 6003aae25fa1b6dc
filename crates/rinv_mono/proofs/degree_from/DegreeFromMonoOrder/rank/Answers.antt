use Rattle.std.proofs.Common.{◌≡◌, ◌∙◌, ◌++◌, ◌∷◌, [], ℕ, List, length, drop, ap, refl}
use Rattle.rinv_algebra.specs.Monomial.{total_degree}
use Rattle.rinv_mono.proofs.RankLoops.{rank-after}
use Rattle.rinv_mono.proofs.degree_from.DegreeFromMonoOrder.rank.Goals as goal

pub returns : goal.returns
returns c =
    let from = c.args.self.now.from in
    let one : c.push.new.self.items ≡ c.degree_from.result ∷ [] = c.in_ok-push.ensures.items ∙ ap (λ (r : List ℕ). r ++ c.degree_from.result ∷ []) c.in_ok-rank.ensures.items in
    let is : c.degree_from.result ≡ total_degree (drop from c.args.a.now) = c.degree_from.ensures ∙ ap (λ (r : List ℕ). total_degree (drop from r)) c.sums-sums.ensures.value in
    rank-after c.sums-sums.result.now c.args.a.now c.push.new.self.items c.push_graded.new.out.items (length c.sums-sums.result.now) c.degree_from.result (total_degree (drop from c.args.a.now)) one is c.in_ok-push_graded.ensures c.sums-sums.ensures.value refl
