use Rattle.std.proofs.Common.{◌≡◌, ◌∙◌, ◌∷◌, ◌++◌, [], ◌+◌, ℕ, List, arith, subst, sym, ap}
use Rattle.std.specs.List.{range_with_len}
use Rattle.rinv_parts.proofs.Names.{range-split}
use Rattle.rinv_parts.proofs.coordinates.numbers_from.Goals as goal

pub numbers-preserved : goal.numbers-preserved
numbers-preserved c =
    let k = c.numbers.k in
    c.in_ok-push.ensures.items ∙ ap (λ (ns : List ℕ). ns ++ (c.args.start + k) ∷ []) c.numbers.invariant ∙ sym (range-split c.args.start k 1)

pub returns : goal.returns
returns c =
    let whole : c.numbers.k ≡ c.args.count = omega (arith, c.numbers-test.false, c.numbers.auto.k-end) in
    subst (λ (k : ℕ). c.numbers.numbers.items ≡ range_with_len c.args.start k) whole c.numbers.invariant
