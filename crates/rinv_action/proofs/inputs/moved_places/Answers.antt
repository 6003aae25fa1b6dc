use Rattle.std.proofs.Common.{◌≡◌, ◌∙◌, ◌∷◌, ◌++◌, [], ◌+◌, ℕ, List, append-nil, append_assoc, arith, sym, ap}
use Rattle.std.specs.List.{range_with_len}
use Rattle.rinv_parts.proofs.Names.{range-split}
use Rattle.rinv_action.proofs.inputs.moved_places.Goals as goal

pub first-preserved : goal.first-preserved
first-preserved c =
    let k = c.first.k in
    let e : 0 + k ≡ k = omega arith in
    c.in_ok-push.ensures.items ∙ ap (λ (ns : List ℕ). ns ++ k ∷ []) c.first.invariant ∙ ap (λ (j : ℕ). range_with_len 0 k ++ range_with_len j 1) (sym e) ∙ sym (range-split 0 k 1)

pub second-init : goal.second-init
second-init c =
    let whole : c.first.k ≡ c.args.group = omega (arith, c.first-test.false, c.first.auto.k-end) in
    c.first.invariant ∙ ap (range_with_len 0) whole ∙ sym (append-nil (range_with_len 0 c.args.group))

pub second-preserved : goal.second-preserved
second-preserved c =
    let k = c.second.k in
    let start = c.args.group + c.args.space in
    c.in_ok-push-2.ensures.items ∙ ap (λ (ns : List ℕ). ns ++ (start + k) ∷ []) c.second.invariant
    ∙ append_assoc (range_with_len 0 c.args.group) (range_with_len start k) ((start + k) ∷ []) ∙ ap (λ (ns : List ℕ). range_with_len 0 c.args.group ++ ns) (sym (range-split start k 1))

pub returns : goal.returns
returns c =
    let whole : c.second.k ≡ c.args.space = omega (arith, c.second-test.false, c.second.auto.k-end) in
    c.second.invariant ∙ ap (λ (n : ℕ). range_with_len 0 c.args.group ++ range_with_len (c.args.group + c.args.space) n) whole
