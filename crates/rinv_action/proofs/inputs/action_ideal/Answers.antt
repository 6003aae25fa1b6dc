use Rattle.std.proofs.Common.{◌≡◌, ◌∙◌, ◌++◌, List, ap}
use Rattle.rinv_defs.specs.System.{Poly}
use Rattle.rinv_reduction.specs.Localised.{all_count}
use Rattle.rinv_action.proofs.Generators.{ideal-joined}
use Rattle.rinv_action.proofs.inputs.action_ideal.Goals as goal

pub returns : goal.returns
returns c =
    let s = c.args.system.now.system in
    let a = c.in_ok-ideal.ideal.items in
    let b = c.in_ok-graph.graph.items in
    let d = c.in_ok-section.section.items in
    ideal-joined s (all_count s) a b d c.append-2.new.self.items (c.in_ok-append-2.ensures.items ∙ ap (λ (fs : List Poly). fs ++ d) c.in_ok-append.ensures.items) c.in_ok-ideal.ensures c.in_ok-graph.ensures c.in_ok-section.ensures
