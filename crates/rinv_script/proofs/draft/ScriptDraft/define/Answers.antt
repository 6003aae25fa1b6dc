use Rattle.std.proofs.Common.{bytes_eq, map, ap, ◌∙◌}
use Rattle.std.specs.List.{list_any}
use Rattle.rinv_script.specs.Scripts.{ScriptDraft}
use Rattle.rinv_script.proofs.KeptFacts.{new-absent, absent-defs}
use Rattle.rinv_script.proofs.draft.ScriptDraft.define.Goals as goal

pub add_both-requires-clause-defs : goal.add_both-requires-clause-defs
add_both-requires-clause-defs c = absent-defs c.args.name.now c.self.inside.defs
    (ap (λ (d : ScriptDraft). list_any (bytes_eq c.args.name.now) (map (λ a. a.name) d.defs)) c.self.view_is ∙ (new-absent c.args.self.now c.args.name.now c.requires.new).1)
