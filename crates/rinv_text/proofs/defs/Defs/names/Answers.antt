use Rattle.std.proofs.Common.{map, ap, ◌∙◌}
use Rattle.rinv_text.specs.Reading.{Definition}
use Rattle.rinv_text.proofs.defs.Defs.names.Goals as goal

pub returns : goal.returns
returns c = c.in_ok-names.ensures ∙ ap (map (λ (d : Definition). d.name)) c.list.ensures.value
