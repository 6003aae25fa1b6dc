use Rattle.std.proofs.Common.{string_bytes, bytes_eq, ap, ◌∙◌}
use Rattle.std.specs.List.{list_any}
use Rattle.rinv_text.specs.Reading.{Definition}
use Rattle.rinv_text.proofs.Definitions.{one-more}
use Rattle.rinv_text.proofs.defs.Defs.add.Goals as goal

pub invariant_of-self-2 : goal.invariant_of-self-2
invariant_of-self-2 c =
    one-more c.self.inside.list.items _ _ c.in_ok-push.ensures.items c.self.invariant (ap (list_any (λ (d : Definition). bytes_eq (string_bytes c.args.name) d.name)) c.self.view_is ∙ c.requires.new)
    (record { numerator = c.requires.numerator; denominator = c.requires.denominator })
