use Rattle.std.proofs.Common.{◌≡◌, take, map}
use Rattle.rinv_text.specs.Reading.{Definition}
use Rattle.rinv_text.proofs.defs.names_of.Given as goal

abbrev pub invariant-names : goal.invariant-names
invariant-names l = l.names ≡ take l.k (map (λ (d : Definition). d.name) l.list)
