use Rattle.std.proofs.Common.{map, take}
use Rattle.std.specs.List.{All}
use Rattle.rinv_system.specs.Forms.{IsSomeExpression}
use Rattle.rinv_system.proofs.listing.are_expressions.Given as goal

abbrev pub invariant-entries : goal.invariant-entries
invariant-entries l = All IsSomeExpression (take l.entry-index (map (λ e. e.now) l.entries))
