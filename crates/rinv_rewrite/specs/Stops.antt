-- Why there is no expression.
use Rattle.std.specs.Prelude.{ℕ, List, ⊤}
use Rattle.rinv_buch.specs.Kinds.{Found}
use Rattle.rinv_defs.specs.System.{System}
use Rattle.rinv_defs.specs.Invariant.{Fraction}
use Rattle.rinv_soundness.specs.Rewriting.{SymbolRelation}
use Rattle.rinv_change.specs.Changes.{IsStray}
use Rattle.rinv_rewrite.specs.declared.stop.RewriteStop.{RewriteStop}
use Rattle.rinv_rewrite.specs.declared.stop.RewriteStop.TheVariants as stop
use Rattle.rinv_rewrite.specs.Needed.{RewritingMeets}

-- the fraction is not invariant, and this is the normal form of its change; or degrees are met
abbrev pub RewriteStopsSo : System → Found ℕ → List Fraction → List SymbolRelation → Fraction → RewriteStop → Type 0
RewriteStopsSo s group cs qs f (stop.NotInvariant rest) = IsStray s f rest
RewriteStopsSo s group cs qs f (stop.Degree x y) = RewritingMeets s group cs qs f x y
RewriteStopsSo s group cs qs f stop.NoMemory = ⊤
