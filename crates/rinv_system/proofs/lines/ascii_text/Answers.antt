use Rattle.std.proofs.lemmas.Str.{IsUtf8-from_ascii}
use Rattle.rinv_system.proofs.Allowed.{allowed-ascii}
use Rattle.rinv_system.proofs.lines.ascii_text.Goals as goal

pub unreachable-requires : goal.unreachable-requires
unreachable-requires c = c.in-Err.ensures.cases.0 (IsUtf8-from_ascii _ (allowed-ascii _ c.requires))
