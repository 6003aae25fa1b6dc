use Rattle.std.proofs.lemmas.Str.{IsUtf8-from_ascii}
use Rattle.rinv_system.proofs.NameFacts.{name_word-ascii}
use Rattle.rinv_system.proofs.naming.as_text.Goals as goal

pub unreachable-requires : goal.unreachable-requires
unreachable-requires c = c.in-Err.ensures.cases.0 (IsUtf8-from_ascii _ (name_word-ascii _ c.requires))
