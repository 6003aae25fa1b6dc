use Rattle.std.proofs.Common.{◌≡◌, take, map}
use Rattle.rinv_script.specs.Stored.{query_of}
use Rattle.rinv_queries.specs.Known.{fractions_of}
use Rattle.rinv_queries.specs.Written.{IsPage}
use Rattle.rinv_queries.proofs.answering.turns.Given as goal

abbrev pub invariant-queries : goal.invariant-queries
invariant-queries l = IsPage l.system.system (fractions_of l.known) l.fn.page.shown l.fn.page.text.items (map query_of (take l.k l.queries)) l.page
