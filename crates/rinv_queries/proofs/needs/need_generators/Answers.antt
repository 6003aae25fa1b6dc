use Rattle.std.proofs.Common.{◌∙◌}
use Rattle.rinv_script.specs.Queries.{needs_generators}
use Rattle.rinv_script.specs.Stored.{query_of}
use Rattle.rinv_queries.proofs.Pages.{any-image}
use Rattle.rinv_queries.proofs.needs.need_generators.Goals as goal

pub returns : goal.returns
returns c = c.some_needs.ensures ∙ any-image needs_generators query_of c.args.queries.now
