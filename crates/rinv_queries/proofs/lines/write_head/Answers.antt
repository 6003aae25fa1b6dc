use Rattle.std.proofs.Common.{◌∙◌}
use Rattle.std.specs.Prelude.{decimal}
use Rattle.rinv_queries.proofs.Pieces.{put-behind}
use Rattle.rinv_queries.proofs.lines.write_head.Goals as goal

pub returns : goal.returns
returns c =
    c.in_ok-extend_from_slice.ensures.items
    ∙ put-behind c.args.out.now.items c.as_bytes.result.now c.args.word.now (decimal c.args.number) c.args.rest.now (c.as_bytes.ensures.value ∙ c.in_ok-head.ensures.ok)
