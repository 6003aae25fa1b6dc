use Rattle.std.proofs.Common.{arith}
use Rattle.rinv_text.proofs.Definitions.{name-absent, names-more, names-all}
use Rattle.rinv_text.proofs.defs.names_of.Goals as goal

pub push-requires : goal.push-requires
push-requires c = name-absent c.args.list.now c.names.k c.index-list-k.result c.text-text.result.now (omega arith) c.index-list-k.is c.text-text.ensures _ _ c.in_ok-name.ensures.ok c.names.invariant c.requires

pub names-preserved : goal.names-preserved
names-preserved c = names-more c.args.list.now c.names.k c.index-list-k.result c.text-text.result.now (omega arith) c.index-list-k.is c.text-text.ensures _ _ _ c.in_ok-name.ensures.ok c.names.invariant c.in_ok-push.ensures

pub returns : goal.returns
returns c = names-all c.args.list.now c.names.k _ c.names.invariant (omega arith)
