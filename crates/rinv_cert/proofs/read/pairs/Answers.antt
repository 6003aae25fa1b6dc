use Rattle.std.specs.Prelude.{codes}
use Rattle.std.proofs.lemmas.Result.{err_from_is_err_and}
use Rattle.rinv_json.specs.Shapes.{poly}
use Rattle.rinv_json.specs.Items.{pair_item}
use Rattle.rinv_cert.specs.Seen.{pair_item_by}
use Rattle.rinv_cert.specs.Shaped.{pair_shape}
use Rattle.rinv_cert.proofs.Mapped.{many-found, many-refuses}
use Rattle.rinv_cert.proofs.SeenItems.{pair-seen}
use Rattle.rinv_cert.proofs.read.pairs.Goals as goal

pub returns-in_err-items-clause-fault : goal.returns-in_err-items-clause-fault
returns-in_err-items-clause-fault c =
    let p = err_from_is_err_and c.from_residual.result c.from_residual.ensures.1 in
    rw (p.1, p.2) (many-refuses (pair_shape poly) (pair_item poly) (pair_item_by (λ f. f)) pair-seen (codes "pairs") _ _ c.in_err-items.ensures.fault)

pub returns-clause-ok : goal.returns-clause-ok
returns-clause-ok c = many-found (pair_shape poly) (pair_item poly) (pair_item_by (λ f. f)) pair-seen (codes "pairs") _ _ c.in_ok-items.ensures.ok
