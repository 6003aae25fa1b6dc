use Rattle.std.specs.Prelude.{codes}
use Rattle.std.proofs.lemmas.Result.{err_from_is_err_and}
use Rattle.rinv_json.specs.Shapes.{whole, list_of, triple_of, quadruple_of, poly}
use Rattle.rinv_json.specs.Items.{relation_item}
use Rattle.rinv_cert.specs.Seen.{relation_item_by}
use Rattle.rinv_cert.specs.Shaped.{tied_shape}
use Rattle.rinv_cert.proofs.Mapped.{many-found, many-refuses}
use Rattle.rinv_cert.proofs.SeenItems.{relation-seen}
use Rattle.rinv_cert.proofs.read.relations.Goals as goal

pub returns-in_err-items-clause-fault : goal.returns-in_err-items-clause-fault
returns-in_err-items-clause-fault c =
    let p = err_from_is_err_and c.from_residual.result c.from_residual.ensures.1 in
    rw (p.1, p.2) (many-refuses (quadruple_of (list_of whole) poly (list_of (triple_of (list_of whole) poly tied_shape)) (list_of poly)) (relation_item poly) (relation_item_by (λ f. f)) relation-seen (codes "relations") _ _ c.in_err-items.ensures.fault)

pub returns-clause-ok : goal.returns-clause-ok
returns-clause-ok c = many-found (quadruple_of (list_of whole) poly (list_of (triple_of (list_of whole) poly tied_shape)) (list_of poly)) (relation_item poly) (relation_item_by (λ f. f)) relation-seen (codes "relations") _ _ c.in_ok-items.ensures.ok
