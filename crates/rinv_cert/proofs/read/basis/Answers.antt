use Rattle.std.specs.Prelude.{codes}
use Rattle.std.proofs.lemmas.Result.{err_from_is_err_and}
use Rattle.rinv_json.specs.Shapes.{pair_of, list_of, poly}
use Rattle.rinv_json.specs.Items.{basis_item}
use Rattle.rinv_cert.specs.Seen.{basis_item_by}
use Rattle.rinv_cert.proofs.Mapped.{many-found, many-refuses}
use Rattle.rinv_cert.proofs.SeenItems.{basis-seen}
use Rattle.rinv_cert.proofs.read.basis.Goals as goal

pub returns-in_err-items-clause-fault : goal.returns-in_err-items-clause-fault
returns-in_err-items-clause-fault c =
    let p = err_from_is_err_and c.from_residual.result c.from_residual.ensures.1 in
    rw (p.1, p.2) (many-refuses (pair_of poly (list_of poly)) (basis_item poly) (basis_item_by (λ f. f)) basis-seen (codes "basis") _ _ c.in_err-items.ensures.fault)

pub returns-clause-ok : goal.returns-clause-ok
returns-clause-ok c = many-found (pair_of poly (list_of poly)) (basis_item poly) (basis_item_by (λ f. f)) basis-seen (codes "basis") _ _ c.in_ok-items.ensures.ok
