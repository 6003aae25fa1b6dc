use Rattle.std.proofs.Common.{◌≡◌, ◌∙◌, ℕ, map, sym, ap₂, subst}
use Rattle.std.proofs.lemmas.Result.{err_from_is_err_and}
use Rattle.rinv_ring.specs.Fault.{DegreesMeet}
use Rattle.rinv_cert.specs.Seen.{pair_item_by}
use Rattle.rinv_buch.specs.Kinds.{Found}
use Rattle.rinv_action.specs.Action.{IsActionBasis}
use Rattle.rinv_recording.specs.Recorded.{ArePairItemsOf, PairsFit, PairsMeet}
use Rattle.rinv_recording.proofs.JournalPlaces.{found_of}
use Rattle.rinv_recording.proofs.pairs.recorded_pairs.Goals as goal

pub recorded_list-requires-clause-action : goal.recorded_list-requires-clause-action
recorded_list-requires-clause-action c =
    let whole : found_of c.deref.result.now c.deref-2.result.now ≡ c.args.action.now = ap₂ found_of c.deref.ensures.value c.deref-2.ensures.value ∙ c.action.view_is in
    subst (IsActionBasis c.args.system.now.system) (sym whole) c.requires.action

pub returns-in_err-items-clause-degree : goal.returns-in_err-items-clause-degree
returns-in_err-items-clause-degree c =
    let whole : found_of c.deref.result.now c.deref-2.result.now ≡ c.args.action.now = ap₂ found_of c.deref.ensures.value c.deref-2.ensures.value ∙ c.action.view_is in
    let q = err_from_is_err_and c.from_residual.result c.from_residual.ensures.1 in
    rw (q.1, q.2) (subst (λ (found : Found ℕ). DegreesMeet (PairsMeet c.args.system.now.system found) c.in_err-items.field-0.0) whole c.in_err-items.ensures.degree)

pub returns-clause-items : goal.returns-clause-items
returns-clause-items c =
    let whole : found_of c.deref.result.now c.deref-2.result.now ≡ c.args.action.now = ap₂ found_of c.deref.ensures.value c.deref-2.ensures.value ∙ c.action.view_is in
    rw c.new.ensures (subst (λ (found : Found ℕ). ArePairItemsOf c.args.system.now.system found (map (pair_item_by (λ f. f)) c.in_ok-items.items.items)) whole c.in_ok-items.ensures.items)

pub returns-clause-fits : goal.returns-clause-fits
returns-clause-fits c =
    let whole : found_of c.deref.result.now c.deref-2.result.now ≡ c.args.action.now = ap₂ found_of c.deref.ensures.value c.deref-2.ensures.value ∙ c.action.view_is in
    rw c.new.ensures (subst (λ (found : Found ℕ). PairsFit c.args.system.now.system found.polys (map (pair_item_by (λ f. f)) c.in_ok-items.items.items)) whole c.in_ok-items.ensures.fits)
