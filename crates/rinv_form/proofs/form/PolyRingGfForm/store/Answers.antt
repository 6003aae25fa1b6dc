use Rattle.rinv_form.proofs.StoredPolynomials.{is_stored-some, is_stored-none}
use Rattle.rinv_form.proofs.form.PolyRingGfForm.store.Goals as goal

pub returns : goal.returns
returns c =
    is_stored-some _ _ _ _ _ c.in-Some.terms.items c.in_ok-stored.stored c.vars.ensures c.as_slice.ensures
    (rw c.in-Some.is at c.in_ok-terms.ensures) c.in_ok-stored.ensures.value c.in_ok-stored.ensures.normal

pub returns-in_default : goal.returns-in_default
returns-in_default c =
    is_stored-none _ _ _ _ _ c.vars.ensures c.as_slice.ensures (rw c.in_default.is at c.in_ok-terms.ensures)
