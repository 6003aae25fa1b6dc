use Rattle.std.proofs.Common.{◌∙◌, sym}
use Rattle.rinv_form.proofs.KeptParts.{kept-pair, first-lost, last-lost}
use Rattle.rinv_form.proofs.basis_form.BasisFormForm.store.Goals as goal

pub returns-in_default : goal.returns-in_default
returns-in_default c = rw (← c.plain.view_is) (first-lost _ _ _ _ (sym c.in_default.is ∙ c.in_ok-h.ensures))

pub returns-in_default-2 : goal.returns-in_default-2
returns-in_default-2 c = rw (← c.plain.view_is) (last-lost _ _ _ _ (sym c.in_default-2.is ∙ c.in_ok-cofactors.ensures))

pub returns : goal.returns
returns c = rw (← c.plain.view_is) (kept-pair _ _ _ _ _ _ (sym c.in-Some.is ∙ c.in_ok-h.ensures) (sym c.in-Some-2.is ∙ c.in_ok-cofactors.ensures))
