use Rattle.std.proofs.Common.{◌∙◌, sym}
use Rattle.rinv_form.proofs.KeptParts.{kept-triple, last-lost, first-fails, last-fails, kept-false}
use Rattle.rinv_form.proofs.Kept.{kept-none}
use Rattle.rinv_form.proofs.tail_form.TailFormForm.store.Goals as goal

pub returns-in_default : goal.returns-in_default
returns-in_default c = rw (← c.plain.view_is) (kept-false _ _ (first-fails _ _ (first-fails _ _ (kept-none _ _ (sym c.in_default.is ∙ c.in_ok-alpha.ensures)))))

pub returns-in_default-2 : goal.returns-in_default-2
returns-in_default-2 c = rw (← c.plain.view_is) (kept-false _ _ (first-fails _ _ (last-fails _ _ (kept-none _ _ (sym c.in_default-2.is ∙ c.in_ok-c.ensures)))))

pub returns-in_default-tied : goal.returns-in_default-tied
returns-in_default-tied c = rw (← c.plain.view_is) (last-lost _ _ _ _ c.in_default-tied.ensures)

pub returns : goal.returns
returns c = rw (← c.plain.view_is) (kept-triple _ _ _ _ _ _ _ _ _ (sym c.in-Some.is ∙ c.in_ok-alpha.ensures) (sym c.in-Some-2.is ∙ c.in_ok-c.ensures) c.in-Some-tied.ensures)
