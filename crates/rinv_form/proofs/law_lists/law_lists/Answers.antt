use Rattle.std.proofs.Common.{◌∙◌, sym}
use Rattle.rinv_form.proofs.LawTests.{other-number, lost-2, lost-3, lost-4, lost-5, lost-6, lost-a2, six-kept}
use Rattle.rinv_form.proofs.law_lists.law_lists.Goals as goal

pub returns-then-given-ne-LAWS : goal.returns-then-given-ne-LAWS
returns-then-given-ne-LAWS c = other-number c.args.sizes.now c.args.lists.now (rw c.as_slice-given.ensures at c.if-given-ne-LAWS.true)

pub returns-in_default : goal.returns-in_default
returns-in_default c = lost-2 c.args.sizes.now c.args.lists.now (rw c.as_slice-given.ensures at c.if-given-ne-LAWS.false) _ (rw c.as_slice-given.ensures at c.index-given-0.is) (sym c.in_default.is ∙ c.in_ok-l2.ensures)

pub returns-in_default-2 : goal.returns-in_default-2
returns-in_default-2 c = lost-3 c.args.sizes.now c.args.lists.now (rw c.as_slice-given.ensures at c.if-given-ne-LAWS.false) _ (rw c.as_slice-given.ensures at c.index-given-1.is) (sym c.in_default-2.is ∙ c.in_ok-l3.ensures)

pub returns-in_default-3 : goal.returns-in_default-3
returns-in_default-3 c = lost-4 c.args.sizes.now c.args.lists.now (rw c.as_slice-given.ensures at c.if-given-ne-LAWS.false) _ (rw c.as_slice-given.ensures at c.index-given-2.is) (sym c.in_default-3.is ∙ c.in_ok-l4.ensures)

pub returns-in_default-4 : goal.returns-in_default-4
returns-in_default-4 c = lost-5 c.args.sizes.now c.args.lists.now (rw c.as_slice-given.ensures at c.if-given-ne-LAWS.false) _ (rw c.as_slice-given.ensures at c.index-given-3.is) (sym c.in_default-4.is ∙ c.in_ok-l5.ensures)

pub returns-in_default-5 : goal.returns-in_default-5
returns-in_default-5 c = lost-6 c.args.sizes.now c.args.lists.now (rw c.as_slice-given.ensures at c.if-given-ne-LAWS.false) _ (rw c.as_slice-given.ensures at c.index-given-4.is) (sym c.in_default-5.is ∙ c.in_ok-l6.ensures)

pub returns-in_default-6 : goal.returns-in_default-6
returns-in_default-6 c = lost-a2 c.args.sizes.now c.args.lists.now (rw c.as_slice-given.ensures at c.if-given-ne-LAWS.false) _ (rw c.as_slice-given.ensures at c.index-given-5.is) (sym c.in_default-6.is ∙ c.in_ok-a2.ensures)

pub returns : goal.returns
returns c =
    six-kept c.args.sizes.now c.args.lists.now (rw c.as_slice-given.ensures at c.if-given-ne-LAWS.false) _ _ _ _ _ _
    (rw c.as_slice-given.ensures at c.index-given-0.is) (rw c.as_slice-given.ensures at c.index-given-1.is) (rw c.as_slice-given.ensures at c.index-given-2.is) (rw c.as_slice-given.ensures at c.index-given-3.is) (rw c.as_slice-given.ensures at c.index-given-4.is) (rw c.as_slice-given.ensures at c.index-given-5.is)
    _ _ _ _ _ _
    (sym c.in-Some.is ∙ c.in_ok-l2.ensures) (sym c.in-Some-2.is ∙ c.in_ok-l3.ensures) (sym c.in-Some-3.is ∙ c.in_ok-l4.ensures) (sym c.in-Some-4.is ∙ c.in_ok-l5.ensures) (sym c.in-Some-5.is ∙ c.in_ok-l6.ensures) (sym c.in-Some-6.is ∙ c.in_ok-a2.ensures)
    _ c.in_ok-stored.ensures
