use Rattle.std.proofs.Common.{◌∙◌, sym}
use Rattle.rinv_form.proofs.RelationParts.{stored-lengths, a-lost, d-lost, tail-lost, apart-lost, cofactors-lost, relation-kept}
use Rattle.rinv_form.proofs.relation_form.RelationFormForm.store.Goals as goal

pub returns-in_default : goal.returns-in_default
returns-in_default c = rw (← c.plain.view_is) (a-lost c.args.self.now.sizes (c.plain.inside.a, c.plain.inside.d, c.plain.inside.tail, c.plain.inside.cofactors) (sym c.in_default.is ∙ c.in_ok-a.ensures))

pub returns-in_default-2 : goal.returns-in_default-2
returns-in_default-2 c = rw (← c.plain.view_is) (d-lost c.args.self.now.sizes (c.plain.inside.a, c.plain.inside.d, c.plain.inside.tail, c.plain.inside.cofactors) (sym c.in_default-2.is ∙ c.in_ok-d.ensures))

pub returns-in_default-3 : goal.returns-in_default-3
returns-in_default-3 c = rw (← c.plain.view_is) (tail-lost c.args.self.now.sizes (c.plain.inside.a, c.plain.inside.d, c.plain.inside.tail, c.plain.inside.cofactors) (sym c.in_default-3.is ∙ c.in_ok-tail.ensures))

pub are_distinct-requires : goal.are_distinct-requires
are_distinct-requires c = rw c.as_slice.ensures (stored-lengths c.args.self.now.sizes _ _ (sym c.in-Some-3.is ∙ c.in_ok-tail.ensures))

pub returns-then-not-apart : goal.returns-then-not-apart
returns-then-not-apart c =
    rw (← c.plain.view_is) (apart-lost c.args.self.now.sizes (c.plain.inside.a, c.plain.inside.d, c.plain.inside.tail, c.plain.inside.cofactors) _ (sym c.in-Some-3.is ∙ c.in_ok-tail.ensures) (rw c.as_slice.ensures at (sym c.in_ok-apart.ensures ∙ c.if-not-apart.true)))

pub returns-in_default-4 : goal.returns-in_default-4
returns-in_default-4 c = rw (← c.plain.view_is) (cofactors-lost c.args.self.now.sizes (c.plain.inside.a, c.plain.inside.d, c.plain.inside.tail, c.plain.inside.cofactors) _ (sym c.in-Some-3.is ∙ c.in_ok-tail.ensures) (sym c.in_default-4.is ∙ c.in_ok-cofactors.ensures))

pub returns : goal.returns
returns c =
    rw (← c.plain.view_is)
    (relation-kept c.args.self.now.sizes (c.plain.inside.a, c.plain.inside.d, c.plain.inside.tail, c.plain.inside.cofactors) _ (sym c.in-Some-3.is ∙ c.in_ok-tail.ensures) (rw c.as_slice.ensures at (sym c.in_ok-apart.ensures ∙ c.if-not-apart.false))
    _ (sym c.in-Some.is ∙ c.in_ok-a.ensures) _ (sym c.in-Some-2.is ∙ c.in_ok-d.ensures) _ (sym c.in-Some-4.is ∙ c.in_ok-cofactors.ensures))
