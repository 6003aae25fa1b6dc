use Rattle.std.proofs.Common.{◌≡◌, ◌∙◌, ◌<◌, ℕ, List, All, length, get_or, sym, subst, ap}
use Rattle.std.proofs.lemmas.Iterator.Adapters.{YieldsList-from_vec}
use Rattle.std.proofs.lemmas.Iterator.Consumers.{YieldsList-turn, YieldsList-end}
use Rattle.std.proofs.lemmas.List.{get_or_default, length_push}
use Rattle.std.proofs.lemmas.Result.{err_from_is_err_and}
use Rattle.rinv_ring.specs.Fault.{DegreesMeet}
use Rattle.rinv_defs.specs.Extended.{Relation}
use Rattle.rinv_tails.specs.Stored.{IsTail, IsStoredRelation, none}
use Rattle.rinv_tails.specs.Reducing.{TailMeets}
use Rattle.rinv_tails.proofs.ReducedLists.{AreReducing, lists-start, lists-meet, made-again}
use Rattle.rinv_tails.proofs.reducing.reduced_tails.Goals as goal

pub relations-init : goal.relations-init
relations-init c = lists-start c.args.field.now.base.coeffs c.args.field.now.base.vars c.args.relations c.new-reduced.result.items c.new-reduced.ensures.items

pub reduced_tail-requires-clause-relations : goal.reduced_tail-requires-clause-relations
reduced_tail-requires-clause-relations c =
    let field = c.args.field.now.base in
    subst (All (IsStoredRelation field.coeffs field.vars)) (sym c.deref.ensures.value) c.relations.invariant.stored

pub reduced_tail-requires-clause-tail : goal.reduced_tail-requires-clause-tail
reduced_tail-requires-clause-tail c =
    let field = c.args.field.now.base in
    let rs = c.args.relations in
    let given = c.relations-2.inside.relations in
    let gives = c.into_iter-relation-iterator.ensures.into_iter_gives in
    let k = length c.relations.yielded in
    let r = c.in-Some.relation in
    let turn : (k < length given.items) × (r ≡ get_or given.items k r) = YieldsList-turn (YieldsList-from_vec given.items gives.0 (gives.1 ∙ given.ok.0)) c.relations.yielded c.relations.relation-iterator c.relations.yielded_by c.next.result c.next.new.self r c.in-Some.is c.next.ensures.steps in
    let low : k < length rs = subst (λ (xs : List Relation). k < length xs) c.relations-2.view_is turn.0 in
    let here : r ≡ get_or rs k none = turn.1 ∙ ap (λ (xs : List Relation). get_or xs k r) c.relations-2.view_is ∙ get_or_default rs k r none low in
    let good = subst (IsStoredRelation field.coeffs field.vars) (sym here) (c.requires k none low) in
    subst (λ (x : Relation). IsTail field.coeffs field.vars x.tail) (sym c.relation.view_is) good.tail

pub relations-preserved : goal.relations-preserved
relations-preserved c =
    let field = c.args.field.now.base in
    let rs = c.args.relations in
    let given = c.relations-2.inside.relations in
    let gives = c.into_iter-relation-iterator.ensures.into_iter_gives in
    let k = length c.relations.yielded in
    let r = c.in-Some.relation in
    let turn : (k < length given.items) × (r ≡ get_or given.items k r) = YieldsList-turn (YieldsList-from_vec given.items gives.0 (gives.1 ∙ given.ok.0)) c.relations.yielded c.relations.relation-iterator c.relations.yielded_by c.next.result c.next.new.self r c.in-Some.is c.next.ensures.steps in
    let low : k < length rs = subst (λ (xs : List Relation). k < length xs) c.relations-2.view_is turn.0 in
    let here : r ≡ get_or rs k none = turn.1 ∙ ap (λ (xs : List Relation). get_or xs k r) c.relations-2.view_is ∙ get_or_default rs k r none low in
    let good = subst (IsStoredRelation field.coeffs field.vars) (sym here) (c.requires k none low) in
    let made = c.in_ok-tail.ensures in
    let push = made-again field.coeffs field.vars rs k c.relations.reduced.items c.relations.invariant r low here (c.relation.inside.lead) c.relation.inside.tail.items c.in_ok-tail.tail.items c.deref.result.now c.deref.ensures.value c.relation.view_is good made.steps made.irreducible made.tail made.below c.push.new.self.items c.in_ok-push.ensures.items in
    subst (λ (n : ℕ). AreReducing field.coeffs field.vars rs n c.push.new.self.items) (sym (length_push c.relations.yielded r)) push

pub returns-in_err-tail-clause-degree : goal.returns-in_err-tail-clause-degree
returns-in_err-tail-clause-degree c =
    let field = c.args.field.now.base in
    let rs = c.args.relations in
    let given = c.relations-2.inside.relations in
    let gives = c.into_iter-relation-iterator.ensures.into_iter_gives in
    let k = length c.relations.yielded in
    let r = c.in-Some.relation in
    let turn : (k < length given.items) × (r ≡ get_or given.items k r) = YieldsList-turn (YieldsList-from_vec given.items gives.0 (gives.1 ∙ given.ok.0)) c.relations.yielded c.relations.relation-iterator c.relations.yielded_by c.next.result c.next.new.self r c.in-Some.is c.next.ensures.steps in
    let low : k < length rs = subst (λ (xs : List Relation). k < length xs) c.relations-2.view_is turn.0 in
    let here : r ≡ get_or rs k none = turn.1 ∙ ap (λ (xs : List Relation). get_or xs k r) c.relations-2.view_is ∙ get_or_default rs k r none low in
    let good = subst (IsStoredRelation field.coeffs field.vars) (sym here) (c.requires k none low) in
    let fault = c.in_err-tail.field-0.0 in
    let meets = subst (λ (qs : List Relation). DegreesMeet (TailMeets field.coeffs field.vars qs r.tail) fault) c.deref.ensures.value (subst (λ (x : Relation). DegreesMeet (TailMeets field.coeffs field.vars c.deref.result.now x.tail) fault) c.relation.view_is c.in_err-tail.ensures.degree) in
    let q = err_from_is_err_and c.from_residual.result c.from_residual.ensures.1 in
    rw (q.1, q.2) (lists-meet field.coeffs field.vars rs k c.relations.reduced.items c.relations.invariant r low here fault meets)

pub returns-clause-number : goal.returns-clause-number
returns-clause-number c =
    let given = c.relations-2.inside.relations in
    let gives = c.into_iter-relation-iterator.ensures.into_iter_gives in
    let end = YieldsList-end (YieldsList-from_vec given.items gives.0 (gives.1 ∙ given.ok.0)) c.relations.yielded c.relations.relation-iterator c.relations.yielded_by c.next.result c.next.new.self c.in-None.is c.next.ensures.steps in
    c.relations.invariant.number ∙ end.1 ∙ ap (λ (xs : List Relation). length xs) c.relations-2.view_is

pub returns-clause-stored : goal.returns-clause-stored
returns-clause-stored c = c.relations.invariant.stored

pub returns-clause-made : goal.returns-clause-made
returns-clause-made c = c.relations.invariant.so_far
