use Rattle.std.proofs.Common.{◌≡◌, ◌∙◌, sym, subst, false, arith}
use Rattle.std.proofs.lemmas.List.{take_all}
use Rattle.std.proofs.lemmas.List.Elements.{All-more}
use Rattle.std.proofs.lemmas.List.Folds.{list_any_none}
use Rattle.rinv_algebra.specs.Monomial.{divides}
use Rattle.rinv_defs.specs.Extended.{Relation}
use Rattle.rinv_tails.proofs.reducing.first_divisor.Goals as goal

pub relations-preserved : goal.relations-preserved
relations-preserved c = All-more (λ r. divides r.lead c.args.mono.now ≡ false) c.args.relations.now c.relations.k c.index-relations-k.result (omega arith) c.relations.invariant (subst (λ (r : Relation). divides r.lead c.args.mono.now ≡ false) (c.relation.view_is ∙ c.index-relations-k.is) (sym c.divides.ensures ∙ c.if-divides.false))

pub returns-clause-none : goal.returns-clause-none
returns-clause-none c = list_any_none (λ r. divides r.lead c.args.mono.now) c.args.relations.now (rw (take_all c.relations.k c.args.relations.now c.relations-test.false) at c.relations.invariant)
