use Rattle.std.proofs.Common.{◌≡◌, ◌∙◌, List, ℕ, sym, subst, false}
use Rattle.std.proofs.lemmas.List.{take_all}
use Rattle.std.proofs.lemmas.List.Elements.{All-more}
use Rattle.std.proofs.lemmas.List.Folds.{list_any_none}
use Rattle.rinv_algebra.specs.Monomial.{divides}
use Rattle.rinv_buch.proofs.halting.is_divided.Goals as goal

pub leads-preserved : goal.leads-preserved
leads-preserved c =
    All-more (λ lead. divides lead c.args.mono.now ≡ false) c.args.leads.now c.leads.lead-index c.lead-item.result c.leads-test.true c.leads.invariant
    (subst (λ (lead : List ℕ). divides lead c.args.mono.now ≡ false) c.lead-item.is (sym c.divides.ensures ∙ c.if-divides.false))

pub returns : goal.returns
returns c = sym (list_any_none (λ lead. divides lead c.args.mono.now) c.args.leads.now (rw (take_all c.leads.lead-index c.args.leads.now c.leads-test.false) at c.leads.invariant))
