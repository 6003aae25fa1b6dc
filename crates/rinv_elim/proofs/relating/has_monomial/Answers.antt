use Rattle.std.proofs.Common.{◌≡◌, ◌∙◌, true, length, take_all, sym, ap, subst}
use Rattle.std.specs.List.{list_any}
use Rattle.std.proofs.lemmas.List.Folds.{list_any_at}
use Rattle.rinv_algebra.specs.Monomial.{same_monomial}
use Rattle.rinv_elim.proofs.LeadsMade.{any-none}
use Rattle.rinv_elim.proofs.relating.has_monomial.Goals as goal

pub is_same-requires : goal.is_same-requires
is_same-requires c = subst (λ t. length t.0 ≡ length c.args.mono.now) (sym c.index-terms-k.is) (c.requires c.terms.k c.index-terms-k.result c.terms-test.true)

pub terms-preserved : goal.terms-preserved
terms-preserved c = any-none (λ t. same_monomial t.0 c.args.mono.now) c.args.terms.now c.terms.k c.index-terms-k.result c.terms-test.true c.index-terms-k.is c.terms.invariant (sym c.is_same.ensures ∙ c.if-is_same.false)

pub returns-then-is_same : goal.returns-then-is_same
returns-then-is_same c =
    sym (list_any_at (λ t. same_monomial t.0 c.args.mono.now) c.args.terms.now c.terms.k c.index-terms-k.result c.terms-test.true (subst (λ t. same_monomial t.0 c.args.mono.now ≡ true) c.index-terms-k.is (sym c.is_same.ensures ∙ c.if-is_same.true)))

pub returns : goal.returns
returns c = sym (ap (list_any (λ t. same_monomial t.0 c.args.mono.now)) (sym (take_all c.terms.k c.args.terms.now c.terms-test.false)) ∙ c.terms.invariant)
