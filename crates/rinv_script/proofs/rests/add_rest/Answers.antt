use Rattle.std.proofs.Common.{ℕ, sym, subst}
use Rattle.std.proofs.lemmas.Result.{err_from_is_err_and}
use Rattle.rinv_algebra.specs.Fraction.{Fraction}
use Rattle.rinv_system.proofs.StopFacts.{OnCode-weaker}
use Rattle.rinv_script.specs.declared.words.ScriptWord.{ScriptWord}
use Rattle.rinv_script.specs.Queries.{Query, for_laws, for_generators, whether_invariant, for_expression}
use Rattle.rinv_script.specs.Words.{AsksAlone, AsksOf}
use Rattle.rinv_script.specs.Scripts.{IsScriptRestRefused, IsScriptRestTaken}
use Rattle.rinv_script.proofs.rests.add_rest.Goals as goal

pub returns-in_err-alone-in-Laws-clause-fault : goal.returns-in_err-alone-in-Laws-clause-fault
returns-in_err-alone-in-Laws-clause-fault c = let p = err_from_is_err_and c.from_residual-in_err-alone-in-Laws.result c.from_residual-in_err-alone-in-Laws.ensures.1 in rw (p.1, p.2)
    (OnCode-weaker (λ code. (w : ScriptWord) → (q : Query) → AsksAlone w q → IsScriptRestRefused c.args.draft.now c.args.rest.now w code) (IsScriptRestRefused c.args.draft.now c.args.rest.now c.args.word)
    (λ code h. h c.args.word for_laws (subst (λ w. AsksAlone w for_laws) (sym c.in-Laws.is) AsksAlone.laws_alone))
    _ c.in_err-alone-in-Laws.ensures.fault)

pub returns-in_ok-ask-in-Laws-clause-ok : goal.returns-in_ok-ask-in-Laws-clause-ok
returns-in_ok-ask-in-Laws-clause-ok c =
    subst (IsScriptRestTaken c.args.draft.now c.args.rest.now c.args.word) (sym c.in_ok-ask-in-Laws.ensures) (c.in_ok-alone-in-Laws.ensures.ok c.args.word for_laws (subst (λ w. AsksAlone w for_laws) (sym c.in-Laws.is) AsksAlone.laws_alone))

pub returns-in_err-alone-in-Generators-clause-fault : goal.returns-in_err-alone-in-Generators-clause-fault
returns-in_err-alone-in-Generators-clause-fault c = let p = err_from_is_err_and c.from_residual-in_err-alone-in-Generators.result c.from_residual-in_err-alone-in-Generators.ensures.1 in rw (p.1, p.2)
    (OnCode-weaker (λ code. (w : ScriptWord) → (q : Query) → AsksAlone w q → IsScriptRestRefused c.args.draft.now c.args.rest.now w code) (IsScriptRestRefused c.args.draft.now c.args.rest.now c.args.word)
    (λ code h. h c.args.word for_generators (subst (λ w. AsksAlone w for_generators) (sym c.in-Generators.is) AsksAlone.generators_alone))
    _ c.in_err-alone-in-Generators.ensures.fault)

pub returns-in_ok-ask-in-Generators-clause-ok : goal.returns-in_ok-ask-in-Generators-clause-ok
returns-in_ok-ask-in-Generators-clause-ok c =
    subst (IsScriptRestTaken c.args.draft.now c.args.rest.now c.args.word) (sym c.in_ok-ask-in-Generators.ensures) (c.in_ok-alone-in-Generators.ensures.ok c.args.word for_generators (subst (λ w. AsksAlone w for_generators) (sym c.in-Generators.is) AsksAlone.generators_alone))

pub returns-in_err-fraction-in-Invariant-clause-fault : goal.returns-in_err-fraction-in-Invariant-clause-fault
returns-in_err-fraction-in-Invariant-clause-fault c = let p = err_from_is_err_and c.from_residual-in_err-fraction-in-Invariant.result c.from_residual-in_err-fraction-in-Invariant.ensures.1 in rw (p.1, p.2)
    (OnCode-weaker (λ code. (w : ScriptWord) → (ask : Fraction ℕ → Query) → AsksOf w ask → IsScriptRestRefused c.args.draft.now c.args.rest.now w code) (IsScriptRestRefused c.args.draft.now c.args.rest.now c.args.word)
    (λ code h. h c.args.word whether_invariant (subst (λ w. AsksOf w whether_invariant) (sym c.in-Invariant.is) AsksOf.of_invariance))
    _ c.in_err-fraction-in-Invariant.ensures.fault)

pub returns-in_ok-ask-in-Invariant-clause-ok : goal.returns-in_ok-ask-in-Invariant-clause-ok
returns-in_ok-ask-in-Invariant-clause-ok c =
    subst (IsScriptRestTaken c.args.draft.now c.args.rest.now c.args.word) (sym c.in_ok-ask-in-Invariant.ensures) (c.in_ok-fraction-in-Invariant.ensures.ok c.args.word whether_invariant (subst (λ w. AsksOf w whether_invariant) (sym c.in-Invariant.is) AsksOf.of_invariance))

pub returns-in_err-fraction-in-Rewrite-clause-fault : goal.returns-in_err-fraction-in-Rewrite-clause-fault
returns-in_err-fraction-in-Rewrite-clause-fault c = let p = err_from_is_err_and c.from_residual-in_err-fraction-in-Rewrite.result c.from_residual-in_err-fraction-in-Rewrite.ensures.1 in rw (p.1, p.2)
    (OnCode-weaker (λ code. (w : ScriptWord) → (ask : Fraction ℕ → Query) → AsksOf w ask → IsScriptRestRefused c.args.draft.now c.args.rest.now w code) (IsScriptRestRefused c.args.draft.now c.args.rest.now c.args.word)
    (λ code h. h c.args.word for_expression (subst (λ w. AsksOf w for_expression) (sym c.in-Rewrite.is) AsksOf.of_expression))
    _ c.in_err-fraction-in-Rewrite.ensures.fault)

pub returns-in_ok-ask-in-Rewrite-clause-ok : goal.returns-in_ok-ask-in-Rewrite-clause-ok
returns-in_ok-ask-in-Rewrite-clause-ok c =
    subst (IsScriptRestTaken c.args.draft.now c.args.rest.now c.args.word) (sym c.in_ok-ask-in-Rewrite.ensures) (c.in_ok-fraction-in-Rewrite.ensures.ok c.args.word for_expression (subst (λ w. AsksOf w for_expression) (sym c.in-Rewrite.is) AsksOf.of_expression))
