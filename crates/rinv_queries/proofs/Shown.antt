-- What the commands print of a page of answered queries is their answer.
--   rewritten-shown    behind the generators
--   scripted-shown     alone
use Rattle.std.proofs.Common.{◌≡◌, ◌∙◌, ◌++◌, ℕ, List, [], Bool, true, false, ap, ap₂, sym, subst}
use Rattle.std.specs.Prelude.{if◌then◌else◌}
use Rattle.rinv_defs.specs.Laws.{AllLawsHold}
use Rattle.rinv_defs.specs.Invariant.{Fraction}
use Rattle.rinv_text.specs.Told.{Told}
use Rattle.rinv_script.specs.Queries.{Query, need_generators}
use Rattle.rinv_lines.specs.declared.ending.Ending.{Ending}
use Rattle.rinv_lines.specs.declared.ending.Ending.TheVariants.{Done, Denied}
use Rattle.rinv_answers.specs.GeneratorLines.{generator_lines, complete_line}
use Rattle.rinv_answers.specs.Commands.Generators.{AreComplete}
use Rattle.rinv_queries.specs.declared.answering.Page.{Page}
use Rattle.rinv_queries.specs.Lines.{query_lines, last_line_of}
use Rattle.rinv_queries.specs.Written.{IsPage}
use Rattle.rinv_queries.specs.Commands.Script.{asking}
use Rattle.rinv_queries.specs.Commands.Rewrite.{IsRewritten}
use Rattle.rinv_queries.specs.Commands.Run.{IsScripted, AreCompleteIf}
use Rattle.rinv_queries.proofs.Endings.{rewritten-of, scripted-of}

module _ (told : Told) (qs : List Query) (cs : List Fraction) (page : Page) (text last : List ℕ) (ending : Ending) (is : text ≡ page.text.items ++ last) (ended : ending ≡ (if page.denied then Denied else Done)) where
  pub rewritten-shown : (head : List ℕ) → AreComplete told.system cs → head ≡ generator_lines told.system cs → last ≡ complete_line told.system → IsPage told.system cs true head qs page → IsRewritten (asking told qs) text ending
  rewritten-shown head complete first at_end p =
      subst (λ (e : Ending). IsRewritten (asking told qs) text e) (sym ended) (rewritten-of (asking told qs) text page.denied (record {
        fractions = cs;
        complete = complete;
        outcomes = p.outcomes;
        answered = p.answered;
        printed = is ∙ ap₂ (λ (a b : List ℕ). a ++ b) (p.text ∙ ap (λ (h : List ℕ). h ++ query_lines told.system cs true 1 qs p.outcomes) first) at_end;
        ended = ap (λ (b : Bool). if b then Denied else Done) p.denied;
      }))

  pub scripted-shown : (head : List ℕ) (needed : Bool) → AllLawsHold told.system → needed ≡ need_generators qs → AreCompleteIf needed told.system cs → head ≡ [] → last ≡ last_line_of needed told.system
      → IsPage told.system cs false head qs page → IsScripted (asking told qs) text ending
  scripted-shown head needed hold needs complete none at_end p =
      subst (λ (e : Ending). IsScripted (asking told qs) text e) (sym ended) (scripted-of (asking told qs) text page.denied (record {
        laws = hold;
        fractions = cs;
        complete = subst (λ (b : Bool). AreCompleteIf b told.system cs) needs complete;
        outcomes = p.outcomes;
        answered = p.answered;
        printed = is ∙ ap₂ (λ (a b : List ℕ). a ++ b) (p.text ∙ ap (λ (h : List ℕ). h ++ query_lines told.system cs false 1 qs p.outcomes) none) (at_end ∙ ap (λ (b : Bool). last_line_of b told.system) needs);
        ended = ap (λ (b : Bool). if b then Denied else Done) p.denied;
      }))
