-- How the answer to the workload ends.
--   sums-up                                  with a summary
--   unknown-measured, unanswered-measured    with what stands in its place
--   stored-in                                the outcomes are stored in symbols for the generators
--   all-suffice                              where generators are known, all queries have their answer
use Rattle.std.proofs.Common.{◌≡◌, ℕ, List, ap₂, ◌∙◌, refl, sym, subst, inl, inr, length, get_or, All, true}
use Rattle.std.proofs.lemmas.List.Elements.{All-from_get_or}
use Rattle.rinv_defs.specs.System.{System}
use Rattle.rinv_defs.specs.Invariant.{Fraction}
use Rattle.rinv_text.specs.Told.{Told}
use Rattle.rinv_lines.specs.declared.ending.Ending.{Ending}
use Rattle.rinv_lines.specs.declared.ending.Ending.TheVariants.{Done, Denied, Refused, Incomplete}
use Rattle.rinv_script.specs.Queries.{Query, Script, for_laws, needs_generators}
use Rattle.rinv_answers.specs.Commands.Generators.{AreComplete}
use Rattle.rinv_queries.specs.declared.known.Known.{Known}
use Rattle.rinv_queries.specs.declared.outcome.Outcome.{Outcome}
use Rattle.rinv_queries.specs.Known.{Suffices}
use Rattle.rinv_queries.specs.Cuts.{IsUnanswered}
use Rattle.rinv_queries.specs.Outcomes.{AreAnswered}
use Rattle.rinv_queries.specs.Written.{IsStoredOutcome}
use Rattle.rinv_queries.specs.Commands.Run.{IsUnknown}
use Rattle.rinv_queries.specs.Commands.Script.{asking}
use Rattle.rinv_bench.specs.Summary.{summary_text}
use Rattle.rinv_bench.specs.Commands.Bench.{IsMeasured}
use Rattle.rinv_bench.proofs.LastFacts.{last-answers}

pub sums-up : (k count : ℕ) (told : Told) (qs : List Query) (cs : List Fraction) (os slice : List Outcome) (text : List ℕ) → AreComplete told.system cs → AreAnswered told.system cs qs os
    → count ≡ length cs → slice ≡ os → text ≡ summary_text k told.system count slice → IsMeasured k (asking told qs) text Done
sums-up k count told qs cs os slice text complete answered many same is = record {
  fractions = cs;
  complete = complete;
  outcomes = os;
  answered = answered;
  last = λ j e found. last-answers told.system cs 1 j e qs os answered found;
  printed = is ∙ ap₂ (λ (n : ℕ) (l : List Outcome). summary_text k told.system n l) many same;
}

module _ (k : ℕ) (script : Script) (text : List ℕ) where
  pub unknown-measured : (ending : Ending) → IsUnknown true script.told text ending → IsMeasured k script text ending
  unknown-measured Done h = absurd h
  unknown-measured Denied h = h
  unknown-measured Refused h = h
  unknown-measured Incomplete h = inl h

  pub unanswered-measured : (ending : Ending) → IsUnanswered script.told script.queries text ending → IsMeasured k script text ending
  unanswered-measured Done h = absurd h
  unanswered-measured Denied h = absurd h
  unanswered-measured Refused h = h
  unanswered-measured Incomplete h = inr h

-- the outcomes are stored in as many symbols as there are generators
pub stored-in : (s : System) (count number : ℕ) (os slice : List Outcome) → count ≡ number → slice ≡ os → All (IsStoredOutcome s number) os → All (IsStoredOutcome s count) slice
stored-in s count number os slice many same h =
    subst (λ (l : List Outcome). All (IsStoredOutcome s count) l) (sym same) (subst (λ (n : ℕ). All (IsStoredOutcome s n) os) (sym many) h)

pub all-suffice : (known : Known) (qs : List Query) → ((q : Query) → (needs_generators q ≡ true → true ≡ true) → Suffices known q) → All (Suffices known) qs
all-suffice known qs enough = All-from_get_or (Suffices known) qs for_laws (λ i low. enough (get_or qs i for_laws) (λ e. refl))
