-- How the answers to scripts end.
--   stops-weaker       a stop says what its text says
--   rewritten-of, scripted-of          what is shown is an answer, whatever it denies
--   unfound-rewritten .. unanswered-scripted    and so is what stands in its place
use Rattle.std.proofs.Common.{ℕ, List, Bool, true, false, inl, inr}
use Rattle.std.specs.Prelude.{if◌then◌else◌}
use Rattle.rinv_script.specs.Queries.{Script, need_generators}
use Rattle.rinv_text.specs.Told.{Told}
use Rattle.rinv_lines.specs.declared.ending.Ending.{Ending}
use Rattle.rinv_lines.specs.declared.ending.Ending.TheVariants.{Done, Denied, Refused, Incomplete}
use Rattle.rinv_lines.specs.declared.stopped.Stopped.{Stopped}
use Rattle.rinv_lines.specs.declared.stopped.Stopped.TheVariants.{Answer, NoMemory}
use Rattle.rinv_lines.specs.Stopped.{StopsSo}
use Rattle.rinv_answers.specs.Commands.Laws.{IsUnlawful}
use Rattle.rinv_answers.specs.Commands.Generators.{IsUnfound}
use Rattle.rinv_queries.specs.Cuts.{IsUnanswered}
use Rattle.rinv_queries.specs.Commands.Rewrite.{IsRewritten, ShowsExpressions}
use Rattle.rinv_queries.specs.Commands.Run.{IsScripted, AnswersQueries, IsUnknown}

-- a stop says what its text says
pub stops-weaker : (P Q : List ℕ → Ending → Type 0) → ((text : List ℕ) (ending : Ending) → P text ending → Q text ending) → (s : Stopped) → StopsSo P s → StopsSo Q s
stops-weaker P Q weaker (Answer text ending) h = weaker text.items ending h
stops-weaker P Q weaker NoMemory h = tt

-- ---- rewrite

pub rewritten-of : (script : Script) (text : List ℕ) (denied : Bool) → ShowsExpressions script text (if denied then Denied else Done) → IsRewritten script text (if denied then Denied else Done)
rewritten-of script text true h = inr h
rewritten-of script text false h = h

pub unknown-rewritten : (script : Script) (text : List ℕ) (ending : Ending) → IsUnknown true script.told text ending → IsRewritten script text ending
unknown-rewritten script text Done h = absurd h
unknown-rewritten script text Denied h = inl h
unknown-rewritten script text Refused h = h
unknown-rewritten script text Incomplete h = inl h

pub unanswered-rewritten : (script : Script) (text : List ℕ) (ending : Ending) → IsUnanswered script.told script.queries text ending → IsRewritten script text ending
unanswered-rewritten script text Done h = absurd h
unanswered-rewritten script text Denied h = absurd h
unanswered-rewritten script text Refused h = h
unanswered-rewritten script text Incomplete h = inr h

-- ---- run

pub scripted-of : (script : Script) (text : List ℕ) (denied : Bool) → AnswersQueries script text (if denied then Denied else Done) → IsScripted script text (if denied then Denied else Done)
scripted-of script text true h = inr h
scripted-of script text false h = h

pub unknown-scripted : (script : Script) (text : List ℕ) (ending : Ending) → IsUnknown (need_generators script.queries) script.told text ending → IsScripted script text ending
unknown-scripted script text Done h = absurd h
unknown-scripted script text Denied h = inl h
unknown-scripted script text Refused h = h
unknown-scripted script text Incomplete h = inl h

pub unanswered-scripted : (script : Script) (text : List ℕ) (ending : Ending) → IsUnanswered script.told script.queries text ending → IsScripted script text ending
unanswered-scripted script text Done h = absurd h
unanswered-scripted script text Denied h = absurd h
unanswered-scripted script text Refused h = h
unanswered-scripted script text Incomplete h = inr h

-- ---- what is known

pub unlawful-unknown : (told : Told) (text : List ℕ) (ending : Ending) → IsUnlawful told text ending → IsUnknown false told text ending
unlawful-unknown told text Done h = h
unlawful-unknown told text Denied h = h
unlawful-unknown told text Refused h = h
unlawful-unknown told text Incomplete h = h

pub unfound-unknown : (told : Told) (text : List ℕ) (ending : Ending) → IsUnfound told text ending → IsUnknown true told text ending
unfound-unknown told text Done h = h
unfound-unknown told text Denied h = h
unfound-unknown told text Refused h = h
unfound-unknown told text Incomplete h = h
