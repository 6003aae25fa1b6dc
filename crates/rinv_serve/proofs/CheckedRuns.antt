-- What a run of `certify` wrote, a run of `check` accepts.
--   accepted-run
use Rattle.std.proofs.Common.{◌≡◌, ℕ, ◌+◌, ◌≤◌, List, ◌++◌, length, length-append, append-nil, String, Option, Some, None, inl, inr, sym, ap, ◌∙◌, subst, arith}
use Rattle.std.specs.declared.alloc.Global.{Global}
use Rattle.std.specs.Io.KnownBytes.{Consumes, IsAtEnd}
use Rattle.rinv_lines.specs.declared.ending.Ending.{Ending}
use Rattle.rinv_lines.specs.declared.ending.Ending.TheVariants as ends
use Rattle.rinv_certificates.specs.Commands.Certify.{IsCertifyAnswer}
use Rattle.rinv_commands.specs.declared.command.Command.{Command}
use Rattle.rinv_commands.specs.declared.command.Command.TheVariants.{Certify, Check}
use Rattle.rinv_commands.specs.Answers.{IsAnswer}
use Rattle.rinv_commands.specs.Inputs.{reads}
use Rattle.rinv_commands.proofs.Acceptance.{short, accepted}
use Rattle.rinv_serve.specs.Run.{IsDue, Delivers, AnswersLong, LeavesSo, max_input}
use Rattle.rinv_serve.specs.Words.{command_of}
use Rattle.rinv_serve.specs.Accepted.{Certifies, Checks}
use Rattle.rinv_serve.proofs.RunHeadlines.{grown}

abbrev command-in : Option Command → Command
command-in None = Check
command-in (Some c) = c

-- the words are one command
one-command : (words : List (String Global)) (c d : Command) → command_of words ≡ Some c → command_of words ≡ Some d → c ≡ d
one-command words c d e f = ap command-in (sym e ∙ f)

-- ---- the input

-- what was read of a source to its end is what it had
all-read : (text bytes : List ℕ) (left' : Option (List ℕ)) → Consumes (Some text) left' bytes → IsAtEnd left' → bytes ≡ text
all-read text bytes None taken end = absurd taken
all-read text bytes (Some rest) taken end = sym (append-nil bytes) ∙ ap (λ l. bytes ++ l) (sym end) ∙ sym taken

-- no more is read than it had
no-longer : (text bytes : List ℕ) (left' : Option (List ℕ)) → Consumes (Some text) left' bytes → length bytes ≤ length text
no-longer text bytes None taken = absurd taken
no-longer text bytes (Some rest) taken = let e : length text ≡ length (bytes ++ rest) = ap length taken in omega (arith, e, length-append bytes rest)

-- ---- the runs

-- what `certify` was due is its answer to some bytes
answer-due : (words : List (String Global)) (left left' : Option (List ℕ)) (text : List ℕ) → command_of words ≡ Some Certify → IsDue words left left' text ends.Done
    → (bytes : List ℕ) × IsCertifyAnswer bytes text ends.Done
answer-due words left left' text asks d = elim d.defined [
  | inl all ↦ (all.bytes, subst (λ (c : Command). IsAnswer c all.bytes text ends.Done) (one-command words d.asked Certify d.words_ask asks) all.answer)
  | inr long ↦ absurd (not-refused long.refused)
]
  where
    not-refused : ends.Done ≡ ends.Refused → ⊥
    not-refused e = cc

-- `check` was done with it
check-due : (bytes text : List ℕ) → IsCertifyAnswer bytes text ends.Done → (words : List (String Global)) (left' : Option (List ℕ)) (shown : List ℕ) (ending : Ending)
    → command_of words ≡ Some Check → IsDue words (Some text) left' shown ending → ending ≡ ends.Done
check-due bytes text certified words left' shown ending asks d = elim d.defined [
  | inl all ↦ accepted bytes text shown ending certified
      (subst (λ (b : List ℕ). IsAnswer Check b shown ending) (all-read text all.bytes left' all.taken (subst (λ (c : Command). LeavesSo (reads c) (Some text) left' all.bytes) (one-command words d.asked Check d.words_ask asks) all.end))
      (subst (λ (c : Command). IsAnswer c all.bytes shown ending) (one-command words d.asked Check d.words_ask asks) all.answer))
  | inr long ↦ absurd (too-many long)
]
  where
    too-many : AnswersLong d.asked (Some text) left' shown ending → ⊥
    too-many long =
        let fits : length text ≤ max_input = short bytes text certified in
        let read : length long.bytes ≤ length text = no-longer text long.bytes left' long.taken in
        let many : length long.bytes ≡ max_input + 1 = long.many in
        omega (arith, fits, read, many)

pub accepted-run : (words : List (String Global)) (left left' written written' : Option (List ℕ)) (before text : List ℕ)
    → (other : List (String Global)) (source source' sink sink' : Option (List ℕ)) (ending : Ending)
    → Certifies words left left' written written' before text → Checks other source source' sink sink' text ending → ending ≡ ends.Done
accepted-run words left left' written written' before text other source source' sink sink' ending c k =
    let d : Delivers words left left' written written' ends.Done = c.run in
    let printed = grown before text d.text written written' c.old c.new d.appended in
    let a = answer-due words left left' text c.words_ask (subst (λ (t : List ℕ). IsDue words left left' t ends.Done) printed d.due) in
    check-due a.0 text a.1 other source' k.run.text ending k.words_ask (subst (λ (o : Option (List ℕ)). IsDue other o source' k.run.text ending) k.source k.run.due)
