-- Where an answer ends with the line `complete`, the headline holds of it.
use Rattle.std.proofs.Common.{◌≡◌, ℕ, List, [], ◌++◌, Bool, true, false, inl, inr, refl, subst, codes, length}
use Rattle.rinv_defs.specs.System.{System}
use Rattle.rinv_defs.specs.Invariant.{Fraction}
use Rattle.rinv_defs.specs.Generators.{IsSound}
use Rattle.rinv_defs.specs.Certificate.{Certificate, Kind, invariance, sound, full}
use Rattle.rinv_defs.specs.Text.{fraction_lines, kind_text, yes_text}
use Rattle.rinv_text.specs.Told.{Told}
use Rattle.rinv_system.specs.Texts.{IsSystemText}
use Rattle.rinv_answers.specs.declared.incomplete.Phase.TheVariants as phase
use Rattle.rinv_answers.specs.declared.incomplete.Cause.TheVariants as cause
use Rattle.rinv_lines.specs.declared.ending.Ending.{Ending}
use Rattle.rinv_lines.specs.declared.ending.Ending.TheVariants.{Done, Denied, Refused, Incomplete}
use Rattle.rinv_answers.specs.GeneratorLines.{generator_lines}
use Rattle.rinv_answers.specs.Incomplete.{phase_of, cause_of}
use Rattle.rinv_answers.specs.Told.{AnswersTold}
use Rattle.rinv_verdict.specs.Check.{IsCheckAnswer}
use Rattle.rinv_answers.specs.Commands.Laws.{IsTested, IsCut, IsLawsAnswer}
use Rattle.rinv_answers.specs.Commands.Generators.{AreComplete, IsFound, IsPhaseCut, IsGenAnswer}
use Rattle.rinv_script.specs.declared.form.Form.TheVariants.{Rewrites, Whole}
use Rattle.rinv_script.specs.Queries.{Query, Script, need_generators}
use Rattle.rinv_script.specs.ScriptTexts.{IsScriptText}
use Rattle.rinv_queries.specs.Lines.{last_line_of, query_lines}
use Rattle.rinv_queries.specs.Cuts.{IsQueryCut}
use Rattle.rinv_certificates.specs.Commands.Certify.{IsCertifyAnswer, IsCutShort, IsMade}
use Rattle.rinv_queries.specs.Commands.Rewrite.{IsRewriteAnswer, IsRewritten, ShowsExpressions}
use Rattle.rinv_queries.specs.Commands.Run.{AnswersQueries, AreCompleteIf, IsCutIf, IsDenialIf, IsRunAnswer, IsScripted}
use Rattle.rinv_workload.specs.Workload.{workload_text}
use Rattle.rinv_bench.specs.Summary.{summary_lines}
use Rattle.rinv_bench.specs.Commands.Bench.{IsBenchAnswer, IsMeasured}
use Rattle.rinv_commands.specs.declared.command.Command.{Command}
use Rattle.rinv_commands.specs.declared.command.Command.TheVariants as command
use Rattle.rinv_commands.specs.Answers.{IsAnswer}
use Rattle.rinv_commands.specs.Headline.{EndsComplete, IsHeadline}
use Rattle.rinv_commands.proofs.LastLines.{ends-otherwise}
use Rattle.rinv_commands.proofs.ToldNames.{script-named, system-named}
use Rattle.rinv_commands.proofs.JsonTexts.{not-certificate}
use Rattle.rinv_commands.proofs.OtherLines.{not-hold, not-refused, not-incomplete, not-no, not-refused_part, not-denial, not-gen_denial, no-section}

-- complete generators are sound where there is no section
pub complete-sound : (s : System) (cs : List Fraction) → s.section ≡ [] → AreComplete s cs → IsSound s cs
complete-sound s cs none c = record { laws = c.laws; invariant = c.invariant; generates = c.generates none }

module _ (text : List ℕ) (h : EndsComplete text) where
  -- ---- check

  -- the kind `full` alone ends so
  kind-full : (front : List ℕ) (k : Kind) → text ≡ front ++ kind_text k → k ≡ full
  kind-full front full printed = refl
  kind-full front invariance printed = absurd (ends-otherwise text front (codes "invariant\n") h printed refl)
  kind-full front sound printed = absurd (ends-otherwise text front (codes "sound\n") h printed refl)

  yes-full : (c : Certificate) → text ≡ yes_text c → c.kind ≡ full
  unfolding yes_text
  yes-full c printed = kind-full (codes "yes\n" ++ fraction_lines c.system.p c.system.space 1 c.fractions) c.kind printed

  of-check : (bytes : List ℕ) (ending : Ending) → IsCheckAnswer bytes text ending → IsHeadline command.Check bytes text
  of-check bytes Done y = record {
    system = y.certificate.system;
    fractions = y.certificate.fractions;
    sound = y.complete (yes-full y.certificate y.printed);
    shown = record { certificate = y.certificate; denoted = y.denoted; system = refl; fractions = refl; printed = y.printed };
  }
  of-check bytes Denied n = absurd (not-no text n.failure h n.printed)
  of-check bytes Refused r = absurd (not-refused_part text r.part r.place h r.printed)
  of-check bytes Incomplete a = absurd a

  -- ---- laws

  cut : (told : Told) → IsCut told text → ⊥
  cut told (IsCut.in_group after halted halts within printed) = not-incomplete text phase.Group (cause_of told halted.why) h printed
  cut told (IsCut.in_laws found reduced x y basis within meets printed) = not-incomplete text phase.Laws (cause.Degree x y) h printed

  tested : (bytes : List ℕ) (ending : Ending) (told : Told) → IsSystemText bytes told → IsTested told text ending → ⊥
  tested bytes Done told denoted t = not-hold text h t.printed
  tested bytes Denied told denoted t = not-denial told text (system-named bytes told denoted) h t
  tested bytes Refused told denoted t = t
  tested bytes Incomplete told denoted t = cut told t

  of-laws : (bytes : List ℕ) (ending : Ending) → IsLawsAnswer bytes text ending → ⊥
  of-laws bytes ending (AnswersTold.answered told denoted t) = tested bytes ending told denoted t
  of-laws bytes ending (AnswersTold.refused line is printed) = not-refused text line h printed

  -- ---- gen

  phase-cut : (told : Told) → IsPhaseCut told text → ⊥
  phase-cut told c = not-incomplete text (phase_of c.phase) (cause_of told c.why) h c.printed

  found : (bytes : List ℕ) (ending : Ending) (told : Told) → IsSystemText bytes told → IsFound told text ending → IsHeadline command.Gen bytes text
  found bytes Done told denoted t = record {
    system = told.system;
    fractions = t.fractions;
    sound = complete-sound told.system t.fractions (no-section text (generator_lines told.system t.fractions) told.system h t.printed) t.complete;
    shown = record { told = told; denoted = denoted; system = refl; printed = t.printed };
  }
  found bytes Denied told denoted t = absurd (not-gen_denial told text (system-named bytes told denoted) h t)
  found bytes Refused told denoted t = absurd t
  found bytes Incomplete told denoted t = absurd (phase-cut told t)

  of-gen : (bytes : List ℕ) (ending : Ending) → IsGenAnswer bytes text ending → IsHeadline command.Gen bytes text
  of-gen bytes ending (AnswersTold.answered told denoted t) = found bytes ending told denoted t
  of-gen bytes ending (AnswersTold.refused line is printed) = absurd (not-refused text line h printed)

  -- ---- certify

  cut-short : (told : Told) → IsCutShort told text → ⊥
  cut-short told (IsCutShort.in_phase c) = not-incomplete text (phase_of c.phase) (cause_of told c.why) h c.printed
  cut-short told (IsCutShort.by_degrees d) = not-incomplete text phase.Certificate (cause.Degree d.x d.y) h d.printed
  cut-short told (IsCutShort.by_length c for_it long) = not-incomplete text phase.Certificate cause.Length h long.printed

  made : (bytes : List ℕ) (ending : Ending) (told : Told) → IsSystemText bytes told → IsMade told text ending → ⊥
  made bytes Done told denoted t = not-certificate text t.certificate h t.printed.printed
  made bytes Denied told denoted t = not-gen_denial told text (system-named bytes told denoted) h t
  made bytes Refused told denoted t = t
  made bytes Incomplete told denoted t = cut-short told t

  of-certify : (bytes : List ℕ) (ending : Ending) → IsCertifyAnswer bytes text ending → ⊥
  of-certify bytes ending (AnswersTold.answered told denoted t) = made bytes ending told denoted t
  of-certify bytes ending (AnswersTold.refused line is printed) = not-refused text line h printed

  -- ---- rewrite and run

  query-cut : (told : Told) (queries : List Query) → IsQueryCut told queries text → ⊥
  query-cut told queries c = not-incomplete text (phase.Query c.number) (cause.Degree c.x c.y) h c.printed

  expressed : (bytes : List ℕ) (ending : Ending) (script : Script) → IsScriptText Rewrites bytes script → ShowsExpressions script text ending → IsHeadline command.Rewrite bytes text
  expressed bytes ending script denoted t =
      let s = script.told.system in
      record {
        system = s;
        fractions = t.fractions;
        sound = complete-sound s t.fractions (no-section text (generator_lines s t.fractions ++ query_lines s t.fractions true 1 script.queries t.outcomes) s h t.printed) t.complete;
        shown = record { script = script; denoted = denoted; system = refl; outcomes = t.outcomes; answered = t.answered; printed = t.printed };
      }

  rewritten : (bytes : List ℕ) (ending : Ending) (script : Script) → IsScriptText Rewrites bytes script → IsRewritten script text ending → IsHeadline command.Rewrite bytes text
  rewritten bytes Done script denoted t = expressed bytes Done script denoted t
  rewritten bytes Denied script denoted (inl d) = absurd (not-gen_denial script.told text (script-named Rewrites bytes script denoted) h d)
  rewritten bytes Denied script denoted (inr t) = expressed bytes Denied script denoted t
  rewritten bytes Refused script denoted t = absurd t
  rewritten bytes Incomplete script denoted (inl c) = absurd (phase-cut script.told c)
  rewritten bytes Incomplete script denoted (inr c) = absurd (query-cut script.told script.queries c)

  of-rewrite : (bytes : List ℕ) (ending : Ending) → IsRewriteAnswer bytes text ending → IsHeadline command.Rewrite bytes text
  of-rewrite bytes ending (AnswersTold.answered script denoted t) = rewritten bytes ending script denoted t
  of-rewrite bytes ending (AnswersTold.refused line is printed) = absurd (not-refused text line h printed)

  -- `complete` comes where generators are needed, and without a section, alone
  last-of-run : (needed : Bool) (front : List ℕ) (s : System) → text ≡ front ++ last_line_of needed s → (needed ≡ true) × (s.section ≡ [])
  last-of-run true front s is = (refl, no-section text front s h is)
  last-of-run false front s is = absurd (ends-otherwise text front (codes "done\n") h is refl)

  answers : (bytes : List ℕ) (ending : Ending) (script : Script) → IsScriptText Whole bytes script → AnswersQueries script text ending → IsHeadline command.Run bytes text
  answers bytes ending script denoted t =
      let s = script.told.system in
      let last = last-of-run (need_generators script.queries) (query_lines s t.fractions false 1 script.queries t.outcomes) s t.printed in
      record {
        system = s;
        fractions = t.fractions;
        sound = complete-sound s t.fractions last.1 (subst (λ (b : Bool). AreCompleteIf b s t.fractions) last.0 t.complete);
        shown = record { script = script; denoted = denoted; system = refl; outcomes = t.outcomes; answered = t.answered; printed = t.printed };
      }

  not-denial_if : (needed : Bool) (script : Script) (bytes : List ℕ) → IsScriptText Whole bytes script → IsDenialIf needed script.told text → ⊥
  not-denial_if true script bytes denoted d = not-gen_denial script.told text (script-named Whole bytes script denoted) h d
  not-denial_if false script bytes denoted d = not-denial script.told text (script-named Whole bytes script denoted) h d

  cut-if : (needed : Bool) (told : Told) → IsCutIf needed told text → ⊥
  cut-if true told c = phase-cut told c
  cut-if false told c = cut told c

  scripted : (bytes : List ℕ) (ending : Ending) (script : Script) → IsScriptText Whole bytes script → IsScripted script text ending → IsHeadline command.Run bytes text
  scripted bytes Done script denoted t = answers bytes Done script denoted t
  scripted bytes Denied script denoted (inl d) = absurd (not-denial_if (need_generators script.queries) script bytes denoted d)
  scripted bytes Denied script denoted (inr t) = answers bytes Denied script denoted t
  scripted bytes Refused script denoted t = absurd t
  scripted bytes Incomplete script denoted (inl c) = absurd (cut-if (need_generators script.queries) script.told c)
  scripted bytes Incomplete script denoted (inr c) = absurd (query-cut script.told script.queries c)

  of-run : (bytes : List ℕ) (ending : Ending) → IsRunAnswer bytes text ending → IsHeadline command.Run bytes text
  of-run bytes ending (AnswersTold.answered script denoted t) = scripted bytes ending script denoted t
  of-run bytes ending (AnswersTold.refused line is printed) = absurd (not-refused text line h printed)

  -- ---- bench

  measured : (k : ℕ) (bytes : List ℕ) (ending : Ending) (script : Script) → IsScriptText Whole (workload_text k) script → IsMeasured k script text ending → IsHeadline (command.Bench k) bytes text
  measured k bytes Done script denoted t =
      let s = script.told.system in
      record {
        system = s;
        fractions = t.fractions;
        sound = complete-sound s t.fractions (no-section text (summary_lines k s (length t.fractions) t.outcomes) s h t.printed) t.complete;
        shown = record { script = script; denoted = denoted; system = refl; outcomes = t.outcomes; answered = t.answered; printed = t.printed };
      }
  measured k bytes Denied script denoted t = absurd (not-gen_denial script.told text (script-named Whole (workload_text k) script denoted) h t)
  measured k bytes Refused script denoted t = absurd t
  measured k bytes Incomplete script denoted (inl c) = absurd (phase-cut script.told c)
  measured k bytes Incomplete script denoted (inr c) = absurd (query-cut script.told script.queries c)

  of-bench : (k : ℕ) (bytes : List ℕ) (ending : Ending) → IsBenchAnswer k text ending → IsHeadline (command.Bench k) bytes text
  of-bench k bytes ending (AnswersTold.answered script denoted t) = measured k bytes ending script denoted t
  of-bench k bytes ending (AnswersTold.refused line is printed) = absurd (not-refused text line h printed)

pub headline : (asked : Command) (bytes text : List ℕ) (ending : Ending) → IsAnswer asked bytes text ending → EndsComplete text → IsHeadline asked bytes text
headline command.Check bytes text ending a h = of-check text h bytes ending a
headline command.Laws bytes text ending a h = absurd (of-laws text h bytes ending a)
headline command.Gen bytes text ending a h = of-gen text h bytes ending a
headline command.Rewrite bytes text ending a h = of-rewrite text h bytes ending a
headline command.Certify bytes text ending a h = absurd (of-certify text h bytes ending a)
headline command.Run bytes text ending a h = of-run text h bytes ending a
headline (command.Bench k) bytes text ending a h = of-bench text h k bytes ending a
