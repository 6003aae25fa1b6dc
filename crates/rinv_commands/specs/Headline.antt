-- The headline: what the last line `complete` says.
use Rattle.std.specs.Prelude.{◌≡◌, ℕ, List, ◌∷◌, [], ◌++◌, length, codes}
use Rattle.rinv_defs.specs.System.{System}
use Rattle.rinv_defs.specs.Invariant.{Fraction}
use Rattle.rinv_defs.specs.Generators.{IsSound}
use Rattle.rinv_defs.specs.Certificate.{Certificate}
use Rattle.rinv_defs.specs.Text.{yes_text}
use Rattle.rinv_json.specs.Denoted.{DenotesCertificate}
use Rattle.rinv_text.specs.Told.{Told}
use Rattle.rinv_system.specs.Texts.{IsSystemText}
use Rattle.rinv_system.specs.Written.{text_of}
use Rattle.rinv_script.specs.declared.form.Form.{Form}
use Rattle.rinv_script.specs.declared.form.Form.TheVariants.{Rewrites, Whole}
use Rattle.rinv_script.specs.Queries.{Query, Script}
use Rattle.rinv_script.specs.ScriptTexts.{IsScriptText}
use Rattle.rinv_answers.specs.GeneratorLines.{gen_text}
use Rattle.rinv_queries.specs.declared.outcome.Outcome.{Outcome}
use Rattle.rinv_queries.specs.Outcomes.{AreAnswered}
use Rattle.rinv_queries.specs.Lines.{rewrite_text, run_text}
use Rattle.rinv_workload.specs.Workload.{workload_text}
use Rattle.rinv_bench.specs.Summary.{summary_text}
use Rattle.rinv_commands.specs.declared.command.Command.{Command}
use Rattle.rinv_commands.specs.declared.command.Command.TheVariants.{Check, Laws, Gen, Rewrite, Certify, Run, Bench}

-- the text is made of lines, of which the last is `complete`
pub record EndsComplete (text : List ℕ) : Type 0 where
  pub before : List (List ℕ)
  pub whole : text ≡ text_of (before ++ codes "complete" ∷ [])

-- the bytes denote a certificate of the system with these fractions, and the text shows them
pub record ShowsCertified (bytes text : List ℕ) (s : System) (cs : List Fraction) : Type 0 where
  pub certificate : Certificate
  pub denoted : DenotesCertificate bytes certificate
  pub system : s ≡ certificate.system
  pub fractions : cs ≡ certificate.fractions
  pub printed : text ≡ yes_text certificate

-- the bytes denote the system, and the text shows these fractions
pub record ShowsFound (bytes text : List ℕ) (s : System) (cs : List Fraction) : Type 0 where
  pub told : Told
  pub denoted : IsSystemText bytes told
  pub system : s ≡ told.system
  pub printed : text ≡ gen_text s cs

-- The bytes tell a script, which asks queries of the system, and each is answered with these fractions for the generators: one for an
-- expression by an expression that has the value of its fraction, where this is invariant, and only else by the rest of its change. The text
-- shows this.
pub record ShowsAnswered (form : Form) (bytes : List ℕ) (shown : List Query → List Outcome → List ℕ) (text : List ℕ) (s : System) (cs : List Fraction) : Type 0 where
  pub script : Script
  pub denoted : IsScriptText form bytes script
  pub system : s ≡ script.told.system
  pub outcomes : List Outcome
  pub answered : AreAnswered s cs script.queries outcomes
  pub printed : text ≡ shown script.queries outcomes

-- what the input of a command denotes, and what the text shows of it; `laws` and `certify` never end so, and `bench` has the script of the
-- workload
abbrev pub Shows : Command → List ℕ → List ℕ → System → List Fraction → Type 0
Shows Check bytes text s cs = ShowsCertified bytes text s cs
Shows Laws bytes text s cs = ⊥
Shows Gen bytes text s cs = ShowsFound bytes text s cs
Shows Rewrite bytes text s cs = ShowsAnswered Rewrites bytes (rewrite_text s cs) text s cs
Shows Certify bytes text s cs = ⊥
Shows Run bytes text s cs = ShowsAnswered Whole bytes (run_text s cs) text s cs
Shows (Bench k) bytes text s cs = ShowsAnswered Whole (workload_text k) (λ queries. summary_text k s (length cs)) text s cs

-- The input denotes a system, and the text shows fractions. The laws hold: the polynomials of the system are a group that acts on affine
-- space. Each of the fractions is invariant under it, and each invariant fraction, of any degree, is a rational expression in them.
pub record IsHeadline (asked : Command) (bytes text : List ℕ) : Type 0 where
  pub system : System
  pub fractions : List Fraction
  pub sound : IsSound system fractions
  pub shown : Shows asked bytes text system fractions

-- where the text ends with `complete`, the headline holds of it
abbrev pub TellsTruly : Command → (bytes text : List ℕ) → Type 0
TellsTruly asked bytes text = EndsComplete text → IsHeadline asked bytes text
