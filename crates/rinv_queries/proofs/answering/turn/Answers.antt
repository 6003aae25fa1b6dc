use Rattle.std.proofs.Common.{◌∙◌, ◌++◌, ◌||◌, Bool, List, ℕ, ap, length, append_assoc, sym, subst}
use Rattle.rinv_script.specs.Stored.{query_of}
use Rattle.rinv_queries.specs.Lines.{lines_before, outcome_line}
use Rattle.rinv_queries.specs.Known.{fractions_of}
use Rattle.rinv_queries.specs.Written.{IsStoredOutcome}
use Rattle.rinv_queries.proofs.Pieces.{symbols-number}
use Rattle.rinv_queries.proofs.answering.turn.Goals as goal

pub write_outcome-requires-clause-variables : goal.write_outcome-requires-clause-variables
write_outcome-requires-clause-variables c = (length (fractions_of c.args.known.now), c.requires.names)

pub write_outcome-requires-clause-outcome : goal.write_outcome-requires-clause-outcome
write_outcome-requires-clause-outcome c =
    subst (λ (n : ℕ). IsStoredOutcome c.args.system.now.system n c.in_ok-outcome.outcome) (sym (ap length c.requires.names.symbols ∙ symbols-number (length (fractions_of c.args.known.now)))) c.in_ok-outcome.ensures.stored

pub returns-clause-answered : goal.returns-clause-answered
returns-clause-answered c =
    let s = c.args.system.now.system in
    let cs = fractions_of c.args.known.now in
    let before = lines_before s cs c.args.page.now.shown c.args.number (query_of c.args.query.now) in
    record {
      outcome = c.in_ok-outcome.outcome;
      answered = c.in_ok-outcome.ensures.answers;
      text = c.in_ok-write_outcome.ensures
          ∙ ap (λ (w : List ℕ). w ++ outcome_line s c.args.names.now.symbols c.args.number c.in_ok-outcome.outcome) c.in_ok-write_before.ensures
          ∙ append_assoc c.args.page.now.text.items before (outcome_line s c.args.names.now.symbols c.args.number c.in_ok-outcome.outcome)
          ∙ ap (λ (ns : List (List ℕ)). c.args.page.now.text.items ++ (before ++ outcome_line s ns c.args.number c.in_ok-outcome.outcome)) c.requires.names.symbols;
      shown = c.either-page.ensures ∙ ap (λ (b : Bool). c.args.page.now.shown || b) c.needs_generators.ensures;
      denied = c.either-page-2.ensures ∙ ap (λ (b : Bool). c.args.page.now.denied || b) c.denies.ensures;
    }
