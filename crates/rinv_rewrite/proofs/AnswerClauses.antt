-- What an answer says, clause by clause; and where a denominator vanishes, there is a section.
use mathlib.Core.Logic.{∥∥₁_elim}
use Rattle.std.proofs.Common.{◌≡◌, List, [], length, ◌∙◌}
use Rattle.std.specs.Prelude.{MatchOption, Option, Some, None, ⊤}
use Rattle.rinv_frac.specs.Fractions.{IsStored}
use Rattle.rinv_defs.specs.System.{System}
use Rattle.rinv_defs.specs.SystemForm.{IsSystem}
use Rattle.rinv_defs.specs.Laws.{AllLawsHold}
use Rattle.rinv_defs.specs.Invariant.{Fraction, IsInvariant}
use Rattle.rinv_defs.specs.Extended.{Vanishes}
use Rattle.rinv_defs.specs.Generators.{Denotes, Expression}
use Rattle.rinv_soundness.specs.Rewriting.{SymbolRelation}
use Rattle.rinv_soundness.proofs.Vanishing.{vanishes_nowhere}
use Rattle.rinv_text.specs.Told.{Told}
use Rattle.rinv_gens.specs.declared.kinds.Findings.{Findings}
use Rattle.rinv_gens.specs.Found.{ArePieces}
use Rattle.rinv_rewrite.specs.Symbols.{AreTied}
use Rattle.rinv_rewrite.specs.Taken.{IsTaken, DenominatorVanishes, IsVanishing}
use Rattle.rinv_rewrite.specs.Answers.{IsAnswer}

-- the relations that were found are tied to the generators
pub found-tied : (told : Told) (g : Findings) → ArePieces told g → AreTied told.system g.fractions.items g.relations.items
found-tied told g are = record { relations = g.monic; basis = are.monic; ties = are.relations }

module _ (s : System) (cs : List Fraction) (qs : List SymbolRelation) (f : Fraction) where
  pub exact : (r : Option Expression) → IsAnswer s cs qs f r → MatchOption r (DenominatorVanishes s f) (λ e. ¬ (Vanishes s f.1) × Denotes s.p cs e f)
  exact None h = h
  exact (Some e) h = (h.lasts, h.denotes)

  pub stored_symbols : (r : Option Expression) → IsAnswer s cs qs f r → MatchOption r ⊤ (IsStored s.p (length cs))
  stored_symbols None h = tt
  stored_symbols (Some e) h = h.stored

  pub taken : (r : Option Expression) → IsAnswer s cs qs f r → MatchOption r ⊤ (IsTaken s cs qs f)
  taken None h = tt
  taken (Some e) h = h.taken

-- without a section no denominator of an invariant vanishes
pub vanishes-never : (s : System) (f : Fraction) → IsSystem s → AllLawsHold s → IsInvariant s f → s.section ≡ [] → DenominatorVanishes s f → ⊥
vanishes-never s f system hold invariant none vanishes =
    ∥∥₁_elim vanishes (λ x y. absurd x) (vanishes_nowhere s f.1 system hold none invariant.fraction.denominator invariant.fraction.nonzero)

pub vanishing-of : (s : System) (f : Fraction) → IsSystem s → AllLawsHold s → IsInvariant s f → DenominatorVanishes s f → IsVanishing s f
vanishing-of s f system hold invariant vanishes = record {
  on_section = λ (none : s.section ≡ []). vanishes-never s f system hold invariant none vanishes;
  is_invariant = invariant;
  vanishes = vanishes;
}
