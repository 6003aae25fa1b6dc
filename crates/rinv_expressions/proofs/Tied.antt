-- What the invariant of generators says of rewriting by them.
--   generators-tied       the relations are tied to the generators
--   generators-symbols    so they are relations over a symbol for each generator
--   answers-of            an answer, where the laws hold
use Rattle.std.proofs.Common.{length, All}
use Rattle.std.specs.Prelude.{Option, Some, None}
use Rattle.rinv_defs.specs.System.{space_count}
use Rattle.rinv_defs.specs.Invariant.{Fraction, IsInvariant}
use Rattle.rinv_defs.specs.Generators.{Expression}
use Rattle.rinv_generators.specs.Generated.{Generated, IsGenerators}
use Rattle.rinv_rewrite.specs.Symbols.{AreTied, IsSymbolRelation}
use Rattle.rinv_rewrite.specs.Answers.{IsAnswer}
use Rattle.rinv_rewrite.proofs.AnswerClauses.{vanishing-of}
use Rattle.rinv_rewrite.proofs.TiedRelations.{tied_relations}
use Rattle.rinv_expressions.specs.Expressed.{Answers, relations_of}

module _ (g : Generated) (are : IsGenerators g) where
  pub generators-tied : AreTied g.told.system g.fractions g.relations
  generators-tied = record { relations = g.monic; basis = are.monic; ties = are.relations }

  pub generators-symbols : All (IsSymbolRelation g.told.system.p (length g.fractions) (space_count g.told.system)) g.relations
  generators-symbols = tied_relations g.told.system g.fractions g.relations generators-tied

  pub answers-of : (f : Fraction) (answer : Option Expression) → IsInvariant g.told.system f → IsAnswer g.told.system g.fractions (relations_of g) f answer → Answers g f answer
  answers-of f None invariant h = vanishing-of g.told.system f are.form are.hold invariant h
  answers-of f (Some e) invariant h = h
