-- What is known of a system whose queries are answered.
--   fractions_of    the generators, where they are known
--   HasGroup        a basis of the group's ideal, made within the budget
--   IsKnown         what each case says of the system
--   Suffices        a case is enough for a query
use Rattle.std.specs.Prelude.{List, [], ⊤, IsFalse, ℕ, Bool}
use Rattle.rinv_defs.specs.Invariant.{Fraction}
use Rattle.rinv_defs.specs.Laws.{AllLawsHold}
use Rattle.rinv_text.specs.Told.{Told}
use Rattle.rinv_laws.specs.declared.group.GroupBasis.{GroupBasis}
use Rattle.rinv_laws.specs.Group.{IsGroupBasis}
use Rattle.rinv_gens.specs.Found.{ArePieces}
use Rattle.rinv_rewrite.specs.Prepared.{IsPrepared}
use Rattle.rinv_script.specs.Queries.{Query, needs_generators}
use Rattle.rinv_answers.specs.Budgets.{IsLimited, IsWithin}
use Rattle.rinv_queries.specs.declared.known.Known.{Known}
use Rattle.rinv_queries.specs.declared.known.Known.TheVariants.{Lawful, Generated}
use Rattle.rinv_defs.specs.System.{System}
use Rattle.rinv_queries.specs.Lines.{lines_before}

-- the generators, where they are known, and else none
abbrev pub fractions_of : Known → List Fraction
fractions_of (Lawful group) = []
fractions_of (Generated found basis) = found.fractions.items

-- a basis of the group's ideal, made within the budget
pub record HasGroup (told : Told) (group : GroupBasis) : Type 0 where
  pub basis : IsGroupBasis told.system group.basis group.reduced.items
  pub within : IsWithin told group.basis.journal

-- the laws hold, and there is a basis of the group's ideal; or there is all that is found on the way to the generators, and their relations
-- are ready
abbrev pub IsKnown : Told → Known → Type 0
IsKnown told (Lawful group) = AllLawsHold told.system × HasGroup told group
IsKnown told (Generated found basis) = IsLimited told × ArePieces told found × IsPrepared told.system found basis

-- it is enough for the query
abbrev pub Suffices : Known → Query → Type 0
Suffices (Lawful group) q = IsFalse (needs_generators q)
Suffices (Generated found basis) q = ⊤

-- the lines before the answer to a query
abbrev pub lines_ahead : System → Known → Bool → ℕ → Query → List ℕ
lines_ahead s known shown number q = lines_before s (fractions_of known) shown number q
