-- What is made for a system, and the value that it is together with the system.
--   laws_of              the proofs of the laws, as lists
--   generated_of         the system with what is made for it
--   AreProved            what was found, with its proofs
--   AreNumbered          relations and fractions, as the coefficients are numbered
--   IsAssembled          what `assemble` makes of relations
use Rattle.std.specs.Prelude.{◌≡◌, ℕ, List, ◌++◌, map, All}
use Rattle.std.specs.List.{AllZip}
use Rattle.rinv_defs.specs.System.{System, Poly, space_count}
use Rattle.rinv_defs.specs.SystemForm.{IsSystem}
use Rattle.rinv_defs.specs.Laws.{Law}
use Rattle.rinv_defs.specs.Invariant.{Fraction}
use Rattle.rinv_defs.specs.Extended.{Relation}
use Rattle.rinv_groebner.specs.Journal.{Entry}
use Rattle.rinv_text.specs.Told.{Told}
use Rattle.rinv_buch.specs.Kinds.{Found, journal_of}
use Rattle.rinv_parts.specs.LawNames.{law_of}
use Rattle.rinv_frac.specs.Fractions.{IsStored}
use Rattle.rinv_laws.specs.declared.proving.LawProofs.{LawProofs}
use Rattle.rinv_change.specs.Cofactors.{ProvesInvariance}
use Rattle.rinv_coefficients.specs.Coefficients.{generators_of}
use Rattle.rinv_coefficients.specs.Ties.{TiedRelation, Ties}
use Rattle.rinv_gens.specs.declared.kinds.Findings.{Findings}
use Rattle.rinv_gens.specs.Found.{ArePieces}
use Rattle.rinv_generators.specs.declared.assembling.Assembled.{Assembled}
use Rattle.rinv_generators.specs.declared.making.Made.{Made}
use Rattle.rinv_generators.specs.Generated.{Generated, ProveLaws, IsGenerators}
use Rattle.rinv_laws.specs.declared.group.GroupBasis.{GroupBasis}
use Rattle.rinv_buch.specs.declared.kinds.Entry.{Entry as StoredEntry}

-- the proofs of the laws, as lists of lists
abbrev pub laws_of : LawProofs → List (Law × List (List Poly))
laws_of laws = map (λ e. (law_of e.0, map (λ us. us.items) e.1.items)) laws.cofactors.items

-- the system with what is made for it
abbrev pub generated_of : Told → Made → Generated
generated_of told m = record {
  told = told;
  group = m.group.basis;
  reduced = m.group.reduced.items;
  laws = laws_of m.laws;
  action = m.action;
  monic = m.monic;
  relations = m.relations.items;
  fractions = m.fractions.items;
  proofs = map (λ us. us.items) m.proofs.items;
  journal = journal_of m.journal.items;
}

-- what was found for a system, with the proofs of the laws and of the generators, and the journal of both runs
pub record AreProved (told : Told) (found : Findings) (laws : List (Law × List (List Poly))) (proofs : List (List Poly)) (journal : List Entry) : Type 0 where
  pub form : IsSystem told.system
  pub pieces : ArePieces told found
  pub proved_laws : ProveLaws told.system found.group.basis laws
  pub proved : AllZip (ProvesInvariance told.system found.group.basis) found.fractions.items proofs
  pub entries : journal ≡ found.group.basis.journal ++ found.action.journal

-- these are the generators of the relations, and the relations tied to them
pub record AreNumbered (s : System) (monic : List Relation) (relations : List TiedRelation) (fractions : List Fraction) : Type 0 where
  pub are : fractions ≡ generators_of s.p monic
  pub stored : All (IsStored s.p (space_count s)) fractions
  pub ties : AllZip (Ties s.p fractions) relations monic

-- the coefficients of the relations are numbered, the generators are proved to be invariant, and the journal is that of both runs
pub record IsAssembled (s : System) (group action : Found ℕ) (monic : List Relation) (a : Assembled) : Type 0 where
  pub numbered : AreNumbered s monic a.relations.items a.fractions.items
  pub proved : AllZip (ProvesInvariance s group) a.fractions.items (map (λ us. us.items) a.proofs.items)
  pub entries : journal_of a.journal.items ≡ group.journal ++ action.journal

-- for each fraction a proof that it is invariant
abbrev pub AreProofs : System → GroupBasis → List Fraction → List (List Poly) → Type 0
AreProofs s group cs uss = AllZip (ProvesInvariance s group.basis) cs uss

-- for each generator that was found
abbrev pub AreProofsFor : System → Findings → List (List Poly) → Type 0
AreProofsFor s found uss = AllZip (ProvesInvariance s found.group.basis) found.fractions.items uss

-- where all is proved of the system that is told, what is made are generators
abbrev pub MakesGenerators : Told → Findings → LawProofs → List (List Poly) → List StoredEntry → Made → Type 0
MakesGenerators told found laws proofs journal made = AreProved told found (laws_of laws) proofs (journal_of journal) → IsGenerators (generated_of told made)
