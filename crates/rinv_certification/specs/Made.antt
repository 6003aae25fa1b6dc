-- The certificate of generators: what each of its keys is made of.
--   IsBasisItemOf, IsRelationItemOf                    an element with its cofactors, and a relation
--   HasCommonPart, HasBasisPart, HasNoBasisPart        the keys of every certificate, and those of kind `full` alone
--   IsCertificateOf                                    the whole
use Rattle.std.specs.Prelude.{◌≡◌, ℕ, List, [], ◌∷◌, ◌++◌, length, map, zip, ◌<◌, ◌^◌}
use Rattle.std.specs.List.{AllZip}
use Rattle.rinv_defs.specs.System.{System, Poly, space_count}
use Rattle.rinv_defs.specs.Extended.{Relation, graph}
use Rattle.rinv_defs.specs.Certificate.{Certificate, sound, full, BasisItem, RelationItem}
use Rattle.rinv_defs.specs.RelationConditions.{relation_of}
use Rattle.rinv_buch.specs.Kinds.{Found}
use Rattle.rinv_parts.specs.Points.{ArePolynomials}
use Rattle.rinv_coefficients.specs.Ties.{TiedRelation}
use Rattle.rinv_acceptance.specs.Inputs.{input_rows}
use Rattle.rinv_acceptance.specs.Raised.{IsRaised}
use Rattle.rinv_recording.specs.Recorded.{ArePairItemsOf}
use Rattle.rinv_at_graph.specs.AtGraph.{ProvesAtGraph}
use Rattle.rinv_generators.specs.Generated.{Generated}
use Rattle.rinv_json.specs.Ranges.{IsWritable}

-- ---- the basis

-- an element of the list, and its cofactors
pub record IsBasisItemOf (s : System) (group : Found ℕ) (h : Poly) (b : BasisItem) : Type 0 where
  pub element : b.h ≡ h
  pub cofactors : ProvesAtGraph s group h b.cofactors

-- ---- the relations

-- a relation over the common denominator, and the cofactors of its value at Z = g
pub record IsRelationItemOf (s : System) (group : Found ℕ) (r : Relation) (q : TiedRelation) (item : RelationItem) : Type 0 where
  pub raised : IsRaised s r q item
  pub cofactors : ProvesAtGraph s group (relation_of s item) item.cofactors
  pub normal : ArePolynomials s.p (space_count s) (item.d ∷ map (λ t. t.c) item.tail)

-- all of them
abbrev pub AreRelationItemsOf : Generated → List RelationItem → Type 0
AreRelationItemsOf g items = AllZip (λ x item. IsRelationItemOf g.told.system g.group x.0 x.1 item) (zip g.monic g.relations) items

-- ---- the whole

-- the system without its section, the fractions and their proofs, and the proofs of the laws
pub record HasCommonPart (g : Generated) (c : Certificate) : Type 0 where
  pub system : c.system ≡ record g.told.system { section = [] }
  pub fractions : c.fractions ≡ g.fractions
  pub invariance : c.invariance ≡ g.proofs
  pub laws : c.laws ≡ map (λ e. e.1) g.laws

-- where there is no section, the basis and what shows that it is one, and the relations
pub record HasBasisPart (g : Generated) (c : Certificate) : Type 0 where
  pub basis : AllZip (IsBasisItemOf g.told.system g.group) g.action.polys c.basis
  pub inputs : c.inputs ≡ input_rows g.told.system (length g.action.polys) (g.told.system.ideal ++ graph g.told.system)
  pub pairs : ArePairItemsOf g.told.system g.action c.pairs
  pub relations : AreRelationItemsOf g c.relations

-- nothing of this
pub record HasNoBasisPart (c : Certificate) : Type 0 where
  pub basis : c.basis ≡ []
  pub inputs : c.inputs ≡ []
  pub pairs : c.pairs ≡ []
  pub relations : c.relations ≡ []

-- c is the certificate of the generators: of kind `full` where the system has no section, and else of kind `sound`
pub data IsCertificateOf (g : Generated) (c : Certificate) : Type 0 where
  is_full : g.told.system.section ≡ [] → c.kind ≡ full → HasCommonPart g c → HasBasisPart g c → IsCertificateOf g c
  is_sound : ¬ (g.told.system.section ≡ []) → c.kind ≡ sound → HasCommonPart g c → HasNoBasisPart c → IsCertificateOf g c

-- it can be written, where its places are 32-bit numbers
abbrev pub IsWritableIfFew : Generated → Certificate → Type 0
IsWritableIfFew g c = length g.action.polys < 2 ^ 32 → length g.fractions < 2 ^ 32 → IsWritable c
