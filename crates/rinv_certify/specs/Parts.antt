-- The parts of a certificate, as values, and what is tested of their products.
--   IsCommon             the keys of every certificate
--   basis_seen, relations_seen    lists of items, as contracts see them
--   AreCofactors, ProofFits    cofactors of a law, and that those of the law at a place fit
--   LawsFit, ChangesFit, BasisFits, RelationsFit    the products of the conditions fit
use Rattle.std.specs.Prelude.{◌≡◌, ◌<◌, ◌≤◌, ℕ, List, [], length, get_or, map, zip, true, ⊤}
use Rattle.std.specs.List.{list_all}
use Rattle.rinv_algebra.specs.Residue.{residue_ops}
use Rattle.rinv_algebra.specs.Fits.{combination_fits}
use Rattle.rinv_defs.specs.System.{System, Poly, ideal_copies}
use Rattle.rinv_defs.specs.Laws.{Law, L1, all_laws, copies}
use Rattle.rinv_defs.specs.Certificate.{Certificate, BasisItem, RelationItem, Tied as DefinedTied, to_constant, to_generator}
use Rattle.rinv_cert.specs.declared.certificate.Tied.{Tied}
use Rattle.rinv_cert.specs.Seen.{system_by, basis_item_by, relation_item_by}
use Rattle.rinv_parts.specs.LawNames.{variables_of}
use Rattle.rinv_parts.specs.Points.{ArePolynomials}
use Rattle.rinv_acceptance.specs.Fits.{law_multiplies, change_multiplies, at_graph_multiplies, relation_multiplies}
use Rattle.rinv_generators.specs.Generated.{Generated}
use Rattle.rinv_certify.specs.declared.common.Common.{Common}
use Rattle.rinv_certification.specs.Made.{HasCommonPart}

-- ---- values

-- the system without its section, the fractions and their proofs, and the proofs of the laws
pub record IsCommon (g : Generated) (c : Common) : Type 0 where
  pub system : system_by (λ f. f) c.system ≡ record g.told.system { section = [] }
  pub fractions : c.fractions ≡ g.fractions
  pub invariance : c.invariance ≡ g.proofs
  pub laws : c.laws ≡ map (λ e. e.1) g.laws

-- the items of a basis, and of relations
abbrev pub basis_seen : List (Poly × List Poly) → List BasisItem
basis_seen items = map (basis_item_by (λ f. f)) items

abbrev pub relations_seen : List (List ℕ × Poly × List (List ℕ × Poly × Tied) × List Poly) → List RelationItem
relations_seen items = map (relation_item_by (λ f. f)) items

-- a tie is a constant, or the number of one of so many generators
abbrev pub IsInside : ℕ → DefinedTied → Type 0
IsInside n (to_constant v) = ⊤
IsInside n (to_generator k) = (0 < k) × (k ≤ n)

-- ---- products

-- so many cofactors as there are generators in the copies of the group's ideal, in the form in which they are stored
pub record AreCofactors (s : System) (law : Law) (us : List Poly) : Type 0 where
  pub number : length us ≡ length (ideal_copies s (copies law))
  pub normal : ArePolynomials s.p (variables_of s law) us

-- the products of the proof of the law at a place fit
abbrev pub ProofFits : Generated → ℕ → Type 0
ProofFits g k = list_all (λ us. combination_fits (residue_ops g.told.system.p) us (ideal_copies g.told.system (copies (get_or g.laws k (L1, [])).0))) (get_or g.laws k (L1, [])).1 ≡ true

-- each product that the conditions on the laws multiply fits
abbrev pub LawsFit : Generated → Type 0
LawsFit g = (c : Certificate) → HasCommonPart g c → list_all (law_multiplies c) all_laws ≡ true

-- so does each that the condition on the fractions does
abbrev pub ChangesFit : Generated → Type 0
ChangesFit g = list_all (change_multiplies g.told.system) (zip g.fractions g.proofs) ≡ true

-- and each that those on the basis and on the relations do
abbrev pub BasisFits : System → List BasisItem → Type 0
BasisFits s items = list_all (λ b. at_graph_multiplies s b.h b.cofactors) items ≡ true

abbrev pub RelationsFit : Generated → List RelationItem → Type 0
RelationsFit g items = (c : Certificate) → HasCommonPart g c → list_all (relation_multiplies c) items ≡ true
