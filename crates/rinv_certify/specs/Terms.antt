-- The terms of a relation, over its common denominator, as they are made.
--   IsTerm, TermFits, TieFits              Z^a f, and that it and a tie fit
--   IsTailTerm, AreTailTerms               the terms of a tail as items
--   IsStoredTerm, IsSumOfTerms             and as polynomials in all variables
--   IsDifferenceOf                         the lead less the terms
--   InEach, OfRelation                     in each certificate, and for the relation at a place
use Rattle.std.specs.Prelude.{◌≡◌, ℕ, List, [], ◌∷◌, get_or, map, zip, flat_map, true}
use Rattle.std.specs.List.{AllZip}
use Rattle.rinv_algebra.specs.Ring.{IsSame}
use Rattle.rinv_algebra.specs.Residue.{residue_ops}
use Rattle.rinv_algebra.specs.Polynomial.{poly_ops, term_product, difference}
use Rattle.rinv_algebra.specs.Fits.{product_fits}
use Rattle.rinv_poly.specs.Sums.{sum_of}
use Rattle.rinv_defs.specs.System.{System, Poly}
use Rattle.rinv_defs.specs.Extended.{Relation}
use Rattle.rinv_defs.specs.Invariant.{Fraction}
use Rattle.rinv_defs.specs.Certificate.{Certificate, Tied as DefinedTied}
use Rattle.rinv_defs.specs.RelationConditions.{z_power, behind_z}
use Rattle.rinv_cert.specs.declared.certificate.Tied.{Tied}
use Rattle.rinv_cert.specs.Seen.{tail_item_by, relation_item_by}
use Rattle.rinv_parts.specs.Points.{IsStoredIn}
use Rattle.rinv_reduction.specs.Localised.{all_count}
use Rattle.rinv_coefficients.specs.Ties.{TiedRelation}
use Rattle.rinv_acceptance.specs.Fits.{tie_multiplies, relation_multiplies}
use Rattle.rinv_acceptance.specs.Raised.{IsTailItemOf}
use Rattle.rinv_generators.specs.Generated.{Generated}
use Rattle.rinv_certification.specs.Made.{HasCommonPart, IsRelationItemOf}
use Rattle.rinv_certify.specs.Wholes.{term_in}

-- ---- terms

-- r is Z^a f
abbrev pub IsTerm : System → List ℕ → (f r : Poly) → Type 0
IsTerm s a f r = IsSame (poly_ops (residue_ops s.p)) r (term_product (residue_ops s.p) (z_power s a) (behind_z s f))

-- its product fits
abbrev pub TermFits : System → List ℕ → Poly → Type 0
TermFits s a f = product_fits (residue_ops s.p) (z_power s a ∷ []) (behind_z s f) ≡ true

-- the products by which the tie of c/d is seen fit
abbrev pub TieFits : Certificate → (d c : Poly) → DefinedTied → Type 0
TieFits whole d c tied = tie_multiplies whole d c tied ≡ true

-- ---- tails

-- t is the item of a term with its tie, over the product of the factors
abbrev pub IsTailTerm : Generated → List Poly → List ℕ × Fraction → DefinedTied → List ℕ × Poly × Tied → Type 0
IsTailTerm g ds term tied t = IsTailItemOf g.told.system ds term tied (tail_item_by (λ f. f) t)

-- so are these of the terms of a relation
abbrev pub AreTailTerms : Generated → List Poly → Relation → TiedRelation → List (List ℕ × Poly × Tied) → Type 0
AreTailTerms g ds r q ts = AllZip (λ x t. IsTailItemOf g.told.system ds x.0 x.1 t) (zip r.tail (map (λ y. y.1) q.tail)) (map (tail_item_by (λ f. f)) ts)

-- f is the term as it is stored, in all variables
abbrev pub IsStoredTerm : Generated → List ℕ × Poly × Tied → Poly → Type 0
IsStoredTerm g t f = IsStoredIn g.told.system.p (all_count g.told.system) (term_in g.told.system t) f

-- the sum of these polynomials is that of the terms
abbrev pub IsSumOfTerms : Generated → List (List ℕ × Poly × Tied) → List Poly → Type 0
IsSumOfTerms g ts fs = IsSame (poly_ops (residue_ops g.told.system.p)) (sum_of fs) (flat_map (term_in g.told.system) ts)

-- r is the lead less the sum of the terms, as it is stored
abbrev pub IsDifferenceOf : System → (lead : Poly) → List Poly → (r : Poly) → Type 0
IsDifferenceOf s lead terms r = IsStoredIn s.p (all_count s) (difference (residue_ops s.p) lead (sum_of terms)) r

-- ---- relations

-- x is the item of a relation with its ties
abbrev pub IsItemOf : Generated → Relation → TiedRelation → List ℕ × Poly × List (List ℕ × Poly × Tied) × List Poly → Type 0
IsItemOf g r q x = IsRelationItemOf g.told.system g.group r q (relation_item_by (λ f. f) x)

-- the products of the condition on it fit
abbrev pub RelationFits : Certificate → List ℕ × Poly × List (List ℕ × Poly × Tied) × List Poly → Type 0
RelationFits c x = relation_multiplies c (relation_item_by (λ f. f) x) ≡ true

-- P holds of each certificate with what all kinds have in common
abbrev pub InEach : Generated → (Certificate → Type 0) → Type 0
InEach g P = (c : Certificate) → HasCommonPart g c → P c

-- P holds of the relation at place k, with its ties
abbrev pub OfRelation : Generated → ℕ → (Relation → TiedRelation → Type 0) → Type 0
OfRelation g k P = (r : Relation) (q : TiedRelation) → r ≡ get_or g.monic k r → q ≡ get_or g.relations k q → P r q
