-- What holds whichever certificate or system the parts of a basis are of.
--   InBasis, OfEarlier          of a basis, and of one and the entries before
--   InRings                     of the rings of relations
--   OfSized, OnGraph            of sizes and fractions, and of these and the graph of the action
--   OfFraction, OfFractions     of one fraction, and of all
--   IsMonomialOf, IsRelationPoly, is_shown_in, IsProduct    polynomials of relations, and whether one is shown
use Rattle.std.specs.Prelude.{◌≡◌, ℕ, Bool, List, [], ◌∷◌, ◌++◌, replicate}
use Rattle.rinv_algebra.specs.Ring.{IsSame}
use Rattle.rinv_algebra.specs.Residue.{residue_ops}
use Rattle.rinv_algebra.specs.Polynomial.{poly_ops, product}
use Rattle.rinv_defs.specs.System.{System, Poly}
use Rattle.rinv_defs.specs.Invariant.{Fraction}
use Rattle.rinv_defs.specs.Certificate.{Certificate, PairItem}
use Rattle.rinv_defs.specs.RelationConditions.{relation_of, relation_is_shown, fraction_at}
use Rattle.rinv_cert.specs.declared.certificate.Tied.{Tied}
use Rattle.rinv_cert.specs.Seen.{relation_item_by}
use Rattle.rinv_form.specs.declared.sizes.Sizes.{Sizes}
use Rattle.rinv_form.specs.Sized.{IsSized}
use Rattle.rinv_identities.specs.declared.graph.Graph.{Graph}
use Rattle.rinv_identities.specs.Graphs.{IsGraph}
use Rattle.rinv_basis_check.specs.declared.basis.Basis.{Basis}
use Rattle.rinv_basis_check.specs.declared.rings.RelationRings.{RelationRings}
use Rattle.rinv_basis_check.specs.Bases.{IsBasisOf}
use Rattle.rinv_basis_check.specs.Listed.{ArePairsOf}
use Rattle.rinv_basis_check.specs.Relations.{AreRingsOf}

-- P holds of each certificate that has this basis
abbrev pub InBasis : Basis → (Certificate → Type 0) → Type 0
InBasis basis P = (c : Certificate) → IsBasisOf c basis → P c

-- and of the entries before, whose pairs these are
abbrev pub OfEarlier : Basis → List (ℕ × ℕ) → (Certificate → List PairItem → Type 0) → Type 0
OfEarlier basis listed P = (c : Certificate) (earlier : List PairItem) → IsBasisOf c basis → ArePairsOf listed earlier → P c earlier

-- P holds of each system that has these rings
abbrev pub InRings : RelationRings → (System → Type 0) → Type 0
InRings rings P = (s : System) → AreRingsOf s rings → P s

-- P holds of each certificate that has these sizes and fractions
abbrev pub OfSized : Sizes → List Fraction → (Certificate → Type 0) → Type 0
OfSized sizes fractions P = (c : Certificate) → IsSized c sizes → fractions ≡ c.fractions → P c

-- and this graph
abbrev pub OnGraph : Sizes → List Fraction → Graph → (Certificate → Type 0) → Type 0
OnGraph sizes fractions graph P = (c : Certificate) → IsSized c sizes → fractions ≡ c.fractions → IsGraph c.system graph → P c

-- P holds of each certificate over the field of p elements, and of each of its fractions that is this one
abbrev pub OfFraction : ℕ → Fraction → (Certificate → ℕ → Type 0) → Type 0
OfFraction p fraction P = (c : Certificate) (k : ℕ) → p ≡ c.system.p → fraction ≡ fraction_at c k → P c k

-- P holds of each with these fractions
abbrev pub OfFractions : ℕ → List Fraction → (Certificate → Type 0) → Type 0
OfFractions p fractions P = (c : Certificate) → p ≡ c.system.p → fractions ≡ c.fractions → P c

-- r is the monomial with these exponents behind the group's variables
abbrev pub IsMonomialOf : RelationRings → List ℕ → Poly → Type 0
IsMonomialOf rings exponents r = IsSame (poly_ops (residue_ops rings.graph.coeffs)) r ((replicate rings.group 0 ++ exponents, 1) ∷ [])

-- r is the relation as a polynomial
abbrev pub IsRelationPoly : System → List ℕ × Poly × List (List ℕ × Poly × Tied) × List Poly → Poly → Type 0
IsRelationPoly s relation r = IsSame (poly_ops (residue_ops s.p)) r (relation_of s (relation_item_by (λ f. f) relation))

-- whether the relation is shown
abbrev pub is_shown_in : Certificate → List ℕ × Poly × List (List ℕ × Poly × Tied) × List Poly → Bool
is_shown_in c relation = relation_is_shown c (relation_item_by (λ f. f) relation)

-- r is the product of f and g
abbrev pub IsProduct : ℕ → (f g r : Poly) → Type 0
IsProduct p f g r = IsSame (poly_ops (residue_ops p)) r (product (residue_ops p) f g)
