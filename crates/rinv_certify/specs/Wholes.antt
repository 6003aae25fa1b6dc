-- A relation over the common denominator of its coefficients, as it is made.
--   whole_item           the item that it is, without its cofactors
--   IsWholeOf            its parts are those of a relation with its ties, and their sum is the whole
--   TailItemFits, TailFits, WholeFits    its terms and its ties fit
--   term_in              a term as a polynomial in all variables
use Rattle.std.specs.Prelude.{◌≡◌, ℕ, ◌&&◌, List, [], ◌∷◌, map, true}
use Rattle.std.specs.List.{list_all}
use Rattle.rinv_algebra.specs.Residue.{residue_ops}
use Rattle.rinv_algebra.specs.Polynomial.{term_product}
use Rattle.rinv_algebra.specs.Fits.{product_fits}
use Rattle.rinv_defs.specs.System.{System, Poly, space_count}
use Rattle.rinv_defs.specs.Extended.{Relation}
use Rattle.rinv_defs.specs.Certificate.{Certificate, RelationItem}
use Rattle.rinv_defs.specs.RelationConditions.{z_power, behind_z, relation_of}
use Rattle.rinv_cert.specs.declared.certificate.Tied.{Tied}
use Rattle.rinv_cert.specs.Seen.{tail_item_by, tied_of}
use Rattle.rinv_parts.specs.Points.{ArePolynomials, IsStoredIn}
use Rattle.rinv_reduction.specs.Localised.{all_count}
use Rattle.rinv_coefficients.specs.Ties.{TiedRelation}
use Rattle.rinv_acceptance.specs.Fits.{tie_multiplies}
use Rattle.rinv_acceptance.specs.Raised.{IsRaised}
use Rattle.rinv_generators.specs.Generated.{Generated}
use Rattle.rinv_certify.specs.declared.relations.Whole.{Whole}

-- the item that it is, without its cofactors
abbrev pub whole_item : Relation → Whole → RelationItem
whole_item r w = record { a = r.lead; d = w.d; tail = map (tail_item_by (λ f. f)) w.tail.items; cofactors = [] }

-- its parts are those of the relation with its ties, and their sum is the whole
pub record IsWholeOf (g : Generated) (r : Relation) (q : TiedRelation) (w : Whole) : Type 0 where
  pub raised : IsRaised g.told.system r q (whole_item r w)
  pub normal : ArePolynomials g.told.system.p (space_count g.told.system) (w.d ∷ map (λ t. t.1) w.tail.items)
  pub whole : IsStoredIn g.told.system.p (all_count g.told.system) (relation_of g.told.system (whole_item r w)) w.whole

-- a term and its tie fit
abbrev pub TailItemFits : Certificate → Poly → List ℕ × Poly × Tied → Type 0
TailItemFits c d t = let s = c.system in (product_fits (residue_ops s.p) (z_power s t.0 ∷ []) (behind_z s t.1) && tie_multiplies c d t.1 (tied_of t.2)) ≡ true

-- so do those of a tail
abbrev pub TailFits : Certificate → Poly → List (List ℕ × Poly × Tied) → Type 0
TailFits c d ts =
    let s = c.system in
    list_all (λ t. product_fits (residue_ops s.p) (z_power s t.alpha ∷ []) (behind_z s t.c) && tie_multiplies c d t.c t.tied) (map (tail_item_by (λ f. f)) ts) ≡ true

-- a term as a polynomial in all variables
abbrev pub term_in : System → List ℕ × Poly × Tied → Poly
term_in s t = term_product (residue_ops s.p) (z_power s t.0) (behind_z s t.1)

-- its terms and its ties fit
abbrev pub WholeFits : Certificate → Relation → Whole → Type 0
WholeFits c r w =
    let s = c.system in
    (product_fits (residue_ops s.p) (z_power s r.lead ∷ []) (behind_z s w.d)
    && list_all (λ t. product_fits (residue_ops s.p) (z_power s t.alpha ∷ []) (behind_z s t.c) && tie_multiplies c w.d t.c t.tied) (map (tail_item_by (λ f. f)) w.tail.items)) ≡ true
