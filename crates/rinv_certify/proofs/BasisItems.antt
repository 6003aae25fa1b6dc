-- The items of the basis, one after another.
--   item-proved, item-fits    an item is that of its element, and its products fit
--   fits-more            one item more
--   elements-met         the degrees that they meet
use Rattle.std.proofs.Common.{◌≡◌, ℕ, ◌<◌, true, List, [], ◌∷◌, ◌++◌, length, get_or, map, sym, ◌∙◌, ap, subst, subst₂, refl}
use Rattle.rinv_ring.specs.Fault.{DegreesMeet}
use Rattle.rinv_ring.specs.declared.fault.RingFault.{RingFault}
use Rattle.rinv_poly.proofs.Meets.{meet-weaker}
use Rattle.rinv_buch.specs.Kinds.{Found}
use Rattle.rinv_defs.specs.System.{System, Poly}
use Rattle.rinv_cert.specs.Seen.{basis_item_by}
use Rattle.rinv_cert.proofs.Same.{map-same}
use Rattle.rinv_acceptance.specs.Fits.{at_graph_multiplies}
use Rattle.rinv_at_graph.specs.AtGraph.{AtGraphMeets, IsProved, ProvesAtGraph}
use Rattle.rinv_generators.specs.Generated.{Generated}
use Rattle.rinv_certification.specs.Made.{IsBasisItemOf}
use Rattle.rinv_certify.specs.Meets.{ElementsMeet}
use Rattle.rinv_certify.specs.Parts.{BasisFits, basis_seen}
use Rattle.rinv_certify.proofs.Taken.{tests-more}

-- a list of polynomials, seen as it is
pub list-same : (us : List Poly) → map (λ f. f) us ≡ us
list-same us = map-same (λ f. f) (λ f. refl) us

module _ (s : System) (found : Found ℕ) where
  pub item-proved : (h : Poly) (us : List Poly) (b : Poly × List Poly) → b.0 ≡ h → b.1 ≡ us → IsProved s found h us → IsBasisItemOf s found h (basis_item_by (λ f. f) b)
  item-proved h us b element list proved = record { element = element; cofactors = subst (ProvesAtGraph s found h) (sym (list-same b.1 ∙ list)) proved.proof }

  pub item-fits : (h : Poly) (us : List Poly) (b : Poly × List Poly) → b.0 ≡ h → b.1 ≡ us → IsProved s found h us → at_graph_multiplies s b.0 b.1 ≡ true
  item-fits h us b element list proved = subst₂ (λ (f : Poly) (vs : List Poly). at_graph_multiplies s f vs ≡ true) (sym element) (sym list) proved.fits

pub fits-more : (s : System) (made : List (Poly × List Poly)) (b : Poly × List Poly) → BasisFits s (basis_seen made) → at_graph_multiplies s b.0 b.1 ≡ true → BasisFits s (basis_seen (made ++ b ∷ []))
fits-more s made b so_far here = tests-more (λ x. at_graph_multiplies s x.h x.cofactors) (basis_item_by (λ f. f)) made b so_far (ap (at_graph_multiplies s b.0) (list-same b.1) ∙ here)

-- the degrees of an element
pub elements-met : (g : Generated) (k : ℕ) (h : Poly) (fault : RingFault) → k < length g.action.polys → h ≡ get_or g.action.polys k h → DegreesMeet (AtGraphMeets g.told.system g.group h) fault → DegreesMeet (ElementsMeet g) fault
elements-met g k h fault inside at m = meet-weaker (AtGraphMeets g.told.system g.group h) (ElementsMeet g) (λ x y e. (h, (k, inside, sym at), e)) fault m
