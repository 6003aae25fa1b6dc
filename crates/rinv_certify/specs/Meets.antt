-- The degrees that the making of a certificate may meet, or the multiplying out of what it states.
--   LawsMeet, ChangesMeet          in the laws, and in the changes of the generators
--   ElementsMeet                   in the cofactors of the elements of the basis
--   RaisingMeets, RelationsMeet    in the common denominators of relations, and in relations
--   CertificateMeets               in the whole
use Rattle.std.specs.Prelude.{◌≡◌, ◌⊎◌, ℕ, ◌<◌, List, [], ◌∷◌, ◌++◌, length, get_or, map, zip, Contains}
use Rattle.rinv_algebra.specs.Residue.{residue_ops}
use Rattle.rinv_groebner.specs.Division.{AreSame}
use Rattle.rinv_poly.specs.Faults.{MonomialsMeet}
use Rattle.rinv_defs.specs.System.{System, Poly, ideal_copies}
use Rattle.rinv_defs.specs.Laws.{Law, copies, parts}
use Rattle.rinv_defs.specs.Invariant.{Fraction}
use Rattle.rinv_defs.specs.Extended.{Relation}
use Rattle.rinv_defs.specs.Certificate.{Tied, to_constant, to_generator, TailItem, RelationItem}
use Rattle.rinv_defs.specs.RelationConditions.{z_power, behind_z, relation_of}
use Rattle.rinv_reduction.specs.Localised.{all_count}
use Rattle.rinv_parts.specs.Points.{IsStoredIn}
use Rattle.rinv_parts.specs.LawNames.{variables_of}
use Rattle.rinv_parts.specs.Parts.{part_meets}
use Rattle.rinv_laws.specs.Proofs.{BasisMeets, ProvesPart}
use Rattle.rinv_change.specs.Changes.{ChangingMeets, change_count}
use Rattle.rinv_change.specs.Cofactors.{ProvesInvariance}
use Rattle.rinv_coefficients.specs.Ties.{TiedRelation}
use Rattle.rinv_acceptance.specs.Denominators.{once, product_from, other_factors, raised}
use Rattle.rinv_acceptance.specs.Raised.{IsRaised, denominators}
use Rattle.rinv_generators.specs.Generated.{Generated}
use Rattle.rinv_fits.specs.Sums.{SumsMeet}
use Rattle.rinv_recording.specs.Recorded.{PairsMeet}
use Rattle.rinv_at_graph.specs.AtGraph.{AtGraphMeets}

-- ---- the laws and the changes

-- some part of a law meets these degrees, as it is made
pub record PartsMeet (s : System) (law : Law) (x y : ℕ) : Type 0 where
  pub place : ℕ
  pub inside : place < length (parts s law)
  pub meets : part_meets s law place x y

-- some cofactors of its parts do, as they are multiplied by the copies of the group's ideal
pub record ArraysMeet (s : System) (law : Law) (uss : List (List Poly)) (x y : ℕ) : Type 0 where
  pub place : ℕ
  pub inside : place < length uss
  pub generators : List Poly
  pub same : AreSame (residue_ops s.p) generators (ideal_copies s (copies law))
  pub meets : SumsMeet s.p (variables_of s law) (get_or uss place []) generators x y

-- the part of a law at a place meets these degrees: as it is made, or as its cofactors are multiplied by the copies of the group's ideal
pub data LawMeets (g : Generated) (law : Law) (place : ℕ) (x y : ℕ) : Type 0 where
  in_part : part_meets g.told.system law place x y → LawMeets g law place x y
  in_identity : (us generators : List Poly) → ProvesPart g.told.system g.group law place us
      → AreSame (residue_ops g.told.system.p) generators (ideal_copies g.told.system (copies law))
      → SumsMeet g.told.system.p (variables_of g.told.system law) us generators x y → LawMeets g law place x y

-- so does some part
pub record LawsMeet (g : Generated) (x y : ℕ) : Type 0 where
  pub law : Law
  pub place : ℕ
  pub inside : place < length (parts g.told.system law)
  pub meets : LawMeets g law place x y

-- the change of a fraction meets these degrees: as it is made, or as its cofactors are multiplied by the group's ideal
pub data ChangeMeets (g : Generated) (f : Fraction) (x y : ℕ) : Type 0 where
  in_change : ChangingMeets g.told.system f x y → ChangeMeets g f x y
  in_identity : (us generators : List Poly) → ProvesInvariance g.told.system g.group f us
      → AreSame (residue_ops g.told.system.p) generators g.told.system.ideal
      → SumsMeet g.told.system.p (change_count g.told.system) us generators x y → ChangeMeets g f x y

-- the change as it is made does, or the products of cofactors and the ideal do
abbrev pub ChangeProductsMeet : System → Fraction → (us ideal : List Poly) → ℕ → ℕ → Type 0
ChangeProductsMeet s f us ideal x y = ChangingMeets s f x y ⊎ SumsMeet s.p (change_count s) us ideal x y

-- so does that of some generator
abbrev pub ChangesMeet : Generated → ℕ → ℕ → Type 0
ChangesMeet g x y = (f : Fraction) × Contains g.fractions f × ChangeMeets g f x y

-- ---- the basis

-- the cofactors of some element meet these degrees
abbrev pub ElementsMeet : Generated → ℕ → ℕ → Type 0
ElementsMeet g x y = (h : Poly) × Contains g.action.polys h × AtGraphMeets g.told.system g.group h x y

-- ---- the relations

-- f times the factors, from the left, meets these degrees
pub record FactorsMeet (s : System) (f : Poly) (ds : List Poly) (x y : ℕ) : Type 0 where
  pub before : List Poly
  pub factor : Poly
  pub after : List Poly
  pub factors : ds ≡ before ++ factor ∷ after
  pub meets : MonomialsMeet (residue_ops s.p) (product_from s f before) factor x y

-- so does the first of these times the others
abbrev pub ProductMeets : System → List Poly → ℕ → ℕ → Type 0
ProductMeets s [] x y = ⊥
ProductMeets s (d ∷ ds) x y = FactorsMeet s d ds x y

-- so does the product of a relation's denominators, or a coefficient's numerator times the others
pub data RaisingMeets (s : System) (r : Relation) (x y : ℕ) : Type 0 where
  in_denominator : ProductMeets s (once s (denominators r)) x y → RaisingMeets s r x y
  in_coefficient : (t : List ℕ × Fraction) → Contains r.tail t → FactorsMeet s t.1.0 (other_factors s (once s (denominators r)) t.1) x y → RaisingMeets s r x y

-- Z^a times a polynomial in the space's variables does
abbrev pub TermMeets : System → List ℕ → Poly → ℕ → ℕ → Type 0
TermMeets s a f x y = MonomialsMeet (residue_ops s.p) (z_power s a ∷ []) (behind_z s f) x y

-- one of the two products by which a coefficient c/d is compared with the generator N/D, c*D and d*N
abbrev pub TieMeets : System → List Fraction → (d c : Poly) → Tied → ℕ → ℕ → Type 0
TieMeets s cs d c (to_constant v) x y = ⊥
TieMeets s cs d c (to_generator k) x y = (f : Fraction) × Contains cs f × (MonomialsMeet (residue_ops s.p) c f.1 x y ⊎ MonomialsMeet (residue_ops s.p) d f.0 x y)

-- a term of a tail does: as its numerator is raised to the common denominator d of these factors, as a term, or in its tie
pub data TailItemMeets (g : Generated) (ds : List Poly) (d : Poly) (term : List ℕ × Fraction) (tied : Tied) (x y : ℕ) : Type 0 where
  in_numerator : FactorsMeet g.told.system term.1.0 (other_factors g.told.system ds term.1) x y → TailItemMeets g ds d term tied x y
  in_term : TermMeets g.told.system term.0 (raised g.told.system ds term.1) x y → TailItemMeets g ds d term tied x y
  in_own_tie : TieMeets g.told.system g.fractions d (raised g.told.system ds term.1) tied x y → TailItemMeets g ds d term tied x y

-- so does some term of a relation's tail, with its tie
abbrev pub TailMeets : Generated → List Poly → Poly → Relation → TiedRelation → ℕ → ℕ → Type 0
TailMeets g ds d r q x y = (term : List ℕ × Fraction) × (tied : Tied) × Contains (zip r.tail (map (λ u. u.1) q.tail)) (term, tied) × TailItemMeets g ds d term tied x y

-- a relation does: as it is brought to a common denominator, in its terms, in its ties, or, as it is stored, in the cofactors of its
-- value at Z = g
pub data RelationMeets (g : Generated) (r : Relation) (q : TiedRelation) (x y : ℕ) : Type 0 where
  in_raising : RaisingMeets g.told.system r x y → RelationMeets g r q x y
  in_lead : (item : RelationItem) → IsRaised g.told.system r q item → TermMeets g.told.system item.a item.d x y → RelationMeets g r q x y
  in_tail : (item : RelationItem) (t : TailItem) → IsRaised g.told.system r q item → Contains item.tail t → TermMeets g.told.system t.alpha t.c x y → RelationMeets g r q x y
  in_tie : (item : RelationItem) (t : TailItem) → IsRaised g.told.system r q item → Contains item.tail t → TieMeets g.told.system g.fractions item.d t.c t.tied x y → RelationMeets g r q x y
  at_graph : (item : RelationItem) (whole : Poly) → IsRaised g.told.system r q item → IsStoredIn g.told.system.p (all_count g.told.system) (relation_of g.told.system item) whole → AtGraphMeets g.told.system g.group whole x y → RelationMeets g r q x y

-- so does some relation
abbrev pub RelationsMeet : Generated → ℕ → ℕ → Type 0
RelationsMeet g x y = (r : Relation) × (q : TiedRelation) × Contains (zip g.monic g.relations) (r, q) × RelationMeets g r q x y

-- ---- the whole

-- the certificate meets these degrees, as it is made, or as what it states is multiplied out: in the laws, in the changes, in the cofactors
-- of the group's basis, and where it is of kind `full` in the elements of the basis, in the pairs and in the relations
pub data CertificateMeets (g : Generated) (x y : ℕ) : Type 0 where
  in_laws : LawsMeet g x y → CertificateMeets g x y
  in_changes : ChangesMeet g x y → CertificateMeets g x y
  in_group : g.told.system.section ≡ [] → BasisMeets g.told.system g.group x y → CertificateMeets g x y
  in_elements : g.told.system.section ≡ [] → ElementsMeet g x y → CertificateMeets g x y
  in_pairs : g.told.system.section ≡ [] → PairsMeet g.told.system g.action x y → CertificateMeets g x y
  in_relations : g.told.system.section ≡ [] → RelationsMeet g x y → CertificateMeets g x y
