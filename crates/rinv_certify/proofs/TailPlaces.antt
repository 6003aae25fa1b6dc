-- The terms of a relation with their ties, place by place.
--   AtPlace, at-place    a term and its tie, as they are stored
--   place-met            the degrees of one
use Rattle.std.proofs.Common.{◌≡◌, ℕ, ◌<◌, List, length, get_or, map, zip, sym, ◌∙◌, ap, arith}
use Rattle.std.proofs.lemmas.List.{length-map, get_or-map}
use Rattle.rinv_ring.specs.Fault.{DegreesMeet}
use Rattle.rinv_ring.specs.declared.fault.RingFault.{RingFault}
use Rattle.rinv_poly.proofs.Meets.{meet-weaker}
use Rattle.rinv_defs.specs.System.{Poly, space_count}
use Rattle.rinv_defs.specs.Invariant.{Fraction}
use Rattle.rinv_defs.specs.Extended.{Relation}
use Rattle.rinv_defs.specs.Certificate.{Tied}
use Rattle.rinv_tails.specs.Stored.{IsStoredRelation, IsTailTerm}
use Rattle.rinv_coefficients.specs.Ties.{HasValueOf, TiedRelation, Ties}
use Rattle.rinv_gens.specs.declared.kinds.Symbol.{Symbol}
use Rattle.rinv_gens.specs.Symbols.{tied_of as symbol_of}
use Rattle.rinv_generators.specs.Generated.{Generated}
use Rattle.rinv_certify.specs.Meets.{TailItemMeets, TailMeets}
use Rattle.rinv_certify.specs.Parts.{IsInside}
use Rattle.rinv_certify.proofs.TailParts.{inside-of, symbol-at}
use Rattle.rinv_certify.proofs.Taken.{holds-at}
use Rattle.rinv_certify.proofs.WholeParts.{all_zip-long, zip-at, zip-holds, zip-long}

pub record AtPlace (g : Generated) (r : Relation) (q : TiedRelation) (k : ℕ) (x : List ℕ × Fraction) (tied : Tied) : Type 0 where
  pub inside : k < length (zip r.tail (map (λ y. y.1) q.tail))
  pub at : (x, tied) ≡ get_or (zip r.tail (map (λ y. y.1) q.tail)) k (x, tied)
  pub term : IsTailTerm g.told.system.p (space_count g.told.system) x
  pub tie : IsInside (length g.fractions) tied

-- as many ties as terms
pub ties-count : (g : Generated) (r : Relation) (q : TiedRelation) → Ties g.told.system.p g.fractions q r → length q.tail ≡ length r.tail
ties-count g r q ties = all_zip-long (λ t u. (t.0 ≡ u.0) × HasValueOf g.told.system.p g.fractions t.1 u.1) q.tail r.tail ties.tail

pub pairs-count : (g : Generated) (r : Relation) (q : TiedRelation) → Ties g.told.system.p g.fractions q r → length (zip r.tail (map (λ y. y.1) q.tail)) ≡ length r.tail
pairs-count g r q ties = zip-long r.tail (map (λ y. y.1) q.tail) (sym (length-map q.tail (λ y. y.1) ∙ ties-count g r q ties))

-- a term and its tie, as they are stored
pub at-place : (g : Generated) (r : Relation) (q : TiedRelation) → IsStoredRelation g.told.system.p (space_count g.told.system) r → Ties g.told.system.p g.fractions q r → (k : ℕ) (x : List ℕ × Fraction) (stored : List (List ℕ × Symbol)) (e : List ℕ × Symbol) → map (λ t. (t.0, symbol_of t.1)) stored ≡ q.tail
    → k < length r.tail → x ≡ get_or r.tail k x → e ≡ get_or stored k e → AtPlace g r q k x (symbol_of e.1)
at-place g r q is ties k x stored e seen low x_at e_at =
    let many = ties-count g r q ties in
    let long = length-map {B = List ℕ × Tied} stored (λ (t : List ℕ × Symbol). (t.0, symbol_of t.1)) in
    let alike = ap (λ us. length us) seen in
    let here : (e.0, symbol_of e.1) ≡ get_or q.tail k (e.0, symbol_of e.1) = symbol-at q.tail stored k e seen (omega (arith, low, many, long, alike)) e_at in
    let mapped = length-map q.tail (λ (y : List ℕ × Tied). y.1) in
    let tied_at : symbol_of e.1 ≡ get_or (map (λ y. y.1) q.tail) k (symbol_of e.1) =
    ap (λ (y : List ℕ × Tied). y.1) here ∙ sym (get_or-map (λ (y : List ℕ × Tied). y.1) q.tail k (e.0, symbol_of e.1) (symbol_of e.1) (omega (arith, low, many))) in
    let pairs = pairs-count g r q ties in
    let value = zip-holds (λ t u. (t.0 ≡ u.0) × HasValueOf g.told.system.p g.fractions t.1 u.1) q.tail r.tail k (e.0, symbol_of e.1) x ties.tail (omega (arith, low, many)) here x_at in
    record {
      inside = omega (arith, low, pairs);
      at = zip-at r.tail (map (λ y. y.1) q.tail) k x (symbol_of e.1) low (omega (arith, low, many, mapped)) x_at tied_at;
      term = holds-at (IsTailTerm g.told.system.p (space_count g.told.system)) r.tail k x is.tail.terms low x_at;
      tie = inside-of g.told.system.p g.fractions (symbol_of e.1) x.1 value.1;
    }

-- the degrees of one
pub place-met : (g : Generated) (ds : List Poly) (d : Poly) (r : Relation) (q : TiedRelation) (k : ℕ) (x : List ℕ × Fraction) (tied : Tied) (fault : RingFault) → AtPlace g r q k x tied → DegreesMeet (TailItemMeets g ds d x tied) fault → DegreesMeet (TailMeets g ds d r q) fault
place-met g ds d r q k x tied fault p m = meet-weaker (TailItemMeets g ds d x tied) (TailMeets g ds d r q) (λ a b h. (x, tied, (k, p.inside, sym p.at), h)) fault m
