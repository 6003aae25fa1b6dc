-- Relations over their common denominators.
--   zip-at, zip-holds, zip-long   pairs of two lists, by their places
--   tail-made            one term more
--   raised_item, raised-so   the item that stands for a relation before its coefficients are stored
--   lead-met, denominator-met, tail-met   the degrees that a relation meets
--   whole-is, whole-fits     the whole
use Rattle.std.proofs.Common.{◌≡◌, ℕ, zero, suc, ◌<◌, List, [], ◌∷◌, length, get_or, map, zip, sym, ap, ap₂, subst, subst₂, refl, arith}
use Rattle.std.specs.Prelude.{Contains, flat_map}
use Rattle.std.specs.List.{AllZip}
use Rattle.std.proofs.lemmas.List.{length-map, take_all}
use Rattle.rinv_algebra.specs.Ring.{IsSame}
use Rattle.rinv_algebra.specs.Residue.{residue_ops}
use Rattle.rinv_algebra.specs.Polynomial.{poly_ops, term_product, difference}
use Rattle.rinv_algebra.proofs.PolynomialLaws.{poly_laws}
use Rattle.rinv_algebra.proofs.ResidueLaws.{residue_laws}
use Rattle.rinv_ring.specs.Fault.{DegreesMeet}
use Rattle.rinv_ring.specs.declared.fault.RingFault.{RingFault}
use Rattle.rinv_poly.specs.Sums.{sum_of}
use Rattle.rinv_poly.proofs.Meets.{meet-weaker}
use Rattle.rinv_defs.specs.System.{System, Poly}
use Rattle.rinv_defs.specs.Invariant.{Fraction}
use Rattle.rinv_defs.specs.Extended.{Relation}
use Rattle.rinv_defs.specs.Certificate.{Tied, TailItem, RelationItem}
use Rattle.rinv_defs.specs.RelationConditions.{z_power, behind_z, relation_of}
use Rattle.rinv_cert.specs.declared.certificate.Tied.{Tied as StoredTied}
use Rattle.rinv_cert.specs.Seen.{relation_item_by}
use Rattle.rinv_coefficients.specs.Ties.{TiedRelation}
use Rattle.rinv_acceptance.specs.Denominators.{once, product_of, raised}
use Rattle.rinv_acceptance.specs.Raised.{IsRaised, IsTailItemOf, denominators}
use Rattle.rinv_basis_check.proofs.RelationSums.{relation-value}
use Rattle.rinv_generators.specs.Generated.{Generated}
use Rattle.rinv_certify.specs.Meets.{ProductMeets, RaisingMeets, RelationMeets, TailItemMeets, TailMeets, TermMeets}
use Rattle.rinv_certify.specs.Wholes.{term_in}

-- ---- pairs of two lists

module _ {A B : Type 0} where
  pub zip-at : (xs : List A) (ys : List B) (k : ℕ) (x : A) (y : B) → k < length xs → k < length ys → x ≡ get_or xs k x → y ≡ get_or ys k y → (x, y) ≡ get_or (zip xs ys) k (x, y)
  zip-at [] ys k x y h i a b = absurd (omega (arith, h))
  zip-at (z ∷ xs) [] k x y h i a b = absurd (omega (arith, i))
  zip-at (z ∷ xs) (w ∷ ys) zero x y h i a b = ap₂ (λ (p : A) (q : B). (p, q)) a b
  zip-at (z ∷ xs) (w ∷ ys) (suc k) x y h i a b = zip-at xs ys k x y (omega (arith, h)) (omega (arith, i)) a b

  pub zip-long : (xs : List A) (ys : List B) → length xs ≡ length ys → length (zip xs ys) ≡ length xs
  zip-long [] ys e = refl
  zip-long (x ∷ xs) [] e = absurd (omega (arith, e))
  zip-long (x ∷ xs) (y ∷ ys) e = ap suc (zip-long xs ys (omega (arith, e)))

  pub zip-few : (xs : List A) (ys : List B) (k : ℕ) (x : A) (y : B) → k < length (zip xs ys) → get_or (zip xs ys) k (x, y) ≡ (x, y) → (k < length xs) × (get_or xs k x ≡ x)
  zip-few [] ys k x y h e = absurd (omega (arith, h))
  zip-few (z ∷ xs) [] k x y h e = absurd (omega (arith, h))
  zip-few (z ∷ xs) (w ∷ ys) zero x y h e = (omega arith, ap (λ (p : A × B). p.0) e)
  zip-few (z ∷ xs) (w ∷ ys) (suc k) x y h e = let r = zip-few xs ys k x y (omega (arith, h)) e in let low = r.0 in (omega (arith, low), r.1)

  pub all_zip-long : (R : A → B → Type 0) (xs : List A) (ys : List B) → AllZip R xs ys → length xs ≡ length ys
  all_zip-long R [] [] z = refl
  all_zip-long R [] (y ∷ ys) z = absurd z
  all_zip-long R (x ∷ xs) [] z = absurd z
  all_zip-long R (x ∷ xs) (y ∷ ys) z = ap suc (all_zip-long R xs ys z.1)

  pub zip-holds : (R : A → B → Type 0) (xs : List A) (ys : List B) (k : ℕ) (x : A) (y : B) → AllZip R xs ys → k < length xs → x ≡ get_or xs k x → y ≡ get_or ys k y → R x y
  zip-holds R [] [] k x y z h a b = absurd (omega (arith, h))
  zip-holds R [] (w ∷ ys) k x y z h a b = absurd z
  zip-holds R (v ∷ xs) [] k x y z h a b = absurd z
  zip-holds R (v ∷ xs) (w ∷ ys) zero x y z h a b = subst₂ R (sym a) (sym b) z.0
  zip-holds R (v ∷ xs) (w ∷ ys) (suc k) x y z h a b = zip-holds R xs ys k x y z.1 (omega (arith, h)) a b

mapped-zip : {A B : Type 0} (R : A → B → Type 0) (f : A → B) → ((x : A) → R x (f x)) → (xs : List A) → AllZip R xs (map f xs)
mapped-zip R f h [] = tt
mapped-zip R f h (x ∷ xs) = (h x, mapped-zip R f h xs)

mapped-there : {A B : Type 0} (f : A → B) (xs : List A) (k : ℕ) (x : A) → k < length xs → get_or xs k x ≡ x → get_or (map f xs) k (f x) ≡ f x
mapped-there f [] k x h e = absurd (omega (arith, h))
mapped-there f (y ∷ xs) zero x h e = ap f e
mapped-there f (y ∷ xs) (suc k) x h e = mapped-there f xs k x (omega (arith, h)) e

-- ---- the item that stands for a relation before its coefficients are stored

module _ (s : System) (r : Relation) (q : TiedRelation) (d : Poly) where
  abbrev raised_term : (List ℕ × Fraction) × Tied → TailItem
  raised_term x = record { alpha = x.0.0; c = raised s (once s (denominators r)) x.0.1; tied = x.1 }

  abbrev pub raised_item : RelationItem
  raised_item = record { a = r.lead; d = d; tail = map raised_term (zip r.tail (map (λ y. y.1) q.tail)); cofactors = [] }

  pub raised-so : IsSame (poly_ops (residue_ops s.p)) d (product_of s (once s (denominators r))) → IsRaised s r q raised_item
  raised-so value = record {
    a = refl;
    d = value;
    tail = mapped-zip (λ x t. IsTailItemOf s (once s (denominators r)) x.0 x.1 t) raised_term (λ x. record { alpha = refl; c = (poly_laws (residue_ops s.p) (residue_laws s.p)).same_refl (raised s (once s (denominators r)) x.0.1); tie = refl }) (zip r.tail (map (λ y. y.1) q.tail));
  }

-- ---- degrees

module _ (g : Generated) (r : Relation) (q : TiedRelation) (ds : List Poly) (are : ds ≡ once g.told.system (denominators r)) (fault : RingFault) where
  pub denominator-met : DegreesMeet (ProductMeets g.told.system ds) fault → DegreesMeet (RelationMeets g r q) fault
  denominator-met m = meet-weaker (ProductMeets g.told.system ds) (RelationMeets g r q) (λ x y h. RelationMeets.in_raising (RaisingMeets.in_denominator (subst (λ (fs : List Poly). ProductMeets g.told.system fs x y) are h))) fault m

  module _ (d : Poly) (value : IsSame (poly_ops (residue_ops g.told.system.p)) d (product_of g.told.system ds)) where
    value-here : IsSame (poly_ops (residue_ops g.told.system.p)) d (product_of g.told.system (once g.told.system (denominators r)))
    value-here = subst (λ (fs : List Poly). IsSame (poly_ops (residue_ops g.told.system.p)) d (product_of g.told.system fs)) are value

    pub lead-met : DegreesMeet (TermMeets g.told.system r.lead d) fault → DegreesMeet (RelationMeets g r q) fault
    lead-met m = meet-weaker (TermMeets g.told.system r.lead d) (RelationMeets g r q) (λ x y h. RelationMeets.in_lead (raised_item g.told.system r q d) (raised-so g.told.system r q d value-here) h) fault m

    term-met : (t : List ℕ × Fraction) (tied : Tied) (x y : ℕ) → Contains (zip r.tail (map (λ u. u.1) q.tail)) (t, tied) → TailItemMeets g (once g.told.system (denominators r)) d t tied x y → RelationMeets g r q x y
    term-met t tied x y (k, h, e) (TailItemMeets.in_numerator m) = let there = zip-few r.tail (map (λ u. u.1) q.tail) k t tied h e in RelationMeets.in_raising (RaisingMeets.in_coefficient t (k, there.0, there.1) m)
    term-met t tied x y (k, h, e) (TailItemMeets.in_term m) =
        let long = length-map (zip r.tail (map (λ u. u.1) q.tail)) (raised_term g.told.system r q d) in
        RelationMeets.in_tail (raised_item g.told.system r q d) (raised_term g.told.system r q d (t, tied)) (raised-so g.told.system r q d value-here) (k, omega (arith, h, long), mapped-there (raised_term g.told.system r q d) (zip r.tail (map (λ u. u.1) q.tail)) k (t, tied) h e) m
    term-met t tied x y (k, h, e) (TailItemMeets.in_own_tie m) =
        let long = length-map (zip r.tail (map (λ u. u.1) q.tail)) (raised_term g.told.system r q d) in
        RelationMeets.in_tie (raised_item g.told.system r q d) (raised_term g.told.system r q d (t, tied)) (raised-so g.told.system r q d value-here) (k, omega (arith, h, long), mapped-there (raised_term g.told.system r q d) (zip r.tail (map (λ u. u.1) q.tail)) k (t, tied) h e) m

    pub tail-met : DegreesMeet (TailMeets g ds d r q) fault → DegreesMeet (RelationMeets g r q) fault
    tail-met m = meet-weaker (TailMeets g ds d r q) (RelationMeets g r q) (λ x y h. term-met h.0 h.1 x y h.2 (subst (λ (fs : List Poly). TailItemMeets g fs d h.0 h.1 x y) are h.3)) fault m

-- ---- the whole

module _ (s : System) (r : Relation) (d : Poly) (ts : List (List ℕ × Poly × StoredTied)) where
  -- the lead less the sum of the tail
  pub whole-is : (lead whole : Poly) (fs : List Poly) → IsSame (poly_ops (residue_ops s.p)) lead (term_product (residue_ops s.p) (z_power s r.lead) (behind_z s d)) → IsSame (poly_ops (residue_ops s.p)) (sum_of fs) (flat_map (term_in s) ts)
      → IsSame (poly_ops (residue_ops s.p)) whole (difference (residue_ops s.p) lead (sum_of fs)) → IsSame (poly_ops (residue_ops s.p)) whole (relation_of s (relation_item_by (λ f. f) (r.lead, d, ts, [])))
  whole-is lead whole fs first sum less =
      let laws = poly_laws (residue_ops s.p) (residue_laws s.p) in
      relation-value s r.lead d ts [] lead (sum_of fs) whole fs (length ts) (omega arith) first (laws.same_refl (sum_of fs))
      (subst (λ us. IsSame (poly_ops (residue_ops s.p)) (sum_of fs) (flat_map (term_in s) us)) (sym (take_all (length ts) ts (omega arith))) sum) less
