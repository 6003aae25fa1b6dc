-- Where coefficients never answer Degree, as residues do not, it comes only where something does not fit.
--   products-misfit, substitution-misfit, combination-misfit    the degrees are over the limit, and the products do not fit
--   substitution-alike                                          images that are the same, place by place, meet the same degrees
use Rattle.std.proofs.Common.{◌≡◌, ℕ, zero, suc, ◌+◌, ◌<◌, Bool, false, List, [], ◌∷◌, ◌++◌, length, get_or, refl, sym, ap, ◌∙◌, inl, inr, arith, subst}
use Rattle.std.specs.Prelude.{nat_lt}
use Rattle.std.specs.List.{AllZip}
use Rattle.rinv_algebra.specs.Ring.{RingOps, RingLaws, IsSame}
use Rattle.rinv_algebra.specs.Residue.{residue_ops}
use Rattle.rinv_algebra.specs.Monomial.{max_degree}
use Rattle.rinv_algebra.specs.Polynomial.{Polynomial, poly_ops, constant}
use Rattle.rinv_algebra.specs.Normal.{IsNormal}
use Rattle.rinv_algebra.specs.Value.{times_all, factors}
use Rattle.rinv_algebra.specs.Fits.{products_fit, substitution_fits, combination_fits}
use Rattle.rinv_algebra.proofs.PolynomialLaws.{poly_laws}
use Rattle.rinv_algebra.proofs.ResidueLaws.{residue_laws}
use Rattle.rinv_algebra.proofs.Products.{products_fit-stuck}
use Rattle.rinv_ring.specs.Operation.{RingOp, adds, multiplies}
use Rattle.rinv_poly.specs.Faults.{MonomialsMeet, polynomials_meet}
use Rattle.rinv_poly.proofs.Degrees.{product_fits-meet}
use Rattle.rinv_sub.specs.Refusal.{ProductsMeet, SubstitutionMeets, CombinationMeets, in_products, in_sum, in_product, in_total, never}
use Rattle.rinv_sub.proofs.Images.{factors-same, times_all-factors}
use Rattle.rinv_sub.proofs.Refused.{has-same}
use Rattle.rinv_sub.proofs.Sums.{term_fits, substitution_fits-normal, tests-stuck, combination_fits-stuck}

-- an item stands at its place whichever value counts past the end
at-place : {X : Type 0} (xs : List X) (k : ℕ) (d : X) → k < length xs → get_or xs k d ≡ get_or xs k (get_or xs k d)
at-place [] k d h = absurd (omega arith)
at-place (x ∷ xs) zero d h = refl
at-place (x ∷ xs) (suc k) d h = inside xs k d (get_or xs k d) (omega arith)
  where
    inside : {X : Type 0} (xs : List X) (k : ℕ) (d e : X) → k < length xs → get_or xs k d ≡ get_or xs k e
    inside [] k d e h = absurd (omega arith)
    inside (x ∷ xs) zero d e h = refl
    inside (x ∷ xs) (suc k) d e h = inside xs k d e (omega arith)

-- ys in three parts, the first and second related to xs and x
record IsSplit {A B : Type 0} (R : A → B → Type 0) (xs : List A) (x : A) (ys : List B) : Type 0 where
  front : List B
  item : B
  back : List B
  split : ys ≡ front ++ item ∷ back
  fronts : AllZip R xs front
  items : R x item

split-alike : {A B : Type 0} (R : A → B → Type 0) (xs : List A) (x : A) (zs : List A) (ys : List B) → AllZip R (xs ++ x ∷ zs) ys → IsSplit R xs x ys
split-alike R [] x zs [] h = absurd h
split-alike R [] x zs (y ∷ ys) h = record { front = []; item = y; back = ys; split = refl; fronts = tt; items = h.0 }
split-alike R (w ∷ xs) x zs [] h = absurd h
split-alike R (w ∷ xs) x zs (y ∷ ys) h =
    let k = split-alike R xs x zs ys h.1 in
    record { front = y ∷ k.front; item = k.item; back = k.back; split = ap (λ r. y ∷ r) k.split; fronts = (h.0, k.fronts); items = k.items }

module _ {E : Type 0} (o : RingOps E) (l : RingLaws o) (is_element : E → Bool) (high : RingOp → E → E → ℕ → ℕ → Type 0) (none : (op : RingOp) (c d : E) (x y : ℕ) → ¬ (high op c d x y)) (v : ℕ) where
  -- then two monomials meet
  product-monomials : (f g : Polynomial E) (x y : ℕ) → polynomials_meet o is_element high multiplies f g x y → MonomialsMeet o f g x y
  product-monomials f g x y (inl meet) = meet
  product-monomials f g x y (inr (inl (m, c, i, h))) = absurd (none multiplies c h.factor x y h.meets)
  product-monomials f g x y (inr (inr (terms, w, h))) = absurd (none adds h.sum h.next.1 x y h.meets)

  products-monomials : (f : Polynomial E) (gs : List (Polynomial E)) (x y : ℕ) → (k : ProductsMeet o is_element high v f gs x y) → MonomialsMeet o (times_all (poly_ops o) f k.done) k.next x y
  products-monomials f gs x y k = elim k.meets [
    | inl meet ↦ meet
    | inr (s, stored, inl (m, c, i, h)) ↦ absurd (none multiplies c h.factor x y h.meets)
    | inr (s, stored, inr (terms, w, h)) ↦ absurd (none adds h.sum h.next.1 x y h.meets)
  ]

  pub products-misfit : (f : Polynomial E) (gs : List (Polynomial E)) (x y : ℕ) → ProductsMeet o is_element high v f gs x y → (max_degree < x + y) × (products_fit o f gs ≡ false)
  products-misfit f gs x y k =
      let meet = products-monomials f gs x y k in
      let so_far = times_all (poly_ops o) f k.done in
      (meet.over, ap (products_fit o f) k.split ∙ products_fit-stuck o l f so_far k.done k.next k.rest ((poly_laws o l).same_refl so_far) (product_fits-meet o l so_far k.next x y meet))

  -- f is in w variables, the images in v
  pub substitution-misfit : (w : ℕ) (images : List (Polynomial E)) (f : Polynomial E) → IsNormal o is_element w f → (x y : ℕ) → SubstitutionMeets o is_element high v images f x y → (max_degree < x + y) × (substitution_fits o images f ≡ false)
  substitution-misfit w images f normal x y (in_products t (k, below, is) meet) =
      let h = products-misfit (constant o t.1) (factors images t.0) x y meet in
      (h.0, substitution_fits-normal o l is_element w images f normal ∙ tests-stuck (term_fits o l images) f k t below (sym is) h.1)
  substitution-misfit w images f normal x y (in_sum (stored, all, h)) = absurd (none adds h.sum h.next.1 x y h.meets)

  pub combination-misfit : (us fs : List (Polynomial E)) → length us ≡ length fs → (x y : ℕ) → CombinationMeets o is_element high v us fs x y → (max_degree < x + y) × (combination_fits o us fs ≡ false)
  combination-misfit us fs many x y (in_product k below meet) =
      let u = get_or us k [] in
      let f = get_or fs k [] in
      let found = product-monomials u f x y meet in
      (found.over, combination_fits-stuck o l us fs k u f below many (at-place us k [] below) (at-place fs k [] (omega (arith, below, many))) (product_fits-meet o l u f x y found))
  combination-misfit us fs many x y (in_total (stored, all, h)) = absurd (none adds h.sum h.next.1 x y h.meets)

  -- the same factors in place of these
  products-alike : (f : Polynomial E) (gs hs : List (Polynomial E)) → AllZip (IsSame (poly_ops o)) gs hs → (x y : ℕ) → ProductsMeet o is_element high v f gs x y → ProductsMeet o is_element high v f hs x y
  products-alike f gs hs alike x y k =
      let p = poly_laws o l in
      let meet = products-monomials f gs x y k in
      let s = split-alike (IsSame (poly_ops o)) k.done k.next k.rest hs (subst (λ (r : List (Polynomial E)). AllZip (IsSame (poly_ops o)) r hs) k.split alike) in
      let so_far : IsSame (poly_ops o) (times_all (poly_ops o) f k.done) (times_all (poly_ops o) f s.front) = times_all-factors (poly_ops o) p f f k.done s.front (p.same_refl f) s.fronts in
      record {
        done = s.front;
        next = s.item;
        rest = s.back;
        split = s.split;
        meets = inl (record { left = has-same o l (times_all (poly_ops o) f k.done) (times_all (poly_ops o) f s.front) x so_far meet.left; right = has-same o l k.next s.item y s.items meet.right; over = meet.over });
      }

  pub substitution-alike : (images others : List (Polynomial E)) → AllZip (IsSame (poly_ops o)) images others → (f : Polynomial E) (x y : ℕ) → SubstitutionMeets o is_element high v images f x y → SubstitutionMeets o is_element high v others f x y
  substitution-alike images others alike f x y (in_products t has meet) =
      in_products t has (products-alike (constant o t.1) (factors images t.0) (factors others t.0) (factors-same (poly_ops o) (poly_laws o l) images others alike t.0) x y meet)
  substitution-alike images others alike f x y (in_sum (stored, all, h)) = absurd (none adds h.sum h.next.1 x y h.meets)

-- ---- over residues

no-degree : (op : RingOp) (c d x y : ℕ) → ¬ (never op c d x y)
no-degree op c d x y h = h

-- a substitution over residues answers only degrees over the limit, and only where it does not fit
pub residues-misfit : (p v : ℕ) (images : List (Polynomial ℕ)) (f : Polynomial ℕ) (w : ℕ) → IsNormal (residue_ops p) (λ c. nat_lt c p) w f → (x y : ℕ)
    → SubstitutionMeets (residue_ops p) (λ c. nat_lt c p) never v images f x y → (max_degree < x + y) × (substitution_fits (residue_ops p) images f ≡ false)
residues-misfit p v images f w normal x y h = substitution-misfit (residue_ops p) (residue_laws p) (λ c. nat_lt c p) never no-degree v w images f normal x y h

-- and so a combination
pub residues-uncombined : (p v : ℕ) (us fs : List (Polynomial ℕ)) → length us ≡ length fs → (x y : ℕ)
    → CombinationMeets (residue_ops p) (λ c. nat_lt c p) never v us fs x y → (max_degree < x + y) × (combination_fits (residue_ops p) us fs ≡ false)
residues-uncombined p v us fs many x y h = combination-misfit (residue_ops p) (residue_laws p) (λ c. nat_lt c p) never no-degree v us fs many x y h

-- images that are the same, place by place, meet the same degrees
pub residues-alike : (p v : ℕ) (images others : List (Polynomial ℕ)) → AllZip (IsSame (poly_ops (residue_ops p))) images others → (f : Polynomial ℕ) (x y : ℕ)
    → SubstitutionMeets (residue_ops p) (λ c. nat_lt c p) never v images f x y → SubstitutionMeets (residue_ops p) (λ c. nat_lt c p) never v others f x y
residues-alike p v images others alike f x y h = substitution-alike (residue_ops p) (residue_laws p) (λ c. nat_lt c p) never no-degree v images others alike f x y h
