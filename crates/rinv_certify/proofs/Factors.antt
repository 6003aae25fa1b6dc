-- Common denominators, factor by factor.
--   once-next                    one more denominator
--   among-none, among-some       whether a polynomial is the same as one of a list
--   factor-more, factor-meets    one more factor
--   others-next                  the factors other than a coefficient's own denominator
use Rattle.std.proofs.Common.{◌≡◌, ℕ, zero, suc, ◌+◌, ◌<◌, Bool, true, false, cond, not, List, [], ◌∷◌, ◌++◌, length, get_or, map, take, drop, refl, sym, ◌∙◌, ap, arith, append-nil, true≢false}
use Rattle.std.specs.Prelude.{◌||◌, filter}
use Rattle.std.specs.List.{list_any}
use Rattle.std.proofs.lemmas.List.{map_push}
use Rattle.std.proofs.lemmas.List.Folds.{list_any-append, list_any_at}
use Rattle.std.proofs.lemmas.List.Elements.{filter-append}
use Rattle.rinv_algebra.specs.Ring.{IsSame}
use Rattle.rinv_algebra.specs.Residue.{residue_ops}
use Rattle.rinv_algebra.specs.Polynomial.{poly_ops, product, same}
use Rattle.rinv_algebra.proofs.PolynomialLaws.{poly_laws}
use Rattle.rinv_algebra.proofs.ResidueLaws.{residue_laws}
use Rattle.rinv_algebra.proofs.RingFacts as facts
use Rattle.rinv_poly.specs.Faults.{MonomialsMeet}
use Rattle.rinv_sub.proofs.Sums.{take-at}
use Rattle.rinv_sub.proofs.Refused.{has-same}
use Rattle.rinv_defs.specs.System.{System, Poly}
use Rattle.rinv_defs.specs.Invariant.{Fraction}
use Rattle.rinv_acceptance.specs.Denominators.{once, product_from}
use Rattle.rinv_certify.specs.Meets.{FactorsMeet}

-- ---- lists

any-more : {X : Type 0} (test : X → Bool) (xs : List X) (k : ℕ) (x : X) → k < length xs → x ≡ get_or xs k x → list_any test (take k xs) ≡ false → test x ≡ false → list_any test (take (k + 1) xs) ≡ false
any-more test xs k x h at so_far here = ap (list_any test) (take-at xs k x h at) ∙ list_any-append test (take k xs) (x ∷ []) ∙ rw (so_far, here) refl

split-at : {X : Type 0} (xs : List X) (k : ℕ) (x : X) → k < length xs → x ≡ get_or xs k x → xs ≡ take k xs ++ x ∷ drop (suc k) xs
split-at [] k x h at = absurd (omega (arith, h))
split-at (y ∷ xs) zero x h at = ap (λ z. z ∷ xs) (sym at)
split-at (y ∷ xs) (suc k) x h at = ap (λ zs. y ∷ zs) (split-at xs k x (omega (arith, h)) at)

filter-more : {X : Type 0} (test : X → Bool) (xs : List X) (k : ℕ) (x : X) → k < length xs → x ≡ get_or xs k x → filter test (take (k + 1) xs) ≡ filter test (take k xs) ++ cond (test x) (x ∷ []) []
filter-more test xs k x h at = ap (filter test) (take-at xs k x h at) ∙ filter-append test (take k xs) (x ∷ [])

module _ (s : System) where
  -- what is not the same as x and the same as d stays
  any-filter : (x d : Poly) → same (residue_ops s.p) x d ≡ false → (ys : List Poly) → list_any (λ e. same (residue_ops s.p) e d) (filter (λ e. not (same (residue_ops s.p) x e)) ys) ≡ list_any (λ e. same (residue_ops s.p) e d) ys
  any-filter x d n [] = refl
  any-filter x d n (y ∷ ys) = go (same (residue_ops s.p) x y) refl (filter (λ e. not (same (residue_ops s.p) x e)) ys) (any-filter x d n ys)
    where
      other : (b : Bool) → same (residue_ops s.p) x y ≡ true → same (residue_ops s.p) y d ≡ b → b ≡ false
      other false e t = refl
      other true e t = absurd (true≢false (sym ((poly_laws (residue_ops s.p) (residue_laws s.p)).same_trans x y d e t) ∙ n))

      go : (a : Bool) → same (residue_ops s.p) x y ≡ a → (fs : List Poly) → list_any (λ e. same (residue_ops s.p) e d) fs ≡ list_any (λ e. same (residue_ops s.p) e d) ys
          → list_any (λ e. same (residue_ops s.p) e d) (cond (not a) (y ∷ fs) fs) ≡ (same (residue_ops s.p) y d || list_any (λ e. same (residue_ops s.p) e d) ys)
      go false e fs r = ap (λ (z : Bool). same (residue_ops s.p) y d || z) r
      go true e fs r = r ∙ sym (ap (λ (b : Bool). b || list_any (λ e. same (residue_ops s.p) e d) ys) (other (same (residue_ops s.p) y d) e refl))

  -- one more denominator
  once-more : (ds : List Poly) (d : Poly) → once s (ds ++ d ∷ []) ≡ cond (list_any (λ e. same (residue_ops s.p) e d) (once s ds)) (once s ds) (once s ds ++ d ∷ [])
  once-more [] d = refl
  once-more (x ∷ xs) d = ap (λ zs. x ∷ filter (λ e. not (same (residue_ops s.p) x e)) zs) (once-more xs d) ∙ go (same (residue_ops s.p) x d) refl (once s xs) (list_any (λ e. same (residue_ops s.p) e d) (once s xs)) refl
    where
      go : (a : Bool) → same (residue_ops s.p) x d ≡ a → (ys : List Poly) (b : Bool) → list_any (λ e. same (residue_ops s.p) e d) ys ≡ b
          → (x ∷ filter (λ e. not (same (residue_ops s.p) x e)) (cond b ys (ys ++ d ∷ [])))
          ≡ cond (same (residue_ops s.p) x d || list_any (λ e. same (residue_ops s.p) e d) (filter (λ e. not (same (residue_ops s.p) x e)) ys)) (x ∷ filter (λ e. not (same (residue_ops s.p) x e)) ys) ((x ∷ filter (λ e. not (same (residue_ops s.p) x e)) ys) ++ d ∷ [])
      go true e ys true any = rw e refl
      go true e ys false any = rw (filter-append (λ e. not (same (residue_ops s.p) x e)) ys (d ∷ []), e) (ap (λ zs. x ∷ zs) (append-nil _))
      go false e ys true any = rw (any-filter x d e ys, e, any) refl
      go false e ys false any = rw (filter-append (λ e. not (same (residue_ops s.p) x e)) ys (d ∷ []), any-filter x d e ys, e, any) refl

  pub once-next : (tail : List (List ℕ × Fraction)) (k : ℕ) (x : List ℕ × Fraction) (list : List Poly) (d : Poly) (new : List Poly) → k < length tail → x ≡ get_or tail k x → list ≡ once s (map (λ t. t.1.1) (take k tail)) → d ≡ x.1.1
      → new ≡ cond (list_any (λ e. same (residue_ops s.p) e d) list) list (list ++ d ∷ []) → new ≡ once s (map (λ t. t.1.1) (take (k + 1) tail))
  once-next tail k x list d new h at so_far is made =
      made ∙ ap (λ (f : Poly). cond (list_any (λ e. same (residue_ops s.p) e f) list) list (list ++ f ∷ [])) is
      ∙ ap (λ (ds : List Poly). cond (list_any (λ e. same (residue_ops s.p) e x.1.1) ds) ds (ds ++ x.1.1 ∷ [])) so_far
      ∙ sym (ap (λ ts. once s (map (λ t. t.1.1) ts)) (take-at tail k x h at) ∙ ap (once s) (map_push (λ (t : List ℕ × Fraction). t.1.1) (take k tail) x) ∙ once-more (map (λ t. t.1.1) (take k tail)) x.1.1)

  -- whether a polynomial is the same as one of a list
  pub among-none : (f : Poly) (list : List Poly) (k : ℕ) (d : Poly) (b : Bool) → k < length list → d ≡ get_or list k d → b ≡ same (residue_ops s.p) d f → b ≡ false
      → list_any (λ d. same (residue_ops s.p) d f) (take k list) ≡ false → list_any (λ d. same (residue_ops s.p) d f) (take (k + 1) list) ≡ false
  among-none f list k d b h at test off so_far = any-more (λ d. same (residue_ops s.p) d f) list k d h at so_far (sym test ∙ off)

  pub among-some : (f : Poly) (list : List Poly) (k : ℕ) (d : Poly) (b : Bool) → k < length list → d ≡ get_or list k d → b ≡ same (residue_ops s.p) d f → b ≡ true → true ≡ list_any (λ d. same (residue_ops s.p) d f) list
  among-some f list k d b h at test on = sym (list_any_at (λ d. same (residue_ops s.p) d f) list k d h (ap (λ g. same (residue_ops s.p) g f) (sym at) ∙ sym test ∙ on))

  -- the factors other than a coefficient's own denominator
  pub others-next : (den : Poly) (ds : List Poly) (k : ℕ) (d : Poly) (others new : List Poly) → k < length ds → d ≡ get_or ds k d → others ≡ filter (λ e. not (same (residue_ops s.p) e den)) (take k ds)
      → new ≡ others ++ cond (same (residue_ops s.p) d den) [] (d ∷ []) → new ≡ filter (λ e. not (same (residue_ops s.p) e den)) (take (k + 1) ds)
  others-next den ds k d others new h at so_far made =
      made ∙ ap (λ (fs : List Poly). fs ++ cond (same (residue_ops s.p) d den) [] (d ∷ [])) so_far
      ∙ ap (λ (fs : List Poly). filter (λ e. not (same (residue_ops s.p) e den)) (take k ds) ++ fs) (turned (same (residue_ops s.p) d den)) ∙ sym (filter-more (λ e. not (same (residue_ops s.p) e den)) ds k d h at)
    where
      turned : (b : Bool) → cond b [] (d ∷ []) ≡ cond (not b) (d ∷ []) []
      turned true = refl
      turned false = refl

  -- one more factor
  product_from-push : (f : Poly) (ds : List Poly) (d : Poly) → product_from s f (ds ++ d ∷ []) ≡ product (residue_ops s.p) (product_from s f ds) d
  product_from-push f [] d = refl
  product_from-push f (e ∷ ds) d = product_from-push (product (residue_ops s.p) f e) ds d

  module _ (f : Poly) (ds : List Poly) (k : ℕ) (d : Poly) (h : k < length ds) (at : d ≡ get_or ds k d) (made : Poly) (so_far : IsSame (poly_ops (residue_ops s.p)) made (product_from s f (take k ds))) where
    pub factor-more : (r : Poly) → IsSame (poly_ops (residue_ops s.p)) r (product (residue_ops s.p) made d) → IsSame (poly_ops (residue_ops s.p)) r (product_from s f (take (k + 1) ds))
    factor-more r is =
        let o = poly_ops (residue_ops s.p) in
        let laws = poly_laws (residue_ops s.p) (residue_laws s.p) in
        facts.then o laws is (facts.then o laws (laws.mul_same made (product_from s f (take k ds)) d d so_far (laws.same_refl d))
        (facts.of_same o laws (sym (ap (product_from s f) (take-at ds k d h at) ∙ product_from-push f (take k ds) d))))

    pub factor-meets : (x y : ℕ) → MonomialsMeet (residue_ops s.p) made d x y → FactorsMeet s f ds x y
    factor-meets x y m = record {
      before = take k ds;
      factor = d;
      after = drop (suc k) ds;
      factors = split-at ds k d h at;
      meets = record { left = has-same (residue_ops s.p) (residue_laws s.p) made (product_from s f (take k ds)) x so_far m.left; right = m.right; over = m.over };
    }
