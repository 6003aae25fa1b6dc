-- The polynomial of a relation: its lead less the sum of its tail, term by term.
--   fits-more, sum-more      one term more
--   fits-stop, fits-end      whether all terms fit
--   relation-value           the difference
use Rattle.std.proofs.Common.{◌≡◌, ℕ, ◌+◌, ◌<◌, ◌≤◌, Bool, true, false, ◌&&◌, List, [], ◌∷◌, ◌++◌, length, map, get_or, take, refl, sym, ap, ◌∙◌, append-nil}
use Rattle.std.specs.Prelude.{flat_map}
use Rattle.std.specs.List.{list_all}
use Rattle.std.proofs.lemmas.List.{take_all, take_more}
use Rattle.std.proofs.lemmas.List.Folds.{list_all-append, list_all-map, list_all_at, flat_map-map}
use Rattle.std.proofs.lemmas.Grind.{flat_map-append}
use Rattle.rinv_algebra.specs.Ring.{IsSame}
use Rattle.rinv_algebra.specs.Residue.{residue_ops}
use Rattle.rinv_algebra.specs.Polynomial.{poly_ops, term_product, difference, opposite}
use Rattle.rinv_algebra.specs.Fits.{product_fits}
use Rattle.rinv_algebra.proofs.PolynomialLaws.{poly_laws}
use Rattle.rinv_algebra.proofs.ResidueLaws.{residue_laws}
use Rattle.rinv_algebra.proofs.Same.{and_true}
use Rattle.rinv_poly.specs.Sums.{sum_of}
use Rattle.rinv_poly.proofs.Gather.{same-then, same-equal, append-same}
use Rattle.rinv_poly.proofs.Summands.{sum_of-push}
use Rattle.rinv_defs.specs.System.{System, Poly}
use Rattle.rinv_defs.specs.RelationConditions.{z_power, behind_z, relation_of}
use Rattle.rinv_cert.specs.declared.certificate.Tied.{Tied}
use Rattle.rinv_cert.specs.Seen.{tail_item_by, relation_item_by}
use Rattle.rinv_basis_check.specs.Relations.{relation_fits}

-- the first elements, and one more
take-at : {X : Type 0} (xs : List X) (k : ℕ) (x : X) → k < length xs → x ≡ get_or xs k x → take (k + 1) xs ≡ take k xs ++ x ∷ []
take-at xs k x few at = take_more xs k x few ∙ ap (λ y. take k xs ++ y ∷ []) (sym at)

module _ (s : System) where
  -- whether the product of a term fits
  abbrev pub term_fits : List ℕ × Poly × Tied → Bool
  term_fits t = product_fits (residue_ops s.p) (z_power s t.0 ∷ []) (behind_z s t.1)

  -- the product of a term
  abbrev pub term_of : List ℕ × Poly × Tied → Poly
  term_of t = term_product (residue_ops s.p) (z_power s t.0) (behind_z s t.1)

  -- one term more
  pub fits-more : (ts : List (List ℕ × Poly × Tied)) (k : ℕ) (t : List ℕ × Poly × Tied) → k < length ts → t ≡ get_or ts k t → term_fits t ≡ true → list_all term_fits (take k ts) ≡ true → list_all term_fits (take (k + 1) ts) ≡ true
  fits-more ts k t few at fits so_far =
      rw (take-at ts k t few at, list_all-append term_fits (take k ts) (t ∷ [])) (and_true (list_all term_fits (take k ts)) (term_fits t && true) so_far (and_true (term_fits t) true fits refl))

  pub sum-more : (ts : List (List ℕ × Poly × Tied)) (k : ℕ) (t : List ℕ × Poly × Tied) (fs : List Poly) (f : Poly) → k < length ts → t ≡ get_or ts k t
      → IsSame (poly_ops (residue_ops s.p)) f (term_of t) → IsSame (poly_ops (residue_ops s.p)) (sum_of fs) (flat_map term_of (take k ts)) → IsSame (poly_ops (residue_ops s.p)) (sum_of (fs ++ f ∷ [])) (flat_map term_of (take (k + 1) ts))
  sum-more ts k t fs f few at is so_far =
      let o = residue_ops s.p in
      let l = residue_laws s.p in
      let whole : flat_map term_of (take k ts) ++ term_of t ≡ flat_map term_of (take (k + 1) ts) = sym (rw (take-at ts k t few at, flat_map-append term_of (take k ts) (t ∷ [])) (ap (λ (g : Poly). flat_map term_of (take k ts) ++ g) (append-nil (term_of t)))) in
      same-then o l (sum_of (fs ++ f ∷ [])) (sum_of fs ++ f) (flat_map term_of (take (k + 1) ts)) (same-equal o l (sum_of (fs ++ f ∷ [])) (sum_of fs ++ f) (sum_of-push fs f))
      (same-then o l (sum_of fs ++ f) (flat_map term_of (take k ts) ++ term_of t) (flat_map term_of (take (k + 1) ts)) (append-same o l (sum_of fs) (flat_map term_of (take k ts)) f (term_of t) so_far is)
      (same-equal o l (flat_map term_of (take k ts) ++ term_of t) (flat_map term_of (take (k + 1) ts)) whole))

  module _ (a : List ℕ) (d : Poly) (ts : List (List ℕ × Poly × Tied)) (us : List Poly) where
    -- the lead does not fit
    pub lead-misfits : false ≡ product_fits (residue_ops s.p) (z_power s a ∷ []) (behind_z s d) → false ≡ relation_fits s (relation_item_by (λ f. f) (a, d, ts, us))
    lead-misfits h = ap (λ (b : Bool). b && list_all (λ t. product_fits (residue_ops s.p) (z_power s t.alpha ∷ []) (behind_z s t.c)) (map (tail_item_by (λ f. f)) ts)) h

    terms-seen : list_all (λ t. product_fits (residue_ops s.p) (z_power s t.alpha ∷ []) (behind_z s t.c)) (map (tail_item_by (λ f. f)) ts) ≡ list_all term_fits ts
    terms-seen = list_all-map (λ t. product_fits (residue_ops s.p) (z_power s t.alpha ∷ []) (behind_z s t.c)) (tail_item_by (λ f. f)) ts

    -- a term does not
    pub term-misfits : true ≡ product_fits (residue_ops s.p) (z_power s a ∷ []) (behind_z s d) → (k : ℕ) (t : List ℕ × Poly × Tied) → k < length ts → t ≡ get_or ts k t → false ≡ term_fits t → false ≡ relation_fits s (relation_item_by (λ f. f) (a, d, ts, us))
    term-misfits h k t few at off = rw (← h) (sym (terms-seen ∙ list_all_at term_fits ts k t few (sym (off ∙ ap term_fits at))))

    -- all fit
    pub relation-fits : true ≡ product_fits (residue_ops s.p) (z_power s a ∷ []) (behind_z s d) → (k : ℕ) → length ts ≤ k → list_all term_fits (take k ts) ≡ true → true ≡ relation_fits s (relation_item_by (λ f. f) (a, d, ts, us))
    relation-fits h k past all = rw (← h) (sym (terms-seen ∙ sym (ap (list_all term_fits) (take_all k ts past)) ∙ all))

    -- the lead less the sum is the relation
    pub relation-value : (lead sum r : Poly) (fs : List Poly) (k : ℕ) → length ts ≤ k → IsSame (poly_ops (residue_ops s.p)) lead (term_product (residue_ops s.p) (z_power s a) (behind_z s d))
        → IsSame (poly_ops (residue_ops s.p)) sum (sum_of fs) → IsSame (poly_ops (residue_ops s.p)) (sum_of fs) (flat_map term_of (take k ts))
        → IsSame (poly_ops (residue_ops s.p)) r (difference (residue_ops s.p) lead sum) → IsSame (poly_ops (residue_ops s.p)) r (relation_of s (relation_item_by (λ f. f) (a, d, ts, us)))
    relation-value lead sum r fs k past is_lead is_sum so_far is =
        let o = residue_ops s.p in
        let l = residue_laws s.p in
        let first = term_product o (z_power s a) (behind_z s d) in
        let second = flat_map (λ t. term_product o (z_power s t.alpha) (behind_z s t.c)) (map (tail_item_by (λ f. f)) ts) in
        let seen : flat_map term_of (take k ts) ≡ second = ap (flat_map term_of) (take_all k ts past) ∙ sym (flat_map-map (λ t. term_product o (z_power s t.alpha) (behind_z s t.c)) (tail_item_by (λ f. f)) ts) in
        let tail : IsSame (poly_ops o) sum second = same-then o l sum (sum_of fs) second is_sum (same-then o l (sum_of fs) (flat_map term_of (take k ts)) second so_far (same-equal o l (flat_map term_of (take k ts)) second seen)) in
        same-then o l r (difference o lead sum) (difference o first second) is (append-same o l lead first (opposite o sum) (opposite o second) is_lead ((poly_laws o l).neg_same sum second tail))
