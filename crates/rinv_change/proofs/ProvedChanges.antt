-- The cofactors of the group's basis, and those of a change made of them.
--   wide-lengths, wide-long    how long the lists are
--   quotients-number     a change has as many quotients as elements are kept
--   change-proved        the sums of products prove the fraction invariant
--   sums-meet            the degrees that they meet
--   wide-made            the lists of cofactors that were made
use Rattle.std.proofs.Common.{◌≡◌, ◌<◌, ℕ, List, [], ◌∷◌, length, get_or, map, All, sym, ◌∙◌, subst, subst₂, inr}
use Rattle.std.specs.List.{AllZip, range_with_len}
use Rattle.std.proofs.lemmas.List.{length-map}
use Rattle.std.proofs.lemmas.List.Elements.{length_all_zip, All-nil, All-cons, All-head, All-map, All-tail}
use Rattle.std.proofs.lemmas.List.FromFn.{length-range_with_len}
use Rattle.rinv_algebra.specs.Ring.{IsSame}
use Rattle.rinv_algebra.specs.Residue.{residue_ops}
use Rattle.rinv_algebra.specs.Order.{grevlex}
use Rattle.rinv_algebra.specs.Polynomial.{poly_ops}
use Rattle.rinv_algebra.specs.Ideal.{combination}
use Rattle.rinv_algebra.proofs.PolynomialLaws.{poly_laws}
use Rattle.rinv_algebra.proofs.ResidueLaws.{residue_laws}
use Rattle.rinv_algebra.proofs.RingFacts as facts
use Rattle.rinv_groebner.specs.Division.{AreSame, quotients, quotient_at}
use Rattle.rinv_ring.specs.Fault.{DegreesMeet}
use Rattle.rinv_ring.specs.declared.fault.RingFault.{RingFault}
use Rattle.rinv_poly.proofs.Meets.{meet-weaker}
use Rattle.rinv_div.proofs.Summed.{identity}
use Rattle.rinv_buch.specs.Kinds.{Found}
use Rattle.rinv_cofactors.specs.Combining.{column, cofactor}
use Rattle.rinv_cofactors.proofs.CombinedSums.{combination-right, column-sums}
use Rattle.rinv_defs.specs.System.{System, Poly}
use Rattle.rinv_defs.specs.Invariant.{Fraction, change}
use Rattle.rinv_parts.specs.Points.{ArePolynomials}
use Rattle.rinv_laws.specs.Proofs.{KeepCofactors, ProductsMeet, chosen, kept_elements}
use Rattle.rinv_change.specs.Asked.{IsChangeRing}
use Rattle.rinv_laws.proofs.CopiedCofactors.{entries-same}
use Rattle.rinv_change.specs.Changes.{change_count}
use Rattle.rinv_change.specs.Cofactors.{AreQuotientsOf, AreWideCofactors, FollowRule, ProofMeets, ProvesInvariance}
use Rattle.rinv_change.proofs.WideLists.{columns-same}

-- lists are as long as those that they are the same as
wide-lengths : (p n : ℕ) (ws lists : List (List Poly)) → AllZip (AreSame (residue_ops p)) ws lists → All (λ us. length us ≡ n) lists → All (λ us. length us ≡ n) ws
wide-lengths p n [] lists same h = All-nil (λ us. length us ≡ n)
wide-lengths p n (w ∷ ws) [] same h = absurd same
wide-lengths p n (w ∷ ws) (us ∷ lists) same h = All-cons (λ us. length us ≡ n) w ws
    (length_all_zip (IsSame (poly_ops (residue_ops p))) w us same.0 ∙ All-head (λ us. length us ≡ n) us lists h)
    (wide-lengths p n ws lists same.1 (All-tail (λ us. length us ≡ n) us lists h))

module _ (s : System) (found : Found ℕ) (ws : List (List Poly)) (wide : AreWideCofactors s found ws) where
  pub wide-long : All (λ us. length us ≡ length s.ideal) ws
  wide-long = wide-lengths s.p (length s.ideal) ws wide.lists wide.same wide.keep.lengths

  wide-number : length ws ≡ length wide.lists
  wide-number = length_all_zip (AreSame (residue_ops s.p)) ws wide.lists wide.same

  kept-number : length (kept_elements s found) ≡ length wide.lists
  kept-number = length_all_zip (IsSame (poly_ops (residue_ops s.p))) (kept_elements s found) (map (λ us. combination (residue_ops s.p) us s.ideal) wide.lists) wide.keep.sums_up ∙ length-map wide.lists (λ us. combination (residue_ops s.p) us s.ideal)

  module _ (f : Fraction) (qs : List Poly) (own : AreQuotientsOf s found f qs) where
    -- as many quotients as lists
    pub quotients-number : length qs ≡ length ws
    quotients-number =
        let d = own.divides in
        length_all_zip (IsSame (poly_ops (residue_ops s.p))) qs (quotients (length d.hs) d.steps) d.divides.quotients
        ∙ length-map (range_with_len 0 (length d.hs)) (quotient_at d.steps) ∙ length-range_with_len 0 (length d.hs)
        ∙ length_all_zip (IsSame (poly_ops (residue_ops s.p))) d.hs (kept_elements s found) d.asked.basis ∙ kept-number ∙ sym wide-number

    -- the sums of products prove the fraction invariant
    pub change-proved : (us : List Poly) → length us ≡ length s.ideal → ArePolynomials s.p (change_count s) us
        → ((m : ℕ) → m < length s.ideal → IsSame (poly_ops (residue_ops s.p)) (get_or us m []) (combination (residue_ops s.p) qs (column ws m))) → ProvesInvariance s found f us
    change-proved us number normal made = record {
      number = number;
      normal = normal;
      sums_up = sums;
      lists = wide.lists;
      kept = wide.keep.kept;
      quotients = qs;
      rest = own.rest;
      divides = own.divides;
      rule = rule;
    }
      where
        rule : FollowRule s wide.lists qs us
        rule m low = facts.then (poly_ops (residue_ops s.p)) (poly_laws (residue_ops s.p) (residue_laws s.p)) (made m low)
            (combination-right (residue_ops s.p) (residue_laws s.p) qs (column ws m) (column wide.lists m) (columns-same (residue_ops s.p) (residue_laws s.p) ws wide.lists wide.same m))

        sums : IsSame (poly_ops (residue_ops s.p)) (change s f) (combination (residue_ops s.p) us s.ideal)
        sums =
            let o = residue_ops s.p in
            let l = residue_laws s.p in
            let laws = poly_laws o l in
            let d = own.divides in
            let whole = combination o qs d.hs in
            let kept = kept_elements s found in
            let combined = map (λ us. combination o us s.ideal) wide.lists in
            facts.then (poly_ops o) laws (laws.same_sym d.g (change s f) d.asked.change)
            (facts.then (poly_ops o) laws (identity o l grevlex d.hs qs d.g own.rest d.steps d.divides)
            (facts.then (poly_ops o) laws (facts.add2 (poly_ops o) laws (laws.same_refl whole) own.nothing)
            (facts.then (poly_ops o) laws (laws.add_zero whole)
            (facts.then (poly_ops o) laws (combination-right o l qs d.hs kept d.asked.basis)
            (facts.then (poly_ops o) laws (combination-right o l qs kept combined wide.keep.sums_up)
            (laws.same_sym (combination o us s.ideal) (combination o qs combined) (column-sums o l s.ideal qs us wide.lists rule)))))))

    -- the degrees that they meet
    pub sums-meet : (fault : RingFault) → DegreesMeet (ProductsMeet s.p qs ws) fault → DegreesMeet (ProofMeets s found f) fault
    sums-meet fault meets = meet-weaker (ProductsMeet s.p qs ws) (ProofMeets s found f) (λ x y m. inr (record {
      quotients = qs;
      rest = own.rest;
      divides = own.divides;
      lists = wide.lists;
      kept = wide.keep.kept;
      element = m.element;
      given = m.given;
      g = cofactor ws m.element m.given;
      is_cofactor = entries-same (residue_ops s.p) (residue_laws s.p) ws wide.lists wide.same m.element m.given;
      meets = m.meets;
    })) fault meets

-- the lists that were made are the kept elements' cofactors
pub wide-made : {W : Type 0} (view : W → List Poly) (s : System) (found : Found ℕ) (p v : ℕ) → IsChangeRing s p v → (given others : List W) (places ks : List ℕ) (ws : List W) → others ≡ given → ks ≡ places
    → KeepCofactors s found (chosen (map view given) places) → All (λ us. ArePolynomials p v (view us)) ws → AllZip (AreSame (residue_ops p)) (map view ws) (chosen (map view others) ks) → AreWideCofactors s found (map view ws)
wide-made view s found p v ring given others places ks ws a b keep normal same = record {
  lists = chosen (map view given) places;
  keep = keep;
  same = subst (λ (q : ℕ). AllZip (AreSame (residue_ops q)) (map view ws) (chosen (map view given) places)) ring.field (rw (← a, ← b) same);
  normal = All-map (ArePolynomials s.p (change_count s)) view ws (subst₂ (λ (q w : ℕ). All (λ us. ArePolynomials q w (view us)) ws) ring.field ring.vars normal);
}
