-- Combinations of combinations, in copies of their variables.
--   combination-split     a combination of two lists, one after the other
--   past-combination      a combination in later variables
--   copies-combination    what has, in each copy, the sums of products as cofactors is the combination by the quotients
--   copies-length         how many polynomials stand in the copies
use Rattle.std.proofs.Common.{◌≡◌, ℕ, zero, suc, ◌+◌, ◌*◌, ◌<◌, List, [], ◌∷◌, ◌++◌, length, length-append, get_or, take, drop, map, refl, sym, ◌∙◌, ap, ap₂, subst, subst₂, arith}
use Rattle.std.specs.Prelude.{flat_map}
use Rattle.std.specs.List.{range_with_len}
use Rattle.std.proofs.lemmas.List.{append_assoc, length-map, drop-drop, get_or-take, get_or-drop}
use Rattle.std.proofs.lemmas.List.Elements.{length_all_zip}
use Rattle.rinv_algebra.specs.Ring.{RingOps, RingLaws, IsSame}
use Rattle.rinv_algebra.specs.Polynomial.{Polynomial, poly_ops, product, past}
use Rattle.rinv_algebra.specs.Ideal.{combination}
use Rattle.rinv_algebra.proofs.PolynomialLaws.{poly_laws}
use Rattle.rinv_algebra.proofs.RingFacts as facts
use Rattle.rinv_theory.proofs.Values.{IsMap}
use Rattle.rinv_theory.proofs.Variables.{past_map}
use Rattle.rinv_groebner.specs.Division.{AreSame}
use Rattle.rinv_groebner.specs.Copies.{copies}
use Rattle.rinv_cofactors.specs.Combining.{column}
use Rattle.rinv_cofactors.proofs.CombinedSums.{combination-right, column-sums}

module _ {E : Type 0} (o : RingOps E) where
  combination-split : (us fs gs : List (Polynomial E)) → combination o us (fs ++ gs) ≡ combination o (take (length fs) us) fs ++ combination o (drop (length fs) us) gs
  unfolding combination
  combination-split us [] gs = refl
  combination-split [] (f ∷ fs) gs = refl
  combination-split (u ∷ us) (f ∷ fs) gs = ap (λ (r : Polynomial E). product o u f ++ r) (combination-split us fs gs) ∙ sym (append_assoc (product o u f) (combination o (take (length fs) us) fs) (combination o (drop (length fs) us) gs))

  combination-nothing : (us : List (Polynomial E)) → combination o us [] ≡ []
  unfolding combination
  combination-nothing [] = refl
  combination-nothing (u ∷ us) = refl

no-times : (n : ℕ) → 0 * n ≡ 0
no-times n = omega arith

-- how many polynomials stand in the copies
flat-length : {X : Type 0} (n : ℕ) (G : ℕ → List X) → ((j : ℕ) → length (G j) ≡ n) → (c s : ℕ) → length (flat_map G (range_with_len s c)) ≡ c * n
flat-length n G long zero s = omega arith
flat-length n G long (suc c) s = length-append (G s) (flat_map G (range_with_len (s + 1) c)) ∙ ap₂ (λ (a b : ℕ). a + b) (long s) (flat-length n G long c (s + 1)) ∙ one_more n c
  where
    one_more : (n c : ℕ) → n + c * n ≡ suc c * n
    one_more n c = omega arith

pub copies-length : {E : Type 0} (c v : ℕ) (fs : List (Polynomial E)) → length (copies c v fs) ≡ c * length fs
copies-length c v fs = flat-length (length fs) (λ j. map (past (j * v)) fs) (λ j. length-map fs (past (j * v))) c 0

module _ {E : Type 0} (o : RingOps E) (l : RingLaws o) where
  past-combination : (k : ℕ) (us fs : List (Polynomial E)) → IsSame (poly_ops o) (past k (combination o us fs)) (combination o (map (past k) us) (map (past k) fs))
  unfolding combination
  past-combination k [] fs = (poly_laws o l).same_refl []
  past-combination k (u ∷ us) [] = (poly_laws o l).same_refl []
  past-combination k (u ∷ us) (f ∷ fs) =
      let σ : IsMap (poly_ops o) (poly_ops o) (past k) = past_map o l k in
      facts.then (poly_ops o) (poly_laws o l) (σ.add _ _) (facts.add2 (poly_ops o) (poly_laws o l) (σ.mul u f) (past-combination k us fs))

  -- combinations in later variables
  past-sums : (k : ℕ) (fs hs : List (Polynomial E)) (lists : List (List (Polynomial E))) → AreSame o hs (map (λ us. combination o us fs) lists)
      → AreSame o (map (past k) hs) (map (λ us. combination o us (map (past k) fs)) (map (λ us. map (past k) us) lists))
  past-sums k fs [] [] s = tt
  past-sums k fs [] (us ∷ lists) s = absurd s
  past-sums k fs (h ∷ hs) [] s = absurd s
  past-sums k fs (h ∷ hs) (us ∷ lists) s =
      let σ : IsMap (poly_ops o) (poly_ops o) (past k) = past_map o l k in
      (facts.then (poly_ops o) (poly_laws o l) (σ.same h (combination o us fs) s.0) (past-combination k us fs), past-sums k fs hs lists s.1)

  -- combinations of lists put together, part by part
  module _ (n k : ℕ) (G H : ℕ → List (Polynomial E)) (g : (j : ℕ) → length (G j) ≡ n) (h : (j : ℕ) → length (H j) ≡ k) (us qs : List (Polynomial E)) where
    split-at : (m s : ℕ) (F : ℕ → List (Polynomial E)) → length (F s) ≡ m → (ws gs : List (Polynomial E)) → combination o (drop (s * m) ws) (F s ++ gs) ≡ combination o (take m (drop (s * m) ws)) (F s) ++ combination o (drop ((s + 1) * m) ws) gs
    split-at m s F e ws gs =
        combination-split o (drop (s * m) ws) (F s) gs
        ∙ ap (λ (i : ℕ). combination o (take i (drop (s * m) ws)) (F s) ++ combination o (drop i (drop (s * m) ws)) gs) e
        ∙ ap (λ (vs : List (Polynomial E)). combination o (take m (drop (s * m) ws)) (F s) ++ combination o vs gs) (drop-drop m (s * m) ws ∙ ap (λ (i : ℕ). drop i ws) (one_more s m))
      where
        one_more : (s m : ℕ) → s * m + m ≡ (s + 1) * m
        one_more s m = omega arith

    flat-combination : (c s : ℕ) → ((j : ℕ) → j < s + c → IsSame (poly_ops o) (combination o (take n (drop (j * n) us)) (G j)) (combination o (take k (drop (j * k) qs)) (H j)))
        → IsSame (poly_ops o) (combination o (drop (s * n) us) (flat_map G (range_with_len s c))) (combination o (drop (s * k) qs) (flat_map H (range_with_len s c)))
    flat-combination zero s each = rw (combination-nothing o (drop (s * n) us), combination-nothing o (drop (s * k) qs)) ((poly_laws o l).same_refl [])
    flat-combination (suc c) s each =
        subst₂ (IsSame (poly_ops o)) (sym (split-at n s G (g s) us (flat_map G (range_with_len (s + 1) c)))) (sym (split-at k s H (h s) qs (flat_map H (range_with_len (s + 1) c))))
        (facts.add2 (poly_ops o) (poly_laws o l) (each s (omega arith)) (flat-combination c (s + 1) (λ j low. each j (omega (arith, low)))))

  -- what has, in each copy, the sums of the quotients times the cofactors there as cofactors is the combination by the quotients
  pub copies-combination : (c v : ℕ) (fs hs us qs : List (Polynomial E)) (lists : List (List (Polynomial E))) → AreSame o hs (map (λ us. combination o us fs) lists)
      → ((j m : ℕ) → j < c → m < length fs → IsSame (poly_ops o) (get_or us (j * length fs + m) []) (combination o (take (length lists) (drop (j * length lists) qs)) (column (map (λ us. map (past (j * v)) us) lists) m)))
      → IsSame (poly_ops o) (combination o us (copies c v fs)) (combination o qs (copies c v hs))
  copies-combination c v fs hs us qs lists s rule =
      subst₂ (λ (ws rs : List (Polynomial E)). IsSame (poly_ops o) (combination o ws (copies c v fs)) (combination o rs (copies c v hs))) (from_start (length fs) us) (from_start (length lists) qs)
      (flat-combination (length fs) (length lists) (λ j. map (past (j * v)) fs) (λ j. map (past (j * v)) hs) (λ j. length-map fs (past (j * v))) (λ j. length-map hs (past (j * v)) ∙ long) us qs c 0 (λ j low. in_one j (omega (arith, low))))
    where
      from_start : (n : ℕ) (ws : List (Polynomial E)) → drop (0 * n) ws ≡ ws
      from_start n ws = ap (λ (i : ℕ). drop i ws) (no-times n)

      long : length hs ≡ length lists
      long = length_all_zip (IsSame (poly_ops o)) hs (map (λ us. combination o us fs) lists) s ∙ length-map lists (λ us. combination o us fs)

      in_one : (j : ℕ) → j < c → IsSame (poly_ops o) (combination o (take (length fs) (drop (j * length fs) us)) (map (past (j * v)) fs)) (combination o (take (length lists) (drop (j * length lists) qs)) (map (past (j * v)) hs))
      in_one j low =
          let own = take (length fs) (drop (j * length fs) us) in
          let quotients = take (length lists) (drop (j * length lists) qs) in
          let given = map (past (j * v)) fs in
          let moved = map (λ us. map (past (j * v)) us) lists in
          facts.then (poly_ops o) (poly_laws o l)
          (column-sums o l given quotients own moved (λ m inside.
          let m_low : m < length fs = omega (arith, inside, length-map fs (past (j * v))) in
          subst (λ (f : Polynomial E). IsSame (poly_ops o) f (combination o quotients (column moved m)))
          (sym (get_or-take (length fs) (drop (j * length fs) us) m [] m_low ∙ get_or-drop (j * length fs) us m [])) (rule j m low m_low)))
          ((poly_laws o l).same_sym _ _ (combination-right o l quotients (map (past (j * v)) hs) (map (λ us. combination o us given) moved) (past-sums (j * v) fs hs lists s)))
