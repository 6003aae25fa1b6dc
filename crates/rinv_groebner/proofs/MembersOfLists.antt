-- Members of the ideal of a list, with their cofactors.
--   member-same, member_plus, member_times    what is the same, a sum, a multiple
--   member_generator     an element of the list
--   member_trans         a member of the ideal of members
--   members_at, members_from    lists of members, place by place
use Rattle.std.proofs.Common.{◌≡◌, ℕ, zero, suc, ◌+◌, List, [], ◌∷◌, ◌++◌, map, get_or, refl, sym, ◌∙◌, ap, ap₂, arith}
use Rattle.std.proofs.lemmas.List.{length-map}
use Rattle.rinv_algebra.specs.Ring.{RingOps, RingLaws}
use Rattle.rinv_algebra.specs.Polynomial.{Polynomial, poly_ops, product}
use Rattle.rinv_algebra.specs.Ideal.{combination, IsMember}
use Rattle.rinv_algebra.proofs.PolynomialLaws.{poly_laws}
use Rattle.rinv_theory.proofs.CRing.{CRing, add_zero, mul_zero}
use Rattle.rinv_theory.proofs.Solver.{ring, reading}
use Rattle.rinv_theory.proofs.Classes.{class_sound, class_exact, class-add, class-mul, class-zero, class-one}
use Rattle.rinv_theory.proofs.Polynomials.{poly_ring}
use Rattle.rinv_theory.proofs.Members.{generator, poly, member_none, member_more, combination-cons}
use Rattle.rinv_groebner.specs.Basis.{AreMembers}

spread : {R : Type 0} (𝓡 : CRing R) (u w f c : R) → 𝓡.add (𝓡.mul (𝓡.mul u w) f) (𝓡.mul u c) ≡ 𝓡.mul u (𝓡.add (𝓡.mul w f) c)
spread 𝓡 u w f c = ring 𝓡 (u ∷ w ∷ f ∷ c ∷ []) (search reading depth 30) refl

module _ {E : Type 0} (o : RingOps E) (l : RingLaws o) where
  combination-times : (u : Polynomial E) (us fs : List (Polynomial E)) → poly o l (combination o (map (product o u) us) fs) ≡ (poly_ring o l).mul (poly o l u) (poly o l (combination o us fs))
  unfolding combination
  combination-times u [] fs = class-zero (poly_ops o) (poly_laws o l) ∙ sym (ap ((poly_ring o l).mul (poly o l u)) (class-zero (poly_ops o) (poly_laws o l)) ∙ mul_zero (poly_ring o l) _)
  combination-times u (w ∷ us) [] = class-zero (poly_ops o) (poly_laws o l) ∙ sym (ap ((poly_ring o l).mul (poly o l u)) (class-zero (poly_ops o) (poly_laws o l)) ∙ mul_zero (poly_ring o l) _)
  combination-times u (w ∷ us) (f ∷ fs) =
      combination-cons o l (product o u w) f (map (product o u) us) fs
      ∙ ap₂ (λ x y. (poly_ring o l).add ((poly_ring o l).mul x (poly o l f)) y) (class-mul (poly_ops o) (poly_laws o l) u w) (combination-times u us fs)
      ∙ spread (poly_ring o l) _ _ _ _ ∙ ap ((poly_ring o l).mul (poly o l u)) (sym (combination-cons o l w f us fs))

  module _ (fs : List (Polynomial E)) where
    -- what is the same as a member
    pub member-same : (f g : Polynomial E) → poly o l g ≡ poly o l f → IsMember o fs f → IsMember o fs g
    member-same f g e m = record { cofactors = m.cofactors; as_many = m.as_many; sums_up = class_exact (poly_ops o) (poly_laws o l) g _ (e ∙ class_sound (poly_ops o) (poly_laws o l) f _ m.sums_up) }

    -- a multiple
    pub member_times : (u f g : Polynomial E) → poly o l g ≡ (poly_ring o l).mul (poly o l u) (poly o l f) → IsMember o fs f → IsMember o fs g
    member_times u f g e m = record {
      cofactors = map (product o u) m.cofactors;
      as_many = length-map m.cofactors (product o u) ∙ m.as_many;
      sums_up = class_exact (poly_ops o) (poly_laws o l) g _ (e ∙ ap ((poly_ring o l).mul (poly o l u)) (class_sound (poly_ops o) (poly_laws o l) f _ m.sums_up) ∙ sym (combination-times u m.cofactors fs));
    }

    -- a combination more; the list's elements stand in the whole list from place k on
    plus_combination : (us gs : List (Polynomial E)) (k : ℕ) → ((j : ℕ) → generator o l gs j ≡ generator o l fs (k + j)) → (g h : Polynomial E) → poly o l h ≡ (poly_ring o l).add (poly o l (combination o us gs)) (poly o l g) → IsMember o fs g → IsMember o fs h
    unfolding combination
    plus_combination [] gs k at g h e m = member-same g h (e ∙ ap (λ x. (poly_ring o l).add x (poly o l g)) (class-zero (poly_ops o) (poly_laws o l)) ∙ (poly_ring o l).zero_add _) m
    plus_combination (u ∷ us) [] k at g h e m = member-same g h (e ∙ ap (λ x. (poly_ring o l).add x (poly o l g)) (class-zero (poly_ops o) (poly_laws o l)) ∙ (poly_ring o l).zero_add _) m
    plus_combination (u ∷ us) (f ∷ gs) k at g h e m =
        member_more o l fs h u k (combination o us gs ++ g)
        (e ∙ ap (λ x. (poly_ring o l).add x (poly o l g)) (combination-cons o l u f us gs) ∙ (poly_ring o l).add_assoc _ _ _
        ∙ ap₂ (λ x y. (poly_ring o l).add ((poly_ring o l).mul (poly o l u) x) y) (at 0 ∙ ap (generator o l fs) (from_zero k)) (sym (class-add (poly_ops o) (poly_laws o l) (combination o us gs) g)))
        (plus_combination us gs (suc k) (λ j. at (suc j) ∙ ap (generator o l fs) (one_more k j)) g (combination o us gs ++ g) (class-add (poly_ops o) (poly_laws o l) (combination o us gs) g) m)
      where
        from_zero : (k : ℕ) → k + 0 ≡ k
        from_zero k = omega arith

        one_more : (k j : ℕ) → k + suc j ≡ suc k + j
        one_more k j = omega arith

    -- a sum
    pub member_plus : (f g h : Polynomial E) → poly o l h ≡ (poly_ring o l).add (poly o l f) (poly o l g) → IsMember o fs f → IsMember o fs g → IsMember o fs h
    member_plus f g h e m n = plus_combination m.cofactors fs 0 (λ j. ap (generator o l fs) (from_start j)) g h (e ∙ ap (λ x. (poly_ring o l).add x (poly o l g)) (class_sound (poly_ops o) (poly_laws o l) f _ m.sums_up)) n
      where
        from_start : (j : ℕ) → j ≡ 0 + j
        from_start j = omega arith

    -- an element of the list
    pub member_generator : (k : ℕ) → IsMember o fs (get_or fs k [])
    member_generator k = member_more o l fs (get_or fs k []) (poly_ops o).one k [] whole (member_none o l fs [] (class-zero (poly_ops o) (poly_laws o l)))
      where
        whole : poly o l (get_or fs k []) ≡ (poly_ring o l).add ((poly_ring o l).mul (poly o l (poly_ops o).one) (generator o l fs k)) (poly o l [])
        whole = sym (ap₂ (λ x y. (poly_ring o l).add ((poly_ring o l).mul x (generator o l fs k)) y) (class-one (poly_ops o) (poly_laws o l)) (class-zero (poly_ops o) (poly_laws o l)) ∙ add_zero (poly_ring o l) _ ∙ (poly_ring o l).one_mul _)

    -- a combination of members
    pub combination_member : (us gs : List (Polynomial E)) → ((k : ℕ) → IsMember o fs (get_or gs k [])) → IsMember o fs (combination o us gs)
    unfolding combination
    combination_member [] gs all = member_none o l fs [] (class-zero (poly_ops o) (poly_laws o l))
    combination_member (u ∷ us) [] all = member_none o l fs [] (class-zero (poly_ops o) (poly_laws o l))
    combination_member (u ∷ us) (g ∷ gs) all = member_plus (product o u g) (combination o us gs) _ (class-add (poly_ops o) (poly_laws o l) (product o u g) (combination o us gs)) (member_times u g (product o u g) (class-mul (poly_ops o) (poly_laws o l) u g) (all 0)) (combination_member us gs (λ k. all (suc k)))

    -- a member of the ideal of members
    pub member_trans : (gs : List (Polynomial E)) → ((k : ℕ) → IsMember o fs (get_or gs k [])) → (f : Polynomial E) → IsMember o gs f → IsMember o fs f
    member_trans gs all f m = member-same (combination o m.cofactors gs) f (class_sound (poly_ops o) (poly_laws o l) f _ m.sums_up) (combination_member m.cofactors gs all)

    -- a list of members, place by place
    pub members_at : (gs : List (Polynomial E)) → AreMembers o fs gs → (k : ℕ) → IsMember o fs (get_or gs k [])
    members_at [] all zero = member_none o l fs [] (class-zero (poly_ops o) (poly_laws o l))
    members_at [] all (suc k) = member_none o l fs [] (class-zero (poly_ops o) (poly_laws o l))
    members_at (g ∷ gs) all zero = all.0
    members_at (g ∷ gs) all (suc k) = members_at gs all.1 k

    -- and the other way round
    pub members_from : (gs : List (Polynomial E)) → ((k : ℕ) → IsMember o fs (get_or gs k [])) → AreMembers o fs gs
    members_from [] all = tt
    members_from (g ∷ gs) all = (all 0, members_from gs (λ k. all (suc k)))
