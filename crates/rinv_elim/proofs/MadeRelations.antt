-- A relation whose tail was made term by term is the relation of its element.
--   solved-relation      the fact
use Rattle.std.proofs.Common.{◌≡◌, ◌⊎◌, ℕ, zero, suc, Bool, true, false, cond, List, [], ◌∷◌, map, get_or, refl, sym, ◌∙◌, ap, subst, inl, inr, arith, true≢false}
use Rattle.std.specs.Prelude.{IsFalse, All, AllPairs}
use Rattle.std.proofs.lemmas.List.Elements.{All-head, All-tail, filter_agree}
use Rattle.rinv_algebra.specs.Ring.{RingOps, RingLaws, IsSame}
use Rattle.rinv_algebra.specs.Residue.{residue_ops}
use Rattle.rinv_algebra.specs.Monomial.{same_monomial}
use Rattle.rinv_algebra.specs.Polynomial.{coefficient, opposite, is_zero}
use Rattle.rinv_algebra.proofs.RingFacts as facts
use Rattle.rinv_algebra.proofs.MonomialLaws.{same_monomial_trans, same_monomial_sym, same_monomial-right}
use Rattle.rinv_algebra.proofs.ResidueLaws.{residue_laws}
use Rattle.rinv_algebra.proofs.ResidueField.{residue_field_laws}
use Rattle.rinv_algebra.proofs.Same.{IsAbsent, coefficient-absent}
use Rattle.rinv_theory.proofs.Fields.{fraction_laws}
use Rattle.rinv_defs.specs.System.{System, Poly}
use Rattle.rinv_defs.specs.Invariant.{Fraction}
use Rattle.rinv_defs.specs.Generators.{rational_ops, over_1}
use Rattle.rinv_defs.specs.RelationConditions.{z_part}
use Rattle.rinv_defs.specs.Extended.{Relation, FractionPoly}
use Rattle.rinv_frac.specs.Cancelling.{IsCancelled}
use Rattle.rinv_frac.proofs.Values.{zero-value}
use Rattle.rinv_frac.proofs.CancelledValues.{one_nonzero}
use Rattle.rinv_reduction.specs.Localised.{z_coefficient, IsRelationOf}
use Rattle.rinv_elim.specs.Localising.{IsSolution, IsSolved}
use Rattle.rinv_elim.proofs.SolvedCoefficients.{solved-coefficient}

module _ (s : System) (h : Poly) where
  abbrev Q : RingOps Fraction
  Q = rational_ops s.p

  abbrev q_laws : RingLaws Q
  q_laws = fraction_laws (residue_ops s.p) (residue_laws s.p) (residue_field_laws s.p)

  same-z_coefficient : (a b : List ℕ) → same_monomial a b ≡ true → z_coefficient s h a ≡ z_coefficient s h b
  same-z_coefficient a b e = ap (map _) (filter_agree (λ t. same_monomial (z_part s t.0) a) (λ t. same_monomial (z_part s t.0) b) (λ t. same_monomial-right a b (z_part s t.0) e) h)

  absent_from : (b : List ℕ) (f : FractionPoly) → All (λ u. IsFalse (same_monomial u.0 b)) f → IsAbsent b f
  absent_from b [] a = tt
  absent_from b (u ∷ f) a = (All-head (λ (u : List ℕ × Fraction). IsFalse (same_monomial u.0 b)) u f a, absent_from b f (All-tail (λ (u : List ℕ × Fraction). IsFalse (same_monomial u.0 b)) u f a))

  -- a monomial is absent, or the coefficient there is the solution
  abbrev Looked : List ℕ → List ℕ → FractionPoly → Type 0
  Looked a b f = IsAbsent b f ⊎ ((x : Fraction) × IsSolution s h a b x × IsSame Q (coefficient Q f b) x)

  look : (a b : List ℕ) (f : FractionPoly) → All (λ t. IsSolution s h a t.0 t.1) f → AllPairs (λ t u. IsFalse (same_monomial u.0 t.0)) f → Looked a b f
  unfolding coefficient
  look a b [] made once = inl tt
  look a b (t ∷ f) made once = go (same_monomial t.0 b) refl (look a b f (All-tail (λ (t : List ℕ × Fraction). IsSolution s h a t.0 t.1) t f made) (λ i j d low within. once (suc i) (suc j) d (omega (arith, low)) (omega (arith, within))))
    where
      first : same_monomial t.0 b ≡ true → (x : Fraction) × IsSolution s h a b x × IsSame Q (Q.add t.1 (coefficient Q f b)) x
      first e =
          let lacks : IsAbsent b f = absent_from b f (λ k d within. sym (same_monomial-right t.0 b (get_or f k d).0 e) ∙ once zero (suc k) d (omega arith) (omega (arith, within))) in (
            t.1,
            subst (λ (c : Poly). IsCancelled (residue_ops s.p) (opposite (residue_ops s.p) c, z_coefficient s h a) t.1) (same-z_coefficient t.0 b e) (All-head (λ (t : List ℕ × Fraction). IsSolution s h a t.0 t.1) t f made),
            subst (λ (y : Fraction). IsSame Q (Q.add t.1 y) t.1) (sym (coefficient-absent Q b f lacks)) (q_laws.add_zero t.1),
          )

      go : (e : Bool) → same_monomial t.0 b ≡ e → Looked a b f → IsAbsent b (t ∷ f) ⊎ ((x : Fraction) × IsSolution s h a b x × IsSame Q (cond (same_monomial t.0 b) (Q.add t.1 (coefficient Q f b)) (coefficient Q f b)) x)
      go true e rest = inr (let (x, is, same) = first e in (x, is, subst (λ (c : Bool). IsSame Q (cond c (Q.add t.1 (coefficient Q f b)) (coefficient Q f b)) x) (sym e) same))
      go false e (inl absent) = inl (e, absent)
      go false e (inr (x, is, same)) = inr (x, is, subst (λ (c : Bool). IsSame Q (cond c (Q.add t.1 (coefficient Q f b)) (coefficient Q f b)) x) (sym e) same)

  module _ (r : Relation) (solved : IsSolved s h r) where
    abbrev leads : Fraction
    leads = over_1 s.p (z_coefficient s h r.lead)

    -- where the tail has no coefficient
    nothing : (b : List ℕ) → IsAbsent b r.tail → IsSame Q (Q.mul leads (coefficient Q r.tail b)) Q.zero
    nothing b a = subst (λ (y : Fraction). IsSame Q (Q.mul leads y) Q.zero) (sym (coefficient-absent Q b r.tail a)) (facts.mul_zero Q q_laws leads)

    lead_absent : (b : List ℕ) → same_monomial r.lead b ≡ true → IsAbsent b r.tail
    lead_absent b e = absent_from b r.tail (λ k d within. off (get_or r.tail k d).0 (same_monomial (get_or r.tail k d).0 b) refl (solved.others k d within))
      where
        off : (u : List ℕ) (t : Bool) → same_monomial u b ≡ t → same_monomial r.lead u ≡ false → same_monomial u b ≡ false
        off u false f g = f
        off u true f g = absurd (true≢false (sym (same_monomial_trans r.lead b u e (same_monomial_sym u b f)) ∙ g))

    other : (b : List ℕ) → same_monomial r.lead b ≡ false → IsSame Q (Q.mul leads (coefficient Q r.tail b)) (Q.neg (over_1 s.p (z_coefficient s h b)))
    other b e = go (look r.lead b r.tail solved.made solved.once)
      where
        zero_neg : is_zero (residue_ops s.p) (z_coefficient s h b) ≡ true → IsSame Q Q.zero (Q.neg (over_1 s.p (z_coefficient s h b)))
        zero_neg z = facts.then Q q_laws (facts.back Q q_laws (facts.neg_zero Q q_laws)) (q_laws.neg_same Q.zero (over_1 s.p (z_coefficient s h b)) (facts.back Q q_laws (zero-value (residue_ops s.p) (residue_laws s.p) (over_1 s.p (z_coefficient s h b)) (one_nonzero (residue_ops s.p) (residue_laws s.p) (residue_field_laws s.p)) ∙ z)))

        go : Looked r.lead b r.tail → IsSame Q (Q.mul leads (coefficient Q r.tail b)) (Q.neg (over_1 s.p (z_coefficient s h b)))
        go (inl a) = facts.then Q q_laws (nothing b a) (zero_neg (solved.whole b e a))
        go (inr (x, is, same)) = facts.then Q q_laws (q_laws.mul_same leads leads (coefficient Q r.tail b) x (q_laws.same_refl leads) same) (solved-coefficient (residue_ops s.p) (residue_laws s.p) (residue_field_laws s.p) (z_coefficient s h b) (z_coefficient s h r.lead) x solved.divisor is)

    pub solved-relation : IsRelationOf s h r
    solved-relation = record {
      lead = solved.lead;
      tail = λ b. at b (same_monomial r.lead b) refl;
    }
      where
        at : (b : List ℕ) (t : Bool) → same_monomial r.lead b ≡ t → IsSame Q (Q.mul leads (coefficient Q r.tail b)) (cond (same_monomial r.lead b) Q.zero (Q.neg (over_1 s.p (z_coefficient s h b))))
        at b true e = subst (λ (c : Bool). IsSame Q (Q.mul leads (coefficient Q r.tail b)) (cond c Q.zero (Q.neg (over_1 s.p (z_coefficient s h b))))) (sym e) (nothing b (lead_absent b e))
        at b false e = subst (λ (c : Bool). IsSame Q (Q.mul leads (coefficient Q r.tail b)) (cond c Q.zero (Q.neg (over_1 s.p (z_coefficient s h b))))) (sym e) (other b e)
