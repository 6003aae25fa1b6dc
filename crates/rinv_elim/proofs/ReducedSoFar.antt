-- Where all tails are reduced, with the fractions that are made, the relations are the reduced basis.
--   reduced-tails        the tails are reduced by value
use Rattle.std.proofs.Common.{◌≡◌, ℕ, ◌<◌, List, [], ◌∷◌, length, length-take, take, get_or, refl, sym, subst, arith, IsTrue}
use Rattle.std.specs.Prelude.{All}
use Rattle.std.specs.declared.cmp.Ordering.TheVariants.{Less}
use Rattle.std.proofs.lemmas.Bool.Decides.{nat_tests}
use Rattle.std.proofs.lemmas.List.{get_or-take}
use Rattle.std.proofs.lemmas.List.Elements.{All-head, All-tail}
use Rattle.rinv_algebra.specs.Order.{grevlex}
use Rattle.rinv_algebra.specs.Normal.{is_in_variables}
use Rattle.rinv_algebra.proofs.Same.{and_true}
use Rattle.rinv_defs.specs.System.{System, space_count}
use Rattle.rinv_defs.specs.Extended.{Relation, FractionPoly}
use Rattle.rinv_reduction.specs.Localised.{none}
use Rattle.rinv_reduction.specs.Tails.{AreReduced, IsReducedBy}
use Rattle.rinv_tails.specs.Stored.{IsTailTerm, IsStoredRelation}
use Rattle.rinv_tails.specs.Reducing.{AreReducedSoFar}
use Rattle.rinv_elim.proofs.AddedTerms.{AreTails, stored-tails}
use Rattle.rinv_elim.proofs.ExactSteps.{exact-division}

module _ (s : System) where
  in_variables-from : (f : FractionPoly) → All (IsTailTerm s.p (space_count s)) f → IsTrue (is_in_variables (space_count s) f)
  in_variables-from [] h = refl
  in_variables-from (t ∷ f) h = let e = (All-head (IsTailTerm s.p (space_count s)) t f h).vars in and_true _ _ (grind (arith, nat_tests, e)) (in_variables-from f (All-tail (IsTailTerm s.p (space_count s)) t f h))

  pub reduced-tails : (rs qs : List Relation) → All (IsStoredRelation s.p (space_count s)) rs → All (IsStoredRelation s.p (space_count s)) qs → length qs ≡ length rs → AreReducedSoFar s.p (space_count s) rs qs → AreReduced s rs qs
  reduced-tails rs qs stored_rs stored_qs number so_far = record { number = number; each = each }
    where
      tails : (qs : List Relation) → All (IsStoredRelation s.p (space_count s)) qs → (k : ℕ) → k < length qs → AreTails s (get_or qs k none).tail
      tails qs h k low = stored-tails s (get_or qs k none).tail (h k none low).tail

      low_in : (k j : ℕ) → j < length (take k qs) → j < k
      low_in k j low = let e = length-take k qs in omega (arith, low, e)

      in_all : (k j : ℕ) → j < length (take k qs) → j < length qs
      in_all k j low = let e = length-take k qs in omega (arith, low, e)

      each : (k : ℕ) → k < length qs → IsReducedBy s (take k qs) (get_or rs k none) (get_or qs k none)
      each k low =
          let done = exact-division s (take k qs)
          (λ j within. subst (λ (r : Relation). AreTails s r.tail) (sym (get_or-take k qs j none (low_in k j within))) (tails qs stored_qs j (in_all k j within)))
          (λ j d within. subst (λ (r : Relation). All (λ t. grevlex t.0 r.lead ≡ Less) r.tail) (sym (get_or-take k qs j d (low_in k j within))) (stored_qs j d (in_all k j within)).below)
          (get_or rs k none).tail (get_or qs k none).tail (tails rs stored_rs k (omega (arith, low, number))) (so_far.tails k low) (so_far.whole k low) in
          record {
            lead = so_far.leads k low;
            in_variables = in_variables-from (get_or qs k none).tail (stored_qs k none low).tail.terms;
            below = (stored_qs k none low).below;
            steps = done.1.0;
            division = done.1.1;
          }
