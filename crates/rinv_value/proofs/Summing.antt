-- Sums of the values of terms.
--   summed-value         the value is the sum
--   summed-more, term-meets, sum-meets    one term more
--   all-terms            the terms in another order
--   value-descending     the value does not depend on the order of the terms
use Rattle.std.proofs.Common.{◌≡◌, ℕ, suc, ◌+◌, ◌<◌, List, [], ◌∷◌, ◌++◌, length, get_or, take, drop, All, replicate, sym, ap, ◌∙◌, subst}
use Rattle.std.specs.List.Sorted.{IsPermutation}
use Rattle.std.proofs.Math.Seq.{split_at}
use Rattle.std.proofs.lemmas.List.{take_more}
use Rattle.std.specs.Prelude.{nat_lt}
use Rattle.std.proofs.lemmas.List.Sorted.{All-permutation}
use Rattle.std.proofs.lemmas.List.Elements.{All-nil, All-head, All-tail, All-append, All-replicate}
use Rattle.rinv_algebra.specs.Ring.{RingOps, RingLaws, FieldLaws, IsSame}
use Rattle.rinv_algebra.specs.Residue.{residue_ops}
use Rattle.rinv_algebra.specs.Polynomial.{Term, Polynomial, poly_ops, constant}
use Rattle.rinv_algebra.specs.Value.{value, factors, times_all}
use Rattle.rinv_algebra.specs.Fraction.{Fraction, over_one, fraction_ops}
use Rattle.rinv_algebra.proofs.Degrees.{is_zero-same}
use Rattle.rinv_algebra.proofs.PolynomialLaws.{poly_laws}
use Rattle.rinv_algebra.proofs.Products.{value-append}
use Rattle.rinv_algebra.proofs.RingFacts as facts
use Rattle.rinv_theory.proofs.Fields.{fraction_laws, poly_domain}
use Rattle.rinv_theory.proofs.FractionLaws.{over_one_map}
use Rattle.rinv_theory.proofs.Values.{IsMap, map_after, constant_map, value_map}
use Rattle.rinv_ring.specs.Operation.{adds}
use Rattle.rinv_ring.specs.Fault.{DegreesMeet}
use Rattle.rinv_ring.specs.declared.fault.RingFault.{RingFault}
use Rattle.rinv_poly.specs.Terms.{IsTerm}
use Rattle.rinv_poly.proofs.Forms.{ordered-from_normal}
use Rattle.rinv_poly.proofs.Meets.{meet-weaker}
use Rattle.rinv_poly.proofs.Permuted.{same-permuted}
use Rattle.rinv_frac.specs.Fractions.{IsPart}
use Rattle.rinv_frac.specs.Arithmetic.{uncancelled, IsSum}
use Rattle.rinv_frac.specs.declared.uncancelled.Joining.TheVariants.{Sum}
use Rattle.rinv_frac.specs.Faults.{fractions_meet}
use Rattle.rinv_frac.proofs.CancelledValues.{one_nonzero, cancelled-value}
use Rattle.rinv_frac.proofs.Sums.{joined-nonzero, sum-value}
use Rattle.rinv_frac.proofs.Values.{value-by_pairs}
use Rattle.rinv_value.specs.Values.{number, value_at, IsTermValue, ProductsMeet, Summed, begin, add, SumsMeet, in_product, in_sum}
use Rattle.rinv_value.proofs.Multiplying.{IsProper, HasValue, multiplied-value}

-- what holds of the fractions holds of the factors
factors-all : {X : Type 0} (P : X → Type 0) (c : List X) (m : List ℕ) → All P c → All P (factors c m)
unfolding factors
factors-all P [] m all = All-nil P
factors-all P (x ∷ c) [] all = All-nil P
factors-all P (x ∷ c) (k ∷ m) all = All-append P (replicate k x) (factors c m) (All-replicate P k x (All-head P x c all)) (factors-all P c m (All-tail P x c all))

module _ {E : Type 0} (o : RingOps E) (l : RingLaws o) (F : FieldLaws o) where
  abbrev fops : RingOps (Fraction E)
  fops = fraction_ops o

  abbrev flaws : RingLaws (fraction_ops o)
  flaws = fraction_laws o l F

  number_map : IsMap o (fraction_ops o) (number o)
  number_map = map_after o (poly_ops o) (fraction_ops o) (fraction_laws o l F) (constant o) (over_one o) (constant_map o l) (over_one_map (poly_ops o) (poly_laws o l) (poly_domain o l F))

  -- the value does not depend on the order of the terms
  pub value-descending : (c : List (Fraction E)) (f ts : Polynomial E) → IsPermutation f ts → IsSame (fraction_ops o) (value_at o c ts) (value_at o c f)
  value-descending c f ts p = flaws.same_sym (value_at o c f) (value_at o c ts) ((value_map o l (fraction_ops o) flaws (number o) number_map c).same f ts (same-permuted o l f ts p))

  module _ (c : List (Fraction E)) (proper : All (IsProper o) c) where
    one_term : (t : Term E) → IsSame (fraction_ops o) (times_all (fraction_ops o) (number o t.1) (factors c t.0)) (value_at o c (t ∷ []))
    unfolding value
    one_term t = flaws.same_sym _ _ (flaws.add_zero (times_all (fraction_ops o) (number o t.1) (factors c t.0)))

    more : (ts : List (Term E)) (t : Term E) (g v r : Fraction E) → HasValue o l F g (value_at o c ts) → HasValue o l F v (times_all (fraction_ops o) (number o t.1) (factors c t.0)) → IsSum o g v r → HasValue o l F r (value_at o c (ts ++ t ∷ []))
    more ts t g v r a b s =
        let made = cancelled-value o l F (uncancelled o Sum g v) r (joined-nonzero o l F Sum g v a.proper b.proper) s in
        record {
          proper = made.nonzero;
          value = facts.then fops flaws made.value (facts.then fops flaws (sum-value o l F g v a.proper b.proper)
              (facts.then fops flaws (facts.add2 fops flaws a.value (facts.then fops flaws b.value (one_term t))) (facts.back fops flaws (value-append fops flaws (number o) c ts (t ∷ [])))));
        }

    -- the value is the sum
    pub summed-value : (ts : List (Term E)) (r : Fraction E) → Summed o c ts r → HasValue o l F r (value_at o c ts)
    unfolding value
    summed-value _ _ (begin r s) = let n = is_zero-same o l r.1 _ s.denominator ∙ one_nonzero o l F in record { proper = n; value = value-by_pairs o l r (over_one o []) n (one_nonzero o l F) s }
    summed-value _ _ (add ts t g v r m n p) = more ts t g v r (summed-value ts g m) (multiplied-value o l F (number o t.1) (factors c t.0) v (one_nonzero o l F) (factors-all (IsProper o) c t.0 proper) n) p

  -- one term more
  pub summed-more : (c : List (Fraction E)) (ts : List (Term E)) (k : ℕ) (t : Term E) (g v r : Fraction E) → k < length ts → t ≡ get_or ts k t → Summed o c (take k ts) g → IsTermValue o c t v → IsSum o g v r → Summed o c (take (k + 1) ts) r
  summed-more c ts k t g v r inside at m n p = subst (λ (us : List (Term E)). Summed o c us r) (sym (take_more ts k t inside ∙ ap (λ (u : Term E). take k ts ++ u ∷ []) (sym at))) (add (take k ts) t g v r m n p)

  -- a product of the next term's value meets degrees
  pub term-meets : (c : List (Fraction E)) (ts : List (Term E)) (k : ℕ) (t : Term E) → k < length ts → t ≡ get_or ts k t → (e : RingFault) → DegreesMeet (ProductsMeet o (number o t.1) (factors c t.0)) e → DegreesMeet (SumsMeet o c ts) e
  term-meets c ts k t inside at e meets = meet-weaker (ProductsMeet o (number o t.1) (factors c t.0)) (SumsMeet o c ts) (λ x y h. in_product t (k, inside, sym at) h) e meets

  -- the sum with the next term's value meets degrees
  pub sum-meets : (c : List (Fraction E)) (ts : List (Term E)) (k : ℕ) (t : Term E) (g v : Fraction E) → k < length ts → t ≡ get_or ts k t → Summed o c (take k ts) g → IsTermValue o c t v → (e : RingFault) → DegreesMeet (fractions_meet o adds g v) e → DegreesMeet (SumsMeet o c ts) e
  sum-meets c ts k t g v inside at m n e meets =
      meet-weaker (fractions_meet o adds g v) (SumsMeet o c ts) (λ x y h. in_sum (take k ts) (drop (suc k) ts) t g v (split_at ts k t inside ∙ ap (λ (u : Term E). take k ts ++ u ∷ drop (suc k) ts) (sym at)) m n h) e meets

-- the terms in another order
pub all-terms : (p v : ℕ) (f ts : Polynomial ℕ) → IsPart p v f → IsPermutation f ts → All (IsTerm (λ c. nat_lt c p) v) ts
all-terms p v f ts n moved =
    let ordered = ordered-from_normal (residue_ops p) (λ c. nat_lt c p) v f n in
    All-permutation (IsTerm (λ c. nat_lt c p) v) f ts moved (λ k d b. let t = ordered.terms k d b in record { vars = t.vars; coefficient = t.coefficient })
