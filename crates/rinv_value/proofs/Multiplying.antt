-- Products of fractions, factor by factor.
--   multiplied-append    the factors of one product, and then those of another
--   multiplied-value     the value is the product
--   multiplied-more, products-next    equal factors
--   block-made, block-meets    the factors of one variable more
use Rattle.std.proofs.Common.{◌≡◌, ℕ, ◌+◌, ◌-◌, ◌<◌, false, List, [], ◌∷◌, ◌++◌, length, get_or, take, drop, replicate, All, arith, sym, ap, ◌∙◌, subst, append_assoc, append-nil}
use Rattle.rinv_algebra.specs.Ring.{RingOps, RingLaws, FieldLaws, IsSame}
use Rattle.rinv_algebra.specs.Polynomial.{poly_ops, is_zero}
use Rattle.rinv_algebra.specs.Value.{times_all, factors}
use Rattle.rinv_ring.specs.Operation.{multiplies}
use Rattle.rinv_ring.specs.Fault.{DegreesMeet}
use Rattle.rinv_ring.specs.declared.fault.RingFault.{RingFault}
use Rattle.rinv_poly.proofs.Meets.{meet-weaker}
use Rattle.rinv_frac.specs.Faults.{fractions_meet}
use Rattle.rinv_algebra.specs.Fraction.{Fraction, fraction_ops, fraction_product}
use Rattle.rinv_algebra.proofs.Degrees.{is_zero-same}
use Rattle.rinv_algebra.proofs.PolynomialLaws.{poly_laws}
use Rattle.rinv_algebra.proofs.Products.{times_all-append, replicate-more, replicate-split, factors-take_more, factors-split}
use Rattle.rinv_theory.proofs.Fields.{fraction_laws}
use Rattle.std.proofs.lemmas.List.Elements.{All-nil, All-cons, All-head, All-tail}
use Rattle.rinv_frac.specs.Cancelling.{IsSamePair}
use Rattle.rinv_frac.specs.Arithmetic.{IsProduct}
use Rattle.rinv_frac.proofs.CancelledValues.{cancelled-value}
use Rattle.rinv_frac.proofs.ScaledParts.{cancelled-pair}
use Rattle.rinv_frac.proofs.Sums.{product-nonzero, product-value}
use Rattle.rinv_frac.proofs.Values.{value-by_pairs}
use Rattle.rinv_value.specs.Values.{Multiplied, start, next, ProductsMeet}

-- the denominator is not zero
abbrev pub IsProper : {E : Type 0} → RingOps E → Fraction E → Type 0
IsProper o f = is_zero o f.1 ≡ false

-- what holds of all of two lists
pub all-parts : {X : Type 0} (P : X → Type 0) (xs ys : List X) → All P (xs ++ ys) → All P xs × All P ys
all-parts P [] ys h = (All-nil P, h)
all-parts P (x ∷ xs) ys h = let r = all-parts P xs ys (All-tail P x (xs ++ ys) h) in (All-cons P x xs (All-head P x (xs ++ ys) h) r.0, r.1)

-- equal factors, with one of them
replicate-at : {A : Type 0} (x : A) (k n : ℕ) → k < n → replicate n x ≡ replicate k x ++ x ∷ replicate (n - (k + 1)) x
replicate-at x k n less =
    let rest : n ≡ k + (1 + (n - (k + 1))) = omega arith in
    ap (λ (j : ℕ). replicate j x) rest ∙ replicate-split x k (1 + (n - (k + 1))) ∙ ap (λ xs. replicate k x ++ xs) (replicate-split x 1 (n - (k + 1)))

module _ {E : Type 0} (o : RingOps E) (l : RingLaws o) where
  abbrev q : RingLaws (poly_ops o)
  q = poly_laws o l

  pair-trans : (f g h : Fraction E) → IsSamePair o f g → IsSamePair o g h → IsSamePair o f h
  pair-trans f g h a b = record { numerator = q.same_trans f.0 g.0 h.0 a.numerator b.numerator; denominator = q.same_trans f.1 g.1 h.1 a.denominator b.denominator }

  pair-refl : (f : Fraction E) → IsSamePair o f f
  pair-refl f = record { numerator = q.same_refl f.0; denominator = q.same_refl f.1 }

  -- no factor
  pub multiplied-none : (f : Fraction E) → Multiplied o f [] f
  multiplied-none f = start f (pair-refl f)

  -- one factor more of equal ones
  pub multiplied-more : (f h x r : Fraction E) (k : ℕ) → Multiplied o f (replicate k x) h → IsProduct o h x r → Multiplied o f (replicate (k + 1) x) r
  multiplied-more f h x r k m p = subst (λ (xs : List (Fraction E)). Multiplied o f xs r) (sym (replicate-more x k)) (next (replicate k x) x h r m p)

  -- the next of equal factors meets degrees
  pub products-next : (f h x : Fraction E) (k n : ℕ) → k < n → Multiplied o f (replicate k x) h → (e : RingFault) → DegreesMeet (fractions_meet o multiplies h x) e → DegreesMeet (ProductsMeet o f (replicate n x)) e
  products-next f h x k n less m e meets =
      meet-weaker (fractions_meet o multiplies h x) (ProductsMeet o f (replicate n x))
      (λ a b d. record { done = replicate k x; factor = x; rest = replicate (n - (k + 1)) x; split = replicate-at x k n less; so_far = h; made = m; meets = d }) e meets

  module _ (F : FieldLaws o) where
    -- the result may be written in another way
    multiplied-pair : (f : Fraction E) (gs : List (Fraction E)) (h r : Fraction E) → IsSamePair o r h → Multiplied o f gs h → Multiplied o f gs r
    multiplied-pair f _ _ r s (start h a) = start r (pair-trans r h f s a)
    multiplied-pair f _ _ r s (next gs g k h m p) = next gs g k r m (cancelled-pair o l F _ h r p s)

    -- the factors of one product, and then those of another
    pub multiplied-append : (f : Fraction E) (gs : List (Fraction E)) (h : Fraction E) (hs : List (Fraction E)) (r : Fraction E) → Multiplied o f gs h → Multiplied o h hs r → Multiplied o f (gs ++ hs) r
    multiplied-append f gs h _ _ m (start r s) = subst (λ (xs : List (Fraction E)). Multiplied o f xs r) (sym (append-nil gs)) (multiplied-pair f gs h r s m)
    multiplied-append f gs h _ _ m (next hs g k r n p) = subst (λ (xs : List (Fraction E)). Multiplied o f xs r) (append_assoc gs hs (g ∷ [])) (next (gs ++ hs) g k r (multiplied-append f gs h hs k m n) p)

    -- what is made, and its value
    pub record HasValue (r v : Fraction E) : Type 0 where
      pub proper : IsProper o r
      pub value : IsSame (fraction_ops o) r v

    product-made : (h g r v : Fraction E) → IsProper o g → HasValue h v → IsProduct o h g r → HasValue r ((fraction_ops o).mul v g)
    product-made h g r v pg a p =
        let k = fraction_laws o l F in
        let made = cancelled-value o l F (fraction_product o h g) r (product-nonzero o l F h.1 g.1 a.proper pg) p in
        record {
          proper = made.nonzero;
          value = k.same_trans r ((fraction_ops o).mul h g) _ (k.same_trans r (fraction_product o h g) ((fraction_ops o).mul h g) made.value (product-value o l F h g a.proper pg)) (k.mul_same h v g g a.value (k.same_refl g));
        }

    -- the value is the product
    pub multiplied-value : (f : Fraction E) (gs : List (Fraction E)) (r : Fraction E) → IsProper o f → All (IsProper o) gs → Multiplied o f gs r → HasValue r (times_all (fraction_ops o) f gs)
    unfolding times_all
    multiplied-value f _ _ pf all (start r s) = let proper = is_zero-same o l r.1 f.1 s.denominator ∙ pf in record { proper = proper; value = value-by_pairs o l r f proper pf s }
    multiplied-value f _ _ pf all (next gs g h r m p) =
        subst (HasValue r) (sym (times_all-append (fraction_ops o) f gs (g ∷ [])))
        (product-made h g r (times_all (fraction_ops o) f gs) (All-head (IsProper o) g [] (all-parts (IsProper o) gs (g ∷ []) all).1) (multiplied-value f gs h pf (all-parts (IsProper o) gs (g ∷ []) all).0 m) p)

    module _ (f h : Fraction E) (at : List (Fraction E)) (m : List ℕ) (k : ℕ) (d : Fraction E) (few : k < length at) (many : length at ≡ length m) (so_far : Multiplied o f (factors (take k at) (take k m)) h) where
      more : factors (take (k + 1) at) (take (k + 1) m) ≡ factors (take k at) (take k m) ++ replicate (get_or m k 0) (get_or at k d)
      more = factors-take_more d at m k few (omega (arith, few, many))

      -- the factors of one variable more
      pub block-made : (r : Fraction E) → Multiplied o h (replicate (get_or m k 0) (get_or at k d)) r → Multiplied o f (factors (take (k + 1) at) (take (k + 1) m)) r
      block-made r n = subst (λ (xs : List (Fraction E)). Multiplied o f xs r) (sym more) (multiplied-append f (factors (take k at) (take k m)) h (replicate (get_or m k 0) (get_or at k d)) r so_far n)

      -- the factors of the variables before, of this one, and of those behind it
      split : factors at m ≡ (factors (take k at) (take k m) ++ replicate (get_or m k 0) (get_or at k d)) ++ factors (drop (k + 1) at) (drop (k + 1) m)
      split = factors-split at m (k + 1) (omega (arith, few)) many ∙ ap (λ xs. xs ++ factors (drop (k + 1) at) (drop (k + 1) m)) more

      regroup : {X : Type 0} (a b : List X) (n : X) (c d : List X) → (a ++ (b ++ n ∷ c)) ++ d ≡ (a ++ b) ++ n ∷ (c ++ d)
      regroup a b n c d = append_assoc a (b ++ n ∷ c) d ∙ ap (λ r. a ++ r) (append_assoc b (n ∷ c) d) ∙ sym (append_assoc a b (n ∷ (c ++ d)))

      -- a product with factors of the next variable meets degrees
      pub block-meets : (e : RingFault) → DegreesMeet (ProductsMeet o h (replicate (get_or m k 0) (get_or at k d))) e → DegreesMeet (ProductsMeet o f (factors at m)) e
      block-meets e meets =
          let gs = factors (take k at) (take k m) in
          let rest = factors (drop (k + 1) at) (drop (k + 1) m) in
          meet-weaker (ProductsMeet o h (replicate (get_or m k 0) (get_or at k d))) (ProductsMeet o f (factors at m))
          (λ x y n. record {
            done = gs ++ n.done;
            factor = n.factor;
            rest = n.rest ++ rest;
            split = split ∙ ap (λ (r : List (Fraction E)). (gs ++ r) ++ rest) n.split ∙ regroup gs n.done n.factor n.rest rest;
            so_far = n.so_far;
            made = multiplied-append f gs h n.done n.so_far so_far n.made;
            meets = n.meets;
          }) e meets
