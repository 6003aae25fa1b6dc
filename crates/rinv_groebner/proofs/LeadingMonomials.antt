-- The leading monomial of a formal sum is its greatest.
--   some_monomial        a sum that is not zero has a monomial
--   present, has_monomial-same    a monomial that a sum has is that of one of its terms; it may be written in another way
--   leading_monomial-leads    the leading monomial of a sum that is not zero is its greatest
--   leads-out            the greatest monomial of the class of a sum is that of the sum
use Rattle.std.proofs.Common.{◌≡◌, ◌⊎◌, ℕ, ◌≤◌, Bool, true, false, not, List, [], ◌∷◌, length, map, refl, sym, ◌∙◌, ap, subst, subst₂, inl, inr, arith, IsTrue, true≢false}
use Rattle.std.specs.Prelude.{IsFalse, nat_le}
use Rattle.std.specs.Ordering.{is_ge, ordering_reverse}
use Rattle.std.specs.declared.cmp.Ordering.{Ordering}
use Rattle.std.specs.declared.cmp.Ordering.TheVariants.{Less}
use Rattle.std.proofs.lemmas.Bool.Decides.{nat_tests}
use Rattle.rinv_algebra.specs.Ring.{RingOps, RingLaws, IsSame}
use Rattle.rinv_algebra.specs.Monomial.{same_monomial}
use Rattle.rinv_algebra.specs.MonomialOrder.{MonoOrderLaws}
use Rattle.rinv_algebra.specs.Polynomial.{Polynomial, poly_ops, coefficient, has_monomial, monomials, is_zero}
use Rattle.rinv_algebra.specs.Normal.{is_in_variables}
use Rattle.rinv_algebra.specs.Leading.{IsLeadingMonomial, leading_monomial}
use Rattle.rinv_algebra.proofs.Same.{both, IsAbsent, coefficient-absent, coefficient-same_monomial, same-from_coefficients}
use Rattle.rinv_theory.proofs.Classes.{class, class_sound, class_exact, class-zero}
use Rattle.rinv_theory.proofs.Monoid.{IsOne, monomial, monomial_sound}
use Rattle.rinv_theory.proofs.Polynomials.{polynomials, class-coefficient}
use Rattle.rinv_theory.proofs.Leads.{Leads}
use Rattle.rinv_theory.proofs.WellOrders.{tied}
use Rattle.rinv_groebner.proofs.Ascending.{Has}
use Rattle.rinv_groebner.proofs.Greatest.{has-filter, filter-passes, not_less, reduced}
use Rattle.rinv_groebner.proofs.FirstVariables.{order_in, order_in-less}

-- the monomials of the terms
abbrev listed : {E : Type 0} → Polynomial E → List (List ℕ)
listed f = map (λ t. t.0) f

-- a listed monomial of a sum in v variables has at most v exponents
listed-length : {E : Type 0} (v : ℕ) (f : Polynomial E) → IsTrue (is_in_variables v f) → {a : List ℕ} → Has a (listed f) → length a ≤ v
listed-length v [] h m = elim m [ ]
listed-length v ((a, c) ∷ f) h Has.first = let p = (both (nat_le (length a) v) (is_in_variables v f) h).0 in grind (arith, nat_tests, p)
listed-length v ((a, c) ∷ f) h (Has.later m) = listed-length v f (both (nat_le (length a) v) (is_in_variables v f) h).1 m

module _ {E : Type 0} (o : RingOps E) (l : RingLaws o) where
  abbrev Present : Polynomial E → List ℕ → Type 0
  Present f e = (a : List ℕ) × Has a (listed f) × IsOne a e

  present_or : (f : Polynomial E) (e : List ℕ) → Present f e ⊎ IsAbsent e f
  present_or [] e = inr tt
  present_or ((a, c) ∷ f) e = go (same_monomial a e) refl (present_or f e)
    where
      go : (b : Bool) → same_monomial a e ≡ b → Present f e ⊎ IsAbsent e f → Present ((a, c) ∷ f) e ⊎ IsAbsent e ((a, c) ∷ f)
      go true s r = inl (a, Has.first, s)
      go false s (inl (d, m, t)) = inl (d, Has.later m, t)
      go false s (inr n) = inr (s, n)

  has-nonzero : (f : Polynomial E) (e : List ℕ) → IsTrue (has_monomial o f e) → IsSame o (coefficient o f e) o.zero → ⊥
  has-nonzero f e h s = true≢false (sym h ∙ ap not s)

  nonzero-has : (f : Polynomial E) (e : List ℕ) → (IsSame o (coefficient o f e) o.zero → ⊥) → IsTrue (has_monomial o f e)
  nonzero-has f e n = go (o.same (coefficient o f e) o.zero) refl
    where
      go : (b : Bool) → o.same (coefficient o f e) o.zero ≡ b → not b ≡ true
      go true s = absurd (n s)
      go false s = refl

  -- a monomial that f has is that of one of its terms
  pub present : (f : Polynomial E) (e : List ℕ) → IsTrue (has_monomial o f e) → Present f e
  present f e h = go (present_or f e)
    where
      go : Present f e ⊎ IsAbsent e f → Present f e
      go (inl p) = p
      go (inr n) = absurd (has-nonzero f e h (subst (λ (x : E). IsSame o x o.zero) (sym (coefficient-absent o e f n)) (l.same_refl o.zero)))

  -- to have a monomial does not depend on how it is written
  pub has_monomial-same : (f : Polynomial E) (a e : List ℕ) → IsOne a e → has_monomial o f a ≡ has_monomial o f e
  has_monomial-same f a e s = ap (λ (x : E). not (o.same x o.zero)) (coefficient-same_monomial o f a e s)

  zero_from : (f : Polynomial E) → ((e : List ℕ) → IsSame o (coefficient o f e) o.zero) → IsTrue (is_zero o f)
  unfolding coefficient
  zero_from f h = same-from_coefficients o f [] h

  -- a sum that is not zero has a monomial
  pub some_monomial : (f : Polynomial E) → IsFalse (is_zero o f) → (a : List ℕ) × Has a (monomials o f)
  some_monomial f n = go (monomials o f) refl
    where
      missing : monomials o f ≡ [] → (e : List ℕ) (b : Bool) → o.same (coefficient o f e) o.zero ≡ b → IsSame o (coefficient o f e) o.zero
      missing z e true s = s
      missing z e false s =
          let (a, m, t) = present f e (ap not s) in
          none (subst (Has a) z (has-filter (has_monomial o f) m (has_monomial-same f a e t ∙ ap not s)))
        where
          none : {a : List ℕ} → Has a [] → IsSame o (coefficient o f e) o.zero
          none m = elim m [ ]

      go : (ms : List (List ℕ)) → monomials o f ≡ ms → (a : List ℕ) × Has a (monomials o f)
      go [] z = absurd (true≢false (sym (zero_from f (λ e. missing z e (o.same (coefficient o f e) o.zero) refl)) ∙ n))
      go (x ∷ ms) z = (x, subst (Has x) (sym z) Has.first)

  module _ (cmp : List ℕ → List ℕ → Ordering) (laws : MonoOrderLaws cmp) where
    -- the comparison does not depend on how the second is written
    sees : (m a b : List ℕ) → IsOne a b → cmp m a ≡ cmp m b
    sees m a b s = laws.total.antisymm m a ∙ ap ordering_reverse (laws.total.congr a b m (tied cmp laws.total laws.kept a b s)) ∙ sym (laws.total.antisymm m b)

    -- the leading monomial of a sum that is not zero is its greatest
    pub leading_monomial-leads : (f : Polynomial E) → IsFalse (is_zero o f) → IsLeadingMonomial o cmp f (leading_monomial o cmp f)
    unfolding leading_monomial
    leading_monomial-leads f n =
        let (a, m) = some_monomial f n in
        let r = reduced cmp laws.total (monomials o f) [] m in
        record {
          has = filter-passes (has_monomial o f) (listed f) r.0;
          greatest = λ e h.
              let (b, k, s) = present f e h in
              subst (λ (x : Ordering). IsTrue (is_ge x)) (sees (leading_monomial o cmp f) b e s) (r.1 b (has-filter (has_monomial o f) k (has_monomial-same f b e s ∙ h)));
        }

    -- the greatest monomial of the class is that of the sum, in any number of variables that hold those of the sum
    pub leads-out : (v : ℕ) (f : Polynomial E) → IsTrue (is_in_variables v f) → (m : List ℕ) → Leads (polynomials o l) (order_in cmp laws v) (class (poly_ops o) f) (monomial m) → IsLeadingMonomial o cmp f m
    leads-out v f h m r = record {
      has = here;
      greatest = λ e k. not_less cmp laws.total m e (λ low. has-nonzero f e k (class_exact o l _ _ (sym (class-coefficient o l f e) ∙ r.above (monomial e) (lower e k low) ∙ sym (class-zero o l))));
    }
      where
        here : IsTrue (has_monomial o f m)
        here = nonzero-has f m (λ s. r.nonzero (class-coefficient o l f m ∙ class_sound o l _ _ s ∙ class-zero o l))

        lower : (e : List ℕ) → IsTrue (has_monomial o f e) → cmp m e ≡ Less → (order_in cmp laws v).below (monomial m) (monomial e)
        lower e k low =
            let (a, i, s) = present f m here in
            let (b, j, t) = present f e k in
            subst₂ (order_in cmp laws v).below (monomial_sound a m s) (monomial_sound b e t)
            (order_in-less cmp laws v a b (listed-length v f h i) (listed-length v f h j) (laws.total.congr a m b (tied cmp laws.total laws.kept a m s) ∙ sees m b e t ∙ low))
