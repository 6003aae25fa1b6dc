-- Division: each polynomial is a sum of multiples of the elements and a rest of which no element's leading monomial divides a monomial.
--   Divided 𝓗 Q Rest f   a sum of multiples with the property Q, and a rest with the property Rest, that add up to f
--   of-bound, top        the greatest monomial of a sum of terms; the term at a bound, and what is below
--   divide               each sum of terms can be divided, by multiples up to any bound of its monomials
--   divide_any           and each polynomial
use Rattle.std.proofs.Common.{◌≡◌, ◌⊎◌, [], ◌∷◌, refl, sym, ◌∙◌, ap, ap₂, subst, inl, inr}
use mathlib.Core.Logic.{∥∥₁_map}
use mathlib.Core.WellFounded.{Acc, WellFounded}
use Rattle.rinv_theory.proofs.CRing.{CRing, mul_one}
use Rattle.rinv_theory.proofs.Solver.{ring, reading}
use Rattle.rinv_theory.proofs.Monoid.{Monoid}
use Rattle.rinv_theory.proofs.TermRing.{TermRing, term_zero, term-neg}
use Rattle.rinv_theory.proofs.Of.{Of, of_any, of-add, of-times, of-weaken}
use Rattle.rinv_theory.proofs.Leads.{MonomialOrder, IsUpTo, upto-below}
use Rattle.rinv_groebner.proofs.Multiples.{Multiples, multiples-weaken}
use Rattle.rinv_groebner.proofs.Elements.{Elements}

module _ {K M P : Type 0} {𝓚 : CRing K} {𝓜 : Monoid M} (𝓣 : TermRing 𝓚 𝓜 P) (𝓞 : MonomialOrder 𝓜) where
  open 𝓣.ring use {add as ◌+◌, zero as 𝟘}

  infixl 60 ◌+◌
  -- the greatest monomial of a sum of terms
  pub of-bound : {Q : M → Type 0} {f : P} → Of 𝓣 Q f → (f ≡ 𝟘) ⊎ ((b : M) × Q b × Of 𝓣 (λ n. IsUpTo 𝓞 n b) f)
  of-bound Of.none = inl refl
  of-bound {Q} (Of.more {f = f} c n q r) = go (of-bound r)
    where
      pick : (b : M) → Q b → Of 𝓣 (λ n. IsUpTo 𝓞 n b) f → (𝓞.below n b) ⊎ (n ≡ b) ⊎ (𝓞.below b n) → (𝓣.term c n + f ≡ 𝟘) ⊎ ((b : M) × Q b × Of 𝓣 (λ n. IsUpTo 𝓞 n b) (𝓣.term c n + f))
      pick b p o (inl h) = inr (b, p, Of.more c n (inl h) o)
      pick b p o (inr (inl e)) = inr (b, p, Of.more c n (inr e) o)
      pick b p o (inr (inr h)) = inr (n, q, Of.more c n (inr refl) (of-weaken 𝓣 (λ k u. inl (upto-below 𝓞 k b n u h)) o))

      go : (f ≡ 𝟘) ⊎ ((b : M) × Q b × Of 𝓣 (λ n. IsUpTo 𝓞 n b) f) → (𝓣.term c n + f ≡ 𝟘) ⊎ ((b : M) × Q b × Of 𝓣 (λ n. IsUpTo 𝓞 n b) (𝓣.term c n + f))
      go (inl e) = inr (n, q, Of.more c n (inr refl) (subst (Of 𝓣 (λ k. IsUpTo 𝓞 k n)) (sym e) Of.none))
      go (inr (b, p, o)) = pick b p o (𝓞.total n b)

  -- the term at a bound, and what is below
  pub record Top (b : M) (f : P) : Type 0 where
    pub at_bound : K
    pub lower : P
    pub is_lower : Of 𝓣 (λ n. 𝓞.below n b) lower
    pub whole : f ≡ 𝓣.term at_bound b + lower

  -- each sum of terms up to a bound has them
  pub top : (b : M) {f : P} → Of 𝓣 (λ n. IsUpTo 𝓞 n b) f → Top b f
  top b Of.none = record { at_bound = 𝓚.zero; lower = 𝟘; is_lower = Of.none; whole = sym (ap (λ x. x + 𝟘) (term_zero 𝓣 b) ∙ 𝓣.ring.zero_add 𝟘) }
  top b (Of.more {f = f} c n q r) = go q (top b r)
    where
      swap : (x y z : P) → x + (y + z) ≡ y + (x + z)
      swap x y z = ring 𝓣.ring (x ∷ y ∷ z ∷ []) (search reading depth 30) refl

      go : IsUpTo 𝓞 n b → Top b f → Top b (𝓣.term c n + f)
      go (inl h) t = record { at_bound = t.at_bound; lower = 𝓣.term c n + t.lower; is_lower = Of.more c n h t.is_lower; whole = ap (λ x. 𝓣.term c n + x) t.whole ∙ swap _ _ _ }
      go (inr e) t = record { at_bound = 𝓚.add c t.at_bound; lower = t.lower; is_lower = t.is_lower; whole = ap₂ (λ x y. x + y) (ap (𝓣.term c) e) t.whole ∙ sym (𝓣.ring.add_assoc _ _ _) ∙ ap (λ x. x + t.lower) (𝓣.term_add _ _ b) }

module _ {K M P I : Type 0} {𝓚 : CRing K} {𝓜 : Monoid M} {𝓣 : TermRing 𝓚 𝓜 P} {𝓞 : MonomialOrder 𝓜} (𝓗 : Elements 𝓣 𝓞 I) (Rest : M → Type 0) where
  open 𝓣.ring use {add as ◌+◌, mul as ◌*◌, neg as -◌, zero as 𝟘}

  infixl 60 ◌+◌
  infixl 70 ◌*◌
  infix 80 -◌
  -- a sum of multiples and a rest
  pub record Divided (Q : M → Type 0) (f : P) : Type 0 where
    pub rest : P
    pub multiples : P
    pub is_rest : Of 𝓣 (λ n. Rest n × Q n) rest
    pub is_multiple : Multiples 𝓣 𝓗.element 𝓗.lead Q multiples
    pub whole : f ≡ multiples + rest

  divided_zero : {Q : M → Type 0} → Divided Q 𝟘
  divided_zero = record { rest = 𝟘; multiples = 𝟘; is_rest = Of.none; is_multiple = Multiples.none; whole = sym (𝓣.ring.zero_add 𝟘) }

  divided-weaken : {Q Q' : M → Type 0} → ((n : M) → Q n → Q' n) → {f : P} → Divided Q f → Divided Q' f
  divided-weaken w d = record { rest = d.rest; multiples = d.multiples; is_rest = of-weaken 𝓣 (λ n q. (q.0, w n q.1)) d.is_rest; is_multiple = multiples-weaken 𝓣 𝓗.element 𝓗.lead w d.is_multiple; whole = d.whole }

  -- what a multiple that cancels a term leaves
  step-below : (c : K) (k : I) (s : M) → Of 𝓣 (λ n. 𝓞.below n (𝓜.mul s (𝓗.lead k))) (- (𝓣.term (𝓚.mul c (𝓗.inverse k)) s * 𝓗.tail k))
  step-below c k s = subst (Of 𝓣 (λ n. 𝓞.below n (𝓜.mul s (𝓗.lead k)))) (ap (λ x. x * 𝓗.tail k) (term-neg 𝓣 _ s) ∙ negate _ _) (of-times 𝓣 (𝓚.neg (𝓚.mul c (𝓗.inverse k))) s (λ n q. 𝓞.mul_below s n (𝓗.lead k) q) (𝓗.tail_below k))
    where
      negate : (x y : P) → - x * y ≡ - (x * y)
      negate x y = ring 𝓣.ring (x ∷ y ∷ []) (search reading depth 30) refl

  step-whole : (c : K) (k : I) (s : M) → 𝓣.term c (𝓜.mul s (𝓗.lead k)) ≡ 𝓣.term (𝓚.mul c (𝓗.inverse k)) s * 𝓗.element k + - (𝓣.term (𝓚.mul c (𝓗.inverse k)) s * 𝓗.tail k)
  step-whole c k s =
      sym (𝓣.term_mul (𝓚.mul c (𝓗.inverse k)) (𝓗.lead_coefficient k) s (𝓗.lead k) ∙ ap (λ x. 𝓣.term x (𝓜.mul s (𝓗.lead k))) (𝓚.mul_assoc _ _ _ ∙ ap (𝓚.mul c) (𝓗.inverse_mul k) ∙ mul_one 𝓚 c))
      ∙ parts _ _ _ ∙ ap (λ x. 𝓣.term (𝓚.mul c (𝓗.inverse k)) s * x + - (𝓣.term (𝓚.mul c (𝓗.inverse k)) s * 𝓗.tail k)) (sym (𝓗.whole k))
    where
      parts : (x y z : P) → x * y ≡ x * (y + z) + - (x * z)
      parts x y z = ring 𝓣.ring (x ∷ y ∷ z ∷ []) (search reading depth 30) refl

  module _ (reducible : (m : M) → ((k : I) × (s : M) × (𝓜.mul s (𝓗.lead k) ≡ m)) ⊎ Rest m) where
    divide_up : (b : M) → Acc 𝓞.below b → (f : P) → Of 𝓣 (λ n. IsUpTo 𝓞 n b) f → Divided (λ n. IsUpTo 𝓞 n b) f
    divide_up b (Acc.intro x h) f o = go (top 𝓣 𝓞 x o) (λ b p g q. divide_up b (h b p) g q)
      where
        go : Top 𝓣 𝓞 x f → ((b : M) → 𝓞.below b x → (g : P) → Of 𝓣 (λ n. IsUpTo 𝓞 n b) g → Divided (λ n. IsUpTo 𝓞 n b) g) → Divided (λ n. IsUpTo 𝓞 n x) f
        go t again = cases (reducible x)
          where
            lower : (g : P) → (g ≡ 𝟘) ⊎ ((b : M) × 𝓞.below b x × Of 𝓣 (λ n. IsUpTo 𝓞 n b) g) → Divided (λ n. IsUpTo 𝓞 n x) g
            lower g (inl e) = subst (Divided (λ n. IsUpTo 𝓞 n x)) (sym e) divided_zero
            lower g (inr (b, p, u)) = divided-weaken (λ n q. inl (upto-below 𝓞 n b x q p)) (again b p g u)

            cancelled : (k : I) (s : M) → 𝓜.mul s (𝓗.lead k) ≡ x → Divided (λ n. IsUpTo 𝓞 n x) (- (𝓣.term (𝓚.mul t.at_bound (𝓗.inverse k)) s * 𝓗.tail k) + t.lower) → Divided (λ n. IsUpTo 𝓞 n x) f
            cancelled k s e d = record {
              rest = d.rest;
              multiples = 𝓣.term (𝓚.mul t.at_bound (𝓗.inverse k)) s * 𝓗.element k + d.multiples;
              is_rest = d.is_rest;
              is_multiple = Multiples.more (𝓚.mul t.at_bound (𝓗.inverse k)) s k (inr e) d.is_multiple;
              whole =
                  t.whole ∙ ap (λ y. y + t.lower) (ap (𝓣.term t.at_bound) (sym e) ∙ step-whole t.at_bound k s) ∙ 𝓣.ring.add_assoc _ _ _
                  ∙ ap (λ y. 𝓣.term (𝓚.mul t.at_bound (𝓗.inverse k)) s * 𝓗.element k + y) d.whole ∙ sym (𝓣.ring.add_assoc _ _ _);
            }

            kept : Rest x → Divided (λ n. IsUpTo 𝓞 n x) t.lower → Divided (λ n. IsUpTo 𝓞 n x) f
            kept r d = record {
              rest = 𝓣.term t.at_bound x + d.rest;
              multiples = d.multiples;
              is_rest = Of.more t.at_bound x (r, inr refl) d.is_rest;
              is_multiple = d.is_multiple;
              whole = t.whole ∙ ap (λ y. 𝓣.term t.at_bound x + y) d.whole ∙ swap _ _ _;
            }
              where
                swap : (x y z : P) → x + (y + z) ≡ y + (x + z)
                swap x y z = ring 𝓣.ring (x ∷ y ∷ z ∷ []) (search reading depth 30) refl

            below_x : (k : I) (s : M) → 𝓜.mul s (𝓗.lead k) ≡ x → Of 𝓣 (λ n. 𝓞.below n x) (- (𝓣.term (𝓚.mul t.at_bound (𝓗.inverse k)) s * 𝓗.tail k) + t.lower)
            below_x k s e = of-add 𝓣 (subst (λ y. Of 𝓣 (λ n. 𝓞.below n y) (- (𝓣.term (𝓚.mul t.at_bound (𝓗.inverse k)) s * 𝓗.tail k))) e (step-below t.at_bound k s)) t.is_lower

            cases : ((k : I) × (s : M) × (𝓜.mul s (𝓗.lead k) ≡ x)) ⊎ Rest x → Divided (λ n. IsUpTo 𝓞 n x) f
            cases (inl (k, s, e)) = cancelled k s e (lower _ (of-bound 𝓣 𝓞 (below_x k s e)))
            cases (inr r) = kept r (lower _ (of-bound 𝓣 𝓞 t.is_lower))

    -- a sum of terms can be divided, by multiples up to its greatest monomial
    pub divide : WellFounded 𝓞.below → {Q Q' : M → Type 0} → ((b n : M) → Q b → IsUpTo 𝓞 n b → Q' n) → {f : P} → Of 𝓣 Q f → Divided Q' f
    divide well {Q} {Q'} w {f} o = go (of-bound 𝓣 𝓞 o)
      where
        go : (f ≡ 𝟘) ⊎ ((b : M) × Q b × Of 𝓣 (λ n. IsUpTo 𝓞 n b) f) → Divided Q' f
        go (inl e) = subst (Divided Q') (sym e) divided_zero
        go (inr (b, p, u)) = divided-weaken (λ n q. w b n p q) (divide_up b (well.apply b) f u)

    -- each polynomial can be divided
    pub divide_any : WellFounded 𝓞.below → (f : P) → ∥ Divided (λ n. Unit {0}) f ∥₁
    divide_any well f = ∥∥₁_map (of_any 𝓣 f) (divide well {Q = λ n. Unit {0}} (λ b n p q. tt))
