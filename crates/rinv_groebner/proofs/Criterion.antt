-- Buchberger's criterion: where every pair is good, the leading monomial of a member is a multiple of that of an element.
--   bound                the greatest of the monomials of a sum of multiples
--   lowered              where the coefficient at m is zero, multiples below m suffice
--   lead-divisible       the criterion
use Rattle.std.proofs.Common.{◌≡◌, ◌⊎◌, [], ◌∷◌, refl, sym, ◌∙◌, ap, ap₂, subst, inl, inr}
use mathlib.Core.WellFounded.{Acc, WellFounded}
use Rattle.rinv_theory.proofs.CRing.{CRing, mul_zero, add_neg, add_cancel, mul_one}
use Rattle.rinv_theory.proofs.Solver.{ring, reading}
use Rattle.rinv_theory.proofs.Monoid.{Monoid}
use Rattle.rinv_theory.proofs.TermRing.{TermRing, constant-term, term_zero, coefficient-zero, coefficient-neg}
use Rattle.rinv_theory.proofs.Of.{of-coefficient}
use Rattle.rinv_theory.proofs.Leads.{MonomialOrder, IsUpTo, Leads, below-ne, upto-below}
use Rattle.rinv_groebner.proofs.Multiples.{Multiples, multiples-add, multiples-weaken, multiples-constant, multiples_split, AnyMultiples}
use Rattle.rinv_groebner.proofs.Elements.{Elements, IsBelow, IsUp, element-lead, multiples-of}
use Rattle.rinv_groebner.proofs.Pairs.{cancelling, IsGood}

module _ {K M P I : Type 0} {𝓚 : CRing K} {𝓜 : Monoid M} {𝓣 : TermRing 𝓚 𝓜 P} {𝓞 : MonomialOrder 𝓜} (𝓗 : Elements 𝓣 𝓞 I) where
  open 𝓣.ring use {add as ◌+◌, mul as ◌*◌, neg as -◌, zero as 𝟘}

  infixl 60 ◌+◌
  infixl 70 ◌*◌
  infix 80 -◌
  below-coefficient : (m : M) {f : P} → IsBelow 𝓗 m f → 𝓣.coefficient f m ≡ 𝓚.zero
  below-coefficient m r = of-coefficient 𝓣 {Q = λ n. 𝓞.below n m} m (λ n q. below-ne 𝓞 n m q) (multiples-of 𝓗 (λ n n' q u. upto-below 𝓞 n' n m u q) r)

  up-coefficient : (b m : M) → 𝓞.below b m → {f : P} → IsUp 𝓗 b f → 𝓣.coefficient f m ≡ 𝓚.zero
  up-coefficient b m h r = of-coefficient 𝓣 {Q = λ n. 𝓞.below n m} m (λ n q. below-ne 𝓞 n m q) (multiples-of 𝓗 (λ n n' q u. upto-below 𝓞 n' n m u (upto-below 𝓞 n b m q h)) r)

  -- the greatest of the monomials of a sum of multiples
  pub bound : {Q : M → Type 0} {f : P} → Multiples 𝓣 𝓗.element 𝓗.lead Q f → (f ≡ 𝟘) ⊎ ((b : M) × Q b × IsUp 𝓗 b f)
  bound Multiples.none = inl refl
  bound {Q} (Multiples.more {f = f} c t k q r) = go (bound r)
    where
      top : IsUp 𝓗 (𝓜.mul t (𝓗.lead k)) f → IsUp 𝓗 (𝓜.mul t (𝓗.lead k)) (𝓣.term c t * 𝓗.element k + f)
      top u = Multiples.more c t k (inr refl) u

      pick : (b : M) → Q b → IsUp 𝓗 b f → (𝓞.below (𝓜.mul t (𝓗.lead k)) b) ⊎ (𝓜.mul t (𝓗.lead k) ≡ b) ⊎ (𝓞.below b (𝓜.mul t (𝓗.lead k))) → (𝓣.term c t * 𝓗.element k + f ≡ 𝟘) ⊎ ((b : M) × Q b × IsUp 𝓗 b (𝓣.term c t * 𝓗.element k + f))
      pick b qb u (inl h) = inr (b, qb, Multiples.more c t k (inl h) u)
      pick b qb u (inr (inl h)) = inr (b, qb, Multiples.more c t k (inr h) u)
      pick b qb u (inr (inr h)) = inr (𝓜.mul t (𝓗.lead k), q, top (multiples-weaken 𝓣 𝓗.element 𝓗.lead (λ n p. inl (upto-below 𝓞 n b _ p h)) u))

      go : (f ≡ 𝟘) ⊎ ((b : M) × Q b × IsUp 𝓗 b f) → (𝓣.term c t * 𝓗.element k + f ≡ 𝟘) ⊎ ((b : M) × Q b × IsUp 𝓗 b (𝓣.term c t * 𝓗.element k + f))
      go (inl e) = inr (𝓜.mul t (𝓗.lead k), q, top (subst (IsUp 𝓗 (𝓜.mul t (𝓗.lead k))) (sym e) Multiples.none))
      go (inr (b, qb, u)) = pick b qb u (𝓞.total (𝓜.mul t (𝓗.lead k)) b)

  module _ (good : (a b : I) → IsGood 𝓗 a b) where
    -- up to lower multiples, what reaches m is a multiple of any one element that does
    lower : (m s₀ : M) (k₀ : I) → 𝓜.mul s₀ (𝓗.lead k₀) ≡ m → {f : P} → IsUp 𝓗 m f → (d : K) × IsBelow 𝓗 m (f + - (𝓣.term d s₀ * 𝓗.element k₀))
    lower m s₀ k₀ e₀ Multiples.none = (𝓚.zero, subst (IsBelow 𝓗 m) (sym (nothing _ (term_zero 𝓣 s₀))) Multiples.none)
      where
        nothing : (x : P) → x ≡ 𝟘 → 𝟘 + - (x * 𝓗.element k₀) ≡ 𝟘
        nothing x e = ap (λ x. 𝟘 + - (x * 𝓗.element k₀)) e ∙ ring 𝓣.ring (𝓗.element k₀ ∷ []) (search reading depth 30) refl
    lower m s₀ k₀ e₀ (Multiples.more {f = f} c t k q r) = go q (lower m s₀ k₀ e₀ r)
      where
        regroup : (x f y : P) → x + (f + - y) ≡ x + f + - y
        regroup x f y = ring 𝓣.ring (x ∷ f ∷ y ∷ []) (search reading depth 30) refl

        expand : (w x y f g : P) → w * (x * f + - (y * g)) ≡ w * x * f + - (w * y * g)
        expand w x y f g = ring 𝓣.ring (w ∷ x ∷ y ∷ f ∷ g ∷ []) (search reading depth 30) refl

        -- the multiple of the cancelling difference that has c for its first coefficient
        times : (q : K) → 𝓚.mul q (𝓗.lead_coefficient k₀) ≡ c → 𝓣.term q 𝓜.one * cancelling 𝓗 t s₀ k k₀ ≡ 𝓣.term c t * 𝓗.element k + - (𝓣.term (𝓚.mul q (𝓗.lead_coefficient k)) s₀ * 𝓗.element k₀)
        times q e = expand _ _ _ _ _ ∙ ap₂ (λ x y. x * 𝓗.element k + - (y * 𝓗.element k₀)) (constant-term 𝓣 q (𝓗.lead_coefficient k₀) t ∙ ap (λ x. 𝓣.term x t) e) (constant-term 𝓣 q (𝓗.lead_coefficient k) s₀)

        joined : (x f y z g : P) → x + - (y * g) + (f + - (z * g)) ≡ x + f + - ((z + y) * g)
        joined x f y z g = ring 𝓣.ring (x ∷ f ∷ y ∷ z ∷ g ∷ []) (search reading depth 30) refl

        quotient : 𝓚.mul (𝓚.mul c (𝓗.inverse k₀)) (𝓗.lead_coefficient k₀) ≡ c
        quotient = 𝓚.mul_assoc _ _ _ ∙ ap (𝓚.mul c) (𝓗.inverse_mul k₀) ∙ mul_one 𝓚 c

        go : IsUpTo 𝓞 (𝓜.mul t (𝓗.lead k)) m → (d : K) × IsBelow 𝓗 m (f + - (𝓣.term d s₀ * 𝓗.element k₀)) → (d : K) × IsBelow 𝓗 m (𝓣.term c t * 𝓗.element k + f + - (𝓣.term d s₀ * 𝓗.element k₀))
        go (inl p) (d, u) = (d, subst (IsBelow 𝓗 m) (regroup _ _ _) (Multiples.more c t k p u))
        go (inr p) (d, u) = (
          𝓚.add d (𝓚.mul (𝓚.mul c (𝓗.inverse k₀)) (𝓗.lead_coefficient k)),
          subst (IsBelow 𝓗 m) (joined _ _ _ _ _ ∙ ap (λ x. 𝓣.term c t * 𝓗.element k + f + - (x * 𝓗.element k₀)) (𝓣.term_add _ _ s₀))
              (multiples-add 𝓣 𝓗.element 𝓗.lead (subst (IsBelow 𝓗 m) (times _ quotient) (multiples-constant 𝓣 𝓗.element 𝓗.lead (𝓚.mul c (𝓗.inverse k₀)) (good k k₀ m t s₀ p e₀))) u),
        )

    -- where the coefficient at m is zero, lower multiples suffice
    pub lowered : (m : M) {f : P} → IsUp 𝓗 m f → 𝓣.coefficient f m ≡ 𝓚.zero → IsBelow 𝓗 m f
    lowered m {f} u z = go (multiples_split 𝓣 𝓗.element 𝓗.lead {Q' = λ n. 𝓞.below n m} {S = (s : M) × (k : I) × (𝓜.mul s (𝓗.lead k) ≡ m)} (λ t k q. elim q [ inl p ↦ inl p | inr p ↦ inr (t, k, p) ]) u)
      where
        vanishes : (d : K) (s : M) (k : I) → 𝓜.mul s (𝓗.lead k) ≡ m → IsBelow 𝓗 m (f + - (𝓣.term d s * 𝓗.element k)) → d ≡ 𝓚.zero
        vanishes d s k e r =
            sym (mul_one 𝓚 d) ∙ ap (𝓚.mul d) (sym (𝓗.inverse_mul k)) ∙ ring 𝓚 (d ∷ 𝓗.inverse k ∷ 𝓗.lead_coefficient k ∷ []) (search reading depth 30) refl
            ∙ ap (𝓚.mul (𝓗.inverse k)) (add_cancel 𝓚 _ 𝓚.zero (𝓚.neg (𝓚.mul d (𝓗.lead_coefficient k))) (add_neg 𝓚 _ ∙ sym difference)) ∙ mul_zero 𝓚 _
          where
            difference : 𝓚.add 𝓚.zero (𝓚.neg (𝓚.mul d (𝓗.lead_coefficient k))) ≡ 𝓚.zero
            difference =
                ap₂ 𝓚.add (sym z) (ap 𝓚.neg (sym (ap (𝓣.coefficient (𝓣.term d s * 𝓗.element k)) (sym e) ∙ 𝓣.coefficient_times d s (𝓗.lead k) (𝓗.element k) ∙ ap (𝓚.mul d) (element-lead 𝓗 k))) ∙ sym (coefficient-neg 𝓣 _ m))
                ∙ sym (𝓣.coefficient_add _ _ m) ∙ below-coefficient m r

        done : (s : M) (k : I) → 𝓜.mul s (𝓗.lead k) ≡ m → (d : K) × IsBelow 𝓗 m (f + - (𝓣.term d s * 𝓗.element k)) → IsBelow 𝓗 m f
        done s k e (d, r) = subst (IsBelow 𝓗 m) (ap (λ x. f + - (x * 𝓗.element k)) (ap (λ x. 𝓣.term x s) (vanishes d s k e r) ∙ term_zero 𝓣 s) ∙ ring 𝓣.ring (f ∷ 𝓗.element k ∷ []) (search reading depth 30) refl) r

        go : IsBelow 𝓗 m f ⊎ ((s : M) × (k : I) × (𝓜.mul s (𝓗.lead k) ≡ m)) → IsBelow 𝓗 m f
        go (inl r) = r
        go (inr (s, k, e)) = done s k e (lower m s k e u)

    -- the criterion, from a bound on the multiples
    lead_under : (b : M) → Acc 𝓞.below b → (f : P) → IsUp 𝓗 b f → (m : M) → Leads 𝓣 𝓞 f m → (k : I) × (s : M) × (𝓜.mul s (𝓗.lead k) ≡ m)
    lead_under b (Acc.intro x h) f u m l = go (λ b p u'. lead_under b (h b p) f u' m l) (𝓞.total x m)
      where
        at_lead : x ≡ m → IsBelow 𝓗 x f ⊎ ((s : M) × (k : I) × (𝓜.mul s (𝓗.lead k) ≡ x)) → (k : I) × (s : M) × (𝓜.mul s (𝓗.lead k) ≡ m)
        at_lead e (inl r) = absurd (l.nonzero (ap (𝓣.coefficient f) (sym e) ∙ below-coefficient x r))
        at_lead e (inr (s, k, p)) = (k, s, p ∙ e)

        above : ((b : M) → 𝓞.below b x → IsUp 𝓗 b f → (k : I) × (s : M) × (𝓜.mul s (𝓗.lead k) ≡ m)) → (f ≡ 𝟘) ⊎ ((b : M) × 𝓞.below b x × IsUp 𝓗 b f) → (k : I) × (s : M) × (𝓜.mul s (𝓗.lead k) ≡ m)
        above again (inl e) = absurd (l.nonzero (ap (λ f. 𝓣.coefficient f m) e ∙ coefficient-zero 𝓣 m))
        above again (inr (b, p, u')) = again b p u'

        go : ((b : M) → 𝓞.below b x → IsUp 𝓗 b f → (k : I) × (s : M) × (𝓜.mul s (𝓗.lead k) ≡ m)) → (𝓞.below x m) ⊎ (x ≡ m) ⊎ (𝓞.below m x) → (k : I) × (s : M) × (𝓜.mul s (𝓗.lead k) ≡ m)
        go again (inl p) = absurd (l.nonzero (up-coefficient x m p u))
        go again (inr (inl e)) = at_lead e (multiples_split 𝓣 𝓗.element 𝓗.lead {Q' = λ n. 𝓞.below n x} {S = (s : M) × (k : I) × (𝓜.mul s (𝓗.lead k) ≡ x)} (λ t k q. elim q [ inl p ↦ inl p | inr p ↦ inr (t, k, p) ]) u)
        go again (inr (inr p)) = above again (bound (lowered x u (l.above x p)))

    -- Buchberger's criterion
    pub lead-divisible : WellFounded 𝓞.below → (f : P) → AnyMultiples 𝓣 𝓗.element 𝓗.lead f → (m : M) → Leads 𝓣 𝓞 f m → (k : I) × (s : M) × (𝓜.mul s (𝓗.lead k) ≡ m)
    lead-divisible well f r m l = go (bound r)
      where
        go : (f ≡ 𝟘) ⊎ ((b : M) × Unit {0} × IsUp 𝓗 b f) → (k : I) × (s : M) × (𝓜.mul s (𝓗.lead k) ≡ m)
        go (inl e) = absurd (l.nonzero (ap (λ f. 𝓣.coefficient f m) e ∙ coefficient-zero 𝓣 m))
        go (inr (b, _, u)) = lead_under b (well.apply b) f u m l
