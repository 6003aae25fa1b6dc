-- Pairs of elements whose multiples cancel: when the difference is a sum of lower multiples.
--   cancelling 𝓗 s t a b    the difference of the multiples of two elements by s and t, of which the leading terms cancel
--   IsGood 𝓗 a b         wherever multiples of the two cancel, the difference is a sum of lower multiples
--   good_self, good_sym    a pair of one element; the pair turned round
--   good_quotients       by the S-polynomial, at a least common multiple
--   good_chain           by a third element whose leading monomial divides the common multiples, and its pairs with both
--   good_coprime         by leading monomials without a common variable
use Rattle.std.proofs.Common.{◌≡◌, [], ◌∷◌, refl, sym, ◌∙◌, ap, ap₂, subst, subst₂}
use Rattle.rinv_theory.proofs.CRing.{CRing, add_neg}
use Rattle.rinv_theory.proofs.Solver.{ring, reading}
use Rattle.rinv_theory.proofs.Monoid.{Monoid}
use Rattle.rinv_theory.proofs.TermRing.{TermRing, constant-term, monomial-term, split_term}
use Rattle.rinv_theory.proofs.Of.{of-times}
use Rattle.rinv_theory.proofs.Leads.{MonomialOrder}
use Rattle.rinv_groebner.proofs.Multiples.{Multiples, multiples-add, multiples-times, multiples-constant, multiples-neg, multiples-element}
use Rattle.rinv_groebner.proofs.Elements.{Elements, IsBelow}

module _ {K M P I : Type 0} {𝓚 : CRing K} {𝓜 : Monoid M} {𝓣 : TermRing 𝓚 𝓜 P} {𝓞 : MonomialOrder 𝓜} (𝓗 : Elements 𝓣 𝓞 I) where
  open 𝓣.ring use {add as ◌+◌, mul as ◌*◌, neg as -◌, zero as 𝟘, one as 𝟙}

  infixl 60 ◌+◌
  infixl 70 ◌*◌
  infix 80 -◌
  -- the difference of two multiples whose leading terms cancel
  abbrev pub cancelling : (s t : M) (a b : I) → P
  cancelling s t a b = 𝓣.term (𝓗.lead_coefficient b) s * 𝓗.element a + - (𝓣.term (𝓗.lead_coefficient a) t * 𝓗.element b)

  -- wherever they cancel, it is a sum of lower multiples
  abbrev pub IsGood : I → I → Type 0
  IsGood a b = (m s t : M) → 𝓜.mul s (𝓗.lead a) ≡ m → 𝓜.mul t (𝓗.lead b) ≡ m → IsBelow 𝓗 m (cancelling s t a b)

  move : {m : M} {f g : P} → IsBelow 𝓗 m f → f ≡ g → IsBelow 𝓗 m g
  move {m} r e = subst (IsBelow 𝓗 m) e r

  -- one element
  pub good_self : (a : I) → IsGood a a
  good_self a m s t e e' = move Multiples.none (sym (add_neg 𝓣.ring _) ∙ ap (λ x. 𝓣.term (𝓗.lead_coefficient a) s * 𝓗.element a + - (𝓣.term (𝓗.lead_coefficient a) x * 𝓗.element a)) (𝓜.cancel (𝓗.lead a) s t (𝓜.mul_comm _ _ ∙ e ∙ sym e' ∙ 𝓜.mul_comm _ _)))

  -- the pair turned round
  pub good_sym : (a b : I) → IsGood a b → IsGood b a
  good_sym a b g m s t e e' = move (multiples-neg 𝓣 𝓗.element 𝓗.lead (g m t s e' e)) (flip _ _)
    where
      flip : (x y : P) → - (x + - y) ≡ y + - x
      flip x y = ring 𝓣.ring (x ∷ y ∷ []) (search reading depth 30) refl

  expand : (w x y f g : P) → w * (x * f + - (y * g)) ≡ w * x * f + - (w * y * g)
  expand w x y f g = ring 𝓣.ring (w ∷ x ∷ y ∷ f ∷ g ∷ []) (search reading depth 30) refl

  -- at a multiple of the place where they cancel
  times-cancelling : (w s t : M) (a b : I) → 𝓣.term 𝓚.one w * cancelling s t a b ≡ cancelling (𝓜.mul w s) (𝓜.mul w t) a b
  times-cancelling w s t a b = expand _ _ _ _ _ ∙ ap₂ (λ x y. x * 𝓗.element a + - (y * 𝓗.element b)) (monomial-term 𝓣 w s (𝓗.lead_coefficient b)) (monomial-term 𝓣 w t (𝓗.lead_coefficient a))

  -- by the S-polynomial, at a least common multiple l
  pub good_quotients : (a b : I) (l s₀ t₀ : M) → 𝓜.mul s₀ (𝓗.lead a) ≡ l → 𝓜.mul t₀ (𝓗.lead b) ≡ l
      → ((m s t : M) → 𝓜.mul s (𝓗.lead a) ≡ m → 𝓜.mul t (𝓗.lead b) ≡ m → (w : M) × (𝓜.mul w l ≡ m))
      → IsBelow 𝓗 l (cancelling s₀ t₀ a b) → IsGood a b
  good_quotients a b l s₀ t₀ e₀ e₀' least r m s t e e' = go (least m s t e e')
    where
      place : (w u x : M) → 𝓜.mul w l ≡ m → 𝓜.mul u x ≡ l → (s : M) → 𝓜.mul s x ≡ m → 𝓜.mul w u ≡ s
      place w u x p q s h = 𝓜.cancel x (𝓜.mul w u) s (𝓜.mul_comm _ _ ∙ 𝓜.mul_assoc _ _ _ ∙ ap (𝓜.mul w) q ∙ p ∙ sym h ∙ 𝓜.mul_comm _ _)

      go : (w : M) × (𝓜.mul w l ≡ m) → IsBelow 𝓗 m (cancelling s t a b)
      go (w, p) =
          move (multiples-times 𝓣 𝓗.element 𝓗.lead 𝓚.one w (λ n q. subst (𝓞.below (𝓜.mul w n)) p (𝓞.mul_below w n l q)) r)
          (times-cancelling w s₀ t₀ a b ∙ ap₂ (λ x y. cancelling x y a b) (place w s₀ (𝓗.lead a) p e₀ s e) (place w t₀ (𝓗.lead b) p e₀' t e'))

  split : (s t : M) (a b : I) → cancelling s t a b ≡ 𝓣.term (𝓗.lead_coefficient b) 𝓜.one * 𝓣.term 𝓚.one s * 𝓗.element a + - (𝓣.term (𝓗.lead_coefficient a) 𝓜.one * 𝓣.term 𝓚.one t * 𝓗.element b)
  split s t a b = ap₂ (λ x y. x * 𝓗.element a + - (y * 𝓗.element b)) (split_term 𝓣 (𝓗.lead_coefficient b) s) (split_term 𝓣 (𝓗.lead_coefficient a) t)

  three : (a b c s t u f g h : P) → b * (c * s * f + - (a * u * h)) + a * (b * u * h + - (c * t * g)) ≡ c * (b * s * f + - (a * t * g))
  three a b c s t u f g h = ring 𝓣.ring (a ∷ b ∷ c ∷ s ∷ t ∷ u ∷ f ∷ g ∷ h ∷ []) (search reading depth 30) refl

  -- by a third element
  pub good_chain : (a b c : I) → ((m s t : M) → 𝓜.mul s (𝓗.lead a) ≡ m → 𝓜.mul t (𝓗.lead b) ≡ m → (u : M) × (𝓜.mul u (𝓗.lead c) ≡ m)) → IsGood a c → IsGood c b → IsGood a b
  good_chain a b c divides g g' m s t e e' = go (divides m s t e e')
    where
      scaled : (u : M) → 𝓣.term (𝓗.lead_coefficient b) 𝓜.one * cancelling s u a c + 𝓣.term (𝓗.lead_coefficient a) 𝓜.one * cancelling u t c b ≡ 𝓣.term (𝓗.lead_coefficient c) 𝓜.one * cancelling s t a b
      scaled u = ap₂ (λ x y. 𝓣.term (𝓗.lead_coefficient b) 𝓜.one * x + 𝓣.term (𝓗.lead_coefficient a) 𝓜.one * y) (split s u a c) (split u t c b) ∙ three _ _ _ _ _ _ _ _ _ ∙ ap (λ x. 𝓣.term (𝓗.lead_coefficient c) 𝓜.one * x) (sym (split s t a b))

      back : (x : P) → 𝓣.term (𝓗.inverse c) 𝓜.one * (𝓣.term (𝓗.lead_coefficient c) 𝓜.one * x) ≡ x
      back x = sym (𝓣.ring.mul_assoc _ _ _) ∙ ap (λ y. y * x) (constant-term 𝓣 (𝓗.inverse c) (𝓗.lead_coefficient c) 𝓜.one ∙ ap (λ y. 𝓣.term y 𝓜.one) (𝓗.inverse_mul c) ∙ 𝓣.term_one) ∙ 𝓣.ring.one_mul x

      both : (u : M) → 𝓜.mul u (𝓗.lead c) ≡ m → IsBelow 𝓗 m (𝓣.term (𝓗.lead_coefficient c) 𝓜.one * cancelling s t a b)
      both u p = move (multiples-add 𝓣 𝓗.element 𝓗.lead (multiples-constant 𝓣 𝓗.element 𝓗.lead (𝓗.lead_coefficient b) (g m s u e p)) (multiples-constant 𝓣 𝓗.element 𝓗.lead (𝓗.lead_coefficient a) (g' m u t p e'))) (scaled u)

      go : (u : M) × (𝓜.mul u (𝓗.lead c) ≡ m) → IsBelow 𝓗 m (cancelling s t a b)
      go (u, p) = move (multiples-constant 𝓣 𝓗.element 𝓗.lead (𝓗.inverse c) (both u p)) (back _)

  -- by leading monomials without a common variable: each common multiple is a multiple of their product
  pub good_coprime : (a b : I) → ((s t : M) → 𝓜.mul s (𝓗.lead a) ≡ 𝓜.mul t (𝓗.lead b) → (w : M) × (𝓜.mul w (𝓗.lead b) ≡ s) × (𝓜.mul w (𝓗.lead a) ≡ t)) → IsGood a b
  good_coprime a b coprime m s t e e' = go (coprime s t (e ∙ sym e'))
    where
      four : (w x y f g p q : P) → p ≡ x + f → q ≡ y + g → w * y * p + - (w * x * q) ≡ w * f * q + - (w * g * p)
      four w x y f g p q i j = rw (i, j) (ring 𝓣.ring (w ∷ x ∷ y ∷ f ∷ g ∷ []) (search reading depth 30) refl)

      half : (w : M) (k j : I) → 𝓜.mul (𝓜.mul w (𝓗.lead k)) (𝓗.lead j) ≡ m → IsBelow 𝓗 m (𝓣.term 𝓚.one w * 𝓗.tail k * 𝓗.element j)
      half w k j p = multiples-element 𝓣 𝓗.element 𝓗.lead {Q = λ n. 𝓞.below n (𝓜.mul w (𝓗.lead k))} j (λ n q. subst₂ 𝓞.below (𝓜.mul_comm _ _) (𝓜.mul_comm _ _ ∙ p) (𝓞.mul_below (𝓗.lead j) n _ q)) (of-times 𝓣 𝓚.one w (λ n q. 𝓞.mul_below w n (𝓗.lead k) q) (𝓗.tail_below k))

      go : (w : M) × (𝓜.mul w (𝓗.lead b) ≡ s) × (𝓜.mul w (𝓗.lead a) ≡ t) → IsBelow 𝓗 m (cancelling s t a b)
      go (w, p, q) =
          move (multiples-add 𝓣 𝓗.element 𝓗.lead (half w a b (ap (λ x. 𝓜.mul x (𝓗.lead b)) q ∙ e')) (multiples-neg 𝓣 𝓗.element 𝓗.lead (half w b a (ap (λ x. 𝓜.mul x (𝓗.lead a)) p ∙ e))))
          (sym (four (𝓣.term 𝓚.one w) (𝓣.term (𝓗.lead_coefficient a) (𝓗.lead a)) (𝓣.term (𝓗.lead_coefficient b) (𝓗.lead b)) (𝓗.tail a) (𝓗.tail b) (𝓗.element a) (𝓗.element b) (𝓗.whole a) (𝓗.whole b))
          ∙ ap₂ (λ x y. x * 𝓗.element a + - (y * 𝓗.element b)) (monomial-term 𝓣 w (𝓗.lead b) (𝓗.lead_coefficient b) ∙ ap (𝓣.term (𝓗.lead_coefficient b)) p) (monomial-term 𝓣 w (𝓗.lead a) (𝓗.lead_coefficient a) ∙ ap (𝓣.term (𝓗.lead_coefficient a)) q))
