-- Gröbner bases and reduced Gröbner bases of an ideal, which may be any property of polynomials that differences keep.
--   IsBasis Mem lm g     the elements g i, with the greatest monomials lm i, are a Gröbner basis of Mem
--   IsReduced Mem lm g   a reduced one
--   normal-unique        congruent polynomials are equal where no monomial of theirs is a multiple of a greatest monomial
--   reduced-unique       each element of a reduced basis is one of any other
use Rattle.std.proofs.Common.{◌≡◌, ◌⊎◌, sym, ◌∙◌, ap, ap₂, subst, inl, inr}
use mathlib.Core.Logic.{∥∥₁_elim, ∥∥₁_map, ∥∥₁_prop}
use Rattle.rinv_theory.proofs.CRing.{CRing, add_neg, add_cancel}
use Rattle.rinv_theory.proofs.Monoid.{Monoid}
use Rattle.rinv_theory.proofs.TermRing.{TermRing, coefficient-neg}
use Rattle.rinv_theory.proofs.Leads.{MonomialOrder, upto-below, Leads, zero_or_lead}
use Rattle.rinv_groebner.proofs.Divisors.{divisor-upto, divisors-equal}

module _ {K M P : Type 0} {𝓚 : CRing K} {𝓜 : Monoid M} (𝓣 : TermRing 𝓚 𝓜 P) (𝓞 : MonomialOrder 𝓜) (Mem : P → Type 0) where
  open 𝓣.ring use {add as ◌+◌, neg as -◌, zero as 𝟘}

  infixl 60 ◌+◌
  infix 80 -◌
  -- the elements are members, and the greatest monomial of each member is a multiple of one of theirs
  pub record IsBasis {I : Type 0} (lm : I → M) (g : I → P) : Type 0 where
    pub member : (i : I) → Mem (g i)
    pub leads : (i : I) → Leads 𝓣 𝓞 (g i) (lm i)
    pub covers : (f : P) → Mem f → (n : M) → Leads 𝓣 𝓞 f n → ∥ ((i : I) × (s : M) × (𝓜.mul s (lm i) ≡ n)) ∥₁

  -- the elements are monic, and no monomial of one is a multiple of the greatest monomial of another
  pub record IsReduced {I : Type 0} (lm : I → M) (g : I → P) : Type 0 where
    pub basis : IsBasis lm g
    pub monic : (i : I) → 𝓣.coefficient (g i) (lm i) ≡ 𝓚.one
    pub irreducible : (i j : I) (s : M) → (𝓣.coefficient (g i) (𝓜.mul s (lm j)) ≡ 𝓚.zero → ⊥) → lm j ≡ lm i

  module _ (zero_dec : (c : K) → Dec (c ≡ 𝓚.zero)) where
    -- two polynomials are equal where they are congruent, and no monomial of either is a multiple of a greatest one of a basis
    pub normal-unique : {I J : Type 0} {lm : I → M} {g : I → P} {lm' : J → M} {h : J → P} → IsBasis lm g → IsBasis lm' h → (x y : P) → Mem (x + - y)
        → ((i : I) (s : M) → 𝓣.coefficient x (𝓜.mul s (lm i)) ≡ 𝓚.zero) → ((j : J) (s : M) → 𝓣.coefficient y (𝓜.mul s (lm' j)) ≡ 𝓚.zero) → x ≡ y
    normal-unique b b' x y m normal normal' = ∥∥₁_elim (zero_or_lead 𝓣 𝓞 zero_dec (x + - y)) (𝓣.ring.is_set _ _) go
      where
        equal : (n : M) → 𝓣.coefficient x n ≡ 𝓚.zero → 𝓣.coefficient y n ≡ 𝓚.zero → 𝓣.coefficient (x + - y) n ≡ 𝓚.zero
        equal n e e' = 𝓣.coefficient_add x (- y) n ∙ ap₂ 𝓚.add e (coefficient-neg 𝓣 y n ∙ ap 𝓚.neg e') ∙ add_neg 𝓚 _

        go : (x + - y ≡ 𝟘) ⊎ ((n : M) × Leads 𝓣 𝓞 (x + - y) n) → x ≡ y
        go (inl e) = add_cancel 𝓣.ring x y (- y) (e ∙ sym (add_neg 𝓣.ring y))
        go (inr (n, l)) = ∥∥₁_elim (b.covers _ m n l) (𝓣.ring.is_set _ _) (λ c. ∥∥₁_elim (b'.covers _ m n l) (𝓣.ring.is_set _ _) (λ d.
            absurd (l.nonzero (equal n (ap (𝓣.coefficient x) (sym c.2) ∙ normal c.0 c.1) (ap (𝓣.coefficient y) (sym d.2) ∙ normal' d.0 d.1)))))

    module _ (least : (m : M) → 𝓞.below m 𝓜.one → ⊥) (mem_sub : (f g : P) → Mem f → Mem g → Mem (f + - g)) where
      -- a monomial below its own greatest is a multiple of no greatest one
      irreducible-below : {I : Type 0} {lm : I → M} {g : I → P} → IsReduced lm g → (i k : I) (s n : M) → 𝓜.mul s (lm k) ≡ n → 𝓞.below n (lm i) → 𝓣.coefficient (g i) n ≡ 𝓚.zero
      irreducible-below {I} {lm} {g} r i k s n e h = go (zero_dec (𝓣.coefficient (g i) n))
        where
          same : (𝓣.coefficient (g i) n ≡ 𝓚.zero → ⊥) → lm k ≡ lm i
          same nz = r.irreducible i k s (λ z. nz (ap (𝓣.coefficient (g i)) (sym e) ∙ z))

          go : Dec (𝓣.coefficient (g i) n ≡ 𝓚.zero) → 𝓣.coefficient (g i) n ≡ 𝓚.zero
          go (yes z) = z
          go (no nz) = absurd (𝓞.irreflexive (lm i) (upto-below 𝓞 (lm i) n (lm i) (divisor-upto 𝓞 least s (lm i) n (ap (𝓜.mul s) (sym (same nz)) ∙ e)) h))

      difference : (x y : P) → y + - x ≡ 𝟘 → x ≡ y
      difference x y e = add_cancel 𝓣.ring x y (- x) (add_neg 𝓣.ring x ∙ sym e)

      sub-zero : (x y : P) (n : M) → 𝓣.coefficient x n ≡ 𝓣.coefficient y n → 𝓣.coefficient (x + - y) n ≡ 𝓚.zero
      sub-zero x y n e = 𝓣.coefficient_add x (- y) n ∙ ap (𝓚.add (𝓣.coefficient x n)) (coefficient-neg 𝓣 y n) ∙ ap (λ z. 𝓚.add z (𝓚.neg (𝓣.coefficient y n))) e ∙ add_neg 𝓚 _

      module _ {I J : Type 0} {lm : I → M} {g : I → P} {lm' : J → M} {h : J → P} (r : IsReduced lm g) (r' : IsReduced lm' h) where
        -- elements with one greatest monomial are equal
        pub equal-lead : (i : I) (j : J) → lm' j ≡ lm i → h j ≡ g i
        equal-lead i j e = ∥∥₁_elim (zero_or_lead 𝓣 𝓞 zero_dec (g i + - h j)) (𝓣.ring.is_set _ _) go
          where
            mem : Mem (g i + - h j)
            mem = mem_sub _ _ (r.basis.member i) (r'.basis.member j)

            equal_at : (n : M) → 𝓣.coefficient (g i) n ≡ 𝓣.coefficient (h j) n → Leads 𝓣 𝓞 (g i + - h j) n → ⊥
            equal_at n q l = l.nonzero (sub-zero (g i) (h j) n q)

            low : (n : M) → Leads 𝓣 𝓞 (g i + - h j) n → 𝓞.below n (lm i)
            low n l = place (𝓞.total n (lm i))
              where
                place : 𝓞.below n (lm i) ⊎ (n ≡ lm i) ⊎ 𝓞.below (lm i) n → 𝓞.below n (lm i)
                place (inl b) = b
                place (inr (inl q)) = absurd (equal_at n (ap (𝓣.coefficient (g i)) q ∙ r.monic i ∙ sym (r'.monic j) ∙ ap (𝓣.coefficient (h j)) (e ∙ sym q)) l)
                place (inr (inr b)) = absurd (equal_at n ((r.basis.leads i).above n b ∙ sym ((r'.basis.leads j).above n (subst (λ x. 𝓞.below x n) (sym e) b))) l)

            go : (g i + - h j ≡ 𝟘) ⊎ ((n : M) × Leads 𝓣 𝓞 (g i + - h j) n) → h j ≡ g i
            go (inl z) = difference (h j) (g i) z
            go (inr (n, l)) = ∥∥₁_elim (r.basis.covers _ mem n l) (𝓣.ring.is_set _ _) (λ c. ∥∥₁_elim (r'.basis.covers _ mem n l) (𝓣.ring.is_set _ _) (λ c'.
                absurd (equal_at n (irreducible-below r i c.0 c.1 n c.2 (low n l) ∙ sym (irreducible-below r' j c'.0 c'.1 n c'.2 (subst (𝓞.below n) (sym e) (low n l)))) l)))

        -- each element of the one is an element of the other
        pub reduced-unique : (i : I) → ∥ ((j : J) × (lm' j ≡ lm i) × (h j ≡ g i)) ∥₁
        reduced-unique i = ∥∥₁_elim (r'.basis.covers _ (r.basis.member i) (lm i) (r.basis.leads i)) ∥∥₁_prop (λ c. ∥∥₁_map (r.basis.covers _ (r'.basis.member c.0) (lm' c.0) (r'.basis.leads c.0)) (λ d. go c.0 c.1 c.2 d.0 d.1 d.2))
          where
            go : (j : J) (s : M) → 𝓜.mul s (lm' j) ≡ lm i → (k : I) (t : M) → 𝓜.mul t (lm k) ≡ lm' j → (j : J) × (lm' j ≡ lm i) × (h j ≡ g i)
            go j s e k t e' = let q : lm' j ≡ lm i = divisors-equal 𝓞 least s t (lm' j) (lm i) e (ap (𝓜.mul t) (sym same) ∙ e') in (j, q, equal-lead i j q)
              where
                whole : 𝓜.mul (𝓜.mul s t) (lm k) ≡ lm i
                whole = 𝓜.mul_assoc s t (lm k) ∙ ap (𝓜.mul s) e' ∙ e

                same : lm k ≡ lm i
                same = r.irreducible i k (𝓜.mul s t) (λ z. (r.basis.leads i).nonzero (ap (𝓣.coefficient (g i)) (sym whole) ∙ z))
