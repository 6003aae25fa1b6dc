-- Over a field each finite set of members of an ideal has normal forms: each monomial is congruent to its own, and the members' are
-- zero. They come by elimination, one member after the other.
--   Member γ             a polynomial with the proof that it lies in the ideal of γ
--   Kills nf vs          the normal forms of the members vs are zero
--   Forms vs             normal forms that are congruent to the monomials and kill the members vs
--   forms                each finite list of members has them
use Rattle.std.proofs.Common.{◌≡◌, ◌⊎◌, List, [], ◌∷◌, ◌++◌, refl, sym, ◌∙◌, ap, ap₂, subst, inl, inr}
use mathlib.Core.Logic.{∥∥₁_map, ∥∥₁_elim, ∥∥₁_prop}
use Rattle.rinv_theory.proofs.CRing.{CRing, add_neg, add_mul, zero_mul}
use Rattle.rinv_theory.proofs.Solver.{ring, reading}
use Rattle.rinv_theory.proofs.Monoid.{Monoid}
use Rattle.rinv_theory.proofs.TermRing.{TermRing, term_zero, coefficient-zero}
use Rattle.rinv_theory.proofs.Universal.{agree}
use Rattle.rinv_theory.proofs.Leads.{MonomialOrder, Leads, zero_or_lead}
use Rattle.rinv_theory.proofs.Ideals.{In, in-add, in-mul, in-neg}
use Rattle.rinv_soundness.proofs.Substituting.{identity}
use Rattle.rinv_invariance.proofs.Extensions.{itself}
use Rattle.rinv_invariance.proofs.NormalForms.{normal, normal-add, normal-term, normal-near, constant-coefficient}

module _ {K M P J : Type 0} {𝓚 : CRing K} {𝓜 : Monoid M} (𝓣 : TermRing 𝓚 𝓜 P) (γ : J → P) where
  open 𝓣.ring use {add as ◌+◌, mul as ◌*◌, neg as -◌, zero as 𝟘}

  infixl 60 ◌+◌
  infixl 70 ◌*◌
  infix 80 -◌
  -- a member of the ideal
  abbrev pub Member : Type 0
  Member = (v : P) × In 𝓣.ring γ v

  -- the normal forms of these members are zero
  abbrev pub Kills : (M → P) → List Member → Type 0
  Kills nf [] = Unit {0}
  Kills nf (v ∷ vs) = (normal (itself 𝓣) nf v.0 ≡ 𝟘) × Kills nf vs

  -- of two lists
  pub kills_both : (nf : M → P) (xs ys : List Member) → Kills nf (xs ++ ys) → Kills nf xs × Kills nf ys
  kills_both nf [] ys k = (tt, k)
  kills_both nf (x ∷ xs) ys k = let r = kills_both nf xs ys k.1 in ((k.0, r.0), r.1)

  -- congruent to the monomials, and zero at the members
  pub record Forms (vs : List Member) : Type 0 where
    pub at : M → P
    pub near : (m : M) → In 𝓣.ring γ (𝓣.term 𝓚.one m + - at m)
    pub kills : Kills at vs

  -- the monomials themselves
  none_killed : Forms []
  none_killed = record { at = λ m. 𝓣.term 𝓚.one m; near = λ m. subst (In 𝓣.ring γ) (sym (add_neg 𝓣.ring _)) In.none; kills = tt }

  module _ (𝓞 : MonomialOrder 𝓜) (zero_dec : (c : K) → Dec (c ≡ 𝓚.zero)) (inverse : (c : K) → (c ≡ 𝓚.zero → ⊥) → (d : K) × (𝓚.mul d c ≡ 𝓚.one)) where
    module _ (nf : M → P) (e : M) (d : K) (w : P) where
      abbrev reduced : M → P
      reduced m = nf m + - (𝓣.term (𝓚.mul (𝓣.coefficient (nf m) e) d) 𝓜.one * w)

      -- the multiple of w that takes away the coefficient at e
      reduced-normal : (x : P) → normal (itself 𝓣) reduced x ≡ normal (itself 𝓣) nf x + - (𝓣.term (𝓚.mul (𝓣.coefficient (normal (itself 𝓣) nf x) e) d) 𝓜.one * w)
      unfolding itself identity
      reduced-normal = agree 𝓣 𝓣.ring (λ x. normal (itself 𝓣) reduced x) (λ x. after (normal (itself 𝓣) nf x)) (λ x y. normal-add (itself 𝓣) reduced x y) (λ x y. ap after (normal-add (itself 𝓣) nf x y) ∙ after-add _ _)
          (λ c m. normal-term (itself 𝓣) reduced c m ∙ at_term (𝓣.term c 𝓜.one) (nf m) _ w ∙ ap (λ z. 𝓣.term c 𝓜.one * nf m + - z) (scaled c m) ∙ ap after (sym (normal-term (itself 𝓣) nf c m)))
        where
          after : P → P
          after y = y + - (𝓣.term (𝓚.mul (𝓣.coefficient y e) d) 𝓜.one * w)

          regroup : (x y a b w : P) → x + y + - ((a + b) * w) ≡ x + - (a * w) + (y + - (b * w))
          regroup x y a b w = ring 𝓣.ring (x ∷ y ∷ a ∷ b ∷ w ∷ []) (search reading depth 30) refl

          after-add : (x y : P) → after (x + y) ≡ after x + after y
          after-add x y = ap (λ z. x + y + - (z * w)) (ap (λ z. 𝓣.term (𝓚.mul z d) 𝓜.one) (𝓣.coefficient_add x y e) ∙ ap (λ z. 𝓣.term z 𝓜.one) (add_mul 𝓚 _ _ d) ∙ sym (𝓣.term_add _ _ 𝓜.one)) ∙ regroup x y _ _ w

          at_term : (c x a w : P) → c * (x + - (a * w)) ≡ c * x + - (c * (a * w))
          at_term c x a w = ring 𝓣.ring (c ∷ x ∷ a ∷ w ∷ []) (search reading depth 30) refl

          scaled : (c : K) (m : M) → 𝓣.term c 𝓜.one * (𝓣.term (𝓚.mul (𝓣.coefficient (nf m) e) d) 𝓜.one * w) ≡ 𝓣.term (𝓚.mul (𝓣.coefficient (𝓣.term c 𝓜.one * nf m) e) d) 𝓜.one * w
          scaled c m =
              sym (𝓣.ring.mul_assoc _ _ _)
              ∙ ap (λ z. z * w) (𝓣.term_mul c _ 𝓜.one 𝓜.one ∙ ap₂ 𝓣.term (sym (𝓚.mul_assoc _ _ _) ∙ ap (λ z. 𝓚.mul z d) (sym (constant-coefficient (itself 𝓣) c (nf m) e))) (𝓜.one_mul 𝓜.one))

      kept : (v : P) → normal (itself 𝓣) nf v ≡ 𝟘 → normal (itself 𝓣) reduced v ≡ 𝟘
      kept v z = reduced-normal v ∙ ap (λ y. y + - (𝓣.term (𝓚.mul (𝓣.coefficient y e) d) 𝓜.one * w)) z ∙ ap (λ x. 𝟘 + - (x * w)) gone ∙ nothing w
        where
          gone : 𝓣.term (𝓚.mul (𝓣.coefficient 𝟘 e) d) 𝓜.one ≡ 𝟘
          gone = ap (λ x. 𝓣.term (𝓚.mul x d) 𝓜.one) (coefficient-zero 𝓣 e) ∙ ap (λ x. 𝓣.term x 𝓜.one) (zero_mul 𝓚 d) ∙ term_zero 𝓣 𝓜.one

          nothing : (w : P) → 𝟘 + - (𝟘 * w) ≡ 𝟘
          nothing w = ring 𝓣.ring (w ∷ []) (search reading depth 30) refl

      all_kept : (vs : List Member) → Kills nf vs → Kills reduced vs
      all_kept [] k = tt
      all_kept (v ∷ vs) k = (kept v.0 k.0, all_kept vs k.1)

    -- one more member
    one_more : (v : Member) (vs : List Member) → Forms vs → ∥ Forms (v ∷ vs) ∥₁
    unfolding itself identity
    one_more v vs f = ∥∥₁_elim (zero_or_lead 𝓣 𝓞 zero_dec w) ∥∥₁_prop (λ s. go s)
      where
        w : P
        w = normal (itself 𝓣) f.at v.0

        back : (x y : P) → x + - (x + - y) ≡ y
        back x y = ring 𝓣.ring (x ∷ y ∷ []) (search reading depth 30) refl

        w_member : ∥ In 𝓣.ring γ w ∥₁
        w_member = ∥∥₁_map (normal-near (itself 𝓣) f.at γ f.near v.0) (λ r. subst (In 𝓣.ring γ) (back v.0 w) (in-add 𝓣.ring γ v.1 (in-neg 𝓣.ring γ r)))

        spread : (t n a w : P) → t + - n + a * w ≡ t + - (n + - (a * w))
        spread t n a w = ring 𝓣.ring (t ∷ n ∷ a ∷ w ∷ []) (search reading depth 30) refl

        with_inverse : (e : M) (d : K) → 𝓚.mul d (𝓣.coefficient w e) ≡ 𝓚.one → In 𝓣.ring γ w → Forms (v ∷ vs)
        with_inverse e d i r = record {
          at = reduced f.at e d w;
          near = λ m. subst (In 𝓣.ring γ) (spread (𝓣.term 𝓚.one m) (f.at m) _ w) (in-add 𝓣.ring γ (f.near m) (in-mul 𝓣.ring γ _ r));
          kills = (reduced-normal f.at e d w v.0 ∙ ap (λ x. w + - (x * w)) (ap (λ x. 𝓣.term x 𝓜.one) (𝓚.mul_comm _ d ∙ i) ∙ 𝓣.term_one) ∙ ap (λ x. w + - x) (𝓣.ring.one_mul w) ∙ add_neg 𝓣.ring w, all_kept f.at e d w vs f.kills);
        }

        go : (w ≡ 𝟘) ⊎ ((e : M) × Leads 𝓣 𝓞 w e) → ∥ Forms (v ∷ vs) ∥₁
        go (inl z) = ∣ record { at = f.at; near = f.near; kills = (z, f.kills) } ∣₁
        go (inr (e, l)) = let i = inverse (𝓣.coefficient w e) l.nonzero in ∥∥₁_map w_member (with_inverse e i.0 i.1)

    -- each finite list of members has such normal forms
    pub forms : (vs : List Member) → ∥ Forms vs ∥₁
    forms [] = ∣ none_killed ∣₁
    forms (v ∷ vs) = ∥∥₁_elim (forms vs) ∥∥₁_prop (one_more v vs)
