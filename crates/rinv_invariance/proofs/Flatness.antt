-- Extending an ideal of K[μ] to A[μ], for an algebra A over the field K, keeps what is independent.
--   Multiples e γ        the generators γ in A[μ]
--   killers              normal forms that kill finitely many members kill a given member in A[μ]
--   leave_out            a factor from A that is no zero divisor can be left out of a member
--   Both e γ F           F, in A, and γ together
--   confiners            the normal form of a member of both has its coefficients in the ideal of F, where finitely many members are killed
use Rattle.std.proofs.Common.{◌≡◌, ◌⊎◌, List, [], ◌∷◌, ◌++◌, sym, ◌∙◌, ap, ap₂, subst, inl, inr}
use mathlib.Core.Logic.{∥∥₁_map, ∥∥₁_elim, ∥∥₁_prop}
use Rattle.rinv_theory.proofs.CRing.{CRing, hom-zero, add_mul, zero_mul, mul_zero}
use Rattle.rinv_theory.proofs.Monoid.{Monoid}
use Rattle.rinv_theory.proofs.TermRing.{TermRing, terms_ind, coefficient-zero}
use Rattle.rinv_theory.proofs.Leads.{MonomialOrder}
use Rattle.rinv_theory.proofs.Ideals.{In, in-mul, in_one}
use Rattle.rinv_invariance.proofs.Extensions.{Extension}
use Rattle.rinv_invariance.proofs.NormalForms.{normal, normal-add, normal-zero, normal-scale, normal-into, split_into, normal_zero_member, constant-coefficient}
use Rattle.rinv_invariance.proofs.FiniteForms.{Member, Kills, kills_both, forms}

module _ {K A M P U J : Type 0} {𝓚 : CRing K} {𝓐 : CRing A} {𝓜 : Monoid M} {𝓣 : TermRing 𝓚 𝓜 P} {𝓤 : TermRing 𝓐 𝓜 U} (e : Extension 𝓣 𝓤) (γ : J → P) where
  open 𝓤.ring use {add as ◌+◌, mul as ◌*◌, zero as 𝟘}

  infixl 60 ◌+◌
  infixl 70 ◌*◌
  -- the generators, with coefficients from the algebra
  abbrev pub Multiples : J → U
  Multiples j = e.into.at (γ j)

  -- members whose normal forms are zero only where that of u is
  abbrev pub Killed : U → Type 0
  Killed u = (vs : List (Member 𝓣 γ)) × ((nf : M → P) → Kills 𝓣 γ nf vs → normal e nf u ≡ 𝟘)

  killed-add : (x y : U) → Killed x → Killed y → Killed (x + y)
  killed-add x y (vs, h) (ws, k) = (vs ++ ws, λ nf z. let r = kills_both 𝓣 γ nf vs ws z in normal-add e nf x y ∙ ap₂ ◌+◌ (h nf r.0) (k nf r.1) ∙ 𝓤.ring.zero_add 𝟘)

  -- a term times a generator
  killed_term : (a : A) (m : M) (j : J) → Killed (𝓤.term a m * Multiples j)
  killed_term a m j = (
    (𝓣.ring.mul (𝓣.term 𝓚.one m) (γ j), in-mul 𝓣.ring γ (𝓣.term 𝓚.one m) (in_one 𝓣.ring γ j)) ∷ [],
    λ nf z.
        ap (normal e nf) (ap (λ x. x * Multiples j) (split_into e nf a m) ∙ 𝓤.ring.mul_assoc _ _ _ ∙ ap (λ x. 𝓤.term a 𝓜.one * x) (sym (e.into.mul _ _)))
        ∙ normal-scale e nf a _ ∙ ap (λ x. 𝓤.term a 𝓜.one * x) (normal-into e nf _ ∙ ap e.into.at z.0 ∙ hom-zero e.into) ∙ mul_zero 𝓤.ring _,
  )

  killed_multiple : (j : J) (u : U) → ∥ Killed (u * Multiples j) ∥₁
  killed_multiple j = terms_ind 𝓤 (λ u. ∥ Killed (u * Multiples j) ∥₁) (λ u. ∥∥₁_prop) ∣ ([], λ nf z. ap (normal e nf) (zero_mul 𝓤.ring _) ∙ normal-zero e nf) ∣₁
      (λ a m x i. ∥∥₁_map i (λ k. subst Killed (sym (add_mul 𝓤.ring _ _ _)) (killed-add _ _ (killed_term a m j) k)))

  -- each member is killed with finitely many
  pub killers : {f : U} → In 𝓤.ring Multiples f → ∥ Killed f ∥₁
  killers In.none = ∣ ([], λ nf z. normal-zero e nf) ∣₁
  killers (In.more {f = f} u j r) = ∥∥₁_elim (killers r) ∥∥₁_prop (λ k. ∥∥₁_map (killed_multiple j u) (λ h. killed-add _ _ h k))

  module _ {L : Type 0} (F : L → A) where
    -- F and γ together
    abbrev pub Both : L ⊎ J → U
    Both (inl l) = 𝓤.term (F l) 𝓜.one
    Both (inr j) = Multiples j

    -- members whose normal forms are zero only where that of u has coefficients in the ideal of F
    abbrev pub Confined : U → Type 0
    Confined u = (vs : List (Member 𝓣 γ)) × ((nf : M → P) → Kills 𝓣 γ nf vs → (n : M) → In 𝓐 F (𝓤.coefficient (normal e nf u) n))

    -- each member of both is so
    pub confiners : {f : U} → In 𝓤.ring Both f → ∥ Confined f ∥₁
    confiners In.none = ∣ ([], λ nf z n. subst (In 𝓐 F) (sym (ap (λ x. 𝓤.coefficient x n) (normal-zero e nf) ∙ coefficient-zero 𝓤 n)) In.none) ∣₁
    confiners (In.more {f = f} u (inl l) r) = ∥∥₁_map (confiners r) (λ k. (k.0, λ nf z n. subst (In 𝓐 F) (sym (parts nf n)) (In.more (𝓤.coefficient (normal e nf u) n) l (k.1 nf z n))))
      where
        parts : (nf : M → P) (n : M) → 𝓤.coefficient (normal e nf (u * 𝓤.term (F l) 𝓜.one + f)) n ≡ 𝓐.add (𝓐.mul (𝓤.coefficient (normal e nf u) n) (F l)) (𝓤.coefficient (normal e nf f) n)
        parts nf n =
            ap (λ x. 𝓤.coefficient x n) (normal-add e nf _ _ ∙ ap (λ x. x + normal e nf f) (ap (normal e nf) (𝓤.ring.mul_comm u _) ∙ normal-scale e nf (F l) u)) ∙ 𝓤.coefficient_add _ _ n
            ∙ ap (λ x. 𝓐.add x (𝓤.coefficient (normal e nf f) n)) (constant-coefficient e (F l) (normal e nf u) n ∙ 𝓐.mul_comm _ _)
    confiners (In.more {f = f} u (inr j) r) = ∥∥₁_elim (confiners r) ∥∥₁_prop (λ k. ∥∥₁_map (killed_multiple j u) (λ h. together k h))
      where
        together : Confined f → Killed (u * Multiples j) → Confined (u * Multiples j + f)
        together (vs, c) (ws, k) = (
          vs ++ ws,
          λ nf z n. let r = kills_both 𝓣 γ nf vs ws z in
              subst (In 𝓐 F) (ap (λ x. 𝓤.coefficient x n) (sym (normal-add e nf _ _ ∙ ap (λ x. x + normal e nf f) (k nf r.1) ∙ 𝓤.ring.zero_add _))) (c nf r.0 n),
        )

  module _ (𝓞 : MonomialOrder 𝓜) (zero_dec : (c : K) → Dec (c ≡ 𝓚.zero)) (inverse : (c : K) → (c ≡ 𝓚.zero → ⊥) → (d : K) × (𝓚.mul d c ≡ 𝓚.one)) where
    -- a factor that is no zero divisor can be left out
    pub leave_out : (d : A) → ((x : A) → 𝓐.mul d x ≡ 𝓐.zero → x ≡ 𝓐.zero) → (u : U) → In 𝓤.ring Multiples (𝓤.term d 𝓜.one * u) → ∥ In 𝓤.ring Multiples u ∥₁
    leave_out d cancel u r = ∥∥₁_elim (killers r) ∥∥₁_prop (λ k. ∥∥₁_elim (forms 𝓣 γ 𝓞 zero_dec inverse k.0) ∥∥₁_prop (λ f. normal_zero_member e f.at γ f.near u (zero f.at (k.1 f.at f.kills))))
      where
        zero : (nf : M → P) → normal e nf (𝓤.term d 𝓜.one * u) ≡ 𝟘 → normal e nf u ≡ 𝟘
        zero nf z = 𝓤.coefficient_ext _ _ (λ n. cancel _ (sym (constant-coefficient e d (normal e nf u) n) ∙ ap (λ x. 𝓤.coefficient x n) (sym (normal-scale e nf d u) ∙ z) ∙ coefficient-zero 𝓤 n) ∙ sym (coefficient-zero 𝓤 n))
