-- With good pairs, a member of the ideal none of whose monomials is a multiple of a leading monomial is zero.
--   irreducible-zero     the same for any property of monomials that leading monomials do not have
--   member_irreducible-zero    for a member of the ideal
--   eliminated-zero      only the elements whose leading monomials are free of some variables count, for a polynomial that is
use Rattle.std.proofs.Common.{◌≡◌, ◌⊎◌, sym, subst, inl, inr}
use mathlib.Core.Logic.{∥∥₁_elim}
use mathlib.Core.WellFounded.{WellFounded}
use Rattle.rinv_theory.proofs.CRing.{CRing}
use Rattle.rinv_theory.proofs.Monoid.{Monoid}
use Rattle.rinv_theory.proofs.TermRing.{TermRing}
use Rattle.rinv_theory.proofs.Of.{Of}
use Rattle.rinv_theory.proofs.Ideals.{In}
use Rattle.rinv_theory.proofs.Leads.{MonomialOrder, Leads, of-lead}
use Rattle.rinv_groebner.proofs.Multiples.{AnyMultiples, in-multiples}
use Rattle.rinv_groebner.proofs.Elements.{Elements}
use Rattle.rinv_groebner.proofs.Pairs.{IsGood}
use Rattle.rinv_groebner.proofs.Criterion.{lead-divisible}

module _ {K M P I : Type 0} {𝓚 : CRing K} {𝓜 : Monoid M} {𝓣 : TermRing 𝓚 𝓜 P} {𝓞 : MonomialOrder 𝓜} (𝓗 : Elements 𝓣 𝓞 I) (good : (a b : I) → IsGood 𝓗 a b) (well : WellFounded 𝓞.below) (zero_dec : (c : K) → Dec (c ≡ 𝓚.zero)) where
  -- a sum of multiples none of whose monomials is a multiple of a leading monomial
  pub irreducible-zero : {Q : M → Type 0} → ((k : I) (s : M) → Q (𝓜.mul s (𝓗.lead k)) → ⊥) → (f : P) → AnyMultiples 𝓣 𝓗.element 𝓗.lead f → Of 𝓣 Q f → f ≡ 𝓣.ring.zero
  irreducible-zero {Q} none f r o = go (of-lead 𝓣 𝓞 zero_dec f o)
    where
      found : (m : M) → Q m → (k : I) × (s : M) × (𝓜.mul s (𝓗.lead k) ≡ m) → f ≡ 𝓣.ring.zero
      found m q (k, s, e) = absurd (none k s (subst Q (sym e) q))

      go : (f ≡ 𝓣.ring.zero) ⊎ ((m : M) × Q m × Leads 𝓣 𝓞 f m) → f ≡ 𝓣.ring.zero
      go (inl e) = e
      go (inr (m, q, l)) = found m q (lead-divisible 𝓗 good well f r m l)

  -- a member of the ideal
  pub member_irreducible-zero : {Q : M → Type 0} → ((k : I) (s : M) → Q (𝓜.mul s (𝓗.lead k)) → ⊥) → (f : P) → In 𝓣.ring 𝓗.element f → Of 𝓣 Q f → f ≡ 𝓣.ring.zero
  member_irreducible-zero none f i o = ∥∥₁_elim (in-multiples 𝓣 𝓗.element 𝓗.lead i) (𝓣.ring.is_set _ _) (λ r. irreducible-zero none f r o)

  -- for a polynomial in some of the variables, the elements with leading monomials in these suffice
  pub eliminated-zero : (Free Lead : M → Type 0) → ((s m : M) → Free (𝓜.mul s m) → Free m) → ((s m : M) → Lead m → Lead (𝓜.mul s m)) → ((k : I) → Free (𝓗.lead k) → Lead (𝓗.lead k))
      → (f : P) → In 𝓣.ring 𝓗.element f → Of 𝓣 (λ n. Free n × (Lead n → ⊥)) f → f ≡ 𝓣.ring.zero
  eliminated-zero Free Lead divisor multiple covers f i o = member_irreducible-zero {Q = λ n. Free n × (Lead n → ⊥)} (λ k s q. q.1 (multiple s (𝓗.lead k) (covers k (divisor s (𝓗.lead k) q.0)))) f i o
