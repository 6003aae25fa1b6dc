-- Orders of monomials, and the greatest monomial of a polynomial.
--   MonomialOrder 𝓜      a total order on the monomials that products keep
--   IsUpTo 𝓞 a b         a is below b, or equal to it
--   Leads 𝓣 𝓞 f m        m is the greatest monomial of f
--   lead-greatest, lead-unique    each monomial of f is up to it; there is one
--   of-lead, zero_or_lead    a polynomial is zero, or has a greatest monomial
--   lead-of              the monomials are up to the greatest
use Rattle.std.proofs.Common.{◌≡◌, ◌⊎◌, Bool, true, false, cond, refl, sym, ◌∙◌, ap, ap₂, subst, inl, inr, true≢false}
use mathlib.Core.Logic.{∥∥₁_map}
use Rattle.rinv_theory.proofs.CRing.{CRing}
use Rattle.rinv_theory.proofs.Monoid.{Monoid}
use Rattle.rinv_theory.proofs.TermRing.{TermRing, coefficient-zero}
use Rattle.rinv_theory.proofs.Of.{Of, of_any, of_where}

-- a total order that products keep
pub record MonomialOrder {M : Type 0} (𝓜 : Monoid M) : Type 1 where
  pub below : M → M → Type 0
  pub irreflexive : (a : M) → below a a → ⊥
  pub trans : (a b c : M) → below a b → below b c → below a c
  pub total : (a b : M) → below a b ⊎ (a ≡ b) ⊎ below b a
  pub mul_below : (c a b : M) → below a b → below (𝓜.mul c a) (𝓜.mul c b)

module _ {M : Type 0} {𝓜 : Monoid M} (𝓞 : MonomialOrder 𝓜) where
  -- below, or equal
  abbrev pub IsUpTo : M → M → Type 0
  IsUpTo a b = 𝓞.below a b ⊎ (a ≡ b)

  -- what is below differs
  pub below-ne : (a b : M) → 𝓞.below a b → a ≡ b → ⊥
  below-ne a b h e = 𝓞.irreflexive b (subst (λ x. 𝓞.below x b) e h)

  -- not both are below the other
  pub below-asym : (a b : M) → 𝓞.below a b → 𝓞.below b a → ⊥
  below-asym a b h k = 𝓞.irreflexive a (𝓞.trans a b a h k)

  -- up to, and then below
  pub upto-below : (a b c : M) → IsUpTo a b → 𝓞.below b c → 𝓞.below a c
  upto-below a b c (inl h) k = 𝓞.trans a b c h k
  upto-below a b c (inr e) k = subst (λ x. 𝓞.below x c) (sym e) k

  -- below, and then up to
  pub below-upto : (a b c : M) → 𝓞.below a b → IsUpTo b c → 𝓞.below a c
  below-upto a b c h (inl k) = 𝓞.trans a b c h k
  below-upto a b c h (inr e) = subst (𝓞.below a) e h

  -- products keep it
  pub mul-upto : (c a b : M) → IsUpTo a b → IsUpTo (𝓜.mul c a) (𝓜.mul c b)
  mul-upto c a b (inl h) = inl (𝓞.mul_below c a b h)
  mul-upto c a b (inr e) = inr (ap (𝓜.mul c) e)

  -- whether a is up to b
  pub is_upto : M → M → Bool
  is_upto a b = elim (𝓞.total a b) [ inl h ↦ true | inr (inl e) ↦ true | inr (inr h) ↦ false ]

  -- then it is
  pub upto-from : (a b : M) → is_upto a b ≡ true → IsUpTo a b
  unfolding is_upto
  upto-from a b e = go (𝓞.total a b) e
    where
      go : (t : 𝓞.below a b ⊎ (a ≡ b) ⊎ 𝓞.below b a) → elim t as (λ x. Bool) [ inl h ↦ true | inr (inl e) ↦ true | inr (inr h) ↦ false ] ≡ true → IsUpTo a b
      go (inl h) e = inl h
      go (inr (inl i)) e = inr i
      go (inr (inr h)) e = absurd (true≢false (sym e))

  -- otherwise it is above
  pub above-from : (a b : M) → is_upto a b ≡ false → 𝓞.below b a
  unfolding is_upto
  above-from a b e = go (𝓞.total a b) e
    where
      go : (t : 𝓞.below a b ⊎ (a ≡ b) ⊎ 𝓞.below b a) → elim t as (λ x. Bool) [ inl h ↦ true | inr (inl e) ↦ true | inr (inr h) ↦ false ] ≡ false → 𝓞.below b a
      go (inl h) e = absurd (true≢false e)
      go (inr (inl i)) e = absurd (true≢false e)
      go (inr (inr h)) e = h

module _ {K M P : Type 0} {𝓚 : CRing K} {𝓜 : Monoid M} (𝓣 : TermRing 𝓚 𝓜 P) (𝓞 : MonomialOrder 𝓜) where
  -- m is the greatest monomial of f
  pub record Leads (f : P) (m : M) : Type 0 where
    pub nonzero : 𝓣.coefficient f m ≡ 𝓚.zero → ⊥
    pub above : (e : M) → 𝓞.below m e → 𝓣.coefficient f e ≡ 𝓚.zero

  -- each monomial of f is up to the greatest
  pub lead-greatest : {f : P} {m : M} → Leads f m → (n : M) → (𝓣.coefficient f n ≡ 𝓚.zero → ⊥) → IsUpTo 𝓞 n m
  lead-greatest {f} {m} l n nz = go (𝓞.total n m)
    where
      go : 𝓞.below n m ⊎ (n ≡ m) ⊎ 𝓞.below m n → IsUpTo 𝓞 n m
      go (inl h) = inl h
      go (inr (inl e)) = inr e
      go (inr (inr h)) = absurd (nz (l.above n h))

  -- there is one greatest monomial
  pub lead-unique : {f : P} {m n : M} → Leads f m → Leads f n → m ≡ n
  lead-unique {f} {m} {n} l k = go (lead-greatest l n k.nonzero) (lead-greatest k m l.nonzero)
    where
      go : IsUpTo 𝓞 n m → IsUpTo 𝓞 m n → m ≡ n
      go (inr e) h = sym e
      go (inl h) (inr e) = e
      go (inl h) (inl k) = absurd (below-asym 𝓞 m n k h)

  -- the monomials are up to the greatest
  pub lead-of : {Q : M → Type 0} {f : P} {m : M} → Leads f m → Of 𝓣 Q f → Of 𝓣 (λ n. Q n × (is_upto 𝓞 n m ≡ true)) f
  lead-of {m = m} l o = of_where 𝓣 (λ n. is_upto 𝓞 n m) o (λ e u. l.above e (above-from 𝓞 e m u))

  module _ (zero_dec : (c : K) → Dec (c ≡ 𝓚.zero)) (g : P) where
    -- the greatest of the listed monomials that g has, or it has none of them
    data Found (Q : M → Type 0) (listed : M → Type 0) : Type 0 where
      nowhere : ((n : M) → listed n → 𝓣.coefficient g n ≡ 𝓚.zero) → Found Q listed
      at_top : (m : M) → Q m → (𝓣.coefficient g m ≡ 𝓚.zero → ⊥) → ((n : M) → listed n → (𝓣.coefficient g n ≡ 𝓚.zero → ⊥) → IsUpTo 𝓞 n m) → Found Q listed

    abbrev Occurs : {Q : M → Type 0} {f : P} → M → Of 𝓣 Q f → Type 0
    Occurs e Of.none = ⊥
    Occurs e (Of.more c n q r) = (e ≡ n) ⊎ Occurs e r

    found : {Q : M → Type 0} {f : P} (o : Of 𝓣 Q f) → Found Q (λ n. Occurs n o)
    found Of.none = nowhere (λ n h. absurd h)
    found {Q} (Of.more c n q r) = go (found r) (zero_dec (𝓣.coefficient g n))
      where
        at_n : (k : M) → k ≡ n → 𝓣.coefficient g n ≡ 𝓚.zero → 𝓣.coefficient g k ≡ 𝓚.zero
        at_n k e z = ap (𝓣.coefficient g) e ∙ z

        above : (m : M) → ((k : M) → Occurs k r → (𝓣.coefficient g k ≡ 𝓚.zero → ⊥) → IsUpTo 𝓞 k m) → IsUpTo 𝓞 n m → (k : M) → (k ≡ n) ⊎ Occurs k r → (𝓣.coefficient g k ≡ 𝓚.zero → ⊥) → IsUpTo 𝓞 k m
        above m up h k (inl e) nz = subst (λ x. IsUpTo 𝓞 x m) (sym e) h
        above m up h k (inr t) nz = up k t nz

        at_first : (m : M) → ((k : M) → Occurs k r → (𝓣.coefficient g k ≡ 𝓚.zero → ⊥) → IsUpTo 𝓞 k m) → 𝓞.below m n → (k : M) → (k ≡ n) ⊎ Occurs k r → (𝓣.coefficient g k ≡ 𝓚.zero → ⊥) → IsUpTo 𝓞 k n
        at_first m up h k (inl e) nz = inr e
        at_first m up h k (inr t) nz = inl (upto-below 𝓞 k m n (up k t nz) h)

        none_behind : ((k : M) → Occurs k r → 𝓣.coefficient g k ≡ 𝓚.zero) → (k : M) → (k ≡ n) ⊎ Occurs k r → (𝓣.coefficient g k ≡ 𝓚.zero → ⊥) → IsUpTo 𝓞 k n
        none_behind h k (inl e) nz = inr e
        none_behind h k (inr t) nz = absurd (nz (h k t))

        none_at_all : ((k : M) → Occurs k r → 𝓣.coefficient g k ≡ 𝓚.zero) → 𝓣.coefficient g n ≡ 𝓚.zero → (k : M) → (k ≡ n) ⊎ Occurs k r → 𝓣.coefficient g k ≡ 𝓚.zero
        none_at_all h z k (inl e) = at_n k e z
        none_at_all h z k (inr t) = h k t

        not_first : (m : M) → ((k : M) → Occurs k r → (𝓣.coefficient g k ≡ 𝓚.zero → ⊥) → IsUpTo 𝓞 k m) → 𝓣.coefficient g n ≡ 𝓚.zero → (k : M) → (k ≡ n) ⊎ Occurs k r → (𝓣.coefficient g k ≡ 𝓚.zero → ⊥) → IsUpTo 𝓞 k m
        not_first m up z k (inl e) nz = absurd (nz (at_n k e z))
        not_first m up z k (inr t) nz = up k t nz

        go : Found Q (λ k. Occurs k r) → Dec (𝓣.coefficient g n ≡ 𝓚.zero) → Found Q (λ k. (k ≡ n) ⊎ Occurs k r)
        go (nowhere h) (yes z) = nowhere (none_at_all h z)
        go (nowhere h) (no nz) = at_top n q nz (none_behind h)
        go (at_top m p nzm up) (yes z) = at_top m p nzm (not_first m up z)
        go (at_top m p nzm up) (no nz) = elim (𝓞.total n m) [
          | inl h ↦ at_top m p nzm (above m up (inl h))
          | inr (inl e) ↦ at_top m p nzm (above m up (inr e))
          | inr (inr h) ↦ at_top n q nz (at_first m up h)
        ]

    absent : {Q : M → Type 0} (e : M) {f : P} (o : Of 𝓣 Q f) → (Occurs e o → ⊥) → 𝓣.coefficient f e ≡ 𝓚.zero
    absent e Of.none h = coefficient-zero 𝓣 e
    absent e (Of.more {f = f} c n q r) h = 𝓣.coefficient_add _ _ e ∙ ap₂ 𝓚.add (𝓣.coefficient_term c n e ∙ go (𝓜.same n e) refl) (absent e r (λ t. h (inr t))) ∙ 𝓚.zero_add _
      where
        go : (b : Bool) → 𝓜.same n e ≡ b → cond b c 𝓚.zero ≡ 𝓚.zero
        go true i = absurd (h (inl (sym (𝓜.same_eq n e i))))
        go false i = refl

    -- a polynomial is zero, or has a greatest monomial
    pub of-lead : {Q : M → Type 0} → Of 𝓣 Q g → (g ≡ 𝓣.ring.zero) ⊎ ((m : M) × Q m × Leads g m)
    of-lead {Q} o = go (found o)
      where
        beyond : (m e : M) → 𝓞.below m e → IsUpTo 𝓞 e m → ⊥
        beyond m e h (inl k) = below-asym 𝓞 m e h k
        beyond m e h (inr i) = below-ne 𝓞 m e h (sym i)

        unlisted : (e : M) → (Occurs e o → (𝓣.coefficient g e ≡ 𝓚.zero → ⊥) → ⊥) → Dec (𝓣.coefficient g e ≡ 𝓚.zero) → 𝓣.coefficient g e ≡ 𝓚.zero
        unlisted e h (yes z) = z
        unlisted e h (no nz) = absent e o (λ t. h t nz)

        go : Found Q (λ n. Occurs n o) → (g ≡ 𝓣.ring.zero) ⊎ ((m : M) × Q m × Leads g m)
        go (nowhere h) = inl (𝓣.coefficient_ext g 𝓣.ring.zero (λ e. unlisted e (λ t nz. nz (h e t)) (zero_dec _) ∙ sym (coefficient-zero 𝓣 e)))
        go (at_top m q nz up) = inr (m, q, record { nonzero = nz; above = λ e b. unlisted e (λ t n. beyond m e b (up e t n)) (zero_dec _) })

  -- the same of any polynomial
  pub zero_or_lead : ((c : K) → Dec (c ≡ 𝓚.zero)) → (f : P) → ∥ ((f ≡ 𝓣.ring.zero) ⊎ ((m : M) × Leads f m)) ∥₁
  zero_or_lead zero_dec f = ∥∥₁_map (of_any 𝓣 f) (λ o. go (of-lead zero_dec f o))
    where
      go : (f ≡ 𝓣.ring.zero) ⊎ ((m : M) × Unit {0} × Leads f m) → (f ≡ 𝓣.ring.zero) ⊎ ((m : M) × Leads f m)
      go (inl e) = inl e
      go (inr (m, u, l)) = inr (m, l)
