-- Sums over terms. A sum of what is additive in the coefficient depends on the coefficients alone: the laws of polynomials, and
-- all maps out of them, rest on it.
--   Terms K M            lists of terms: a monomial and a coefficient
--   total 𝓐 φ p          the sum over the terms of φ of the coefficient and the monomial
--   IsAdditive 𝓚 𝓐 φ     φ is additive in the coefficient
--   pick, coef           the part of a term at a monomial; the coefficient of a list of terms
--   IsSame 𝓚 𝓜 p q       all coefficients are equal
--   total-same           then all sums of what is additive are equal
use Rattle.std.proofs.Common.{◌≡◌, ℕ, zero, suc, ◌≤◌, Bool, true, false, cond, List, [], ◌∷◌, ◌++◌, map, length, refl, sym, ◌∙◌, ap, ap₂, arith, true≢false}
use Rattle.rinv_theory.proofs.CRing.{CRing, add_swap, add_cancel}
use Rattle.rinv_theory.proofs.Monoid.{Monoid}

-- lists of terms
abbrev pub Terms : Type 0 → Type 0 → Type 0
Terms K M = List (M × K)

-- additive in the coefficient
abbrev pub IsAdditive : {K M A : Type 0} → CRing K → CRing A → (K → M → A) → Type 0
IsAdditive {K = K} {M = M} 𝓚 𝓐 φ = (c d : K) (m : M) → φ (𝓚.add c d) m ≡ 𝓐.add (φ c m) (φ d m)

module _ {K M : Type 0} where
  -- the sum of φ over the terms
  abbrev pub total : {A : Type 0} → CRing A → (K → M → A) → Terms K M → A
  total 𝓐 φ [] = 𝓐.zero
  total 𝓐 φ ((m, c) ∷ p) = 𝓐.add (φ c m) (total 𝓐 φ p)

  -- the opposite of each term
  abbrev pub opposite : CRing K → Terms K M → Terms K M
  opposite 𝓚 p = map (λ t. (t.0, 𝓚.neg t.1)) p

  -- the coefficient c of a term whose monomial is e, and else zero
  abbrev pub pick : CRing K → Monoid M → M → K → M → K
  pick 𝓚 𝓜 e c m = cond (𝓜.same m e) c 𝓚.zero

  -- the coefficient at e
  abbrev pub coef : CRing K → Monoid M → Terms K M → M → K
  coef 𝓚 𝓜 p e = total 𝓚 (pick 𝓚 𝓜 e) p

  -- all coefficients are equal
  abbrev pub IsSame : CRing K → Monoid M → Terms K M → Terms K M → Type 0
  IsSame 𝓚 𝓜 p q = (e : M) → coef 𝓚 𝓜 p e ≡ coef 𝓚 𝓜 q e

module _ {K M A : Type 0} (𝓐 : CRing A) where
  -- the sum over two lists
  pub total-append : (φ : K → M → A) (p q : Terms K M) → total 𝓐 φ (p ++ q) ≡ 𝓐.add (total 𝓐 φ p) (total 𝓐 φ q)
  total-append φ [] q = sym (𝓐.zero_add _)
  total-append φ ((m, c) ∷ p) q = ap (𝓐.add (φ c m)) (total-append φ p q) ∙ sym (𝓐.add_assoc _ _ _)

module _ {K M A : Type 0} (𝓚 : CRing K) (𝓐 : CRing A) (φ : K → M → A) (add_φ : IsAdditive 𝓚 𝓐 φ) where
  -- what is additive is zero at zero
  pub additive-zero : (m : M) → φ 𝓚.zero m ≡ 𝓐.zero
  additive-zero m = add_cancel 𝓐 _ _ (φ 𝓚.zero m) (sym (add_φ 𝓚.zero 𝓚.zero m) ∙ ap (λ x. φ x m) (𝓚.zero_add 𝓚.zero) ∙ sym (𝓐.zero_add _))

  -- and keeps opposites
  pub additive-neg : (c : K) (m : M) → φ (𝓚.neg c) m ≡ 𝓐.neg (φ c m)
  additive-neg c m = add_cancel 𝓐 _ _ (φ c m) (sym (add_φ (𝓚.neg c) c m) ∙ ap (λ x. φ x m) (𝓚.neg_add c) ∙ additive-zero m ∙ sym (𝓐.neg_add _))

  total-opposite : (p : Terms K M) → 𝓐.add (total 𝓐 φ (opposite 𝓚 p)) (total 𝓐 φ p) ≡ 𝓐.zero
  total-opposite [] = 𝓐.zero_add _
  total-opposite ((m, c) ∷ p) = add_swap 𝓐 _ _ _ _ ∙ ap₂ 𝓐.add (ap (λ x. 𝓐.add x (φ c m)) (additive-neg c m) ∙ 𝓐.neg_add _) (total-opposite p) ∙ 𝓐.zero_add _

module _ {K M : Type 0} (𝓚 : CRing K) (𝓜 : Monoid M) where
  -- the part of a term at a monomial is additive
  pub pick-additive : (e : M) → IsAdditive 𝓚 𝓚 (pick 𝓚 𝓜 e)
  pick-additive e c d m = go (𝓜.same m e)
    where
      go : (b : Bool) → cond b (𝓚.add c d) 𝓚.zero ≡ 𝓚.add (cond b c 𝓚.zero) (cond b d 𝓚.zero)
      go true = refl
      go false = sym (𝓚.zero_add _)

  -- the terms whose monomial is not m
  abbrev without : M → Terms K M → Terms K M
  without m [] = []
  without m ((n, c) ∷ p) = cond (𝓜.same n m) (without m p) ((n, c) ∷ without m p)

  length-without : (m : M) (p : Terms K M) → length (without m p) ≤ length p
  length-without m [] = omega arith
  length-without m ((n, c) ∷ p) = go (𝓜.same n m) (length-without m p)
    where
      go : (b : Bool) → length (without m p) ≤ length p → length (cond b (without m p) ((n, c) ∷ without m p)) ≤ suc (length p)
      go true h = omega arith
      go false h = omega arith

  module _ {A : Type 0} (𝓐 : CRing A) (φ : K → M → A) (add_φ : IsAdditive 𝓚 𝓐 φ) where
    total-without : (m : M) (p : Terms K M) → total 𝓐 φ p ≡ 𝓐.add (φ (coef 𝓚 𝓜 p m) m) (total 𝓐 φ (without m p))
    total-without m [] = sym (𝓐.zero_add _) ∙ ap (λ x. 𝓐.add x 𝓐.zero) (sym (additive-zero 𝓚 𝓐 φ add_φ m))
    total-without m ((n, c) ∷ p) = go (𝓜.same n m) refl (total-without m p)
      where
        go : (b : Bool) → 𝓜.same n m ≡ b → total 𝓐 φ p ≡ 𝓐.add (φ (coef 𝓚 𝓜 p m) m) (total 𝓐 φ (without m p))
            → 𝓐.add (φ c n) (total 𝓐 φ p) ≡ 𝓐.add (φ (𝓚.add (cond b c 𝓚.zero) (coef 𝓚 𝓜 p m)) m) (total 𝓐 φ (cond b (without m p) ((n, c) ∷ without m p)))
        go true e h = ap₂ 𝓐.add (ap (φ c) (𝓜.same_eq n m e)) h ∙ sym (𝓐.add_assoc _ _ _) ∙ ap (λ x. 𝓐.add x (total 𝓐 φ (without m p))) (sym (add_φ c (coef 𝓚 𝓜 p m) m))
        go false e h = ap (𝓐.add (φ c n)) h ∙ sym (𝓐.add_assoc _ _ _) ∙ ap (λ x. 𝓐.add x (total 𝓐 φ (without m p))) (𝓐.add_comm _ _) ∙ 𝓐.add_assoc _ _ _ ∙ ap (λ x. 𝓐.add (φ x m) (𝓐.add (φ c n) (total 𝓐 φ (without m p)))) (sym (𝓚.zero_add _))

  coef-without : (m e : M) (p : Terms K M) → ((e : M) → coef 𝓚 𝓜 p e ≡ 𝓚.zero) → coef 𝓚 𝓜 (without m p) e ≡ 𝓚.zero
  coef-without m e p h =
      sym (𝓚.zero_add _)
      ∙ ap (λ x. 𝓚.add x (coef 𝓚 𝓜 (without m p) e)) (sym (additive-zero 𝓚 𝓚 (pick 𝓚 𝓜 e) (pick-additive e) m) ∙ ap (λ x. pick 𝓚 𝓜 e x m) (sym (h m)))
      ∙ sym (total-without 𝓚 (pick 𝓚 𝓜 e) (pick-additive e) m p) ∙ h e

  module _ {A : Type 0} (𝓐 : CRing A) (φ : K → M → A) (add_φ : IsAdditive 𝓚 𝓐 φ) where
    total-vanishes : (k : ℕ) (p : Terms K M) → length p ≤ k → ((e : M) → coef 𝓚 𝓜 p e ≡ 𝓚.zero) → total 𝓐 φ p ≡ 𝓐.zero
    total-vanishes k [] h z = refl
    total-vanishes zero ((m, c) ∷ p) h z = absurd (omega arith)
    total-vanishes (suc k) ((m, c) ∷ p) h z =
        total-without 𝓐 φ add_φ m ((m, c) ∷ p)
        ∙ ap₂ 𝓐.add (ap (λ x. φ x m) (z m) ∙ additive-zero 𝓚 𝓐 φ add_φ m) (total-vanishes k (without m ((m, c) ∷ p)) (shorter (𝓜.same m m) (𝓜.same_refl m)) (λ e. coef-without m e ((m, c) ∷ p) z))
        ∙ 𝓐.zero_add _
      where
        shorter : (b : Bool) → b ≡ true → length (cond b (without m p) ((m, c) ∷ without m p)) ≤ k
        shorter true e = let w = length-without m p in omega (arith, w, h)
        shorter false e = absurd (true≢false (sym e))

    -- lists with equal coefficients have equal sums
    pub total-same : (p q : Terms K M) → IsSame 𝓚 𝓜 p q → total 𝓐 φ p ≡ total 𝓐 φ q
    total-same p q s =
        add_cancel 𝓐 _ _ (total 𝓐 φ (opposite 𝓚 q))
        (sym (total-append 𝓐 φ p (opposite 𝓚 q)) ∙ total-vanishes (length (p ++ opposite 𝓚 q)) (p ++ opposite 𝓚 q) (omega arith) z ∙ sym (total-opposite 𝓚 𝓐 φ add_φ q) ∙ 𝓐.add_comm _ _)
      where
        z : (e : M) → coef 𝓚 𝓜 (p ++ opposite 𝓚 q) e ≡ 𝓚.zero
        z e = total-append 𝓚 (pick 𝓚 𝓜 e) p (opposite 𝓚 q) ∙ ap (λ x. 𝓚.add x (coef 𝓚 𝓜 (opposite 𝓚 q) e)) (s e) ∙ 𝓚.add_comm _ _ ∙ total-opposite 𝓚 𝓚 (pick 𝓚 𝓜 e) (pick-additive e) q
