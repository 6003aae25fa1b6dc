-- Polynomials whose monomials have a property: "up to m", "free of the first block", "divided by no leading monomial" are choices.
--   Of 𝓣 Q f             f is a sum of terms whose monomials have the property Q
--   of-add, of-neg, of-times, of-term    sums, opposites, products with a term, one term
--   of-weaken            a weaker property
--   of_any               each polynomial is a sum of terms
--   of-coefficient       the coefficient at a monomial without the property is zero
--   of_where             where all coefficients beyond a test are zero, the monomials pass the test
use Rattle.std.proofs.Common.{◌≡◌, Bool, true, false, cond, [], ◌∷◌, refl, sym, ◌∙◌, ap, ap₂, subst}
use mathlib.Core.Logic.{∥∥₁_map}
use Rattle.rinv_theory.proofs.CRing.{CRing, mul_zero, add_zero}
use Rattle.rinv_theory.proofs.Solver.{ring, reading}
use Rattle.rinv_theory.proofs.Monoid.{Monoid}
use Rattle.rinv_theory.proofs.TermSums.{Terms}
use Rattle.rinv_theory.proofs.TermRing.{TermRing, spell, coefficient-zero}

-- a sum of terms whose monomials have the property Q
pub data Of {K M P : Type 0} {𝓚 : CRing K} {𝓜 : Monoid M} (𝓣 : TermRing 𝓚 𝓜 P) (Q : M → Type 0) : P → Type 0 where
  none : Of 𝓣 Q 𝓣.ring.zero
  more : {f : P} (c : K) (n : M) → Q n → Of 𝓣 Q f → Of 𝓣 Q (𝓣.ring.add (𝓣.term c n) f)

module _ {K M P : Type 0} {𝓚 : CRing K} {𝓜 : Monoid M} (𝓣 : TermRing 𝓚 𝓜 P) where
  -- a sum
  pub of-add : {Q : M → Type 0} {f g : P} → Of 𝓣 Q f → Of 𝓣 Q g → Of 𝓣 Q (𝓣.ring.add f g)
  of-add {Q} none s = subst (Of 𝓣 Q) (sym (𝓣.ring.zero_add _)) s
  of-add {Q} (more c n q r) s = subst (Of 𝓣 Q) (sym (𝓣.ring.add_assoc _ _ _)) (more c n q (of-add r s))

  -- a weaker property
  pub of-weaken : {Q Q' : M → Type 0} → ((n : M) → Q n → Q' n) → {f : P} → Of 𝓣 Q f → Of 𝓣 Q' f
  of-weaken w none = none
  of-weaken w (more c n q r) = more c n (w n q) (of-weaken w r)

  -- one term
  pub of-term : {Q : M → Type 0} (c : K) (n : M) → Q n → Of 𝓣 Q (𝓣.term c n)
  of-term {Q} c n q = subst (Of 𝓣 Q) (add_zero 𝓣.ring _) (more c n q none)

  times-more : (d c : K) (t n : M) (f : P) → 𝓣.ring.add (𝓣.term (𝓚.mul d c) (𝓜.mul t n)) (𝓣.ring.mul (𝓣.term d t) f) ≡ 𝓣.ring.mul (𝓣.term d t) (𝓣.ring.add (𝓣.term c n) f)
  times-more d c t n f = rw 𝓣.ring.mul_add (rw 𝓣.term_mul refl)

  -- a product with a term
  pub of-times : {Q Q' : M → Type 0} (d : K) (t : M) → ((n : M) → Q n → Q' (𝓜.mul t n)) → {f : P} → Of 𝓣 Q f → Of 𝓣 Q' (𝓣.ring.mul (𝓣.term d t) f)
  of-times {Q' = Q'} d t w none = subst (Of 𝓣 Q') (sym (mul_zero 𝓣.ring _)) none
  of-times {Q' = Q'} d t w (more {f = f} c n q r) = subst (Of 𝓣 Q') (times-more d c t n f) (more (𝓚.mul d c) (𝓜.mul t n) (w n q) (of-times d t w r))

  of_list : (p : Terms K M) → Of 𝓣 (λ n. Unit {0}) (spell 𝓣 p)
  of_list [] = none
  of_list ((m, c) ∷ p) = more c m tt (of_list p)

  -- each polynomial is a sum of terms
  pub of_any : (f : P) → ∥ Of 𝓣 (λ n. Unit {0}) f ∥₁
  of_any f = ∥∥₁_map (𝓣.spelled f) (λ s. subst (Of 𝓣 (λ n. Unit {0})) s.1 (of_list s.0))

  -- the coefficient at a monomial without the property
  pub of-coefficient : {Q : M → Type 0} (e : M) → ((n : M) → Q n → n ≡ e → ⊥) → {f : P} → Of 𝓣 Q f → 𝓣.coefficient f e ≡ 𝓚.zero
  of-coefficient e w none = coefficient-zero 𝓣 e
  of-coefficient e w (more {f = f} c n q r) = 𝓣.coefficient_add _ _ e ∙ ap₂ 𝓚.add (𝓣.coefficient_term c n e ∙ go (𝓜.same n e) refl) (of-coefficient e w r) ∙ 𝓚.zero_add _
    where
      go : (b : Bool) → 𝓜.same n e ≡ b → cond b c 𝓚.zero ≡ 𝓚.zero
      go true i = absurd (w n q (𝓜.same_eq n e i))
      go false i = refl

  module _ (Q : M → Type 0) (test : M → Bool) where
    -- the terms that pass a test, and the others
    record Parted (f : P) : Type 0 where
      pub passing : P
      pub failing : P
      pub whole : f ≡ 𝓣.ring.add passing failing
      pub pass : Of 𝓣 (λ n. Q n × (test n ≡ true)) passing
      pub fail : Of 𝓣 (λ n. test n ≡ false) failing

    parted : {f : P} → Of 𝓣 Q f → Parted f
    parted none = record { passing = 𝓣.ring.zero; failing = 𝓣.ring.zero; whole = sym (𝓣.ring.zero_add _); pass = none; fail = none }
    parted (more {f = f} c n q r) = go (test n) refl (parted r)
      where
        behind : (x y z : P) → 𝓣.ring.add x (𝓣.ring.add y z) ≡ 𝓣.ring.add y (𝓣.ring.add x z)
        behind x y z = ring 𝓣.ring (x ∷ y ∷ z ∷ []) (search reading depth 30) refl

        go : (b : Bool) → test n ≡ b → Parted f → Parted (𝓣.ring.add (𝓣.term c n) f)
        go true e s = record { passing = 𝓣.ring.add (𝓣.term c n) s.passing; failing = s.failing; whole = ap (𝓣.ring.add (𝓣.term c n)) s.whole ∙ sym (𝓣.ring.add_assoc _ _ _); pass = more c n (q, e) s.pass; fail = s.fail }
        go false e s = record { passing = s.passing; failing = 𝓣.ring.add (𝓣.term c n) s.failing; whole = ap (𝓣.ring.add (𝓣.term c n)) s.whole ∙ behind _ _ _; pass = s.pass; fail = more c n e s.fail }

  module _ {Q : M → Type 0} (test : M → Bool) where
    -- where all coefficients beyond a test are zero, the monomials pass it
    pub of_where : {f : P} → Of 𝓣 Q f → ((e : M) → test e ≡ false → 𝓣.coefficient f e ≡ 𝓚.zero) → Of 𝓣 (λ n. Q n × (test n ≡ true)) f
    of_where {f} o h = go (parted Q test o)
      where
        both : (n e : M) → n ≡ e → test n ≡ true → test e ≡ false → ⊥
        both n e i t u = let v : test n ≡ test e = ap test i in cc (t, u, v)

        empty : (s : Parted Q test f) (e : M) (b : Bool) → test e ≡ b → 𝓣.coefficient s.failing e ≡ 𝓚.zero
        empty s e true t = of-coefficient {Q = λ n. test n ≡ false} e (λ n u i. both e n (sym i) t u) s.fail
        empty s e false u =
            sym (𝓚.zero_add _) ∙ ap (λ x. 𝓚.add x (𝓣.coefficient s.failing e)) (sym (of-coefficient {Q = λ n. Q n × (test n ≡ true)} e (λ n t i. both n e i t.1 u) s.pass))
            ∙ sym (𝓣.coefficient_add _ _ e) ∙ ap (λ x. 𝓣.coefficient x e) (sym s.whole) ∙ h e u

        go : Parted Q test f → Of 𝓣 (λ n. Q n × (test n ≡ true)) f
        go s = subst (Of 𝓣 (λ n. Q n × (test n ≡ true))) (sym (add_zero 𝓣.ring _) ∙ ap (𝓣.ring.add s.passing) (sym (𝓣.coefficient_ext s.failing 𝓣.ring.zero (λ e. empty s e (test e) refl ∙ sym (coefficient-zero 𝓣 e)))) ∙ sym s.whole) s.pass
