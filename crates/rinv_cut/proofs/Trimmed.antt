-- A sum of terms in the first v variables, written in these alone.
--   trimmed              its terms in the first v variables, with v exponents at most
--   trimmed-in, trimmed-same    it is written in these variables, and is the same where all terms cancel that are in others
use Rattle.std.proofs.Common.{◌≡◌, ℕ, Bool, true, false, not, cond, List, [], ◌∷◌, length, length-take, take, refl, sym, ◌∙◌, ap, subst, arith, IsTrue, true≢false}
use Rattle.std.specs.Prelude.{nat_le}
use Rattle.std.proofs.lemmas.Bool.Decides.{nat_tests}
use Rattle.rinv_algebra.specs.Ring.{RingOps, RingLaws, IsSame}
use Rattle.rinv_algebra.specs.Monomial.{same_monomial}
use Rattle.rinv_algebra.specs.Normal.{is_in_variables}
use Rattle.rinv_algebra.specs.Polynomial.{Polynomial, Term, poly_ops, coefficient}
use Rattle.rinv_algebra.proofs.MonomialLaws.{same_monomial_sym, same_monomial-left}
use Rattle.rinv_algebra.proofs.Same.{and_true, IsAbsent, coefficient-absent, same-from_coefficients}
use Rattle.rinv_theory.proofs.Monoid.{monomial, monomial_sound, monomial_exact}
use Rattle.rinv_theory.proofs.Places.{front-list}
use Rattle.rinv_theory.proofs.Variables.{IsFront}
use Rattle.rinv_groebner.proofs.Compared.{InFirst, has_front}

module _ {E : Type 0} (o : RingOps E) (l : RingLaws o) (v : ℕ) where
  -- whether a monomial is one in the first v variables
  is_front : List ℕ → Bool
  is_front m = same_monomial m (take v m)

  front-from : (m : List ℕ) → IsFront v (monomial m) → is_front m ≡ true
  unfolding is_front
  front-from m e = monomial_exact m (take v m) (sym e ∙ front-list v m)

  front-to : (m : List ℕ) → is_front m ≡ true → IsFront v (monomial m)
  unfolding is_front
  front-to m e = front-list v m ∙ sym (monomial_sound m (take v m) e)

  -- which does not depend on how it is written
  front-one : (a b : List ℕ) → same_monomial a b ≡ true → is_front a ≡ true → is_front b ≡ true
  front-one a b s e = front-from b (subst (IsFront v) (monomial_sound a b s) (front-to a e))

  with_term : Bool → Term E → Polynomial E → Polynomial E
  with_term b t f = cond b ((take v t.0, t.1) ∷ f) f

  pub trimmed : Polynomial E → Polynomial E
  trimmed [] = []
  trimmed (t ∷ f) = with_term (is_front t.0) t (trimmed f)

  short : (a : List ℕ) → nat_le (length (take v a)) v ≡ true
  short a = let e = length-take v a in grind (arith, nat_tests, e)

  pub trimmed-in : (f : Polynomial E) → IsTrue (is_in_variables v (trimmed f))
  unfolding trimmed with_term
  trimmed-in [] = refl
  trimmed-in (t ∷ f) = go (is_front t.0) (trimmed-in f)
    where
      go : (b : Bool) → IsTrue (is_in_variables v (trimmed f)) → IsTrue (is_in_variables v (with_term b t (trimmed f)))
      go true rest = and_true (nat_le (length (take v t.0)) v) (is_in_variables v (trimmed f)) (short t.0) rest
      go false rest = rest

  -- at a monomial in these variables
  at_front : (f : Polynomial E) (e : List ℕ) → is_front e ≡ true → coefficient o (trimmed f) e ≡ coefficient o f e
  unfolding trimmed with_term is_front coefficient
  at_front [] e q = refl
  at_front (t ∷ f) e q = go (is_front t.0) refl (at_front f e q)
    where
      taken : E → Bool → E
      taken x b = cond b (o.add t.1 x) x

      apart : is_front t.0 ≡ false → (b : Bool) → same_monomial t.0 e ≡ b → coefficient o (trimmed f) e ≡ coefficient o f e → coefficient o (trimmed f) e ≡ taken (coefficient o f e) b
      apart off true s rest = absurd (true≢false (sym (front-one e t.0 (same_monomial_sym t.0 e s) q) ∙ off))
      apart off false s rest = rest

      go : (b : Bool) → is_front t.0 ≡ b → coefficient o (trimmed f) e ≡ coefficient o f e → coefficient o (with_term b t (trimmed f)) e ≡ taken (coefficient o f e) (same_monomial t.0 e)
      go true on rest = ap (λ (x : E). taken x (same_monomial (take v t.0) e)) rest ∙ ap (taken (coefficient o f e)) (sym (same_monomial-left t.0 (take v t.0) e on))
      go false off rest = apart off (same_monomial t.0 e) refl rest

  -- and at another
  absent_off : (f : Polynomial E) (e : List ℕ) → is_front e ≡ false → IsAbsent e (trimmed f)
  unfolding trimmed with_term is_front
  absent_off [] e off = tt
  absent_off (t ∷ f) e off = go (is_front t.0) refl (absent_off f e off)
    where
      differ : is_front t.0 ≡ true → (b : Bool) → same_monomial (take v t.0) e ≡ b → b ≡ false
      differ on false s = refl
      differ on true s = absurd (true≢false (sym (front-one t.0 e (same_monomial-left t.0 (take v t.0) e on ∙ s) on) ∙ off))

      go : (b : Bool) → is_front t.0 ≡ b → IsAbsent e (trimmed f) → IsAbsent e (with_term b t (trimmed f))
      go true on rest = (differ on (same_monomial (take v t.0) e) refl, rest)
      go false on rest = rest

  module _ (f : Polynomial E) (first : InFirst o l v f) where
    vanishes : (e : List ℕ) → is_front e ≡ false → IsSame o (coefficient o f e) o.zero
    vanishes e off = go (o.same (coefficient o f e) o.zero) refl
      where
        go : (b : Bool) → o.same (coefficient o f e) o.zero ≡ b → b ≡ true
        go true s = refl
        go false s = absurd (true≢false (sym (front-from e (has_front o l v f first e (ap not s))) ∙ off))

    pub trimmed-same : IsSame (poly_ops o) (trimmed f) f
    trimmed-same = same-from_coefficients o (trimmed f) f (λ e. at e (is_front e) refl)
      where
        at : (e : List ℕ) (b : Bool) → is_front e ≡ b → IsSame o (coefficient o (trimmed f) e) (coefficient o f e)
        at e true on = subst (λ (x : E). IsSame o x (coefficient o f e)) (sym (at_front f e on)) (l.same_refl (coefficient o f e))
        at e false off = subst (λ (x : E). IsSame o x (coefficient o f e)) (sym (coefficient-absent o e (trimmed f) (absent_off f e off))) (l.same_sym (coefficient o f e) o.zero (vanishes e off))
