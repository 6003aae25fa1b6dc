-- Sums of multiples of elements, with a property of the greatest monomials of the multiples.
--   Multiples 𝓣 h lead Q f    f is a sum of terms times elements h k, where each term's monomial times lead k has the property Q
--   multiples-add, multiples-times, multiples-neg    sums, products with a term, opposites
--   multiples_one        one multiple of one element
--   multiples-weaken     a weaker property
--   multiples_split      a property that holds throughout, or fails at a place
--   multiples-among      other elements, among which these are
--   multiples-element    an element times a sum of terms
--   in-multiples, multiples-in    members of the ideal of the elements are the sums of multiples
use Rattle.std.proofs.Common.{◌≡◌, ◌⊎◌, [], ◌∷◌, refl, sym, ◌∙◌, ap, subst, inl, inr}
use mathlib.Core.Logic.{∥∥₁_elim, ∥∥₁_prop, ∥∥₁_map}
use Rattle.rinv_theory.proofs.CRing.{CRing, add_zero, mul_zero, zero_mul, add_mul}
use Rattle.rinv_theory.proofs.Solver.{ring, reading}
use Rattle.rinv_theory.proofs.Monoid.{Monoid}
use Rattle.rinv_theory.proofs.TermRing.{TermRing, term-neg}
use Rattle.rinv_theory.proofs.Of.{Of, of_any}
use Rattle.rinv_theory.proofs.Ideals.{In}

-- a sum of terms times elements
pub data Multiples {K M P I : Type 0} {𝓚 : CRing K} {𝓜 : Monoid M} (𝓣 : TermRing 𝓚 𝓜 P) (h : I → P) (lead : I → M) (Q : M → Type 0) : P → Type 0 where
  none : Multiples 𝓣 h lead Q 𝓣.ring.zero
  more : {f : P} (c : K) (t : M) (k : I) → Q (𝓜.mul t (lead k)) → Multiples 𝓣 h lead Q f → Multiples 𝓣 h lead Q (𝓣.ring.add (𝓣.ring.mul (𝓣.term c t) (h k)) f)

module _ {K M P I : Type 0} {𝓚 : CRing K} {𝓜 : Monoid M} (𝓣 : TermRing 𝓚 𝓜 P) (h : I → P) (lead : I → M) where
  open 𝓣.ring use {add as ◌+◌, mul as ◌*◌, neg as -◌, one as 𝟙}

  infixl 60 ◌+◌
  infixl 70 ◌*◌
  infix 80 -◌
  abbrev Sums : (M → Type 0) → P → Type 0
  Sums = Multiples 𝓣 h lead

  -- a sum
  pub multiples-add : {Q : M → Type 0} {f g : P} → Sums Q f → Sums Q g → Sums Q (f + g)
  multiples-add {Q} none s = subst (Sums Q) (sym (𝓣.ring.zero_add _)) s
  multiples-add {Q} (more c t k q r) s = subst (Sums Q) (sym (𝓣.ring.add_assoc _ _ _)) (more c t k q (multiples-add r s))

  -- a weaker property
  pub multiples-weaken : {Q Q' : M → Type 0} → ((n : M) → Q n → Q' n) → {f : P} → Sums Q f → Sums Q' f
  multiples-weaken w none = none
  multiples-weaken w (more c t k q r) = more c t k (w _ q) (multiples-weaken w r)

  times-more : (d c : K) (t n : M) (g f : P) → 𝓣.term (𝓚.mul d c) (𝓜.mul t n) * g + 𝓣.term d t * f ≡ 𝓣.term d t * (𝓣.term c n * g + f)
  times-more d c t n g f = rw (← 𝓣.term_mul) (ring 𝓣.ring (𝓣.term d t ∷ 𝓣.term c n ∷ g ∷ f ∷ []) (search reading depth 30) refl)

  -- a product with a term
  pub multiples-times : {Q Q' : M → Type 0} (d : K) (t : M) → ((n : M) → Q n → Q' (𝓜.mul t n)) → {f : P} → Sums Q f → Sums Q' (𝓣.term d t * f)
  multiples-times {Q' = Q'} d t w none = subst (Sums Q') (sym (mul_zero 𝓣.ring _)) none
  multiples-times {Q' = Q'} d t w (more {f = f} c n k q r) = subst (Sums Q') (times-more d c t n (h k) f) (more (𝓚.mul d c) (𝓜.mul t n) k (subst Q' (sym (𝓜.mul_assoc t n (lead k))) (w _ q)) (multiples-times d t w r))

  -- a product with a constant
  pub multiples-constant : {Q : M → Type 0} (d : K) {f : P} → Sums Q f → Sums Q (𝓣.term d 𝓜.one * f)
  multiples-constant {Q} d = multiples-times d 𝓜.one (λ n q. subst Q (sym (𝓜.one_mul n)) q)

  -- the opposite
  pub multiples-neg : {Q : M → Type 0} {f : P} → Sums Q f → Sums Q (- f)
  multiples-neg {Q} {f} r = subst (Sums Q) (ap (λ x. x * f) (term-neg 𝓣 𝓚.one 𝓜.one ∙ ap -◌ 𝓣.term_one) ∙ minus_one f) (multiples-constant (𝓚.neg 𝓚.one) r)
    where
      minus_one : (x : P) → - 𝟙 * x ≡ - x
      minus_one x = ring 𝓣.ring (x ∷ []) (search reading depth 30) refl

  -- one multiple
  pub multiples_one : {Q : M → Type 0} (c : K) (t : M) (k : I) → Q (𝓜.mul t (lead k)) → Sums Q (𝓣.term c t * h k)
  multiples_one {Q} c t k q = subst (Sums Q) (add_zero 𝓣.ring _) (more c t k q none)

  -- a property that holds throughout, or fails at a place
  pub multiples_split : {Q Q' : M → Type 0} {S : Type 0} → ((t : M) (k : I) → Q (𝓜.mul t (lead k)) → Q' (𝓜.mul t (lead k)) ⊎ S) → {f : P} → Sums Q f → Sums Q' f ⊎ S
  multiples_split d none = inl none
  multiples_split {Q} {Q'} {S} d (more {f = f} c t k q r) = go (d t k q) (multiples_split d r)
    where
      go : Q' (𝓜.mul t (lead k)) ⊎ S → Sums Q' f ⊎ S → Sums Q' (𝓣.term c t * h k + f) ⊎ S
      go (inl p) (inl r) = inl (more c t k p r)
      go (inl p) (inr s) = inr s
      go (inr s) u = inr s

  -- a sum of terms times an element
  pub multiples-element : {Q Q' : M → Type 0} (k : I) → ((n : M) → Q n → Q' (𝓜.mul n (lead k))) → {f : P} → Of 𝓣 Q f → Sums Q' (f * h k)
  multiples-element {Q' = Q'} k w Of.none = subst (Sums Q') (sym (zero_mul 𝓣.ring (h k))) none
  multiples-element {Q' = Q'} k w (Of.more c n q r) = subst (Sums Q') (sym (add_mul 𝓣.ring _ _ _)) (more c n k (w n q) (multiples-element k w r))

  -- other elements, among which these are
  pub multiples-among : {J : Type 0} (h' : J → P) (lead' : J → M) (at : I → J) → ((k : I) → h k ≡ h' (at k)) → ((k : I) → lead k ≡ lead' (at k)) → {Q : M → Type 0} {f : P} → Sums Q f → Multiples 𝓣 h' lead' Q f
  multiples-among h' lead' at e e' none = none
  multiples-among h' lead' at e e' {Q} (more {f = f} c t k q r) =
      subst (λ x. Multiples 𝓣 h' lead' Q (𝓣.term c t * x + f)) (sym (e k)) (more c t (at k) (subst (λ x. Q (𝓜.mul t x)) (e' k) q) (multiples-among h' lead' at e e' r))

  -- a sum of multiples, whatever their monomials
  abbrev pub AnyMultiples : P → Type 0
  AnyMultiples = Sums (λ n. Unit {0})

  -- a member of the ideal of the elements is one
  pub in-multiples : {f : P} → In 𝓣.ring h f → ∥ AnyMultiples f ∥₁
  in-multiples In.none = ∣ none ∣₁
  in-multiples (In.more {f = f} u k r) = ∥∥₁_elim (of_any 𝓣 u) ∥∥₁_prop (λ o. ∥∥₁_map (in-multiples r) (λ s. multiples-add (multiples-element {Q = λ n. Unit {0}} {Q' = λ n. Unit {0}} k (λ n q. tt) o) s))

  -- and the other way round
  pub multiples-in : {Q : M → Type 0} {f : P} → Sums Q f → In 𝓣.ring h f
  multiples-in none = In.none
  multiples-in (more c t k q r) = In.more (𝓣.term c t) k (multiples-in r)
