-- Polynomials in the variables past the first k: zero, leading monomials and S-polynomials.
--   is_zero-past         one is zero where the polynomial is
--   leading_monomial-past    its leading monomial has k zeros before that of the polynomial
--   s_polynomial-past    the S-polynomial of two is that of the polynomials, in these variables
use Rattle.std.proofs.Common.{◌≡◌, ℕ, Bool, true, false, not, cond, List, [], ◌∷◌, ◌++◌, map, filter, replicate, refl, sym, ◌∙◌, ap, ap₂}
use Rattle.std.specs.Prelude.{◌&&◌, IsFalse, fold, unwrap_or, if◌then◌else◌}
use Rattle.std.specs.List.{list_all, reduce}
use Rattle.std.specs.Ordering.{is_lt}
use Rattle.std.proofs.lemmas.List.{map-append}
use Rattle.rinv_algebra.specs.Ring.{RingOps, RingLaws}
use Rattle.rinv_algebra.specs.Monomial.{quotient, lcm}
use Rattle.rinv_algebra.specs.Order.{grevlex}
use Rattle.rinv_algebra.specs.Polynomial.{Polynomial, coefficient, has_monomial, monomials, is_zero, same, term_product, opposite, difference, past}
use Rattle.rinv_algebra.specs.Leading.{leading_monomial, multiplier, s_polynomial}
use Rattle.rinv_groebner.proofs.Ascending.{Has}
use Rattle.rinv_groebner.proofs.LeadingMonomials.{some_monomial}
use Rattle.rinv_groebner.proofs.PastMonomials.{same_monomial-past, product-past, quotient-past, lcm-past, grevlex-past}

module _ {E : Type 0} (o : RingOps E) (k : ℕ) where
  abbrev later : List ℕ → List ℕ
  later a = replicate k 0 ++ a

  coefficient-past : (f : Polynomial E) (e : List ℕ) → coefficient o (past k f) (later e) ≡ coefficient o f e
  unfolding coefficient
  coefficient-past [] e = refl
  coefficient-past ((m, c) ∷ f) e = ap₂ (λ (b : Bool) (x : E). if b then o.add c x else x) (same_monomial-past k m e) (coefficient-past f e)

  all_zero-past : (f g : Polynomial E) → list_all (λ t. o.same (coefficient o (past k f) t.0) o.zero) (past k g ++ []) ≡ list_all (λ t. o.same (coefficient o f t.0) o.zero) (g ++ [])
  all_zero-past f [] = refl
  all_zero-past f ((m, c) ∷ g) = ap₂ ◌&&◌ (ap (λ (x : E). o.same x o.zero) (coefficient-past f m)) (all_zero-past f g)

  -- one is zero where the polynomial is
  pub is_zero-past : (f : Polynomial E) → is_zero o (past k f) ≡ is_zero o f
  unfolding same coefficient
  is_zero-past f = all_zero-past f f

  monomials-past : (f g : Polynomial E) → filter (has_monomial o (past k f)) (map (λ t. t.0) (past k g)) ≡ map later (filter (has_monomial o f) (map (λ t. t.0) g))
  monomials-past f [] = refl
  monomials-past f ((m, c) ∷ g) =
      ap₂ (λ (b : Bool) (ms : List (List ℕ)). cond b (later m ∷ ms) ms) (ap (λ (x : E). not (o.same x o.zero)) (coefficient-past f m)) (monomials-past f g)
      ∙ go (has_monomial o f m) (filter (has_monomial o f) (map (λ t. t.0) g))
    where
      go : (b : Bool) (ms : List (List ℕ)) → cond b (later m ∷ map later ms) (map later ms) ≡ map later (cond b (m ∷ ms) ms)
      go true ms = refl
      go false ms = refl

  abbrev greater : List ℕ → List ℕ → List ℕ
  greater a b = if is_lt (grevlex a b) then b else a

  greater-past : (a b : List ℕ) → greater (later a) (later b) ≡ later (greater a b)
  greater-past a b = ap (λ (c : Bool). if c then later b else later a) (ap is_lt (grevlex-past k a b)) ∙ go (is_lt (grevlex a b))
    where
      go : (c : Bool) → (if c then later b else later a) ≡ later (if c then b else a)
      go true = refl
      go false = refl

  greatest-past : (a : List ℕ) (ms : List (List ℕ)) → fold greater (later a) (map later ms) ≡ later (fold greater a ms)
  greatest-past a [] = refl
  greatest-past a (b ∷ ms) = ap (λ (c : List ℕ). fold greater c (map later ms)) (greater-past a b) ∙ greatest-past (greater a b) ms

  -- its leading monomial has k zeros before that of the polynomial
  pub leading_monomial-past : RingLaws o → (f : Polynomial E) → IsFalse (is_zero o f) → leading_monomial o grevlex (past k f) ≡ later (leading_monomial o grevlex f)
  unfolding leading_monomial
  leading_monomial-past l f n =
      let (a, m) = some_monomial o l f n in
      ap (λ (ms : List (List ℕ)). unwrap_or (reduce greater ms) []) (monomials-past f f) ∙ go (monomials o f) m
    where
      go : {a : List ℕ} (ms : List (List ℕ)) → Has a ms → unwrap_or (reduce greater (map later ms)) [] ≡ later (unwrap_or (reduce greater ms) [])
      go [] m = elim m [ ]
      go (b ∷ ms) m = greatest-past b ms

  term_product-past : (a : List ℕ) (c : E) (f : Polynomial E) → term_product o (later a, c) (past k f) ≡ past k (term_product o (a, c) f)
  term_product-past a c [] = refl
  term_product-past a c ((m, d) ∷ f) = ap₂ (λ (e : List ℕ) (g : Polynomial E). (e, o.mul c d) ∷ g) (product-past k a m) (term_product-past a c f)

  opposite-past : (f : Polynomial E) → opposite o (past k f) ≡ past k (opposite o f)
  opposite-past [] = refl
  opposite-past ((m, c) ∷ f) = ap (λ (g : Polynomial E). (later m, o.neg c) ∷ g) (opposite-past f)

  difference-past : (f g : Polynomial E) → difference o (past k f) (past k g) ≡ past k (difference o f g)
  difference-past f g = ap (λ (h : Polynomial E). past k f ++ h) (opposite-past g) ∙ sym (map-append (λ t. (later t.0, t.1)) f (opposite o g))

  -- the S-polynomial of two is that of the polynomials, in these variables
  pub s_polynomial-past : RingLaws o → (f g : Polynomial E) → IsFalse (is_zero o f) → IsFalse (is_zero o g) → s_polynomial o grevlex (past k f) (past k g) ≡ past k (s_polynomial o grevlex f g)
  unfolding s_polynomial
  s_polynomial-past l f g n n' = ap₂ (difference o) (multiple f g n n') (multiple g f n' n) ∙ difference-past _ _
    where
      multiplier-past : (f g : Polynomial E) → IsFalse (is_zero o f) → IsFalse (is_zero o g) → multiplier o grevlex (past k f) (past k g) ≡ (later (multiplier o grevlex f g).0, (multiplier o grevlex f g).1)
      multiplier-past f g n n' = ap₂ (λ (a : List ℕ) (c : E). (a, c))
          (ap₂ (λ (a b : List ℕ). quotient (lcm a b) a) (leading_monomial-past l f n) (leading_monomial-past l g n')
          ∙ ap (λ (m : List ℕ). quotient m (later (leading_monomial o grevlex f))) (lcm-past k (leading_monomial o grevlex f) (leading_monomial o grevlex g)) ∙ quotient-past k _ _)
          (ap (coefficient o (past k g)) (leading_monomial-past l g n') ∙ coefficient-past g (leading_monomial o grevlex g))

      multiple : (f g : Polynomial E) → IsFalse (is_zero o f) → IsFalse (is_zero o g) → term_product o (multiplier o grevlex (past k f) (past k g)) (past k f) ≡ past k (term_product o (multiplier o grevlex f g) f)
      multiple f g n n' = ap (λ t. term_product o t (past k f)) (multiplier-past f g n n') ∙ term_product-past _ _ f
