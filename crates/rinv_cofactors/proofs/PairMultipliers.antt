-- The multiplier of a polynomial in the S-polynomial of two, as a polynomial, and its degree.
use Rattle.std.proofs.Common.{◌≡◌, ℕ, Bool, true, false, IsTrue, ◌+◌, ◌-◌, ◌<◌, ◌≤◌, inl, List, [], ◌∷◌, length, get_or, drop, max, refl, sym, ◌∙◌, ap, ap₂, subst, arith}
use Rattle.std.specs.Prelude.{IsFalse}
use Rattle.std.specs.declared.cmp.Ordering.{Ordering}
use Rattle.std.proofs.lemmas.List.{drop_more, drop_all}
use Rattle.std.proofs.lemmas.List.Elements.{All-nil, All-cons}
use Rattle.std.proofs.lemmas.List.Sums.{sum_by-cons}
use Rattle.rinv_algebra.specs.Ring.{RingOps, RingLaws, IsSame}
use Rattle.rinv_algebra.specs.Monomial.{quotient, lcm, total_degree, max_degree}
use Rattle.rinv_algebra.specs.MonomialOrder.{MonoOrderLaws}
use Rattle.rinv_algebra.specs.Polynomial.{Polynomial, poly_ops, is_zero, has_monomial}
use Rattle.rinv_algebra.specs.Normal.{IsNormal}
use Rattle.rinv_algebra.specs.Leading.{leading_monomial, leading_coefficient, multiplier}
use Rattle.rinv_groebner.proofs.LeadingMonomials.{leading_monomial-leads}
use Rattle.rinv_groebner.proofs.MonomialLists.{lcm_left}
use Rattle.rinv_mono.proofs.Pairwise.{length-lcm, length-quotient, sum-quotient}
use Rattle.rinv_ring.specs.Operation.{RingOp}
use Rattle.rinv_poly.specs.Combined.{TermMeets}
use Rattle.rinv_poly.proofs.Forms.{IsOrdered, IsNormalTerm, normal-from_ordered}
use Rattle.rinv_poly.proofs.Gather.{same-refl, same-then, term-same}
use Rattle.rinv_poly.proofs.NormalFacts.{has-term}

-- the degree of the least common multiple by the first, from a place on
abbrev pub beyond : List ℕ → List ℕ → ℕ
beyond a b = total_degree (quotient (lcm a b) a)

pub beyond-le : (a b : List ℕ) → beyond a b ≤ total_degree b
unfolding quotient lcm
beyond-le [] [] = omega arith
beyond-le [] (y ∷ b) = omega arith
beyond-le (x ∷ a) [] = omega (arith, nothing (x ∷ a))
  where
    nothing : (a : List ℕ) → total_degree (quotient a a) ≡ 0
    nothing [] = refl
    nothing (x ∷ a) = omega (arith, sum_by-cons (λ (n : ℕ). n) (x - x) (quotient a a), nothing a)
beyond-le (x ∷ a) (y ∷ b) = omega (arith, sum_by-cons (λ (n : ℕ). n) (max x y - x) (quotient (lcm a b) a), sum_by-cons (λ (n : ℕ). n) y b, beyond-le a b)

pub beyond-drop : (a b : List ℕ) (k : ℕ) → k < length a → k < length b → beyond (drop k a) (drop k b) ≡ (get_or b k 0 - get_or a k 0) + beyond (drop (k + 1) a) (drop (k + 1) b)
unfolding quotient lcm
beyond-drop a b k la lb =
    let x = get_or a k 0 in
    let y = get_or b k 0 in
    let rest = quotient (lcm (drop (k + 1) a) (drop (k + 1) b)) (drop (k + 1) a) in
    let cons : total_degree ((max x y - x) ∷ rest) ≡ (max x y - x) + total_degree rest = sum_by-cons (λ (n : ℕ). n) (max x y - x) rest in
    ap₂ beyond (drop_more a k 0 la) (drop_more b k 0 lb) ∙ cons ∙ ap (λ (n : ℕ). n + total_degree rest) (omega arith)

-- all variables
pub beyond-end : (a b : List ℕ) (k degree : ℕ) → length a ≤ k → length b ≤ k → degree + beyond (drop k a) (drop k b) ≡ beyond a b → degree ≡ beyond a b
unfolding quotient lcm
beyond-end a b k degree past past' e = omega (arith, e, ap₂ beyond (drop_all k a past) (drop_all k b past'))

-- one variable more
module _ (a b own others : List ℕ) (is_own : own ≡ a) (is_others : others ≡ b) (vars : length a ≡ length b) (k degree here : ℕ) (inside : k < length own) (is_here : here ≡ get_or others k 0 - get_or own k 0) (so_far : degree + beyond (drop k a) (drop k b) ≡ beyond a b) where
  pub beyond-next : degree + here + beyond (drop (k + 1) a) (drop (k + 1) b) ≡ beyond a b
  beyond-next =
      let low : k < length a = omega (arith, inside, ap length is_own) in
      let e = beyond-drop a b k low (omega (arith, low, vars)) in
      let is : here ≡ get_or b k 0 - get_or a k 0 = is_here ∙ ap₂ (λ (xs ys : List ℕ). get_or xs k 0 - get_or ys k 0) is_others is_own in
      omega (arith, e, is, so_far)

  pub beyond-bound : degree + here ≤ total_degree b
  beyond-bound = omega (arith, beyond-next, beyond-le a b)

module _ {E : Type 0} (o : RingOps E) (is_element : E → Bool) (v : ℕ) (m : List ℕ) (c : E) (element : IsTrue (is_element c)) (some : o.same c o.zero ≡ false) (vars : length m ≡ v) (low : total_degree m ≤ max_degree) where
  -- a polynomial of one term is in normal form
  one-ordered : IsOrdered o is_element v ((m, c) ∷ [])
  one-ordered = record {
    terms = All-cons (IsNormalTerm o is_element v) (m, c) [] (record { coefficient = element; nonzero = some; vars = vars; low = low }) (All-nil (IsNormalTerm o is_element v));
    descending = λ i j d h k. absurd (omega (arith, h, k));
  }

  one-normal : IsNormal o is_element v ((m, c) ∷ [])
  one-normal = normal-from_ordered o is_element v ((m, c) ∷ []) one-ordered

  -- and has its monomial
  one-has : RingLaws o → has_monomial o ((m, c) ∷ []) m ≡ true
  one-has l = has-term o l is_element v ((m, c) ∷ []) one-ordered (m, c) (0, omega arith, refl)

module _ {E : Type 0} (o : RingOps E) (l : RingLaws o) (cmp : List ℕ → List ℕ → Ordering) (f g : Polynomial E) (a b : List ℕ) (is_a : a ≡ leading_monomial o cmp f) (is_b : b ≡ leading_monomial o cmp g) where
  -- the multiplier, by its monomial and its coefficient
  pub multiplier-value : (m : List ℕ) (c : E) (u : Polynomial E) → m ≡ quotient (lcm a b) a → IsSame o c (leading_coefficient o cmp g) → IsSame (poly_ops o) u ((m, c) ∷ []) → IsSame (poly_ops o) u (multiplier o cmp f g ∷ [])
  multiplier-value m c u is same value =
      let mono : m ≡ (multiplier o cmp f g).0 = is ∙ ap₂ (λ (x y : List ℕ). quotient (lcm x y) x) is_a is_b in
      subst (λ (m : List ℕ). IsSame (poly_ops o) u ((m, leading_coefficient o cmp g) ∷ [])) mono (same-then o l u ((m, c) ∷ []) ((m, leading_coefficient o cmp g) ∷ []) value (term-same o l m c (leading_coefficient o cmp g) same))

  -- where the least common multiple is too high, the product with the polynomial is
  pub multiplier-meets : MonoOrderLaws cmp → (is_element : E → Bool) (high : RingOp → E → E → ℕ → ℕ → Type 0) (v : ℕ) (c : E) → length a ≡ v → length b ≡ v → IsTrue (is_element c) → o.same c o.zero ≡ false → IsSame o c (leading_coefficient o cmp g) → IsFalse (is_zero o f)
      → (n x y : ℕ) → n ≡ total_degree (lcm a b) → max_degree < n → x ≡ beyond a b → x ≤ max_degree → y ≡ total_degree a → TermMeets o is_element high v (multiplier o cmp f g) f x y
  multiplier-meets laws is_element high v c in_a in_b element some same nonzero n x y is_n over is_x low is_y =
      let m = quotient (lcm a b) a in
      let vars : length a ≡ length b = in_a ∙ sym in_b in
      let t : Polynomial E = (m, c) ∷ [] in
      let len : length m ≡ v = length-quotient (lcm a b) a ∙ length-lcm a b vars ∙ in_a in
      let bound : total_degree m ≤ max_degree = omega (arith, is_x, low) in (
        t,
        record {
          normal = one-normal o is_element v m c element some len bound;
          value = multiplier-value m c t refl same (same-refl o l t);
        },
        inl (record {
          left = record { monomial = m; has = one-has o is_element v m c element some len bound l; degree = sym is_x };
          right = record { monomial = leading_monomial o cmp f; has = (leading_monomial-leads o l cmp laws f nonzero).has; degree = ap total_degree (sym is_a) ∙ sym is_y };
          over = let e = sum-quotient (lcm a b) a (length-lcm a b vars) (lcm_left a b) in omega (arith, e, is_n, over, is_x, is_y);
        }),
      )
