-- Tests of the leading monomials of a basis.
--   none-more, none-stop, none-end           the exponents of the first variables
--   monomial-at, free-end, free-stop         the monomials of a polynomial as it is stored
--   divides-step, divides-end                one exponent after another
--   any-next, any-found, any-end             one relation after another
--   covered, uncovered, bound                whether an element is covered
use Rattle.std.proofs.Common.{◌≡◌, ℕ, zero, suc, ◌+◌, ◌-◌, ◌<◌, ◌≤◌, Bool, true, false, ◌&&◌, ◌||◌, ◌==◌, List, [], ◌∷◌, length, map, get_or, take, drop, refl, sym, ap, ◌∙◌, arith, nat_lt, IsTrue, add-one}
use Rattle.std.specs.Prelude.{nat_le}
use Rattle.std.specs.List.{list_any}
use Rattle.std.proofs.lemmas.Bool.Decides.{nat_tests}
use Rattle.std.proofs.lemmas.List.{drop_all, take_more, get_or-take, get_or-drop, length-drop, length-take-le}
use Rattle.std.proofs.lemmas.List.Sums.{sum_by-append, sum_by-cons}
use Rattle.rinv_algebra.specs.Residue.{residue_ops}
use Rattle.rinv_algebra.specs.Monomial.{total_degree, divides}
use Rattle.rinv_algebra.specs.Polynomial.{Term, monomials}
use Rattle.rinv_algebra.proofs.ResidueLaws.{residue_laws}
use Rattle.rinv_poly.proofs.Forms.{ordered-from_normal}
use Rattle.rinv_poly.proofs.NormalFacts.{monomials-ordered}
use Rattle.rinv_defs.specs.System.{Poly}
use Rattle.rinv_defs.proofs.PartCounts.{length-map}
use Rattle.rinv_form.specs.Forms.{is_stored}
use Rattle.rinv_basis_check.proofs.Combinations.{drop-at}

-- ---- the exponents of the first variables

-- an exponent is at most the degree
at-most : (m : List ℕ) (k : ℕ) → get_or m k 0 ≤ total_degree m
at-most [] k = omega arith
at-most (x ∷ m) zero = let e = sum_by-cons (λ (y : ℕ). y) x m in omega (arith, e)
at-most (x ∷ m) (suc k) = let e = sum_by-cons (λ (y : ℕ). y) x m in let h = at-most m k in omega (arith, e, h)

pub none-more : (m : List ℕ) (k : ℕ) → k < length m → get_or m k 0 ≡ 0 → total_degree (take k m) ≡ 0 → total_degree (take (k + 1) m) ≡ 0
none-more m k few e so_far =
    let last = sum_by-cons (λ (y : ℕ). y) (get_or m k 0) [] in
    let whole = sum_by-append (λ (y : ℕ). y) (take k m) (get_or m k 0 ∷ []) in
    rw (take_more m k 0 few) (omega (arith, whole, last, e, so_far))

pub none-stop : (m : List ℕ) (k count : ℕ) (x : ℕ) → k < count → x ≡ get_or m k 0 → (x == 0) ≡ false → false ≡ (total_degree (take count m) == 0)
none-stop m k count x few at off =
    let h = at-most (take count m) k in
    let e : get_or (take count m) k 0 ≡ get_or m k 0 = get_or-take count m k 0 few in
    let n : 0 < x = grind (arith, nat_tests, off) in
    let some : 0 < total_degree (take count m) = omega (arith, h, e, at, n) in
    grind (arith, nat_tests, some)

pub none-end : (m : List ℕ) (k count : ℕ) → k ≡ count → total_degree (take k m) ≡ 0 → true ≡ (total_degree (take count m) == 0)
none-end m k count e h = sym (ap (λ (n : ℕ). total_degree (take n m) == 0) (sym e) ∙ ap (λ (n : ℕ). n == 0) h)

-- ---- the monomials of a polynomial as it is stored

pub monomials-are : (p v : ℕ) (f : Poly) → IsTrue (is_stored p v f) → monomials (residue_ops p) f ≡ map (λ t. t.0) f
monomials-are p v f stored = monomials-ordered (residue_ops p) (residue_laws p) (λ c. nat_lt c p) v f (ordered-from_normal (residue_ops p) (λ c. nat_lt c p) v f stored)

-- a term's monomial stands in its place
pub monomial-at : (f : Poly) (k : ℕ) (d : Term ℕ) → k < length f → drop k (map (λ t. t.0) f) ≡ (get_or f k d).0 ∷ drop (k + 1) (map (λ t. t.0) f)
monomial-at f k d few = rw (add-one) (step f k few)
  where
    step : (f : Poly) (k : ℕ) → k < length f → drop k (map (λ t. t.0) f) ≡ (get_or f k d).0 ∷ drop (suc k) (map (λ t. t.0) f)
    step [] k few = absurd (omega (arith, few))
    step (t ∷ f) zero few = refl
    step (t ∷ f) (suc k) few = step f k (omega (arith, few))

pub monomials-past : (f : Poly) (k : ℕ) → length f ≤ k → length (map (λ t. t.0) f) ≤ k
monomials-past f k h = rw (length-map (λ (t : Term ℕ). t.0) f) h

-- ---- one exponent after another

pub divides-step : (a b : List ℕ) (k x y : ℕ) → k < length a → k < length b → x ≡ get_or a k 0 → y ≡ get_or b k 0 → divides (drop k a) (drop k b) ≡ (nat_le x y && divides (drop (k + 1) a) (drop (k + 1) b))
unfolding divides
divides-step a b k x y few many at at' = rw (add-one) (step a b k few many at at')
  where
    step : (a b : List ℕ) (k : ℕ) → k < length a → k < length b → x ≡ get_or a k 0 → y ≡ get_or b k 0 → divides (drop k a) (drop k b) ≡ (nat_le x y && divides (drop (suc k) a) (drop (suc k) b))
    step [] b k few many at at' = absurd (omega (arith, few))
    step (z ∷ a) [] k few many at at' = absurd (omega (arith, many))
    step (z ∷ a) (w ∷ b) zero few many at at' = rw (at, at') refl
    step (z ∷ a) (w ∷ b) (suc k) few many at at' = step a b k (omega (arith, few)) (omega (arith, many)) at at'

pub divides-end : (a b : List ℕ) (k : ℕ) → length a ≤ k → divides (drop k a) b ≡ true
unfolding divides
divides-end a b k past = rw (drop_all k a past) refl

-- ---- one relation after another

module _ {A : Type 0} (test : A → Bool) (xs : List A) (k : ℕ) where
  pub any-next : (x : A) → k < length xs → x ≡ get_or xs k x → test x ≡ false → list_any test (drop k xs) ≡ list_any test xs → list_any test (drop (k + 1) xs) ≡ list_any test xs
  any-next x few at off h = sym (ap (λ (b : Bool). b || list_any test (drop (k + 1) xs)) off) ∙ sym (ap (list_any test) (drop-at xs k x few at)) ∙ h

  pub any-found : (x : A) → k < length xs → x ≡ get_or xs k x → test x ≡ true → list_any test (drop k xs) ≡ list_any test xs → true ≡ list_any test xs
  any-found x few at on h = sym (ap (λ (b : Bool). b || list_any test (drop (k + 1) xs)) on) ∙ sym (ap (list_any test) (drop-at xs k x few at)) ∙ h

  pub any-end : length xs ≤ k → list_any test (drop k xs) ≡ list_any test xs → false ≡ list_any test xs
  any-end past h = sym (ap (list_any test) (drop_all k xs past)) ∙ h

-- ---- the exponents of Z

module _ (es m : List ℕ) (g k : ℕ) where
  z-step : (x : ℕ) → g + length es ≤ length m → k < length es → x ≡ get_or m (g + k) 0
      → divides (drop k es) (drop k (take (length es) (drop g m))) ≡ (nat_le (get_or es k 0) x && divides (drop (k + 1) es) (drop (k + 1) (take (length es) (drop g m))))
  z-step x long few at =
      let rest : length (drop g m) ≡ length m - g = length-drop g m in
      let whole : length (take (length es) (drop g m)) ≡ length es = length-take-le (length es) (drop g m) (omega (arith, rest, long)) in
      let here : get_or (take (length es) (drop g m)) k 0 ≡ get_or m (g + k) 0 = get_or-take (length es) (drop g m) k 0 few ∙ get_or-drop g m k 0 in
      divides-step es (take (length es) (drop g m)) k (get_or es k 0) x few (omega (arith, whole, few)) refl (at ∙ sym here)

  pub z-over : (x : ℕ) → g + length es ≤ length m → k < length es → x ≡ get_or m (g + k) 0 → x < get_or es k 0
      → divides (drop k es) (drop k (take (length es) (drop g m))) ≡ divides es (take (length es) (drop g m)) → false ≡ divides es (take (length es) (drop g m))
  z-over x long few at over h =
      let off : nat_le (get_or es k 0) x ≡ false = grind (arith, nat_tests, over) in
      sym (ap (λ (b : Bool). b && divides (drop (k + 1) es) (drop (k + 1) (take (length es) (drop g m)))) off) ∙ sym (z-step x long few at) ∙ h

  pub z-within : (x : ℕ) → g + length es ≤ length m → k < length es → x ≡ get_or m (g + k) 0 → get_or es k 0 ≤ x
      → divides (drop k es) (drop k (take (length es) (drop g m))) ≡ divides es (take (length es) (drop g m)) → divides (drop (k + 1) es) (drop (k + 1) (take (length es) (drop g m))) ≡ divides es (take (length es) (drop g m))
  z-within x long few at low h =
      let on : nat_le (get_or es k 0) x ≡ true = grind (arith, nat_tests, low) in
      sym (ap (λ (b : Bool). b && divides (drop (k + 1) es) (drop (k + 1) (take (length es) (drop g m)))) on) ∙ sym (z-step x long few at) ∙ h

  pub z-end : length es ≤ k → divides (drop k es) (drop k (take (length es) (drop g m))) ≡ divides es (take (length es) (drop g m)) → true ≡ divides es (take (length es) (drop g m))
  z-end past h = sym (divides-end es (drop k (take (length es) (drop g m))) k past) ∙ h
