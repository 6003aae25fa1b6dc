-- Over a field the degree of a product is the sum of the degrees of its factors.
--   has-degree                        a polynomial that is not zero has a monomial of its degree
--   product-top, power-top, block-top    the products with a factor, with a power of it, with the factors of one variable more
--   misfit-meets                      the first product with degrees that add up to more than the limit
use Rattle.std.proofs.Common.{◌≡◌, ◌⊎◌, ℕ, zero, suc, ◌+◌, ◌-◌, ◌*◌, ◌<◌, ◌≤◌, Bool, true, false, not, ◌&&◌, List, [], ◌∷◌, ◌++◌, length, get_or, take, drop, All, refl, sym, ap, ◌∙◌, subst, arith, inl, inr, true≢false, nat_le, append_assoc}
use Rattle.std.specs.Prelude.{replicate}
use Rattle.std.proofs.lemmas.Bool.{cases_Bool, leb-true}
use Rattle.std.proofs.lemmas.Bool.Decides.{nat_tests}
use Rattle.std.proofs.lemmas.List.Elements.{All-nil, All-cons, All-head, All-tail, All-get_or, Contains-get_or}
use Rattle.rinv_algebra.specs.Ring.{RingOps, RingLaws, FieldLaws, IsSame}
use Rattle.rinv_algebra.specs.Monomial.{same_monomial, total_degree, max_degree}
use Rattle.rinv_algebra.specs.Polynomial.{Term, Polynomial, coefficient, same, poly_ops, product, constant, is_zero, has_monomial, degree}
use Rattle.rinv_algebra.specs.Normal.{IsNormal}
use Rattle.rinv_algebra.specs.Value.{times_all, factors}
use Rattle.rinv_algebra.proofs.PolynomialLaws.{poly_laws}
use Rattle.rinv_algebra.proofs.Same.{both, coefficient-absent, same-from_coefficients}
use Rattle.rinv_algebra.proofs.Degrees.{same-left, degree-above, degree-bound, has_monomial-same_monomial, total_degree-same, is_zero-false}
use Rattle.rinv_algebra.proofs.Products.{times_all-append, factors-take_more}
use Rattle.rinv_theory.proofs.Fields.{product-zero}
use Rattle.rinv_theory.proofs.ProductLeads.{degree-factors}
use Rattle.rinv_ring.specs.Operation.{RingOp}
use Rattle.rinv_poly.specs.Faults.{HasDegree}
use Rattle.rinv_poly.proofs.Degrees.{searched, degree-terms}
use Rattle.rinv_poly.proofs.Forms.{ordered-from_normal}
use Rattle.rinv_poly.proofs.NormalFacts.{has-term}
use Rattle.rinv_sub.specs.Refusal.{ProductsMeet, SubstitutionMeets, in_products}
use Rattle.rinv_sub.proofs.Sums.{take-at, normal-at}
use Rattle.rinv_sub.proofs.Factors.{replicate-at, block-split}
use Rattle.rinv_sub.proofs.LowProducts.{UpTo, product-up}

-- a place where the test holds, or it holds nowhere
found-or-none : {X : Type 0} (test : X → Bool) (xs : List X) → ((k : ℕ) × (k < length xs) × ((d : X) → test (get_or xs k d) ≡ true)) ⊎ All (λ x. test x ≡ false) xs
found-or-none test [] = inr (All-nil (λ x. test x ≡ false))
found-or-none test (x ∷ xs) = elim (cases_Bool (test x)) [
  | inl here ↦ inl (0, omega arith, λ d. here)
  | inr off ↦ elim (found-or-none test xs) [ inl there ↦ inl (suc there.0, omega (arith, there.1), λ d. there.2 d) | inr none ↦ inr (All-cons (λ y. test y ≡ false) x xs off none) ]
]

all-left : {X : Type 0} (P : X → Type 0) (xs ys : List X) → All P (xs ++ ys) → All P xs
all-left P [] ys h = All-nil P
all-left P (x ∷ xs) ys h = All-cons P x xs (All-head P x (xs ++ ys) h) (all-left P xs ys (All-tail P x (xs ++ ys) h))

all-right : {X : Type 0} (P : X → Type 0) (xs ys : List X) → All P (xs ++ ys) → All P ys
all-right P [] ys h = h
all-right P (x ∷ xs) ys h = all-right P xs ys (All-tail P x (xs ++ ys) h)

-- the least bound of the degrees of the first terms, and of one more
pub least-more : {E : Type 0} (f : Polynomial E) (k least d next : ℕ) (t : Term E) → k < length f → t ≡ get_or f k t → d ≡ total_degree t.0
    → ((n : ℕ) → UpTo n (take k f) → least ≤ n) → ((n : ℕ) → least ≤ n → d ≤ n → next ≤ n) → (n : ℕ) → UpTo n (take (k + 1) f) → next ≤ n
least-more f k least d next t few at is before greater n all =
    let both = subst (λ (g : Polynomial _). UpTo n g) (take-at f k t few at) all in
    let last : total_degree t.0 ≤ n = All-head (λ u. total_degree u.0 ≤ n) t [] (all-right (λ u. total_degree u.0 ≤ n) (take k f) (t ∷ []) both) in
    greater n (before n (all-left (λ u. total_degree u.0 ≤ n) (take k f) (t ∷ []) both)) (omega (arith, is, last))

-- ((a ++ b) ++ d) with b in three parts
regroup : {X : Type 0} (a b : List X) (n : X) (c d : List X) → (a ++ (b ++ n ∷ c)) ++ d ≡ (a ++ b) ++ n ∷ (c ++ d)
regroup a b n c d = append_assoc a (b ++ n ∷ c) d ∙ ap (λ r. a ++ r) (append_assoc b (n ∷ c) d) ∙ sym (append_assoc a b (n ∷ (c ++ d)))

high-false : (b : Bool) (x y : ℕ) → (b && nat_le x y) ≡ false → b ≡ true → y < x
high-false true x y e h = grind (arith, nat_tests, e)
high-false false x y e h = absurd (true≢false (sym h))

module _ {E : Type 0} (o : RingOps E) (l : RingLaws o) where
  -- whether a term's monomial is one of the polynomial, of its degree
  is_highest : Polynomial E → Term E → Bool
  is_highest f t = has_monomial o f t.0 && nat_le (degree o f) (total_degree t.0)

  lower : (f : Polynomial E) → All (λ t. is_highest f t ≡ false) f → (m : List ℕ) → has_monomial o f m ≡ true → total_degree m < degree o f
  unfolding is_highest
  lower f none m has = elim (searched o l m f) [
    | inl there ↦
        let d : Term E = (m, o.zero) in
        let t : Term E = get_or f there.0 d in
        let at : same_monomial t.0 m ≡ true = there.2 d in
        let low : total_degree t.0 < degree o f = high-false (has_monomial o f t.0) (degree o f) (total_degree t.0) (none there.0 d there.1) (has_monomial-same_monomial o l f t.0 m at ∙ has) in
        omega (arith, low, total_degree-same t.0 m at)
    | inr absent ↦ absurd (true≢false (sym has ∙ rw (coefficient-absent o m f absent) (ap not (l.same_refl o.zero))))
  ]

  -- with no such monomial it is zero
  all-zero : (f : Polynomial E) → ((m : List ℕ) → has_monomial o f m ≡ true → ⊥) → is_zero o f ≡ true
  unfolding coefficient
  all-zero f none = same-from_coefficients o f [] (λ m. each m (cases_Bool (o.same (coefficient o f m) o.zero)))
    where
      each : (m : List ℕ) → (o.same (coefficient o f m) o.zero ≡ true) ⊎ (o.same (coefficient o f m) o.zero ≡ false) → IsSame o (coefficient o f m) o.zero
      each m (inl e) = e
      each m (inr e) = absurd (none m (ap not e))

  -- a polynomial that is not zero has a monomial of its degree
  pub has-degree : (f : Polynomial E) → is_zero o f ≡ false → HasDegree o f (degree o f)
  unfolding is_highest
  has-degree f n = elim (found-or-none (is_highest f) f) [
    | inl there ↦
        let d : Term E = ([], o.zero) in
        let t : Term E = get_or f there.0 d in
        let h : (has_monomial o f t.0 ≡ true) × (nat_le (degree o f) (total_degree t.0) ≡ true) = both (has_monomial o f t.0) (nat_le (degree o f) (total_degree t.0)) (there.2 d) in
        record { monomial = t.0; has = h.0; degree = (let a = leb-true (degree o f) (total_degree t.0) h.1 in let b = degree-above o l f t.0 h.0 in omega (arith, a, b)) }
    | inr none ↦
        let low : degree o f ≤ degree o f - 1 = degree-bound o l f (degree o f - 1) (λ m has. let k = lower f none m has in omega (arith, k)) in
        absurd (true≢false (sym (all-zero f (λ m has. let k = lower f none m has in absurd (omega (arith, k, low)))) ∙ n))
  ]

  -- f is not zero, no term has a degree above n, and some monomial of f has this degree
  pub record IsTop (f : Polynomial E) (n : ℕ) : Type 0 where
    pub nonzero : is_zero o f ≡ false
    pub up : UpTo n f
    pub reached : n ≤ degree o f

  pub top-degree : (f : Polynomial E) (n : ℕ) → IsTop f n → HasDegree o f n
  top-degree f n t = let low = degree-terms o l f n t.up in subst (HasDegree o f) (omega (arith, low, t.reached)) (has-degree f t.nonzero)

  -- a stored polynomial, of which n is the least bound of the degrees of terms
  pub stored-top : (is_element : E → Bool) (v : ℕ) (f : Polynomial E) (n : ℕ) → IsNormal o is_element v f → is_zero o f ≡ false → UpTo n f → ((m : ℕ) → UpTo m f → n ≤ m) → IsTop f n
  stored-top is_element v f n normal nonzero up least = record {
    nonzero = nonzero;
    up = up;
    reached = least (degree o f) (λ k d b. degree-above o l f (get_or f k d).0 (has-term o l is_element v f (ordered-from_normal o is_element v f normal) (get_or f k d) (Contains-get_or f k d b)));
  }

  pub constant-top : (c : E) → o.same c o.zero ≡ false → IsTop (constant o c) 0
  unfolding coefficient same_monomial
  constant-top c n = record {
    nonzero = is_zero-false o l (constant o c) [] (ap not (subst (λ (b : Bool). b ≡ false) (sym (same-sum c)) n));
    up = All-cons (λ t. total_degree t.0 ≤ 0) ([], c) [] (omega arith) (All-nil (λ t. total_degree t.0 ≤ 0));
    reached = omega arith;
  }
    where
      same-sum : (c : E) → o.same (o.add c o.zero) o.zero ≡ o.same c o.zero
      same-sum c = same-left o l (o.add c o.zero) c o.zero (l.add_zero c)

  module _ (field : FieldLaws o) where
    product-top : (n m : ℕ) (f g : Polynomial E) → IsTop f n → IsTop g m → IsTop (product o f g) (n + m)
    product-top n m f g a b = record {
      nonzero = elim (cases_Bool (is_zero o (product o f g))) [
        | inl z ↦ elim (product-zero o l field f g z) [
          | inl none ↦ absurd (true≢false (sym none ∙ a.nonzero))
          | inr none ↦ absurd (true≢false (sym none ∙ b.nonzero))
        ]
        | inr some ↦ some
      ];
      up = product-up o l n m f g a.up b.up;
      reached = (let h = degree-factors o l field f g a.nonzero b.nonzero in omega (arith, h, a.reached, b.reached));
    }

    power-top : (e n m : ℕ) (f g : Polynomial E) → IsTop f n → IsTop g m → IsTop (times_all (poly_ops o) f (replicate e g)) (n + e * m)
    unfolding times_all
    power-top zero n m f g a b = subst (λ (k : ℕ). IsTop f k) (omega arith) a
    power-top (suc e) n m f g a b = subst (λ (k : ℕ). IsTop (times_all (poly_ops o) (product o f g) (replicate e g)) k) (more e n m) (power-top e (n + m) m (product o f g) g (product-top n m f g a b) b)
      where
        more : (e n m : ℕ) → (n + m) + e * m ≡ n + suc e * m
        more e n m = omega arith

    power-none : (p g : Polynomial E) (n d e : ℕ) → e ≡ 0 → IsTop p n → IsTop (times_all (poly_ops o) p (replicate e g)) (n + e * d)
    unfolding times_all
    power-none p g n d e none t = rw none (subst (λ (i : ℕ). IsTop p i) (omega arith) t)

    module _ (f : Polynomial E) (images : List (Polynomial E)) (m : List ℕ) (k n d : ℕ) (g : Polynomial E) (few : k < length images) (many : length images ≡ length m) (at : g ≡ get_or images k g) (here : IsTop (times_all (poly_ops o) f (factors (take k images) (take k m))) n) where
      -- the factors of one variable more
      pub block-top : (get_or m k 0 ≡ 0) ⊎ IsTop g d → IsTop (times_all (poly_ops o) f (factors (take (k + 1) images) (take (k + 1) m))) (n + get_or m k 0 * d)
      block-top h =
          let e = get_or m k 0 in
          let gs = factors (take k images) (take k m) in
          let so_far = times_all (poly_ops o) f gs in
          let more : factors (take (k + 1) images) (take (k + 1) m) ≡ gs ++ replicate e g = factors-take_more g images m k few (omega (arith, few, many)) ∙ ap (λ (x : Polynomial E). gs ++ replicate e x) (sym at) in
          subst (λ (p : Polynomial E). IsTop p (n + e * d)) (sym (ap (times_all (poly_ops o) f) more ∙ times_all-append (poly_ops o) f gs (replicate e g))) (power so_far e here h)
        where
          power : (p : Polynomial E) (e : ℕ) → IsTop p n → (e ≡ 0) ⊎ IsTop g d → IsTop (times_all (poly_ops o) p (replicate e g)) (n + e * d)
          power p e t (inl none) = power-none p g n d e none t
          power p e t (inr top) = power-top e n d p g t top

      -- with j factors of that variable more, the next one is too much
      pub misfit-meets : (is_element : E → Bool) (high : RingOp → E → E → ℕ → ℕ → Type 0) (v j : ℕ) → j < get_or m k 0 → IsTop g d → (x : ℕ) → x ≡ n + j * d → max_degree < x + d → ProductsMeet o is_element high v f (factors images m) x d
      misfit-meets is_element high v j below top x is over =
          let p = poly_laws o l in
          let e = get_or m k 0 in
          let gs = factors (take k images) (take k m) in
          let so_far = times_all (poly_ops o) f gs in
          let rest = factors (drop (k + 1) images) (drop (k + 1) m) in
          record {
            done = gs ++ replicate j g;
            next = g;
            rest = replicate (e - (j + 1)) g ++ rest;
            split =
                block-split o l f so_far images m k g few many (p.same_refl so_far) ∙ ap (λ (y : Polynomial E). gs ++ replicate e y ++ rest) (sym at)
                ∙ ap (λ (ys : List (Polynomial E)). gs ++ ys ++ rest) (replicate-at g j e below) ∙ regroup gs (replicate j g) g (replicate (e - (j + 1)) g) rest;
            meets = inl (record {
              left = subst (λ (q : Polynomial E). HasDegree o q x) (sym (times_all-append (poly_ops o) f gs (replicate j g)))
                  (subst (HasDegree o (times_all (poly_ops o) so_far (replicate j g))) (sym is) (top-degree (times_all (poly_ops o) so_far (replicate j g)) (n + j * d) (power-top j n d so_far g here top)));
              right = top-degree g d top;
              over = over;
            });
          }

    -- the same of a stored factor, as often as e says
    module _ (is_element : E → Bool) (high : RingOp → E → E → ℕ → ℕ → Type 0) (v : ℕ) (f : Polynomial E) (images : List (Polynomial E)) (m : List ℕ) (k n d e : ℕ) (g : Polynomial E) (few : k < length images) (many : length images ≡ length m) (at : g ≡ get_or images k g) (often : e ≡ get_or m k 0)
        (normal : All (IsNormal o is_element v) images) (up : UpTo d g) (least : (i : ℕ) → UpTo i g → d ≤ i) (some : (e ≡ 0) ⊎ (is_zero o g ≡ false)) (here : IsTop (times_all (poly_ops o) f (factors (take k images) (take k m))) n) where
      factor-top : is_zero o g ≡ false → IsTop g d
      factor-top nonzero = stored-top is_element v g d (subst (IsNormal o is_element v) (sym at) (All-get_or (IsNormal o is_element v) images k g few normal)) nonzero up least

      pub next-top : (r : ℕ) → r ≡ n + e * d → IsTop (times_all (poly_ops o) f (factors (take (k + 1) images) (take (k + 1) m))) r
      next-top r is = subst (IsTop (times_all (poly_ops o) f (factors (take (k + 1) images) (take (k + 1) m)))) (sym (is ∙ ap (λ (i : ℕ). n + i * d) often)) (block-top f images m k n d g few many at here (elim some [
        | inl none ↦ inl (sym often ∙ none)
        | inr nonzero ↦ inr (factor-top nonzero)
      ]))

      pub misfit-found : (x y : ℕ) → (y ≡ d) × (j : ℕ) × (j < e) × (x ≡ n + j * d) × (max_degree < x + d) → ProductsMeet o is_element high v f (factors images m) x y
      misfit-found x y (same, j, below, is, over) = elim some [
        | inl none ↦ absurd (omega (arith, below, none))
        | inr nonzero ↦ subst (ProductsMeet o is_element high v f (factors images m) x) (sym same) (misfit-meets f images m k n d g few many at here is_element high v j (omega (arith, below, often)) (factor-top nonzero) x is over)
      ]

  -- a term whose products meet degrees, whatever its coefficient
  pub term-meets : (is_element : E → Bool) (high : RingOp → E → E → ℕ → ℕ → Type 0) (v w : ℕ) (images : List (Polynomial E)) (f : Polynomial E) (k : ℕ) (m : List ℕ) (d : Term E) → k < length f → IsNormal o is_element w f → m ≡ (get_or f k d).0
      → (x y : ℕ) → ((c : E) → o.same c o.zero ≡ false → ProductsMeet o is_element high v (constant o c) (factors images m) x y) → SubstitutionMeets o is_element high v images f x y
  term-meets is_element high v w images f k m d few normal is x y h =
      let t : Term E = get_or f k d in
      in_products t (Contains-get_or f k d few) (subst (λ (n : List ℕ). ProductsMeet o is_element high v (constant o t.1) (factors images n) x y) is (h t.1 (normal-at o is_element w f k d few normal).nonzero))
