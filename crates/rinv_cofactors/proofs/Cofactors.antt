-- The cofactors of the rest of one pair: sums over a column, and the degrees that they meet.
--   cofactor-at          an entry of the lists, as it is read
--   each-more            one cofactor more
--   column-more, column-stored        the sum over a column and the products of it, one more
--   pair-value, cofactor-value        the cofactor at a place, part by part
--   combined-value, combined-meets    the cofactor, by polynomials that are the multipliers
--   units-more, units-same            unit lists, one place more
use Rattle.std.proofs.Common.{◌≡◌, ℕ, zero, suc, ◌+◌, ◌<◌, Bool, true, false, not, List, [], ◌∷◌, ◌++◌, length, get_or, set, replicate, map, filter, take, All, cond, refl, sym, ◌∙◌, ap, ap₂, subst, subst₂, inl, inr, arith, append-nil}
use Rattle.std.specs.List.{range_with_len, AllZip}
use Rattle.std.specs.declared.cmp.Ordering.{Ordering}
use Rattle.std.proofs.lemmas.List.{get_or-map, get_or_append_left, get_or_push, take_more, length-take-le, length-map, map-append}
use Rattle.std.proofs.lemmas.Bool.{cases_lt}
use Rattle.std.proofs.lemmas.List.FromFn.{length-map-range_with_len}
use Rattle.std.proofs.lemmas.List.Elements.{AllZip-push, length_all_zip, All-head, All-tail}
use Rattle.rinv_algebra.specs.Ring.{RingOps, RingLaws, IsSame}
use Rattle.rinv_algebra.specs.Polynomial.{Polynomial, poly_ops, product, is_zero, term_product, difference}
use Rattle.rinv_algebra.specs.Normal.{IsNormal}
use Rattle.rinv_algebra.specs.Ideal.{combination}
use Rattle.rinv_algebra.specs.Leading.{multiplier}
use Rattle.rinv_algebra.proofs.PolynomialLaws.{poly_laws}
use Rattle.rinv_algebra.proofs.Products.{combination-push}
use Rattle.rinv_algebra.proofs.RingFacts as facts
use Rattle.rinv_groebner.specs.Division.{AreSame, Step, quotient_at, quotients}
use Rattle.rinv_ring.specs.Operation.{RingOp, subtracts, multiplies}
use Rattle.rinv_poly.specs.Faults.{PartialSumMeets, polynomials_meet}
use Rattle.rinv_poly.specs.Sums.{sum_of}
use Rattle.rinv_poly.specs.Stored.{IsStored, products}
use Rattle.rinv_poly.specs.Combined.{DifferenceMeets, ProductsSumMeet}
use Rattle.rinv_poly.proofs.Summands.{sum_of-push}
use Rattle.rinv_div.specs.Stops.{Divides, StepsMeet}
use Rattle.rinv_buch.specs.Runs.{s_at}
use Rattle.rinv_cofactors.specs.Combining.{AreCofactors, AreQuotients, CombinedMeets, RestMeets, cofactor, column, combined, multiple, nonzero_places, of_pair, unit}
use Rattle.rinv_buch.proofs.KeptPlaces.{places-more}
use Rattle.rinv_buch.proofs.PairDivision.{element-at, steps-same}
use Rattle.rinv_buch.proofs.TermMultiples.{multiple-value}

module _ {E W : Type 0} (view : W → List (Polynomial E)) (lists : List W) (k m : ℕ) where
  -- an entry of the lists
  pub cofactor-at : (w : W) (u : Polynomial E) → k < length lists → All (λ w. m < length (view w)) lists → w ≡ get_or lists k w → u ≡ get_or (view w) m u → u ≡ cofactor (map view lists) k m
  cofactor-at w u low inside at is =
      element-at (view w) m u (subst (λ (x : W). m < length (view x)) (sym at) (inside k w low)) is ∙ ap (λ (us : List (Polynomial E)). get_or us m []) (ap view at ∙ sym (get_or-map view lists k w [] low))

  -- it has what all entries have
  pub cofactor-has : (P : Polynomial E → Type 0) → All (λ w. All P (view w)) lists → (w : W) (u : Polynomial E) → k < length lists → All (λ w. m < length (view w)) lists → w ≡ get_or lists k w → u ≡ get_or (view w) m u → P u
  cofactor-has P all w u low inside at is =
      let own : All P (view w) = subst (λ (x : W). All P (view x)) (sym at) (all k w low) in
      subst P (sym is) (own m u (subst (λ (x : W). m < length (view x)) (sym at) (inside k w low)))

  -- it is inside
  pub lengths-inside : (n : ℕ) → All (λ w. length (view w) ≡ n) lists → m < n → All (λ w. m < length (view w)) lists
  lengths-inside n all h k d low = let e : length (view (get_or lists k d)) ≡ n = all k d low in omega (arith, e, h)

  -- and of its column
  pub column-at : k < length lists → get_or (column (map view lists) m) k [] ≡ cofactor (map view lists) k m
  column-at low = get_or-map (λ us. get_or us m []) (map view lists) k [] [] (omega (arith, low, length-map lists view))

-- one item more
pub each-more : {X : Type 0} (R : ℕ → X → Type 0) (d : X) (xs : List X) (x : X) (n : ℕ) → length xs ≡ n → ((m : ℕ) → m < n → R m (get_or xs m d)) → R n x → (m : ℕ) → m < n + 1 → R m (get_or (xs ++ x ∷ []) m d)
each-more R d xs x n long all here m low = elim (cases_lt m n) [
  | inl before ↦ subst (R m) (sym (get_or_append_left xs (x ∷ []) d m (omega (arith, before, long)))) (all m before)
  | inr last ↦ let e : n ≡ m = omega (arith, last, low) in subst (λ (m : ℕ). R m (get_or (xs ++ x ∷ []) m d)) e (subst (R n) (sym (get_or_push xs x d n long)) here)
]

-- a column has an entry for each list
pub column-number : {E W : Type 0} (view : W → List (Polynomial E)) (qs : List (Polynomial E)) (lists : List W) (m : ℕ) → length qs ≡ length lists → length qs ≡ length (column (map view lists) m)
column-number view qs lists m many = many ∙ sym (length-map lists view) ∙ sym (length-map (map view lists) (λ us. get_or us m []))

module _ {E : Type 0} (o : RingOps E) (l : RingLaws o) where
  -- a division depends on the coefficients of the dividend alone
  divides-same : (cmp : List ℕ → List ℕ → Ordering) (hs : List (Polynomial E)) (s t : Polynomial E) → IsSame (poly_ops o) s t → (qs : List (Polynomial E)) (rest : Polynomial E) (steps : List (Step E)) → Divides o cmp hs s qs rest steps → Divides o cmp hs t qs rest steps
  divides-same cmp hs s t same qs rest steps d = record {
    is_division = record { by_steps = steps-same o cmp l hs s t same steps rest d.is_division.by_steps; irreducible = d.is_division.irreducible };
    quotients = d.quotients;
  }

  -- there is a quotient for each element
  pub quotients-number : (cmp : List ℕ → List ℕ → Ordering) (hs : List (Polynomial E)) (s : Polynomial E) (qs : List (Polynomial E)) (rest : Polynomial E) → (steps : List (Step E)) × Divides o cmp hs s qs rest steps → length qs ≡ length hs
  quotients-number cmp hs s qs rest (steps, d) = length_all_zip (IsSame (poly_ops o)) qs (quotients (length hs) steps) d.quotients ∙ length-map-range_with_len (quotient_at steps) 0 (length hs)

  -- the sum over a column, one product more
  pub column-more : (qs cs : List (Polynomial E)) (k : ℕ) (q c : Polynomial E) (products : List (Polynomial E)) (r : Polynomial E) → k < length qs → length qs ≡ length cs → q ≡ get_or qs k q → c ≡ get_or cs k []
      → IsSame (poly_ops o) (sum_of products) (combination o (take k qs) (take k cs)) → IsSame (poly_ops o) r (product o q c)
      → IsSame (poly_ops o) (sum_of (products ++ r ∷ [])) (combination o (take (k + 1) qs) (take (k + 1) cs))
  column-more qs cs k q c products r low many at_q at_c so_far here =
      let p = poly_laws o l in
      let few : k < length cs = omega (arith, low, many) in
      let fronts : length (take k qs) ≡ length (take k cs) = length-take-le k qs (omega (arith, low)) ∙ sym (length-take-le k cs (omega (arith, few))) in
      let more : combination o (take (k + 1) qs) (take (k + 1) cs) ≡ combination o (take k qs) (take k cs) ++ product o q c =
      ap₂ (combination o) (take_more qs k q low ∙ ap (λ (x : Polynomial E). take k qs ++ x ∷ []) (sym at_q)) (take_more cs k [] few ∙ ap (λ (x : Polynomial E). take k cs ++ x ∷ []) (sym at_c))
      ∙ combination-push o l (take k qs) (take k cs) q c fronts in
      subst (IsSame (poly_ops o) (sum_of (products ++ r ∷ []))) (sym more)
      (subst (λ (x : Polynomial E). IsSame (poly_ops o) x (combination o (take k qs) (take k cs) ++ product o q c)) (sym (sum_of-push products r))
      (p.add_same (sum_of products) (combination o (take k qs) (take k cs)) r (product o q c) so_far here))

  -- products of two lists, one more
  products-push : (qs cs : List (Polynomial E)) (q c : Polynomial E) → length qs ≡ length cs → products o (qs ++ q ∷ []) (cs ++ c ∷ []) ≡ products o qs cs ++ product o q c ∷ []
  products-push [] [] q c e = refl
  products-push [] (b ∷ cs) q c e = absurd (omega (arith, e))
  products-push (a ∷ qs) [] q c e = absurd (omega (arith, e))
  products-push (a ∷ qs) (b ∷ cs) q c e = ap (λ (r : List (Polynomial E)). product o a b ∷ r) (products-push qs cs q c (omega (arith, e)))

  -- the cofactor at a place, part by part
  pub pair-value : (x y z u v : Polynomial E) → IsSame (poly_ops o) x u → IsSame (poly_ops o) y v → IsSame (poly_ops o) z (difference o x y) → IsSame (poly_ops o) z (difference o u v)
  pair-value x y z u v is_x is_y is_z =
      let p = poly_laws o l in
      facts.then (poly_ops o) p is_z (facts.add2 (poly_ops o) p is_x (p.neg_same y v is_y))

  pub cofactor-value : (x y z c r u v w : Polynomial E) → IsSame (poly_ops o) x u → IsSame (poly_ops o) y v → IsSame (poly_ops o) z (difference o x y) → IsSame (poly_ops o) c w → IsSame (poly_ops o) r (difference o z c) → IsSame (poly_ops o) r (difference o (difference o u v) w)
  cofactor-value x y z c r u v w is_x is_y is_z is_c is_r = pair-value z c r (difference o u v) w (pair-value x y z u v is_x is_y is_z) is_c is_r

  module _ (is_element : E → Bool) (v : ℕ) where
    -- the products over a column as they are stored, one more
    pub column-stored : (qs cs : List (Polynomial E)) (k : ℕ) (q c : Polynomial E) (items : List (Polynomial E)) (r : Polynomial E) → k < length qs → length qs ≡ length cs → q ≡ get_or qs k q → c ≡ get_or cs k []
        → AllZip (IsStored o is_element v) (products o (take k qs) (take k cs)) items → IsNormal o is_element v r → IsSame (poly_ops o) r (product o q c)
        → AllZip (IsStored o is_element v) (products o (take (k + 1) qs) (take (k + 1) cs)) (items ++ r ∷ [])
    column-stored qs cs k q c items r low many at_q at_c so_far normal value =
        let few : k < length cs = omega (arith, low, many) in
        let fronts : length (take k qs) ≡ length (take k cs) = length-take-le k qs (omega (arith, low)) ∙ sym (length-take-le k cs (omega (arith, few))) in
        let more : products o (take (k + 1) qs) (take (k + 1) cs) ≡ products o (take k qs) (take k cs) ++ product o q c ∷ [] =
        ap₂ (products o) (take_more qs k q low ∙ ap (λ (x : Polynomial E). take k qs ++ x ∷ []) (sym at_q)) (take_more cs k [] few ∙ ap (λ (x : Polynomial E). take k cs ++ x ∷ []) (sym at_c))
        ∙ products-push (take k qs) (take k cs) q c fronts in
        subst (λ (fs : List (Polynomial E)). AllZip (IsStored o is_element v) fs (items ++ r ∷ [])) (sym more)
        (AllZip-push (IsStored o is_element v) (products o (take k qs) (take k cs)) items (product o q c) r so_far (record { normal = normal; value = value }))

    module _ (high : RingOp → E → E → ℕ → ℕ → Type 0) where
      -- the degrees of a product over a column
      pub product-meets : (qs cs : List (Polynomial E)) (k : ℕ) (q c : Polynomial E) → k < length qs → q ≡ get_or qs k [] → c ≡ get_or cs k [] → (x y : ℕ) → polynomials_meet o is_element high multiplies q c x y → ProductsSumMeet o is_element high v qs cs x y
      product-meets qs cs k q c low at_q at_c x y h = inl (k, low, subst₂ (λ (f g : Polynomial E). polynomials_meet o is_element high multiplies f g x y) at_q at_c h)

      -- and of the sum of all
      pub sum-meets : (qs cs items : List (Polynomial E)) → AllZip (IsStored o is_element v) (products o qs cs) items → (x y : ℕ) → PartialSumMeets o is_element high (sum_of items) x y → ProductsSumMeet o is_element high v qs cs x y
      sum-meets qs cs items stored x y h = inr (items, stored, h)

      -- of a difference
      pub difference-meets : (f g a b : Polynomial E) → IsNormal o is_element v a → IsSame (poly_ops o) a f → IsNormal o is_element v b → IsSame (poly_ops o) b g → (x y : ℕ) → polynomials_meet o is_element high subtracts a b x y → DifferenceMeets o is_element high v f g x y
      difference-meets f g a b na is_f nb is_g x y h = (a, b, record { normal = na; value = is_f }, record { normal = nb; value = is_g }, h)

      -- differences of polynomials that are the same
      difference-same : (f g h k : Polynomial E) → IsSame (poly_ops o) f h → IsSame (poly_ops o) g k → (x y : ℕ) → DifferenceMeets o is_element high v f g x y → DifferenceMeets o is_element high v h k x y
      difference-same f g h k is_f is_g x y (a, b, sa, sb, meets) =
          let p = poly_laws o l in
          (a, b, record { normal = sa.normal; value = facts.then (poly_ops o) p sa.value is_f }, record { normal = sb.normal; value = facts.then (poly_ops o) p sb.value is_g }, meets)

      module _ (left a right b : Polynomial E) (qs cs : List (Polynomial E)) where
        pub left-meets : (x y : ℕ) → polynomials_meet o is_element high multiplies left a x y → CombinedMeets o is_element high v left a right b qs cs x y
        left-meets x y h = CombinedMeets.in_left h

        pub right-meets : (x y : ℕ) → polynomials_meet o is_element high multiplies right b x y → CombinedMeets o is_element high v left a right b qs cs x y
        right-meets x y h = CombinedMeets.in_right h

        pub pair-meets : (first second : Polynomial E) → IsNormal o is_element v first → IsSame (poly_ops o) first (product o left a) → IsNormal o is_element v second → IsSame (poly_ops o) second (product o right b)
            → (x y : ℕ) → polynomials_meet o is_element high subtracts first second x y → CombinedMeets o is_element high v left a right b qs cs x y
        pair-meets first second nf is_first ns is_second x y h = CombinedMeets.in_pair (difference-meets (product o left a) (product o right b) first second nf is_first ns is_second x y h)

        pub less-meets : (first second pair sum : Polynomial E) → IsSame (poly_ops o) first (product o left a) → IsSame (poly_ops o) second (product o right b)
            → IsNormal o is_element v pair → IsSame (poly_ops o) pair (difference o first second) → IsNormal o is_element v sum → IsSame (poly_ops o) sum (combination o qs cs)
            → (x y : ℕ) → polynomials_meet o is_element high subtracts pair sum x y → CombinedMeets o is_element high v left a right b qs cs x y
        less-meets first second pair sum is_first is_second np is_pair ns is_sum x y h =
            CombinedMeets.in_difference (difference-meets (difference o (product o left a) (product o right b)) (combination o qs cs) pair sum np (pair-value first second pair (product o left a) (product o right b) is_first is_second is_pair) ns is_sum x y h)

        pub column-meets : (x y : ℕ) → ProductsSumMeet o is_element high v qs cs x y → CombinedMeets o is_element high v left a right b qs cs x y
        column-meets x y h = CombinedMeets.in_sum h

  module _ (cmp : List ℕ → List ℕ → Ordering) (list : List (Polynomial E)) (lists : List (List (Polynomial E))) (i j : ℕ) (left right : Polynomial E)
      (is_left : IsSame (poly_ops o) left (multiplier o cmp (get_or list i []) (get_or list j []) ∷ [])) (is_right : IsSame (poly_ops o) right (multiplier o cmp (get_or list j []) (get_or list i []) ∷ []))
      (m : ℕ) (a b : Polynomial E) (at_a : a ≡ cofactor lists i m) (at_b : b ≡ cofactor lists j m) where
    first-multiple : IsSame (poly_ops o) (product o left a) (multiple o cmp list lists i j m)
    first-multiple =
        let t = multiplier o cmp (get_or list i []) (get_or list j []) in
        subst (λ (c : Polynomial E). IsSame (poly_ops o) (product o left a) (term_product o t c)) at_a (multiple-value o l t.0 t.1 left a is_left (product o left a) ((poly_laws o l).same_refl (product o left a)))

    second-multiple : IsSame (poly_ops o) (product o right b) (multiple o cmp list lists j i m)
    second-multiple =
        let t = multiplier o cmp (get_or list j []) (get_or list i []) in
        subst (λ (c : Polynomial E). IsSame (poly_ops o) (product o right b) (term_product o t c)) at_b (multiple-value o l t.0 t.1 right b is_right (product o right b) ((poly_laws o l).same_refl (product o right b)))

    both-multiples : IsSame (poly_ops o) (difference o (product o left a) (product o right b)) (of_pair o cmp list lists i j m)
    both-multiples = pair-value (product o left a) (product o right b) (difference o (product o left a) (product o right b)) (multiple o cmp list lists i j m) (multiple o cmp list lists j i m) first-multiple second-multiple ((poly_laws o l).same_refl (difference o (product o left a) (product o right b)))

    -- the cofactor at a place
    pub combined-value : (qs : List (Polynomial E)) (u : Polynomial E) → IsSame (poly_ops o) u (difference o (difference o (product o left a) (product o right b)) (combination o qs (column lists m))) → IsSame (poly_ops o) u (combined o cmp list lists i j qs m)
    combined-value qs u same = pair-value (difference o (product o left a) (product o right b)) (combination o qs (column lists m)) u (of_pair o cmp list lists i j m) (combination o qs (column lists m)) both-multiples ((poly_laws o l).same_refl (combination o qs (column lists m))) same

    -- the degrees that it meets
    pub combined-meets : (is_element : E → Bool) (high : RingOp → E → E → ℕ → ℕ → Type 0) (v : ℕ) → IsNormal o is_element v left → IsNormal o is_element v right → (qs : List (Polynomial E)) → AreQuotients o is_element v cmp list i j qs
        → (x y : ℕ) → CombinedMeets o is_element high v left a right b qs (column lists m) x y → RestMeets o is_element high v cmp list lists i j x y
    combined-meets is_element high v nl nr qs are x y (CombinedMeets.in_left h) = RestMeets.in_first m (left, record { normal = nl; value = is_left }, subst (λ (c : Polynomial E). polynomials_meet o is_element high multiplies left c x y) at_a h)
    combined-meets is_element high v nl nr qs are x y (CombinedMeets.in_right h) = RestMeets.in_second m (right, record { normal = nr; value = is_right }, subst (λ (c : Polynomial E). polynomials_meet o is_element high multiplies right c x y) at_b h)
    combined-meets is_element high v nl nr qs are x y (CombinedMeets.in_pair h) = RestMeets.in_pair m (difference-same is_element v high (product o left a) (product o right b) (multiple o cmp list lists i j m) (multiple o cmp list lists j i m) first-multiple second-multiple x y h)
    combined-meets is_element high v nl nr qs are x y (CombinedMeets.in_sum h) = RestMeets.in_sum qs are m h
    combined-meets is_element high v nl nr qs are x y (CombinedMeets.in_difference h) =
        RestMeets.in_difference qs are m (difference-same is_element v high (difference o (product o left a) (product o right b)) (combination o qs (column lists m)) (of_pair o cmp list lists i j m) (combination o qs (column lists m)) both-multiples ((poly_laws o l).same_refl (combination o qs (column lists m))) x y h)

  module _ (cmp : List ℕ → List ℕ → Ordering) (list : List (Polynomial E)) (lists : List (List (Polynomial E))) (i j : ℕ) (s : Polynomial E) (is_s : IsSame (poly_ops o) s (s_at o cmp list i j)) where
    module _ (is_element : E → Bool) (high : RingOp → E → E → ℕ → ℕ → Type 0) (v : ℕ) where
      -- the degrees that the division meets
      pub division-meets : (x y : ℕ) → StepsMeet o cmp list s is_element high x y → RestMeets o is_element high v cmp list lists i j x y
      division-meets x y m = RestMeets.in_division (record { steps = m.steps; working = m.working; by_steps = steps-same o cmp l list s (s_at o cmp list i j) is_s m.steps m.working m.by_steps; meets = m.meets })

    -- its quotients
    pub are-quotients : (is_element : E → Bool) (v : ℕ) (qs : List (Polynomial E)) (rest : Polynomial E) → (steps : List (Step E)) × Divides o cmp list s qs rest steps → All (IsNormal o is_element v) qs → AreQuotients o is_element v cmp list i j qs
    are-quotients is_element v qs rest (steps, d) stored = record { steps = steps; rest = rest; divides = divides-same cmp list s (s_at o cmp list i j) is_s qs rest steps d; stored = stored }

    -- the cofactors of a rest
    pub are-cofactors : (n : ℕ) (qs us : List (Polynomial E)) (rest : Polynomial E) → (steps : List (Step E)) × Divides o cmp list s qs rest steps → length us ≡ n → ((m : ℕ) → m < n → IsSame (poly_ops o) (get_or us m []) (combined o cmp list lists i j qs m)) → (rest : Polynomial E) × AreCofactors o cmp n list lists i j rest us
    are-cofactors n qs us rest (steps, d) number each = (rest, record { steps = steps; quotients = qs; divides = divides-same cmp list s (s_at o cmp list i j) is_s qs rest steps d; number = number; each = each })

module _ {E : Type 0} (o : RingOps E) (fs : List (Polynomial E)) (k : ℕ) (f : Polynomial E) (at : f ≡ get_or fs k []) where
  passes : ℕ → Bool
  passes k = not (is_zero o (get_or fs k []))

  -- one place more, of a polynomial that is not zero
  pub units-more : (n : ℕ) (us : List (Polynomial E)) (before after : List (List (Polynomial E))) → is_zero o f ≡ false → after ≡ before ++ us ∷ [] → AreSame o us (unit o n k) → AllZip (AreSame o) before (map (unit o n) (nonzero_places o fs k))
      → AllZip (AreSame o) after (map (unit o n) (nonzero_places o fs (k + 1)))
  unfolding passes
  units-more n us before after off is same all =
      subst₂ (AllZip (AreSame o)) (sym is)
      (sym (ap (map (unit o n)) (places-more passes k ∙ ap (λ (g : Polynomial E). filter passes (range_with_len 0 k) ++ cond (not (is_zero o g)) (k ∷ []) []) (sym at) ∙ rw off refl) ∙ map-append (unit o n) (filter passes (range_with_len 0 k)) (k ∷ [])))
      (AllZip-push (AreSame o) before (map (unit o n) (filter passes (range_with_len 0 k))) us (unit o n k) all same)

  -- and of one that is
  pub units-same : is_zero o f ≡ true → nonzero_places o fs (k + 1) ≡ nonzero_places o fs k
  unfolding passes
  units-same on = places-more passes k ∙ ap (λ (g : Polynomial E). filter passes (range_with_len 0 k) ++ cond (not (is_zero o g)) (k ∷ []) []) (sym at) ∙ rw on (append-nil (filter passes (range_with_len 0 k)))

module _ {E : Type 0} (o : RingOps E) where
  zeros-same : (us : List (Polynomial E)) (n : ℕ) → length us ≡ n → All (λ u. IsSame (poly_ops o) u []) us → AreSame o us (replicate n [])
  zeros-same [] zero e all = tt
  zeros-same [] (suc n) e all = absurd (omega (arith, e))
  zeros-same (u ∷ us) zero e all = absurd (omega (arith, e))
  zeros-same (u ∷ us) (suc n) e all = (All-head (λ u. IsSame (poly_ops o) u []) u us all, zeros-same us n (omega (arith, e)) (All-tail (λ u. IsSame (poly_ops o) u []) u us all))

  -- zeros, with one put at a place
  pub unit-same : (us : List (Polynomial E)) (n k : ℕ) (v : Polynomial E) → length us ≡ n → All (λ u. IsSame (poly_ops o) u []) us → IsSame (poly_ops o) v ((poly_ops o).one) → AreSame o (set us k v) (unit o n k)
  unit-same [] zero k v e all one = tt
  unit-same [] (suc n) k v e all one = absurd (omega (arith, e))
  unit-same (u ∷ us) zero k v e all one = absurd (omega (arith, e))
  unit-same (u ∷ us) (suc n) zero v e all one = (one, zeros-same us n (omega (arith, e)) (All-tail (λ u. IsSame (poly_ops o) u []) u us all))
  unit-same (u ∷ us) (suc n) (suc k) v e all one = (All-head (λ u. IsSame (poly_ops o) u []) u us all, unit-same us n k v (omega (arith, e)) (All-tail (λ u. IsSame (poly_ops o) u []) u us all) one)
