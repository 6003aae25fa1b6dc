-- What the rule of cofactors makes: each element of a journal's list is the combination of the polynomials given by its cofactors.
--   total                c(0)*g_0 + c(1)*g_1 + .. in an honest ring
--   combination-total    a combination is such a sum
--   rest-sums            what an entry adds
--   column-sums          sums of columns as cofactors
--   combines-sums        all elements
use Rattle.std.proofs.Common.{◌≡◌, ℕ, zero, suc, ◌+◌, ◌<◌, Bool, true, false, not, cond, List, [], ◌∷◌, ◌++◌, length, get_or, replicate, map, filter, All, refl, sym, ◌∙◌, ap, ap₂, subst, arith, append-nil}
use Rattle.std.specs.List.{range_with_len, AllZip}
use Rattle.std.specs.declared.cmp.Ordering.{Ordering}
use Rattle.std.proofs.lemmas.List.{get_or-map, length-map, map-append}
use Rattle.std.proofs.lemmas.List.FromFn.{fill_by_all, get_or-range_with_len, length-range_with_len}
use Rattle.std.proofs.lemmas.List.Elements.{AllZip-push, length_all_zip, All-head, All-tail, All-filter, All-from_get_or}
use Rattle.rinv_algebra.specs.Ring.{RingOps, RingLaws, IsSame}
use Rattle.rinv_algebra.specs.Polynomial.{Polynomial, poly_ops, product, is_zero}
use Rattle.rinv_algebra.specs.Ideal.{combination}
use Rattle.rinv_algebra.specs.Leading.{multiplier, s_polynomial}
use Rattle.rinv_algebra.proofs.PolynomialLaws.{poly_laws}
use Rattle.rinv_algebra.proofs.RingFacts as facts
use Rattle.rinv_theory.proofs.CRing.{CRing}
use Rattle.rinv_theory.proofs.Solver.{ring, reading}
use Rattle.rinv_theory.proofs.Classes.{Class, class, class_sound, class_exact, class-add, class-zero}
use Rattle.rinv_theory.proofs.Monoid.{monomial}
use Rattle.rinv_theory.proofs.Polynomials.{poly_ring, term_at}
use Rattle.rinv_theory.proofs.Members.{combination-cons}
use Rattle.rinv_groebner.specs.Division.{AreSame}
use Rattle.rinv_groebner.specs.Journal.{Entry, nonzeros}
use Rattle.rinv_groebner.proofs.JournalUnique.{same_trans}
use Rattle.rinv_groebner.proofs.StepClasses.{class-difference, class-term_product}
use Rattle.rinv_groebner.proofs.UniqueSteps.{same-at}
use Rattle.rinv_div.proofs.Summed.{combination-same, identity}
use Rattle.rinv_cofactors.specs.Combining.{AreCofactors, Combines, cofactor, column, combined, nonzero_places, unit, units}
use Rattle.rinv_buch.specs.Runs.{s_at}

module _ {R : Type 0} (𝓡 : CRing R) where
  open 𝓡 use {add, mul, neg, zero as nought}

  no_product : (g : R) → add (mul nought g) nought ≡ nought
  no_product g = ring 𝓡 (g ∷ []) (search reading depth 30) refl

  product_first : (u a q g x y : R) → add (mul (add (mul u a) q) g) (add (mul u x) y) ≡ add (mul u (add (mul a g) x)) (add (mul q g) y)
  product_first u a q g x y = ring 𝓡 (u ∷ a ∷ q ∷ g ∷ x ∷ y ∷ []) (search reading depth 30) refl

  pair_first : (u w a b q g x y z : R) → add (mul (add (add (mul u a) (neg (mul w b))) (neg q)) g) (add (add (mul u x) (neg (mul w y))) (neg z)) ≡ add (add (mul u (add (mul a g) x)) (neg (mul w (add (mul b g) y)))) (neg (add (mul q g) z))
  pair_first u w a b q g x y z = ring 𝓡 (u ∷ w ∷ a ∷ b ∷ q ∷ g ∷ x ∷ y ∷ z ∷ []) (search reading depth 30) refl

  nothing_less : (u w : R) → nought ≡ add (add (mul u nought) (neg (mul w nought))) (neg nought)
  nothing_less u w = ring 𝓡 (u ∷ w ∷ []) (search reading depth 30) refl

  nothing_more : (u : R) → nought ≡ add (mul u nought) nought
  nothing_more u = ring 𝓡 (u ∷ []) (search reading depth 30) refl

  taken_away : (s c r : R) → s ≡ add c r → r ≡ add s (neg c)
  taken_away s c r e = sym (ap (λ x. add x (neg c)) e ∙ ring 𝓡 (c ∷ r ∷ []) (search reading depth 30) refl)

  -- c(0)*g_0 + c(1)*g_1 + ..
  abbrev total : (ℕ → R) → List R → R
  total c [] = nought
  total c (g ∷ gs) = add (mul (c 0) g) (total (λ m. c (suc m)) gs)

  total-agree : (c d : ℕ → R) (gs : List R) → ((m : ℕ) → m < length gs → c m ≡ d m) → total c gs ≡ total d gs
  total-agree c d [] h = refl
  total-agree c d (g ∷ gs) h = ap₂ (λ x y. add (mul x g) y) (h 0 (omega arith)) (total-agree (λ m. c (suc m)) (λ m. d (suc m)) gs (λ m low. h (suc m) (omega (arith, low))))

  total-zero : (gs : List R) → total (λ m. nought) gs ≡ nought
  total-zero [] = refl
  total-zero (g ∷ gs) = ap (add (mul nought g)) (total-zero gs) ∙ no_product g

  total-product : (u : R) (a q : ℕ → R) (gs : List R) → total (λ m. add (mul u (a m)) (q m)) gs ≡ add (mul u (total a gs)) (total q gs)
  total-product u a q [] = nothing_more u
  total-product u a q (g ∷ gs) = ap (add (mul (add (mul u (a 0)) (q 0)) g)) (total-product u (λ m. a (suc m)) (λ m. q (suc m)) gs) ∙ product_first u (a 0) (q 0) g _ _

  total-pair : (u w : R) (a b q : ℕ → R) (gs : List R) → total (λ m. add (add (mul u (a m)) (neg (mul w (b m)))) (neg (q m))) gs ≡ add (add (mul u (total a gs)) (neg (mul w (total b gs)))) (neg (total q gs))
  total-pair u w a b q [] = nothing_less u w
  total-pair u w a b q (g ∷ gs) = ap (add (mul (add (add (mul u (a 0)) (neg (mul w (b 0)))) (neg (q 0))) g)) (total-pair u w (λ m. a (suc m)) (λ m. b (suc m)) (λ m. q (suc m)) gs) ∙ pair_first u w (a 0) (b 0) (q 0) g _ _ _

get_or-nil : {X : Type 0} (d : X) (k : ℕ) → get_or [] k d ≡ d
get_or-nil d zero = refl
get_or-nil d (suc k) = refl

filter-map : {X Y : Type 0} (p : Y → Bool) (f : X → Y) (xs : List X) → filter p (map f xs) ≡ map f (filter (λ x. p (f x)) xs)
filter-map p f [] = refl
filter-map p f (x ∷ xs) = go (p (f x)) (filter-map p f xs)
  where
    go : (b : Bool) → filter p (map f xs) ≡ map f (filter (λ x. p (f x)) xs) → cond b (f x ∷ filter p (map f xs)) (filter p (map f xs)) ≡ map f (cond b (x ∷ filter (λ x. p (f x)) xs) (filter (λ x. p (f x)) xs))
    go true e = ap (λ ys. f x ∷ ys) e
    go false e = e

module _ {E : Type 0} (o : RingOps E) (l : RingLaws o) where
  -- the classes of the polynomials
  abbrev classes : List (Polynomial E) → List (Class (poly_ops o))
  classes gs = map (class (poly_ops o)) gs

  combination-total : (us gs : List (Polynomial E)) → class (poly_ops o) (combination o us gs) ≡ total (poly_ring o l) (λ m. class (poly_ops o) (get_or us m [])) (classes gs)
  unfolding combination
  combination-total [] gs = class-zero (poly_ops o) (poly_laws o l) ∙ sym (total-agree (poly_ring o l) _ (λ m. (poly_ring o l).zero) (classes gs) (λ m low. ap (class (poly_ops o)) (get_or-nil [] m) ∙ class-zero (poly_ops o) (poly_laws o l)) ∙ total-zero (poly_ring o l) (classes gs))
  combination-total (u ∷ us) [] = class-zero (poly_ops o) (poly_laws o l)
  combination-total (u ∷ us) (g ∷ gs) = combination-cons o l u g us gs ∙ ap ((poly_ring o l).add _) (combination-total us gs)

  pub combination-right : (qs fs gs : List (Polynomial E)) → AreSame o fs gs → IsSame (poly_ops o) (combination o qs fs) (combination o qs gs)
  unfolding combination
  combination-right [] fs gs s = (poly_laws o l).same_refl []
  combination-right (q ∷ qs) [] [] s = (poly_laws o l).same_refl []
  combination-right (q ∷ qs) [] (g ∷ gs) s = absurd s
  combination-right (q ∷ qs) (f ∷ fs) [] s = absurd s
  combination-right (q ∷ qs) (f ∷ fs) (g ∷ gs) s =
      (poly_laws o l).add_same (product o q f) (product o q g) (combination o qs fs) (combination o qs gs) ((poly_laws o l).mul_same q q f g ((poly_laws o l).same_refl q) s.0) (combination-right qs fs gs s.1)

  -- zeros make nothing
  zeros-sum : (n : ℕ) (fs : List (Polynomial E)) → combination o (replicate n []) fs ≡ []
  unfolding combination product
  zeros-sum zero fs = refl
  zeros-sum (suc n) [] = refl
  zeros-sum (suc n) (f ∷ fs) = zeros-sum n fs

  -- a unit list makes the polynomial at its place
  unit-sum : (fs : List (Polynomial E)) (k : ℕ) → k < length fs → IsSame (poly_ops o) (combination o (unit o (length fs) k) fs) (get_or fs k [])
  unfolding combination product
  unit-sum [] k low = absurd (omega (arith, low))
  unit-sum (f ∷ fs) zero low =
      facts.then (poly_ops o) (poly_laws o l) (facts.of_same (poly_ops o) (poly_laws o l) (ap (λ r. product o ((poly_ops o).one) f ++ r) (zeros-sum (length fs) fs) ∙ append-nil (product o ((poly_ops o).one) f)))
      (facts.one_mul (poly_ops o) (poly_laws o l) f)
  unit-sum (f ∷ fs) (suc k) low = unit-sum fs k (omega (arith, low))

  module _ (given : List (Polynomial E)) where
    -- the combinations of the polynomials given by each list
    abbrev sums : List (List (Polynomial E)) → List (Polynomial E)
    sums lists = map (λ us. combination o us given) lists

    -- the sum of the columns is the combination of the sums
    columns-sum : (qs : List (Polynomial E)) (lists : List (List (Polynomial E))) → total (poly_ring o l) (λ m. class (poly_ops o) (combination o qs (column lists m))) (classes given) ≡ class (poly_ops o) (combination o qs (sums lists))
    unfolding combination
    columns-sum [] lists = total-agree (poly_ring o l) _ (λ m. (poly_ring o l).zero) (classes given) (λ m low. class-zero (poly_ops o) (poly_laws o l)) ∙ total-zero (poly_ring o l) (classes given) ∙ sym (class-zero (poly_ops o) (poly_laws o l))
    columns-sum (q ∷ qs) [] = total-agree (poly_ring o l) _ (λ m. (poly_ring o l).zero) (classes given) (λ m low. class-zero (poly_ops o) (poly_laws o l)) ∙ total-zero (poly_ring o l) (classes given) ∙ sym (class-zero (poly_ops o) (poly_laws o l))
    columns-sum (q ∷ qs) (us ∷ lists) =
        total-agree (poly_ring o l) _ (λ m. (poly_ring o l).add ((poly_ring o l).mul (class (poly_ops o) q) (class (poly_ops o) (get_or us m []))) (class (poly_ops o) (combination o qs (column lists m)))) (classes given) (λ m low. combination-cons o l q (get_or us m []) qs (column lists m))
        ∙ total-product (poly_ring o l) (class (poly_ops o) q) (λ m. class (poly_ops o) (get_or us m [])) (λ m. class (poly_ops o) (combination o qs (column lists m))) (classes given)
        ∙ ap₂ (λ x y. (poly_ring o l).add ((poly_ring o l).mul (class (poly_ops o) q) x) y) (sym (combination-total us given)) (columns-sum qs lists)
        ∙ sym (combination-cons o l q (combination o us given) qs (sums lists))

    -- what has sums of columns as cofactors is the combination of the sums
    pub column-sums : (qs us : List (Polynomial E)) (lists : List (List (Polynomial E))) → ((m : ℕ) → m < length given → IsSame (poly_ops o) (get_or us m []) (combination o qs (column lists m)))
        → IsSame (poly_ops o) (combination o us given) (combination o qs (map (λ us. combination o us given) lists))
    column-sums qs us lists each = class_exact (poly_ops o) (poly_laws o l) _ _ (
        combination-total us given
        ∙ total-agree (poly_ring o l) _ _ (classes given) (λ m inside. class_sound (poly_ops o) (poly_laws o l) _ _ (each m (omega (arith, inside, length-map given (class (poly_ops o))))))
        ∙ columns-sum qs lists)

    -- the elements are the combinations
    abbrev pub SumUp : List (Polynomial E) → List (List (Polynomial E)) → Type 0
    SumUp list lists = AreSame o list (sums lists)

    -- an element is the combination of the polynomials given by its list
    pub sums-at : (list : List (Polynomial E)) (lists : List (List (Polynomial E))) → SumUp list lists → (k : ℕ) → k < length list → IsSame (poly_ops o) (get_or list k []) (combination o (get_or lists k []) given)
    sums-at list lists s k low =
        let long : length list ≡ length (sums lists) = length_all_zip (IsSame (poly_ops o)) list (sums lists) s in
        subst (IsSame (poly_ops o) (get_or list k [])) (get_or-map (λ us. combination o us given) lists k [] [] (omega (arith, low, long ∙ length-map lists (λ us. combination o us given)))) (same-at o l list (sums lists) s k)

    module _ (cmp : List ℕ → List ℕ → Ordering) (list : List (Polynomial E)) (lists : List (List (Polynomial E))) (s : SumUp list lists) (i j : ℕ) where
      abbrev poly : Polynomial E → Class (poly_ops o)
      poly f = class (poly_ops o) f

      abbrev first : Class (poly_ops o)
      first = term_at o l (class o (multiplier o cmp (get_or list i []) (get_or list j [])).1) (monomial (multiplier o cmp (get_or list i []) (get_or list j [])).0)

      abbrev second : Class (poly_ops o)
      second = term_at o l (class o (multiplier o cmp (get_or list j []) (get_or list i [])).1) (monomial (multiplier o cmp (get_or list j []) (get_or list i [])).0)

      class-combined : (qs : List (Polynomial E)) (m : ℕ) → poly (combined o cmp list lists i j qs m) ≡ (poly_ring o l).add ((poly_ring o l).add ((poly_ring o l).mul first (poly (cofactor lists i m))) ((poly_ring o l).neg ((poly_ring o l).mul second (poly (cofactor lists j m))))) ((poly_ring o l).neg (poly (combination o qs (column lists m))))
      class-combined qs m =
          class-difference o l _ _ ∙ ap (λ x. (poly_ring o l).add x ((poly_ring o l).neg (poly (combination o qs (column lists m)))))
          (class-difference o l _ _ ∙ ap₂ (λ x y. (poly_ring o l).add x ((poly_ring o l).neg y)) (class-term_product o l (multiplier o cmp (get_or list i []) (get_or list j [])) (cofactor lists i m)) (class-term_product o l (multiplier o cmp (get_or list j []) (get_or list i [])) (cofactor lists j m)))

      class-s : poly (s_at o cmp list i j) ≡ (poly_ring o l).add ((poly_ring o l).mul first (poly (get_or list i []))) ((poly_ring o l).neg ((poly_ring o l).mul second (poly (get_or list j []))))
      unfolding s_polynomial
      class-s = class-difference o l _ _ ∙ ap₂ (λ x y. (poly_ring o l).add x ((poly_ring o l).neg y)) (class-term_product o l (multiplier o cmp (get_or list i []) (get_or list j [])) (get_or list i [])) (class-term_product o l (multiplier o cmp (get_or list j []) (get_or list i [])) (get_or list j []))

      -- a cofactor's column, multiplied out
      own-sum : (k : ℕ) → k < length list → total (poly_ring o l) (λ m. poly (cofactor lists k m)) (classes given) ≡ poly (get_or list k [])
      own-sum k low = sym (combination-total (get_or lists k []) given) ∙ sym (class_sound (poly_ops o) (poly_laws o l) _ _ (sums-at list lists s k low))

      -- what an entry adds is the combination by its cofactors
      pub rest-sums : i < length list → j < length list → (rest : Polynomial E) (us : List (Polynomial E)) → AreCofactors o cmp (length given) list lists i j rest us → IsSame (poly_ops o) rest (combination o us given)
      rest-sums low high rest us c = class_exact (poly_ops o) (poly_laws o l) rest (combination o us given) (sym (
          combination-total us given
          ∙ total-agree (poly_ring o l) _ _ (classes given) (λ m inside. class_sound (poly_ops o) (poly_laws o l) _ _ (c.each m (omega (arith, inside, length-map given (class (poly_ops o))))) ∙ class-combined c.quotients m)
          ∙ total-pair (poly_ring o l) first second (λ m. poly (cofactor lists i m)) (λ m. poly (cofactor lists j m)) (λ m. poly (combination o c.quotients (column lists m))) (classes given)
          ∙ ap₂ (λ x y. (poly_ring o l).add x ((poly_ring o l).neg y))
          (ap₂ (λ x y. (poly_ring o l).add ((poly_ring o l).mul first x) ((poly_ring o l).neg ((poly_ring o l).mul second y))) (own-sum i low) (own-sum j high) ∙ sym class-s)
          (columns-sum c.quotients lists ∙ sym (class_sound (poly_ops o) (poly_laws o l) _ _ (combination-right c.quotients list (sums lists) s)))
          ∙ sym (taken_away (poly_ring o l) (poly (s_at o cmp list i j)) (poly (combination o c.quotients list)) (poly rest)
          (class_sound (poly_ops o) (poly_laws o l) _ _ (identity o l cmp list c.quotients (s_at o cmp list i j) rest c.steps c.divides) ∙ class-add (poly_ops o) (poly_laws o l) _ _))))

    places-at : nonzeros o given ≡ map (λ k. get_or given k []) (nonzero_places o given (length given))
    places-at = ap (filter (λ f. not (is_zero o f))) (fill_by_all (λ k. get_or given k []) given (length given) [] refl (λ k low. refl)) ∙ filter-map (λ f. not (is_zero o f)) (λ k. get_or given k []) (range_with_len 0 (length given))

    -- as many unit lists as polynomials that are not zero
    pub units-number : length (units o given) ≡ length (nonzeros o given)
    units-number = length-map (nonzero_places o given (length given)) (unit o (length given)) ∙ sym (length-map (nonzero_places o given (length given)) (λ k. get_or given k [])) ∙ ap length (sym places-at)

    units-sum : (ks : List ℕ) → All (λ k. k < length given) ks → AreSame o (map (λ k. get_or given k []) ks) (sums (map (unit o (length given)) ks))
    units-sum [] low = tt
    units-sum (k ∷ ks) low = ((poly_laws o l).same_sym _ _ (unit-sum given k (All-head (λ k. k < length given) k ks low)), units-sum ks (All-tail (λ k. k < length given) k ks low))

    places-inside : All (λ k. k < length given) (nonzero_places o given (length given))
    places-inside = All-filter (λ k. not (is_zero o (get_or given k []))) (λ k. k < length given) (range_with_len 0 (length given))
        (All-from_get_or (λ k. k < length given) (range_with_len 0 (length given)) 0 (λ k low. subst (λ (x : ℕ). x < length given) (sym (get_or-range_with_len 0 (length given) k 0 (inside k low) ∙ from_zero k)) (inside k low)))
      where
        from_zero : (k : ℕ) → 0 + k ≡ k
        from_zero k = omega arith

        inside : (k : ℕ) → k < length (range_with_len 0 (length given)) → k < length given
        inside k low = omega (arith, low, length-range_with_len 0 (length given))

    lists-same : (lists others : List (List (Polynomial E))) → AllZip (AreSame o) lists others → AreSame o (sums others) (sums lists)
    lists-same [] [] s = tt
    lists-same [] (v ∷ vs) s = absurd s
    lists-same (u ∷ us) [] s = absurd s
    lists-same (u ∷ us) (v ∷ vs) s = ((poly_laws o l).same_sym _ _ (combination-same o l u v given s.0), lists-same us vs s.1)

    -- each element is the combination of the polynomials given by its cofactors
    pub combines-sums : (cmp : List ℕ → List ℕ → Ordering) {journal : List Entry} {list : List (Polynomial E)} {lists : List (List (Polynomial E))} → Combines o cmp given journal list lists → SumUp list lists
    combines-sums cmp (Combines.begin list lists s t) =
        same_trans o l list (nonzeros o given) (sums lists) s (subst (λ (fs : List (Polynomial E)). AreSame o fs (sums lists)) (sym places-at)
        (same_trans o l _ (sums (units o given)) (sums lists) (units-sum (nonzero_places o given (length given)) places-inside) (lists-same lists (units o given) t)))
    combines-sums cmp (Combines.stay journal list lists e c entry) = combines-sums cmp c
    combines-sums cmp (Combines.add journal list lists e rest us c entry of_rest) =
        let s = combines-sums cmp c in
        subst (AreSame o (list ++ rest ∷ [])) (sym (map-append (λ us. combination o us given) lists (us ∷ [])))
        (AllZip-push (IsSame (poly_ops o)) list (sums lists) rest (combination o us given) s
        (rest-sums cmp list lists s e.first e.second (omega (arith, entry.open_pair.ascending, entry.open_pair.inside)) entry.open_pair.inside rest us of_rest))
