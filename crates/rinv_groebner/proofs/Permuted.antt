-- The elements of a reduced Gröbner basis may be put into any order.
--   exchanged            the place that the element at a place had before two were exchanged
--   get_or-swap          the elements after an exchange
--   reduced-permuted     a permuted reduced basis is one
use Rattle.std.proofs.Common.{◌≡◌, ℕ, ◌<◌, Bool, true, false, cond, List, [], ◌∷◌, length, get_or, set, refl, sym, ◌∙◌, ap, subst, arith, IsTrue}
use Rattle.std.specs.Prelude.{◌==◌}
use Rattle.std.specs.List.{swap}
use Rattle.std.specs.List.Sorted.{IsPermutation, SwapsInRange, apply_swaps}
use Rattle.std.specs.declared.cmp.Ordering.{Ordering}
use Rattle.std.proofs.lemmas.Bool.{eqb-true}
use Rattle.std.proofs.lemmas.Bool.Decides.{nat_tests}
use Rattle.std.proofs.lemmas.Grind.{get_or-set_at}
use Rattle.std.proofs.lemmas.List.{length-set, get_or-set_other}
use Rattle.std.proofs.lemmas.List.Edits.{swap_is, length-swap}
use Rattle.rinv_algebra.specs.Ring.{RingOps, RingLaws, IsSame}
use Rattle.rinv_algebra.specs.Polynomial.{Polynomial, has_monomial}
use Rattle.rinv_algebra.specs.Ideal.{IsMember}
use Rattle.rinv_algebra.specs.Leading.{leading_monomial, leading_coefficient}
use Rattle.rinv_groebner.specs.Division.{lead_divides}
use Rattle.rinv_groebner.specs.Reduced.{IsReducedGroebnerBasis}
use Rattle.rinv_groebner.proofs.IdealBases.{all_at, all_from}
use Rattle.rinv_groebner.proofs.MembersOfLists.{member_generator}
use Rattle.rinv_groebner.proofs.ReducedLists.{members_trans}
use Rattle.rinv_groebner.proofs.Reducible.{first_divisor, divisor_reducible}

-- the place that the element at k had before those at a and b were exchanged
abbrev exchanged : ℕ → ℕ → ℕ → ℕ
exchanged a b k = cond (k == b) a (cond (k == a) b k)

differ : {i j : ℕ} → (i == j) ≡ false → i ≡ j → ⊥
differ {i} {j} e q = grind (arith, nat_tests, e, q)

-- the elements after an exchange
get_or-swap : {X : Type 0} (d : X) (xs : List X) (a b k : ℕ) → a < length xs → b < length xs → get_or (swap xs a b) k d ≡ get_or xs (exchanged a b k) d
get_or-swap {X} d xs a b k la lb = ap (λ ys. get_or ys k d) (sym (swap_is xs a b d la lb)) ∙ at (k == b) refl (k == a) refl
  where
    first : List X
    first = set xs a (get_or xs b d)

    at : (p : Bool) → (k == b) ≡ p → (q : Bool) → (k == a) ≡ q → get_or (set first b (get_or xs a d)) k d ≡ get_or xs (cond p a (cond q b k)) d
    at true e q f = get_or-set_at first b k (get_or xs a d) d (eqb-true k b e) (omega (arith, lb, length-set xs a (get_or xs b d)))
    at false e true f = get_or-set_other first b k (get_or xs a d) d (differ e) ∙ get_or-set_at xs a k (get_or xs b d) d (eqb-true k a f) la
    at false e false f = get_or-set_other first b k (get_or xs a d) d (differ e) ∙ get_or-set_other xs a k (get_or xs b d) d (differ f)

exchanged-inside : (a b k n : ℕ) → a < n → b < n → k < n → exchanged a b k < n
exchanged-inside a b k n la lb lk = grind (arith, nat_tests, la, lb, lk)

exchanged-twice : (a b k : ℕ) → exchanged a b (exchanged a b k) ≡ k
exchanged-twice a b k = grind (arith, nat_tests)

exchanged-injective : (a b i j : ℕ) → exchanged a b i ≡ exchanged a b j → i ≡ j
exchanged-injective a b i j e = sym (exchanged-twice a b i) ∙ ap (exchanged a b) e ∙ exchanged-twice a b j

module _ {E : Type 0} (o : RingOps E) (l : RingLaws o) (cmp : List ℕ → List ℕ → Ordering) (v : ℕ) (fs : List (Polynomial E)) where
  reduced-swap : (gs : List (Polynomial E)) (a b : ℕ) → a < length gs → b < length gs → IsReducedGroebnerBasis o cmp v fs gs → IsReducedGroebnerBasis o cmp v fs (swap gs a b)
  reduced-swap gs a b la lb r = record {
    basis = record {
      ideal = (
        all_from (IsMember o fs) [] ys (λ k low. subst (IsMember o fs) (sym (at k)) (all_at (IsMember o fs) [] gs r.basis.ideal.0 (exchanged a b k) (back k low))),
        members_trans o l ys gs fs (all_from (IsMember o ys) [] gs (λ k low. subst (IsMember o ys) (there k) (member_generator o l ys (exchanged a b k)))) r.basis.ideal.1,
      );
      divided = λ f h m n.
          let (p, inside, d, before) = first_divisor o cmp gs (leading_monomial o cmp f) (r.basis.divided f h m n) in
          divisor_reducible o cmp ys (leading_monomial o cmp f) (exchanged a b p) (subst (λ (n : ℕ). exchanged a b p < n) (sym count) (exchanged-inside a b p (length gs) la lb inside)) (subst (λ (g : Polynomial E). IsTrue (lead_divides o cmp g (leading_monomial o cmp f))) (sym (there p)) d);
    };
    monic = λ k low. subst (λ (g : Polynomial E). IsSame o (leading_coefficient o cmp g) o.one) (sym (at k)) (r.monic (exchanged a b k) (back k low));
    apart = λ i j li lj n m has. subst (λ (g : Polynomial E). lead_divides o cmp g m ≡ false) (sym (at j))
        (r.apart (exchanged a b i) (exchanged a b j) (back i li) (back j lj) (λ e. n (exchanged-injective a b i j e)) m (subst (λ (g : Polynomial E). IsTrue (has_monomial o g m)) (at i) has));
  }
    where
      ys : List (Polynomial E)
      ys = swap gs a b

      count : length ys ≡ length gs
      count = length-swap gs a b

      at : (k : ℕ) → get_or ys k [] ≡ get_or gs (exchanged a b k) []
      at k = get_or-swap [] gs a b k la lb

      there : (k : ℕ) → get_or ys (exchanged a b k) [] ≡ get_or gs k []
      there k = at (exchanged a b k) ∙ ap (λ (n : ℕ). get_or gs n []) (exchanged-twice a b k)

      back : (k : ℕ) → k < length ys → exchanged a b k < length gs
      back k low = exchanged-inside a b k (length gs) la lb (subst (λ (n : ℕ). k < n) count low)

  length-swaps : (gs : List (Polynomial E)) (moves : List (ℕ × ℕ)) → length (apply_swaps gs moves) ≡ length gs
  length-swaps gs [] = refl
  length-swaps gs (p ∷ moves) = length-swap (apply_swaps gs moves) p.0 p.1 ∙ length-swaps gs moves

  reduced-swaps : (gs : List (Polynomial E)) (moves : List (ℕ × ℕ)) → SwapsInRange (length gs) moves → IsReducedGroebnerBasis o cmp v fs gs → IsReducedGroebnerBasis o cmp v fs (apply_swaps gs moves)
  reduced-swaps gs [] inside r = r
  reduced-swaps gs (p ∷ moves) inside r =
      let e = length-swaps gs moves in
      reduced-swap (apply_swaps gs moves) p.0 p.1 (subst (λ (n : ℕ). p.0 < n) (sym e) inside.0) (subst (λ (n : ℕ). p.1 < n) (sym e) inside.1) (reduced-swaps gs moves inside.2 r)

  -- a permuted reduced basis is one
  pub reduced-permuted : (gs hs : List (Polynomial E)) → IsPermutation gs hs → IsReducedGroebnerBasis o cmp v fs gs → IsReducedGroebnerBasis o cmp v fs hs
  reduced-permuted gs hs p r = subst (IsReducedGroebnerBasis o cmp v fs) (sym p.is) (reduced-swaps gs p.moves p.below r)
