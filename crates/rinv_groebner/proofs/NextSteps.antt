-- Division goes on: a polynomial has a next cancelling step or is irreducible, and the steps end.
--   next_or_irreducible    the greatest reducible monomial, where there is one
--   next_step            the step that cancels it
--   division_exists      each polynomial can be divided
use Rattle.std.proofs.Common.{◌≡◌, ◌⊎◌, ℕ, Bool, true, false, List, [], ◌∷◌, get_or, map, cond, refl, sym, ◌∙◌, ap, subst, inl, inr, IsTrue}
use Rattle.std.specs.Prelude.{filter, unwrap_or, if◌then◌else◌}
use Rattle.std.specs.List.{reduce}
use Rattle.std.specs.Ordering.{is_lt, is_ge}
use Rattle.std.specs.declared.cmp.Ordering.{Ordering}
use mathlib.Core.WellFounded.{Acc}
use Rattle.rinv_algebra.specs.Ring.{RingOps, RingLaws, FieldLaws, IsSame}
use Rattle.rinv_algebra.specs.Monomial.{quotient}
use Rattle.rinv_algebra.specs.Polynomial.{Polynomial, coefficient, has_monomial, monomials, term_product, difference}
use Rattle.rinv_algebra.specs.Leading.{leading_monomial, leading_coefficient}
use Rattle.rinv_algebra.proofs.PolynomialLaws.{poly_laws}
use Rattle.rinv_theory.proofs.AlikeSolver.{alike_ring, alike_by, alike_reading}
use Rattle.rinv_theory.proofs.Monoid.{IsOne, Monomial, monomial}
use Rattle.rinv_groebner.specs.Orders.{OrdersMonomials}
use Rattle.rinv_groebner.specs.Division.{Step, is_reducible, IsIrreducible, IsNext, IsStep, IsDivision}
use Rattle.rinv_groebner.proofs.Ascending.{Has}
use Rattle.rinv_groebner.proofs.Greatest.{has-filter, filter-passes, reduced}
use Rattle.rinv_groebner.proofs.FirstVariables.{order_in-well}
use Rattle.rinv_groebner.proofs.LeadingMonomials.{present, has_monomial-same}
use Rattle.rinv_groebner.proofs.MonomialLists.{product-quotient}
use Rattle.rinv_groebner.proofs.Compared.{all_monomials, InFirst, compare-right}
use Rattle.rinv_groebner.proofs.ListElements.{AllFirst, lead-inverse}
use Rattle.rinv_groebner.proofs.Reducible.{divides-parts, first_divisor, divisor_reducible, reducible-one}
use Rattle.rinv_groebner.proofs.StepClasses.{step-first, step-falls}
use Rattle.rinv_groebner.proofs.Paths.{Path, path_steps}

within-first : {A : Type 0} (x y : A) (ys zs : List A) → Has x (y ∷ zs) → (Has x zs → Has x ys) → Has x (y ∷ ys)
within-first x y ys zs Has.first again = Has.first
within-first x y ys zs (Has.later m) again = Has.later (again m)

-- an element of a filtered list is in the list
filter-within : {A : Type 0} (test : A → Bool) (x : A) (xs : List A) → Has x (filter test xs) → Has x xs
filter-within test x [] h = h
filter-within test x (y ∷ xs) h = go (test y) h (filter-within test x xs)
  where
    go : (b : Bool) → Has x (cond b (y ∷ filter test xs) (filter test xs)) → (Has x (filter test xs) → Has x xs) → Has x (y ∷ xs)
    go true m again = within-first x y xs (filter test xs) m again
    go false m again = Has.later (again m)

module _ {E : Type 0} (o : RingOps E) (l : RingLaws o) (field : FieldLaws o) (cmp : List ℕ → List ℕ → Ordering) (v : ℕ) (order : OrdersMonomials cmp v) (hs : List (Polynomial E)) where
  -- the reducible monomials that f has
  abbrev candidates : Polynomial E → List (List ℕ)
  candidates f = filter (is_reducible o cmp hs) (monomials o f)

  listed : (f : Polynomial E) (e : List ℕ) → IsTrue (has_monomial o f e) → IsTrue (is_reducible o cmp hs e) → (a : List ℕ) × Has a (candidates f) × IsOne a e
  listed f e h r =
      let (a, k, s) = present o l f e h in
      (a, has-filter (is_reducible o cmp hs) (has-filter (has_monomial o f) k (has_monomial-same o l f a e s ∙ h)) (reducible-one o cmp hs a e s ∙ r), s)

  nothing : {a : List ℕ} → Has a [] → ⊥
  nothing m = elim m [ ]

  -- the greatest reducible monomial, where there is one
  pub next_or_irreducible : (f : Polynomial E) → ((m : List ℕ) × (p : ℕ) × IsNext o cmp hs f m p) ⊎ IsIrreducible o cmp hs f
  next_or_irreducible f = go (candidates f) refl
    where
      none : candidates f ≡ [] → (m : List ℕ) → IsTrue (has_monomial o f m) → (b : Bool) → is_reducible o cmp hs m ≡ b → is_reducible o cmp hs m ≡ false
      none e m h true r = let (a, k, s) = listed f m h r in absurd (nothing (subst (Has a) e k))
      none e m h false r = r

      some : {x : List ℕ} → Has x (candidates f) → (m : List ℕ) × (p : ℕ) × IsNext o cmp hs f m p
      some {x} k =
          let m : List ℕ = unwrap_or (reduce (λ a b. if is_lt (cmp a b) then b else a) (candidates f)) [] in
          let r : Has m (candidates f) × ((z : List ℕ) → Has z (candidates f) → IsTrue (is_ge (cmp m z))) = reduced cmp order.laws.total (candidates f) [] k in
          let (p, inside, divides, first) = first_divisor o cmp hs m (filter-passes (is_reducible o cmp hs) (monomials o f) r.0) in (
            m,
            p,
            record {
              has = filter-passes (has_monomial o f) (map (λ t. t.0) f) (filter-within (is_reducible o cmp hs) m (monomials o f) r.0);
              greatest = λ e h d. let (a, j, s) = listed f e h d in subst (λ (c : Ordering). IsTrue (is_ge c)) (compare-right cmp v order m a e s) (r.1 a j);
              inside = inside;
              divides = divides;
              first = first;
            },
          )

      go : (ms : List (List ℕ)) → candidates f ≡ ms → ((m : List ℕ) × (p : ℕ) × IsNext o cmp hs f m p) ⊎ IsIrreducible o cmp hs f
      go [] e = inr (λ m h. none e m h (is_reducible o cmp hs m) refl)
      go (x ∷ ms) e = inl (some (subst (Has x) (sym e) Has.first))

  over_lead : (f c y : E) → IsSame o (o.mul c y) o.one → IsSame o (o.mul (o.mul f y) c) f
  over_lead f c y h = alike_by o l (o.mul c y) o.one f _ _ h (alike_ring o l (f ∷ c ∷ y ∷ []) (search alike_reading depth 30) refl)

  -- the step that cancels it
  pub next_step : (f : Polynomial E) (m : List ℕ) (p : ℕ) → IsNext o cmp hs f m p → (s : Step E) × (left : Polynomial E) × (step : IsStep o cmp hs f s left) × (step.cancelled ≡ m)
  next_step f m p n =
      let h = get_or hs p [] in
      let both = divides-parts o cmp h m n.divides in
      let inverse = lead-inverse o l field cmp v order h both.0 in
      let s : Step E = record { place = p; multiplier = (quotient m (leading_monomial o cmp h), o.mul (coefficient o f m) inverse.0) } in (
        s,
        difference o f (term_product o s.multiplier h),
        record {
          cancelled = m;
          next = n;
          monomial = product-quotient m (leading_monomial o cmp h) both.1;
          coefficient = over_lead (coefficient o f m) (leading_coefficient o cmp h) inverse.0 inverse.1;
          taken = (poly_laws o l).same_refl _;
        },
        refl,
      )

  module _ (first : AllFirst o l v hs) where
    -- steps to a rest that is irreducible
    abbrev Ends : Polynomial E → Type 0
    Ends f = (steps : List (Step E)) × (rest : Polynomial E) × Path o cmp hs f steps rest × IsIrreducible o cmp hs rest

    ends : (f : Polynomial E) → InFirst o l v f → (m : List ℕ) (p : ℕ) → IsNext o cmp hs f m p → (y : Monomial) → monomial m ≡ y → Acc (all_monomials cmp v order).below y → Ends f
    ends f r m p n y e (Acc.intro x h) = one (next_step f m p n) (λ g r k q n low. ends g r k q n (monomial k) refl (h (monomial k) low))
      where
        one : (s : Step E) × (left : Polynomial E) × (step : IsStep o cmp hs f s left) × (step.cancelled ≡ m)
            → ((g : Polynomial E) → InFirst o l v g → (k : List ℕ) (q : ℕ) → IsNext o cmp hs g k q → (all_monomials cmp v order).below (monomial k) x → Ends g) → Ends f
        one (s, left, step, i) again = elim (next_or_irreducible left) [
          | inl (k, q, n) ↦
              let low : (all_monomials cmp v order).below (monomial k) (monomial step.cancelled) = step-falls o l cmp step v order first r k n.has (divisor_reducible o cmp hs k q n.inside n.divides) in
              let rest = again left (step-first o l cmp step v order first r) k q n (subst ((all_monomials cmp v order).below (monomial k)) (ap monomial i ∙ e) low) in
              (s ∷ rest.0, rest.1, Path.take step rest.2, rest.3)
          | inr irreducible ↦ (s ∷ [], left, Path.take step (Path.stay ((poly_laws o l).same_refl left)), irreducible)
        ]

    -- each polynomial can be divided
    pub division_exists : (f : Polynomial E) → InFirst o l v f → (steps : List (Step E)) × (rest : Polynomial E) × IsDivision o cmp hs f steps rest
    division_exists f r = go (next_or_irreducible f)
      where
        whole : Ends f → (steps : List (Step E)) × (rest : Polynomial E) × IsDivision o cmp hs f steps rest
        whole (steps, rest, p, irreducible) = (steps, rest, record { by_steps = path_steps o cmp hs l p; irreducible = irreducible })

        go : ((m : List ℕ) × (p : ℕ) × IsNext o cmp hs f m p) ⊎ IsIrreducible o cmp hs f → (steps : List (Step E)) × (rest : Polynomial E) × IsDivision o cmp hs f steps rest
        go (inl (m, p, n)) = whole (ends f r m p n (monomial m) refl ((order_in-well cmp order.laws v).well_founded.apply (monomial m)))
        go (inr irreducible) = whole ([], f, Path.stay ((poly_laws o l).same_refl f), irreducible)
