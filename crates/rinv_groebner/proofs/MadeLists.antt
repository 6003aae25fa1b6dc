-- What is made of a Gröbner basis is the reduced Gröbner basis of its ideal.
--   kept_first, kept_members, kept_nonzero    facts of the kept elements
--   made_list            something is made
--   made_reduced         what is made is a reduced Gröbner basis
--   made-same            and is determined
use Rattle.std.proofs.Common.{◌≡◌, ℕ, zero, suc, ◌<◌, Bool, true, false, List, [], ◌∷◌, length, get_or, refl, sym, ◌∙◌, ap, subst, arith, IsTrue, true≢false}
use Rattle.std.specs.Prelude.{IsFalse}
use Rattle.std.specs.List.{AllZip}
use Rattle.std.specs.declared.cmp.Ordering.{Ordering}
use Rattle.rinv_algebra.specs.Ring.{RingOps, RingLaws, FieldLaws, IsSame}
use Rattle.rinv_algebra.specs.Polynomial.{Polynomial, poly_ops, has_monomial, is_zero}
use Rattle.rinv_algebra.specs.Ideal.{IsMember}
use Rattle.rinv_algebra.specs.Leading.{leading_monomial}
use Rattle.rinv_algebra.proofs.PolynomialLaws.{poly_laws}
use Rattle.rinv_theory.proofs.Classes.{class_exact, class_dec}
use Rattle.rinv_theory.proofs.Polynomials.{polynomials}
use Rattle.rinv_theory.proofs.Monoid.{Monomial, monomial}
use Rattle.rinv_groebner.specs.Orders.{OrdersMonomials}
use Rattle.rinv_groebner.specs.Division.{lead_divides, AreSame}
use Rattle.rinv_groebner.specs.Basis.{IsGroebnerBasis, AreMembers, GenerateOneIdeal}
use Rattle.rinv_groebner.specs.Reduced.{kept, IsMadeAt, AreMade, IsReducedGroebnerBasis}
use Rattle.rinv_groebner.proofs.Ascending.{Has, has_at, place_of}
use Rattle.rinv_groebner.proofs.Bases.{equal-lead}
use Rattle.rinv_groebner.proofs.Compared.{all_monomials, InFirst}
use Rattle.rinv_groebner.proofs.FirstVariables.{order_in-well}
use Rattle.rinv_groebner.proofs.Generates.{generates}
use Rattle.rinv_groebner.proofs.IdealBases.{all_from, all_has, AreDivided, InIdeal, in_ideal-subtract}
use Rattle.rinv_groebner.proofs.Kept.{kept-in}
use Rattle.rinv_groebner.proofs.KeptDivisors.{kept_divides, kept-apart}
use Rattle.rinv_groebner.proofs.ListElements.{AllFirst}
use Rattle.rinv_groebner.proofs.MadeAt.{IsFrom, made_from, made_exists}
use Rattle.rinv_groebner.proofs.Remainders.{AreSpread, remainder}
use Rattle.rinv_groebner.proofs.Removed.{first_from}
use Rattle.rinv_groebner.proofs.MonomialLists.{Divisor, divides-divisor, divisor-divides, divisor_trans}
use Rattle.rinv_groebner.proofs.ReducedLists.{members_trans, list_reduced}
use Rattle.rinv_groebner.proofs.Reducible.{divides-parts, parts_divide, place-inside, place_reducible, reducible_place}

-- elements at all places below n, as a list
listed : {X : Type 0} (d : X) (P : ℕ → X → Type 0) (n : ℕ) → ((k : ℕ) → k < n → (x : X) × P k x) → (xs : List X) × (length xs ≡ n) × ((k : ℕ) → k < n → P k (get_or xs k d))
listed d P zero h = ([], refl, λ k low. absurd (omega arith))
listed {X} d P (suc n) h =
    let (x, p) = h 0 (omega arith) in
    let (xs, e, q) = listed d (λ k. P (suc k)) n (λ k low. h (suc k) (omega (arith, low))) in
    (x ∷ xs, ap suc e, at x xs p q)
  where
    at : (x : X) (xs : List X) → P 0 x → ((k : ℕ) → k < n → P (suc k) (get_or xs k d)) → (k : ℕ) → k < suc n → P k (get_or (x ∷ xs) k d)
    at x xs p q zero low = p
    at x xs p q (suc k) low = q k (omega (arith, low))

-- lists related at each place are related
zip_from : {X : Type 0} (R : X → X → Type 0) (d : X) (xs ys : List X) → length xs ≡ length ys → ((k : ℕ) → k < length xs → R (get_or xs k d) (get_or ys k d)) → AllZip R xs ys
zip_from R d [] [] e h = tt
zip_from R d [] (y ∷ ys) e h = absurd (omega arith)
zip_from R d (x ∷ xs) [] e h = absurd (omega arith)
zip_from R d (x ∷ xs) (y ∷ ys) e h = (h 0 (omega arith), zip_from R d xs ys (omega arith) (λ k low. h (suc k) (omega (arith, low))))

module _ {E : Type 0} (o : RingOps E) (l : RingLaws o) (field : FieldLaws o) (cmp : List ℕ → List ℕ → Ordering) (v : ℕ) (order : OrdersMonomials cmp v) (fs hs : List (Polynomial E))
    (first : AllFirst o l v hs) (nonzero : (h : Polynomial E) → Has h hs → IsFalse (is_zero o h)) (basis : IsGroebnerBasis o cmp v fs hs) where
  abbrev ks : List (Polynomial E)
  ks = kept o cmp hs

  abbrev lead_of : Polynomial E → Monomial
  lead_of g = monomial (leading_monomial o cmp g)

  in_list : {h : Polynomial E} → Has h ks → Has h hs
  in_list m = kept-in o cmp hs [] hs m

  kept_first : (h : Polynomial E) → Has h ks → InFirst o l v h
  kept_first h m = let (p, inside, e) = place_of [] hs (in_list m) in subst (InFirst o l v) e (first p)

  kept_members : AreMembers o fs ks
  kept_members = all_from (IsMember o fs) [] ks (λ k inside. all_has (IsMember o fs) hs basis.ideal.0 (in_list (has_at [] ks k inside)))

  kept_nonzero : (h : Polynomial E) → Has h ks → IsFalse (is_zero o h)
  kept_nonzero h m = nonzero h (in_list m)

  kept_spread : AreSpread o l cmp v order ks
  kept_spread = record { in_first = kept_first; nonzero = kept_nonzero; apart = kept-apart o cmp hs }

  -- something is made
  pub made_list : (gs : List (Polynomial E)) × AreMade o cmp hs gs
  made_list = let (gs, e, h) = listed [] (λ k g. IsMadeAt o cmp ks k g) (length ks) (made_exists o l field cmp v order fs ks kept_spread kept_members) in (gs, record { number = e; made = λ k inside. h k (subst (λ (n : ℕ). k < n) e inside) })

  module _ (gs : List (Polynomial E)) (made : AreMade o cmp hs gs) where
    from : (k : ℕ) → k < length gs → IsFrom o l field cmp v order fs ks k (get_or gs k [])
    from k inside =
        let m = made.made k inside in
        made_from o l field cmp v order fs ks k (get_or gs k []) m (remainder o l cmp v order fs ks kept_spread kept_members k (subst (λ (n : ℕ). k < n) made.number inside) m.steps m.rest m.division)

    made_first : AllFirst o l v gs
    made_first = first_from o l v gs (λ g m. let (k, inside, e) = place_of [] gs m in subst (InFirst o l v) e (from k inside).in_first)

    made_members : AreMembers o fs gs
    made_members = all_from (IsMember o fs) [] gs (λ k inside. (from k inside).member)

    made_divided : AreDivided o l v cmp order fs gs
    made_divided f h m n =
        let ((p, z), d) = reducible_place o cmp hs (leading_monomial o cmp f) (basis.divided f h m n) in
        let (k, there, c) = kept_divides o cmp hs p (place-inside o cmp hs (p, z)) in
        let inside : k < length gs = subst (λ (n : ℕ). k < n) (sym made.number) there in
        place_reducible o cmp gs (leading_monomial o cmp f) (k, (from k inside).nonzero) (subst (λ x. Divisor x (lead_of f)) (sym (from k inside).lead) (divisor_trans _ _ _ c d))

    -- the ideal is the same
    same_ideal : GenerateOneIdeal o fs gs
    same_ideal = (
      made_members,
      members_trans o l gs hs fs (all_from (IsMember o gs) [] hs (λ k inside. generates o l cmp v order gs made_first field fs made_members made_divided (get_or hs k []) (first k) (all_has (IsMember o fs) hs basis.ideal.0 (has_at [] hs k inside)))) basis.ideal.1,
    )

    -- what is made is a reduced Gröbner basis
    pub made_reduced : IsReducedGroebnerBasis o cmp v fs gs
    made_reduced = record {
      basis = record { ideal = same_ideal; divided = made_divided };
      monic = λ k inside. (from k inside).monic;
      apart = λ i j low high differ m has. off i j low high differ m has (lead_divides o cmp (get_or gs j []) m) refl;
    }
      where
        off : (i j : ℕ) → i < length gs → j < length gs → (i ≡ j → ⊥) → (m : List ℕ) → IsTrue (has_monomial o (get_or gs i []) m) → (b : Bool) → lead_divides o cmp (get_or gs j []) m ≡ b → b ≡ false
        off i j low high differ m has false e = refl
        off i j low high differ m has true e =
            let there : j < length ks = subst (λ (n : ℕ). j < n) made.number high in
            absurd (true≢false (sym (parts_divide o cmp (get_or ks j []) m (kept_nonzero _ (has_at [] ks j there)) (divisor-divides _ m (subst (λ x. Divisor x (monomial m)) (from j high).lead (divides-divisor _ m (divides-parts o cmp (get_or gs j []) m e).1))))
            ∙ (from i low).irreducible j there (λ q. differ (sym q)) m has))

  -- and nothing else
  pub made-same : (gs hs' : List (Polynomial E)) → AreMade o cmp hs gs → AreMade o cmp hs hs' → AreSame o gs hs'
  made-same gs gs' made made' = zip_from (IsSame (poly_ops o)) [] gs gs' (made.number ∙ sym made'.number) (λ k low.
      let there : k < length gs' = subst (λ (n : ℕ). k < n) (made.number ∙ sym made'.number) low in
      class_exact (poly_ops o) (poly_laws o l) _ _ (sym (equal-lead (polynomials o l) (all_monomials cmp v order) (InIdeal o l v fs) (class_dec o l) (order_in-well cmp order.laws v).least (in_ideal-subtract o l v fs)
      (list_reduced o l field cmp v order fs gs (made_first gs made) (made_reduced gs made)) (list_reduced o l field cmp v order fs gs' (made_first gs' made') (made_reduced gs' made'))
      (k, (from gs made k low).nonzero) (k, (from gs' made' k there).nonzero) ((from gs' made' k there).lead ∙ sym (from gs made k low).lead))))
