-- A Gröbner basis in grevlex is one in further variables too, so what division by it leaves is reduced against members in any variables.
--   further-basis        the basis, in further variables
--   division-reduced     no leading monomial of a member divides a monomial of what division leaves
use Rattle.std.proofs.Common.{◌≡◌, ℕ, ◌+◌, ◌*◌, ◌≤◌, Bool, true, false, List, [], ◌∷◌, map, length, refl, sym, ◌∙◌, ap, subst, subst₂, arith, IsTrue, append-nil, true≢false}
use Rattle.std.specs.Prelude.{nat_le, IsFalse}
use Rattle.std.proofs.lemmas.Bool.Decides.{nat_tests}
use Rattle.rinv_algebra.specs.Ring.{RingOps, RingLaws, FieldLaws}
use Rattle.rinv_algebra.specs.Monomial.{divides}
use Rattle.rinv_algebra.specs.Order.{grevlex}
use Rattle.rinv_algebra.specs.Polynomial.{Polynomial, poly_ops, has_monomial, is_zero, past}
use Rattle.rinv_algebra.specs.Normal.{is_in_variables}
use Rattle.rinv_algebra.specs.Ideal.{IsMember}
use Rattle.rinv_algebra.specs.Leading.{IsLeadingMonomial, leading_monomial}
use Rattle.rinv_algebra.proofs.Same.{and_true}
use Rattle.rinv_theory.proofs.Classes.{class}
use Rattle.rinv_theory.proofs.Leads.{Leads, lead-unique}
use Rattle.rinv_theory.proofs.Monoid.{monomial}
use Rattle.rinv_theory.proofs.Polynomials.{polynomials}
use Rattle.rinv_theory.proofs.Variables.{in_variables-of}
use Rattle.rinv_groebner.specs.Orders.{AreInVariables}
use Rattle.rinv_groebner.specs.Division.{is_reducible, IsIrreducible}
use Rattle.rinv_groebner.specs.Basis.{IsGroebnerBasis}
use Rattle.rinv_groebner.specs.Copies.{copies}
use Rattle.rinv_groebner.proofs.Compared.{all_monomials, InFirst, leading-leads, class_leads}
use Rattle.rinv_groebner.proofs.CopiesBasis.{copies-basis}
use Rattle.rinv_groebner.proofs.KnownOrders.{grevlex_orders}
use Rattle.rinv_groebner.proofs.IdealBases.{leads-nonzero}
use Rattle.rinv_groebner.proofs.MonomialLists.{Divisor, divides-divisor, divisor_trans}
use Rattle.rinv_groebner.proofs.Reducible.{reducible_place, place_reducible}

past-none : {E : Type 0} (f : Polynomial E) → past 0 f ≡ f
past-none [] = refl
past-none ((m, c) ∷ f) = ap (λ (g : Polynomial _). (m, c) ∷ g) (past-none f)

-- one copy is the list
one_copy : {E : Type 0} (v : ℕ) (fs : List (Polynomial E)) → copies 1 v fs ≡ fs
one_copy {E} v fs = append-nil (map (past (0 * v)) fs) ∙ ap (λ (k : ℕ). map (past k) fs) none ∙ go fs
  where
    none : 0 * v ≡ 0
    none = omega arith

    go : (fs : List (Polynomial E)) → map (past 0) fs ≡ fs
    go [] = refl
    go (f ∷ fs) = ap (λ (g : Polynomial E). g ∷ map (past 0) fs) (past-none f) ∙ ap (λ (gs : List (Polynomial E)). f ∷ gs) (go fs)

-- a number of variables that holds those of f
width : {E : Type 0} → Polynomial E → ℕ
width [] = 0
width ((m, c) ∷ f) = length m + width f

in_width : {E : Type 0} (f : Polynomial E) (n : ℕ) → width f ≤ n → IsTrue (is_in_variables n f)
unfolding width
in_width [] n low = refl
in_width ((m, c) ∷ f) n low = let fits : length m ≤ n = omega (arith, low) in and_true (nat_le (length m) n) _ (grind (arith, nat_tests, fits)) (in_width f n (omega (arith, low)))

module _ {E : Type 0} (o : RingOps E) (l : RingLaws o) (field : FieldLaws o) (v : ℕ) (fs hs : List (Polynomial E)) (in_v : AreInVariables v hs) (b : IsGroebnerBasis o grevlex v fs hs) where
  -- a basis is one in further variables
  pub further-basis : (n : ℕ) → IsGroebnerBasis o grevlex (v + n) fs hs
  further-basis n = subst (λ (m : ℕ). IsGroebnerBasis o grevlex m fs hs) same_number (subst₂ (IsGroebnerBasis o grevlex (1 * v + n)) (one_copy v fs) (one_copy v hs) (copies-basis o l field 1 v n fs hs in_v b))
    where
      same_number : 1 * v + n ≡ v + n
      same_number = omega arith

  -- as many as hold those of the basis and of g
  abbrev number : Polynomial E → ℕ
  number g = v + width g

  -- no leading monomial of a member divides a monomial of an irreducible polynomial
  pub division-reduced : (r : Polynomial E) → IsIrreducible o grevlex hs r → (g : Polynomial E) (m e : List ℕ) → IsMember o fs g → IsLeadingMonomial o grevlex g m → IsTrue (has_monomial o r e) → IsFalse (divides m e)
  division-reduced r irreducible g m e member leads has = go (divides m e) refl
    where
      written : IsTrue (is_in_variables (number g) g)
      written = in_width g (number g) (omega arith)

      in_first : InFirst o l (number g) g
      in_first = in_variables-of o l (number g) g written

      lead : Leads (polynomials o l) (all_monomials grevlex (number g) (grevlex_orders (number g))) (class (poly_ops o) g) (monomial m)
      lead = leading-leads o l (number g) grevlex (grevlex_orders (number g)) g in_first m leads

      nonzero : IsFalse (is_zero o g)
      nonzero = leads-nonzero o l (all_monomials grevlex (number g) (grevlex_orders (number g))) g (monomial m) lead

      same_lead : monomial (leading_monomial o grevlex g) ≡ monomial m
      same_lead = lead-unique (polynomials o l) (all_monomials grevlex (number g) (grevlex_orders (number g))) (class_leads o l (number g) grevlex (grevlex_orders (number g)) g in_first nonzero) lead

      reducible : IsTrue (divides m e) → IsTrue (is_reducible o grevlex hs e)
      reducible d =
          let (k, divisor) = reducible_place o grevlex hs (leading_monomial o grevlex g) ((further-basis (width g)).divided g written member nonzero) in
          place_reducible o grevlex hs e k (divisor_trans _ (monomial m) (monomial e) (subst (Divisor _) same_lead divisor) (divides-divisor m e d))

      go : (t : Bool) → divides m e ≡ t → t ≡ false
      go false d = refl
      go true d = absurd (true≢false (sym (reducible d) ∙ irreducible e has))
