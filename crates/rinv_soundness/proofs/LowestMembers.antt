-- With the reduced basis of the extended ideal, a member that has no reducible monomial is zero.
--   IsReducibleBy leads m    m is the monomial of a list that a lead divides
--   multiple-variables   what has a multiple without denominators is the class of a sum in the first n variables
--   basis-lowest         the fact
use Rattle.std.proofs.Common.{◌≡◌, ◌⊎◌, ℕ, ◌≤◌, Bool, true, false, List, [], ◌∷◌, length, length-take, take, map, refl, sym, ◌∙◌, ap, subst₂, arith, inl, inr, true≢false}
use Rattle.std.specs.Prelude.{IsTrue, ◌||◌}
use Rattle.std.specs.List.{list_any}
use mathlib.Core.Logic.{∥∥₁_prop, ∥∥₁_elim, ∥∥₁_map}
use Rattle.rinv_algebra.specs.Ring.{RingOps, RingLaws, FieldLaws}
use Rattle.rinv_algebra.specs.Monomial.{divides}
use Rattle.rinv_algebra.specs.Order.{grevlex}
use Rattle.rinv_algebra.specs.Polynomial.{Polynomial, poly_ops}
use Rattle.rinv_algebra.specs.Fraction.{Fraction, fraction_ops}
use Rattle.rinv_algebra.specs.Normal.{is_in_variables}
use Rattle.rinv_algebra.proofs.Grevlex.{grevlex_laws}
use Rattle.rinv_theory.proofs.Classes.{Class, class, class_ring, class_dec}
use Rattle.rinv_theory.proofs.Monoid.{Monomial, monomial, monomials, monomial_ind}
use Rattle.rinv_theory.proofs.Polynomials.{polynomials, coefficient_at}
use Rattle.rinv_theory.proofs.Of.{Of, of_any, of_where, of-weaken}
use Rattle.rinv_theory.proofs.Leads.{Leads, zero_or_lead}
use Rattle.rinv_theory.proofs.Places.{front, front-list}
use Rattle.rinv_theory.proofs.Variables.{IsFront, of-in_variables}
use Rattle.rinv_theory.proofs.Fields.{fraction_laws}
use Rattle.rinv_groebner.proofs.FirstVariables.{order_in}
use Rattle.rinv_groebner.proofs.LeadingMonomials.{leads-out}
use Rattle.rinv_defs.specs.System.{System, space_count}
use Rattle.rinv_defs.specs.Generators.{rational_ops}
use Rattle.rinv_defs.specs.Extended.{Relation, action_ideal, IsReducedBasis}
use Rattle.rinv_soundness.proofs.OverFractions.{Inner, Over, over_ring}
use Rattle.rinv_soundness.proofs.HasMultiples.{HasMultiple, multiple-front}
use Rattle.rinv_soundness.proofs.ExtendedIdeals.{Extended, has-extended, ops, laws, field}

-- m is the monomial of a list that one of the leads divides
abbrev pub IsReducibleBy : List (List ℕ) → Monomial → Type 0
IsReducibleBy leads m = (a : List ℕ) × (monomial a ≡ m) × IsTrue (list_any (λ r. divides r a) leads)

-- a test of the images of a list
pub any-map : {X Y : Type 0} (f : X → Y) (test : Y → Bool) (xs : List X) → list_any test (map f xs) ≡ list_any (λ x. test (f x)) xs
any-map f test [] = refl
any-map f test (x ∷ xs) = ap (λ (b : Bool). test (f x) || b) (any-map f test xs)

module _ {E : Type 0} (o : RingOps E) (l : RingLaws o) (field : FieldLaws o) (n : ℕ) {M : Inner o l field → Type 0} {x : Over o l field} (a : HasMultiple o l field n M x) where
  -- what has a multiple without denominators is a sum of terms in the first n variables
  pub multiple-of_front : ∥ Of (polynomials (fraction_ops o) (fraction_laws o l field)) (IsFront n) x ∥₁
  multiple-of_front = ∥∥₁_map (of_any (polynomials (fraction_ops o) (fraction_laws o l field)) x) (λ r.
      of-weaken (polynomials (fraction_ops o) (fraction_laws o l field)) (λ m q. monomials.same_eq (front n m) m q.1)
      (of_where (polynomials (fraction_ops o) (fraction_laws o l field)) (λ m. monomials.same (front n m) m) r (λ e off. multiple-front o l field n a e (λ q. true≢false (sym (monomials.same_refl e) ∙ ap (λ k. monomials.same k e) (sym q) ∙ off)))))

  -- and the class of a formal sum in them
  pub multiple-variables : ∥ ((f : Polynomial (Fraction E)) × IsTrue (is_in_variables n f) × (class (poly_ops (fraction_ops o)) f ≡ x)) ∥₁
  multiple-variables = ∥∥₁_elim multiple-of_front ∥∥₁_prop (of-in_variables (fraction_ops o) (fraction_laws o l field) n)

module _ (s : System) (rs : List Relation) (basis : IsReducedBasis s rs) where
  abbrev Coefficient : Class (poly_ops (rational_ops s.p)) → Monomial → Class (rational_ops s.p)
  Coefficient x m = coefficient_at (rational_ops s.p) (fraction_laws (ops s) (laws s) (field s)) x m

  abbrev Zero : Class (rational_ops s.p)
  Zero = (class_ring (rational_ops s.p) (fraction_laws (ops s) (laws s) (field s))).zero

  -- a member of the extended ideal without reducible monomials is zero
  pub basis-lowest : (x : Class (poly_ops (rational_ops s.p))) → Extended s (action_ideal s) x → ((m : Monomial) → IsReducibleBy (map (λ r. r.lead) rs) m → Coefficient x m ≡ Zero) → x ≡ (over_ring (ops s) (laws s) (field s)).zero
  basis-lowest x a irreducible = ∥∥₁_elim (zero_or_lead (polynomials (rational_ops s.p) (fraction_laws (ops s) (laws s) (field s))) (order_in grevlex grevlex_laws (space_count s)) (class_dec (rational_ops s.p) (fraction_laws (ops s) (laws s) (field s))) x) ((over_ring (ops s) (laws s) (field s)).is_set _ _) go
    where
      absent : (m : Monomial) → (b : Bool) → monomials.same (front (space_count s) m) m ≡ b → (Coefficient x m ≡ Zero → ⊥) → IsFront (space_count s) m
      absent m true e nz = monomials.same_eq _ _ e
      absent m false e nz = absurd (nz (multiple-front (ops s) (laws s) (field s) (space_count s) a m (λ q. true≢false (sym (monomials.same_refl m) ∙ ap (λ k. monomials.same k m) (sym q) ∙ e))))

      LeadsIn : Class (poly_ops (rational_ops s.p)) → Monomial → Type 0
      LeadsIn x m = Leads (polynomials (rational_ops s.p) (fraction_laws (ops s) (laws s) (field s))) (order_in grevlex grevlex_laws (space_count s)) x m

      at_list : (b : List ℕ) → Leads (polynomials (rational_ops s.p) (fraction_laws (ops s) (laws s) (field s))) (order_in grevlex grevlex_laws (space_count s)) x (monomial b) → ⊥
      at_list b lead = ∥∥₁_elim (multiple-variables (ops s) (laws s) (field s) (space_count s) a) (λ x y. absurd x) (λ (f, in_variables, at). ∥∥₁_elim (has-extended s a f at) (λ x y. absurd x) (λ member.
          let in_front : monomial (take (space_count s) b) ≡ monomial b = sym (front-list (space_count s) b) ∙ absent (monomial b) _ refl lead.nonzero in
          let short : length (take (space_count s) b) ≤ space_count s = omega (arith, length-take (space_count s) b) in
          lead.nonzero (irreducible (monomial b) (
            take (space_count s) b,
            in_front,
            any-map (λ r. r.lead) (λ r. divides r (take (space_count s) b)) rs ∙ (basis.leads (take (space_count s) b) short).0
                (f, member, leads-out (rational_ops s.p) (fraction_laws (ops s) (laws s) (field s)) grevlex grevlex_laws (space_count s) f in_variables (take (space_count s) b) (subst₂ LeadsIn (sym at) (sym in_front) lead)),
          ))))

      go : (x ≡ (over_ring (ops s) (laws s) (field s)).zero) ⊎ ((m : Monomial) × Leads (polynomials (rational_ops s.p) (fraction_laws (ops s) (laws s) (field s))) (order_in grevlex grevlex_laws (space_count s)) x m) → x ≡ (over_ring (ops s) (laws s) (field s)).zero
      go (inl e) = e
      go (inr (m, lead)) = absurd (monomial_ind (λ m. Leads (polynomials (rational_ops s.p) (fraction_laws (ops s) (laws s) (field s))) (order_in grevlex grevlex_laws (space_count s)) x m → ⊥) (λ m. hlevel) at_list m lead)
