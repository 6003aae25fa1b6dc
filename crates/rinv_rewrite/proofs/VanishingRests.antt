-- A denominator whose rest has no value vanishes on the section.
--   rest-vanishes    the fact
use Rattle.std.proofs.Common.{◌≡◌, ℕ, Bool, true, false, not, List, [], map, refl, sym, ◌∙◌, ap, ap₂, subst, true≢false}
use Rattle.std.specs.Prelude.{IsTrue}
use Rattle.std.specs.List.{list_any}
use mathlib.Core.Logic.{∥∥₁_elim, ∥∥₁_prop}
use Rattle.rinv_algebra.specs.Ring.{RingLaws}
use Rattle.rinv_algebra.specs.Residue.{residue_ops}
use Rattle.rinv_algebra.specs.Monomial.{divides}
use Rattle.rinv_algebra.specs.Polynomial.{poly_ops, coefficient}
use Rattle.rinv_algebra.specs.Normal.{is_in_variables}
use Rattle.rinv_algebra.proofs.PolynomialLaws.{poly_laws}
use Rattle.rinv_algebra.proofs.Same.{coefficient-absent, same-from_coefficients}
use Rattle.rinv_theory.proofs.Classes.{Class, class, class_sound, class_exact, class-add, class-neg, class-zero}
use Rattle.rinv_theory.proofs.Monoid.{monomial}
use Rattle.rinv_theory.proofs.Polynomials.{poly_ring, coefficient_at, class-coefficient}
use Rattle.rinv_theory.proofs.Ideals.{In}
use Rattle.rinv_theory.proofs.Members.{member-in}
use Rattle.rinv_theory.proofs.Variables.{in_variables-of}
use Rattle.rinv_theory.proofs.Fields.{fraction_laws}
use Rattle.rinv_defs.specs.System.{System, Poly, space_count}
use Rattle.rinv_defs.specs.Invariant.{Fraction}
use Rattle.rinv_defs.specs.Generators.{rational_ops, value_at}
use Rattle.rinv_defs.specs.Extended.{Vanishes, action_ideal}
use Rattle.rinv_soundness.specs.Rewriting.{SymbolPoly, SymbolRelation, at_fractions, in_z, IsSymbolBasis, IsRestBy}
use Rattle.rinv_soundness.proofs.OverFractions.{to_z}
use Rattle.rinv_soundness.proofs.ExtendedIdeals.{ops, laws, field, ideal-add, ideal-mul}
use Rattle.rinv_soundness.proofs.LowestMembers.{IsReducibleBy, any-map}
use Rattle.rinv_soundness.proofs.Ratios as ratios
use Rattle.rinv_soundness.proofs.Rewritten.{val, IsRewriting, symbol_basis, nothing_in, in_space, G, relation_at, Rest}
use Rattle.rinv_soundness.proofs.SymbolValues.{value_hom, value-class, values-class, values-coefficient, in_z-class}
use Rattle.rinv_soundness.proofs.Vanishing.{extended-vanishes}
use Rattle.rinv_rewrite.specs.Taken.{HasNoValue}

module _ (s : System) where
  abbrev rational_laws : RingLaws (rational_ops s.p)
  rational_laws = fraction_laws (ops s) (laws s) (field s)

  abbrev symbols : SymbolPoly → Class (poly_ops (poly_ops (residue_ops s.p)))
  symbols f = class (poly_ops (poly_ops (ops s))) f

module _ (s : System) (c : List Fraction) (b : SymbolPoly) where
  -- the coefficient of the value is the value of the coefficient
  value-at : (m : List ℕ) → class (rational_ops s.p) (coefficient (rational_ops s.p) (at_fractions s.p c b) m) ≡ class (rational_ops s.p) (value_at s.p c (coefficient (poly_ops (residue_ops s.p)) b m))
  unfolding value_at
  value-at m =
      sym (class-coefficient (rational_ops s.p) (rational_laws s) (at_fractions s.p c b) m)
      ∙ ap (λ x. coefficient_at (rational_ops s.p) (rational_laws s) x (monomial m)) (values-class (ops s) (laws s) (field s) c b)
      ∙ values-coefficient (ops s) (laws s) (field s) c (symbols s b) (monomial m)
      ∙ ap (value_hom (ops s) (laws s) (field s) c).at (class-coefficient (poly_ops (ops s)) (poly_laws (ops s) (laws s)) b m)
      ∙ sym (value-class (ops s) (laws s) (field s) c (coefficient (poly_ops (ops s)) b m))

  -- where no coefficient has a value, the value is zero
  no_value : HasNoValue s.p c b → val s c (symbols s b) ≡ (poly_ring (rational_ops s.p) (rational_laws s)).zero
  unfolding value_at
  no_value none =
      sym (values-class (ops s) (laws s) (field s) c b)
      ∙ class_sound (poly_ops (rational_ops s.p)) (poly_laws (rational_ops s.p) (rational_laws s)) (at_fractions s.p c b) []
      (same-from_coefficients (rational_ops s.p) (at_fractions s.p c b) [] (λ m. class_exact (rational_ops s.p) (rational_laws s) _ _ (value-at m ∙ class_sound (rational_ops s.p) (rational_laws s) _ _ (none m) ∙ nothing m)))
      ∙ class-zero (poly_ops (rational_ops s.p)) (poly_laws (rational_ops s.p) (rational_laws s))
    where
      nothing : (m : List ℕ) → class (rational_ops s.p) (rational_ops s.p).zero ≡ class (rational_ops s.p) (coefficient (rational_ops s.p) [] m)
      nothing m = ap (class (rational_ops s.p)) (sym (coefficient-absent (rational_ops s.p) m [] tt))

  module _ (qs : List SymbolRelation) (basis : IsSymbolBasis s c qs) (q : Poly) (rest : IsRestBy s qs (in_z s.p q) b) where
    abbrev w : IsRewriting s (action_ideal s) c qs
    w = symbol_basis s c qs basis

    -- the rest on classes
    is_rest : Rest s (action_ideal s) c qs w ((to_z (ops s) (laws s) (field s)).at (class (poly_ops (ops s)) q)) (symbols s b)
    is_rest = record {
      congruent = subst (In (poly_ring (poly_ops (ops s)) (poly_laws (ops s) (laws s))) (G s (action_ideal s) c qs w))
          (class-add (poly_ops (poly_ops (ops s))) (poly_laws (poly_ops (ops s)) (poly_laws (ops s) (laws s))) _ _ ∙ ap₂ (poly_ring (poly_ops (ops s)) (poly_laws (ops s) (laws s))).add (in_z-class (ops s) (laws s) (field s) q) (class-neg (poly_ops (poly_ops (ops s))) (poly_laws (poly_ops (ops s)) (poly_laws (ops s) (laws s))) b))
          (member-in (poly_ops (ops s)) (poly_laws (ops s) (laws s)) _ _ rest.congruent);
      in_variables = in_variables-of (poly_ops (ops s)) (poly_laws (ops s) (laws s)) (space_count s) b rest.in_space;
      reduced = λ m r. ap (coefficient_at (poly_ops (ops s)) (poly_laws (ops s) (laws s)) (symbols s b)) (sym r.1) ∙ class-coefficient (poly_ops (ops s)) (poly_laws (ops s) (laws s)) b r.0 ∙ none r.0 r.2 ((poly_ops (ops s)).same (coefficient (poly_ops (ops s)) b r.0) (poly_ops (ops s)).zero) refl;
    }
      where
        none : (a : List ℕ) → IsTrue (list_any (λ l. divides l a) (map (λ q. q.lead) qs)) → (t : Bool) → (poly_ops (ops s)).same (coefficient (poly_ops (ops s)) b a) (poly_ops (ops s)).zero ≡ t → class (poly_ops (ops s)) (coefficient (poly_ops (ops s)) b a) ≡ (poly_ring (ops s) (laws s)).zero
        none a t true e = class_sound (poly_ops (ops s)) (poly_laws (ops s) (laws s)) _ _ e ∙ class-zero (poly_ops (ops s)) (poly_laws (ops s) (laws s))
        none a t false e = absurd (true≢false (sym t ∙ any-map (λ q. q.lead) (λ l. divides l a) qs ∙ rest.reduced a (ap not e)))

    pub rest-vanishes : IsTrue (is_in_variables (space_count s) q) → HasNoValue s.p c b → ∥ Vanishes s q ∥₁
    rest-vanishes in_q none = ∥∥₁_elim
        (ratios.vanishes-rest (ops s) (laws s) (field s) (space_count s) (nothing_in s (action_ideal s) c qs w) (ideal-add s (action_ideal s)) (ideal-mul s (action_ideal s)) c (in_space s (action_ideal s) c qs w) (G s (action_ideal s) c qs w) (relation_at s (action_ideal s) c qs w) (IsReducibleBy (map (λ q. q.lead) qs)) w.lowest
        (in_variables-of (ops s) (laws s) (space_count s) q in_q) is_rest (no_value none))
        ∥∥₁_prop (λ e. extended-vanishes s c q e)
