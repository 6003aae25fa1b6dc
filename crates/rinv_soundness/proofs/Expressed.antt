-- The fractions of an accepted certificate generate all invariants.
--   expression_exists    an invariant has an expression
--   cut                  a polynomial in the first k symbols, with the same value at k fractions
--   expressed            the expression that a search finds, in these symbols
--   accepted_sound       an accepted certificate of kind `full` is sound
use Rattle.std.proofs.Common.{◌≡◌, ◌++◌, replicate, ◌⊎◌, ℕ, Bool, true, false, List, [], ◌∷◌, length, length-take, map, take, refl, sym, ◌∙◌, ap, ap₂, arith, inl, inr, true≢false}
use Rattle.std.specs.Prelude.{IsTrue, All, ◌&&◌, not, nat_le}
use Rattle.std.proofs.lemmas.Bool.Decides.{nat_tests}
use mathlib.Core.Logic.{∥∥₁_elim, ∥∥₁_prop, ∥∥₁_map}
use Rattle.rinv_algebra.specs.Residue.{residue_ops}
use Rattle.rinv_algebra.specs.Polynomial.{poly_ops, constant}
use Rattle.rinv_algebra.specs.Value.{factors, value, times_all}
use Rattle.rinv_algebra.specs.Normal.{is_in_variables}
use Rattle.rinv_algebra.proofs.PolynomialLaws.{poly_laws}
use Rattle.rinv_algebra.proofs.Same.{both, and_true}
use Rattle.rinv_theory.proofs.CRing.{CRing}
use Rattle.rinv_theory.proofs.Classes.{Class, class, class_ring, class_sound, class_exact, class_ind, class_dec, class-mul, class-zero}
use Rattle.rinv_theory.proofs.Monoid.{Monomial}
use Rattle.rinv_theory.proofs.Polynomials.{polynomials, poly_ring, coefficient_at}
use Rattle.rinv_theory.proofs.Of.{Of}
use Rattle.rinv_theory.proofs.Leads.{Leads, zero_or_lead}
use Rattle.rinv_theory.proofs.ListOrders.{order_of}
use Rattle.rinv_theory.proofs.LastVariable.{later, later_order}
use Rattle.rinv_theory.proofs.Variables.{IsFront, in_variables-of}
use Rattle.rinv_theory.proofs.Fields.{fraction_laws}
use Rattle.rinv_theory.proofs.Fractions.{polynomial_fractions-into}
use Rattle.rinv_defs.specs.System.{Poly, space_count}
use Rattle.rinv_defs.specs.Laws.{L1, A1, AllLawsHold}
use Rattle.rinv_defs.specs.Invariant.{Fraction, IsInvariant}
use Rattle.rinv_defs.specs.Generators.{Expression, rational_ops, over_1, value_at, HasValue, IsExpressed, IsSound}
use Rattle.rinv_defs.specs.Certificate.{Certificate, Kind, invariance, full}
use Rattle.rinv_defs.specs.Accepted.{IsAccepted}
use Rattle.rinv_defs.proofs.Sound.{accepted-is_invariant}
use Rattle.rinv_defs.proofs.LawsHold.{accepted-laws_hold}
use Rattle.rinv_theory.proofs.TermRing.{constants}
use Rattle.rinv_soundness.specs.Rewriting.{symbol_relations}
use Rattle.rinv_soundness.proofs.OverFractions.{into, to_z}
use Rattle.rinv_soundness.proofs.ExtendedIdeals.{ops, laws, field, ideal-add, ideal-mul, nonzero-class}
use Rattle.rinv_soundness.proofs.ActionIdeals.{generators}
use Rattle.rinv_soundness.proofs.GraphImages.{crossed_member}
use Rattle.rinv_soundness.proofs.SymbolValues.{value_hom, value-class, values-coefficient}
use Rattle.rinv_soundness.proofs.LowestMembers.{IsReducibleBy}
use Rattle.rinv_soundness.proofs.Ratios as ratios
use Rattle.rinv_soundness.proofs.Rewritten.{val, IsRewriting, nothing_in, in_space, relation_at, G, Rest}
use Rattle.rinv_soundness.proofs.Vanishing.{lasts}
use Rattle.rinv_soundness.proofs.FullParts.{FullParts, full_parts}
use Rattle.rinv_soundness.proofs.CertificateRewriting.{certificate_rewriting}
use Rattle.rinv_soundness.proofs.DividingRelations.{rest_exists}
use Rattle.rinv_theory.proofs.Search.{Enumeration, pairs, formal_sums, searched}

-- ---- existence

module _ (c : Certificate) (parts : FullParts c) (hold : AllLawsHold c.system) (invariant : All (IsInvariant c.system) c.fractions) (f : Fraction) (is : IsInvariant c.system f) where
  abbrev Rational : CRing (Class (rational_ops c.system.p))
  Rational = class_ring (rational_ops c.system.p) (fraction_laws (ops c.system) (laws c.system) (field c.system))

  abbrev P : Class (poly_ops (residue_ops c.system.p))
  P = class (poly_ops (ops c.system)) f.0

  abbrev Q : Class (poly_ops (residue_ops c.system.p))
  Q = class (poly_ops (ops c.system)) f.1

  abbrev into_fractions : Class (poly_ops (residue_ops c.system.p)) → Class (rational_ops c.system.p)
  into_fractions x = (into (ops c.system) (laws c.system) (field c.system)).at x

  abbrev value_of : Class (poly_ops (residue_ops c.system.p)) → Class (rational_ops c.system.p)
  value_of x = (value_hom (ops c.system) (laws c.system) (field c.system) c.fractions).at x

  -- from classes of polynomials in the symbols to lists
  from_classes : (x y : Class (poly_ops (residue_ops c.system.p))) → (value_of y ≡ Rational.zero → ⊥) → Rational.mul (value_of x) (into_fractions Q) ≡ Rational.mul (into_fractions P) (value_of y) → ∥ ((e : Expression) × HasValue c.system.p c.fractions e f) ∥₁
  unfolding value_at
  from_classes x y = class_ind (poly_ops (ops c.system)) (poly_laws (ops c.system) (laws c.system)) (λ x. (value_of y ≡ Rational.zero → ⊥) → Rational.mul (value_of x) (into_fractions Q) ≡ Rational.mul (into_fractions P) (value_of y) → ∥ ((e : Expression) × HasValue c.system.p c.fractions e f) ∥₁) (λ x. hlevel (∥∥₁_prop {A = (e : Expression) × HasValue c.system.p c.fractions e f}))
      (λ a. class_ind (poly_ops (ops c.system)) (poly_laws (ops c.system) (laws c.system)) (λ y. (value_of y ≡ Rational.zero → ⊥) → Rational.mul (value_of (class (poly_ops (ops c.system)) a)) (into_fractions Q) ≡ Rational.mul (into_fractions P) (value_of y) → ∥ ((e : Expression) × HasValue c.system.p c.fractions e f) ∥₁) (λ y. hlevel (∥∥₁_prop {A = (e : Expression) × HasValue c.system.p c.fractions e f}))
      (λ b n e. ∣ (
        (a, b),
        record {
          defined = λ z. n (sym (value-class (ops c.system) (laws c.system) (field c.system) c.fractions b) ∙ class_sound (rational_ops c.system.p) (fraction_laws (ops c.system) (laws c.system) (field c.system)) _ _ z ∙ class-zero (rational_ops c.system.p) (fraction_laws (ops c.system) (laws c.system) (field c.system)));
          equal = class_exact (rational_ops c.system.p) (fraction_laws (ops c.system) (laws c.system) (field c.system)) _ _ (
              class-mul (rational_ops c.system.p) (fraction_laws (ops c.system) (laws c.system) (field c.system)) _ _ ∙ ap₂ Rational.mul (value-class (ops c.system) (laws c.system) (field c.system) c.fractions a) (sym (polynomial_fractions-into (ops c.system) (laws c.system) (field c.system) f.1))
              ∙ e ∙ ap₂ Rational.mul (polynomial_fractions-into (ops c.system) (laws c.system) (field c.system) f.0) (sym (value-class (ops c.system) (laws c.system) (field c.system) c.fractions b)) ∙ sym (class-mul (rational_ops c.system.p) (fraction_laws (ops c.system) (laws c.system) (field c.system)) _ _));
        },
      ) ∣₁) y) x

  abbrev w : IsRewriting c.system (generators c.system parts.form) c.fractions (symbol_relations c)
  w = certificate_rewriting c parts invariant

  abbrev RestOf : Class (poly_ops (poly_ops (residue_ops c.system.p))) → Class (poly_ops (poly_ops (residue_ops c.system.p))) → Type 0
  RestOf x r = Rest c.system (generators c.system parts.form) c.fractions (symbol_relations c) (certificate_rewriting c parts invariant) x r

  P_in : Of (polynomials (ops c.system) (laws c.system)) (IsFront (space_count c.system)) (class (poly_ops (ops c.system)) f.0)
  P_in = in_variables-of (ops c.system) (laws c.system) (space_count c.system) f.0 is.fraction.numerator

  Q_in : Of (polynomials (ops c.system) (laws c.system)) (IsFront (space_count c.system)) (class (poly_ops (ops c.system)) f.1)
  Q_in = in_variables-of (ops c.system) (laws c.system) (space_count c.system) f.1 is.fraction.denominator

  -- from two rests
  from_rests : (a b : Class (poly_ops (poly_ops (residue_ops c.system.p)))) → RestOf ((to_z (ops c.system) (laws c.system) (field c.system)).at P) a → RestOf ((to_z (ops c.system) (laws c.system) (field c.system)).at Q) b → ∥ ((e : Expression) × HasValue c.system.p c.fractions e f) ∥₁
  from_rests a b rest_a rest_b = ∥∥₁_elim (zero_or_lead (polynomials (rational_ops c.system.p) (fraction_laws (ops c.system) (laws c.system) (field c.system))) (order_of later later_order) (class_dec (rational_ops c.system.p) (fraction_laws (ops c.system) (laws c.system) (field c.system))) (val c.system c.fractions b)) ∥∥₁_prop go
    where
      go : (val c.system c.fractions b ≡ (poly_ring (rational_ops c.system.p) (fraction_laws (ops c.system) (laws c.system) (field c.system))).zero) ⊎ ((m : Monomial) × Leads (polynomials (rational_ops c.system.p) (fraction_laws (ops c.system) (laws c.system) (field c.system))) (order_of later later_order) (val c.system c.fractions b) m) → ∥ ((e : Expression) × HasValue c.system.p c.fractions e f) ∥₁
      go (inl e) = absurd (∥∥₁_elim (ratios.vanishes-rest (ops c.system) (laws c.system) (field c.system) (space_count c.system) (nothing_in c.system (generators c.system parts.form) c.fractions (symbol_relations c) w) (ideal-add c.system (generators c.system parts.form)) (ideal-mul c.system (generators c.system parts.form)) c.fractions
          (in_space c.system (generators c.system parts.form) c.fractions (symbol_relations c) w) (G c.system (generators c.system parts.form) c.fractions (symbol_relations c) w) (relation_at c.system (generators c.system parts.form) c.fractions (symbol_relations c) w) (IsReducibleBy (map (λ q. q.lead) (symbol_relations c))) w.lowest
          Q_in rest_b e) (λ x y. absurd x) (lasts c.system parts.form (hold L1) (hold A1) c.fractions Q_in (nonzero-class (ops c.system) (laws c.system) f.1 is.fraction.nonzero)))
      go (inr (m, lead)) = from_classes (coefficient_at (poly_ops (ops c.system)) (poly_laws (ops c.system) (laws c.system)) a m) (coefficient_at (poly_ops (ops c.system)) (poly_laws (ops c.system) (laws c.system)) b m) (λ z. lead.nonzero (values-coefficient (ops c.system) (laws c.system) (field c.system) c.fractions b m ∙ z))
          (ratios.ratio (ops c.system) (laws c.system) (field c.system) (space_count c.system) (nothing_in c.system (generators c.system parts.form) c.fractions (symbol_relations c) w) (ideal-add c.system (generators c.system parts.form)) (ideal-mul c.system (generators c.system parts.form)) c.fractions
          (in_space c.system (generators c.system parts.form) c.fractions (symbol_relations c) w) (G c.system (generators c.system parts.form) c.fractions (symbol_relations c) w) (relation_at c.system (generators c.system parts.form) c.fractions (symbol_relations c) w) (IsReducibleBy (map (λ q. q.lead) (symbol_relations c))) w.lowest
          P_in Q_in rest_a rest_b (crossed_member c.system parts.form f is) m)

  -- an invariant has an expression
  pub expression_exists : ∥ ((e : Expression) × HasValue c.system.p c.fractions e f) ∥₁
  expression_exists = ∥∥₁_elim (rest_exists c parts invariant _ (in_z P_in)) ∥∥₁_prop (λ (a, rest_a). ∥∥₁_elim (rest_exists c parts invariant _ (in_z Q_in)) ∥∥₁_prop (λ (b, rest_b). from_rests a b rest_a rest_b))
    where
      in_z : {x : Class (poly_ops (residue_ops c.system.p))} → Of (polynomials (ops c.system) (laws c.system)) (IsFront (space_count c.system)) x → Of (polynomials (poly_ops (ops c.system)) (poly_laws (ops c.system) (laws c.system))) (IsFront (space_count c.system)) ((to_z (ops c.system) (laws c.system) (field c.system)).at x)
      in_z r = ratios.change-of (polynomials (ops c.system) (laws c.system)) (polynomials (poly_ops (ops c.system)) (poly_laws (ops c.system) (laws c.system))) (constants (polynomials (ops c.system) (laws c.system))) r

-- ---- search

-- the exponents of the first k symbols
abbrev cut : ℕ → Poly → Poly
cut k f = map (λ t. (take k t.0, t.1)) f

cut_in : (k : ℕ) (f : Poly) → is_in_variables k (cut k f) ≡ true
cut_in k [] = refl
cut_in k ((a, x) ∷ f) = let e = length-take k a in let low : nat_le (length (take k a)) k ≡ true = grind (arith, nat_tests, e) in and_true _ (is_in_variables k (cut k f)) low (cut_in k f)

cut-factors : {A : Type 0} (point : List A) (a : List ℕ) → factors point (take (length point) a) ≡ factors point a
unfolding factors
cut-factors [] a = refl
cut-factors (x ∷ point) [] = refl
cut-factors (x ∷ point) (e ∷ a) = ap (λ ys. replicate e x ++ ys) (cut-factors point a)

-- at k fractions the value is the same
cut-value : (p : ℕ) (c : List Fraction) (f : Poly) → value_at p c (cut (length c) f) ≡ value_at p c f
unfolding value_at value
cut-value p c [] = refl
cut-value p c ((a, x) ∷ f) = ap₂ (rational_ops p).add (ap (times_all (rational_ops p) (over_1 p (constant (residue_ops p) x))) (cut-factors c a)) (cut-value p c f)

-- whether an expression denotes a fraction
abbrev is_denoted : ℕ → List Fraction → Fraction → Expression → Bool
is_denoted p c f e =
    not ((rational_ops p).same (value_at p c e.1) (rational_ops p).zero)
    && (rational_ops p).same ((rational_ops p).mul (value_at p c e.0) (over_1 p f.1)) ((rational_ops p).mul (over_1 p f.0) (value_at p c e.1))

-- a search of the expressions
expressions : Enumeration Expression
expressions = pairs formal_sums formal_sums

-- the expression that is found, in as many symbols as there are fractions
pub expressed : (p : ℕ) (c : List Fraction) (f : Fraction) → ∥ ((e : Expression) × HasValue p c e f) ∥₁ → IsExpressed p c f
expressed p c f some = with_expression (searched expressions (is_denoted p c f) (∥∥₁_map some (λ (e, d). (e, tested e d))))
  where
    tested : (e : Expression) → HasValue p c e f → is_denoted p c f e ≡ true
    tested e d = and_true _ _ (differs _ d.defined) d.equal
      where
        differs : (b : Bool) → ¬ (IsTrue b) → not b ≡ true
        differs true n = absurd (n refl)
        differs false n = refl

    with_expression : (e : Expression) × (is_denoted p c f e ≡ true) → IsExpressed p c f
    with_expression (e, t) =
        let parts = both (not ((rational_ops p).same (value_at p c e.1) (rational_ops p).zero)) ((rational_ops p).same ((rational_ops p).mul (value_at p c e.0) (over_1 p f.1)) ((rational_ops p).mul (over_1 p f.0) (value_at p c e.1))) t in
        record {
          expression = (cut (length c) e.0, cut (length c) e.1);
          denotes = record {
            numerator = cut_in (length c) e.0;
            denominator = cut_in (length c) e.1;
            value = record {
              defined = λ z. true≢false (sym parts.0 ∙ ap not (ap (λ v. (rational_ops p).same v (rational_ops p).zero) (sym (cut-value p c e.1)) ∙ z));
              equal = ap₂ (λ u v. (rational_ops p).same ((rational_ops p).mul u (over_1 p f.1)) ((rational_ops p).mul (over_1 p f.0) v)) (cut-value p c e.0) (cut-value p c e.1) ∙ parts.1;
            };
          };
        }

-- ---- soundness

more : (k : Kind) → k ≡ full → ¬ (k ≡ invariance)
more k e i = differs (sym e ∙ i)
  where
    is_full : Kind → Bool
    is_full full = true
    is_full k = false

    differs : full ≡ invariance → ⊥
    differs e = true≢false (ap is_full e)

-- its laws hold
pub full_laws : (c : Certificate) → c.kind ≡ full → IsAccepted c → AllLawsHold c.system
full_laws c kind accepted = accepted-laws_hold c accepted (more c.kind kind)

-- an accepted certificate of kind `full` is sound
pub accepted_sound : (c : Certificate) → c.kind ≡ full → IsAccepted c → IsSound c.system c.fractions
accepted_sound c kind accepted = record {
  laws = full_laws c kind accepted;
  invariant = accepted-is_invariant c accepted;
  generates = λ f is. expressed c.system.p c.fractions f (expression_exists c (full_parts c kind accepted) (full_laws c kind accepted) (accepted-is_invariant c accepted) f is);
}

-- its relations rewrite
pub full_rewriting : (c : Certificate) (kind : c.kind ≡ full) (accepted : IsAccepted c) → IsRewriting c.system (generators c.system (full_parts c kind accepted).form) c.fractions (symbol_relations c)
full_rewriting c kind accepted = certificate_rewriting c (full_parts c kind accepted) (accepted-is_invariant c accepted)
