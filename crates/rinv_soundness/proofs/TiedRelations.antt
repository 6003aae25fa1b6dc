-- The relations of a certificate: with symbols they have, in value, a multiple without denominators that lies in the ideal of the
-- group and the graph.
--   cleared r            d*Z^a - sum of c*Z^alpha, in Z and the space's variables; relation-class: the definition is it, moved
--   tied-value           a coefficient over d is the value of what it is tied to
--   relation_extended    the fact
use Rattle.std.proofs.Common.{◌≡◌, ℕ, ◌+◌, ◌-◌, ◌*◌, ◌<◌, ◌≤◌, true, List, [], ◌∷◌, ◌++◌, length, map, get_or, replicate, take_all, refl, sym, ◌∙◌, ap, ap₂, subst, arith}
use Rattle.std.specs.Prelude.{All, ◌==◌, ◌&&◌, not, nat_le, flat_map}
use Rattle.std.specs.List.{list_all}
use Rattle.std.specs.Ordering.{is_lt}
use Rattle.std.proofs.lemmas.Bool.{eqb-true}
use Rattle.std.proofs.lemmas.Bool.Decides.{nat_tests}
use Rattle.std.proofs.lemmas.Option.{unwrap_or-slice_get}
use Rattle.rinv_algebra.specs.Ring.{RingOps}
use Rattle.rinv_algebra.specs.Residue.{residue_ops}
use Rattle.rinv_algebra.specs.Polynomial.{is_zero, poly_ops, product, same, constant, scale, term_product}
use Rattle.rinv_algebra.specs.Monomial.{total_degree, max_degree}
use Rattle.rinv_algebra.specs.Order.{grevlex}
use Rattle.rinv_algebra.specs.Value.{substitute}
use Rattle.rinv_algebra.specs.Fits.{product_fits, substitution_fits, combination_fits, multiplies_out}
use Rattle.rinv_algebra.proofs.PolynomialLaws.{poly_laws}
use Rattle.rinv_algebra.proofs.Same.{both}
use Rattle.rinv_theory.proofs.CRing.{CRing, Hom, compose, hom-zero, hom-neg, mul_one, mul_zero, add_neg, add_cancel}
use Rattle.rinv_theory.proofs.Solver.{ring, reading}
use Rattle.rinv_theory.proofs.Classes.{Class, class, class_ring, class_sound, class-add, class-mul, class-neg, class-zero, class-one}
use Rattle.rinv_theory.proofs.Monoid.{monomial, monomial-one}
use Rattle.rinv_theory.proofs.TermRing.{constant-term}
use Rattle.rinv_theory.proofs.Polynomials.{polynomials, poly_ring, term_at, class-cons, class-constant}
use Rattle.rinv_theory.proofs.Universal.{relabel-term}
use Rattle.rinv_theory.proofs.Substitution.{agree_variables}
use Rattle.rinv_theory.proofs.Of.{Of, of-add, of-term}
use Rattle.rinv_theory.proofs.Ideals.{In}
use Rattle.rinv_theory.proofs.Members.{generator, member-in}
use Rattle.rinv_theory.proofs.Places.{front-list, behind, behind-list, behind-mul}
use Rattle.rinv_theory.proofs.Variables.{IsFront, past-class}
use Rattle.rinv_theory.proofs.Fields.{fraction_laws, fraction_field, class_domain}
use Rattle.rinv_theory.proofs.Fractions.{polynomial_fractions}
use Rattle.rinv_defs.specs.System.{System, Poly, group_count, space_count}
use Rattle.rinv_defs.specs.SystemForm.{is_good, is_nonzero, are_good}
use Rattle.rinv_defs.specs.Invariant.{Fraction, IsFraction}
use Rattle.rinv_defs.specs.Generators.{rational_ops}
use Rattle.rinv_defs.specs.Certificate.{Certificate, Tied, to_constant, to_generator, TailItem, RelationItem}
use Rattle.rinv_defs.specs.Format.{are_distinct, is_exponents, is_tied, is_tail_item, is_relation_item}
use Rattle.rinv_defs.specs.Conditions.{graph_point, vanishes_on_graph}
use Rattle.rinv_defs.specs.RelationConditions.{fraction_at, is_tied_to, z_power, behind_z, relation_of, is_tail, relation_is_shown}
use Rattle.rinv_defs.proofs.Tests.{not-true}
use Rattle.rinv_soundness.specs.Rewriting.{symbol_poly, symbol_of, symbol_relation}
use Rattle.rinv_soundness.proofs.FirstVariables.{front-product, of-opposite, more_variables, moved_front}
use Rattle.rinv_soundness.proofs.GeneratorLists.{within_list}
use Rattle.rinv_soundness.proofs.Substituting.{var, variable-class, put, put-class, move, move-constant, move-variable}
use Rattle.rinv_soundness.proofs.SystemForms.{HasForm, InFirst, good_front}
use Rattle.rinv_soundness.proofs.PlaceFacts.{nest-front, outer-term}
use Rattle.rinv_soundness.proofs.OverFractions.{over_ring, nested, into, over, over-term, constant_over, term_product-class}
use Rattle.rinv_soundness.proofs.HasMultiples as multiples
use Rattle.rinv_soundness.proofs.ExtendedIdeals.{ops, laws, field, Extended, nonzero-class}
use Rattle.rinv_soundness.proofs.ActionIdeals.{generators, on_graph}
use Rattle.rinv_soundness.proofs.SymbolValues.{value_hom, value-number, value-symbol, values, values-term}
use Rattle.rinv_soundness.proofs.SpatialValues.{fraction-times}
use Rattle.rinv_soundness.proofs.Rewritten.{val}

module _ (s : System) where
  abbrev Ring : CRing (Class (poly_ops (residue_ops s.p)))
  Ring = poly_ring (ops s) (laws s)

  abbrev Rational : CRing (Class (rational_ops s.p))
  Rational = class_ring (rational_ops s.p) (fraction_laws (ops s) (laws s) (field s))

  abbrev poly : Poly → Class (poly_ops (residue_ops s.p))
  poly f = class (poly_ops (ops s)) f

  -- Z^a
  abbrev power : List ℕ → Class (poly_ops (residue_ops s.p))
  power a = term_at (ops s) (laws s) (class_ring (ops s) (laws s)).one (monomial a)

  abbrev behind_z_hom : Hom Ring Ring
  behind_z_hom = move (ops s) (laws s) (space_count s)

  -- sum of c*Z^alpha
  abbrev cleared_tail : List TailItem → Class (poly_ops (residue_ops s.p))
  cleared_tail [] = Ring.zero
  cleared_tail (t ∷ ts) = Ring.add (Ring.mul (power t.alpha) ((move (ops s) (laws s) (space_count s)).at (poly t.c))) (cleared_tail ts)

  -- d*Z^a - sum of c*Z^alpha, in Z and the space's variables
  abbrev pub cleared : RelationItem → Class (poly_ops (residue_ops s.p))
  cleared r = Ring.add (Ring.mul (power r.a) ((move (ops s) (laws s) (space_count s)).at (poly r.d))) (Ring.neg (cleared_tail r.tail))

  move-move : (j k : ℕ) (x : Class (poly_ops (residue_ops s.p))) → (move (ops s) (laws s) (j + k)).at x ≡ (move (ops s) (laws s) j).at ((move (ops s) (laws s) k).at x)
  unfolding compose
  move-move j k = agree_variables (polynomials (ops s) (laws s)) Ring (move (ops s) (laws s) (j + k)) (compose (move (ops s) (laws s) j) (move (ops s) (laws s) k))
      (λ c. move-constant (ops s) (laws s) (j + k) c ∙ sym (ap (move (ops s) (laws s) j).at (move-constant (ops s) (laws s) k c) ∙ move-constant (ops s) (laws s) j c))
      (λ i. let e : j + k + i ≡ j + (k + i) = omega arith in move-variable (ops s) (laws s) (j + k) i ∙ ap (var (ops s) (laws s)) e ∙ sym (ap (move (ops s) (laws s) j).at (move-variable (ops s) (laws s) k i) ∙ move-variable (ops s) (laws s) j _))

  term-class : (a : List ℕ) (f : Poly) → poly (term_product (ops s) (z_power s a) (behind_z s f)) ≡ (move (ops s) (laws s) (group_count s)).at (Ring.mul (power a) ((move (ops s) (laws s) (space_count s)).at (poly f)))
  term-class a f =
      term_product-class (ops s) (laws s) (replicate (group_count s) 0 ++ a) 1 (behind_z s f)
      ∙ ap₂ Ring.mul (ap₂ (term_at (ops s) (laws s)) (class-one (ops s) (laws s)) (sym (behind-list (group_count s) a)) ∙ sym (relabel-term (polynomials (ops s) (laws s)) (polynomials (ops s) (laws s)) (behind (group_count s)) (behind-mul (group_count s)) _ (monomial a)))
      (past-class (ops s) (laws s) (group_count s + space_count s) f ∙ move-move (group_count s) (space_count s) (poly f)) ∙ sym ((move (ops s) (laws s) (group_count s)).mul _ _)

  tail-class : (ts : List TailItem) → poly (flat_map (λ t. term_product (ops s) (z_power s t.alpha) (behind_z s t.c)) ts) ≡ (move (ops s) (laws s) (group_count s)).at (cleared_tail ts)
  tail-class [] = class-zero (poly_ops (ops s)) (poly_laws (ops s) (laws s)) ∙ sym (hom-zero (move (ops s) (laws s) (group_count s)))
  tail-class (t ∷ ts) = class-add (poly_ops (ops s)) (poly_laws (ops s) (laws s)) _ _ ∙ ap₂ Ring.add (term-class t.alpha t.c) (tail-class ts) ∙ sym ((move (ops s) (laws s) (group_count s)).add _ _)

  -- the relation is it, moved past the group's variables
  pub relation-class : (r : RelationItem) → poly (relation_of s r) ≡ (move (ops s) (laws s) (group_count s)).at (cleared r)
  relation-class r =
      class-add (poly_ops (ops s)) (poly_laws (ops s) (laws s)) _ _
      ∙ ap₂ Ring.add (term-class r.a r.d) (class-neg (poly_ops (ops s)) (poly_laws (ops s) (laws s)) _ ∙ ap Ring.neg (tail-class r.tail) ∙ sym (hom-neg (move (ops s) (laws s) (group_count s)) _))
      ∙ sym ((move (ops s) (laws s) (group_count s)).add _ _)

module _ (c : Certificate) (form : HasForm c.system) (fractions : All (IsFraction c.system) c.fractions) where
  abbrev n : ℕ
  n = space_count c.system

  abbrev o : RingOps ℕ
  o = ops c.system

  abbrev K : CRing (Class (poly_ops (residue_ops c.system.p)))
  K = poly_ring (ops c.system) (laws c.system)

  abbrev Kx : CRing (Class (rational_ops c.system.p))
  Kx = class_ring (rational_ops c.system.p) (fraction_laws (ops c.system) (laws c.system) (field c.system))

  abbrev KxZ : CRing (Class (poly_ops (rational_ops c.system.p)))
  KxZ = over_ring (ops c.system) (laws c.system) (field c.system)

  abbrev monomial_over : Class (rational_ops c.system.p) → List ℕ → Class (poly_ops (rational_ops c.system.p))
  monomial_over x a = term_at (rational_ops c.system.p) (fraction_laws (ops c.system) (laws c.system) (field c.system)) x (monomial a)

  abbrev fraction_of : Poly → Class (rational_ops c.system.p)
  fraction_of f = (into (ops c.system) (laws c.system) (field c.system)).at (class (poly_ops (ops c.system)) f)

  abbrev value_of : Tied → Class (rational_ops c.system.p)
  value_of t = (value_hom (ops c.system) (laws c.system) (field c.system) c.fractions).at (class (poly_ops (ops c.system)) (symbol_of c.system.p t))

  abbrev reads : Class (poly_ops (residue_ops c.system.p)) → Class (poly_ops (rational_ops c.system.p))
  reads h = multiples.read (ops c.system) (laws c.system) (field c.system) (space_count c.system) h

  -- from u*D = d*N and D*x = N, with D not zero, u = d*x
  cancelled : (u d x num den : Class (rational_ops c.system.p)) → (den ≡ Kx.zero → ⊥) → Kx.mul u den ≡ Kx.mul d num → Kx.mul den x ≡ num → u ≡ Kx.mul d x
  cancelled u d x num den nonzero e h = same (no_divisors (Kx.add u (Kx.neg (Kx.mul d x))) den difference nonzero)
    where
      no_divisors : (a b : Class (rational_ops c.system.p)) → Kx.mul a b ≡ Kx.zero → (b ≡ Kx.zero → ⊥) → a ≡ Kx.zero
      no_divisors = (class_domain (rational_ops c.system.p) (fraction_laws (ops c.system) (laws c.system) (field c.system)) (fraction_field (ops c.system) (laws c.system) (field c.system))).no_divisors

      spread : (u d x den : Class (rational_ops c.system.p)) → Kx.mul (Kx.add u (Kx.neg (Kx.mul d x))) den ≡ Kx.add (Kx.mul u den) (Kx.neg (Kx.mul d (Kx.mul den x)))
      spread u d x den = ring Kx (u ∷ d ∷ x ∷ den ∷ []) (search reading depth 30) refl

      difference : Kx.mul (Kx.add u (Kx.neg (Kx.mul d x))) den ≡ Kx.zero
      difference = spread u d x den ∙ ap₂ (λ y z. Kx.add y (Kx.neg (Kx.mul d z))) e h ∙ add_neg Kx _

      same : Kx.add u (Kx.neg (Kx.mul d x)) ≡ Kx.zero → u ≡ Kx.mul d x
      same e = add_cancel Kx u (Kx.mul d x) (Kx.neg (Kx.mul d x)) (e ∙ sym (add_neg Kx (Kx.mul d x)))

  -- a coefficient over d is the value of what it is tied to
  tied-value : (d u : Poly) (t : Tied) → is_tied c.system c.fractions t ≡ true → is_tied_to c d u t ≡ true → fraction_of u ≡ Kx.mul (fraction_of d) (value_of t)
  unfolding product_fits is_tied_to
  tied-value d u (to_constant v) ok h =
      let equal = both (product_fits (residue_ops c.system.p) (constant (residue_ops c.system.p) v) d) (same (residue_ops c.system.p) u (scale (residue_ops c.system.p) v d)) h in
      ap (into (ops c.system) (laws c.system) (field c.system)).at (class_sound (poly_ops (ops c.system)) (poly_laws (ops c.system) (laws c.system)) _ _ equal.1 ∙ term_product-class (ops c.system) (laws c.system) [] v d ∙ ap (λ m. K.mul (term_at (ops c.system) (laws c.system) (class (ops c.system) v) m) (class (poly_ops (ops c.system)) d)) monomial-one)
      ∙ (into (ops c.system) (laws c.system) (field c.system)).mul _ _ ∙ Kx.mul_comm _ _
      ∙ ap (Kx.mul (fraction_of d)) (sym (ap (value_hom (ops c.system) (laws c.system) (field c.system) c.fractions).at (class-constant (ops c.system) (laws c.system) v) ∙ value-number (ops c.system) (laws c.system) (field c.system) c.fractions (class (ops c.system) v)))
  tied-value d u (to_generator k) ok h =
      let inside : k - 1 < length c.fractions = grind (arith, nat_tests, ok) in
      let here : fraction_at c k ≡ get_or c.fractions (k - 1) (rational_ops c.system.p).one = unwrap_or-slice_get c.fractions (k - 1) ([], []) ∙ within_list c.fractions (k - 1) ([], []) (rational_ops c.system.p).one inside in
      let equal : same (residue_ops c.system.p) (product (residue_ops c.system.p) u (fraction_at c k).1) (product (residue_ops c.system.p) d (fraction_at c k).0) ≡ true = (both (product_fits (residue_ops c.system.p) u (fraction_at c k).1 && product_fits (residue_ops c.system.p) d (fraction_at c k).0) _ h).1 in
      at_fraction (get_or c.fractions (k - 1) (rational_ops c.system.p).one) (fractions (k - 1) (rational_ops c.system.p).one inside)
      (subst (λ f. same (residue_ops c.system.p) (product (residue_ops c.system.p) u f.1) (product (residue_ops c.system.p) d f.0) ≡ true) here equal)
      (sym (ap (value_hom (ops c.system) (laws c.system) (field c.system) c.fractions).at (variable-class (ops c.system) (laws c.system) (k - 1)) ∙ value-symbol (ops c.system) (laws c.system) (field c.system) c.fractions (k - 1)))
    where
      crossed : (x y : Poly) → fraction_of (product (residue_ops c.system.p) x y) ≡ Kx.mul (fraction_of x) (fraction_of y)
      crossed x y = ap (into (ops c.system) (laws c.system) (field c.system)).at (class-mul (poly_ops (ops c.system)) (poly_laws (ops c.system) (laws c.system)) x y) ∙ (into (ops c.system) (laws c.system) (field c.system)).mul _ _

      at_fraction : (f : Fraction) → IsFraction c.system f → same (residue_ops c.system.p) (product (residue_ops c.system.p) u f.1) (product (residue_ops c.system.p) d f.0) ≡ true → class (rational_ops c.system.p) f ≡ value_of (to_generator k) → fraction_of u ≡ Kx.mul (fraction_of d) (value_of (to_generator k))
      at_fraction f is equal at = cancelled _ _ _ (fraction_of f.0) (fraction_of f.1)
          (λ z. nonzero-class (ops c.system) (laws c.system) f.1 is.nonzero ((polynomial_fractions (ops c.system) (laws c.system) (field c.system)).injective _ _ (z ∙ sym (hom-zero (into (ops c.system) (laws c.system) (field c.system))))))
          (sym (crossed u f.1) ∙ ap (into (ops c.system) (laws c.system) (field c.system)).at (class_sound (poly_ops (ops c.system)) (poly_laws (ops c.system) (laws c.system)) _ _ equal) ∙ crossed d f.0)
          (ap (Kx.mul (fraction_of f.1)) (sym at) ∙ fraction-times (ops c.system) (laws c.system) (field c.system) n f is.nonzero)

  power_front : (a : List ℕ) → length a ≡ n → Of (polynomials (ops c.system) (laws c.system)) (IsFront (space_count c.system)) (power c.system a)
  power_front a e = let low : length a ≤ space_count c.system = omega (arith, e) in of-term (polynomials (ops c.system) (laws c.system)) _ (monomial a) (front-list (space_count c.system) a ∙ ap monomial (take_all (space_count c.system) a low))

  read-power : (a : List ℕ) → length a ≡ n → reads (power c.system a) ≡ monomial_over Kx.one a
  read-power a e =
      ap (over (ops c.system) (laws c.system) (field c.system)).at (nest-front (polynomials (ops c.system) (laws c.system)) (polynomials (poly_ops (ops c.system)) (poly_laws (ops c.system) (laws c.system))) (space_count c.system) (power_front a e) ∙ outer-term (polynomials (ops c.system) (laws c.system)) (polynomials (poly_ops (ops c.system)) (poly_laws (ops c.system) (laws c.system))) _ (monomial a))
      ∙ over-term (ops c.system) (laws c.system) (field c.system) _ (monomial a) ∙ ap (λ x. monomial_over x a) (ap (into (ops c.system) (laws c.system) (field c.system)).at (polynomials (ops c.system) (laws c.system)).term_one ∙ (into (ops c.system) (laws c.system) (field c.system)).one)

  read-part : (a : List ℕ) (x : Poly) → length a ≡ n → reads (K.mul (power c.system a) ((move (ops c.system) (laws c.system) (space_count c.system)).at (class (poly_ops (ops c.system)) x))) ≡ monomial_over (fraction_of x) a
  read-part a x e =
      multiples.read-mul (ops c.system) (laws c.system) (field c.system) (space_count c.system) _ _
      ∙ ap₂ KxZ.mul (read-power a e) (multiples.read-move (ops c.system) (laws c.system) (field c.system) (space_count c.system) _) ∙ KxZ.mul_comm _ _
      ∙ constant-term (polynomials (rational_ops c.system.p) (fraction_laws (ops c.system) (laws c.system) (field c.system))) _ _ (monomial a) ∙ ap (λ y. monomial_over y a) (mul_one Kx _)

  symbols_of : List TailItem → Class (poly_ops (rational_ops c.system.p))
  symbols_of ts = val c.system c.fractions (class (poly_ops (poly_ops (ops c.system))) (map (λ t. (t.alpha, symbol_of c.system.p t.tied)) ts))

  -- the tail, read over fractions, is d times its value
  read-tail : (r : RelationItem) (ts : List TailItem) → list_all (is_tail_item c.system c.fractions) ts ≡ true → list_all (is_tail c r) ts ≡ true
      → reads (cleared_tail c.system ts) ≡ KxZ.mul (constant_over (ops c.system) (laws c.system) (field c.system) (class (poly_ops (ops c.system)) r.d)) (symbols_of ts)
  unfolding symbols_of
  read-tail r [] forms hold =
      ap (over (ops c.system) (laws c.system) (field c.system)).at (hom-zero (nested (ops c.system) (laws c.system) (field c.system) (space_count c.system))) ∙ hom-zero (over (ops c.system) (laws c.system) (field c.system))
      ∙ sym (ap (KxZ.mul _) (ap (val c.system c.fractions) (class-zero (poly_ops (poly_ops (ops c.system))) (poly_laws (poly_ops (ops c.system)) (poly_laws (ops c.system) (laws c.system)))) ∙ hom-zero (values (ops c.system) (laws c.system) (field c.system) c.fractions)) ∙ mul_zero KxZ _)
  read-tail r (t ∷ ts) forms hold =
      let form = both (is_tail_item c.system c.fractions t) (list_all (is_tail_item c.system c.fractions) ts) forms in
      let shown = both (is_tail c r t) (list_all (is_tail c r) ts) hold in
      let tie : (is_exponents c.system t.alpha && is_good c.system (space_count c.system) t.c) ≡ true × (is_tied c.system c.fractions t.tied ≡ true) = both _ _ form.0 in
      let exponents : (is_exponents c.system t.alpha ≡ true) × (is_good c.system (space_count c.system) t.c ≡ true) = both _ _ tie.0 in
      let count : length t.alpha ≡ space_count c.system = eqb-true _ _ (both (length t.alpha == space_count c.system) (nat_le (total_degree t.alpha) max_degree) exponents.0).0 in
      let tied : is_tied_to c r.d t.c t.tied ≡ true = (both (is_lt (grevlex t.alpha r.a) && product_fits (residue_ops c.system.p) (z_power c.system t.alpha ∷ []) (behind_z c.system t.c)) _ shown.0).1 in
      multiples.read-add (ops c.system) (laws c.system) (field c.system) (space_count c.system) _ _
      ∙ ap₂ KxZ.add (read-part t.alpha t.c count ∙ ap (λ x. monomial_over x t.alpha) (tied-value r.d t.c t.tied tie.1 tied) ∙ sym (constant-term (polynomials (rational_ops c.system.p) (fraction_laws (ops c.system) (laws c.system) (field c.system))) _ _ (monomial t.alpha))) (read-tail r ts form.1 shown.1)
      ∙ sym (KxZ.mul_add _ _ _)
      ∙ ap (KxZ.mul _) (sym (ap (val c.system c.fractions) (class-cons (poly_ops (ops c.system)) (poly_laws (ops c.system) (laws c.system)) _ t.alpha _) ∙ (values (ops c.system) (laws c.system) (field c.system) c.fractions).add _ _ ∙ ap (λ y. KxZ.add y (symbols_of ts)) (values-term (ops c.system) (laws c.system) (field c.system) c.fractions _ (monomial t.alpha))))

  symbols-relation : (r : RelationItem) → val c.system c.fractions (class (poly_ops (poly_ops (ops c.system))) (symbol_poly c.system.p (symbol_relation c.system.p r))) ≡ KxZ.add (monomial_over Kx.one r.a) (KxZ.neg (symbols_of r.tail))
  unfolding symbols_of
  symbols-relation r =
      ap (val c.system c.fractions) (class-cons (poly_ops (ops c.system)) (poly_laws (ops c.system) (laws c.system)) _ r.a _) ∙ (values (ops c.system) (laws c.system) (field c.system) c.fractions).add _ _
      ∙ ap₂ KxZ.add (values-term (ops c.system) (laws c.system) (field c.system) c.fractions _ (monomial r.a) ∙ ap (λ x. monomial_over x r.a) (ap (value_hom (ops c.system) (laws c.system) (field c.system) c.fractions).at (class-one (poly_ops (ops c.system)) (poly_laws (ops c.system) (laws c.system))) ∙ (value_hom (ops c.system) (laws c.system) (field c.system) c.fractions).one))
      (ap (val c.system c.fractions) (class-neg (poly_ops (poly_ops (ops c.system))) (poly_laws (poly_ops (ops c.system)) (poly_laws (ops c.system) (laws c.system))) _) ∙ hom-neg (values (ops c.system) (laws c.system) (field c.system) c.fractions) _)

  cleared_in : (r : RelationItem) → length r.a ≡ n → InFirst c.system n r.d → list_all (is_tail_item c.system c.fractions) r.tail ≡ true → Of (polynomials (ops c.system) (laws c.system)) (IsFront (2 * space_count c.system)) (cleared c.system r)
  cleared_in r count d_in forms = of-add (polynomials (ops c.system) (laws c.system)) (part r.a r.d count d_in) (of-opposite (polynomials (ops c.system) (laws c.system)) (tail_in r.tail forms))
    where
      part : (a : List ℕ) (x : Poly) → length a ≡ n → InFirst c.system n x → Of (polynomials (ops c.system) (laws c.system)) (IsFront (2 * space_count c.system)) (K.mul (power c.system a) ((move (ops c.system) (laws c.system) (space_count c.system)).at (class (poly_ops (ops c.system)) x)))
      part a x e q = let more : space_count c.system ≤ 2 * space_count c.system = omega arith in
          front-product (polynomials (ops c.system) (laws c.system)) (2 * space_count c.system) (more_variables (polynomials (ops c.system) (laws c.system)) (space_count c.system) (2 * space_count c.system) more (power_front a e)) (multiples.behind_z (ops c.system) (laws c.system) (field c.system) (space_count c.system) q)

      tail_in : (ts : List TailItem) → list_all (is_tail_item c.system c.fractions) ts ≡ true → Of (polynomials (ops c.system) (laws c.system)) (IsFront (2 * space_count c.system)) (cleared_tail c.system ts)
      tail_in [] h = Of.none
      tail_in (t ∷ ts) h =
          let form = both (is_tail_item c.system c.fractions t) (list_all (is_tail_item c.system c.fractions) ts) h in
          let tie : (is_exponents c.system t.alpha && is_good c.system (space_count c.system) t.c) ≡ true × (is_tied c.system c.fractions t.tied ≡ true) = both _ _ form.0 in
          let exponents : (is_exponents c.system t.alpha ≡ true) × (is_good c.system (space_count c.system) t.c ≡ true) = both _ _ tie.0 in
          let count : length t.alpha ≡ space_count c.system = eqb-true _ _ (both (length t.alpha == space_count c.system) (nat_le (total_degree t.alpha) max_degree) exponents.0).0 in
          of-add (polynomials (ops c.system) (laws c.system)) (part t.alpha t.c count (good_front c.system n t.c exponents.1)) (tail_in ts form.1)

  -- a relation has, in value, a multiple without denominators that lies in the ideal of the group and the graph
  pub relation_extended : (r : RelationItem) → is_relation_item c.system c.fractions r ≡ true → relation_is_shown c r ≡ true
      → Extended c.system (generators c.system form) (val c.system c.fractions (class (poly_ops (poly_ops (ops c.system))) (symbol_poly c.system.p (symbol_relation c.system.p r))))
  unfolding relation_is_shown vanishes_on_graph
  relation_extended r item shown =
      let cofactors = both (is_exponents c.system r.a && is_nonzero c.system n r.d && list_all (is_tail_item c.system c.fractions) r.tail && are_distinct (map (λ t. t.alpha) r.tail)) (are_good c.system (length c.system.ideal) (group_count c.system + n) r.cofactors) item in
      let distinct = both (is_exponents c.system r.a && is_nonzero c.system n r.d && list_all (is_tail_item c.system c.fractions) r.tail) (are_distinct (map (λ t. t.alpha) r.tail)) cofactors.0 in
      let tails = both (is_exponents c.system r.a && is_nonzero c.system n r.d) (list_all (is_tail_item c.system c.fractions) r.tail) distinct.0 in
      let head = both (is_exponents c.system r.a) (is_nonzero c.system n r.d) tails.0 in
      let den = both (is_good c.system n r.d) (not (is_zero (residue_ops c.system.p) r.d)) head.1 in
      let count : length r.a ≡ n = eqb-true _ _ (both (length r.a == n) (nat_le (total_degree r.a) max_degree) head.0).0 in
      let holds = both (product_fits (residue_ops c.system.p) (z_power c.system r.a ∷ []) (behind_z c.system r.d) && list_all (is_tail c r) r.tail) (vanishes_on_graph c.system (relation_of c.system r) r.cofactors) shown in
      let fits = both (product_fits (residue_ops c.system.p) (z_power c.system r.a ∷ []) (behind_z c.system r.d)) (list_all (is_tail c r) r.tail) holds.0 in
      let out = both (substitution_fits (residue_ops c.system.p) (graph_point c.system) (relation_of c.system r)) (multiplies_out (residue_ops c.system.p) (substitute (residue_ops c.system.p) (graph_point c.system) (relation_of c.system r)) r.cofactors c.system.ideal) holds.1 in
      let sums = both (combination_fits (residue_ops c.system.p) r.cofactors c.system.ideal) _ out.1 in
      let many = eqb-true (length r.cofactors) (length c.system.ideal) (both (length r.cofactors == length c.system.ideal) _ cofactors.1).0 in
      let d_in : InFirst c.system n r.d = good_front c.system n r.d den.0 in
      let whole = cleared_in r count d_in tails.1 in
      record {
        d = class (poly_ops (ops c.system)) r.d;
        h = cleared c.system r;
        d_in_space = d_in;
        h_in_both = whole;
        nonzero = nonzero-class (ops c.system) (laws c.system) r.d (not-true _ den.1);
        multiple =
            multiples.read-add (ops c.system) (laws c.system) (field c.system) (space_count c.system) _ _
            ∙ ap₂ KxZ.add (read-part r.a r.d count ∙ ap (λ x. monomial_over x r.a) (sym (mul_one Kx _)) ∙ sym (constant-term (polynomials (rational_ops c.system.p) (fraction_laws (ops c.system) (laws c.system) (field c.system))) _ _ (monomial r.a)))
            (ap (over (ops c.system) (laws c.system) (field c.system)).at (hom-neg (nested (ops c.system) (laws c.system) (field c.system) (space_count c.system)) _) ∙ hom-neg (over (ops c.system) (laws c.system) (field c.system)) _ ∙ ap KxZ.neg (read-tail r r.tail tails.1 fits.1))
            ∙ factored _ _ _ ∙ ap (KxZ.mul _) (sym (symbols-relation r));
        property = on_graph c.system form (moved_front (polynomials (ops c.system) (laws c.system)) (group_count c.system) (2 * space_count c.system) whole)
            (subst (In K (generator (ops c.system) (laws c.system) c.system.ideal)) (put-class (ops c.system) (laws c.system) (graph_point c.system) (relation_of c.system r) ∙ ap (put (ops c.system) (laws c.system) (graph_point c.system)).at (relation-class c.system r))
            (member-in (ops c.system) (laws c.system) c.system.ideal _ (record { cofactors = r.cofactors; as_many = many; sums_up = sums.1 })));
      }
    where
      factored : (d x y : Class (poly_ops (rational_ops c.system.p))) → KxZ.add (KxZ.mul d x) (KxZ.neg (KxZ.mul d y)) ≡ KxZ.mul d (KxZ.add x (KxZ.neg y))
      factored d x y = ring KxZ (d ∷ x ∷ y ∷ []) (search reading depth 30) refl
