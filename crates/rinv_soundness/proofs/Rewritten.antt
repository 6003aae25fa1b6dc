-- Rewriting on lists: from what rewriting needs of relations with symbols to the expressions that are denoted.
--   IsRewriting s fs c qs    the relations are in the extended ideal of fs in value, and a member without reducible monomials is zero
--   symbol_basis         relations with symbols for the reduced basis are such
--   rest-denotes         the coefficients of the two rests at a monomial denote an invariant, where the second has a value
--   rest-zero, rest-found    the rest of Q(Z) has only values zero exactly where Q(Z) lies in the extended ideal
use Rattle.std.proofs.Common.{◌≡◌, ◌⊎◌, ℕ, zero, suc, ◌<◌, ◌≤◌, Bool, true, false, not, List, [], ◌∷◌, ◌++◌, length, map, get_or, refl, sym, ◌∙◌, ap, ap₂, subst, arith, inl, inr, true≢false}
use Rattle.std.specs.Prelude.{All, ◌&&◌, IsTrue}
use Rattle.std.specs.List.{list_any, list_all, AllZip}
use Rattle.std.proofs.lemmas.List.Elements.{All-head, All-tail}
use Rattle.std.proofs.lemmas.List.{length-map}
use mathlib.Core.Logic.{∥∥₁_elim}
use Rattle.rinv_algebra.specs.Ring.{RingLaws, IsSame}
use Rattle.rinv_algebra.specs.Residue.{residue_ops}
use Rattle.rinv_algebra.specs.Monomial.{divides}
use Rattle.rinv_algebra.specs.Polynomial.{Term, poly_ops, same, coefficient}
use Rattle.rinv_algebra.specs.Normal.{is_in_variables}
use Rattle.rinv_algebra.proofs.PolynomialLaws.{poly_laws}
use Rattle.rinv_theory.proofs.CRing.{CRing, hom-zero, hom-neg}
use Rattle.rinv_theory.proofs.Classes.{Class, class, class_ring, class_sound, class_exact, class-add, class-mul, class-neg, class-zero, class-one}
use Rattle.rinv_theory.proofs.Monoid.{Monomial, monomial}
use Rattle.rinv_theory.proofs.TermRing.{coefficient-zero}
use Rattle.rinv_theory.proofs.Polynomials.{polynomials, poly_ring, term_at, coefficient_at, class-cons, class-coefficient}
use Rattle.rinv_theory.proofs.Ideals.{In}
use Rattle.rinv_theory.proofs.Members.{generator, member-in}
use Rattle.rinv_theory.proofs.Variables.{in_variables-of}
use Rattle.rinv_theory.proofs.Fields.{fraction_laws}
use Rattle.rinv_theory.proofs.Fractions.{polynomial_fractions-into}
use Rattle.rinv_defs.specs.System.{System, Poly, group_count, space_count}
use Rattle.rinv_defs.specs.Invariant.{Fraction, IsFraction}
use Rattle.rinv_defs.specs.Generators.{rational_ops, value_at, HasValue}
use Rattle.rinv_defs.specs.Extended.{Relation, relation_poly, action_ideal, InExtendedIdeal}
use Rattle.rinv_soundness.specs.Rewriting.{SymbolPoly, SymbolRelation, symbol_poly, at_fractions, in_z, IsTied, IsSymbolBasis, IsRestBy}
use Rattle.rinv_soundness.proofs.FirstVariables.{low_or_high}
use Rattle.rinv_soundness.proofs.GeneratorLists.{generator_past}
use Rattle.rinv_soundness.proofs.Substituting.{move}
use Rattle.rinv_soundness.proofs.OverFractions.{over_ring, to_z}
use Rattle.rinv_soundness.proofs.HasMultiples.{crossed}
use Rattle.rinv_soundness.proofs.ExtendedIdeals.{ops, laws, field, InIdeal, ideal-add, ideal-mul, Extended, extended-has}
use Rattle.rinv_soundness.proofs.SymbolValues.{value_hom, value-class, values, values-term, values-class, values-coefficient, in_z-class}
use Rattle.rinv_soundness.proofs.SpatialValues.{InSpace, nothing-multiple}
use Rattle.rinv_soundness.proofs.LowestMembers.{IsReducibleBy, any-map, basis-lowest}
use Rattle.rinv_soundness.proofs.Ratios as ratios

-- the first element of a list that fails a test
find : {X : Type 0} (test : X → Bool) (xs : List X) → list_all test xs ≡ false → (x : X) × (test x ≡ false)
find test [] h = absurd (true≢false h)
find {X} test (x ∷ xs) h = go (test x) refl (λ e. find test xs e) h
  where
    go : (b : Bool) → test x ≡ b → (list_all test xs ≡ false → (y : X) × (test y ≡ false)) → list_all test (x ∷ xs) ≡ false → (y : X) × (test y ≡ false)
    go false e again h = (x, e)
    go true e again h = again (sym (ap (λ (b : Bool). b && list_all test xs) e) ∙ h)

module _ (s : System) where
  abbrev KyZ : CRing (Class (poly_ops (poly_ops (residue_ops s.p))))
  KyZ = poly_ring (poly_ops (ops s)) (poly_laws (ops s) (laws s))

  abbrev rational_laws : RingLaws (rational_ops s.p)
  rational_laws = fraction_laws (ops s) (laws s) (field s)

  abbrev Rational : CRing (Class (rational_ops s.p))
  Rational = class_ring (rational_ops s.p) rational_laws

  abbrev symbols : SymbolPoly → Class (poly_ops (poly_ops (residue_ops s.p)))
  symbols f = class (poly_ops (poly_ops (ops s))) f

  -- the value of a polynomial in Z over symbols
  abbrev pub val : List Fraction → Class (poly_ops (poly_ops (residue_ops s.p))) → Class (poly_ops (rational_ops s.p))
  val c f = (values (ops s) (laws s) (field s) c).at f

  fraction_in : (f : Fraction) → IsFraction s f → InSpace (ops s) (laws s) (field s) (space_count s) f
  fraction_in f h = record {
    numerator = in_variables-of (ops s) (laws s) (space_count s) f.0 h.numerator;
    denominator = in_variables-of (ops s) (laws s) (space_count s) f.1 h.denominator;
    nonzero = h.nonzero;
  }

  -- what rewriting needs of relations with symbols, for the ideal of fs
  pub record IsRewriting (fs : List Poly) (c : List Fraction) (qs : List SymbolRelation) : Type 0 where
    pub fractions : All (IsFraction s) c
    pub relation : (k : ℕ) → k < length qs → Extended s fs (val c (symbols (get_or (map (symbol_poly s.p) qs) k [])))
    pub lowest : (x : Class (poly_ops (rational_ops s.p))) → Extended s fs x → ((m : Monomial) → IsReducibleBy (map (λ q. q.lead) qs) m → coefficient_at (rational_ops s.p) rational_laws x m ≡ Rational.zero) → x ≡ (over_ring (ops s) (laws s) (field s)).zero

  -- ---- from the reduced basis

  -- the value of a relation with symbols is the relation to which it is tied
  tied-class : (c : List Fraction) (q : SymbolRelation) (r : Relation) → IsTied s.p c q r → val c (symbols (symbol_poly s.p q)) ≡ class (poly_ops (rational_ops s.p)) (relation_poly s r)
  unfolding value_at
  tied-class c q r t =
      ap (val c) (class-cons (poly_ops (ops s)) (poly_laws (ops s) (laws s)) _ q.lead _) ∙ (values (ops s) (laws s) (field s) c).add _ _
      ∙ ap₂ (over_ring (ops s) (laws s) (field s)).add
      (values-term (ops s) (laws s) (field s) c _ (monomial q.lead) ∙ ap₂ (term_at (rational_ops s.p) rational_laws) (ap (value_hom (ops s) (laws s) (field s) c).at (class-one (poly_ops (ops s)) (poly_laws (ops s) (laws s))) ∙ (value_hom (ops s) (laws s) (field s) c).one ∙ sym (class-one (rational_ops s.p) rational_laws)) (ap monomial t.lead))
      (ap (val c) (class-neg (poly_ops (poly_ops (ops s))) (poly_laws (poly_ops (ops s)) (poly_laws (ops s) (laws s))) q.tail) ∙ hom-neg (values (ops s) (laws s) (field s) c) _
      ∙ ap (over_ring (ops s) (laws s) (field s)).neg (tail_class ∙ class_sound (poly_ops (rational_ops s.p)) (poly_laws (rational_ops s.p) rational_laws) _ _ t.tail) ∙ sym (class-neg (poly_ops (rational_ops s.p)) (poly_laws (rational_ops s.p) rational_laws) r.tail))
      ∙ sym (class-cons (rational_ops s.p) rational_laws (rational_ops s.p).one r.lead _)
    where
      tail_class : val c (symbols q.tail) ≡ class (poly_ops (rational_ops s.p)) (at_fractions s.p c q.tail)
      tail_class = sym (values-class (ops s) (laws s) (field s) c q.tail)

  leads_same : (c : List Fraction) (qs : List SymbolRelation) (rs : List Relation) → AllZip (IsTied s.p c) qs rs → map (λ r. r.lead) rs ≡ map (λ q. q.lead) qs
  leads_same c [] [] t = refl
  leads_same c [] (r ∷ rs) t = absurd t
  leads_same c (q ∷ qs) [] t = absurd t
  leads_same c (q ∷ qs) (r ∷ rs) t = ap₂ ◌∷◌ (sym t.0.lead) (leads_same c qs rs t.1)

  relations_in : (c : List Fraction) (qs : List SymbolRelation) (rs : List Relation) → AllZip (IsTied s.p c) qs rs → All (λ r. InExtendedIdeal s (relation_poly s r)) rs → (k : ℕ) → k < length qs → Extended s (action_ideal s) (val c (symbols (get_or (map (symbol_poly s.p) qs) k [])))
  relations_in c [] rs t m k h = absurd (omega arith)
  relations_in c (q ∷ qs) [] t m k h = absurd t
  relations_in c (q ∷ qs) (r ∷ rs) t m zero h = subst (Extended s (action_ideal s)) (sym (tied-class c q r t.0)) (extended-has s (relation_poly s r) (All-head (λ r. InExtendedIdeal s (relation_poly s r)) r rs m))
  relations_in c (q ∷ qs) (r ∷ rs) t m (suc k) h = relations_in c qs rs t.1 (All-tail (λ r. InExtendedIdeal s (relation_poly s r)) r rs m) k (omega arith)

  -- relations with symbols for the reduced basis
  pub symbol_basis : (c : List Fraction) (qs : List SymbolRelation) → IsSymbolBasis s c qs → IsRewriting (action_ideal s) c qs
  symbol_basis c qs b = record {
    fractions = b.fractions;
    relation = relations_in c qs b.relations b.tied b.basis.members;
    lowest = λ x a irreducible. basis-lowest s b.relations b.basis x a (λ m r. irreducible m (subst (λ ls. IsReducibleBy ls m) (leads_same c qs b.relations b.tied) r));
  }

  -- ---- rests

  module _ (fs : List Poly) (c : List Fraction) (qs : List SymbolRelation) (w : IsRewriting fs c qs) where
    -- zero lies in the ideal
    pub nothing_in : InIdeal s fs (poly_ring (ops s) (laws s)).zero
    nothing_in = ∣ subst (In (poly_ring (ops s) (laws s)) (generator (ops s) (laws s) fs)) (sym (hom-zero (move (ops s) (laws s) (group_count s)))) In.none ∣₁

    -- the fractions are in the space's variables
    pub in_space : (k : ℕ) → k < length c → InSpace (ops s) (laws s) (field s) (space_count s) (get_or c k (rational_ops s.p).one)
    in_space k h = fraction_in (get_or c k (rational_ops s.p).one) (w.fractions k (rational_ops s.p).one h)

    -- the relations with symbols
    abbrev pub G : ℕ → Class (poly_ops (poly_ops (residue_ops s.p)))
    G k = generator (poly_ops (ops s)) (poly_laws (ops s) (laws s)) (map (symbol_poly s.p) qs) k

    -- the relations are in the extended ideal, in value
    pub relation_at : (k : ℕ) → Extended s fs (val c (G k))
    relation_at k = go (low_or_high k (length qs))
      where
        go : (k < length qs) ⊎ (length qs ≤ k) → Extended s fs (val c (G k))
        go (inl h) = w.relation k h
        go (inr h) =
            let past : length (map (symbol_poly s.p) qs) ≤ k = omega (arith, h, length-map qs (symbol_poly s.p)) in
            subst (Extended s fs) (sym (ap (val c) (generator_past (poly_ops (ops s)) (poly_laws (ops s) (laws s)) (map (symbol_poly s.p) qs) k past) ∙ hom-zero (values (ops s) (laws s) (field s) c)))
            (nothing-multiple (ops s) (laws s) (field s) (space_count s) c in_space nothing_in)

    -- r is a rest of f
    abbrev pub Rest : Class (poly_ops (poly_ops (residue_ops s.p))) → Class (poly_ops (poly_ops (residue_ops s.p))) → Type 0
    Rest f r = ratios.IsRest (ops s) (laws s) (field s) (space_count s) nothing_in (ideal-add s fs) (ideal-mul s fs) c in_space G relation_at (IsReducibleBy (map (λ q. q.lead) qs)) w.lowest f r

    is_rest : (f : Poly) (r : SymbolPoly) → IsRestBy s qs (in_z s.p f) r → Rest ((to_z (ops s) (laws s) (field s)).at (class (poly_ops (ops s)) f)) (symbols r)
    is_rest f r h = record {
      congruent = subst (In KyZ G)
          (class-add (poly_ops (poly_ops (ops s))) (poly_laws (poly_ops (ops s)) (poly_laws (ops s) (laws s))) _ _ ∙ ap₂ KyZ.add (in_z-class (ops s) (laws s) (field s) f) (class-neg (poly_ops (poly_ops (ops s))) (poly_laws (poly_ops (ops s)) (poly_laws (ops s) (laws s))) r))
          (member-in (poly_ops (ops s)) (poly_laws (ops s) (laws s)) (map (symbol_poly s.p) qs) _ h.congruent);
      in_variables = in_variables-of (poly_ops (ops s)) (poly_laws (ops s) (laws s)) (space_count s) r h.in_space;
      reduced = λ m q. ap (coefficient_at (poly_ops (ops s)) (poly_laws (ops s) (laws s)) (symbols r)) (sym q.1) ∙ class-coefficient (poly_ops (ops s)) (poly_laws (ops s) (laws s)) r q.0 ∙ none q.0 q.2 ((poly_ops (ops s)).same (coefficient (poly_ops (ops s)) r q.0) (poly_ops (ops s)).zero) refl;
    }
      where
        none : (a : List ℕ) → IsTrue (list_any (λ l. divides l a) (map (λ q. q.lead) qs)) → (b : Bool) → (poly_ops (ops s)).same (coefficient (poly_ops (ops s)) r a) (poly_ops (ops s)).zero ≡ b → class (poly_ops (ops s)) (coefficient (poly_ops (ops s)) r a) ≡ (poly_ring (ops s) (laws s)).zero
        none a t true e = class_sound (poly_ops (ops s)) (poly_laws (ops s) (laws s)) _ _ e ∙ class-zero (poly_ops (ops s)) (poly_laws (ops s) (laws s))
        none a t false e = absurd (true≢false (sym t ∙ any-map (λ q. q.lead) (λ l. divides l a) qs ∙ h.reduced a (ap not e)))

    -- the value of a coefficient of a rest
    coefficient-value : (r : SymbolPoly) (m : List ℕ) → class (rational_ops s.p) (value_at s.p c (coefficient (poly_ops (ops s)) r m)) ≡ (value_hom (ops s) (laws s) (field s) c).at (coefficient_at (poly_ops (ops s)) (poly_laws (ops s) (laws s)) (symbols r) (monomial m))
    unfolding value_at
    coefficient-value r m = value-class (ops s) (laws s) (field s) c _ ∙ ap (value_hom (ops s) (laws s) (field s) c).at (sym (class-coefficient (poly_ops (ops s)) (poly_laws (ops s) (laws s)) r m))

    -- the coefficients of the rests of P(Z) and Q(Z) at a monomial denote an invariant P/Q, where the second has a value
    pub rest-denotes : (f : Fraction) → IsFraction s f → InIdeal s fs (crossed (ops s) (laws s) (field s) (space_count s) (class (poly_ops (ops s)) f.0) (class (poly_ops (ops s)) f.1)) → (a b : SymbolPoly) → IsRestBy s qs (in_z s.p f.0) a → IsRestBy s qs (in_z s.p f.1) b
        → (m : List ℕ) → ¬ (IsSame (rational_ops s.p) (value_at s.p c (coefficient (poly_ops (residue_ops s.p)) b m)) (rational_ops s.p).zero) → HasValue s.p c (coefficient (poly_ops (residue_ops s.p)) a m, coefficient (poly_ops (residue_ops s.p)) b m) f
    rest-denotes f in_f member a b rest_a rest_b m defined = record {
      defined = defined;
      equal = class_exact (rational_ops s.p) rational_laws _ _ (
          class-mul (rational_ops s.p) rational_laws _ _ ∙ ap₂ Rational.mul (coefficient-value a m) (sym (polynomial_fractions-into (ops s) (laws s) (field s) f.1))
          ∙ ratios.ratio (ops s) (laws s) (field s) (space_count s) nothing_in (ideal-add s fs) (ideal-mul s fs) c in_space G relation_at (IsReducibleBy (map (λ q. q.lead) qs)) w.lowest
          (fraction_in f in_f).numerator (fraction_in f in_f).denominator (is_rest f.0 a rest_a) (is_rest f.1 b rest_b) member (monomial m)
          ∙ ap₂ Rational.mul (polynomial_fractions-into (ops s) (laws s) (field s) f.0) (sym (coefficient-value b m)) ∙ sym (class-mul (rational_ops s.p) rational_laws _ _));
    }

    -- where Q(Z) lies in the extended ideal, all coefficients of its rest have the value zero
    pub rest-zero : (q : Poly) → IsTrue (is_in_variables (space_count s) q) → Extended s fs (val c ((to_z (ops s) (laws s) (field s)).at (class (poly_ops (ops s)) q))) → (b : SymbolPoly) → IsRestBy s qs (in_z s.p q) b
        → (m : List ℕ) → IsSame (rational_ops s.p) (value_at s.p c (coefficient (poly_ops (residue_ops s.p)) b m)) (rational_ops s.p).zero
    rest-zero q in_q v b rest m = class_exact (rational_ops s.p) rational_laws _ _ (
        coefficient-value b m ∙ sym (values-coefficient (ops s) (laws s) (field s) c (symbols b) (monomial m))
        ∙ ap (λ x. coefficient_at (rational_ops s.p) rational_laws x (monomial m)) (ratios.rest-vanishes (ops s) (laws s) (field s) (space_count s) nothing_in (ideal-add s fs) (ideal-mul s fs) c in_space G relation_at (IsReducibleBy (map (λ q. q.lead) qs)) w.lowest
        (in_variables-of (ops s) (laws s) (space_count s) q in_q) (is_rest q b rest) v)
        ∙ coefficient-zero (polynomials (rational_ops s.p) rational_laws) (monomial m) ∙ sym (class-zero (rational_ops s.p) rational_laws))

    -- otherwise one has another value
    pub rest-found : (q : Poly) → IsTrue (is_in_variables (space_count s) q) → (Extended s fs (val c ((to_z (ops s) (laws s) (field s)).at (class (poly_ops (ops s)) q))) → ⊥) → (b : SymbolPoly) → IsRestBy s qs (in_z s.p q) b
        → (m : List ℕ) × ¬ (IsSame (rational_ops s.p) (value_at s.p c (coefficient (poly_ops (residue_ops s.p)) b m)) (rational_ops s.p).zero)
    unfolding value_at same coefficient
    rest-found q in_q lasts b rest = go (same (rational_ops s.p) (at_fractions s.p c b) []) refl
      where
        here : (m : List ℕ) → class (rational_ops s.p) (coefficient (rational_ops s.p) (at_fractions s.p c b) m) ≡ class (rational_ops s.p) (value_at s.p c (coefficient (poly_ops (ops s)) b m))
        here m =
            sym (class-coefficient (rational_ops s.p) rational_laws (at_fractions s.p c b) m) ∙ ap (λ x. coefficient_at (rational_ops s.p) rational_laws x (monomial m)) (values-class (ops s) (laws s) (field s) c b)
            ∙ values-coefficient (ops s) (laws s) (field s) c (symbols b) (monomial m) ∙ sym (coefficient-value b m)

        go : (e : Bool) → same (rational_ops s.p) (at_fractions s.p c b) [] ≡ e → (m : List ℕ) × ¬ (IsSame (rational_ops s.p) (value_at s.p c (coefficient (poly_ops (residue_ops s.p)) b m)) (rational_ops s.p).zero)
        go true e = absurd (∥∥₁_elim (ratios.vanishes-rest (ops s) (laws s) (field s) (space_count s) nothing_in (ideal-add s fs) (ideal-mul s fs) c in_space G relation_at (IsReducibleBy (map (λ q. q.lead) qs)) w.lowest
            (in_variables-of (ops s) (laws s) (space_count s) q in_q) (is_rest q b rest) (sym (values-class (ops s) (laws s) (field s) c b) ∙ class_sound (poly_ops (rational_ops s.p)) (poly_laws (rational_ops s.p) rational_laws) _ [] e ∙ class-zero (poly_ops (rational_ops s.p)) (poly_laws (rational_ops s.p) rational_laws))) (λ x y. absurd x) lasts)
        go false e = at_term (find (λ t. (rational_ops s.p).same (coefficient (rational_ops s.p) (at_fractions s.p c b) t.0) (rational_ops s.p).zero) (at_fractions s.p c b ++ []) e)
          where
            at_term : (t : Term Fraction) × ((rational_ops s.p).same (coefficient (rational_ops s.p) (at_fractions s.p c b) t.0) (rational_ops s.p).zero ≡ false) → (m : List ℕ) × ¬ (IsSame (rational_ops s.p) (value_at s.p c (coefficient (poly_ops (residue_ops s.p)) b m)) (rational_ops s.p).zero)
            at_term (t, off) = (t.0, λ z. true≢false (sym (class_exact (rational_ops s.p) rational_laws (coefficient (rational_ops s.p) (at_fractions s.p c b) t.0) (rational_ops s.p).zero (here t.0 ∙ class_sound (rational_ops s.p) rational_laws (value_at s.p c (coefficient (poly_ops (ops s)) b t.0)) (rational_ops s.p).zero z)) ∙ off))
