-- Division of polynomials in Z over symbols by the relations of an accepted certificate, which are monic: each has a rest.
--   find_divisor         the first of a list of monomials that divides a monomial, or none does
--   relation_elements    the relations with symbols as elements with their leading terms
--   rest_exists          each polynomial in Z has a rest
use Rattle.std.proofs.Common.{◌≡◌, ◌⊎◌, ℕ, suc, ◌<◌, Bool, true, false, List, [], ◌∷◌, length, get_or, refl, sym, ◌∙◌, subst, arith, inl, inr, true≢false, take_all, map, ap₂, ◌+◌, ◌≤◌, ap}
use Rattle.std.specs.Prelude.{◌||◌, ◌&&◌, ◌==◌, nat_le, All}
use Rattle.std.specs.List.{list_any, list_all}
use Rattle.std.specs.Ordering.{is_lt}
use Rattle.std.specs.declared.cmp.Ordering.{Ordering}
use Rattle.std.specs.declared.cmp.Ordering.TheVariants.{Less, Equal, Greater}
use mathlib.Core.HLevel.{Σ_prop_path}
use mathlib.Core.Logic.{Dec-prop, ∥∥₁_map}
use Rattle.rinv_algebra.specs.Monomial.{divides, total_degree, max_degree}
use Rattle.rinv_theory.proofs.Monoid.{Monomial, monomial, monomials, monomial_ind}
use Rattle.rinv_groebner.proofs.MonomialLists.{Divisor, divides-divisor, divisor-divides, divisor_trans}
use Rattle.rinv_algebra.specs.Residue.{residue_ops}
use Rattle.rinv_algebra.specs.Order.{grevlex}
use Rattle.rinv_algebra.specs.Polynomial.{poly_ops}
use Rattle.rinv_algebra.specs.Fits.{product_fits}
use Rattle.rinv_algebra.proofs.Grevlex.{grevlex_laws}
use Rattle.rinv_algebra.proofs.PolynomialLaws.{poly_laws}
use Rattle.rinv_algebra.proofs.Same.{both}
use Rattle.std.proofs.lemmas.Bool.{eqb-true}
use Rattle.rinv_theory.proofs.CRing.{CRing, Hom}
use Rattle.rinv_theory.proofs.Classes.{Class, class, class-neg, class-one, class-zero}
use Rattle.rinv_theory.proofs.Polynomials.{polynomials, poly_ring, term_at, class-cons}
use Rattle.rinv_theory.proofs.Of.{Of, of-weaken, of-add, of-term, of-coefficient}
use Rattle.rinv_theory.proofs.Leads.{MonomialOrder}
use Rattle.rinv_theory.proofs.Places.{front, front-list, back, behind, front_behind}
use Rattle.rinv_theory.proofs.Variables.{IsFront}
use Rattle.rinv_groebner.proofs.Elements.{Elements}
use Rattle.rinv_groebner.proofs.FirstVariables.{order_in, order_in-less, order_in-well}
use Rattle.rinv_groebner.proofs.Division.{divide_any}
use Rattle.rinv_defs.specs.System.{group_count, space_count}
use Rattle.rinv_defs.specs.SystemForm.{is_good, is_nonzero, are_good}
use Rattle.rinv_defs.specs.Certificate.{Certificate, TailItem, RelationItem}
use Rattle.rinv_defs.specs.Format.{is_exponents, is_tied, is_tail_item, is_relation_item, are_distinct}
use Rattle.rinv_defs.specs.RelationConditions.{is_tail, z_power, behind_z, relation_of, relation_is_shown}
use Rattle.rinv_defs.specs.Conditions.{vanishes_on_graph}
use Rattle.std.proofs.lemmas.List.{length-map}
use Rattle.rinv_defs.specs.Invariant.{IsInvariant}
use Rattle.rinv_theory.proofs.Ideals.{In, in_one, in-in, in-hom}
use Rattle.rinv_theory.proofs.Members.{generator}
use Rattle.rinv_theory.proofs.Solver.{ring, reading}
use Rattle.rinv_groebner.proofs.Multiples.{multiples-in}
use Rattle.rinv_soundness.proofs.CoveredLeads.{any_implies}
use Rattle.rinv_soundness.proofs.ActionIdeals.{generators}
use Rattle.rinv_soundness.proofs.Rewritten.{Rest}
use Rattle.rinv_soundness.proofs.CertificateRewriting.{item, item_form, item_shown, item_symbols, item_lead, certificate_rewriting}
use Rattle.rinv_soundness.proofs.FullParts.{FullParts}
use Rattle.rinv_soundness.proofs.ExtendedIdeals.{ops, laws}
use Rattle.rinv_soundness.proofs.FirstVariables.{of-opposite, retract, retract-front, retract-of, front-front}
use Rattle.rinv_soundness.specs.Rewriting.{symbol_of, symbol_poly, symbol_relation, symbol_relations}
use Rattle.rinv_soundness.proofs.LowestMembers.{IsReducibleBy}

divisor-prop : (m n : Monomial) → IsProp (Divisor m n)
divisor-prop m n x y = Σ_prop_path (λ s. monomials.is_set _ _) (monomials.cancel m x.0 y.0 (monomials.mul_comm _ _ ∙ x.1 ∙ sym y.1 ∙ monomials.mul_comm _ _))

divisor_dec : (a : List ℕ) (m : Monomial) → Dec (Divisor (monomial a) m)
divisor_dec a = monomial_ind (λ m. Dec (Divisor (monomial a) m)) (λ m. Dec-prop (divisor-prop (monomial a) m)) (λ b. go b (divides a b) refl)
  where
    go : (b : List ℕ) (t : Bool) → divides a b ≡ t → Dec (Divisor (monomial a) (monomial b))
    go b true e = yes (divides-divisor a b e)
    go b false e = no (λ d. true≢false (sym (divisor-divides a b d) ∙ e))

-- the first of a list that divides, or none does
pub find_divisor : (ls : List (List ℕ)) (m : Monomial) → ((k : ℕ) × (k < length ls) × Divisor (monomial (get_or ls k [])) m) ⊎ (IsReducibleBy ls m → ⊥)
find_divisor [] m = inr (λ (b, e, h). true≢false (sym h))
find_divisor (a ∷ ls) m = go (divisor_dec a m) (find_divisor ls m)
  where
    later : (b : List ℕ) → monomial b ≡ m → (Divisor (monomial a) m → ⊥) → (IsReducibleBy ls m → ⊥) → (t : Bool) → divides a b ≡ t → (t || list_any (λ r. divides r b) ls) ≡ true → ⊥
    later b e n f true t h = n (subst (Divisor (monomial a)) e (divides-divisor a b t))
    later b e n f false t h = f (b, e, h)

    go : Dec (Divisor (monomial a) m) → ((k : ℕ) × (k < length ls) × Divisor (monomial (get_or ls k [])) m) ⊎ (IsReducibleBy ls m → ⊥) → ((k : ℕ) × (k < length (a ∷ ls)) × Divisor (monomial (get_or (a ∷ ls) k [])) m) ⊎ (IsReducibleBy (a ∷ ls) m → ⊥)
    go (yes d) r = inl (0, (omega arith), d)
    go (no n) (inl (k, h, d)) = inl (suc k, (omega (arith, h)), d)
    go (no n) (inr f) = inr (λ (b, e, h). later b e n f (divides a b) refl h)

less-is : (o : Ordering) → is_lt o ≡ true → o ≡ Less
less-is Less e = refl
less-is Equal e = absurd (true≢false (sym e))
less-is Greater e = absurd (true≢false (sym e))

module _ (c : Certificate) (parts : FullParts c) where
  abbrev Ring : CRing (Class (poly_ops (poly_ops (residue_ops c.system.p))))
  Ring = poly_ring (poly_ops (ops c.system)) (poly_laws (ops c.system) (laws c.system))

  abbrev n : ℕ
  n = space_count c.system

  abbrev order : MonomialOrder monomials
  order = order_in grevlex grevlex_laws (space_count c.system)

  abbrev symbols_of : List TailItem → Class (poly_ops (poly_ops (residue_ops c.system.p)))
  symbols_of ts = class (poly_ops (poly_ops (ops c.system))) (map (λ t. (t.alpha, symbol_of c.system.p t.tied)) ts)

  -- the monomials of a tail are below the lead, and in the first n variables
  tail_of : (r : RelationItem) → length r.a ≡ n → (ts : List TailItem) → list_all (is_tail_item c.system c.fractions) ts ≡ true → list_all (is_tail c r) ts ≡ true
      → Of (polynomials (poly_ops (ops c.system)) (poly_laws (ops c.system) (laws c.system))) (λ m. order.below m (monomial r.a) × IsFront (space_count c.system) m) (symbols_of ts)
  tail_of r len [] forms hold = subst (Of (polynomials (poly_ops (ops c.system)) (poly_laws (ops c.system) (laws c.system))) _) (sym (class-zero (poly_ops (poly_ops (ops c.system))) (poly_laws (poly_ops (ops c.system)) (poly_laws (ops c.system) (laws c.system))))) Of.none
  tail_of r len (t ∷ ts) forms hold =
      let form = both (is_tail_item c.system c.fractions t) (list_all (is_tail_item c.system c.fractions) ts) forms in
      let shown = both (is_tail c r t) (list_all (is_tail c r) ts) hold in
      let tie : (is_exponents c.system t.alpha && is_good c.system (space_count c.system) t.c) ≡ true × (is_tied c.system c.fractions t.tied ≡ true) = both _ _ form.0 in
      let exponents : (is_exponents c.system t.alpha ≡ true) × (is_good c.system (space_count c.system) t.c ≡ true) = both _ _ tie.0 in
      let count : length t.alpha ≡ space_count c.system = eqb-true _ _ (both (length t.alpha == space_count c.system) (nat_le (total_degree t.alpha) max_degree) exponents.0).0 in
      let low = (both (is_lt (grevlex t.alpha r.a)) (product_fits (residue_ops c.system.p) (z_power c.system t.alpha ∷ []) (behind_z c.system t.c)) (both (is_lt (grevlex t.alpha r.a) && product_fits (residue_ops c.system.p) (z_power c.system t.alpha ∷ []) (behind_z c.system t.c)) _ shown.0).0).0 in
      let short : length t.alpha ≤ space_count c.system = omega (arith, count) in
      let short_lead : length r.a ≤ space_count c.system = omega (arith, len) in
      subst (Of (polynomials (poly_ops (ops c.system)) (poly_laws (ops c.system) (laws c.system))) (λ m. order.below m (monomial r.a) × IsFront (space_count c.system) m)) (sym (class-cons (poly_ops (ops c.system)) (poly_laws (ops c.system) (laws c.system)) _ t.alpha _))
      (Of.more _ (monomial t.alpha) (order_in-less grevlex grevlex_laws (space_count c.system) t.alpha r.a short short_lead (less-is _ low), front-list (space_count c.system) t.alpha ∙ ap monomial (take_all (space_count c.system) t.alpha short)) (tail_of r len ts form.1 shown.1))

  -- what the form and the condition of a relation say
  record Facts (r : RelationItem) : Type 0 where
    len : length r.a ≡ n
    forms : list_all (is_tail_item c.system c.fractions) r.tail ≡ true
    hold : list_all (is_tail c r) r.tail ≡ true

  facts : (r : RelationItem) → is_relation_item c.system c.fractions r ≡ true → relation_is_shown c r ≡ true → Facts r
  unfolding relation_is_shown
  facts r item shown =
      let cofactors = both (is_exponents c.system r.a && is_nonzero c.system n r.d && list_all (is_tail_item c.system c.fractions) r.tail && are_distinct (map (λ t. t.alpha) r.tail)) (are_good c.system (length c.system.ideal) (group_count c.system + n) r.cofactors) item in
      let distinct = both (is_exponents c.system r.a && is_nonzero c.system n r.d && list_all (is_tail_item c.system c.fractions) r.tail) (are_distinct (map (λ t. t.alpha) r.tail)) cofactors.0 in
      let tails = both (is_exponents c.system r.a && is_nonzero c.system n r.d) (list_all (is_tail_item c.system c.fractions) r.tail) distinct.0 in
      let head = both (is_exponents c.system r.a) (is_nonzero c.system n r.d) tails.0 in
      let holds = both (product_fits (residue_ops c.system.p) (z_power c.system r.a ∷ []) (behind_z c.system r.d) && list_all (is_tail c r) r.tail) (vanishes_on_graph c.system (relation_of c.system r) r.cofactors) shown in
      record {
        len = eqb-true _ _ (both (length r.a == n) (nat_le (total_degree r.a) max_degree) head.0).0;
        forms = tails.1;
        hold = (both (product_fits (residue_ops c.system.p) (z_power c.system r.a ∷ []) (behind_z c.system r.d)) (list_all (is_tail c r) r.tail) holds.0).1;
      }

  -- a place of the relations
  abbrev Index : Type 0
  Index = (k : ℕ) × (k < length c.relations)

  facts_at : (i : Index) → Facts (item c i.0)
  facts_at i = facts (item c i.0) (item_form c parts i.0 i.1) (item_shown c parts i.0 i.1)

  abbrev relation_of_index : Index → Class (poly_ops (poly_ops (residue_ops c.system.p)))
  relation_of_index i = class (poly_ops (poly_ops (ops c.system))) (symbol_poly c.system.p (symbol_relation c.system.p (item c i.0)))

  whole : (r : RelationItem) → class (poly_ops (poly_ops (ops c.system))) (symbol_poly c.system.p (symbol_relation c.system.p r)) ≡ Ring.add (term_at (poly_ops (ops c.system)) (poly_laws (ops c.system) (laws c.system)) (poly_ring (ops c.system) (laws c.system)).one (monomial r.a)) (Ring.neg (symbols_of r.tail))
  whole r = class-cons (poly_ops (ops c.system)) (poly_laws (ops c.system) (laws c.system)) _ r.a _ ∙ ap₂ Ring.add (ap (λ x. term_at (poly_ops (ops c.system)) (poly_laws (ops c.system) (laws c.system)) x (monomial r.a)) (class-one (poly_ops (ops c.system)) (poly_laws (ops c.system) (laws c.system)))) (class-neg (poly_ops (poly_ops (ops c.system))) (poly_laws (poly_ops (ops c.system)) (poly_laws (ops c.system) (laws c.system))) _)

  -- the relations with symbols, with their leading terms
  relation_elements : Elements (polynomials (poly_ops (ops c.system)) (poly_laws (ops c.system) (laws c.system))) order Index
  relation_elements = record {
    element = relation_of_index;
    lead = λ i. monomial (item c i.0).a;
    lead_coefficient = λ i. (poly_ring (ops c.system) (laws c.system)).one;
    tail = λ i. Ring.neg (symbols_of (item c i.0).tail);
    inverse = λ i. (poly_ring (ops c.system) (laws c.system)).one;
    whole = λ i. whole (item c i.0);
    tail_below = λ i. of-opposite (polynomials (poly_ops (ops c.system)) (poly_laws (ops c.system) (laws c.system))) (of-weaken (polynomials (poly_ops (ops c.system)) (poly_laws (ops c.system) (laws c.system))) (λ m q. q.0) (tail_of (item c i.0) (facts_at i).len (item c i.0).tail (facts_at i).forms (facts_at i).hold));
    inverse_mul = λ i. (poly_ring (ops c.system) (laws c.system)).one_mul _;
  }

  abbrev leads : List (List ℕ)
  leads = map (λ q. q.lead) (symbol_relations c)

  -- no lead divides
  abbrev Irreducible : Monomial → Type 0
  Irreducible m = IsReducibleBy leads m → ⊥

  reducible_or : (m : Monomial) → ((i : Index) × (s : Monomial) × (monomials.mul s (monomial (item c i.0).a) ≡ m)) ⊎ Irreducible m
  reducible_or m = go (find_divisor leads m)
    where
      go : ((k : ℕ) × (k < length leads) × Divisor (monomial (get_or leads k [])) m) ⊎ Irreducible m → ((i : Index) × (s : Monomial) × (monomials.mul s (monomial (item c i.0).a) ≡ m)) ⊎ Irreducible m
      go (inr f) = inr f
      go (inl (k, h, (s, e))) =
          let low : k < length c.relations = omega (arith, h, length-map (symbol_relations c) (λ q. q.lead), length-map c.relations (symbol_relation c.system.p)) in
          inl ((k, low), s, ap (λ a. monomials.mul s (monomial a)) (sym (item_lead c parts k low)) ∙ e)

  relation_front : (i : Index) → Of (polynomials (poly_ops (ops c.system)) (poly_laws (ops c.system) (laws c.system))) (IsFront (space_count c.system)) (relation_of_index i)
  relation_front i =
      let f = facts_at i in
      let short : length (item c i.0).a ≤ space_count c.system = omega (arith, f.len) in
      subst (Of (polynomials (poly_ops (ops c.system)) (poly_laws (ops c.system) (laws c.system))) (IsFront (space_count c.system))) (sym (whole (item c i.0)))
      (of-add (polynomials (poly_ops (ops c.system)) (poly_laws (ops c.system) (laws c.system))) (of-term (polynomials (poly_ops (ops c.system)) (poly_laws (ops c.system) (laws c.system))) _ (monomial (item c i.0).a) (front-list (space_count c.system) (item c i.0).a ∙ ap monomial (take_all (space_count c.system) (item c i.0).a short)))
      (of-opposite (polynomials (poly_ops (ops c.system)) (poly_laws (ops c.system) (laws c.system))) (of-weaken (polynomials (poly_ops (ops c.system)) (poly_laws (ops c.system) (laws c.system))) (λ m q. q.1) (tail_of (item c i.0) f.len (item c i.0).tail f.forms f.hold))))

  -- the later variables put 1
  abbrev spatial : Hom Ring Ring
  spatial = retract (polynomials (poly_ops (ops c.system)) (poly_laws (ops c.system) (laws c.system))) (space_count c.system)

  irreducible_front : (m : Monomial) → Irreducible m → Irreducible (front (space_count c.system) m)
  irreducible_front = monomial_ind (λ m. Irreducible m → Irreducible (front (space_count c.system) m)) (λ m. hlevel) (λ a f (b, e, h). f (a, refl, any_implies (λ r. divides r b) (λ r. divides r a) (λ r d. divisor-divides r a (divisor_trans (monomial r) (monomial b) (monomial a) (divides-divisor r b d) (within a b e))) leads h))
    where
      within : (a b : List ℕ) → monomial b ≡ front (space_count c.system) (monomial a) → Divisor (monomial b) (monomial a)
      within a b e = (behind (space_count c.system) (back (space_count c.system) (monomial a)), monomials.mul_comm _ _ ∙ ap (λ x. monomials.mul x (behind (space_count c.system) (back (space_count c.system) (monomial a)))) e ∙ front_behind (space_count c.system) (monomial a))

  rest_of : {Q : Monomial → Type 0} {r : Class (poly_ops (poly_ops (residue_ops c.system.p)))} → Of (polynomials (poly_ops (ops c.system)) (poly_laws (ops c.system) (laws c.system))) (λ m. Irreducible m × Q m) r
      → Of (polynomials (poly_ops (ops c.system)) (poly_laws (ops c.system) (laws c.system))) (λ m. Irreducible m × IsFront (space_count c.system) m) (spatial.at r)
  rest_of = let same : n ≤ n = omega arith in retract-of (polynomials (poly_ops (ops c.system)) (poly_laws (ops c.system) (laws c.system))) (space_count c.system) (λ m q. (irreducible_front m q.0, front-front (space_count c.system) (space_count c.system) same m))

  multiples_in : {x : Class (poly_ops (poly_ops (residue_ops c.system.p)))} → In Ring relation_of_index x → In Ring (λ k. generator (poly_ops (ops c.system)) (poly_laws (ops c.system) (laws c.system)) (map (symbol_poly c.system.p) (symbol_relations c)) k) (spatial.at x)
  multiples_in r = in-in Ring (λ k. generator (poly_ops (ops c.system)) (poly_laws (ops c.system) (laws c.system)) (map (symbol_poly c.system.p) (symbol_relations c)) k) (λ i. spatial.at (relation_of_index i)) (λ i.
      subst (In Ring (λ k. generator (poly_ops (ops c.system)) (poly_laws (ops c.system) (laws c.system)) (map (symbol_poly c.system.p) (symbol_relations c)) k))
      (ap (class (poly_ops (poly_ops (ops c.system)))) (item_symbols c parts i.0 i.1) ∙ sym (retract-front (polynomials (poly_ops (ops c.system)) (poly_laws (ops c.system) (laws c.system))) (space_count c.system) (relation_front i)))
      (in_one Ring (λ k. generator (poly_ops (ops c.system)) (poly_laws (ops c.system) (laws c.system)) (map (symbol_poly c.system.p) (symbol_relations c)) k) i.0)) (in-hom spatial relation_of_index r)

  module _ (invariant : All (IsInvariant c.system) c.fractions) where
    -- each polynomial in Z has a rest by the relations
    pub rest_exists : (x : Class (poly_ops (poly_ops (residue_ops c.system.p)))) → Of (polynomials (poly_ops (ops c.system)) (poly_laws (ops c.system) (laws c.system))) (IsFront (space_count c.system)) x
        → ∥ ((r : Class (poly_ops (poly_ops (residue_ops c.system.p)))) × Rest c.system (generators c.system parts.form) c.fractions (symbol_relations c) (certificate_rewriting c parts invariant) x r) ∥₁
    unfolding relation_elements
    rest_exists x x_in = ∥∥₁_map (divide_any relation_elements Irreducible reducible_or (order_in-well grevlex grevlex_laws (space_count c.system)).well_founded x) (λ d. (
      spatial.at d.rest,
      record {
        congruent = subst (In Ring (λ k. generator (poly_ops (ops c.system)) (poly_laws (ops c.system) (laws c.system)) (map (symbol_poly c.system.p) (symbol_relations c)) k))
            (left _ _ ∙ ap (λ y. Ring.add y (Ring.neg (spatial.at d.rest))) (sym (spatial.add _ _) ∙ ap spatial.at (sym d.whole) ∙ retract-front (polynomials (poly_ops (ops c.system)) (poly_laws (ops c.system) (laws c.system))) (space_count c.system) x_in))
            (multiples_in (multiples-in (polynomials (poly_ops (ops c.system)) (poly_laws (ops c.system) (laws c.system))) relation_of_index (λ i. monomial (item c i.0).a) d.is_multiple));
        in_variables = of-weaken (polynomials (poly_ops (ops c.system)) (poly_laws (ops c.system) (laws c.system))) (λ m q. q.1) (rest_of d.is_rest);
        reduced = λ m red. of-coefficient (polynomials (poly_ops (ops c.system)) (poly_laws (ops c.system) (laws c.system))) {Q = λ m. Irreducible m × IsFront (space_count c.system) m} m (λ k q e. q.0 (subst (IsReducibleBy leads) (sym e) red)) (rest_of d.is_rest);
      },
    ))
      where
        left : (a b : Class (poly_ops (poly_ops (residue_ops c.system.p)))) → a ≡ Ring.add (Ring.add a b) (Ring.neg b)
        left a b = ring Ring (a ∷ b ∷ []) (search reading depth 30) refl
