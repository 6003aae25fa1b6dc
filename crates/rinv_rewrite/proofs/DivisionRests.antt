-- What division by relations with symbols leaves is a rest by them.
--   stored_nonzero, stored_monic    a relation as it is stored has the leading coefficient one
--   division_rest                   the fact
use Rattle.std.proofs.Common.{◌≡◌, ◌≤◌, ℕ, suc, inl, inr, Bool, true, false, not, ◌&&◌, ◌||◌, List, [], ◌∷◌, ◌++◌, length, map, refl, sym, ap, ap₂, ◌∙◌, subst, true≢false, IsTrue}
use Rattle.std.specs.List.{list_any, AllByRecursion}
use Rattle.std.specs.Ordering.{is_ge, is_lt}
use Rattle.std.specs.Cmp.{both_ways}
use Rattle.std.specs.declared.cmp.Ordering.{Ordering}
use Rattle.std.specs.declared.cmp.Ordering.TheVariants.{Less, Equal}
use Rattle.std.proofs.lemmas.Bool.{cases_Bool}
use Rattle.std.proofs.lemmas.List.FromFn.{length-map-range_with_len}
use Rattle.rinv_algebra.specs.Ring.{RingOps, RingLaws, IsSame}
use Rattle.rinv_algebra.specs.Residue.{residue_ops}
use Rattle.rinv_algebra.specs.Monomial.{same_monomial, divides}
use Rattle.rinv_algebra.specs.Order.{grevlex}
use Rattle.rinv_algebra.specs.Polynomial.{poly_ops, coefficient, has_monomial, is_zero, opposite, difference}
use Rattle.rinv_algebra.specs.Leading.{IsLeadingMonomial, leading_monomial, leading_coefficient}
use Rattle.rinv_algebra.specs.Ideal.{IsMember, combination}
use Rattle.rinv_algebra.specs.Normal.{is_in_variables}
use Rattle.rinv_algebra.proofs.Grevlex.{grevlex_laws}
use Rattle.rinv_algebra.proofs.MonomialLaws.{same_monomial_refl, same_monomial_sym}
use Rattle.rinv_algebra.proofs.PolynomialLaws.{poly_laws}
use Rattle.rinv_algebra.proofs.ResidueLaws.{residue_laws}
use Rattle.rinv_algebra.proofs.ResidueField.{residue_field_laws}
use Rattle.rinv_algebra.proofs.RingFacts as facts
use Rattle.rinv_algebra.proofs.Same.{IsAbsent, coefficient-absent, coefficient-same_monomial, same-coefficients}
use Rattle.rinv_theory.proofs.CRing.{CRing}
use Rattle.rinv_theory.proofs.Solver.{ring, reading}
use Rattle.rinv_theory.proofs.Classes.{Class, class, class_sound, class_exact, class-add, class-neg, class-zero, class-one}
use Rattle.rinv_theory.proofs.Fields.{poly_domain}
use Rattle.rinv_theory.proofs.Monoid.{monomial, monomial_sound, monomial_exact}
use Rattle.rinv_theory.proofs.Polynomials.{poly_ring}
use Rattle.rinv_theory.proofs.WellOrders.{tied}
use Rattle.rinv_groebner.specs.Division.{Step, AreSame, IsDivision, lead_divides, quotient_at, quotients}
use Rattle.rinv_groebner.proofs.Ascending.{Has}
use Rattle.rinv_groebner.proofs.DivisionLaws.{division-identity}
use Rattle.rinv_groebner.proofs.KnownOrders.{grevlex_orders}
use Rattle.rinv_groebner.proofs.LeadingMonomials.{leading_monomial-leads, present}
use Rattle.rinv_groebner.proofs.Compared.{InFirst}
use Rattle.rinv_groebner.proofs.ListElements.{AllFirst}
use Rattle.rinv_groebner.proofs.MemberLists.{member-same, member_one, member_trans}
use Rattle.rinv_groebner.proofs.MonomialLists.{Divisor, divides-divisor, divisor-divides}
use Rattle.rinv_groebner.proofs.Reducible.{lead_divides-same, lead-same, is_zero-same}
use Rattle.rinv_defs.specs.System.{System, Poly, space_count}
use Rattle.rinv_soundness.specs.Rewriting.{SymbolPoly, SymbolRelation, in_z, symbol_poly, IsRestBy}
use Rattle.rinv_coefficients.proofs.SymbolDivision.{IsLow}

module _ (p n : ℕ) where
  abbrev o : RingOps Poly
  o = poly_ops (residue_ops p)

  abbrev l : RingLaws (poly_ops (residue_ops p))
  l = poly_laws (residue_ops p) (residue_laws p)

  less_equal : Less ≡ Equal → ⊥
  less_equal e = true≢false (ap is_lt e)

  -- a monomial below another is another one
  below_apart : (a b : List ℕ) → grevlex a b ≡ Less → same_monomial a b ≡ false
  below_apart a b e = elim (cases_Bool (same_monomial a b)) [
    | inl here ↦ absurd (less_equal (sym e ∙ tied grevlex grevlex_laws.total grevlex_laws.kept a b here))
    | inr off ↦ off
  ]

  absent : (lead : List ℕ) (f : SymbolPoly) → AllByRecursion (λ t. (grevlex t.0 lead ≡ Less) × (length t.0 ≤ n)) f → IsAbsent lead (opposite o f)
  absent lead [] h = tt
  absent lead (t ∷ f) h = (below_apart t.0 lead h.0.0, absent lead f h.1)

  -- a relation has its lead
  has_lead : (q : SymbolRelation) → IsLow n q → has_monomial o (symbol_poly p q) q.lead ≡ true
  unfolding coefficient
  has_lead q low = rw (same_monomial_refl q.lead, coefficient-absent o q.lead (opposite o q.tail) (absent q.lead q.tail low.tail)) (off (o.same (o.add o.one o.zero) o.zero) refl)
    where
      off : (b : Bool) → o.same (o.add o.one o.zero) o.zero ≡ b → not b ≡ true
      off false e = refl
      off true e = absurd ((poly_domain (residue_ops p) (residue_laws p) (residue_field_laws p)).one_zero (sym (class-one o l) ∙ class_sound o l o.one o.zero (facts.then o l (facts.back o l (l.add_zero o.one)) e) ∙ class-zero o l))

  nonzero : (q : SymbolRelation) → IsLow n q → is_zero o (symbol_poly p q) ≡ false
  unfolding coefficient
  nonzero q low = elim (cases_Bool (is_zero o (symbol_poly p q))) [
    | inl z ↦ absurd (true≢false (sym (has_lead q low) ∙ ap not (same-coefficients o l (symbol_poly p q) [] z q.lead)))
    | inr off ↦ off
  ]

  divides_one : (a b m : List ℕ) → same_monomial a b ≡ true → divides a m ≡ divides b m
  divides_one a b m e = both_ways (divides a m) (divides b m)
      (λ h. divisor-divides b m (subst (λ x. Divisor x (monomial m)) (monomial_sound a b e) (divides-divisor a m h)))
      (λ h. divisor-divides a m (subst (λ x. Divisor x (monomial m)) (sym (monomial_sound a b e)) (divides-divisor b m h)))

  -- a term of the tail is below the lead
  tail_below : (lead : List ℕ) (f : SymbolPoly) → AllByRecursion (λ t. (grevlex t.0 lead ≡ Less) × (length t.0 ≤ n)) f → {a : List ℕ} → Has a (map (λ t. t.0) (opposite o f)) → grevlex a lead ≡ Less
  tail_below lead [] h m = elim m [ ]
  tail_below lead (t ∷ f) h Has.first = h.0.0
  tail_below lead (t ∷ f) h (Has.later m) = tail_below lead f h.1 m

  -- the leading monomial is the lead
  leads_by : (q : SymbolRelation) → IsLow n q → same_monomial (leading_monomial o grevlex (symbol_poly p q)) q.lead ≡ true
  leads_by q low = at (present o l (symbol_poly p q) (leading_monomial o grevlex (symbol_poly p q)) leads.has)
    where
      leads : IsLeadingMonomial o grevlex (symbol_poly p q) (leading_monomial o grevlex (symbol_poly p q))
      leads = leading_monomial-leads o l grevlex grevlex_laws (symbol_poly p q) (nonzero q low)

      ge_less : (x : Ordering) → IsTrue (is_ge x) → x ≡ Less → ⊥
      ge_less x g e = true≢false (sym (subst (λ y. IsTrue (is_ge y)) e g))

      below : {a : List ℕ} → Has a (map (λ t. t.0) (opposite o q.tail)) → same_monomial a (leading_monomial o grevlex (symbol_poly p q)) ≡ true → ⊥
      below {a} m e = ge_less (grevlex (leading_monomial o grevlex (symbol_poly p q)) q.lead) (leads.greatest q.lead (has_lead q low))
          (sym (grevlex_laws.total.congr a (leading_monomial o grevlex (symbol_poly p q)) q.lead (tied grevlex grevlex_laws.total grevlex_laws.kept a (leading_monomial o grevlex (symbol_poly p q)) e)) ∙ tail_below q.lead q.tail low.tail m)

      at : (a : List ℕ) × Has a (q.lead ∷ map (λ t. t.0) (opposite o q.tail)) × (same_monomial a (leading_monomial o grevlex (symbol_poly p q)) ≡ true) → same_monomial (leading_monomial o grevlex (symbol_poly p q)) q.lead ≡ true
      at (a, Has.first, e) = same_monomial_sym q.lead (leading_monomial o grevlex (symbol_poly p q)) e
      at (a, Has.later m, e) = absurd (below m e)

  -- the coefficient at the lead is one
  at_lead : (q : SymbolRelation) → IsLow n q → IsSame o (coefficient o (symbol_poly p q) q.lead) o.one
  unfolding coefficient
  at_lead q low = rw (same_monomial_refl q.lead, coefficient-absent o q.lead (opposite o q.tail) (absent q.lead q.tail low.tail)) (l.add_zero o.one)

  -- a relation as it is stored is not zero
  pub stored_nonzero : (h : SymbolPoly) (q : SymbolRelation) → IsLow n q → IsSame (poly_ops o) h (symbol_poly p q) → is_zero o h ≡ false
  stored_nonzero h q low same = is_zero-same o grevlex l n (grevlex_orders n) h (symbol_poly p q) same ∙ nonzero q low

  -- and its leading coefficient is one
  pub stored_monic : (h : SymbolPoly) (q : SymbolRelation) → InFirst o l n h → IsLow n q → IsSame (poly_ops o) h (symbol_poly p q) → IsSame o (leading_coefficient o grevlex h) o.one
  stored_monic h q first low same =
      let one_lead : same_monomial (leading_monomial o grevlex h) (leading_monomial o grevlex (symbol_poly p q)) ≡ true = monomial_exact _ _ (lead-same o grevlex l n (grevlex_orders n) h (symbol_poly p q) first same (stored_nonzero h q low same)) in
      facts.then o l (facts.of_same o l (coefficient-same_monomial o h _ _ one_lead ∙ coefficient-same_monomial o h _ _ (leads_by q low)))
      (facts.then o l (same-coefficients o l h (symbol_poly p q) same q.lead) (at_lead q low))

  relation_divides : (q : SymbolRelation) → IsLow n q → (m : List ℕ) → lead_divides o grevlex (symbol_poly p q) m ≡ divides q.lead m
  relation_divides q low m = ap (λ b. not b && divides (leading_monomial o grevlex (symbol_poly p q)) m) (nonzero q low) ∙ divides_one (leading_monomial o grevlex (symbol_poly p q)) q.lead m (leads_by q low)

  reducible_by : (hs : List SymbolPoly) (qs : List SymbolRelation) → AllFirst o l n hs → AreSame o hs (map (symbol_poly p) qs) → AllByRecursion (IsLow n) qs → (m : List ℕ) → list_any (λ h. lead_divides o grevlex h m) hs ≡ list_any (λ q. divides q.lead m) qs
  reducible_by [] [] r z low m = refl
  reducible_by [] (q ∷ qs) r z low m = absurd z
  reducible_by (h ∷ hs) [] r z low m = absurd z
  reducible_by (h ∷ hs) (q ∷ qs) r z low m = ap₂ ◌||◌ (lead_divides-same o grevlex l n (grevlex_orders n) h (symbol_poly p q) m m (r 0) z.0 (same_monomial_refl m) ∙ relation_divides q low.0 m) (reducible_by hs qs (λ k. r (suc k)) z.1 low.1 m)

  -- each element is a member of the ideal of the relations
  all_members : (hs gs all : List SymbolPoly) → AreSame o hs gs → ((x : SymbolPoly) → Has x gs → Has x all) → AllByRecursion (IsMember o all) hs
  all_members [] gs all z inc = tt
  all_members (h ∷ hs) [] all z inc = absurd z
  all_members (h ∷ hs) (g ∷ gs) all z inc = (member-same o l all g h ((poly_laws o l).same_sym h g z.0) (member_one o l (inc g Has.first)), all_members hs gs all z.1 (λ x m. inc x (Has.later m)))

  abbrev Ring : CRing (Class (poly_ops (poly_ops (residue_ops p))))
  Ring = poly_ring o l

  abbrev poly : SymbolPoly → Class (poly_ops (poly_ops (residue_ops p)))
  poly f = class (poly_ops o) f

  -- what is left out of f is the combination
  left_out : (f c r : SymbolPoly) → IsSame (poly_ops o) f (c ++ r) → IsSame (poly_ops o) c (difference o f r)
  left_out f c r e = class_exact (poly_ops o) (poly_laws o l) c (difference o f r) (
      back (poly c) (poly r) ∙ ap (λ x. Ring.add x (Ring.neg (poly r))) (sym (class-add (poly_ops o) (poly_laws o l) c r) ∙ sym (class_sound (poly_ops o) (poly_laws o l) f (c ++ r) e))
      ∙ ap (Ring.add (poly f)) (sym (class-neg (poly_ops o) (poly_laws o l) r)) ∙ sym (class-add (poly_ops o) (poly_laws o l) f (opposite o r)))
    where
      back : (x y : Class (poly_ops (poly_ops (residue_ops p)))) → x ≡ Ring.add (Ring.add x y) (Ring.neg y)
      back x y = ring Ring (x ∷ y ∷ []) (search reading depth 30) refl

module _ (s : System) (qs : List SymbolRelation) (low : AllByRecursion (IsLow (space_count s)) qs) where
  abbrev os : RingOps Poly
  os = o s.p (space_count s)

  abbrev ls : RingLaws (poly_ops (residue_ops s.p))
  ls = l s.p (space_count s)

  pub division_rest : (hs : List SymbolPoly) (dividend rest : SymbolPoly) (f : Poly) (steps : List (Step Poly)) → AllFirst os ls (space_count s) hs → AreSame os hs (map (symbol_poly s.p) qs)
      → IsSame (poly_ops os) dividend (in_z s.p f) → IsTrue (is_in_variables (space_count s) rest) → IsDivision os grevlex hs dividend steps rest → IsRestBy s qs (in_z s.p f) rest
  division_rest hs dividend rest f steps first alike same in_space d = record {
    in_space = in_space;
    congruent = member-same os ls (map (symbol_poly s.p) qs) (combination os (quotients (length hs) steps) hs) (difference os (in_z s.p f) rest)
        (left_out s.p (space_count s) (in_z s.p f) (combination os (quotients (length hs) steps) hs) rest
        ((poly_laws os ls).same_trans (in_z s.p f) dividend (combination os (quotients (length hs) steps) hs ++ rest) ((poly_laws os ls).same_sym dividend (in_z s.p f) same)
        (division-identity os ls grevlex hs dividend rest steps d.by_steps)))
        (member_trans os ls (map (symbol_poly s.p) qs) hs (combination os (quotients (length hs) steps) hs) (all_members s.p (space_count s) hs (map (symbol_poly s.p) qs) (map (symbol_poly s.p) qs) alike (λ x m. m))
        (record { cofactors = quotients (length hs) steps; as_many = length-map-range_with_len (quotient_at steps) 0 (length hs); sums_up = (poly_laws os ls).same_refl (combination os (quotients (length hs) steps) hs) }));
    reduced = λ m h. sym (reducible_by s.p (space_count s) hs qs first alike low m) ∙ d.irreducible m h;
  }
