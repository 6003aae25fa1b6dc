-- The elements of the cut, in normal form.
--   action_orders, group_eliminated, both_eliminated    the action's order, which eliminates the group's variables, and these and Z
--   IsElement, element, all-nonzero    what is known of an element of the cut
--   terms-free           none of its terms has a variable that its leading monomial leaves out
--   lead-term            its leading monomial is that of a term
use Rattle.std.proofs.Common.{◌≡◌, ℕ, suc, map, ◌+◌, ◌*◌, ◌<◌, false, List, [], ◌∷◌, length, sum, take, get_or, nat_lt, refl, sym, ◌∙◌, subst, arith, All, IsTrue}
use Rattle.std.specs.Prelude.{IsFalse}
use Rattle.std.proofs.lemmas.List.Elements.{Contains-get_or}
use Rattle.std.specs.Ordering.{is_ge}
use Rattle.rinv_algebra.specs.Ring.{RingOps}
use Rattle.rinv_algebra.specs.Residue.{residue_ops}
use Rattle.rinv_algebra.specs.Polynomial.{Term, is_zero, has_monomial}
use Rattle.rinv_algebra.specs.Ideal.{IsMember}
use Rattle.rinv_algebra.specs.Normal.{IsNormal}
use Rattle.rinv_algebra.proofs.MonomialLaws.{same_monomial-of_length}
use Rattle.rinv_algebra.proofs.ResidueField.{residue_field_laws}
use Rattle.rinv_algebra.proofs.ResidueLaws.{residue_laws}
use Rattle.rinv_groebner.specs.Elimination.{is_free, Eliminates, free_part}
use Rattle.rinv_groebner.specs.Orders.{OrdersMonomials}
use Rattle.rinv_groebner.proofs.Ascending.{Has, has_at}
use Rattle.rinv_groebner.proofs.BlockElimination.{blocks_eliminate}
use Rattle.rinv_groebner.proofs.Greatest.{filter-passes}
use Rattle.rinv_groebner.proofs.IdealBases.{all_has}
use Rattle.rinv_groebner.proofs.KnownOrders.{blocks_order}
use Rattle.rinv_groebner.proofs.LeadingMonomials.{leading_monomial-leads, present}
use Rattle.rinv_groebner.proofs.Ascending.{place_of}
use Rattle.rinv_groebner.proofs.ReducedLists.{monic-nonzero}
use Rattle.rinv_defs.specs.System.{System, Poly, group_count, space_count}
use Rattle.rinv_defs.specs.PairConditions.{action_order, leading}
use Rattle.rinv_defs.specs.Extended.{action_ideal}
use Rattle.rinv_poly.proofs.Forms.{IsOrdered, ordered-from_normal}
use Rattle.rinv_poly.proofs.NormalFacts.{has-term}
use Rattle.rinv_div.proofs.Leads.{lead-vars}
use Rattle.rinv_cut.proofs.FreeBasis.{list-has}
use Rattle.rinv_reduction.specs.Localised.{all_count, IsCut}

-- a monomial of a list of terms is that of one of them
term-of : (f : Poly) {a : List ℕ} → Has a (map (λ t. t.0) f) → (k : ℕ) × (k < length f) × ((d : Term ℕ) → (get_or f k d).0 ≡ a)
term-of [] h = elim h [ ]
term-of (t ∷ f) Has.first = (0, omega arith, λ d. refl)
term-of (t ∷ f) (Has.later h) = let (k, low, e) = term-of f h in (suc k, omega (arith, low), e)

module _ (s : System) where
  abbrev o : RingOps ℕ
  o = residue_ops s.p

  abbrev sizes : List ℕ
  sizes = group_count s ∷ space_count s ∷ space_count s ∷ []

  pub action_orders : OrdersMonomials (action_order s) (all_count s)
  action_orders = blocks_order (group_count s ∷ space_count s ∷ space_count s ∷ []) (all_count s) (let e : sum (group_count s ∷ space_count s ∷ space_count s ∷ []) ≡ group_count s + 2 * space_count s = omega arith in omega (arith, e))

  pub group_eliminated : Eliminates (action_order s) (group_count s)
  group_eliminated = let e : sum (take 1 sizes) ≡ group_count s = omega arith in subst (Eliminates (action_order s)) e (blocks_eliminate sizes 1)

  pub both_eliminated : Eliminates (action_order s) (group_count s + space_count s)
  both_eliminated = let e : sum (take 2 sizes) ≡ group_count s + space_count s = omega arith in subst (Eliminates (action_order s)) e (blocks_eliminate sizes 2)

  -- what is known of an element of the cut
  pub record IsElement (h : Poly) : Type 0 where
    pub member : IsMember (residue_ops s.p) (action_ideal s) h
    pub nonzero : IsFalse (is_zero (residue_ops s.p) h)
    pub free : IsTrue (is_free (group_count s) (leading s h))

  pub element : (cut : List Poly) → IsCut s cut → (h : Poly) → Has h cut → IsElement h
  element cut is_cut h has = record {
    member = all_has (IsMember o (action_ideal s)) is_cut.basis is_cut.reduced.basis.ideal.0 in_basis;
    nonzero = let (k, low, e) = place_of [] is_cut.basis in_basis in subst (λ (g : Poly). IsFalse (is_zero o g)) e (monic-nonzero o (residue_laws s.p) (residue_field_laws s.p) (action_order s) (get_or is_cut.basis k []) (is_cut.reduced.monic k low));
    free = filter-passes (λ g. is_free (group_count s) (leading s g)) is_cut.basis there;
  }
    where
      there : Has h (free_part o (action_order s) (group_count s) is_cut.basis)
      there = subst (Has h) is_cut.part has

      in_basis : Has h is_cut.basis
      in_basis = list-has (λ g. is_free (group_count s) (leading s g)) is_cut.basis there

  pub element-at : (cut : List Poly) → IsCut s cut → (k : ℕ) → k < length cut → IsElement (get_or cut k [])
  element-at cut is_cut k low = element cut is_cut (get_or cut k []) (has_at [] cut k low)

  -- none is zero
  pub all-nonzero : (cut : List Poly) → IsCut s cut → All (λ h. is_zero (residue_ops s.p) h ≡ false) cut
  all-nonzero cut is_cut k d low = (element cut is_cut (get_or cut k d) (has_at d cut k low)).nonzero

  module _ (h : Poly) (normal : IsNormal (residue_ops s.p) (λ c. nat_lt c s.p) (all_count s) h) (nonzero : IsFalse (is_zero (residue_ops s.p) h)) where
    ordered : IsOrdered o (λ c. nat_lt c s.p) (all_count s) h
    ordered = ordered-from_normal o (λ c. nat_lt c s.p) (all_count s) h normal

    pub lead-length : length (leading s h) ≡ all_count s
    lead-length = lead-vars o (residue_laws s.p) (λ c. nat_lt c s.p) (all_count s) (action_order s) action_orders.laws h ordered nonzero

    has_at_term : (k : ℕ) (d : Term ℕ) → k < length h → IsTrue (has_monomial o h (get_or h k d).0)
    has_at_term k d low = has-term o (residue_laws s.p) (λ c. nat_lt c s.p) (all_count s) h ordered (get_or h k d) (Contains-get_or h k d low)

    -- no term is above the leading monomial
    pub term-bounded : (k : ℕ) (d : Term ℕ) → k < length h → IsTrue (is_ge (action_order s (leading s h) (get_or h k d).0))
    term-bounded k d low = (leading_monomial-leads o (residue_laws s.p) (action_order s) action_orders.laws h nonzero).greatest (get_or h k d).0 (has_at_term k d low)

    -- no term has a variable that the leading monomial leaves out
    pub terms-free : (n : ℕ) → Eliminates (action_order s) n → IsTrue (is_free n (leading s h)) → All (λ t. IsTrue (is_free n t.0)) h
    terms-free n eliminates free k d low = eliminates (get_or h k d).0 (leading s h) (term-bounded k d low) free

    -- the leading monomial is that of a term
    pub lead-term : (k : ℕ) × (k < length h) × ((d : Term ℕ) → (get_or h k d).0 ≡ leading s h)
    lead-term =
        let (a, has, e) = present o (residue_laws s.p) h (leading s h) (leading_monomial-leads o (residue_laws s.p) (action_order s) action_orders.laws h nonzero).has in
        let (k, low, at) = term-of h has in
        (k, low, λ d. at d ∙ same_monomial-of_length a (leading s h) (subst (λ (m : List ℕ). length m ≡ length (leading s h)) (at ([], 0)) ((ordered.terms k ([], 0) low).vars ∙ sym lead-length)) e)
