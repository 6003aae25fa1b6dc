-- What the division of a change by the kept elements of the group's basis says of the fraction.
--   kept-groebner        in the variables of a change they are a Gröbner basis of the group's ideal
--   divided-invariant    where nothing is left the fraction is invariant
--   divided-stray        where something is it is not
--   left-nothing         of an invariant fraction nothing is left
--   tested-none, tested-some, tested-meets, quotients-are    the same, as the calls answer it
use Rattle.std.proofs.Common.{◌≡◌, ℕ, ◌+◌, ◌≤◌, false, true, Bool, List, [], ◌∷◌, length, nat_lt, IsTrue, refl, subst, subst₂, nat_lt, inr, arith}
use Rattle.std.specs.Prelude.{IsFalse, nat_le}
use Rattle.std.specs.List.{list_all}
use Rattle.std.proofs.lemmas.Bool.{leb-true}
use Rattle.std.proofs.lemmas.Bool.Decides.{nat_tests}
use Rattle.rinv_algebra.specs.Ring.{IsSame}
use Rattle.rinv_algebra.specs.Residue.{residue_ops}
use Rattle.rinv_algebra.specs.Order.{grevlex}
use Rattle.rinv_algebra.specs.Polynomial.{poly_ops, is_zero}
use Rattle.rinv_algebra.specs.Normal.{IsNormal, is_in_variables}
use Rattle.rinv_algebra.proofs.ResidueField.{residue_field_laws}
use Rattle.rinv_algebra.proofs.ResidueLaws.{residue_laws}
use Rattle.rinv_algebra.proofs.Same.{both, and_true}
use Rattle.rinv_groebner.specs.Orders.{AreInVariables}
use Rattle.rinv_groebner.specs.Division.{Step, AreSame, IsDivision}
use Rattle.rinv_groebner.specs.Basis.{AreNonzero, IsGroebnerBasis}
use Rattle.rinv_groebner.proofs.FurtherVariables.{further-basis}
use Rattle.rinv_groebner.proofs.JournalBasis.{journal-basis, journal-nonzero}
use Rattle.rinv_groebner.proofs.JournalUnique.{same_sym}
use Rattle.rinv_groebner.proofs.KnownOrders.{grevlex_orders}
use Rattle.rinv_groebner.proofs.ListElements.{all_first}
use Rattle.rinv_ring.specs.Fault.{DegreesMeet}
use Rattle.rinv_ring.specs.declared.fault.RingFault.{RingFault}
use Rattle.rinv_poly.proofs.Meets.{meet-weaker}
use Rattle.rinv_sub.specs.Refusal.{never}
use Rattle.rinv_div.specs.Stops.{Divides, StepsMeet}
use Rattle.rinv_buch.specs.Kinds.{Found}
use Rattle.rinv_buch.proofs.InVariables.{all-in_variables}
use Rattle.rinv_frac.specs.Fractions.{IsStored}
use Rattle.rinv_frac.proofs.Stored.{stored}
use Rattle.rinv_text.proofs.SystemParts.{parts-of}
use Rattle.rinv_defs.proofs.Sound.{normal_in_variables}
use Rattle.rinv_defs.specs.System.{System, Poly, group_count, space_count}
use Rattle.rinv_defs.specs.SystemForm.{IsSystem}
use Rattle.rinv_defs.specs.Invariant.{Fraction, IsFraction, IsInvariant, change}
use Rattle.rinv_parts.specs.Points.{ArePolynomials}
use Rattle.rinv_laws.specs.Group.{IsGroupBasis}
use Rattle.rinv_laws.specs.Proofs.{kept_elements}
use Rattle.rinv_laws.proofs.KeptBasis.{passes-kept, kept-basis, same-basis, divided-member, rest-congruent, rest-reduced, rest-outside}
use Rattle.rinv_change.specs.Asked.{IsChangeRing}
use Rattle.rinv_change.specs.Changes.{ChangeMeets, IsStray, change_count}
use Rattle.rinv_change.specs.Cofactors.{AreQuotientsOf}

-- what is written in some variables is written in these and further ones
wider : (v n : ℕ) (f : Poly) → IsTrue (is_in_variables v f) → IsTrue (is_in_variables (v + n) f)
wider v n [] h = refl
wider v n (t ∷ f) h =
    let parts = both (nat_le (length t.0) v) (is_in_variables v f) h in
    let low : length t.0 ≤ v + n = omega (arith, leb-true (length t.0) v parts.0) in
    and_true (nat_le (length t.0) (v + n)) (is_in_variables (v + n) f) (grind (arith, nat_tests, low)) (wider v n f parts.1)

all-wider : (v n : ℕ) (fs : List Poly) → AreInVariables v fs → AreInVariables (v + n) fs
all-wider v n [] h = refl
all-wider v n (f ∷ fs) h =
    let parts = both (is_in_variables v f) (list_all (is_in_variables v) fs) h in
    and_true (is_in_variables (v + n) f) (list_all (is_in_variables (v + n)) fs) (wider v n f parts.0) (all-wider v n fs parts.1)

-- a stored fraction is one
pub stored-fraction : (s : System) (f : Fraction) → IsStored s.p (space_count s) f → IsFraction s f
stored-fraction s f h =
    let parts = stored s.p (space_count s) f h in
    record { numerator = normal_in_variables s (space_count s) f.0 parts.numerator; denominator = normal_in_variables s (space_count s) f.1 parts.denominator; nonzero = parts.nonzero }

module _ (s : System) (found : Found ℕ) (reduced : List Poly) (system : IsSystem s) (group : IsGroupBasis s found reduced) where
  ideal-in : AreInVariables (group_count s) s.ideal
  ideal-in = all-in_variables (residue_ops s.p) (λ c. nat_lt c s.p) (group_count s) s.ideal (parts-of s system).ideal

  polys-in : AreInVariables (group_count s) found.polys
  polys-in = all-in_variables (residue_ops s.p) (λ c. nat_lt c s.p) (group_count s) found.polys group.normal

  polys-nonzero : AreNonzero (residue_ops s.p) found.polys
  polys-nonzero = journal-nonzero (residue_ops s.p) (residue_laws s.p) (residue_field_laws s.p) grevlex (group_count s) (grevlex_orders (group_count s))
      s.ideal (all_first (residue_ops s.p) (residue_laws s.p) (group_count s) s.ideal ideal-in) group.journal

  groebner : IsGroebnerBasis (residue_ops s.p) grevlex (group_count s) s.ideal found.polys
  groebner = journal-basis (residue_ops s.p) (residue_laws s.p) (residue_field_laws s.p) grevlex (group_count s) (grevlex_orders (group_count s))
      s.ideal (all_first (residue_ops s.p) (residue_laws s.p) (group_count s) s.ideal ideal-in) group.journal group.complete

  kept-in : AreInVariables (group_count s) (kept_elements s found)
  kept-in = passes-kept (residue_ops s.p) grevlex (is_in_variables (group_count s)) found.polys [] found.polys polys-in

  -- the kept elements, in further variables
  further : IsGroebnerBasis (residue_ops s.p) grevlex (change_count s) s.ideal (kept_elements s found)
  further = further-basis (residue_ops s.p) (residue_laws s.p) (residue_field_laws s.p) (group_count s) s.ideal (kept_elements s found) kept-in
      (kept-basis (residue_ops s.p) (residue_laws s.p) (residue_field_laws s.p) grevlex (group_count s) (grevlex_orders (group_count s)) s.ideal found.polys polys-in groebner ideal-in polys-nonzero) (space_count s)

  further-in : AreInVariables (change_count s) (kept_elements s found)
  further-in = all-wider (group_count s) (space_count s) (kept_elements s found) kept-in

  -- and polynomials that are the same
  pub kept-groebner : (hs : List Poly) → AreSame (residue_ops s.p) hs (kept_elements s found) → IsGroebnerBasis (residue_ops s.p) grevlex (change_count s) s.ideal hs
  kept-groebner hs alike = same-basis (residue_ops s.p) (residue_laws s.p) (residue_field_laws s.p) grevlex (change_count s) (grevlex_orders (change_count s)) s.ideal (kept_elements s found) further-in further
      hs (same_sym (residue_ops s.p) (residue_laws s.p) hs (kept_elements s found) alike)

  module _ (f : Fraction) (is_stored : IsStored s.p (space_count s) f) (g : Poly) (hs : List Poly) (is_change : IsSame (poly_ops (residue_ops s.p)) g (change s f)) (alike : AreSame (residue_ops s.p) hs (kept_elements s found))
      (normal : ArePolynomials s.p (change_count s) hs) (steps : List (Step ℕ)) (rest : Poly) (d : IsDivision (residue_ops s.p) grevlex hs g steps rest) where
    hs-in : AreInVariables (change_count s) hs
    hs-in = all-in_variables (residue_ops s.p) (λ c. nat_lt c s.p) (change_count s) hs normal

    -- where nothing is left
    pub divided-invariant : IsTrue (is_zero (residue_ops s.p) rest) → IsInvariant s f
    divided-invariant z = record {
      fraction = stored-fraction s f is_stored;
      unchanged = divided-member (residue_ops s.p) (residue_laws s.p) (residue_field_laws s.p) (change_count s) s.ideal hs hs-in (kept-groebner hs alike) g (change s f) rest steps is_change d z;
    }

    outside : IsFalse (is_zero (residue_ops s.p) rest) → IsInvariant s f → ⊥
    outside n invariant = rest-outside (residue_ops s.p) (residue_laws s.p) (residue_field_laws s.p) (change_count s) s.ideal hs hs-in (kept-groebner hs alike) g (change s f) rest steps is_change d n invariant.unchanged

    -- where something is
    pub divided-stray : IsNormal (residue_ops s.p) (λ c. nat_lt c s.p) (change_count s) rest → IsFalse (is_zero (residue_ops s.p) rest) → IsStray s f rest
    divided-stray rest_normal n = record {
      changes = λ invariant. outside n invariant;
      is_rest = record {
        nonzero = n;
        congruent = rest-congruent (residue_ops s.p) (residue_laws s.p) (residue_field_laws s.p) (change_count s) s.ideal hs hs-in (kept-groebner hs alike) g (change s f) rest steps is_change d;
        reduced = rest-reduced (residue_ops s.p) (residue_laws s.p) (residue_field_laws s.p) (change_count s) s.ideal hs hs-in (kept-groebner hs alike) g (change s f) rest steps is_change d;
      };
      normal = rest_normal;
    }

    -- of an invariant fraction nothing is left
    pub left-nothing : IsInvariant s f → IsTrue (is_zero (residue_ops s.p) rest)
    left-nothing invariant = go (is_zero (residue_ops s.p) rest) (λ n. outside n invariant)
      where
        go : (b : Bool) → (b ≡ false → ⊥) → b ≡ true
        go true h = refl
        go false h = absurd (h refl)

-- ---- as the calls answer it

-- a test is made of this fraction, over these polynomials and in a ring with these numbers
pub record TestedBy (s : System) (found : Found ℕ) (f : Fraction) (p v : ℕ) (g : Poly) (hs others : List Poly) : Type 0 where
  pub ring : IsChangeRing s p v
  pub change : IsSame (poly_ops (residue_ops s.p)) g (change s f)
  pub alike : AreSame (residue_ops s.p) hs (kept_elements s found)
  pub normal : ArePolynomials s.p (change_count s) hs
  pub same : others ≡ hs

module _ (s : System) (found : Found ℕ) (reduced : List Poly) (group : IsGroupBasis s found reduced) (f : Fraction) (is_stored : IsStored s.p (space_count s) f) (p v : ℕ) (g : Poly) (hs others : List Poly) (t : TestedBy s found f p v g hs others) where
  division : (steps : List (Step ℕ)) (rest : Poly) → IsDivision (residue_ops p) grevlex others g steps rest → IsDivision (residue_ops s.p) grevlex hs g steps rest
  division steps rest d = subst₂ (λ (q : ℕ) (gs : List Poly). IsDivision (residue_ops q) grevlex gs g steps rest) t.ring.field t.same d

  -- nothing is left
  pub tested-none : (steps : List (Step ℕ)) (rest : Poly) → IsDivision (residue_ops p) grevlex others g steps rest → is_zero (residue_ops p) rest ≡ true → IsInvariant s f
  tested-none steps rest d z =
      divided-invariant s found reduced t.ring.system group f is_stored g hs t.change t.alike t.normal steps rest (division steps rest d) (subst (λ (q : ℕ). is_zero (residue_ops q) rest ≡ true) t.ring.field z)

  -- something is
  pub tested-some : (steps : List (Step ℕ)) (rest : Poly) → IsDivision (residue_ops p) grevlex others g steps rest → IsNormal (residue_ops p) (λ c. nat_lt c p) v rest → is_zero (residue_ops p) rest ≡ false → IsStray s f rest
  tested-some steps rest d normal n =
      divided-stray s found reduced t.ring.system group f is_stored g hs t.change t.alike t.normal steps rest (division steps rest d)
      (subst₂ (λ (q w : ℕ). IsNormal (residue_ops q) (λ c. nat_lt c q) w rest) t.ring.field t.ring.vars normal) (subst (λ (q : ℕ). is_zero (residue_ops q) rest ≡ false) t.ring.field n)

  -- the division meets degrees
  pub tested-meets : (fault : RingFault) → DegreesMeet (StepsMeet (residue_ops p) grevlex others g (λ c. nat_lt c p) never) fault → DegreesMeet (ChangeMeets s found f) fault
  tested-meets fault meets = meet-weaker (StepsMeet (residue_ops p) grevlex others g (λ c. nat_lt c p) never) (ChangeMeets s found f) (λ x y m. inr (record {
    g = g;
    hs = hs;
    asked = record { change = t.change; basis = t.alike };
    meets = subst₂ (λ (q : ℕ) (gs : List Poly). StepsMeet (residue_ops q) grevlex gs g (λ c. nat_lt c q) never x y) t.ring.field t.same m;
  })) fault meets

  -- the quotients of an invariant fraction
  pub quotients-are : IsInvariant s f → (qs : List Poly) (rest : Poly) (steps : List (Step ℕ)) → Divides (residue_ops p) grevlex others g qs rest steps → ArePolynomials p v qs → AreQuotientsOf s found f qs
  quotients-are invariant qs rest steps d normal = record {
    normal = subst₂ (λ (q w : ℕ). ArePolynomials q w qs) t.ring.field t.ring.vars normal;
    rest = rest;
    divides = record {
      g = g;
      hs = hs;
      asked = record { change = t.change; basis = t.alike };
      steps = steps;
      divides = subst₂ (λ (q : ℕ) (gs : List Poly). Divides (residue_ops q) grevlex gs g qs rest steps) t.ring.field t.same d;
    };
    nothing = left-nothing s found reduced t.ring.system group f is_stored g hs t.change t.alike t.normal steps rest (division steps rest d.is_division) invariant;
  }
