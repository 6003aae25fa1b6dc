-- What the form of a system says of the classes of its polynomials: how many there are, and in which variables.
--   HasForm s            the lengths and the variables, without the section's
--   system_form          a system has its form; form_of_parts: what a certificate's test of its parts shows too
--   section_front        the section's polynomials are in the space's variables
use Rattle.std.proofs.Common.{◌≡◌, ℕ, zero, suc, ◌+◌, ◌*◌, ◌<◌, List, [], ◌∷◌, length, Bool, true, get_or, arith}
use Rattle.std.specs.Prelude.{IsTrue, ◌==◌, nat_le, nat_lt}
use Rattle.std.specs.List.{list_all, AllByRecursion}
use Rattle.std.proofs.lemmas.Bool.{eqb-true}
use Rattle.rinv_algebra.specs.Residue.{residue_ops}
use Rattle.rinv_algebra.specs.Polynomial.{poly_ops}
use Rattle.rinv_algebra.proofs.ResidueLaws.{residue_laws}
use Rattle.rinv_algebra.proofs.Same.{both}
use Rattle.rinv_theory.proofs.Classes.{class}
use Rattle.rinv_theory.proofs.Polynomials.{polynomials}
use Rattle.rinv_theory.proofs.Of.{Of}
use Rattle.rinv_theory.proofs.Variables.{IsFront, in_variables-of}
use Rattle.rinv_defs.specs.System.{System, Poly, group_count, space_count}
use Rattle.rinv_defs.specs.SystemForm.{is_good, system_parts, IsSystem}
use Rattle.rinv_defs.proofs.Sound.{normal_in_variables}

module _ (s : System) where
  -- the class of a polynomial is one in the first v variables
  abbrev pub InFirst : ℕ → Poly → Type 0
  InFirst v f = Of (polynomials (residue_ops s.p) (residue_laws s.p)) (IsFront v) (class (poly_ops (residue_ops s.p)) f)

  pub good_front : (v : ℕ) (f : Poly) → is_good s v f ≡ true → InFirst v f
  good_front v f h = in_variables-of (residue_ops s.p) (residue_laws s.p) v f (normal_in_variables s v f h)

  -- each of a list
  pub goods_front : (v : ℕ) (fs : List Poly) → list_all (is_good s v) fs ≡ true → (k : ℕ) → k < length fs → InFirst v (get_or fs k [])
  goods_front v [] h k low = absurd (omega arith)
  goods_front v (f ∷ fs) h zero low = good_front v f (both _ _ h).0
  goods_front v (f ∷ fs) h (suc k) low = goods_front v fs (both _ _ h).1 k (omega arith)

  -- the lengths of unit and maps, and the variables of the polynomials
  pub record HasForm : Type 0 where
    pub unit_count : length s.unit ≡ group_count s
    pub product_count : length s.product ≡ group_count s
    pub inverse_count : length s.inverse ≡ group_count s
    pub action_count : length s.action ≡ space_count s
    pub ideal_front : (k : ℕ) → k < length s.ideal → InFirst (group_count s) (get_or s.ideal k [])
    pub product_front : (k : ℕ) → k < length s.product → InFirst (2 * group_count s) (get_or s.product k [])
    pub inverse_front : (k : ℕ) → k < length s.inverse → InFirst (group_count s) (get_or s.inverse k [])
    pub action_front : (k : ℕ) → k < length s.action → InFirst (group_count s + space_count s) (get_or s.action k [])

  -- from the tests of the parts
  pub form_of_parts : list_all (λ part. part.1) (system_parts s) ≡ true → HasForm
  form_of_parts h =
      let parts : AllByRecursion (λ part. IsTrue part.1) (system_parts s) = each (system_parts s) h in
      let units = both (length s.unit == group_count s) (list_all (λ x. nat_lt x s.p) s.unit) parts.1.1.1.1.0 in
      let products = both (length s.product == group_count s) (list_all (is_good s (2 * group_count s)) s.product) parts.1.1.1.1.1.0 in
      let inverses = both (length s.inverse == group_count s) (list_all (is_good s (group_count s)) s.inverse) parts.1.1.1.1.1.1.0 in
      let actions = both (length s.action == space_count s) (list_all (is_good s (group_count s + space_count s)) s.action) parts.1.1.1.1.1.1.1.0 in
      record {
        unit_count = eqb-true _ _ units.0;
        product_count = eqb-true _ _ products.0;
        inverse_count = eqb-true _ _ inverses.0;
        action_count = eqb-true _ _ actions.0;
        ideal_front = goods_front (group_count s) s.ideal (both (nat_le (length s.ideal) 64) (list_all (is_good s (group_count s)) s.ideal) parts.1.1.1.0).1;
        product_front = goods_front (2 * group_count s) s.product products.1;
        inverse_front = goods_front (group_count s) s.inverse inverses.1;
        action_front = goods_front (group_count s + space_count s) s.action actions.1;
      }
    where
      each : (ps : List (ℕ × Bool)) → list_all (λ part. part.1) ps ≡ true → AllByRecursion (λ part. IsTrue part.1) ps
      each [] h = tt
      each ((k, b) ∷ ps) h = let t = both b (list_all (λ part. part.1) ps) h in (t.0, each ps t.1)

  -- a system has its form
  pub system_form : IsSystem s → HasForm
  system_form h = form_of_parts (both _ _ (both _ _ h).0).0

  -- the section's polynomials are in the space's variables
  pub section_front : IsSystem s → (k : ℕ) → k < length s.section → InFirst (space_count s) (get_or s.section k [])
  section_front h = goods_front (space_count s) s.section (both _ _ h).1
