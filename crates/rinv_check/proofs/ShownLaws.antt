-- A law is shown by lists of cofactors and copies of the ideal as they are stored.
--   lists-given      the lists have their form
--   shown-by_parts   the law is shown where each part is
use Rattle.std.proofs.Common.{◌≡◌, ℕ, ◌*◌, List, length, map, None, ap, ◌∙◌}
use Rattle.std.specs.Prelude.{flat_map}
use Rattle.std.specs.List.{range_with_len}
use Rattle.rinv_algebra.specs.Polynomial.{past}
use Rattle.rinv_defs.specs.System.{System, Poly, group_count, ideal_copies}
use Rattle.rinv_defs.specs.SystemForm.{IsSystem}
use Rattle.rinv_defs.specs.Laws.{Law, copies}
use Rattle.rinv_defs.specs.Certificate.{Certificate, invariance}
use Rattle.rinv_defs.specs.Format.{format_failure}
use Rattle.rinv_defs.specs.Conditions.{law_is_shown}
use Rattle.rinv_defs.proofs.PartCounts.{length-copies}
use Rattle.rinv_parts.specs.declared.parts.LawParts.{LawParts}
use Rattle.rinv_parts.specs.LawNames.{law_of}
use Rattle.rinv_parts.specs.Parts.{IsLawRing}
use Rattle.rinv_parts.specs.Points.{AreStored}
use Rattle.rinv_parts.proofs.Stored.{stored-count, stored-same}
use Rattle.rinv_check.specs.LawLists.{AreListsFor, AreListsOf, parts_shown}
use Rattle.rinv_check.proofs.LawCofactors.{lists-form, lists-of_law}
use Rattle.rinv_check.proofs.LawFits.{law-shown}

-- copies of the ideal, as they are stored
copies-stored : (s : System) (p v g n m : ℕ) (ideal items : List Poly) → p ≡ s.p → g ≡ group_count s → n ≡ m → ideal ≡ s.ideal
    → AreStored p v (flat_map (λ j. map (past (j * g)) ideal) (range_with_len 0 n)) items → AreStored s.p v (ideal_copies s m) items
copies-stored s p v g n m ideal items field group many is h = rw (field, group, many, is) at h

module _ (c : Certificate) (other : ¬ (c.kind ≡ invariance)) (form : format_failure c ≡ None) (system : IsSystem c.system)
    (l : LawParts) (law : Law) (of_law : law_of l.law ≡ law) (ring : IsLawRing c.system (law_of l.law) l.ring.coeffs l.ring.vars)
    (g n : ℕ) (ideal items generators : List Poly) (group : g ≡ group_count c.system) (many : n ≡ copies law) (is : ideal ≡ c.system.ideal) (lent : generators ≡ items)
    (made : AreStored l.ring.coeffs l.ring.vars (flat_map (λ j. map (past (j * g)) ideal) (range_with_len 0 n)) items)
    (lists : List (List Poly)) (for_law : AreListsFor c law lists) where
  stored : AreStored c.system.p l.ring.vars (ideal_copies c.system (copies law)) items
  stored = copies-stored c.system l.ring.coeffs l.ring.vars g n (copies law) ideal items ring.field group many is made

  pub lists-given : AreListsOf c.system l lists (length generators)
  lists-given =
      lists-of_law c other form system l law lists (length generators) of_law ring for_law
      (ap (λ (fs : List Poly). length fs) lent ∙ stored-count c.system.p l.ring.vars (ideal_copies c.system (copies law)) items stored ∙ length-copies c.system 0 (copies law))

  pub shown-by_parts : parts_shown c.system (law_of l.law) lists generators ≡ law_is_shown c law
  shown-by_parts =
      ap (λ (k : Law). parts_shown c.system k lists generators) of_law ∙ ap (λ (fs : List Poly). parts_shown c.system law lists fs) lent
      ∙ law-shown c system law lists items for_law (lists-form c other form system law).0 (stored-same c.system.p l.ring.vars (ideal_copies c.system (copies law)) items stored)
