-- The basis of a group's ideal: its kept elements in copies of the group's variables are a Gröbner basis of the copies of the ideal.
--   polys-nonzero, nonzero-over    no element of the basis is zero
--   kept-over            the kept elements
--   copied-basis         a list that is the same as the copies is such a basis
use Rattle.std.proofs.Common.{◌≡◌, ℕ, false, List, [], map, get_or, nat_lt, All}
use Rattle.rinv_algebra.specs.Residue.{residue_ops}
use Rattle.rinv_algebra.specs.Order.{grevlex}
use Rattle.rinv_algebra.specs.Polynomial.{is_zero}
use Rattle.rinv_algebra.specs.Normal.{is_in_variables}
use Rattle.rinv_algebra.proofs.ResidueField.{residue_field_laws}
use Rattle.rinv_algebra.proofs.ResidueLaws.{residue_laws}
use Rattle.rinv_groebner.specs.Orders.{AreInVariables}
use Rattle.rinv_groebner.specs.Division.{AreSame}
use Rattle.rinv_groebner.specs.Basis.{AreNonzero, IsGroebnerBasis}
use Rattle.rinv_groebner.specs.Reduced.{kept}
use Rattle.rinv_groebner.proofs.CopiesBasis.{copies-basis}
use Rattle.rinv_groebner.proofs.CopiesLists.{copies-in_variables}
use Rattle.rinv_groebner.proofs.JournalBasis.{journal-basis, journal-nonzero}
use Rattle.rinv_groebner.proofs.JournalUnique.{same_sym}
use Rattle.rinv_groebner.proofs.KnownOrders.{grevlex_orders}
use Rattle.rinv_groebner.proofs.ListElements.{all_first}
use Rattle.rinv_buch.specs.Kinds.{Found}
use Rattle.rinv_buch.proofs.InVariables.{all-in_variables}
use Rattle.rinv_buch.proofs.OwnIdeal.{nonzero-each}
use Rattle.rinv_text.proofs.SystemParts.{parts-of}
use Rattle.rinv_defs.specs.System.{System, Poly, group_count, ideal_copies}
use Rattle.rinv_defs.specs.SystemForm.{IsSystem}
use Rattle.rinv_defs.specs.Laws.{Law, copies}
use Rattle.rinv_parts.specs.LawNames.{space_in, variables_of}
use Rattle.rinv_laws.specs.Copied.{kept_copies}
use Rattle.rinv_laws.specs.Group.{IsGroupBasis}
use Rattle.rinv_laws.proofs.KeptBasis.{passes-kept, kept-basis, same-basis}

-- a list without zero, as a function has it
pub nonzero-over : (p q : ℕ) (fs gs : List Poly) → p ≡ q → fs ≡ gs → AreNonzero (residue_ops q) gs → All (λ h. is_zero (residue_ops p) h ≡ false) fs
nonzero-over p q fs gs a b h = rw (a, b) (nonzero-each (residue_ops q) gs h)

-- what was kept, in the ring of the group
pub kept-over : (p q : ℕ) (fs gs : List Poly) (ks js : List ℕ) → p ≡ q → fs ≡ gs → js ≡ ks → map (λ k. get_or fs k []) ks ≡ kept (residue_ops p) grevlex fs → map (λ k. get_or gs k []) js ≡ kept (residue_ops q) grevlex gs
kept-over p q fs gs ks js a b e h = rw (← a, ← b, e) h

module _ (s : System) (found : Found ℕ) (reduced : List Poly) (system : IsSystem s) (group : IsGroupBasis s found reduced) where
  ideal-in : AreInVariables (group_count s) s.ideal
  ideal-in = all-in_variables (residue_ops s.p) (λ c. nat_lt c s.p) (group_count s) s.ideal (parts-of s system).ideal

  polys-in : AreInVariables (group_count s) found.polys
  polys-in = all-in_variables (residue_ops s.p) (λ c. nat_lt c s.p) (group_count s) found.polys group.normal

  pub polys-nonzero : AreNonzero (residue_ops s.p) found.polys
  polys-nonzero = journal-nonzero (residue_ops s.p) (residue_laws s.p) (residue_field_laws s.p) grevlex (group_count s) (grevlex_orders (group_count s))
      s.ideal (all_first (residue_ops s.p) (residue_laws s.p) (group_count s) s.ideal ideal-in) group.journal

  groebner : IsGroebnerBasis (residue_ops s.p) grevlex (group_count s) s.ideal found.polys
  groebner = journal-basis (residue_ops s.p) (residue_laws s.p) (residue_field_laws s.p) grevlex (group_count s) (grevlex_orders (group_count s))
      s.ideal (all_first (residue_ops s.p) (residue_laws s.p) (group_count s) s.ideal ideal-in) group.journal group.complete

  kept-in : AreInVariables (group_count s) (kept (residue_ops s.p) grevlex found.polys)
  kept-in = passes-kept (residue_ops s.p) grevlex (is_in_variables (group_count s)) found.polys [] found.polys polys-in

  kept-groebner : IsGroebnerBasis (residue_ops s.p) grevlex (group_count s) s.ideal (kept (residue_ops s.p) grevlex found.polys)
  kept-groebner = kept-basis (residue_ops s.p) (residue_laws s.p) (residue_field_laws s.p) grevlex (group_count s) (grevlex_orders (group_count s)) s.ideal found.polys polys-in groebner ideal-in polys-nonzero

  -- a list that is the same as the copies of which the law speaks
  pub copied-basis : (law : Law) (hs : List Poly) → AreSame (residue_ops s.p) hs (kept_copies s found (copies law)) → IsGroebnerBasis (residue_ops s.p) grevlex (variables_of s law) (ideal_copies s (copies law)) hs
  copied-basis law hs alike = same-basis (residue_ops s.p) (residue_laws s.p) (residue_field_laws s.p) grevlex (variables_of s law) (grevlex_orders (variables_of s law)) (ideal_copies s (copies law)) (kept_copies s found (copies law))
      (copies-in_variables (copies law) (group_count s) (space_in s law) (kept (residue_ops s.p) grevlex found.polys) kept-in)
      (copies-basis (residue_ops s.p) (residue_laws s.p) (residue_field_laws s.p) (copies law) (group_count s) (space_in s law) s.ideal (kept (residue_ops s.p) grevlex found.polys) kept-in kept-groebner)
      hs (same_sym (residue_ops s.p) (residue_laws s.p) hs (kept_copies s found (copies law)) alike)
