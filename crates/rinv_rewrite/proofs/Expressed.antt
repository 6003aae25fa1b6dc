-- From what is made in the computed rings to what is answered of the system.
--   moved_part, moved_divisors    what holds for the system's numbers holds for the rings'
--   expressed-answer              what is answered
--   expressed-values              the degrees that are met in the values
use Rattle.std.proofs.Common.{◌≡◌, ℕ, List, length, map, All, sym, subst}
use Rattle.std.specs.Prelude.{Option}
use Rattle.rinv_algebra.specs.Residue.{residue_ops}
use Rattle.rinv_algebra.specs.Order.{grevlex}
use Rattle.rinv_algebra.specs.Polynomial.{poly_ops}
use Rattle.rinv_groebner.specs.Division.{AreSame}
use Rattle.rinv_ring.specs.declared.fault.RingFault.{RingFault}
use Rattle.rinv_ring.specs.Fault.{DegreesMeet}
use Rattle.rinv_div.specs.Divisors.{AreDivisors}
use Rattle.rinv_div.specs.declared.divisors.Divisor.{Divisor}
use Rattle.rinv_frac.specs.Fractions.{IsPart, IsStored}
use Rattle.rinv_defs.specs.System.{System, Poly, space_count}
use Rattle.rinv_defs.specs.SystemForm.{IsSystem}
use Rattle.rinv_defs.specs.Invariant.{Fraction, IsInvariant}
use Rattle.rinv_defs.specs.Generators.{Expression}
use Rattle.rinv_soundness.specs.Rewriting.{SymbolPoly, symbol_poly, in_z, IsRestBy}
use Rattle.rinv_coefficients.specs.Ties.{TiedRelation, with_symbols}
use Rattle.rinv_rewrite.specs.Answers.{IsAnswer, IsChoice}
use Rattle.rinv_rewrite.specs.Needed.{RestMeets, ExpressingMeets}
use Rattle.rinv_rewrite.specs.Symbols.{IsSymbolPart, AreTied, is_symbolic}
use Rattle.rinv_rewrite.specs.Taken.{LeavesInZ}
use Rattle.rinv_rewrite.proofs.Choices.{answered, rest-left}
use Rattle.rinv_rewrite.proofs.ExpressingFaults.{values-meet}

pub moved_part : (p q n v : ℕ) (f : Poly) → p ≡ q → v ≡ n → IsPart q n f → IsPart p v f
moved_part p q n v f field vars h = rw (field, vars) h

pub moved_divisors : {R : Type 0} (p q k m n v : ℕ) (hs : List SymbolPoly) (ds : List (Divisor R Poly)) → p ≡ q → k ≡ m → v ≡ n → AreDivisors (poly_ops (residue_ops q)) (is_symbolic q m) n grevlex hs ds → AreDivisors (poly_ops (residue_ops p)) (is_symbolic p k) v grevlex hs ds
moved_divisors p q k m n v hs ds field symbols vars h = rw (field, symbols, vars) h

moved_symbols : (p q k m n v : ℕ) (f : SymbolPoly) → p ≡ q → k ≡ m → v ≡ n → IsSymbolPart p k v f → IsSymbolPart q m n f
moved_symbols p q k m n v f field symbols vars h = rw (sym field, sym symbols, sym vars) h

module _ (s : System) (cs : List Fraction) (ts : List TiedRelation) (tied : AreTied s cs ts) (p k v : ℕ) (field : p ≡ s.p) (symbols : k ≡ length cs) (vars : v ≡ space_count s) (hs : List SymbolPoly)
    (alike : AreSame (poly_ops (residue_ops s.p)) hs (map (symbol_poly s.p) (map (with_symbols s.p) ts))) (normal : All (IsSymbolPart s.p (length cs) (space_count s)) hs) where
  left : (f : Poly) (r : SymbolPoly) → IsSymbolPart p k v r → LeavesInZ p hs f r → IsRestBy s (map (with_symbols s.p) ts) (in_z s.p f) r
  left f r form leaves = rest-left s cs ts tied hs alike normal f r (moved_symbols p s.p k (length cs) (space_count s) v r field symbols vars form) (subst (λ (a : ℕ). LeavesInZ a hs f r) field leaves)

  -- what is answered
  pub expressed-answer : All (IsStored s.p (space_count s)) cs → (f : Fraction) → IsInvariant s f → IsSystem s → (num den : SymbolPoly) → IsSymbolPart p k v num → LeavesInZ p hs f.0 num → IsSymbolPart p k v den → LeavesInZ p hs f.1 den → (r : Option Expression) → IsChoice p cs num den r
      → IsAnswer s cs (map (with_symbols s.p) ts) f r
  expressed-answer fractions f invariant system num den num_form num_leaves den_form den_leaves r choice =
      answered s cs ts tied fractions f invariant den (left f.1 den den_form den_leaves) system num (left f.0 num num_form num_leaves) r (subst (λ (a : ℕ). IsChoice a cs num den r) field choice)

  -- the degrees that are met in the values
  pub expressed-values : (f : Fraction) (den : SymbolPoly) → IsSymbolPart p k v den → LeavesInZ p hs f.1 den → (fault : RingFault) → DegreesMeet (RestMeets p cs den) fault → DegreesMeet (ExpressingMeets s cs (map (with_symbols s.p) ts) f) fault
  expressed-values f den den_form den_leaves fault m = values-meet s cs (map (with_symbols s.p) ts) f fault den (left f.1 den den_form den_leaves) p field m
