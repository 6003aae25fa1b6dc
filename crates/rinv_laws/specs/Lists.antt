-- Lists of polynomials as they are stored, and what is made of them, as contracts name it.
use Rattle.std.specs.Prelude.{◌≡◌, ℕ, ◌*◌, ◌<◌, List, [], length, get_or, map, All}
use Rattle.std.specs.Global.{Vec}
use Rattle.std.specs.List.{AllZip, range_with_len}
use Rattle.rinv_algebra.specs.Ring.{IsSame}
use Rattle.rinv_algebra.specs.Residue.{residue_ops}
use Rattle.rinv_algebra.specs.Order.{grevlex}
use Rattle.rinv_algebra.specs.Polynomial.{poly_ops, past}
use Rattle.rinv_algebra.specs.Ideal.{combination}
use Rattle.rinv_groebner.specs.Division.{AreSame}
use Rattle.rinv_groebner.specs.Reduced.{kept}
use Rattle.rinv_groebner.specs.Copies.{copies as copied}
use Rattle.rinv_cofactors.specs.Combining.{column}
use Rattle.rinv_ring.specs.Fault.{DegreesMeet}
use Rattle.rinv_ring.specs.declared.fault.RingFault.{RingFault}
use Rattle.rinv_buch.specs.Kinds.{Found}
use Rattle.rinv_defs.specs.System.{System, Poly, group_count}
use Rattle.rinv_parts.specs.declared.law.LawName.{LawName}
use Rattle.rinv_parts.specs.LawNames.{law_of, variables_of}
use Rattle.rinv_parts.specs.Points.{ArePolynomials}
use Rattle.rinv_laws.specs.Copied.{AreQuotients, IsZeroPart}
use Rattle.rinv_laws.specs.Proofs.{AreInCopies, AreMadeOf, CopiesMeet, KeepCofactors, MakingMeets, ProductsMeet, ProvesLaw, chosen, past_lists}

-- ---- their form

-- lists of polynomials in v variables
abbrev pub AreLists : ℕ → ℕ → List (Vec Poly) → Type 0
AreLists p v lists = All (λ us. ArePolynomials p v us.items) lists

-- lists of such lists
abbrev pub AreNested : ℕ → ℕ → List (Vec (Vec Poly)) → Type 0
AreNested p v nested = All (λ ls. All (λ us. ArePolynomials p v us.items) ls.items) nested

-- lists of polynomials in the group's variables
abbrev pub AreInGroup : System → List (Vec Poly) → Type 0
AreInGroup s lists = All (λ us. ArePolynomials s.p (group_count s) us.items) lists

-- in the variables of a law,
abbrev pub AreInLaw : System → LawName → List (Vec Poly) → Type 0
AreInLaw s law lists = All (λ us. ArePolynomials s.p (variables_of s (law_of law)) us.items) lists

-- and one such list
abbrev pub IsInLaw : System → LawName → Vec Poly → Type 0
IsInLaw s law us = ArePolynomials s.p (variables_of s (law_of law)) us.items

-- each list has so many polynomials
abbrev pub AreSoMany : ℕ → List (Vec Poly) → Type 0
AreSoMany n lists = All (λ us. length us.items ≡ n) lists

-- the places are those of the kept elements of the group's basis
abbrev pub AreGroupPlaces : System → Found ℕ → List ℕ → Type 0
AreGroupPlaces s found places = map (λ k. get_or found.polys k []) places ≡ kept (residue_ops s.p) grevlex found.polys

-- ---- in the variables past the first k

-- r is f there
abbrev pub IsPast : ℕ → ℕ → Poly → Poly → Type 0
IsPast p k f r = IsSame (poly_ops (residue_ops p)) r (past k f)

-- r is the list there
abbrev pub ArePast : ℕ → ℕ → List Poly → Vec Poly → Type 0
ArePast p k fs r = AreSame (residue_ops p) r.items (map (past k) fs)

-- those at the places there
abbrev pub ArePastAt : ℕ → ℕ → List Poly → List ℕ → Vec Poly → Type 0
ArePastAt p k fs places r = AreSame (residue_ops p) r.items (map (past k) (map (λ j. get_or fs j []) places))

-- those at the places in the first c copies of v variables
abbrev pub AreCopies : ℕ → ℕ → ℕ → List Poly → List ℕ → Vec Poly → Type 0
AreCopies p c v fs places r = AreSame (residue_ops p) r.items (copied c v (map (λ j. get_or fs j []) places))

-- the lists at the places
abbrev pub ArePastLists : ℕ → ℕ → List (Vec Poly) → List ℕ → Vec (Vec Poly) → Type 0
ArePastLists p k lists places r = AllZip (AreSame (residue_ops p)) (map (λ us. us.items) r.items) (past_lists k (chosen (map (λ us. us.items) lists) places))

-- the lists at the places in the first c copies of v variables
abbrev pub AreCopiedLists : ℕ → ℕ → ℕ → List (Vec Poly) → List ℕ → Vec (Vec (Vec Poly)) → Type 0
AreCopiedLists p v c lists places r = AllZip (AllZip (AreSame (residue_ops p))) (map (λ ls. map (λ us. us.items) ls.items) r.items) (map (λ j. past_lists (j * v) (chosen (map (λ us. us.items) lists) places)) (range_with_len 0 c))

-- ---- the cofactors that are made of quotients

-- n cofactors of the quotients, over the lists of one copy
abbrev pub AreSumsIn : ℕ → ℕ → List Poly → List (Vec Poly) → Vec Poly → Type 0
AreSumsIn p n qs lists r = (m : ℕ) → m < n → IsSame (poly_ops (residue_ops p)) (get_or r.items m []) (combination (residue_ops p) qs (column (map (λ us. us.items) lists) m))

-- the fault of making them
abbrev pub CofactorFaults : ℕ → List Poly → List (Vec Poly) → RingFault → Type 0
CofactorFaults p qs lists = DegreesMeet (ProductsMeet p qs (map (λ us. us.items) lists))

-- n cofactors for each copy, over its lists, `kept` of them
abbrev pub AreCopiedSums : ℕ → ℕ → ℕ → ℕ → List (Vec (Vec Poly)) → List Poly → Vec Poly → Type 0
AreCopiedSums p v n kept copies qs r = AreInCopies p v (length copies) n kept (λ j. get_or (map (λ ls. map (λ us. us.items) ls.items) copies) j []) qs r.items

-- the fault of making them
abbrev pub CopyFaults : ℕ → ℕ → List (Vec (Vec Poly)) → List Poly → RingFault → Type 0
CopyFaults p kept copies qs = DegreesMeet (CopiesMeet p (length copies) kept (λ j. get_or (map (λ ls. map (λ us. us.items) ls.items) copies) j []) qs)

-- the cofactors of the elements of the group's basis, and the places of the kept ones
abbrev pub AreGroupCofactors : System → Found ℕ → Vec (Vec Poly) × Vec ℕ → Type 0
AreGroupCofactors s found r = KeepCofactors s found (chosen (map (λ us. us.items) r.0.items) r.1.items)

-- for each part of the law, given by the quotients of its division, its cofactors
abbrev pub AreLawCofactors : System → LawName → List (Vec Poly) → List ℕ → List (Vec Poly) → Vec (Vec Poly) → Type 0
AreLawCofactors s law lists places quotients r = AreMadeOf s (law_of law) (chosen (map (λ us. us.items) lists) places) (map (λ qs. qs.items) quotients) (map (λ us. us.items) r.items)

-- the fault of making them
abbrev pub MakingFaults : System → LawName → List (Vec Poly) → List ℕ → List (Vec Poly) → RingFault → Type 0
MakingFaults s law lists places quotients = DegreesMeet (MakingMeets s (law_of law) (chosen (map (λ us. us.items) lists) places) (map (λ qs. qs.items) quotients))

-- each law is proved by its lists
abbrev pub AreLawProofs : System → Found ℕ → List (LawName × Vec (Vec Poly)) → Type 0
AreLawProofs s found proofs = All (λ e. ProvesLaw s found (law_of e.0) (map (λ us. us.items) e.1.items)) proofs

-- ---- the quotients of the parts of a law

-- of the part at place k, which leaves nothing
abbrev pub LeavesZero : System → Found ℕ → LawName → ℕ → Vec Poly → Type 0
LeavesZero s found law k qs = IsZeroPart s found (law_of law) k qs.items

-- of each part
abbrev pub AreLawQuotients : System → Found ℕ → LawName → Vec (Vec Poly) → Type 0
AreLawQuotients s found law lists = AreQuotients s found (law_of law) (map (λ qs. qs.items) lists.items)
