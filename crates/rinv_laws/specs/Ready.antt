-- A list of polynomials that is ready for division, as contracts name it.
use Rattle.std.specs.Prelude.{◌⊎◌, ℕ, ◌+◌, List, length, nat_lt}
use Rattle.std.specs.Global.{Vec}
use Rattle.rinv_algebra.specs.Residue.{residue_ops}
use Rattle.rinv_algebra.specs.Order.{grevlex}
use Rattle.rinv_div.specs.Divisors.{AreDivisors}
use Rattle.rinv_buch.specs.Kinds.{Found}
use Rattle.rinv_defs.specs.System.{System, Poly}
use Rattle.rinv_parts.specs.declared.law.LawName.{LawName}
use Rattle.rinv_parts.specs.declared.law_points.LawPoints.{LawPoints}
use Rattle.rinv_parts.specs.LawNames.{law_of}
use Rattle.rinv_parts.specs.Points.{Points, part_number}
use Rattle.rinv_laws.specs.declared.copied.CopiedBasis.{CopiedBasis}
use Rattle.rinv_laws.specs.declared.stop.LawStop.{LawStop}
use Rattle.rinv_laws.specs.Faults.{LawStopsSo, TestMeets}
use Rattle.rinv_laws.specs.Modulo.{AreInIdeal, AreValues, DifferInIdeal, PartsInIdeal, stored_points}
use Rattle.rinv_laws.specs.Proofs.{ProofsMeet}
use Rattle.rinv_laws.specs.Tested.{DivisionStops, IsCopiedBasis, LeavesNothing, PartStops}

-- the divisors are those of the polynomials, in v variables
abbrev pub HasDivisors : ℕ → ℕ → CopiedBasis → Type 0
HasDivisors p v b = AreDivisors (residue_ops p) (λ c. nat_lt c p) v grevlex b.polys.items b.divisors.list.items

-- the list is that of the kept elements of the group's basis in the copies of which the law speaks
abbrev pub IsBasisFor : System → Found ℕ → LawName → CopiedBasis → Type 0
IsBasisFor s found law b = IsCopiedBasis s found (law_of law) b

-- ---- modulo the ideal of the list

-- the values stand for the polynomials fs at the point
abbrev pub HoldValues : ℕ → ℕ → CopiedBasis → List Poly → List Poly → Vec Poly → Type 0
HoldValues p v b point fs values = AreValues p v b.polys.items point fs values.items

-- the polynomials vanish
abbrev pub AllVanish : ℕ → CopiedBasis → List Poly → Type 0
AllVanish p b fs = AreInIdeal p b.polys.items fs

-- the polynomials agree, place by place
abbrev pub AllAgree : ℕ → CopiedBasis → List Poly → List Poly → Type 0
AllAgree p b left right = DifferInIdeal p b.polys.items left right

-- what is said of the polynomials fs at points holds: a part for each,
abbrev pub HoldAt : ℕ → CopiedBasis → List Poly → Points → Type 0
HoldAt p b fs points = PartsInIdeal p b.polys.items fs points (length fs)

-- two parts for each,
abbrev pub HoldAtBoth : ℕ → CopiedBasis → List Poly → Points → Type 0
HoldAtBoth p b fs points = PartsInIdeal p b.polys.items fs points (length fs + length fs)

-- or as many as the points as they are stored have
abbrev pub HoldAtStored : ℕ → CopiedBasis → List Poly → LawPoints → Type 0
HoldAtStored p b fs points = PartsInIdeal p b.polys.items fs (stored_points points) (part_number (length fs) points)

-- ---- division by the list

-- f leaves nothing, with these quotients
abbrev pub DividesWholly : ℕ → CopiedBasis → Poly → Vec Poly → Type 0
DividesWholly p b f qs = LeavesNothing p b.polys.items f qs.items

-- f, the part of a law at a place, leaves something or meets degrees
abbrev pub StopsDivision : ℕ → CopiedBasis → LawName → ℕ → Poly → LawStop → Type 0
StopsDivision p b law k f = DivisionStops p b.polys.items (law_of law) k f

-- ---- where the test of the laws stops

-- at the part of a law at a place
abbrev pub StopsPart : System → Found ℕ → LawName → ℕ → LawStop → Type 0
StopsPart s found law k = PartStops s found (law_of law) k

-- at the first part that is false, or at degrees that the test meets,
abbrev pub StopsTest : System → Found ℕ → LawStop → Type 0
StopsTest s found = LawStopsSo s (TestMeets s found)

-- or that the making of the cofactors meets
abbrev pub StopsCheck : System → Found ℕ → LawStop → Type 0
StopsCheck s found = LawStopsSo s (λ x y. TestMeets s found x y ⊎ ProofsMeet s found x y)
