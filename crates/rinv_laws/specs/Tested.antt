-- What the test of one part answers.
use Rattle.std.specs.Prelude.{◌≡◌, ℕ, List, nat_lt, IsTrue, IsFalse, ⊤}
use Rattle.rinv_algebra.specs.Residue.{residue_ops}
use Rattle.rinv_algebra.specs.Order.{grevlex}
use Rattle.rinv_algebra.specs.Polynomial.{is_zero}
use Rattle.rinv_algebra.specs.Normal.{IsNormal}
use Rattle.rinv_groebner.specs.Division.{Step, IsDivision, AreSame}
use Rattle.rinv_sub.specs.Refusal.{never}
use Rattle.rinv_div.specs.Divisors.{AreDivisors}
use Rattle.rinv_div.specs.Stops.{Divides, StepsMeet}
use Rattle.rinv_buch.specs.Kinds.{Found}
use Rattle.rinv_defs.specs.System.{System, Poly}
use Rattle.rinv_defs.specs.Laws.{Law, copies}
use Rattle.rinv_parts.specs.LawNames.{law_of, variables_of}
use Rattle.rinv_parts.specs.Points.{ArePolynomials}
use Rattle.rinv_laws.specs.declared.copied.CopiedBasis.{CopiedBasis}
use Rattle.rinv_laws.specs.declared.stop.LawStop.{LawStop}
use Rattle.rinv_laws.specs.declared.stop.LawStop.TheVariants.{Fault, Degree, NoMemory}
use Rattle.rinv_laws.specs.Copied.{kept_copies}
use Rattle.rinv_laws.specs.Faults.{IsFalsePart, PartMeets}

-- ---- division of a polynomial

module _ (p : ℕ) (hs : List Poly) where
  -- division of f by hs leaves nothing, with these quotients
  pub record LeavesNothing (f : Poly) (qs : List Poly) : Type 0 where
    pub rest : Poly
    pub steps : List (Step ℕ)
    pub divides : Divides (residue_ops p) grevlex hs f qs rest steps
    pub nothing : IsTrue (is_zero (residue_ops p) rest)

  -- division of f leaves this rest, which is not zero
  pub record LeavesRest (f rest : Poly) : Type 0 where
    pub steps : List (Step ℕ)
    pub division : IsDivision (residue_ops p) grevlex hs f steps rest
    pub something : IsFalse (is_zero (residue_ops p) rest)

  -- division of f, the part of a law at a place, leaves something or meets these degrees
  abbrev pub DivisionStops : Law → ℕ → Poly → LawStop → Type 0
  DivisionStops law k f (Fault t) = (law_of t.law ≡ law) × (t.part ≡ k) × LeavesRest f t.rest
  DivisionStops law k f (Degree x y) = StepsMeet (residue_ops p) grevlex hs f (λ c. nat_lt c p) never x y
  DivisionStops law k f NoMemory = ⊤

-- the rest of a fault stands in v variables
abbrev pub FaultIn : ℕ → ℕ → LawStop → Type 0
FaultIn p v (Fault t) = IsNormal (residue_ops p) (λ c. nat_lt c p) v t.rest
FaultIn p v (Degree x y) = ⊤
FaultIn p v NoMemory = ⊤

-- ---- the test of a part

-- the kept elements of the group's basis in the copies of which the law speaks, ready for division
pub record IsCopiedBasis (s : System) (found : Found ℕ) (law : Law) (b : CopiedBasis) : Type 0 where
  pub same : AreSame (residue_ops s.p) b.polys.items (kept_copies s found (copies law))
  pub normal : ArePolynomials s.p (variables_of s law) b.polys.items
  pub divisors : AreDivisors (residue_ops s.p) (λ c. nat_lt c s.p) (variables_of s law) grevlex b.polys.items b.divisors.list.items

-- the part of the law at place k is false, with its rest in the variables of the law, or its test meets these degrees
abbrev pub PartStops : System → Found ℕ → Law → ℕ → LawStop → Type 0
PartStops s found law k (Fault t) = (law_of t.law ≡ law) × (t.part ≡ k) × IsFalsePart s law k t.rest
PartStops s found law k (Degree x y) = PartMeets s found law k x y
PartStops s found law k NoMemory = ⊤
