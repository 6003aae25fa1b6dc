-- What the test of the laws answers where it does not find that all hold.
use Rattle.std.specs.Prelude.{◌≡◌, ℕ, ◌<◌, List, length, nat_lt, ⊤}
use Rattle.rinv_algebra.specs.Residue.{residue_ops}
use Rattle.rinv_algebra.specs.Order.{grevlex}
use Rattle.rinv_algebra.specs.Normal.{IsNormal}
use Rattle.rinv_algebra.specs.Ideal.{IsMember}
use Rattle.rinv_div.specs.Stops.{StepsMeet}
use Rattle.rinv_buch.specs.Kinds.{Found}
use Rattle.rinv_defs.specs.System.{System, Poly, ideal_copies}
use Rattle.rinv_defs.specs.Laws.{Law, copies, parts, LawHolds}
use Rattle.rinv_defs.specs.Rest.{IsRest}
use Rattle.rinv_laws.specs.declared.stop.LawStop.{LawStop}
use Rattle.rinv_laws.specs.declared.stop.LawStop.TheVariants.{Fault, Degree, NoMemory}
use Rattle.rinv_parts.specs.LawNames.{law_of, rank, variables_of}
use Rattle.rinv_parts.specs.Parts.{part_at, part_meets}
use Rattle.rinv_laws.specs.Copied.{IsAsked}
use Rattle.rinv_sub.specs.Refusal.{never}

-- the part lies in the ideal of the points of which the law speaks
abbrev pub PartHolds : System → Law → ℕ → Type 0
PartHolds s law k = IsMember (residue_ops s.p) (ideal_copies s (copies law)) (part_at s law k)

-- each law before this one holds
abbrev pub HoldBefore : System → Law → Type 0
HoldBefore s law = (other : Law) → rank other < rank law → LawHolds s other

-- and each part of it before this place
pub record HoldsUpTo (s : System) (law : Law) (k : ℕ) : Type 0 where
  pub laws : HoldBefore s law
  pub parts : (j : ℕ) → j < k → PartHolds s law j

-- a part that is false, and its rest in the variables of the law
pub record IsFalsePart (s : System) (law : Law) (k : ℕ) (rest : Poly) : Type 0 where
  pub fails : ¬ (PartHolds s law k)
  pub is_rest : IsRest s.p (part_at s law k) (ideal_copies s (copies law)) rest
  pub normal : IsNormal (residue_ops s.p) (λ c. nat_lt c s.p) (variables_of s law) rest

-- the first part that is false, and its rest
pub record IsFirstFault (s : System) (law : Law) (k : ℕ) (rest : Poly) : Type 0 where
  pub inside : k < length (parts s law)
  pub before : HoldsUpTo s law k
  pub false_part : ¬ (PartHolds s law k)
  pub is_rest : IsRest s.p (part_at s law k) (ideal_copies s (copies law)) rest

-- the test of a part meets these degrees: in the substitutions by which it is made, or in its division
pub data PartMeets (s : System) (found : Found ℕ) (law : Law) (k : ℕ) (x y : ℕ) : Type 0 where
  in_substitution : part_meets s law k x y → PartMeets s found law k x y
  in_division : (f : Poly) (hs : List Poly) → IsAsked s found law k f hs → StepsMeet (residue_ops s.p) grevlex hs f (λ c. nat_lt c s.p) never x y → PartMeets s found law k x y

-- the test of the laws meets these degrees: all before a part holds, and the test of this part meets them
pub record TestMeets (s : System) (found : Found ℕ) (x y : ℕ) : Type 0 where
  pub law : Law
  pub k : ℕ
  pub inside : k < length (parts s law)
  pub before : HoldsUpTo s law k
  pub meets : PartMeets s found law k x y

-- a fault is the first one, with its rest in the variables of the law, and degrees are met so; want of memory says nothing
abbrev pub LawStopsSo : System → (ℕ → ℕ → Type 0) → LawStop → Type 0
LawStopsSo s Meets (Fault f) = IsFirstFault s (law_of f.law) f.part f.rest × IsNormal (residue_ops s.p) (λ c. nat_lt c s.p) (variables_of s (law_of f.law)) f.rest
LawStopsSo s Meets (Degree x y) = Meets x y
LawStopsSo s Meets NoMemory = ⊤

-- one place of one law
abbrev pub IsOnePlace : Law → ℕ → Law → ℕ → Type 0
IsOnePlace l j m k = (l ≡ m) × (j ≡ k)
