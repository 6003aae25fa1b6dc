-- A part of a law from what is said of its polynomials.
--   part-answer      what is answered of them is the answer of the part
use Rattle.std.proofs.Common.{◌≡◌, ℕ, ◌<◌, List, length, sym, subst, subst₂}
use Rattle.std.specs.Prelude.{Result}
use Rattle.std.specs.Result.{MatchResult}
use Rattle.rinv_ring.specs.Fault.{DegreesMeet}
use Rattle.rinv_ring.specs.declared.fault.RingFault.{RingFault}
use Rattle.rinv_defs.specs.System.{System, Poly}
use Rattle.rinv_defs.specs.SystemForm.{IsSystem}
use Rattle.rinv_defs.specs.Laws.{Law, parts}
use Rattle.rinv_parts.specs.LawNames.{variables_of}
use Rattle.rinv_parts.specs.Parts.{IsPart, part_meets}
use Rattle.rinv_parts.specs.Points.{IsStoredIn, law_points, law_polynomials}
use Rattle.rinv_parts.specs.Substitutions.{IsMade, OneMeets, taken_at}
use Rattle.rinv_parts.proofs.PartForms.{part-made}
use Rattle.rinv_parts.proofs.Values.{weaker}

module _ (s : System) (system : IsSystem s) (law : Law) (k : ℕ) (few : k < length (parts s law)) (result : Result Poly RingFault) where
  -- what is answered of polynomials
  abbrev Answers : ℕ → ℕ → List Poly → Type 0
  Answers p v fs = MatchResult result (IsMade p v fs (law_points s law) k) (DegreesMeet (OneMeets p v (taken_at fs (law_points s law) k)))

  in_law : Answers s.p (variables_of s law) (law_polynomials s law) → MatchResult result (IsPart s law k) (DegreesMeet (part_meets s law k))
  in_law h =
      weaker s.p (variables_of s law) (IsMade s.p (variables_of s law) (law_polynomials s law) (law_points s law) k) (IsPart s law k)
      (OneMeets s.p (variables_of s law) (taken_at (law_polynomials s law) (law_points s law) k)) (part_meets s law k)
      (λ r q. record { stored = subst (λ (f : Poly). IsStoredIn s.p (variables_of s law) f r) (sym (part-made s system law k few)) q.stored; fits = q.fits }) (λ m n q. q) result h

  pub part-answer : (p v : ℕ) (fs : List Poly) → p ≡ s.p → v ≡ variables_of s law → fs ≡ law_polynomials s law → Answers p v fs → MatchResult result (IsPart s law k) (DegreesMeet (part_meets s law k))
  part-answer p v fs field vars is h = in_law (subst (λ (gs : List Poly). Answers s.p (variables_of s law) gs) is (subst₂ (λ (q w : ℕ). Answers q w fs) field vars h))
