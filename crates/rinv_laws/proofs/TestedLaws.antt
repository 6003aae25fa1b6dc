-- A part of a law that was divided by the copied basis: it holds where nothing is left, and is false where something is.
--   part-holds, part-zero, part-stops    what the division of a part says of it
--   made-stops                           a part that cannot be made
--   Tested, tested-none, tested-more     the parts so far
--   tested-holds, tested-quotients, stops-at    the law
--   copies-are, basis-is                 the copies of the chosen elements
use Rattle.std.proofs.Common.{◌≡◌, ℕ, ◌+◌, ◌<◌, ◌≤◌, List, [], ◌∷◌, ◌++◌, length, length-append, map, get_or, nat_lt, All, refl, sym, ap, ◌∙◌, subst, subst₂, inl, inr, arith}
use Rattle.std.specs.Prelude.{Result, Ok, Err, IfOk, IfErr, OnOk}
use Rattle.std.proofs.lemmas.Bool.{cases_lt}
use Rattle.std.proofs.lemmas.List.{get_or_default, get_or_append_left, get_or-append-add}
use Rattle.std.proofs.lemmas.List.Elements.{All-nil, All-push}
use Rattle.rinv_algebra.specs.Residue.{residue_ops}
use Rattle.rinv_algebra.specs.Order.{grevlex}
use Rattle.rinv_algebra.specs.Normal.{IsNormal}
use Rattle.rinv_algebra.specs.Ideal.{IsMember}
use Rattle.rinv_algebra.proofs.ResidueField.{residue_field_laws}
use Rattle.rinv_algebra.proofs.ResidueLaws.{residue_laws}
use Rattle.rinv_groebner.specs.Orders.{AreInVariables}
use Rattle.rinv_groebner.specs.Division.{AreSame}
use Rattle.rinv_groebner.specs.Reduced.{kept}
use Rattle.rinv_groebner.specs.Copies.{copies as copied}
use Rattle.rinv_ring.specs.Fault.{DegreesMeet}
use Rattle.rinv_ring.specs.declared.fault.RingFault.{RingFault}
use Rattle.rinv_ring.specs.declared.fault.RingFault.TheVariants.{Degree as RingDegree, NoMemory as RingNoMemory}
use Rattle.rinv_div.specs.Divisors.{AreDivisors}
use Rattle.rinv_buch.specs.Kinds.{Found}
use Rattle.rinv_buch.proofs.InVariables.{all-in_variables}
use Rattle.rinv_defs.specs.System.{System, Poly, group_count, ideal_copies}
use Rattle.rinv_defs.specs.SystemForm.{IsSystem}
use Rattle.rinv_defs.specs.Laws.{Law, copies, parts, LawHolds}
use Rattle.rinv_parts.specs.LawNames.{variables_of}
use Rattle.rinv_parts.specs.Parts.{IsPart, part_at, part_meets}
use Rattle.rinv_parts.specs.Points.{ArePolynomials}
use Rattle.rinv_laws.specs.declared.copied.CopiedBasis.{CopiedBasis}
use Rattle.rinv_laws.specs.declared.stop.LawStop.{LawStop}
use Rattle.rinv_laws.specs.declared.stop.LawStop.TheVariants.{Fault, Degree, NoMemory}
use Rattle.rinv_laws.specs.Copied.{kept_copies, AreQuotients, IsAsked, IsZeroPart}
use Rattle.rinv_laws.specs.Faults.{PartHolds, HoldBefore, IsFalsePart, IsFirstFault, PartMeets, TestMeets, LawStopsSo}
use Rattle.rinv_laws.specs.Group.{IsGroupBasis}
use Rattle.rinv_laws.specs.Stopped.{stop_of}
use Rattle.rinv_laws.specs.Tested.{DivisionStops, FaultIn, IsCopiedBasis, LeavesNothing, LeavesRest, PartStops}
use Rattle.rinv_laws.proofs.GroupCopies.{copied-basis}
use Rattle.rinv_laws.proofs.KeptBasis.{divided-member, rest-congruent, rest-reduced, rest-outside}

-- ---- one part

module _ (s : System) (found : Found ℕ) (reduced : List Poly) (system : IsSystem s) (group : IsGroupBasis s found reduced) (law : Law) (k : ℕ) (b : CopiedBasis) (basis : IsCopiedBasis s found law b) (f : Poly) (part : IsPart s law k f) where
  hs_in : AreInVariables (variables_of s law) b.polys.items
  hs_in = all-in_variables (residue_ops s.p) (λ c. nat_lt c s.p) (variables_of s law) b.polys.items basis.normal

  asked : IsAsked s found law k f b.polys.items
  asked = record { part = part.stored.value; basis = basis.same }

  pub part-holds : (qs : List Poly) → LeavesNothing s.p b.polys.items f qs → PartHolds s law k
  part-holds qs h = divided-member (residue_ops s.p) (residue_laws s.p) (residue_field_laws s.p) (variables_of s law) (ideal_copies s (copies law)) b.polys.items hs_in (copied-basis s found reduced system group law b.polys.items basis.same)
      f (part_at s law k) h.rest h.steps part.stored.value h.divides.is_division h.nothing

  pub part-zero : (qs : List Poly) → LeavesNothing s.p b.polys.items f qs → IsZeroPart s found law k qs
  part-zero qs h = (h.rest, record { f = f; hs = b.polys.items; asked = asked; steps = h.steps; divides = h.divides }, h.nothing)

  false-part : (rest : Poly) → LeavesRest s.p b.polys.items f rest → IsNormal (residue_ops s.p) (λ c. nat_lt c s.p) (variables_of s law) rest → IsFalsePart s law k rest
  false-part rest h normal =
      let g = copied-basis s found reduced system group law b.polys.items basis.same in
      let v = variables_of s law in
      record {
        fails = rest-outside (residue_ops s.p) (residue_laws s.p) (residue_field_laws s.p) v (ideal_copies s (copies law)) b.polys.items hs_in g f (part_at s law k) rest h.steps part.stored.value h.division h.something;
        is_rest = record {
          nonzero = h.something;
          congruent = rest-congruent (residue_ops s.p) (residue_laws s.p) (residue_field_laws s.p) v (ideal_copies s (copies law)) b.polys.items hs_in g f (part_at s law k) rest h.steps part.stored.value h.division;
          reduced = rest-reduced (residue_ops s.p) (residue_laws s.p) (residue_field_laws s.p) v (ideal_copies s (copies law)) b.polys.items hs_in g f (part_at s law k) rest h.steps part.stored.value h.division;
        };
        normal = normal;
      }

  pub part-stops : (e : LawStop) → DivisionStops s.p b.polys.items law k f e → FaultIn s.p (variables_of s law) e → PartStops s found law k e
  part-stops (Fault t) h n = (h.0, h.1, false-part t.rest h.2 n)
  part-stops (Degree x y) h n = PartMeets.in_division f b.polys.items asked h
  part-stops NoMemory h n = tt

  -- what dividing it in a ring of its own answers
  module _ (p v : ℕ) (field : p ≡ s.p) (vars : v ≡ variables_of s law) where
    pub answer-holds : {X : Type 0} (qs : X → List Poly) (result : Result X LawStop) → IfOk result (λ x. LeavesNothing p b.polys.items f (qs x)) → OnOk result (PartHolds s law k)
    answer-holds qs (Ok x) h = part-holds (qs x) (subst (λ (q : ℕ). LeavesNothing q b.polys.items f (qs x)) field h)
    answer-holds qs (Err e) h = h

    pub answer-zero : {X : Type 0} (qs : X → List Poly) (result : Result X LawStop) → IfOk result (λ x. LeavesNothing p b.polys.items f (qs x)) → IfOk result (λ x. IsZeroPart s found law k (qs x))
    answer-zero qs (Ok x) h = part-zero (qs x) (subst (λ (q : ℕ). LeavesNothing q b.polys.items f (qs x)) field h)
    answer-zero qs (Err e) h = h

    pub answer-stops : {X : Type 0} (result : Result X LawStop) → IfErr result (DivisionStops p b.polys.items law k f) → IfErr result (FaultIn p v) → IfErr result (PartStops s found law k)
    answer-stops (Ok x) h n = h
    answer-stops (Err e) h n = part-stops e (subst (λ (q : ℕ). DivisionStops q b.polys.items law k f e) field h) (subst₂ (λ (q w : ℕ). FaultIn q w e) field vars n)

pub answer-normal : {X : Type 0} (qs : X → List Poly) (p q v w : ℕ) → p ≡ q → v ≡ w → (result : Result X LawStop) → IfOk result (λ x. ArePolynomials p v (qs x)) → IfOk result (λ x. ArePolynomials q w (qs x))
answer-normal qs p q v w a b (Ok x) h = subst₂ (λ (r u : ℕ). ArePolynomials r u (qs x)) a b h
answer-normal qs p q v w a b (Err e) h = h

-- a part that cannot be made
pub made-stops : (s : System) (found : Found ℕ) (law : Law) (k : ℕ) (e : RingFault) → DegreesMeet (part_meets s law k) e → PartStops s found law k (stop_of e)
made-stops s found law k (RingDegree x y) h = PartMeets.in_substitution h
made-stops s found law k RingNoMemory h = tt

-- ---- the parts in turn

module _ (s : System) (found : Found ℕ) (law : Law) where
  -- the first k parts hold, and these are their quotients
  pub record Tested (k : ℕ) (lists : List (List Poly)) : Type 0 where
    pub number : length lists ≡ k
    pub hold : (j : ℕ) → j < k → PartHolds s law j
    pub normal : All (ArePolynomials s.p (variables_of s law)) lists
    pub zero_parts : (j : ℕ) → j < k → IsZeroPart s found law j (get_or lists j [])

  pub tested-none : Tested 0 []
  tested-none = record { number = refl; hold = λ j low. absurd (omega (arith, low)); normal = All-nil (ArePolynomials s.p (variables_of s law)); zero_parts = λ j low. absurd (omega (arith, low)) }

  -- one part more
  pub tested-more : (k : ℕ) (lists : List (List Poly)) (qs : List Poly) → Tested k lists → PartHolds s law k → ArePolynomials s.p (variables_of s law) qs → IsZeroPart s found law k qs → Tested (k + 1) (lists ++ qs ∷ [])
  tested-more k lists qs h holds normal zero = record {
    number = length-append lists (qs ∷ []) ∙ ap (λ (n : ℕ). n + 1) h.number;
    hold = λ j low. elim (cases_lt j k) [ inl below ↦ h.hold j below | inr last ↦ subst (PartHolds s law) (is_last j low last) holds ];
    normal = All-push (ArePolynomials s.p (variables_of s law)) lists qs h.normal normal;
    zero_parts = λ j low. elim (cases_lt j k) [
      | inl below ↦ subst (IsZeroPart s found law j) (sym (get_or_append_left lists (qs ∷ []) [] j (omega (arith, below, h.number)))) (h.zero_parts j below)
      | inr last ↦ subst (λ (i : ℕ). IsZeroPart s found law i (get_or (lists ++ qs ∷ []) i [])) (is_last j low last) (subst (IsZeroPart s found law k) (sym (at_end k (omega (arith, h.number)))) zero)
    ];
  }
    where
      is_last : (j : ℕ) → j < k + 1 → k ≤ j → k ≡ j
      is_last j low last = omega (arith, low, last)

      at_end : (n : ℕ) → n ≡ length lists + 0 → get_or (lists ++ qs ∷ []) n [] ≡ qs
      at_end n e = ap (λ (m : ℕ). get_or (lists ++ qs ∷ []) m []) e ∙ get_or-append-add lists (qs ∷ []) 0 []

  module _ (k : ℕ) (lists : List (List Poly)) (h : Tested k lists) where
    -- all parts
    pub tested-holds : k ≡ length (parts s law) → LawHolds s law
    tested-holds whole j d inside = subst (IsMember (residue_ops s.p) (ideal_copies s (copies law))) (get_or_default (parts s law) j [] d inside) (h.hold j (omega (arith, whole, inside)))

    pub tested-quotients : k ≡ length (parts s law) → AreQuotients s found law lists
    tested-quotients whole = record { number = h.number ∙ whole; normal = h.normal; each = λ j low. h.zero_parts j (omega (arith, low, h.number)) }

    -- the first part that stops
    pub stops-at : HoldBefore s law → k < length (parts s law) → (e : LawStop) → PartStops s found law k e → LawStopsSo s (TestMeets s found) e
    stops-at before few (Fault t) p =
        let so : _ × _ × IsFalsePart s law k t.rest = p in (
          subst₂ (λ l j. IsFirstFault s l j t.rest) (sym so.0) (sym so.1) (record { inside = few; before = record { laws = before; parts = h.hold }; false_part = so.2.fails; is_rest = so.2.is_rest }),
          subst (λ l. IsNormal (residue_ops s.p) (λ c. nat_lt c s.p) (variables_of s l) t.rest) (sym so.0) so.2.normal,
        )
    stops-at before few (Degree x y) p = record { law = law; k = k; inside = few; before = record { laws = before; parts = h.hold }; meets = p }
    stops-at before few NoMemory p = tt

-- the copies of the chosen elements are those of the kept ones
pub copies-are : (s : System) (found : Found ℕ) (law : Law) (c v : ℕ) (fs : List Poly) (places : List ℕ) → c ≡ copies law → v ≡ group_count s → fs ≡ found.polys
    → map (λ k. get_or found.polys k []) places ≡ kept (residue_ops s.p) grevlex found.polys → copied c v (map (λ k. get_or fs k []) places) ≡ kept_copies s found (copies law)
copies-are s found law c v fs places a b e h = rw (a, b, e, h) refl

-- the copied basis, in a ring of its own and with copies that were counted
pub basis-is : (s : System) (found : Found ℕ) (law : Law) (b : CopiedBasis) (p v : ℕ) (ks : List Poly) → p ≡ s.p → v ≡ variables_of s law → ks ≡ kept_copies s found (copies law)
    → AreSame (residue_ops p) b.polys.items ks → ArePolynomials p v b.polys.items → AreDivisors (residue_ops p) (λ c. nat_lt c p) v grevlex b.polys.items b.divisors.list.items → IsCopiedBasis s found law b
basis-is s found law b p v ks field vars is same normal divisors = record {
  same = subst₂ (λ (q : ℕ) (hs : List Poly). AreSame (residue_ops q) b.polys.items hs) field is same;
  normal = subst₂ (λ (q w : ℕ). ArePolynomials q w b.polys.items) field vars normal;
  divisors = subst₂ (λ (q w : ℕ). AreDivisors (residue_ops q) (λ c. nat_lt c q) w grevlex b.polys.items b.divisors.list.items) field vars divisors;
}
