-- The pairs of the basis of the action's ideal, as a certificate has them: what the journal says of each, with places from 1.
--   elements_after, list_before     how many elements there are after some entries, and the list as it was
--   padded, AreRecorded             the quotients of a pair's S-polynomial, as quotients by the whole list
--   IsPairItemOf, ArePairItemsOf    an entry, and the entries in their order
--   PairFits, PairsFit              the products of the conditions on them fit
--   MultiplesMeet, QuotientsMeet    the degrees that an S-polynomial and its division meet
--   PairMeets, PairsMeet            those that an entry meets, and that some entry does
use Rattle.std.specs.Prelude.{◌≡◌, ◌⊎◌, ℕ, ◌+◌, ◌-◌, ◌<◌, true, List, [], ◌∷◌, ◌++◌, length, filter, take, get_or, replicate, nat_lt, Option, Some, None}
use Rattle.std.specs.List.{list_all}
use Rattle.std.specs.declared.cmp.Ordering.{Ordering}
use Rattle.rinv_algebra.specs.Residue.{residue_ops}
use Rattle.rinv_algebra.specs.Polynomial.{poly_ops}
use Rattle.rinv_algebra.specs.Leading.{multiplier}
use Rattle.rinv_groebner.specs.Division.{Step, AreSame}
use Rattle.rinv_groebner.specs.Journal.{Entry, Kind as EntryKind, nonzeros}
use Rattle.rinv_groebner.specs.Journal.Kind.{reduced, coprime, chain}
use Rattle.rinv_defs.specs.System.{System, Poly}
use Rattle.rinv_defs.specs.Extended.{action_ideal}
use Rattle.rinv_defs.specs.Certificate.{Certificate, PairItem, by_coprime, by_chain, by_quotients}
use Rattle.rinv_defs.specs.Conditions.{elements}
use Rattle.rinv_defs.specs.PairConditions.{action_order}
use Rattle.rinv_reduction.specs.Localised.{all_count}
use Rattle.rinv_acceptance.specs.Fits.{pair_multiplies}
use Rattle.rinv_poly.specs.Faults.{MonomialsMeet}
use Rattle.rinv_sub.specs.Refusal.{never}
use Rattle.rinv_fits.specs.Sums.{SumsMeet}
use Rattle.rinv_div.specs.Stops.{Divides, StepsMeet}
use Rattle.rinv_buch.specs.Kinds.{Found}
use Rattle.rinv_buch.specs.Runs.{s_at}
use Rattle.rinv_cofactors.specs.Combining.{adds}
use Rattle.rinv_parts.specs.Points.{ArePolynomials}

-- how many elements there are after some entries
abbrev pub elements_after : System → List Poly → List Entry → ℕ
elements_after s given before = length (nonzeros (residue_ops s.p) given) + length (filter (λ e. adds e.kind) before)

-- the quotients of a division by the first elements, 1 at the place that was added, and zero at every later place
abbrev pub padded : ℕ → ℕ → List Poly → Option ℕ → List Poly
padded p b qs None = qs ++ replicate (b - length qs) []
padded p b qs (Some added) = qs ++ (poly_ops (residue_ops p)).one ∷ replicate (b - (length qs + 1)) []

-- the quotients of the pair's S-polynomial, divided by the list as it was
pub record AreRecorded (s : System) (list : List Poly) (b i j : ℕ) (added : Option ℕ) (q : List Poly) : Type 0 where
  pub quotients : List Poly
  pub rest : Poly
  pub steps : List (Step ℕ)
  pub divides : Divides (residue_ops s.p) (action_order s) list (s_at (residue_ops s.p) (action_order s) list i j) quotients rest steps
  pub recorded : AreSame (residue_ops s.p) q (padded s.p b quotients added)
  pub normal : ArePolynomials s.p (all_count s) q

-- an entry of the journal, with places from 1; the list as it was when the pair was taken
abbrev pub IsPairItemOf : System → List Poly → ℕ → ℕ → ℕ → EntryKind → PairItem → Type 0
IsPairItemOf s list b i j coprime item = item ≡ by_coprime (i + 1) (j + 1)
IsPairItemOf s list b i j (chain by) item = item ≡ by_chain (i + 1) (j + 1) (by + 1)
IsPairItemOf s list b i j (reduced added) item = (q : List Poly) × (item ≡ by_quotients (i + 1) (j + 1) q) × AreRecorded s list b i j added q

-- the list as it was when the pair of the entry at a place was taken
abbrev pub list_before : System → Found ℕ → ℕ → List Poly
list_before s found k = take (elements_after s (action_ideal s) (take k found.journal)) found.polys

-- the entries in their order
pub record ArePairItemsOf (s : System) (found : Found ℕ) (items : List PairItem) : Type 0 where
  pub number : length items ≡ length found.journal
  pub each : (k : ℕ) (e : Entry) (item : PairItem) → k < length items → e ≡ get_or found.journal k e → item ≡ get_or items k item
      → IsPairItemOf s (list_before s found k) (length found.polys) e.first e.second e.kind item

-- each product that the condition on an entry multiplies fits, in a certificate of this system whose basis these polynomials are
abbrev pub PairFits : System → List Poly → PairItem → Type 0
PairFits s polys item = (c : Certificate) → c.system ≡ record s { section = [] } → elements c ≡ polys → pair_multiplies c item ≡ true

-- so it does for all entries
abbrev pub PairsFit : System → List Poly → List PairItem → Type 0
PairsFit s polys items = (c : Certificate) → c.system ≡ record s { section = [] } → elements c ≡ polys → list_all (pair_multiplies c) items ≡ true

-- ---- degrees

-- the multiple of f in its S-polynomial with h meets these degrees
abbrev pub MultipleMeets : ℕ → (List ℕ → List ℕ → Ordering) → (f h : Poly) → ℕ → ℕ → Type 0
MultipleMeets p cmp f h x y = MonomialsMeet (residue_ops p) (multiplier (residue_ops p) cmp f h ∷ []) f x y

-- the S-polynomial of two places of a list does, in one of its multiples
abbrev pub MultiplesMeet : ℕ → (List ℕ → List ℕ → Ordering) → List Poly → ℕ → ℕ → ℕ → ℕ → Type 0
MultiplesMeet p cmp list i j x y = MultipleMeets p cmp (get_or list i []) (get_or list j []) x y ⊎ MultipleMeets p cmp (get_or list j []) (get_or list i []) x y

-- so does its division, or a step of it
abbrev pub QuotientsMeet : ℕ → (List ℕ → List ℕ → Ordering) → List Poly → ℕ → ℕ → ℕ → ℕ → Type 0
QuotientsMeet p cmp list i j x y = MultiplesMeet p cmp list i j x y ⊎ StepsMeet (residue_ops p) cmp list (s_at (residue_ops p) cmp list i j) (λ c. nat_lt c p) never x y

-- the pair of two places of a list does: in its S-polynomial, in the division of that, or as the quotients are multiplied by the basis
pub data PairMeets (s : System) (list polys : List Poly) (i j : ℕ) (x y : ℕ) : Type 0 where
  in_first : MultipleMeets s.p (action_order s) (get_or list i []) (get_or list j []) x y → PairMeets s list polys i j x y
  in_second : MultipleMeets s.p (action_order s) (get_or list j []) (get_or list i []) x y → PairMeets s list polys i j x y
  in_division : StepsMeet (residue_ops s.p) (action_order s) list (s_at (residue_ops s.p) (action_order s) list i j) (λ c. nat_lt c s.p) never x y → PairMeets s list polys i j x y
  in_identity : (added : Option ℕ) (q : List Poly) → AreRecorded s list (length polys) i j added q → SumsMeet s.p (all_count s) q polys x y → PairMeets s list polys i j x y

-- so does that of some entry of a journal, taken again with the list as it was
pub record PairsMeet (s : System) (found : Found ℕ) (x y : ℕ) : Type 0 where
  pub place : ℕ
  pub entry : Entry
  pub inside : place < length found.journal
  pub stands : entry ≡ get_or found.journal place entry
  pub meets : PairMeets s (list_before s found place) found.polys entry.first entry.second x y
