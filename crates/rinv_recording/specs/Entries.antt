-- What the division of a pair is given, and what it gives.
--   AreDivisorsIn, AreDivisorsBy, AreQuotientsIn    divisors and quotients over the residues modulo p
--   IsSAt, MultipleFits, IsLowLcm                   the S-polynomial of two places, and its multiples
--   with_zeros, with_unit                           lists that are filled up
--   IsDividedAgain, DividingMeets, RecordsQuotients, RecordsEntry    an entry of the journal, by the first elements
--   found_of                                        a basis, with its journal
use Rattle.std.specs.Prelude.{◌≡◌, ◌≤◌, ◌-◌, ℕ, true, List, [], ◌∷◌, ◌++◌, length, replicate, take, nat_lt, Option, Result, map}
use Rattle.std.specs.Result.{MatchResult}
use Rattle.std.specs.declared.cmp.Ordering.{Ordering}
use Rattle.rinv_algebra.specs.Ring.{IsSame}
use Rattle.rinv_algebra.specs.BlockEnds.{sizes_from}
use Rattle.rinv_algebra.specs.Order.{block_order}
use Rattle.rinv_algebra.specs.Residue.{residue_ops}
use Rattle.rinv_algebra.specs.Monomial.{lcm, total_degree, max_degree}
use Rattle.rinv_algebra.specs.Polynomial.{poly_ops}
use Rattle.rinv_algebra.specs.Leading.{leading_monomial, multiplier}
use Rattle.rinv_algebra.specs.Fits.{product_fits}
use Rattle.rinv_ring.specs.Fault.{DegreesMeet}
use Rattle.rinv_ring.specs.declared.fault.RingFault.{RingFault}
use Rattle.rinv_div.specs.declared.divisors.Divisor.{Divisor}
use Rattle.rinv_div.specs.Divisors.{AreDivisors}
use Rattle.rinv_buch.specs.declared.kinds.Entry.{Entry as StoredEntry}
use Rattle.rinv_buch.specs.Kinds.{Found, journal_of, kind_of}
use Rattle.rinv_buch.specs.Runs.{s_at}
use Rattle.rinv_cofactors.specs.Combining.{AreQuotients}
use Rattle.rinv_defs.specs.System.{System, Poly}
use Rattle.rinv_cert.specs.declared.certificate.PairItem.{PairItem}
use Rattle.rinv_cert.specs.Seen.{pair_item_by}
use Rattle.rinv_recording.specs.Recorded.{PairMeets, QuotientsMeet, ArePairItemsOf}
use Rattle.rinv_recording.specs.Settings.{IsSetting}
use Rattle.rinv_recording.specs.Divided.{AreDividedAgain, AreQuotientsFor, IsItemFor}

-- ---- division

-- the divisors of polynomials over the residues modulo p
abbrev pub AreDivisorsIn : {R : Type 0} → (p v : ℕ) → (List ℕ → List ℕ → Ordering) → List Poly → List (Divisor R ℕ) → Type 0
AreDivisorsIn p v cmp hs ds = AreDivisors (residue_ops p) (λ c. nat_lt c p) v cmp hs ds

-- in the order of the blocks that end there
abbrev pub AreDivisorsBy : {R : Type 0} → (p v : ℕ) → (ends : List ℕ) → List Poly → List (Divisor R ℕ) → Type 0
AreDivisorsBy p v ends hs ds = AreDivisors (residue_ops p) (λ c. nat_lt c p) v (block_order (sizes_from 0 ends)) hs ds

-- the quotients of the S-polynomial of two places
abbrev pub AreQuotientsIn : (p v : ℕ) → (List ℕ → List ℕ → Ordering) → List Poly → (i j : ℕ) → List Poly → Type 0
AreQuotientsIn p v cmp list i j qs = AreQuotients (residue_ops p) (λ c. nat_lt c p) v cmp list i j qs

-- f is this S-polynomial
abbrev pub IsSAt : ℕ → (List ℕ → List ℕ → Ordering) → List Poly → (i j : ℕ) → Poly → Type 0
IsSAt p cmp list i j f = IsSame (poly_ops (residue_ops p)) f (s_at (residue_ops p) cmp list i j)

-- the multiple of f in its S-polynomial with h fits
abbrev pub MultipleFits : ℕ → (List ℕ → List ℕ → Ordering) → (f h : Poly) → Type 0
MultipleFits p cmp f h = product_fits (residue_ops p) (multiplier (residue_ops p) cmp f h ∷ []) f ≡ true

-- the least common multiple of the leading monomials is within the limit
abbrev pub IsLowLcm : ℕ → (List ℕ → List ℕ → Ordering) → (f h : Poly) → Type 0
IsLowLcm p cmp f h = total_degree (lcm (leading_monomial (residue_ops p) cmp f) (leading_monomial (residue_ops p) cmp h)) ≤ max_degree

-- ---- lists

-- the list with zeros up to so many
abbrev pub with_zeros : List Poly → ℕ → List Poly
with_zeros fs count = fs ++ replicate (count - length fs) []

-- the list with 1 behind it
abbrev pub with_unit : ℕ → List Poly → List Poly
with_unit p fs = fs ++ (poly_ops (residue_ops p)).one ∷ []

-- a basis and how it was found
abbrev pub found_of : List Poly → List StoredEntry → Found ℕ
found_of polys journal = record { polys = polys; journal = journal_of journal }

-- ---- entries

-- q are the quotients of the entry's pair by the first elements, as quotients by all
abbrev pub IsDividedAgain : (p v : ℕ) → (ends : List ℕ) → (made : ℕ) → List Poly → StoredEntry → Option ℕ → List Poly → Type 0
IsDividedAgain p v ends made polys entry added q =
    AreDividedAgain p v (block_order (sizes_from 0 ends)) (take made polys) (length polys) entry.first entry.second added q

-- the degrees that this division meets
abbrev pub DividingMeets : ℕ → (ends : List ℕ) → (made : ℕ) → List Poly → StoredEntry → ℕ → ℕ → Type 0
DividingMeets p ends made polys entry x y = QuotientsMeet p (block_order (sizes_from 0 ends)) (take made polys) entry.first entry.second x y

-- for each system whose ring and order these are, the result are the quotients of the entry's pair, and their products fit; or degrees are met
abbrev pub RecordsQuotients : Result (List Poly) RingFault → (p v : ℕ) → (ends : List ℕ) → (made : ℕ) → List Poly → StoredEntry → Option ℕ → Type 0
RecordsQuotients result p v ends made polys entry added =
    (s : System) → IsSetting s p v ends
    → MatchResult result (λ q. AreQuotientsFor s (take made polys) polys entry.first entry.second added q) (DegreesMeet (PairMeets s (take made polys) polys entry.first entry.second))

-- the result is the entry, and its products fit; or degrees are met
abbrev pub RecordsEntry : Result (PairItem Poly) RingFault → (p v : ℕ) → (ends : List ℕ) → (made : ℕ) → List Poly → StoredEntry → Type 0
RecordsEntry result p v ends made polys entry =
    (s : System) → IsSetting s p v ends
    → MatchResult result (λ e. IsItemFor s (take made polys) polys entry.first entry.second (kind_of entry.kind) (pair_item_by (λ f. f) e)) (DegreesMeet (PairMeets s (take made polys) polys entry.first entry.second))

-- the items are the entries of the journal, in their order
abbrev pub AreItemsOf : System → List Poly → List StoredEntry → List (PairItem Poly) → Type 0
AreItemsOf s polys journal items = ArePairItemsOf s (record { polys = polys; journal = journal_of journal }) (map (pair_item_by (λ f. f)) items)
