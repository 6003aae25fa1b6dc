-- Cofactors of the elements that a journal makes, over the polynomials given: how each entry makes those of the rest that it adds.
use Rattle.std.specs.Prelude.{◌≡◌, ℕ, ◌<◌, Bool, true, false, not, Some, None, List, [], ◌∷◌, ◌++◌, map, filter, length, get_or, set, replicate, All}
use Rattle.std.specs.List.{range_with_len, AllZip}
use Rattle.std.specs.declared.cmp.Ordering.{Ordering}
use Rattle.rinv_algebra.specs.Ring.{RingOps, IsSame}
use Rattle.rinv_algebra.specs.Polynomial.{Polynomial, poly_ops, is_zero, product, term_product, difference}
use Rattle.rinv_algebra.specs.Normal.{IsNormal}
use Rattle.rinv_algebra.specs.Ideal.{combination}
use Rattle.rinv_algebra.specs.Leading.{multiplier}
use Rattle.rinv_groebner.specs.Division.{Step, AreSame}
use Rattle.rinv_groebner.specs.Journal.{Entry, Kind, IsEntry, nonzeros}
use Rattle.rinv_groebner.specs.Journal.Kind.{reduced, coprime, chain}
use Rattle.rinv_ring.specs.Operation.{RingOp, multiplies}
use Rattle.rinv_poly.specs.Faults.{polynomials_meet}
use Rattle.rinv_poly.specs.Combined.{TermMeets, DifferenceMeets, ProductsSumMeet}
use Rattle.rinv_div.specs.Stops.{Divides, StepsMeet}
use Rattle.rinv_buch.specs.Causes.{SPolynomialMeets}
use Rattle.rinv_buch.specs.Runs.{s_at}

-- whether an entry of this kind adds a rest
abbrev pub adds : Kind → Bool
adds (reduced (Some at)) = true
adds (reduced None) = false
adds coprime = false
adds (chain by) = false

-- the cofactor, in the list at place k, over the polynomial given at place m
abbrev pub cofactor : {E : Type 0} → List (List (Polynomial E)) → ℕ → ℕ → Polynomial E
cofactor lists k m = get_or (get_or lists k []) m []

-- the cofactors over that polynomial, in all lists
abbrev pub column : {E : Type 0} → List (List (Polynomial E)) → ℕ → List (Polynomial E)
column lists m = map (λ us. get_or us m []) lists

module _ {E : Type 0} (o : RingOps E) where
  -- one at a place, and zero at the others of n places
  abbrev pub unit : ℕ → ℕ → List (Polynomial E)
  unit n place = set (replicate n []) place ((poly_ops o).one)

  -- the places among the first n whose polynomials are not zero
  abbrev pub nonzero_places : List (Polynomial E) → ℕ → List ℕ
  nonzero_places fs n = filter (λ k. not (is_zero o (get_or fs k []))) (range_with_len 0 n)

  -- the unit lists of the polynomials that are not zero
  abbrev pub units : List (Polynomial E) → List (List (Polynomial E))
  units fs = map (unit (length fs)) (nonzero_places fs (length fs))

module _ {E : Type 0} (o : RingOps E) (cmp : List ℕ → List ℕ → Ordering) where
  -- the cofactor of the element at place i over the polynomial given at place m, multiplied as the element is in the S-polynomial with
  -- that at place j
  abbrev pub multiple : List (Polynomial E) → List (List (Polynomial E)) → ℕ → ℕ → ℕ → Polynomial E
  multiple list lists i j m = term_product o (multiplier o cmp (get_or list i []) (get_or list j [])) (cofactor lists i m)

  -- the two elements' cofactors, combined as the S-polynomial is of the elements
  abbrev pub of_pair : List (Polynomial E) → List (List (Polynomial E)) → ℕ → ℕ → ℕ → Polynomial E
  of_pair list lists i j m = difference o (multiple list lists i j m) (multiple list lists j i m)

  -- this less the quotients times the cofactors
  abbrev pub combined : List (Polynomial E) → List (List (Polynomial E)) → ℕ → ℕ → List (Polynomial E) → ℕ → Polynomial E
  combined list lists i j qs m = difference o (of_pair list lists i j m) (combination o qs (column lists m))

  -- us are n cofactors that are combined so, with the quotients of a division of the pair's S-polynomial that leaves this rest
  pub record AreCofactors (n : ℕ) (list : List (Polynomial E)) (lists : List (List (Polynomial E))) (i j : ℕ) (rest : Polynomial E) (us : List (Polynomial E)) : Type 0 where
    pub steps : List (Step E)
    pub quotients : List (Polynomial E)
    pub divides : Divides o cmp list (s_at o cmp list i j) quotients rest steps
    pub number : length us ≡ n
    pub each : (m : ℕ) → m < n → IsSame (poly_ops o) (get_or us m []) (combined list lists i j quotients m)

  -- the cofactors of the list that the journal makes: an element that was given has its unit list, an entry that adds nothing leaves the
  -- lists, and one that adds a rest appends the rest's
  pub data Combines (given : List (Polynomial E)) : List Entry → List (Polynomial E) → List (List (Polynomial E)) → Type 0 where
    begin : (list : List (Polynomial E)) (lists : List (List (Polynomial E))) → AreSame o list (nonzeros o given) → AllZip (AreSame o) lists (units o given) → Combines given [] list lists
    stay : (journal : List Entry) (list : List (Polynomial E)) (lists : List (List (Polynomial E))) (e : Entry)
        → Combines given journal list lists → IsEntry o cmp journal list e list → Combines given (journal ++ e ∷ []) list lists
    add : (journal : List Entry) (list : List (Polynomial E)) (lists : List (List (Polynomial E))) (e : Entry) (rest : Polynomial E) (us : List (Polynomial E))
        → Combines given journal list lists → IsEntry o cmp journal list e (list ++ rest ∷ []) → AreCofactors (length given) list lists e.first e.second rest us
        → Combines given (journal ++ e ∷ []) (list ++ rest ∷ []) (lists ++ us ∷ [])

-- qs are the quotients, as they are stored, of a division of the S-polynomial of the elements at two places
pub record AreQuotients {E : Type 0} (o : RingOps E) (is_element : E → Bool) (v : ℕ) (cmp : List ℕ → List ℕ → Ordering) (list : List (Polynomial E)) (i j : ℕ) (qs : List (Polynomial E)) : Type 0 where
  pub steps : List (Step E)
  pub rest : Polynomial E
  pub divides : Divides o cmp list (s_at o cmp list i j) qs rest steps
  pub stored : All (IsNormal o is_element v) qs

module _ {E : Type 0} (o : RingOps E) (is_element : E → Bool) (too_high : RingOp → E → E → ℕ → ℕ → Type 0) (v : ℕ) where
  -- left*a - right*b, less the products of the polynomials of two lists, may answer these degrees: in one of the products, in the sum of
  -- those of the lists, or in a difference
  pub data CombinedMeets (left a right b : Polynomial E) (qs cs : List (Polynomial E)) (x y : ℕ) : Type 0 where
    in_left : polynomials_meet o is_element too_high multiplies left a x y → CombinedMeets left a right b qs cs x y
    in_right : polynomials_meet o is_element too_high multiplies right b x y → CombinedMeets left a right b qs cs x y
    in_pair : DifferenceMeets o is_element too_high v (product o left a) (product o right b) x y → CombinedMeets left a right b qs cs x y
    in_sum : ProductsSumMeet o is_element too_high v qs cs x y → CombinedMeets left a right b qs cs x y
    in_difference : DifferenceMeets o is_element too_high v (difference o (product o left a) (product o right b)) (combination o qs cs) x y → CombinedMeets left a right b qs cs x y

  module _ (cmp : List ℕ → List ℕ → Ordering) where
    -- making the cofactors of a pair's rest may answer these degrees: in the S-polynomial, in its division, or at a place, in a multiple
    -- of a cofactor, in the sum of the quotients times the cofactors, or in a difference
    pub data RestMeets (list : List (Polynomial E)) (lists : List (List (Polynomial E))) (i j x y : ℕ) : Type 0 where
      in_s_polynomial : SPolynomialMeets o is_element too_high v cmp (get_or list i []) (get_or list j []) x y → RestMeets list lists i j x y
      in_division : StepsMeet o cmp list (s_at o cmp list i j) is_element too_high x y → RestMeets list lists i j x y
      in_first : (m : ℕ) → TermMeets o is_element too_high v (multiplier o cmp (get_or list i []) (get_or list j [])) (cofactor lists i m) x y → RestMeets list lists i j x y
      in_second : (m : ℕ) → TermMeets o is_element too_high v (multiplier o cmp (get_or list j []) (get_or list i [])) (cofactor lists j m) x y → RestMeets list lists i j x y
      in_pair : (m : ℕ) → DifferenceMeets o is_element too_high v (multiple o cmp list lists i j m) (multiple o cmp list lists j i m) x y → RestMeets list lists i j x y
      in_sum : (qs : List (Polynomial E)) → AreQuotients o is_element v cmp list i j qs → (m : ℕ) → ProductsSumMeet o is_element too_high v qs (column lists m) x y → RestMeets list lists i j x y
      in_difference : (qs : List (Polynomial E)) → AreQuotients o is_element v cmp list i j qs → (m : ℕ) → DifferenceMeets o is_element too_high v (of_pair o cmp list lists i j m) (combination o qs (column lists m)) x y → RestMeets list lists i j x y

    -- so it may at an entry that adds a rest, with the list and the cofactors, as they are stored, that the entries before it made
    pub record CombiningMeets (given : List (Polynomial E)) (journal : List Entry) (polys : List (Polynomial E)) (x y : ℕ) : Type 0 where
      pub before : List Entry
      pub entry : Entry
      pub after : List Entry
      pub entries : journal ≡ before ++ entry ∷ after
      pub list : List (Polynomial E)
      pub rest : Polynomial E
      pub more : List (Polynomial E)
      pub elements : polys ≡ list ++ rest ∷ more
      pub is_entry : IsEntry o cmp before list entry (list ++ rest ∷ [])
      pub lists : List (List (Polynomial E))
      pub combines : Combines o cmp given before list lists
      pub stored : All (All (IsNormal o is_element v)) lists
      pub meets : RestMeets list lists entry.first entry.second x y
