-- The proofs of the laws, from the cofactors of the kept elements and the quotients of the parts.
--   chosen-keep          lists at the places of the kept elements are their cofactors
--   stops-weaker, rank-inside    a stop by more degrees; places of laws
--   all-viewed           what all have, seen in another way
--   quotients-number, all-many    a part has as many quotients as there are lists in all copies
--   law-proved           the cofactors over the copies prove the law
--   copies-making, making-meets    the degrees that are met
use Rattle.std.proofs.Common.{◌≡◌, ℕ, ◌+◌, ◌*◌, ◌<◌, List, [], ◌∷◌, length, get_or, map, All, IsTrue, sym, ◌∙◌, ap, subst, arith}
use Rattle.std.specs.List.{range_with_len, AllZip}
use Rattle.std.proofs.lemmas.List.{length-map}
use Rattle.std.proofs.lemmas.List.Elements.{length_all_zip, All-nil, All-cons, All-head, All-tail, All-map, All-weaker, All-get_or, All-from_get_or}
use Rattle.std.proofs.lemmas.List.FromFn.{length-range_with_len}
use Rattle.rinv_algebra.specs.Ring.{RingOps, IsSame}
use Rattle.rinv_algebra.specs.Residue.{residue_ops}
use Rattle.rinv_algebra.specs.Order.{grevlex}
use Rattle.rinv_algebra.specs.Polynomial.{Polynomial, poly_ops, is_zero}
use Rattle.rinv_algebra.specs.Ideal.{combination}
use Rattle.rinv_algebra.specs.Leading.{leading_monomial}
use Rattle.rinv_algebra.proofs.PolynomialLaws.{poly_laws}
use Rattle.rinv_algebra.proofs.ResidueLaws.{residue_laws}
use Rattle.rinv_algebra.proofs.RingFacts as facts
use Rattle.rinv_groebner.specs.Division.{AreSame, quotients, quotient_at}
use Rattle.rinv_groebner.specs.Reduced.{kept as kept_of}
use Rattle.rinv_div.proofs.Summed.{identity}
use Rattle.rinv_poly.specs.Faults.{MonomialsMeet}
use Rattle.rinv_buch.specs.Kinds.{Found}
use Rattle.rinv_buch.specs.Reducing.{kept_places}
use Rattle.rinv_cofactors.specs.Combining.{Combines, cofactor}
use Rattle.rinv_cofactors.proofs.CombinedSums.{combination-right}
use Rattle.rinv_defs.specs.System.{System, Poly, group_count, ideal_copies}
use Rattle.rinv_defs.specs.Laws.{Law, copies}
use Rattle.rinv_laws.specs.declared.stop.LawStop.{LawStop}
use Rattle.rinv_laws.specs.declared.stop.LawStop.TheVariants.{Fault, Degree, NoMemory}
use Rattle.rinv_parts.specs.LawNames.{rank, variables_of}
use Rattle.rinv_parts.specs.Points.{ArePolynomials}
use Rattle.rinv_parts.specs.Parts.{part_at}
use Rattle.rinv_laws.specs.Copied.{AreQuotients, DividesPart, kept_copies}
use Rattle.rinv_laws.specs.Faults.{LawStopsSo}
use Rattle.rinv_laws.specs.Proofs.{AreInCopies, AreMadeOf, CofactorMeets, CopiesMeet, KeepCofactors, MakingMeets, chosen, ProvesLaw, ProvesPart, in_copy, kept_elements}
use Rattle.rinv_laws.proofs.NestedCombinations.{copies-combination, copies-length}
use Rattle.rinv_laws.proofs.CopiedCofactors.{cofactor-past, entries-same, quotient-of}

-- ---- the kept elements

chosen-sums : {E : Type 0} (o : RingOps E) (fs polys : List (Polynomial E)) (all : List (List (Polynomial E))) → ((k : ℕ) → k < length polys → IsSame (poly_ops o) (get_or polys k []) (combination o (get_or all k []) fs))
    → (places : List ℕ) → All (λ k. k < length polys) places → AreSame o (map (λ k. get_or polys k []) places) (map (λ us. combination o us fs) (map (λ k. get_or all k []) places))
chosen-sums o fs polys all sums [] inside = tt
chosen-sums o fs polys all sums (k ∷ places) inside = (sums k (All-head (λ k. k < length polys) k places inside), chosen-sums o fs polys all sums places (All-tail (λ k. k < length polys) k places inside))

-- what the two calls answer, in their ring and for their polynomials
pub record AreCombined (found : Found ℕ) (all : List (List Poly)) (places : List ℕ) (p v : ℕ) (fs : List Poly) : Type 0 where
  pub number : length all ≡ length found.polys
  pub lengths : All (λ us. length us ≡ length fs) all
  pub normal : All (ArePolynomials p v) all
  pub sums_up : (k : ℕ) → k < length found.polys → IsSame (poly_ops (residue_ops p)) (get_or found.polys k []) (combination (residue_ops p) (get_or all k []) fs)
  pub rule : Combines (residue_ops p) grevlex fs found.journal found.polys all
  pub places_are : places ≡ kept_places (map (leading_monomial (residue_ops p) grevlex) found.polys)
  pub inside : All (λ k. k < length found.polys) places
  pub kept : map (λ k. get_or found.polys k []) places ≡ kept_of (residue_ops p) grevlex found.polys

pub chosen-all : {X : Type 0} (P : X → Type 0) (d : X) (all : List X) (n : ℕ) (places : List ℕ) → length all ≡ n → All P all → All (λ k. k < n) places → All P (map (λ k. get_or all k d) places)
chosen-all P d all n places long h inside = All-map P (λ k. get_or all k d) places (All-weaker (λ k. k < n) (λ k. P (get_or all k d)) (λ k low. All-get_or P all k d (omega (arith, low, long)) h) places inside)

pub chosen-keep : (s : System) (found : Found ℕ) (all : List (List Poly)) (places : List ℕ) (p v : ℕ) (fs : List Poly) → p ≡ s.p → v ≡ group_count s → fs ≡ s.ideal → AreCombined found all places p v fs
    → KeepCofactors s found (chosen all places)
chosen-keep s found all places p v fs a b c made =
    let own : AreCombined found all places s.p (group_count s) s.ideal =
    subst (λ (q : ℕ). AreCombined found all places q (group_count s) s.ideal) a (subst (λ (w : ℕ). AreCombined found all places p w s.ideal) b (subst (AreCombined found all places p v) c made)) in
    record {
      kept = record { all = all; combines = own.rule; kept = ap (λ (ks : List ℕ). map (λ k. get_or all k []) ks) own.places_are };
      lengths = chosen-all (λ us. length us ≡ length s.ideal) [] all (length found.polys) places own.number own.lengths own.inside;
      normal = chosen-all (ArePolynomials s.p (group_count s)) [] all (length found.polys) places own.number own.normal own.inside;
      sums_up = subst (λ (hs : List Poly). AreSame (residue_ops s.p) hs (map (λ us. combination (residue_ops s.p) us s.ideal) (map (λ k. get_or all k []) places))) own.kept
          (chosen-sums (residue_ops s.p) s.ideal found.polys all own.sums_up places own.inside);
    }

-- a stop by more degrees
pub stops-weaker : (s : System) (P Q : ℕ → ℕ → Type 0) → ((x y : ℕ) → P x y → Q x y) → (e : LawStop) → LawStopsSo s P e → LawStopsSo s Q e
stops-weaker s P Q more (Fault f) h = h
stops-weaker s P Q more (Degree x y) h = more x y h
stops-weaker s P Q more NoMemory h = h

-- each law has a place among the eight
pub rank-inside : (law : Law) → rank law < 8
rank-inside Law.L1 = omega arith
rank-inside Law.L2 = omega arith
rank-inside Law.L3 = omega arith
rank-inside Law.L4 = omega arith
rank-inside Law.L5 = omega arith
rank-inside Law.L6 = omega arith
rank-inside Law.A1 = omega arith
rank-inside Law.A2 = omega arith

-- what all have, seen in another way
pub all-viewed : {X Y : Type 0} (P : Y → Type 0) (f : X → Y) (xs : List X) → All P (map f xs) → All (λ x. P (f x)) xs
all-viewed P f [] h = All-nil (λ x. P (f x))
all-viewed P f (x ∷ xs) h = All-cons (λ x. P (f x)) x xs (All-head P (f x) (map f xs) h) (all-viewed P f xs (All-tail P (f x) (map f xs) h))

-- ---- a law

module _ (s : System) (law : Law) (lists : List (List Poly)) where
  -- a product with a cofactor of a copy that was made
  pub copies-making : (F : ℕ → List (List Poly)) → ((j : ℕ) → j < copies law → AllZip (AreSame (residue_ops s.p)) (F j) (in_copy s j lists)) → (quotients : List (List Poly)) (k : ℕ) → k < length quotients → (qs : List Poly) → qs ≡ get_or quotients k []
      → (x y : ℕ) → CopiesMeet s.p (copies law) (length lists) F qs x y → MakingMeets s law lists quotients x y
  copies-making F same quotients k low qs at x y m =
      let i = m.products.element in
      let g = m.products.given in
      let of_all = quotient-of s.p (length lists) m.copy i qs (cofactor (F m.copy) i g) x y m.products.meets in
      record {
        k = k;
        inside = low;
        copy = m.copy;
        inside_copies = m.inside;
        element = i;
        inside_lists = of_all.0;
        given = g;
        f = cofactor (F m.copy) i g;
        is_cofactor = subst (IsSame (poly_ops (residue_ops s.p)) (cofactor (F m.copy) i g)) (cofactor-past (m.copy * group_count s) lists i g)
            (entries-same (residue_ops s.p) (residue_laws s.p) (F m.copy) (in_copy s m.copy lists) (same m.copy m.inside) i g);
        meets = subst (λ (rs : List Poly). MonomialsMeet (residue_ops s.p) (get_or rs (m.copy * length lists + i) []) (cofactor (F m.copy) i g) x y) at of_all.1;
      }

  module _ (found : Found ℕ) (keep : KeepCofactors s found lists) where
    kept-number : length (kept_elements s found) ≡ length lists
    kept-number = length_all_zip (IsSame (poly_ops (residue_ops s.p))) (kept_elements s found) (map (λ us. combination (residue_ops s.p) us s.ideal) lists) keep.sums_up ∙ length-map lists (λ us. combination (residue_ops s.p) us s.ideal)

    -- a part has as many quotients as there are lists in all copies
    pub quotients-number : (k : ℕ) (qs : List Poly) (rest : Poly) → DividesPart s found law k qs rest → length qs ≡ copies law * length lists
    quotients-number k qs rest d =
        length_all_zip (IsSame (poly_ops (residue_ops s.p))) qs (quotients (length d.hs) d.steps) d.divides.quotients
        ∙ length-map (range_with_len 0 (length d.hs)) (quotient_at d.steps) ∙ length-range_with_len 0 (length d.hs)
        ∙ length_all_zip (IsSame (poly_ops (residue_ops s.p))) d.hs (kept_copies s found (copies law)) d.asked.basis
        ∙ copies-length (copies law) (group_count s) (kept_elements s found) ∙ ap (λ (n : ℕ). copies law * n) kept-number

    pub all-many : (quotients : List (List Poly)) → AreQuotients s found law quotients → All (λ qs. length qs ≡ copies law * length lists) quotients
    all-many quotients q = All-from_get_or (λ qs. length qs ≡ copies law * length lists) quotients [] (λ k low. let (rest, d, nothing) = q.each k low in quotients-number k (get_or quotients k []) rest d)

    -- the cofactors over the copies prove a part
    part-proved : (k : ℕ) (qs us : List Poly) (rest : Poly) → DividesPart s found law k qs rest → IsTrue (is_zero (residue_ops s.p) rest)
        → AreInCopies s.p (variables_of s law) (copies law) (length s.ideal) (length lists) (λ j. in_copy s j lists) qs us → ProvesPart s found law k us
    part-proved k qs us rest d nothing h = record {
      number = h.number ∙ sym (copies-length (copies law) (group_count s) s.ideal);
      normal = h.normal;
      sums_up = sums;
      lists = lists;
      kept = keep.kept;
      quotients = qs;
      rest = rest;
      divides = d;
      rule = h.rule;
    }
      where
        sums : IsSame (poly_ops (residue_ops s.p)) (part_at s law k) (combination (residue_ops s.p) us (ideal_copies s (copies law)))
        sums =
            let o = residue_ops s.p in
            let l = residue_laws s.p in
            let laws = poly_laws o l in
            let whole = combination o qs d.hs in
            facts.then (poly_ops o) laws (laws.same_sym _ _ d.asked.part)
            (facts.then (poly_ops o) laws (identity o l grevlex d.hs qs d.f rest d.steps d.divides)
            (facts.then (poly_ops o) laws (facts.add2 (poly_ops o) laws (laws.same_refl whole) nothing)
            (facts.then (poly_ops o) laws (laws.add_zero whole)
            (facts.then (poly_ops o) laws (combination-right o l qs d.hs (kept_copies s found (copies law)) d.asked.basis)
            (laws.same_sym _ _ (copies-combination o l (copies law) (group_count s) s.ideal (kept_elements s found) us qs lists keep.sums_up h.rule))))))

    -- and the law
    pub law-proved : (quotients arrays : List (List Poly)) → AreQuotients s found law quotients → AreMadeOf s law lists quotients arrays → ProvesLaw s found law arrays
    law-proved quotients arrays q h = record {
      number = h.number ∙ q.number;
      each = λ k low. let (rest, d, nothing) = q.each k (omega (arith, low, h.number)) in part-proved k (get_or quotients k []) (get_or arrays k []) rest d nothing (h.each k low);
    }

    pub making-meets : (quotients : List (List Poly)) → AreQuotients s found law quotients → (x y : ℕ) → MakingMeets s law lists quotients x y → CofactorMeets s found x y
    making-meets quotients q x y m =
        let (rest, d, nothing) = q.each m.k m.inside in
        record {
          law = law;
          k = m.k;
          inside = omega (arith, m.inside, q.number);
          quotients = get_or quotients m.k [];
          rest = rest;
          divides = d;
          lists = lists;
          kept = keep.kept;
          copy = m.copy;
          inside_copies = m.inside_copies;
          element = m.element;
          inside_lists = m.inside_lists;
          given = m.given;
          f = m.f;
          is_cofactor = m.is_cofactor;
          meets = m.meets;
        }
