-- A certificate of generators that is accepted has numbers below 2^32, so what is written of it is read back.
--   small_poly           the numbers of a polynomial in the form in which it is stored
--   common_small, laws_small, basis_small    those of the keys
--   certificate_writable the whole
use Rattle.std.proofs.Common.{◌≡◌, ℕ, ◌+◌, ◌*◌, ◌<◌, ◌≤◌, ◌^◌, true, List, [], ◌∷◌, ◌++◌, length, Option, Some, None, refl, sym, ◌∙◌, ap, subst, arith}
use Rattle.std.specs.Prelude.{IsTrue, ◌&&◌, ◌==◌, nat_lt, nat_le, zip, not}
use Rattle.std.specs.List.{AllZip, list_all, AllByRecursion}
use Rattle.std.proofs.lemmas.Bool.Decides.{nat_tests}
use Rattle.std.proofs.lemmas.List.Sums.{sum_by-cons}
use Rattle.std.proofs.lemmas.Option.{none-some}
use Rattle.rinv_algebra.specs.Residue.{residue_ops, is_listed}
use Rattle.rinv_algebra.specs.Monomial.{total_degree, max_degree}
use Rattle.rinv_algebra.specs.Normal.{is_normal_term, descends}
use Rattle.rinv_algebra.specs.Polynomial.{Term}
use Rattle.rinv_algebra.proofs.Same.{both, and_true}
use Rattle.rinv_defs.specs.System.{System, Poly, group_count, space_count}
use Rattle.rinv_defs.specs.SystemForm.{is_good, are_good, is_nonzero}
use Rattle.rinv_defs.specs.Laws.{Law}
use Rattle.rinv_defs.specs.Invariant.{Fraction}
use Rattle.rinv_defs.specs.Certificate.{Certificate, Kind, invariance, sound, full, BasisItem, PairItem, by_coprime, by_chain, by_quotients, Tied, to_constant, to_generator, TailItem, RelationItem}
use Rattle.rinv_defs.specs.Format.{is_pair, is_pair_item, is_basis_item, is_exponents, is_tied, is_tail_item, is_relation_item, are_law_cofactors, laws_with_cofactors, common_parts, law_parts, basis_parts, parts_of_kind, first_false, format_failure}
use Rattle.rinv_defs.specs.Accepted.{conditions_of, first_failing, first_failure, IsAccepted}
use Rattle.rinv_defs.proofs.Tests.{list_all-implies, parts_true, first_false-append, first_false-append_right}
use Rattle.rinv_json.specs.Ranges.{is_small, are_small, is_small_poly, are_small_polys, is_small_tied, is_small_pair, is_small_tail, is_small_relation, HaveSmallCommon, HaveSmallLaws, HaveSmallBasis, HaveNoBasis, IsWritable}
use Rattle.rinv_generators.specs.Generated.{Generated}
use Rattle.rinv_certification.specs.Made.{IsBasisItemOf, IsCertificateOf}

-- ---- numbers

small_number : (n : ℕ) → n < 2 ^ 32 → is_small n ≡ true
small_number n h = grind (arith, nat_tests, h)

low_modulus : (p : ℕ) → is_listed p ≡ true → p < 2 ^ 32
low_modulus p h = grind (arith, nat_tests, h)

small_residue : (p c : ℕ) → is_listed p ≡ true → nat_lt c p ≡ true → is_small c ≡ true
small_residue p c listed h = let low = low_modulus p listed in small_number c (grind (arith, nat_tests, low, h))

small_exponents : (a : List ℕ) → total_degree a ≤ max_degree → are_small a ≡ true
small_exponents [] h = refl
small_exponents (x ∷ a) h =
    let e = sum_by-cons (λ (y : ℕ). y) x a in
    and_true (is_small x) (are_small a) (small_number x (omega (arith, e, h))) (small_exponents a (omega (arith, e, h)))

low_degree : (a : List ℕ) → nat_le (total_degree a) max_degree ≡ true → total_degree a ≤ max_degree
low_degree a h = grind (arith, nat_tests, h)

-- ---- polynomials

module _ (s : System) (listed : is_listed s.p ≡ true) where
  small_term : (v : ℕ) (t : Term ℕ) → is_normal_term (residue_ops s.p) (λ c. nat_lt c s.p) v t ≡ true → (is_small t.1 && are_small t.0) ≡ true
  small_term v t h =
      let a = both (nat_lt t.1 s.p && not ((residue_ops s.p).same t.1 (residue_ops s.p).zero) && length t.0 == v) (nat_le (total_degree t.0) max_degree) h in
      let b = both (nat_lt t.1 s.p && not ((residue_ops s.p).same t.1 (residue_ops s.p).zero)) (length t.0 == v) a.0 in
      let c = both (nat_lt t.1 s.p) (not ((residue_ops s.p).same t.1 (residue_ops s.p).zero)) b.0 in
      and_true (is_small t.1) (are_small t.0) (small_residue s.p t.1 listed c.0) (small_exponents t.0 (low_degree t.0 a.1))

  -- the numbers of a polynomial in the form in which it is stored
  pub small_poly : (v : ℕ) (f : Poly) → is_good s v f ≡ true → is_small_poly f ≡ true
  small_poly v f h = list_all-implies (is_normal_term (residue_ops s.p) (λ c. nat_lt c s.p) v) (λ t. is_small t.1 && are_small t.0) (small_term v) f (both (list_all (is_normal_term (residue_ops s.p) (λ c. nat_lt c s.p) v) f) (descends f) h).0

  small_all : (v : ℕ) (fs : List Poly) → list_all (is_good s v) fs ≡ true → are_small_polys fs ≡ true
  small_all v fs h = list_all-implies (is_good s v) is_small_poly (small_poly v) fs h

  small_list : (count v : ℕ) (fs : List Poly) → are_good s count v fs ≡ true → are_small_polys fs ≡ true
  small_list count v fs h = small_all v fs (both (length fs == count) (list_all (is_good s v) fs) h).1

  small_nonzero : (v : ℕ) (f : Poly) → is_nonzero s v f ≡ true → is_small_poly f ≡ true
  small_nonzero v f h = small_poly v f (both (is_good s v f) _ h).0

  small_lists : (count v : ℕ) (lists : List (List Poly)) → list_all (are_good s count v) lists ≡ true → list_all are_small_polys lists ≡ true
  small_lists count v lists h = list_all-implies (are_good s count v) are_small_polys (small_list count v) lists h

  -- ---- items

  small_fraction : (f : Fraction) → (is_good s (space_count s) f.0 && is_nonzero s (space_count s) f.1) ≡ true → (is_small_poly f.0 && is_small_poly f.1) ≡ true
  small_fraction f h =
      let a = both (is_good s (space_count s) f.0) (is_nonzero s (space_count s) f.1) h in
      and_true _ _ (small_poly (space_count s) f.0 a.0) (small_nonzero (space_count s) f.1 a.1)

  small_laws : (laws : List Law) (lists : List (List (List Poly))) → length lists ≡ length laws → list_all (are_law_cofactors s) (zip laws lists) ≡ true → list_all (λ arrays. list_all are_small_polys arrays) lists ≡ true
  small_laws [] [] n h = refl
  small_laws [] (x ∷ lists) n h = absurd (omega (arith, n))
  small_laws (law ∷ laws) [] n h = absurd (omega (arith, n))
  small_laws (law ∷ laws) (x ∷ lists) n h =
      let a = both (are_law_cofactors s (law, x)) (list_all (are_law_cofactors s) (zip laws lists)) h in
      and_true (list_all are_small_polys x) (list_all (λ arrays. list_all are_small_polys arrays) lists) (small_lists _ _ x (both _ _ a.0).1) (small_laws laws lists (omega (arith, n)) a.1)

  small_basis_item : (b : BasisItem) → is_basis_item s b ≡ true → (is_small_poly b.h && are_small_polys b.cofactors) ≡ true
  small_basis_item b h = let a = both _ _ h in and_true _ _ (small_nonzero _ b.h a.0) (small_list _ _ b.cofactors a.1)

  module _ (b : ℕ) (few : b < 2 ^ 32) where
    small_places : (i j : ℕ) → is_pair b i j ≡ true → (is_small i ≡ true) × (is_small j ≡ true)
    small_places i j h =
        let a = both (nat_le 1 i && nat_lt i j) (nat_le j b) h in
        let c = both (nat_le 1 i) (nat_lt i j) a.0 in
        let last = a.1 in
        let between = c.1 in
        (small_number i (grind (arith, nat_tests, few, last, between)), small_number j (grind (arith, nat_tests, few, last)))

    small_pair : (e : PairItem) → is_pair_item s b e ≡ true → is_small_pair e ≡ true
    small_pair (by_coprime i j) h = let p = small_places i j h in and_true _ _ p.0 p.1
    small_pair (by_chain i j k) h =
        let a = both (is_pair b i j && (nat_le 1 k && nat_le k b) && not (k == i)) (not (k == j)) h in
        let c = both (is_pair b i j && (nat_le 1 k && nat_le k b)) (not (k == i)) a.0 in
        let d = both (is_pair b i j) (nat_le 1 k && nat_le k b) c.0 in
        let p = small_places i j d.0 in
        let last = (both (nat_le 1 k) (nat_le k b) d.1).1 in
        and_true _ _ (and_true _ _ p.0 p.1) (small_number k (grind (arith, nat_tests, few, last)))
    small_pair (by_quotients i j q) h =
        let a = both (is_pair b i j) (are_good s b (group_count s + 2 * space_count s) q) h in
        let p = small_places i j a.0 in
        and_true _ _ (and_true _ _ p.0 p.1) (small_list b _ q a.1)

  module _ (fs : List Fraction) (few : length fs < 2 ^ 32) where
    small_tied : (t : Tied) → is_tied s fs t ≡ true → is_small_tied t ≡ true
    small_tied (to_constant v) h = small_residue s.p v listed h
    small_tied (to_generator k) h = let last = (both (nat_le 1 k) (nat_le k (length fs)) h).1 in small_number k (grind (arith, nat_tests, few, last))

    small_tail : (t : TailItem) → is_tail_item s fs t ≡ true → is_small_tail t ≡ true
    small_tail t h =
        let a = both (is_exponents s t.alpha && is_good s (space_count s) t.c) (is_tied s fs t.tied) h in
        let c = both (is_exponents s t.alpha) (is_good s (space_count s) t.c) a.0 in
        and_true _ _ (and_true _ _ (small_exponents t.alpha (low_degree t.alpha (both _ _ c.0).1)) (small_poly _ t.c c.1)) (small_tied t.tied a.1)

    small_relation : (r : RelationItem) → is_relation_item s fs r ≡ true → is_small_relation r ≡ true
    small_relation r h =
        let a = both _ (are_good s (length s.ideal) (group_count s + space_count s) r.cofactors) h in
        let b = both (is_exponents s r.a && is_nonzero s (space_count s) r.d && list_all (is_tail_item s fs) r.tail) _ a.0 in
        let c = both (is_exponents s r.a && is_nonzero s (space_count s) r.d) (list_all (is_tail_item s fs) r.tail) b.0 in
        let d = both (is_exponents s r.a) (is_nonzero s (space_count s) r.d) c.0 in
        and_true _ _ (and_true _ _ (and_true _ _ (small_exponents r.a (low_degree r.a (both _ _ d.0).1)) (small_nonzero _ r.d d.1)) (list_all-implies (is_tail_item s fs) is_small_tail small_tail r.tail c.1)) (small_list _ _ r.cofactors a.1)

-- ---- keys

-- the numbers of the system, the fractions and their cofactors
pub common_small : (c : Certificate) → c.system.section ≡ [] → AllByRecursion (λ p. IsTrue p.1) (common_parts c) → HaveSmallCommon c
common_small c none (p3, (p4, (p5, (p6, (p7, (p8, (p9, (p10, (p11, (p12, e)))))))))) =
    let s = c.system in
    record {
      p = small_number s.p (low_modulus s.p p3);
      ideal = small_all s p3 _ s.ideal (both _ _ p6).1;
      unit = list_all-implies (λ x. nat_lt x s.p) is_small (λ x h. small_residue s.p x p3 h) s.unit (both _ _ p7).1;
      product = small_list s p3 _ _ s.product p8;
      inverse = small_list s p3 _ _ s.inverse p9;
      action = small_list s p3 _ _ s.action p10;
      section = none;
      fractions = list_all-implies (λ f. is_good s (space_count s) f.0 && is_nonzero s (space_count s) f.1) (λ f. is_small_poly f.0 && is_small_poly f.1) (small_fraction s p3) c.fractions p11;
      invariance = small_lists s p3 _ _ c.invariance (both _ _ p12).1;
    }

-- those of the laws' cofactors
pub laws_small : (c : Certificate) → is_listed c.system.p ≡ true → AllByRecursion (λ p. IsTrue p.1) (law_parts c) → HaveSmallLaws c
laws_small c listed (p13, e) =
    let a = both (length c.laws == length laws_with_cofactors) _ p13 in
    let six : length c.laws ≡ 6 = let h = a.0 in grind (arith, nat_tests, h) in
    record { number = six; laws = small_laws c.system listed laws_with_cofactors c.laws six a.1 }

-- those of the basis, the inputs, the pairs and the relations
pub basis_small : (c : Certificate) → is_listed c.system.p ≡ true → length c.basis < 2 ^ 32 → length c.fractions < 2 ^ 32 → AllByRecursion (λ p. IsTrue p.1) (basis_parts c) → HaveSmallBasis c
basis_small c listed elements fractions (p14, (p15, (p16, (p17, e)))) =
    let s = c.system in
    record {
      basis = list_all-implies (is_basis_item s) (λ b. is_small_poly b.h && are_small_polys b.cofactors) (small_basis_item s listed) c.basis p14;
      inputs = small_lists s listed _ _ c.inputs (both _ _ p15).1;
      pairs = list_all-implies (is_pair_item s (length c.basis)) is_small_pair (small_pair s listed (length c.basis) elements) c.pairs p16;
      relations = list_all-implies (is_relation_item s c.fractions) is_small_relation (small_relation s listed c.fractions fractions) c.relations p17;
    }

-- ---- the whole

first_none : (k : ℕ) (o : Option ℕ) (rest : List (ℕ × Option ℕ)) → first_failing ((k, o) ∷ rest) ≡ None → o ≡ None
unfolding first_failing
first_none k None rest e = refl
first_none k (Some i) rest e = absurd (none-some _ (sym e))

well_formed : (c : Certificate) → IsAccepted c → format_failure c ≡ None
unfolding first_failure
well_formed c accepted = go c.kind accepted
  where
    go : (k : Kind) → first_failing (conditions_of k c) ≡ None → format_failure c ≡ None
    go invariance e = first_none 1 (format_failure c) _ e
    go sound e = first_none 1 (format_failure c) _ e
    go full e = first_none 1 (format_failure c) _ e

listed_of : (c : Certificate) → AllByRecursion (λ p. IsTrue p.1) (common_parts c) → is_listed c.system.p ≡ true
listed_of c (p3, rest) = p3

sound_writable : (c : Certificate) → c.kind ≡ sound → c.system.section ≡ [] → HaveNoBasis c → IsAccepted c → IsWritable c
unfolding format_failure
sound_writable c kind none empty accepted =
    let form : first_false (common_parts c ++ law_parts c) ≡ None = subst (λ k. first_false (parts_of_kind k c) ≡ None) kind (well_formed c accepted) in
    let common = parts_true (common_parts c) (first_false-append (common_parts c) (law_parts c) form) in
    IsWritable.is_sound kind (common_small c none common) (laws_small c (listed_of c common) (parts_true (law_parts c) (first_false-append_right (common_parts c) (law_parts c) form))) empty

full_writable : (c : Certificate) → c.kind ≡ full → c.system.section ≡ [] → IsAccepted c → length c.basis < 2 ^ 32 → length c.fractions < 2 ^ 32 → IsWritable c
unfolding format_failure
full_writable c kind none accepted elements fractions =
    let form : first_false (common_parts c ++ law_parts c ++ basis_parts c) ≡ None = subst (λ k. first_false (parts_of_kind k c) ≡ None) kind (well_formed c accepted) in
    let front = first_false-append (common_parts c ++ law_parts c) (basis_parts c) form in
    let common = parts_true (common_parts c) (first_false-append (common_parts c) (law_parts c) front) in
    IsWritable.is_full kind (common_small c none common) (laws_small c (listed_of c common) (parts_true (law_parts c) (first_false-append_right (common_parts c) (law_parts c) front)))
    (basis_small c (listed_of c common) elements fractions (parts_true (basis_parts c) (first_false-append_right (common_parts c ++ law_parts c) (basis_parts c) form)))

-- a certificate of few elements and generators that is accepted can be written
pub certificate_writable : (g : Generated) (c : Certificate) → IsCertificateOf g c → IsAccepted c → length g.action.polys < 2 ^ 32 → length g.fractions < 2 ^ 32 → IsWritable c
certificate_writable g c (IsCertificateOf.is_full none kind common basis) accepted elements fractions =
    full_writable c kind (ap (λ (s : System). s.section) common.system) accepted (subst (λ (n : ℕ). n < 2 ^ 32) (as_many g.action.polys c.basis basis.basis) elements) (subst (λ (fs : List Fraction). length fs < 2 ^ 32) (sym common.fractions) fractions)
  where
    as_many : (hs : List Poly) (bs : List BasisItem) → AllZip (IsBasisItemOf g.told.system g.group) hs bs → length hs ≡ length bs
    as_many [] [] z = refl
    as_many [] (b ∷ bs) z = absurd z
    as_many (h ∷ hs) [] z = absurd z
    as_many (h ∷ hs) (b ∷ bs) z = let e = as_many hs bs z.1 in omega (arith, e)
certificate_writable g c (IsCertificateOf.is_sound some kind common nothing) accepted elements fractions =
    sound_writable c kind (ap (λ (s : System). s.section) common.system) (record { basis = nothing.basis; inputs = nothing.inputs; pairs = nothing.pairs; relations = nothing.relations }) accepted
