-- Each product that the conditions of a certificate of generators multiply fits, where those of its parts do.
--   rows-fit             the rows of the inputs times the basis
--   sound-multiplies, full-multiplies    the whole, of either kind
use Rattle.std.proofs.Common.{◌≡◌, ℕ, zero, suc, ◌+◌, ◌*◌, ◌≤◌, Bool, true, false, List, [], ◌∷◌, ◌++◌, length, map, get_or, replicate, take, cond, refl, sym, subst, arith}
use Rattle.std.specs.Prelude.{All, ◌&&◌, ◌==◌, not, nat_lt, nat_le, zip, sum}
use Rattle.std.specs.List.{list_all, range_with_len}
use Rattle.std.proofs.lemmas.Bool.Decides.{nat_tests}
use Rattle.std.proofs.lemmas.List.Elements.{All-head, All-tail, All-nil, All-cons}
use Rattle.std.proofs.lemmas.List.Sums.{sum_by-cons}
use Rattle.rinv_algebra.specs.Residue.{residue_ops}
use Rattle.rinv_algebra.specs.Monomial.{total_degree, max_degree}
use Rattle.rinv_algebra.specs.Polynomial.{is_zero}
use Rattle.rinv_algebra.specs.Fits.{product_fits, combination_fits}
use Rattle.rinv_algebra.specs.Normal.{is_normal_term, descends}
use Rattle.rinv_algebra.proofs.Same.{both, and_true}
use Rattle.rinv_groebner.specs.Journal.{nonzeros}
use Rattle.rinv_defs.specs.System.{System, Poly, group_count, space_count}
use Rattle.rinv_defs.specs.SystemForm.{is_good}
use Rattle.rinv_defs.specs.Invariant.{Fraction}
use Rattle.rinv_defs.specs.Extended.{graph}
use Rattle.rinv_defs.specs.Certificate.{Certificate, Kind, sound, full}
use Rattle.rinv_defs.specs.Conditions.{elements}
use Rattle.rinv_acceptance.specs.Fits.{all_multiply, all_multiply_of, at_graph_multiplies, change_multiplies}
use Rattle.rinv_acceptance.specs.Inputs.{stored_one, unit_row, input_row, input_rows}
use Rattle.rinv_fits.proofs.Greatest.{fits-by_degrees, fits-empty}
use Rattle.rinv_recording.specs.Recorded.{PairsFit}
use Rattle.rinv_generators.specs.Generated.{Generated, IsGenerators}
use Rattle.rinv_certification.specs.Made.{HasCommonPart, HasBasisPart}
use Rattle.rinv_certify.specs.Parts.{LawsFit, ChangesFit, BasisFits, RelationsFit}
use Rattle.rinv_certification.proofs.FullParts.{elements_of}

-- ---- the inputs

zeros-total : (n : ℕ) → sum (replicate n 0) ≡ 0
zeros-total zero = refl
zeros-total (suc n) = let e = sum_by-cons (λ (y : ℕ). y) 0 (replicate n 0) in let i = zeros-total n in omega (arith, e, i)

-- no degree of a term is above the limit
abbrev IsLow : Poly → Type 0
IsLow h = All (λ t. total_degree t.0 ≤ max_degree) h

-- the terms of a polynomial in the form in which it is stored
pub low-terms : (s : System) (v : ℕ) (f : Poly) → is_good s v f ≡ true → IsLow f
low-terms s v f good = go f (both (list_all (is_normal_term (residue_ops s.p) (λ c. nat_lt c s.p) v) f) (descends f) good).0
  where
    go : (f : Poly) → list_all (is_normal_term (residue_ops s.p) (λ c. nat_lt c s.p) v) f ≡ true → IsLow f
    go [] h = All-nil (λ t. total_degree t.0 ≤ max_degree)
    go (t ∷ f) h =
        let a = both (is_normal_term (residue_ops s.p) (λ c. nat_lt c s.p) v t) (list_all (is_normal_term (residue_ops s.p) (λ c. nat_lt c s.p) v) f) h in
        let last = (both (nat_lt t.1 s.p && not ((residue_ops s.p).same t.1 (residue_ops s.p).zero) && length t.0 == v) (nat_le (total_degree t.0) max_degree) a.0).1 in
        All-cons (λ t. total_degree t.0 ≤ max_degree) t f (grind (arith, nat_tests, last)) (go f a.1)

module _ (s : System) where
  zero-times : (h : Poly) → product_fits (residue_ops s.p) [] h ≡ true
  zero-times h = fits-empty s.p 0 [] h refl

  one-times : (h : Poly) → IsLow h → product_fits (residue_ops s.p) (stored_one s) h ≡ true
  one-times h low = fits-by_degrees s.p 0 (stored_one s) h 0 max_degree (All-cons (λ t. total_degree t.0 ≤ 0) (replicate (group_count s + 2 * space_count s) 0, 1) [] (let e = zeros-total (group_count s + 2 * space_count s) in omega (arith, e)) (All-nil (λ t. total_degree t.0 ≤ 0))) low (omega arith)

  zeros-fit : (hs : List Poly) → combination_fits (residue_ops s.p) (replicate (length hs) []) hs ≡ true
  unfolding combination_fits
  zeros-fit [] = refl
  zeros-fit (h ∷ hs) = and_true _ _ (zero-times h) (zeros-fit hs)

  unit-fits : (hs : List Poly) (k : ℕ) → All IsLow hs → combination_fits (residue_ops s.p) (unit_row s (length hs) k) hs ≡ true
  unfolding combination_fits
  unit-fits [] k low = refl
  unit-fits (h ∷ hs) zero low = and_true _ _ (one-times h (All-head IsLow h hs low)) (zeros-fit hs)
  unit-fits (h ∷ hs) (suc k) low = and_true _ _ (zero-times h) (unit-fits hs k (All-tail IsLow h hs low))

  row-fits : (given hs : List Poly) (k : ℕ) → All IsLow hs → combination_fits (residue_ops s.p) (input_row s (length hs) given k) hs ≡ true
  row-fits given hs k low = go (is_zero (residue_ops s.p) (get_or given k []))
    where
      go : (b : Bool) → combination_fits (residue_ops s.p) (cond b (replicate (length hs) []) (unit_row s (length hs) (length (nonzeros (residue_ops s.p) (take k given))))) hs ≡ true
      go true = zeros-fit hs
      go false = unit-fits hs _ low

  -- the rows of the inputs times the basis
  pub rows-fit : (given hs : List Poly) → All IsLow hs → list_all (λ row. combination_fits (residue_ops s.p) row hs) (input_rows s (length hs) given) ≡ true
  rows-fit given hs low = go (range_with_len 0 (length given))
    where
      go : (ks : List ℕ) → list_all (λ row. combination_fits (residue_ops s.p) row hs) (map (input_row s (length hs) given) ks) ≡ true
      go [] = refl
      go (k ∷ ks) = and_true _ _ (row-fits given hs k low) (go ks)

-- ---- the whole

module _ (g : Generated) (gens : IsGenerators g) (c : Certificate) (common : HasCommonPart g c) (laws : LawsFit g) (changes : ChangesFit g) where
  abbrev without : System
  without = record g.told.system { section = [] }

  changes-fit : list_all (change_multiplies c.system) (zip c.fractions c.invariance) ≡ true
  changes-fit =
      subst (λ (s : System). list_all (change_multiplies s) (zip c.fractions c.invariance) ≡ true) (sym common.system)
      (subst (λ (fs : List Fraction). list_all (change_multiplies without) (zip fs c.invariance) ≡ true) (sym common.fractions)
      (subst (λ (us : List (List Poly)). list_all (change_multiplies without) (zip g.fractions us) ≡ true) (sym common.invariance) changes))

  pub sound-multiplies : c.kind ≡ sound → all_multiply c ≡ true
  unfolding all_multiply
  sound-multiplies kind = subst (λ (k : Kind). all_multiply_of k c ≡ true) (sym kind) (and_true _ _ (laws c common) changes-fit)

  module _ (none : g.told.system.section ≡ []) (part : HasBasisPart g c) (basis : BasisFits g.told.system c.basis) (pairs : PairsFit g.told.system g.action.polys c.pairs) (relations : RelationsFit g c.relations) where
    are : elements c ≡ g.action.polys
    are = elements_of g c part

    low-elements : All IsLow g.action.polys
    low-elements k d inside = low-terms g.told.system (group_count g.told.system + 2 * space_count g.told.system) (get_or g.action.polys k d) (gens.action.normal k d inside)

    inputs-fit : list_all (λ row. combination_fits (residue_ops c.system.p) row (elements c)) c.inputs ≡ true
    inputs-fit =
        subst (λ (s : System). list_all (λ row. combination_fits (residue_ops s.p) row (elements c)) c.inputs ≡ true) (sym common.system)
        (subst (λ (hs : List Poly). list_all (λ row. combination_fits (residue_ops g.told.system.p) row hs) c.inputs ≡ true) (sym are)
        (subst (λ (rows : List (List Poly)). list_all (λ row. combination_fits (residue_ops g.told.system.p) row g.action.polys) rows ≡ true) (sym part.inputs)
        (rows-fit g.told.system (g.told.system.ideal ++ graph g.told.system) g.action.polys low-elements)))

    basis-fits : list_all (λ b. at_graph_multiplies c.system b.h b.cofactors) c.basis ≡ true
    basis-fits = subst (λ (s : System). list_all (λ b. at_graph_multiplies s b.h b.cofactors) c.basis ≡ true) (sym common.system) basis

    pub full-multiplies : c.kind ≡ full → all_multiply c ≡ true
    unfolding all_multiply
    full-multiplies kind = subst (λ (k : Kind). all_multiply_of k c ≡ true) (sym kind)
        (and_true _ _ (and_true _ _ (and_true _ _ (and_true _ _ (and_true _ _ (laws c common) basis-fits) inputs-fit) (pairs c common.system are)) (relations c common)) changes-fit)
