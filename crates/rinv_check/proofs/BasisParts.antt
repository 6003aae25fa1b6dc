-- The elements of a stored basis, and the arrays of the inputs, as their form gives them.
--   element-polynomial, element-cofactors     an element of the basis
--   elements-normal, elements-number          all elements, without cofactors
--   basis-walk                                the elements fail at the same place as what they stand for
--   input-number, input-normal, inputs-many, inputs-walk   the arrays
use Rattle.std.proofs.Common.{◌≡◌, ℕ, zero, suc, ◌+◌, ◌*◌, ◌<◌, ◌≤◌, List, [], ◌∷◌, ◌++◌, length, map, get_or, Bool, true, not, ◌&&◌, ◌==◌, None, refl, sym, ap, ◌∙◌, subst, arith, length-append}
use Rattle.std.specs.Prelude.{IsTrue, zip}
use Rattle.std.specs.List.{list_all, position_from}
use Rattle.std.proofs.lemmas.Bool.{eqb-true}
use Rattle.std.proofs.lemmas.List.Elements.{All-nil, All-cons, All-get_or}
use Rattle.std.proofs.lemmas.List.Folds.{list_all-map}
use Rattle.rinv_algebra.specs.Residue.{residue_ops}
use Rattle.rinv_algebra.specs.Polynomial.{is_zero}
use Rattle.rinv_algebra.specs.Fits.{multiplies_out}
use Rattle.rinv_algebra.proofs.Same.{both}
use Rattle.rinv_defs.specs.System.{System, Poly, group_count, space_count}
use Rattle.rinv_defs.specs.SystemForm.{is_good, are_good, is_nonzero}
use Rattle.rinv_defs.specs.Extended.{graph}
use Rattle.rinv_defs.specs.Certificate.{full}
use Rattle.rinv_defs.specs.Format.{format_failure, is_basis_item}
use Rattle.rinv_defs.specs.Conditions.{elements, vanishes_on_graph, basis_failure, inputs_failure}
use Rattle.rinv_defs.proofs.PartCounts.{length-map}
use Rattle.rinv_soundness.proofs.Relabels.{graph_few}
use Rattle.rinv_cert.specs.declared.certificate.CertificateOf.{CertificateOf}
use Rattle.rinv_cert.specs.Seen.{plain, basis_item_by}
use Rattle.rinv_cert.proofs.Same.{map-same}
use Rattle.rinv_form.specs.Forms.{is_stored, are_stored}
use Rattle.rinv_form.proofs.FormParts.{form-basis, form-inputs}
use Rattle.rinv_parts.specs.Points.{ArePolynomials, AreStored}
use Rattle.rinv_parts.proofs.Stored.{stored-count, stored-normal}
use Rattle.rinv_identities.proofs.Walks.{position_from-map, position_from-agree}
use Rattle.rinv_check.proofs.PairWalks.{stored-walk}

all-at : {A : Type 0} (test : A → Bool) (xs : List A) (k : ℕ) (x : A) → list_all test xs ≡ true → k < length xs → x ≡ get_or xs k x → test x ≡ true
all-at test [] k x h within is = absurd (omega (arith, within))
all-at test (y ∷ ys) zero x h within is = rw is (both (test y) _ h).0
all-at test (y ∷ ys) (suc k) x h within is = all-at test ys k x (both (test y) _ h).1 (omega (arith, within)) is

pub all-normal : (p v : ℕ) (fs : List Poly) → list_all (is_stored p v) fs ≡ true → ArePolynomials p v fs
all-normal p v [] h = All-nil (λ f. IsTrue (is_stored p v f))
all-normal p v (f ∷ fs) h = let t = both (is_stored p v f) _ h in All-cons (λ f. IsTrue (is_stored p v f)) f fs t.0 (all-normal p v fs t.1)

-- a generator as it is stored
pub generator-normal : (p v q w : ℕ) (fs gs : List Poly) (k : ℕ) (g : Poly) → AreStored p v fs gs → q ≡ p → w ≡ v → k < length gs → g ≡ get_or gs k g → IsTrue (is_stored q w g)
generator-normal p v q w fs gs k g stored eq ew within is =
    rw (eq, ew) (subst (λ (f : Poly). IsTrue (is_stored p v f)) (sym is) (All-get_or (λ (f : Poly). IsTrue (is_stored p v f)) gs k g within (stored-normal p v fs gs stored)))

same-polynomials : (fs : List Poly) → map (λ f. f) fs ≡ fs
same-polynomials fs = map-same (λ f. f) (λ f. refl) fs

module _ (c : CertificateOf Poly) (kind : (plain c).kind ≡ full) (form : format_failure (plain c) ≡ None) where
  abbrev s : System
  s = (plain c).system

  abbrev graph_vars : ℕ
  graph_vars = group_count s + 2 * space_count s

  basis-forms : list_all (λ (b : Poly × List Poly). is_basis_item s (basis_item_by (λ f. f) b)) c.basis ≡ true
  basis-forms = sym (list_all-map (is_basis_item s) (basis_item_by (λ f. f)) c.basis) ∙ form-basis (plain c) kind form

  -- ---- an element of the basis

  module _ (k : ℕ) (b : Poly × List Poly) (within : k < length c.basis) (is : b ≡ get_or c.basis k b) where
    item : is_basis_item s (basis_item_by (λ f. f) b) ≡ true
    item = all-at (λ (b : Poly × List Poly). is_basis_item s (basis_item_by (λ f. f) b)) c.basis k b basis-forms within is

    pub element-polynomial : (p v : ℕ) → p ≡ s.p → v ≡ graph_vars → IsTrue (is_stored p v b.0)
    element-polynomial p v ep ev =
        rw (ep, ev) (both (is_good s graph_vars b.0) (not (is_zero (residue_ops s.p) b.0)) (both (is_nonzero s graph_vars b.0) (are_good s (length s.ideal) (group_count s + space_count s) (map (λ f. f) b.1)) item).0).0

    pub element-cofactors : (p v n : ℕ) → p ≡ s.p → v ≡ group_count s + space_count s → n ≡ length s.ideal → IsTrue (are_stored p v n b.1)
    element-cofactors p v n ep ev en =
        rw (ep, ev, en) (subst (λ (us : List Poly). are_good s (length s.ideal) (group_count s + space_count s) us ≡ true) (same-polynomials b.1)
        (both (is_nonzero s graph_vars b.0) (are_good s (length s.ideal) (group_count s + space_count s) (map (λ f. f) b.1)) item).1)

  -- ---- all elements

  pub elements-normal : (p v : ℕ) → p ≡ s.p → v ≡ graph_vars → ArePolynomials p v (elements (plain c))
  elements-normal p v ep ev = rw (ep, ev) (all-normal s.p graph_vars (elements (plain c)) (each c.basis basis-forms))
    where
      each : (bs : List (Poly × List Poly)) → list_all (λ (b : Poly × List Poly). is_basis_item s (basis_item_by (λ f. f) b)) bs ≡ true → list_all (is_stored s.p graph_vars) (map (λ b. b.h) (map (basis_item_by (λ f. f)) bs)) ≡ true
      each [] h = refl
      each (b ∷ bs) h =
          let t = both (is_basis_item s (basis_item_by (λ f. f) b)) _ h in
          let f = both (is_good s graph_vars b.0) (not (is_zero (residue_ops s.p) b.0)) (both (is_nonzero s graph_vars b.0) (are_good s (length s.ideal) (group_count s + space_count s) (map (λ f. f) b.1)) t.0).0 in
          rw f.0 (each bs t.1)

  pub elements-number : length (elements (plain c)) ≡ length (plain c).basis
  elements-number = length-map (λ b. b.h) (plain c).basis

  pub basis-walk : position_from (λ (b : Poly × List Poly). not (vanishes_on_graph s b.0 b.1)) 1 c.basis ≡ basis_failure (plain c)
  unfolding basis_failure
  basis-walk =
      position_from-agree (λ (b : Poly × List Poly). not (vanishes_on_graph s b.0 b.1)) (λ (b : Poly × List Poly). not (vanishes_on_graph s b.0 (map (λ f. f) b.1))) (λ b. ap (λ (us : List Poly). not (vanishes_on_graph s b.0 us)) (sym (same-polynomials b.1))) 1 c.basis
      ∙ sym (position_from-map (basis_item_by (λ f. f)) (λ b. not (vanishes_on_graph s b.h b.cofactors)) 1 c.basis)

  -- ---- the arrays

  same-inputs : (plain c).inputs ≡ c.inputs
  same-inputs = map-same (λ us. map (λ f. f) us) same-polynomials c.inputs

  input-forms : (length c.inputs == length s.ideal + space_count s && list_all (are_good s (length (plain c).basis) graph_vars) c.inputs) ≡ true
  input-forms = subst (λ (uss : List (List Poly)). (length uss == length s.ideal + space_count s && list_all (are_good s (length (plain c).basis) graph_vars) uss) ≡ true) same-inputs (form-inputs (plain c) kind form)

  -- there are as many as generators
  pub inputs-many : (p v : ℕ) (gens : List Poly) → AreStored p v (s.ideal ++ graph s) gens → length gens ≤ length c.inputs
  inputs-many p v gens stored =
      let many : length c.inputs ≡ length s.ideal + space_count s = eqb-true _ _ (both (length c.inputs == length s.ideal + space_count s) _ input-forms).0 in
      omega (arith, many, stored-count p v (s.ideal ++ graph s) gens stored, length-append s.ideal (graph s), graph_few s)

  module _ (k : ℕ) (us : List Poly) (within : k < length c.inputs) (is : us ≡ get_or c.inputs k us) where
    input : (length us == length (plain c).basis && list_all (is_good s graph_vars) us) ≡ true
    input = all-at (are_good s (length (plain c).basis) graph_vars) c.inputs k us (both (length c.inputs == length s.ideal + space_count s) _ input-forms).1 within is

    pub input-number : length us ≡ length (elements (plain c))
    input-number = eqb-true _ _ (both (length us == length (plain c).basis) _ input).0 ∙ sym elements-number

    pub input-normal : (p v : ℕ) → p ≡ s.p → v ≡ graph_vars → ArePolynomials p v us
    input-normal p v ep ev = rw (ep, ev) (all-normal s.p graph_vars us (both (length us == length (plain c).basis) _ input).1)

  pub inputs-walk : (q v : ℕ) (es gens : List Poly) (uss : List (List Poly)) → q ≡ s.p → es ≡ elements (plain c) → uss ≡ c.inputs → AreStored s.p v (s.ideal ++ graph s) gens
      → position_from (λ x. not (multiplies_out (residue_ops q) x.0 x.1 es)) 1 (zip gens uss) ≡ inputs_failure (plain c)
  unfolding inputs_failure
  inputs-walk q v es gens uss eq ee eu stored = rw (eq, ee, eu ∙ sym same-inputs) (stored-walk s.p v (elements (plain c)) (s.ideal ++ graph s) gens (plain c).inputs 1 stored)
