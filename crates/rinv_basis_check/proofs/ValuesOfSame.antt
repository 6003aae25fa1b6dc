-- Whether a value on the graph vanishes, as its cofactors show, depends on the coefficients of the polynomial alone.
--   substitution_fits-same    so does whether a substitution fits
--   vanishes-same             the fact
use Rattle.std.proofs.Common.{◌≡◌, ℕ, Bool, true, ◌&&◌, ◌==◌, List, [], ◌∷◌, ◌++◌, map, replicate, refl, sym, ap, ap₂, ◌∙◌, arith, IsTrue}
use Rattle.std.specs.List.{list_all}
use Rattle.std.proofs.lemmas.Bool.Decides.{nat_tests}
use Rattle.rinv_algebra.specs.Ring.{IsSame}
use Rattle.rinv_algebra.specs.Residue.{residue_ops}
use Rattle.rinv_algebra.specs.Monomial.{same_monomial}
use Rattle.rinv_algebra.specs.Polynomial.{poly_ops, coefficient, has_monomial, monomials, product, constant}
use Rattle.rinv_algebra.specs.Value.{factors, substitute}
use Rattle.rinv_algebra.specs.Fits.{products_fit, substitution_fits}
use Rattle.rinv_algebra.proofs.Degrees.{iff-equal, product_fits-same, has_monomial-same}
use Rattle.rinv_algebra.proofs.PolynomialLaws.{poly_laws}
use Rattle.rinv_algebra.proofs.ResidueLaws.{residue_laws}
use Rattle.rinv_algebra.proofs.RingFacts as facts
use Rattle.rinv_algebra.proofs.Same.{both, and_true, coefficient-same_monomial, same-coefficients}
use Rattle.rinv_theory.proofs.Values.{value_map, constant_map}
use Rattle.rinv_groebner.proofs.Ascending.{Has}
use Rattle.rinv_groebner.proofs.Greatest.{has-filter, filter-passes}
use Rattle.rinv_groebner.proofs.LeadingMonomials as leads
use Rattle.rinv_poly.proofs.Gather.{same-refl, term-same}
use Rattle.rinv_defs.specs.System.{System, Poly}
use Rattle.rinv_defs.specs.Conditions.{graph_point, vanishes_on_graph}
use Rattle.rinv_basis_check.proofs.Combinations.{combined-same}

-- no factor comes of zeros
factors-nil : {A : Type 0} (point : List A) → factors point [] ≡ []
unfolding factors
factors-nil [] = refl
factors-nil (x ∷ point) = refl

is-zero : (y : ℕ) (b : Bool) → (y == 0 && b) ≡ true → y ≡ 0
is-zero y b h = grind (arith, nat_tests, h)

is-rest : (y : Bool) (b : Bool) → (y && b) ≡ true → b ≡ true
is-rest y b h = (both y b h).1

is-same : (x y : ℕ) (b : Bool) → (x == y && b) ≡ true → x ≡ y
is-same x y b h = grind (arith, nat_tests, h)

-- the factors depend on the monomial alone
factors-same : {A : Type 0} (point : List A) (a b : List ℕ) → same_monomial a b ≡ true → factors point a ≡ factors point b
unfolding factors same_monomial
factors-same [] a b h = refl
factors-same (x ∷ point) [] [] h = refl
factors-same (x ∷ point) [] (y ∷ b) h = rw (is-zero y (same_monomial [] b) h) (sym (factors-nil point) ∙ factors-same point [] b (is-rest (y == 0) (same_monomial [] b) h))
factors-same (x ∷ point) (y ∷ a) [] h = rw (is-zero y (same_monomial a []) h) (factors-same point a [] (is-rest (y == 0) (same_monomial a []) h) ∙ factors-nil point)
factors-same (x ∷ point) (y ∷ a) (z ∷ b) h = ap₂ (λ n fs. replicate n x ++ fs) (is-same y z (same_monomial a b) h) (factors-same point a b (is-rest (y == z) (same_monomial a b) h))

-- a test of all
passes : {A : Type 0} (test : A → Bool) (xs : List A) → ((x : A) → Has x xs → test x ≡ true) → list_all test xs ≡ true
passes test [] h = refl
passes test (x ∷ xs) h = and_true (test x) (list_all test xs) (h x Has.first) (passes test xs (λ y m. h y (Has.later m)))

passed : {A : Type 0} (test : A → Bool) {x : A} (xs : List A) → list_all test xs ≡ true → Has x xs → test x ≡ true
passed test [] h m = elim m [ ]
passed test (y ∷ xs) h Has.first = (both (test y) (list_all test xs) h).0
passed test (y ∷ xs) h (Has.later m) = passed test xs (both (test y) (list_all test xs) h).1 m

module _ (p : ℕ) where
  -- products from the left fit or not with the polynomial that they begin with
  products_fit-same : (f g : Poly) (fs : List Poly) → IsSame (poly_ops (residue_ops p)) f g → products_fit (residue_ops p) f fs ≡ products_fit (residue_ops p) g fs
  unfolding products_fit
  products_fit-same f g [] is = refl
  products_fit-same f g (h ∷ hs) is =
      let o = residue_ops p in
      let l = residue_laws p in
      ap₂ (λ a b. a && b) (product_fits-same o l f g h h is (same-refl o l h)) (products_fit-same (product o f h) (product o g h) hs ((poly_laws o l).mul_same f g h h is (same-refl o l h)))

  -- what is asked at a monomial
  abbrev fits_at : List Poly → Poly → List ℕ → Bool
  fits_at images f m = products_fit (residue_ops p) (constant (residue_ops p) (coefficient (residue_ops p) f m)) (factors images m)

  fits_at-same : (images : List Poly) (f g : Poly) (m n : List ℕ) → IsSame (poly_ops (residue_ops p)) f g → same_monomial n m ≡ true → fits_at images g n ≡ fits_at images f m
  fits_at-same images f g m n is one =
      let o = residue_ops p in
      let l = residue_laws p in
      let back : IsSame o (coefficient o g n) (coefficient o f m) = facts.then o l (facts.of_same o l (coefficient-same_monomial o g n m one)) (facts.back o l (same-coefficients o l f g is m)) in
      products_fit-same (constant o (coefficient o g n)) (constant o (coefficient o f m)) (factors images n) (term-same o l [] (coefficient o g n) (coefficient o f m) back)
      ∙ ap (products_fit o (constant o (coefficient o f m))) (factors-same images n m one)

  fits-over : (images : List Poly) (f g : Poly) → IsSame (poly_ops (residue_ops p)) f g → substitution_fits (residue_ops p) images g ≡ true → substitution_fits (residue_ops p) images f ≡ true
  unfolding substitution_fits
  fits-over images f g is h =
      let o = residue_ops p in
      let l = residue_laws p in
      passes (fits_at images f) (monomials o f) (λ m has_m.
      let in_f : IsTrue (has_monomial o f m) = filter-passes (has_monomial o f) (map (λ t. t.0) f) has_m in
      let in_g : IsTrue (has_monomial o g m) = sym (has_monomial-same o l f g is m) ∙ in_f in
      let (n, there, one) = leads.present o l g m in_g in
      let listed = has-filter (has_monomial o g) there (leads.has_monomial-same o l g n m one ∙ in_g) in
      sym (fits_at-same images f g m n is one) ∙ passed (fits_at images g) (monomials o g) h listed)

  pub substitution_fits-same : (images : List Poly) (f g : Poly) → IsSame (poly_ops (residue_ops p)) f g → substitution_fits (residue_ops p) images f ≡ substitution_fits (residue_ops p) images g
  substitution_fits-same images f g is =
      iff-equal (substitution_fits (residue_ops p) images f) (substitution_fits (residue_ops p) images g) (fits-over images g f (facts.back (poly_ops (residue_ops p)) (poly_laws (residue_ops p) (residue_laws p)) is)) (fits-over images f g is)

-- whether a value on the graph is shown to vanish
pub vanishes-same : (s : System) (f g : Poly) (us : List Poly) → IsSame (poly_ops (residue_ops s.p)) f g → vanishes_on_graph s f us ≡ vanishes_on_graph s g us
unfolding vanishes_on_graph
vanishes-same s f g us is =
    let o = residue_ops s.p in
    let l = residue_laws s.p in
    let value = (value_map o l (poly_ops o) (poly_laws o l) (constant o) (constant_map o l) (graph_point s)).same f g is in
    ap₂ (λ (a b : Bool). a && b) (substitution_fits-same s.p (graph_point s) f g is) (combined-same s.p (substitute o (graph_point s) f) (substitute o (graph_point s) g) us s.ideal value)
