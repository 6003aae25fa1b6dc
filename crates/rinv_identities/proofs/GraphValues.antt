-- Values on the graph of the action: they depend on the coefficients of the point's coordinates, of the value and of the ideal alone.
--   vanishes-same      where the value is taken and multiplied out
--   vanishes-unfit     where it does not fit
use Rattle.std.proofs.Common.{◌≡◌, ℕ, Bool, true, false, ◌&&◌, List, [], ◌∷◌, nat_lt, refl, sym, ap, ◌∙◌}
use Rattle.std.specs.List.{AllZip}
use Rattle.rinv_algebra.specs.Ring.{IsSame}
use Rattle.rinv_algebra.specs.Residue.{residue_ops}
use Rattle.rinv_algebra.specs.Polynomial.{poly_ops, product, same}
use Rattle.rinv_algebra.specs.Normal.{IsNormal}
use Rattle.rinv_algebra.specs.Value.{substitute}
use Rattle.rinv_algebra.specs.Ideal.{combination}
use Rattle.rinv_algebra.specs.Fits.{substitution_fits, combination_fits, multiplies_out}
use Rattle.rinv_algebra.proofs.Degrees.{iff-equal, product_fits-same}
use Rattle.rinv_algebra.proofs.PolynomialLaws.{poly_laws}
use Rattle.rinv_algebra.proofs.ResidueLaws.{residue_laws}
use Rattle.rinv_algebra.proofs.RingFacts as facts
use Rattle.rinv_defs.specs.System.{System, Poly}
use Rattle.rinv_defs.specs.Conditions.{graph_point, vanishes_on_graph}
use Rattle.rinv_sub.specs.Refusal.{SubstitutionMeets, never}
use Rattle.rinv_sub.proofs.Images.{substitute-images, fits-images}
use Rattle.rinv_sub.proofs.Misfits.{residues-misfit}
use Rattle.rinv_parts.specs.Points.{AreStored}
use Rattle.rinv_parts.proofs.Stored.{stored-same}

-- a test of sameness answers one thing for what is the same on both sides
same-both : (p : ℕ) (x x' y y' : Poly) → IsSame (poly_ops (residue_ops p)) x x' → IsSame (poly_ops (residue_ops p)) y y' → same (residue_ops p) x y ≡ same (residue_ops p) x' y'
same-both p x x' y y' a b =
    let o = poly_ops (residue_ops p) in
    let l = poly_laws (residue_ops p) (residue_laws p) in
    iff-equal (same (residue_ops p) x y) (same (residue_ops p) x' y')
    (λ h. facts.then o l (facts.back o l a) (facts.then o l h b))
    (λ h. facts.then o l a (facts.then o l h (facts.back o l b)))

-- ---- generators that are the same, place by place

combination-generators : (p : ℕ) (us gs fs : List Poly) → AllZip (IsSame (poly_ops (residue_ops p))) gs fs → IsSame (poly_ops (residue_ops p)) (combination (residue_ops p) us gs) (combination (residue_ops p) us fs)
unfolding combination
combination-generators p [] gs fs s = let laws = poly_laws (residue_ops p) (residue_laws p) in laws.same_refl []
combination-generators p (u ∷ us) [] [] s = let laws = poly_laws (residue_ops p) (residue_laws p) in laws.same_refl []
combination-generators p (u ∷ us) [] (f ∷ fs) s = absurd s
combination-generators p (u ∷ us) (g ∷ gs) [] s = absurd s
combination-generators p (u ∷ us) (g ∷ gs) (f ∷ fs) s =
    let laws = poly_laws (residue_ops p) (residue_laws p) in
    laws.add_same (product (residue_ops p) u g) (product (residue_ops p) u f) (combination (residue_ops p) us gs) (combination (residue_ops p) us fs) (laws.mul_same u u g f (laws.same_refl u) s.0) (combination-generators p us gs fs s.1)

fits-generators : (p : ℕ) (us gs fs : List Poly) → AllZip (IsSame (poly_ops (residue_ops p))) gs fs → combination_fits (residue_ops p) us gs ≡ combination_fits (residue_ops p) us fs
unfolding combination_fits
fits-generators p [] gs fs s = refl
fits-generators p (u ∷ us) [] [] s = refl
fits-generators p (u ∷ us) [] (f ∷ fs) s = absurd s
fits-generators p (u ∷ us) (g ∷ gs) [] s = absurd s
fits-generators p (u ∷ us) (g ∷ gs) (f ∷ fs) s =
    let laws = poly_laws (residue_ops p) (residue_laws p) in
    let rest = fits-generators p us gs fs s.1 in
    rw (product_fits-same (residue_ops p) (residue_laws p) u u g f (laws.same_refl u) s.0, rest) refl

-- whether a polynomial is the sum
pub multiplies_out-same : (p : ℕ) (f g : Poly) (us gs fs : List Poly) → IsSame (poly_ops (residue_ops p)) f g → AllZip (IsSame (poly_ops (residue_ops p))) gs fs → multiplies_out (residue_ops p) f us gs ≡ multiplies_out (residue_ops p) g us fs
multiplies_out-same p f g us gs fs e s =
    let sums : same (residue_ops p) f (combination (residue_ops p) us gs) ≡ same (residue_ops p) g (combination (residue_ops p) us fs) = same-both p f g (combination (residue_ops p) us gs) (combination (residue_ops p) us fs) e (combination-generators p us gs fs s) in
    rw (fits-generators p us gs fs s, sums) refl

one-fits : (a b : Bool) → (a && true) ≡ (b && true) → a ≡ b
one-fits true true e = refl
one-fits true false e = e
one-fits false true e = e
one-fits false false e = refl

-- ---- a value on the graph

module _ (s : System) (v : ℕ) (point : List Poly) (stands : AreStored s.p v (graph_point s) point) (h : Poly) (us : List Poly) where
  fits-point : substitution_fits (residue_ops s.p) point h ≡ substitution_fits (residue_ops s.p) (graph_point s) h
  fits-point = one-fits (substitution_fits (residue_ops s.p) point h) (substitution_fits (residue_ops s.p) (graph_point s) h)
      (fits-images (residue_ops s.p) (residue_laws s.p) point (graph_point s) (stored-same s.p v (graph_point s) point stands) (h ∷ []))

  -- the value is taken and multiplied out
  pub vanishes-same : (ideal : List Poly) → AreStored s.p v s.ideal ideal → (value : Poly) → IsSame (poly_ops (residue_ops s.p)) value (substitute (residue_ops s.p) point h) → substitution_fits (residue_ops s.p) point h ≡ true
      → multiplies_out (residue_ops s.p) value us ideal ≡ vanishes_on_graph s h us
  unfolding vanishes_on_graph
  vanishes-same ideal generators value is fits =
      let o = residue_ops s.p in
      let l = poly_laws o (residue_laws s.p) in
      let moved : IsSame (poly_ops o) value (substitute o (graph_point s) h) = facts.then (poly_ops o) l is (substitute-images o (residue_laws s.p) point (graph_point s) (stored-same s.p v (graph_point s) point stands) (h ∷ [])).0 in
      multiplies_out-same s.p value (substitute o (graph_point s) h) us ideal s.ideal moved (stored-same s.p v s.ideal ideal generators)
      ∙ sym (ap (λ (b : Bool). b && multiplies_out o (substitute o (graph_point s) h) us s.ideal) (sym fits-point ∙ fits))

  -- the value does not fit
  pub vanishes-unfit : (w x y : ℕ) → IsNormal (residue_ops s.p) (λ c. nat_lt c s.p) w h → SubstitutionMeets (residue_ops s.p) (λ c. nat_lt c s.p) never v point h x y → false ≡ vanishes_on_graph s h us
  unfolding vanishes_on_graph
  vanishes-unfit w x y normal meets =
      let o = residue_ops s.p in
      sym (ap (λ (b : Bool). b && multiplies_out o (substitute o (graph_point s) h) us s.ideal) (sym fits-point ∙ (residues-misfit s.p v point h w normal x y meets).1))

-- the same with the numbers and lists as they are at hand
module _ (s : System) (p v : ℕ) (point images : List Poly) (h : Poly) (us : List Poly) (field : p ≡ s.p) (are : images ≡ point) (stands : AreStored s.p v (graph_point s) point) where
  pub same-on_graph : (ideal generators : List Poly) (value : Poly) → generators ≡ ideal → AreStored s.p v s.ideal ideal → IsSame (poly_ops (residue_ops p)) value (substitute (residue_ops p) images h) → substitution_fits (residue_ops p) images h ≡ true
      → multiplies_out (residue_ops p) value us generators ≡ vanishes_on_graph s h us
  same-on_graph ideal generators value of_ideal stored is fits =
      rw (field, of_ideal) (vanishes-same s v point stands h us ideal stored value (rw (field, are) at is) (rw (field, are) at fits))

  pub unfit-on_graph : (w x y : ℕ) → IsNormal (residue_ops p) (λ c. nat_lt c p) w h → SubstitutionMeets (residue_ops p) (λ c. nat_lt c p) never v images h x y → false ≡ vanishes_on_graph s h us
  unfit-on_graph w x y normal meets = vanishes-unfit s v point stands h us w x y (rw field at normal) (rw (field, are) at meets)
