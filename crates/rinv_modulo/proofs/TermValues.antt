-- Values modulo the ideal of a list of polynomials.
--   block-stands         the factors of one variable more
--   values-halves, values-one, values-none    the values of lists of terms
use Rattle.std.proofs.Common.{◌≡◌, ℕ, ◌+◌, ◌<◌, List, [], ◌∷◌, ◌++◌, length, take, get_or, nat_lt, sym, ap, ◌∙◌, subst, arith}
use Rattle.std.specs.Prelude.{replicate}
use Rattle.rinv_algebra.specs.Ring.{IsSame}
use Rattle.rinv_algebra.specs.Residue.{residue_ops}
use Rattle.rinv_algebra.specs.Polynomial.{Term, Polynomial, poly_ops, constant}
use Rattle.rinv_algebra.specs.Normal.{IsNormal}
use Rattle.rinv_algebra.specs.Value.{factors, times_all, value}
use Rattle.rinv_algebra.proofs.PolynomialLaws.{poly_laws}
use Rattle.rinv_algebra.proofs.Products.{times_all-append, factors-take_more, value-append}
use Rattle.rinv_algebra.proofs.ResidueLaws.{residue_laws}
use Rattle.rinv_algebra.proofs.RingFacts as facts
use Rattle.rinv_modulo.specs.Congruence.{StandsFor}
use Rattle.rinv_modulo.proofs.Congruences.{congruent-same, congruent-then, congruent-add, congruent-times_all}
use Rattle.rinv_modulo.proofs.Powers.{stands-same, stands-self}

module _ (p v : ℕ) (hs : List (Polynomial ℕ)) where
  -- the factors of one variable more
  pub block-stands : (c a r : Polynomial ℕ) (images : List (Polynomial ℕ)) (m : List ℕ) (k : ℕ) (d : Polynomial ℕ) → k < length images → length images ≡ length m
      → StandsFor p v hs (times_all (poly_ops (residue_ops p)) c (factors (take k images) (take k m))) a
      → StandsFor p v hs (times_all (poly_ops (residue_ops p)) a (replicate (get_or m k 0) (get_or images k d))) r
      → StandsFor p v hs (times_all (poly_ops (residue_ops p)) c (factors (take (k + 1) images) (take (k + 1) m))) r
  block-stands c a r images m k d few many so_far step =
      let o = residue_ops p in
      let before : Polynomial ℕ = times_all (poly_ops o) c (factors (take k images) (take k m)) in
      let block : List (Polynomial ℕ) = replicate (get_or m k 0) (get_or images k d) in
      let e : times_all (poly_ops o) c (factors (take (k + 1) images) (take (k + 1) m)) ≡ times_all (poly_ops o) before block =
      ap (times_all (poly_ops o) c) (factors-take_more d images m k few (omega (arith, few, many))) ∙ times_all-append (poly_ops o) c (factors (take k images) (take k m)) block in
      subst (λ (f : Polynomial ℕ). StandsFor p v hs f r) (sym e) (record {
        normal = step.normal;
        congruent = congruent-then o (residue_laws p) hs (times_all (poly_ops o) before block) (times_all (poly_ops o) a block) r (congruent-times_all o (residue_laws p) hs before a block so_far.congruent) step.congruent;
      })

  module _ (images : List (Polynomial ℕ)) where
    pub values-none : (terms r : Polynomial ℕ) → terms ≡ [] → IsNormal (residue_ops p) (λ c. nat_lt c p) v r → IsSame (poly_ops (residue_ops p)) r [] → StandsFor p v hs (value (poly_ops (residue_ops p)) (constant (residue_ops p)) images terms) r
    unfolding value
    values-none terms r e normal s = rw e (stands-self p v hs [] r normal s)

    pub values-one : (terms : Polynomial ℕ) (t : Term ℕ) (r : Polynomial ℕ) → terms ≡ t ∷ [] → StandsFor p v hs (times_all (poly_ops (residue_ops p)) (constant (residue_ops p) t.1) (factors images t.0)) r
        → StandsFor p v hs (value (poly_ops (residue_ops p)) (constant (residue_ops p)) images terms) r
    unfolding value
    values-one terms t r e h =
        let o = residue_ops p in
        let q = poly_laws o (residue_laws p) in
        let x : Polynomial ℕ = times_all (poly_ops o) (constant o t.1) (factors images t.0) in
        rw e (stands-same p v hs (x ++ []) x r (q.add_zero x) h)

    pub values-halves : (a b whole x y r : Polynomial ℕ) → whole ≡ a ++ b → StandsFor p v hs (value (poly_ops (residue_ops p)) (constant (residue_ops p)) images a) x → StandsFor p v hs (value (poly_ops (residue_ops p)) (constant (residue_ops p)) images b) y
        → IsNormal (residue_ops p) (λ c. nat_lt c p) v r → IsSame (poly_ops (residue_ops p)) r (x ++ y) → StandsFor p v hs (value (poly_ops (residue_ops p)) (constant (residue_ops p)) images whole) r
    values-halves a b whole x y r e s t normal u =
        let o = residue_ops p in
        let l = residue_laws p in
        let q = poly_laws o l in
        let at : Polynomial ℕ → Polynomial ℕ = value (poly_ops o) (constant o) images in
        rw e (stands-same p v hs (at (a ++ b)) (at a ++ at b) r (value-append (poly_ops o) q (constant o) images a b) (record {
          normal = normal;
          congruent = congruent-then o l hs (at a ++ at b) (x ++ y) r (congruent-add o l hs (at a) (at b) x y s.congruent t.congruent) (congruent-same o l hs (x ++ y) r (facts.back (poly_ops o) q u));
        }))
