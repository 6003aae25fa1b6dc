-- The coefficient at a monomial in Z, of polynomials in Z and the space's variables and of moved ones.
--   part s b             the coefficient at b, as a polynomial in the space's variables
--   part-scale           factors in the space's variables stay
--   parts-of s b         at each coefficient of a polynomial in μ: part-still, parts-scale
--   parts-moved          the part of a moved polynomial is the moved part
use Rattle.std.proofs.Common.{◌≡◌, ◌≤◌, Bool, true, false, cond, refl, sym, ◌∙◌, ap, ap₂, arith}
use Rattle.rinv_algebra.specs.Residue.{residue_ops}
use Rattle.rinv_algebra.proofs.ResidueLaws.{residue_laws}
use Rattle.rinv_theory.proofs.CRing.{Hom, hom-zero, add_mul}
use Rattle.rinv_theory.proofs.Monoid.{Monomial, monomials}
use Rattle.rinv_theory.proofs.TermRing.{constants, constants-at, monomial-term}
use Rattle.rinv_theory.proofs.Universal.{agree, relabel-term, change-term}
use Rattle.rinv_theory.proofs.Places.{front, back, behind, behind-mul, front_behind}
use Rattle.rinv_theory.proofs.Nested.{nest, nest-term}
use Rattle.rinv_theory.proofs.Of.{of-term}
use Rattle.rinv_soundness.proofs.FirstVariables.{front-front}
use Rattle.rinv_soundness.proofs.Substituting.{move, move-constant}
use Rattle.rinv_soundness.proofs.PlaceFacts.{nest-behind, back-front}
use Rattle.rinv_defs.specs.System.{System, space_count}
use Rattle.rinv_invariance.proofs.Extensions.{extension, Linear, each, each-add, each-neg, each-zero, each-term, each-coefficient}
use Rattle.rinv_invariance.proofs.Points.{Scalar, scalars, PolyClass, poly_terms}
use Rattle.rinv_invariance.proofs.Movement.{Moving, moving, still, coordinates}
use Rattle.rinv_invariance.proofs.MovedMaps.{moved_space, moved_both, shifted, moved_both-later, moved_both-first}

module _ (s : System) (b : Monomial) where
  -- polynomials in Z over polynomials in the space's variables
  abbrev nested : Hom (poly_terms s.p).ring (moving s).ring
  nested = nest (poly_terms s.p) (poly_terms s.p) (moving s) (space_count s)

  -- the coefficient at b
  pub part : PolyClass s.p → PolyClass s.p
  part y = (moving s).coefficient (nested.at y) b

  -- it is the one of the nested polynomial
  pub part-nested : (y : PolyClass s.p) → part y ≡ (moving s).coefficient ((nest (poly_terms s.p) (poly_terms s.p) (moving s) (space_count s)).at y) b
  unfolding part
  part-nested y = refl

  -- of a sum
  pub part-add : (x y : PolyClass s.p) → part ((poly_terms s.p).ring.add x y) ≡ (poly_terms s.p).ring.add (part x) (part y)
  unfolding part
  part-add x y = ap (λ z. (moving s).coefficient z b) (nested.add x y) ∙ (moving s).coefficient_add _ _ b

  -- factors in the space's variables stay
  pub part-scale : (y d : PolyClass s.p) → part ((poly_terms s.p).ring.mul y ((move (residue_ops s.p) (residue_laws s.p) (space_count s)).at d)) ≡ (poly_terms s.p).ring.mul (part y) d
  unfolding part
  part-scale y d =
      ap (λ z. (moving s).coefficient z b) (nested.mul y _ ∙ ap ((moving s).ring.mul (nested.at y)) (nest-behind (poly_terms s.p) (poly_terms s.p) (moving s) (space_count s) d) ∙ (moving s).ring.mul_comm _ _)
      ∙ ap ((moving s).coefficient _) (sym (monomials.one_mul b)) ∙ (moving s).coefficient_times d monomials.one b _ ∙ (poly_terms s.p).ring.mul_comm _ _

  -- a monomial in Z
  pub part-monomial : (m : Monomial) → part ((poly_terms s.p).term (scalars s.p).one (front (space_count s) m)) ≡ cond (monomials.same (front (space_count s) m) b) (poly_terms s.p).ring.one (poly_terms s.p).ring.zero
  unfolding part
  part-monomial m =
      let n = space_count s in
      let same : n ≤ n = omega arith in
      ap (λ z. (moving s).coefficient z b) (
      nest-term (poly_terms s.p) (poly_terms s.p) (moving s) n (scalars s.p).one (front n m)
      ∙ ap₂ (λ x y. (moving s).term ((poly_terms s.p).term (scalars s.p).one x) y) (back-front n (front n m) (front-front n n same m)) (front-front n n same m) ∙ ap (λ x. (moving s).term x (front n m)) (poly_terms s.p).term_one)
      ∙ (moving s).coefficient_term _ (front n m) b

  number_moved : (c : Scalar s.p) → (constants (poly_terms s.p)).at c ≡ (move (residue_ops s.p) (residue_laws s.p) (space_count s)).at ((constants (poly_terms s.p)).at c)
  number_moved c = constants-at (poly_terms s.p) c ∙ sym (ap (move (residue_ops s.p) (residue_laws s.p) (space_count s)).at (constants-at (poly_terms s.p) c) ∙ move-constant (residue_ops s.p) (residue_laws s.p) (space_count s) c)

  -- a linear map
  pub part_linear : Linear (coordinates s) (coordinates s)
  unfolding extension
  part_linear = record { at = part; add = part-add; scale = λ y c. ap (λ z. part ((poly_terms s.p).ring.mul y z)) (number_moved c) ∙ part-scale y _ }

  -- at each coefficient of a polynomial in μ
  pub parts : Moving s → Moving s
  parts u = each part_linear u

  -- it is so
  pub parts-each : (u : Moving s) → parts u ≡ each part_linear u
  unfolding parts
  parts-each u = refl

  -- by coefficients
  pub part-coefficient : (u : Moving s) (k : Monomial) → part ((moving s).coefficient u k) ≡ (moving s).coefficient (parts u) k
  unfolding parts part_linear
  part-coefficient u k = sym (each-coefficient part_linear u k)

  -- of a sum
  pub parts-add : (u v : Moving s) → parts ((moving s).ring.add u v) ≡ (moving s).ring.add (parts u) (parts v)
  unfolding parts
  parts-add = each-add part_linear

  -- of zero
  pub parts-zero : parts (moving s).ring.zero ≡ (moving s).ring.zero
  unfolding parts
  parts-zero = each-zero part_linear

  -- of an opposite
  pub parts-neg : (u : Moving s) → parts ((moving s).ring.neg u) ≡ (moving s).ring.neg (parts u)
  unfolding parts
  parts-neg = each-neg part_linear

  -- of a term
  pub parts-term : (y : PolyClass s.p) (m : Monomial) → parts ((moving s).term y m) ≡ (moving s).term (part y) m
  unfolding parts part_linear
  parts-term = each-term part_linear

  -- of a constant
  pub parts-still : (y : PolyClass s.p) → parts ((still s).at y) ≡ (still s).at (part y)
  parts-still y = ap parts (constants-at (moving s) y) ∙ parts-term y monomials.one ∙ sym (constants-at (moving s) (part y))

  -- factors whose coefficients are in the space's variables stay
  pub parts-scale : (u w : Moving s) → parts ((moving s).ring.mul u ((shifted s (space_count s)).at w)) ≡ (moving s).ring.mul (parts u) w
  parts-scale u w =
      agree (moving s) (moving s).ring (λ u. parts ((moving s).ring.mul u ((shifted s (space_count s)).at w))) (λ u. (moving s).ring.mul (parts u) w) (λ x y. ap parts (add_mul (moving s).ring x y _) ∙ parts-add _ _) (λ x y. ap (λ z. (moving s).ring.mul z w) (parts-add x y) ∙ add_mul (moving s).ring _ _ _)
      (λ y k. agree (moving s) (moving s).ring (λ w. parts ((moving s).ring.mul ((moving s).term y k) ((shifted s (space_count s)).at w))) (λ w. (moving s).ring.mul (parts ((moving s).term y k)) w)
      (λ x z. ap parts (ap ((moving s).ring.mul ((moving s).term y k)) ((shifted s (space_count s)).add x z) ∙ (moving s).ring.mul_add _ _ _) ∙ parts-add _ _) (λ x z. (moving s).ring.mul_add _ x z)
      (λ d j. at_terms y k d j) w) u
    where
      at_terms : (y : PolyClass s.p) (k : Monomial) (d : PolyClass s.p) (j : Monomial) → parts ((moving s).ring.mul ((moving s).term y k) ((shifted s (space_count s)).at ((moving s).term d j))) ≡ (moving s).ring.mul (parts ((moving s).term y k)) ((moving s).term d j)
      at_terms y k d j =
          ap parts (ap ((moving s).ring.mul ((moving s).term y k)) (change-term (moving s) (moving s) _ d j) ∙ (moving s).term_mul _ _ k j) ∙ parts-term _ _ ∙ ap (λ x. (moving s).term x (monomials.mul k j)) (part-scale y d)
          ∙ sym ((moving s).term_mul _ _ k j) ∙ ap (λ x. (moving s).ring.mul x ((moving s).term d j)) (sym (parts-term y k))

  -- a term is a monomial in Z times a polynomial in the space's variables
  split_space : (c : Scalar s.p) (m : Monomial) → (poly_terms s.p).term c m ≡ (poly_terms s.p).ring.mul ((poly_terms s.p).term (scalars s.p).one (front (space_count s) m)) ((move (residue_ops s.p) (residue_laws s.p) (space_count s)).at ((poly_terms s.p).term c (back (space_count s) m)))
  split_space c m =
      let n = space_count s in
      sym (ap ((poly_terms s.p).ring.mul _) (relabel-term (poly_terms s.p) (poly_terms s.p) (behind n) (behind-mul n) c (back n m)) ∙ monomial-term (poly_terms s.p) (front n m) (behind n (back n m)) c ∙ ap ((poly_terms s.p).term c) (front_behind n m))

  -- the part of a moved polynomial is the moved part
  pub parts-moved : (y : PolyClass s.p) → parts ((moved_both s).at y) ≡ (moved_space s).at (part y)
  parts-moved = agree (poly_terms s.p) (moving s).ring (λ y. parts ((moved_both s).at y)) (λ y. (moved_space s).at (part y)) (λ x y. ap parts ((moved_both s).add x y) ∙ parts-add _ _) (λ x y. ap (moved_space s).at (part-add x y) ∙ (moved_space s).add _ _) at_term
    where
      one_or_none : (t : Bool) → (still s).at (cond t (poly_terms s.p).ring.one (poly_terms s.p).ring.zero) ≡ (moved_space s).at (cond t (poly_terms s.p).ring.one (poly_terms s.p).ring.zero)
      one_or_none true = (still s).one ∙ sym (moved_space s).one
      one_or_none false = hom-zero (still s) ∙ sym (hom-zero (moved_space s))

      at_parts : (m : Monomial) (d : PolyClass s.p) → parts ((moved_both s).at ((poly_terms s.p).ring.mul ((poly_terms s.p).term (scalars s.p).one (front (space_count s) m)) ((move (residue_ops s.p) (residue_laws s.p) (space_count s)).at d)))
          ≡ (moved_space s).at (part ((poly_terms s.p).ring.mul ((poly_terms s.p).term (scalars s.p).one (front (space_count s) m)) ((move (residue_ops s.p) (residue_laws s.p) (space_count s)).at d)))
      at_parts m d =
          let n = space_count s in
          let same : n ≤ n = omega arith in
          ap parts ((moved_both s).mul _ _ ∙ ap₂ (moving s).ring.mul (moved_both-first s (of-term (poly_terms s.p) (scalars s.p).one (front n m) (front-front n n same m))) (moved_both-later s d))
          ∙ parts-scale _ _ ∙ ap (λ x. (moving s).ring.mul x ((moved_space s).at d)) (parts-still _ ∙ ap (still s).at (part-monomial m) ∙ one_or_none _ ∙ ap (moved_space s).at (sym (part-monomial m)))
          ∙ sym ((moved_space s).mul _ _) ∙ ap (moved_space s).at (sym (part-scale _ d))

      at_term : (c : Scalar s.p) (m : Monomial) → parts ((moved_both s).at ((poly_terms s.p).term c m)) ≡ (moved_space s).at (part ((poly_terms s.p).term c m))
      at_term c m = ap (λ y. parts ((moved_both s).at y)) (split_space c m) ∙ at_parts m _ ∙ ap (λ y. (moved_space s).at (part y)) (sym (split_space c m))
