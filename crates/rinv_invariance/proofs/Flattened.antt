-- From polynomials in μ over polynomials in the space's variables back to polynomials in the group's variables and the space's.
--   flattened s          the map
--   flattened-still, flattened-movers, flattened-moved    constants are moved behind, μ becomes the group's variables, moved
--                        polynomials are those at the action
--   flat_member          a change that lies in the group's ideal at μ lies in the group's ideal, as lists have it
use Rattle.std.proofs.Common.{◌≡◌, ◌⊎◌, ℕ, suc, ◌+◌, ◌-◌, ◌<◌, ◌≤◌, List, [], ◌∷◌, ◌++◌, length, map, get_or, refl, sym, ◌∙◌, ap, ap₂, subst, arith, inl, inr}
use Rattle.std.proofs.lemmas.List.{get_or_append_left, get_or-append-add}
use mathlib.Core.Logic.{∥∥₁_elim, ∥∥₁_prop}
use Rattle.rinv_algebra.specs.Ring.{RingOps, RingLaws}
use Rattle.rinv_algebra.specs.Residue.{residue_ops}
use Rattle.rinv_algebra.specs.Polynomial.{poly_ops, past}
use Rattle.rinv_algebra.specs.Value.{substitute}
use Rattle.rinv_algebra.specs.Ideal.{IsMember}
use Rattle.rinv_algebra.proofs.ResidueLaws.{residue_laws}
use Rattle.rinv_algebra.proofs.PolynomialLaws.{poly_laws}
use Rattle.rinv_theory.proofs.CRing.{CRing, Hom, compose, hom-neg, mul_one}
use Rattle.rinv_theory.proofs.Classes.{class-add, class-mul, class-neg, class-one}
use Rattle.rinv_theory.proofs.Monoid.{monomials, monoid_map-one}
use Rattle.rinv_theory.proofs.TermRing.{constants, constants-at, constant-term}
use Rattle.rinv_theory.proofs.Universal.{agree, change-term, relabel-term}
use Rattle.rinv_theory.proofs.Substitution.{agree_variables}
use Rattle.rinv_theory.proofs.Ideals.{In, in_one, in-in, in-hom}
use Rattle.rinv_theory.proofs.Members.{in-member}
use Rattle.rinv_theory.proofs.Nested.{flat, flat-term, inner, inner-term}
use Rattle.rinv_theory.proofs.Places.{behind, behind-mul}
use Rattle.rinv_theory.proofs.Variables.{IsFront, past-class}
use Rattle.rinv_theory.proofs.Of.{Of}
use Rattle.rinv_theory.proofs.Search.{found_member}
use Rattle.rinv_soundness.proofs.FirstVariables.{agree_front, low_or_high}
use Rattle.rinv_soundness.proofs.Substituting.{identity, var, put, put-class, put-constant, put-variable, move, move-constant, move-variable}
use Rattle.rinv_soundness.proofs.SystemForms.{HasForm, InFirst}
use Rattle.rinv_soundness.proofs.GeneratorLists.{map-at}
use Rattle.rinv_defs.specs.System.{System, Poly, group_count, space_count, variables}
use Rattle.rinv_defs.specs.Invariant.{Fraction, change}
use Rattle.rinv_invariance.proofs.Extensions.{extension}
use Rattle.rinv_invariance.proofs.Flatness.{Multiples}
use Rattle.rinv_invariance.proofs.Points.{Scalar, scalars, PolyClass, poly_terms, poly_class, natural, map-map, at, values, act, images, keep-act, IsOver}
use Rattle.rinv_invariance.proofs.PieceValues.{at-constant, at-variable}
use Rattle.rinv_invariance.proofs.GraphPoints.{length-images, images-variable}
use Rattle.rinv_invariance.proofs.Movement.{moving, still, number, coordinates, in_movers, movers, number-at}
use Rattle.rinv_invariance.proofs.MovedMaps.{moved_space}
use Rattle.rinv_invariance.proofs.MovedIdeal.{group_ideal}
use Rattle.rinv_invariance.proofs.ByValue.{change_of}

module _ (s : System) where
  abbrev ring : CRing (PolyClass s.p)
  ring = (poly_terms s.p).ring

  -- the map
  abbrev pub flattened : Hom (moving s).ring (poly_terms s.p).ring
  flattened = flat (poly_terms s.p) (poly_terms s.p) (moving s) (group_count s)

  abbrev behind_group : Hom (poly_terms s.p).ring (poly_terms s.p).ring
  behind_group = move (residue_ops s.p) (residue_laws s.p) (group_count s)

  inner-behind : (x : PolyClass s.p) → (inner (poly_terms s.p) (poly_terms s.p) (moving s) (group_count s)).at x ≡ behind_group.at x
  inner-behind = agree (poly_terms s.p) (poly_terms s.p).ring (inner (poly_terms s.p) (poly_terms s.p) (moving s) (group_count s)).at behind_group.at (inner (poly_terms s.p) (poly_terms s.p) (moving s) (group_count s)).add behind_group.add
      (λ c m. inner-term (poly_terms s.p) (poly_terms s.p) (moving s) (group_count s) c m ∙ sym (relabel-term (poly_terms s.p) (poly_terms s.p) (behind (group_count s)) (behind-mul (group_count s)) c m))

  -- constants are moved behind the group's variables
  pub flattened-still : (x : PolyClass s.p) → flattened.at ((still s).at x) ≡ behind_group.at x
  flattened-still x = ap flattened.at (constants-at (moving s) x) ∙ flat-term (poly_terms s.p) (poly_terms s.p) (moving s) (group_count s) x monomials.one ∙ ap₂ ring.mul (inner-behind x) (poly_terms s.p).term_one ∙ mul_one ring _

  -- polynomials in μ become those in the group's variables
  pub flattened-movers : (x : PolyClass s.p) → flattened.at ((in_movers s).at x) ≡ x
  flattened-movers = agree (poly_terms s.p) ring (λ x. flattened.at ((in_movers s).at x)) (λ x. x) (λ x y. ap flattened.at ((in_movers s).add x y) ∙ flattened.add _ _) (λ x y. refl) (λ c m.
      ap flattened.at (change-term (poly_terms s.p) (moving s) (constants (poly_terms s.p)) c m ∙ ap (λ x. (moving s).term x m) (constants-at (poly_terms s.p) c)) ∙ flat-term (poly_terms s.p) (poly_terms s.p) (moving s) (group_count s) _ m
      ∙ ap (λ x. ring.mul x ((poly_terms s.p).term (scalars s.p).one m)) (inner-term (poly_terms s.p) (poly_terms s.p) (moving s) (group_count s) c monomials.one ∙ ap ((poly_terms s.p).term c) (monoid_map-one monomials monomials (behind (group_count s)) (behind-mul (group_count s))))
      ∙ constant-term (poly_terms s.p) c (scalars s.p).one m ∙ ap (λ x. (poly_terms s.p).term x m) (mul_one (scalars s.p) c))

  -- numbers stay
  flattened-number : (c : Scalar s.p) → flattened.at ((number s).at c) ≡ (constants (poly_terms s.p)).at c
  flattened-number c = ap flattened.at (number-at s c ∙ sym (constants-at (moving s) _)) ∙ flattened-still _ ∙ move-constant (residue_ops s.p) (residue_laws s.p) (group_count s) c ∙ sym (constants-at (poly_terms s.p) c)

  -- the group's variables and the space's, as their images
  abbrev both_points : List (PolyClass s.p)
  both_points = images s (constants (poly_terms s.p)) (compose flattened (in_movers s)) (variables s 0 (group_count s)) ++ images s (constants (poly_terms s.p)) (compose flattened (still s)) (variables s 0 (space_count s))

  movers_keep : IsOver s (constants (poly_terms s.p)) (compose flattened (in_movers s))
  unfolding compose
  movers_keep c = flattened-movers _ ∙ sym (constants-at (poly_terms s.p) c)

  still_keep : IsOver s (constants (poly_terms s.p)) (compose flattened (still s))
  unfolding compose
  still_keep c = flattened-still _ ∙ move-constant (residue_ops s.p) (residue_laws s.p) (group_count s) c ∙ sym (constants-at (poly_terms s.p) c)

  length-group : length (images s (constants (poly_terms s.p)) (compose flattened (in_movers s)) (variables s 0 (group_count s))) ≡ group_count s
  length-group = length-images s (constants (poly_terms s.p)) (compose flattened (in_movers s)) movers_keep 0 (group_count s)

  both-variable : (k : ℕ) (d : PolyClass s.p) → k < group_count s + space_count s → get_or both_points k d ≡ var (residue_ops s.p) (residue_laws s.p) k
  unfolding compose
  both-variable k d low = go (low_or_high k (group_count s))
    where
      at_end : (j : ℕ) → j < space_count s → get_or both_points (group_count s + j) d ≡ var (residue_ops s.p) (residue_laws s.p) (group_count s + j)
      at_end j h =
          ap (λ (n : ℕ). get_or both_points (n + j) d) (sym length-group) ∙ get_or-append-add (images s (constants (poly_terms s.p)) (compose flattened (in_movers s)) (variables s 0 (group_count s))) _ j d
          ∙ images-variable s (constants (poly_terms s.p)) (compose flattened (still s)) still_keep 0 (space_count s) j d h ∙ flattened-still _ ∙ move-variable (residue_ops s.p) (residue_laws s.p) (group_count s) (0 + j)
          ∙ (let e : group_count s + (0 + j) ≡ group_count s + j = omega arith in ap (λ (n : ℕ). var (residue_ops s.p) (residue_laws s.p) n) e)

      go : (k < group_count s) ⊎ (group_count s ≤ k) → get_or both_points k d ≡ var (residue_ops s.p) (residue_laws s.p) k
      go (inl h) =
          get_or_append_left (images s (constants (poly_terms s.p)) (compose flattened (in_movers s)) (variables s 0 (group_count s))) _ d k (omega (arith, h, length-group))
          ∙ images-variable s (constants (poly_terms s.p)) (compose flattened (in_movers s)) movers_keep 0 (group_count s) k d h ∙ flattened-movers _
          ∙ (let e : 0 + k ≡ k = omega arith in ap (λ (n : ℕ). var (residue_ops s.p) (residue_laws s.p) n) e)
      go (inr h) = let e : group_count s + (k - group_count s) ≡ k = omega (arith, h) in subst (λ (n : ℕ). get_or both_points n d ≡ var (residue_ops s.p) (residue_laws s.p) n) e (at_end (k - group_count s) (omega (arith, low, h)))

  -- a polynomial in them has itself for its value there
  both-front : {x : PolyClass s.p} → Of (poly_terms s.p) (IsFront (group_count s + space_count s)) x → (at s (constants (poly_terms s.p)) both_points).at x ≡ x
  unfolding identity
  both-front = agree_front (poly_terms s.p) ring (at s (constants (poly_terms s.p)) both_points) (identity ring) (group_count s + space_count s)
      (λ c. at-constant s (constants (poly_terms s.p)) both_points c ∙ constants-at (poly_terms s.p) c) (λ k low. at-variable s (constants (poly_terms s.p)) both_points k ∙ both-variable k _ low)

  each_value : (fs : List Poly) → ((k : ℕ) → k < length fs → InFirst s (group_count s + space_count s) (get_or fs k [])) → values s (constants (poly_terms s.p)) both_points fs ≡ map (poly_class s.p) fs
  each_value [] h = refl
  each_value (f ∷ fs) h = ap₂ ◌∷◌ (both-front (h 0 (omega arith))) (each_value fs (λ k low. h (suc k) (omega (arith, low))))

  -- moved polynomials become those at the action
  pub flattened-moved : HasForm s → (x : PolyClass s.p) → flattened.at ((moved_space s).at x) ≡ (put (residue_ops s.p) (residue_laws s.p) s.action).at x
  unfolding compose
  flattened-moved form x =
      natural (poly_terms s.p) (number s) (constants (poly_terms s.p)) flattened flattened-number _ x
      ∙ ap (λ a. (at s (constants (poly_terms s.p)) a).at x) (keep-act s (number s) (constants (poly_terms s.p)) flattened flattened-number (movers s) _ ∙ ap₂ (act s (constants (poly_terms s.p))) (map-map flattened.at _ _) (map-map flattened.at _ _) ∙ each_value s.action form.action_front)
      ∙ agree_variables (poly_terms s.p) ring (at s (constants (poly_terms s.p)) (map (poly_class s.p) s.action)) (put (residue_ops s.p) (residue_laws s.p) s.action)
      (λ c. at-constant s (constants (poly_terms s.p)) _ c ∙ constants-at (poly_terms s.p) c ∙ sym (put-constant (residue_ops s.p) (residue_laws s.p) s.action c))
      (λ k. at-variable s (constants (poly_terms s.p)) _ k ∙ ap (get_or (map (poly_class s.p) s.action) k) (sym (class-one (poly_ops (residue_ops s.p)) (poly_laws (residue_ops s.p) (residue_laws s.p)))) ∙ map-at (poly_class s.p) s.action k _ ∙ sym (put-variable (residue_ops s.p) (residue_laws s.p) s.action k)) x

  -- a change becomes that of lists
  flattened-change : HasForm s → (n d : Poly) → flattened.at (change_of s (poly_class s.p n) (poly_class s.p d)) ≡ poly_class s.p (change s (n, d))
  unfolding change
  flattened-change form n d =
      flattened.add _ _ ∙ ap₂ ring.add (flattened.mul _ _ ∙ ap₂ ring.mul (at_action n) (at_behind d)) (hom-neg flattened _ ∙ ap ring.neg (flattened.mul _ _ ∙ ap₂ ring.mul (at_behind n) (at_action d)))
      ∙ sym (class-add ops laws _ _ ∙ ap₂ ring.add (class-mul ops laws _ _) (class-neg ops laws _ ∙ ap ring.neg (class-mul ops laws _ _)))
    where
      ops : RingOps Poly
      ops = poly_ops (residue_ops s.p)

      laws : RingLaws (poly_ops (residue_ops s.p))
      laws = poly_laws (residue_ops s.p) (residue_laws s.p)

      at_action : (f : Poly) → flattened.at ((moved_space s).at (poly_class s.p f)) ≡ poly_class s.p (substitute (residue_ops s.p) s.action f)
      at_action f = flattened-moved form (poly_class s.p f) ∙ sym (put-class (residue_ops s.p) (residue_laws s.p) s.action f)

      at_behind : (f : Poly) → flattened.at ((still s).at (poly_class s.p f)) ≡ poly_class s.p (past (group_count s) f)
      at_behind f = flattened-still (poly_class s.p f) ∙ sym (past-class (residue_ops s.p) (residue_laws s.p) (group_count s) f)

  -- so a change that lies in the group's ideal at μ lies in it
  pub flat_member : HasForm s → (f : Fraction) → ∥ In (moving s).ring (Multiples (coordinates s) (group_ideal s)) (change_of s (poly_class s.p f.0) (poly_class s.p f.1)) ∥₁ → IsMember (residue_ops s.p) s.ideal (change s f)
  unfolding extension
  flat_member form (n, d) some = found_member (residue_ops s.p) s.ideal (change s (n, d)) (∥∥₁_elim some ∥∥₁_prop (λ r. in-member (residue_ops s.p) (residue_laws s.p) s.ideal
      (in-in ring (group_ideal s) (λ k. flattened.at (Multiples (coordinates s) (group_ideal s) k)) (λ k. subst (In ring (group_ideal s)) (sym (flattened-movers (group_ideal s k))) (in_one ring (group_ideal s) k)) (in-hom flattened (Multiples (coordinates s) (group_ideal s)) r))
      (change s (n, d)) (sym (flattened-change form n d))))
