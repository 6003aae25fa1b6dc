-- With the reduced basis of the extended ideal, what is asked of standard members of the action's ideal: one that has no reducible
-- parts is zero.
--   retracted            the variables past Z and the space's are put 1
--   retracted-kept       moved polynomials are kept so
--   standard_zero        the fact
use Rattle.std.proofs.Common.{◌≡◌, ℕ, ◌*◌, ◌<◌, ◌≤◌, List, map, sym, ◌∙◌, ap, subst, arith}
use mathlib.Core.Logic.{∥∥₁_elim}
use Rattle.rinv_algebra.specs.Residue.{residue_ops}
use Rattle.rinv_algebra.proofs.ResidueLaws.{residue_laws}
use Rattle.rinv_theory.proofs.CRing.{CRing, Hom, hom-zero}
use Rattle.rinv_theory.proofs.Monoid.{Monomial, monomials, monoid_map-one}
use Rattle.rinv_theory.proofs.TermRing.{TermRing}
use Rattle.rinv_theory.proofs.Universal.{relabel-term}
use Rattle.rinv_theory.proofs.Of.{Of, of_any}
use Rattle.rinv_theory.proofs.Ideals.{In}
use Rattle.rinv_theory.proofs.Places.{front, front-mul}
use Rattle.rinv_theory.proofs.Nested.{nest_injective}
use Rattle.rinv_theory.proofs.Variables.{IsFront}
use Rattle.rinv_soundness.proofs.FirstVariables.{retract, front-front, front-variable}
use Rattle.rinv_soundness.proofs.Substituting.{var, move}
use Rattle.rinv_soundness.proofs.OverFractions.{over_ring, over, nested, into, over-coefficient, over_injective}
use Rattle.rinv_soundness.proofs.HasMultiples.{read, multiple-of}
use Rattle.rinv_soundness.proofs.ExtendedIdeals.{ops, laws, field}
use Rattle.rinv_soundness.proofs.LowestMembers.{IsReducibleBy, basis-lowest}
use Rattle.rinv_defs.specs.System.{System, group_count, space_count}
use Rattle.rinv_defs.specs.Extended.{Relation, IsReducedBasis}
use Rattle.rinv_invariance.proofs.Points.{Scalar, scalars, PolyClass, poly_terms}
use Rattle.rinv_invariance.proofs.Movement.{moving, coefficientwise}
use Rattle.rinv_invariance.proofs.MovedMaps.{moved_both, moved_both-kept}
use Rattle.rinv_invariance.proofs.MovedIdeal.{graph_ideal}
use Rattle.rinv_invariance.proofs.Parts.{part, part-nested}

-- what a retraction gives is in the first variables
retract_front : {K P : Type 0} {𝓚 : CRing K} (𝓣 : TermRing 𝓚 monomials P) (v : ℕ) {Q : Monomial → Type 0} {x : P} → Of 𝓣 Q x → Of 𝓣 (IsFront v) ((retract 𝓣 v).at x)
retract_front 𝓣 v Of.none = subst (Of 𝓣 (IsFront v)) (sym (hom-zero (retract 𝓣 v))) Of.none
retract_front 𝓣 v (Of.more {f = x} c m q r) =
    let same : v ≤ v = omega arith in
    subst (Of 𝓣 (IsFront v)) (ap (λ y. 𝓣.ring.add y ((retract 𝓣 v).at x)) (sym (relabel-term 𝓣 𝓣 (front v) (front-mul v) c m)) ∙ sym ((retract 𝓣 v).add _ _)) (Of.more c (front v m) (front-front v v same m) (retract_front 𝓣 v r))

module _ (s : System) where
  -- the variables past Z and the space's are put 1
  abbrev pub retracted : Hom (poly_terms s.p).ring (poly_terms s.p).ring
  retracted = retract (poly_terms s.p) (2 * space_count s)

  -- numbers stay
  pub retracted-number : (c : Scalar s.p) → retracted.at ((poly_terms s.p).term c monomials.one) ≡ (poly_terms s.p).term c monomials.one
  retracted-number c = relabel-term (poly_terms s.p) (poly_terms s.p) (front (2 * space_count s)) (front-mul (2 * space_count s)) c monomials.one ∙ ap ((poly_terms s.p).term c) (monoid_map-one monomials monomials (front (2 * space_count s)) (front-mul (2 * space_count s)))

  retracted-variable : (k : ℕ) → k < 2 * space_count s → retracted.at (var (residue_ops s.p) (residue_laws s.p) k) ≡ var (residue_ops s.p) (residue_laws s.p) k
  retracted-variable k low = relabel-term (poly_terms s.p) (poly_terms s.p) (front (2 * space_count s)) (front-mul (2 * space_count s)) _ _ ∙ ap ((poly_terms s.p).term (scalars s.p).one) (front-variable (2 * space_count s) k low)

  -- and moved polynomials do
  pub retracted-kept : (x : PolyClass s.p) → (coefficientwise s retracted retracted-number).at ((moved_both s).at x) ≡ (moved_both s).at x
  retracted-kept = moved_both-kept s retracted retracted-number retracted-variable

  -- a standard member is zero
  pub standard_zero : (rs : List Relation) → IsReducedBasis s rs → (w : PolyClass s.p) → retracted.at w ≡ w → ((b : Monomial) → IsReducibleBy (map (λ r. r.lead) rs) b → part s b w ≡ (poly_terms s.p).ring.zero)
      → In (poly_terms s.p).ring (graph_ideal s) ((move (residue_ops s.p) (residue_laws s.p) (group_count s)).at w) → w ≡ (poly_terms s.p).ring.zero
  standard_zero rs basis w kept lacks r = ∥∥₁_elim (of_any (poly_terms s.p) w) ((poly_terms s.p).ring.is_set _ _) (λ o. back (basis-lowest s rs basis (read (ops s) (laws s) (field s) (space_count s) w)
      (multiple-of (ops s) (laws s) (field s) (space_count s) (subst (Of (poly_terms s.p) (IsFront (2 * space_count s))) kept (retract_front (poly_terms s.p) (2 * space_count s) o)) ∣ r ∣₁)
      (λ b q. over-coefficient (ops s) (laws s) (field s) _ b ∙ ap (into (ops s) (laws s) (field s)).at (sym (part-nested s b w) ∙ lacks b q) ∙ hom-zero (into (ops s) (laws s) (field s)))))
    where
      back : read (ops s) (laws s) (field s) (space_count s) w ≡ (over_ring (ops s) (laws s) (field s)).zero → w ≡ (poly_terms s.p).ring.zero
      back e = nest_injective (poly_terms s.p) (poly_terms s.p) (moving s) (space_count s) w _
          (over_injective (ops s) (laws s) (field s) _ _ (e ∙ sym (hom-zero (over (ops s) (laws s) (field s)))) ∙ sym (hom-zero (nested (ops s) (laws s) (field s) (space_count s))))
