-- No generator Zj - gj is zero.
use Rattle.std.proofs.Common.{◌≡◌, ◌⊎◌, ℕ, ◌+◌, ◌-◌, ◌*◌, ◌<◌, ◌≤◌, List, [], ◌++◌, length, length-append, get_or, replicate, refl, sym, ◌∙◌, ap, subst, arith, inl, inr, false}
use Rattle.std.specs.Prelude.{IsFalse}
use Rattle.std.proofs.lemmas.List.{length-replicate, get_or-replicate}
use Rattle.std.proofs.lemmas.List.FromFn.{length-map-range_with_len}
use Rattle.rinv_algebra.specs.Residue.{residue_ops}
use Rattle.rinv_algebra.specs.Polynomial.{poly_ops, variable, is_zero}
use Rattle.rinv_algebra.proofs.PolynomialLaws.{poly_laws}
use Rattle.rinv_algebra.proofs.ResidueField.{residue_field_laws}
use Rattle.rinv_theory.proofs.CRing.{CRing, Hom, compose, add_neg, add_cancel}
use Rattle.rinv_theory.proofs.Classes.{Class, class, class-one, class-zero}
use Rattle.rinv_theory.proofs.Monoid.{monomials}
use Rattle.rinv_theory.proofs.Polynomials.{polynomials, poly_ring}
use Rattle.rinv_theory.proofs.Fields.{poly_domain}
use Rattle.rinv_theory.proofs.Of.{Of}
use Rattle.rinv_theory.proofs.Members.{generator}
use Rattle.rinv_theory.proofs.Variables.{IsFront}
use Rattle.rinv_defs.specs.System.{System, Poly, group_count, space_count, group_copy, variables}
use Rattle.rinv_defs.specs.SystemForm.{IsSystem}
use Rattle.rinv_defs.specs.Extended.{graph}
use Rattle.rinv_soundness.proofs.ExtendedIdeals.{class-nonzero}
use Rattle.rinv_soundness.proofs.FirstVariables.{low_or_high, agree_front}
use Rattle.rinv_soundness.proofs.Substituting.{put, put-constant, put-variable, image-variables, image-left, image-right}
use Rattle.rinv_soundness.proofs.GeneratorLists.{within_list}
use Rattle.rinv_soundness.proofs.SystemForms.{HasForm, system_form}
use Rattle.rinv_soundness.proofs.Relabels.{ops, laws, x_at, at, apart, apart-group, apart-space, graph-at}

module _ (s : System) (form : HasForm s) where
  abbrev Ring : CRing (Class (poly_ops (residue_ops s.p)))
  Ring = poly_ring (ops s) (laws s)

  -- t for each Z, and the other variables for themselves
  abbrev point : Poly → List Poly
  point t = group_copy s 0 ++ replicate (space_count s) t ++ variables s (group_count s + space_count s) (space_count s)

  abbrev at_t : Poly → Hom Ring Ring
  at_t t = put (ops s) (laws s) (point t)

  count-variables : (place count : ℕ) → length (variables s place count) ≡ count
  count-variables place count = length-map-range_with_len (variable (ops s)) place count

  front-count : (t : Poly) → length (group_copy s 0 ++ replicate (space_count s) t) ≡ group_count s + space_count s
  front-count t = let a = length-append (group_copy s 0) (replicate (space_count s) t) in let b = count-variables (0 * group_count s) (group_count s) in let c = length-replicate (space_count s) t in omega (arith, a, b, c)

  point-group : (t : Poly) (k : ℕ) → k < group_count s → at s (point t) k ≡ x_at s k
  point-group t k h =
      let low : k < length (group_copy s 0) = omega (arith, count-variables (0 * group_count s) (group_count s), h) in
      let more : k < length (group_copy s 0 ++ replicate (space_count s) t) = omega (arith, front-count t, h) in
      image-left (ops s) (laws s) (group_copy s 0 ++ replicate (space_count s) t) _ k more ∙ image-left (ops s) (laws s) (group_copy s 0) _ k low
      ∙ image-variables (ops s) (laws s) (0 * group_count s) (group_count s) k k h (omega arith)

  point-moved : (t : Poly) (j : ℕ) → j < space_count s → at s (point t) (group_count s + j) ≡ class (poly_ops (ops s)) t
  point-moved t j h =
      let within : group_count s + j < length (group_copy s 0 ++ replicate (space_count s) t) = omega (arith, front-count t, h) in
      image-left (ops s) (laws s) (group_copy s 0 ++ replicate (space_count s) t) _ (group_count s + j) within
      ∙ image-right (ops s) (laws s) (group_copy s 0) (replicate (space_count s) t) (group_count s) j _ (count-variables (0 * group_count s) (group_count s)) refl
      ∙ ap (class (poly_ops (ops s))) (get_or-replicate (space_count s) j t (poly_ops (ops s)).one h)

  point-space : (t : Poly) (j : ℕ) → j < space_count s → at s (point t) (group_count s + space_count s + j) ≡ x_at s (group_count s + space_count s + j)
  point-space t j h =
      image-right (ops s) (laws s) (group_copy s 0 ++ replicate (space_count s) t) _ (group_count s + space_count s) j _ (front-count t) refl
      ∙ image-variables (ops s) (laws s) (group_count s + space_count s) (space_count s) j _ h refl

  abbrev set_apart : Hom Ring Ring
  set_apart = put (ops s) (laws s) (apart s)

  -- what was set apart has no Z
  no-moved : (t u : Poly) {x : Class (poly_ops (residue_ops s.p))} → Of (polynomials (ops s) (laws s)) (IsFront (group_count s + space_count s)) x → (at_t t).at (set_apart.at x) ≡ (at_t u).at (set_apart.at x)
  unfolding compose
  no-moved t u = agree_front (polynomials (ops s) (laws s)) Ring (compose (at_t t) set_apart) (compose (at_t u) set_apart) (group_count s + space_count s)
      (λ c. fixed-constant t c ∙ sym (fixed-constant u c))
      (λ k h. fixed t k h (low_or_high k (group_count s)) ∙ sym (fixed u k h (low_or_high k (group_count s))))
    where
      fixed-constant : (t : Poly) (c : Class (residue_ops s.p)) → (at_t t).at (set_apart.at ((polynomials (ops s) (laws s)).term c monomials.one)) ≡ (polynomials (ops s) (laws s)).term c monomials.one
      fixed-constant t c = ap (at_t t).at (put-constant (ops s) (laws s) (apart s) c) ∙ put-constant (ops s) (laws s) (point t) c

      in_space : (t : Poly) (j : ℕ) → j < space_count s → (at_t t).at (at s (apart s) (group_count s + j)) ≡ at s (apart s) (group_count s + j)
      in_space t j h = ap (at_t t).at (apart-space s j h) ∙ put-variable (ops s) (laws s) (point t) _ ∙ point-space t j h ∙ sym (apart-space s j h)

      at_part : (t : Poly) (k : ℕ) → k < group_count s + space_count s → (k < group_count s) ⊎ (group_count s ≤ k) → (at_t t).at (at s (apart s) k) ≡ at s (apart s) k
      at_part t k h (inl i) = ap (at_t t).at (apart-group s k i) ∙ put-variable (ops s) (laws s) (point t) k ∙ point-group t k i ∙ sym (apart-group s k i)
      at_part t k h (inr i) = let e : group_count s + (k - group_count s) ≡ k = omega arith in subst (λ (k : ℕ). (at_t t).at (at s (apart s) k) ≡ at s (apart s) k) e (in_space t (k - group_count s) (omega arith))

      fixed : (t : Poly) (k : ℕ) → k < group_count s + space_count s → (k < group_count s) ⊎ (group_count s ≤ k) → (at_t t).at (set_apart.at (x_at s k)) ≡ at s (apart s) k
      fixed t k h i = ap (at_t t).at (put-variable (ops s) (laws s) (apart s) k) ∙ at_part t k h i

  action_first : (j : ℕ) → j < length s.action → Of (polynomials (ops s) (laws s)) (IsFront (group_count s + space_count s)) (at s s.action j)
  action_first j h = subst (λ f. Of (polynomials (ops s) (laws s)) (IsFront (group_count s + space_count s)) (class (poly_ops (ops s)) f)) (within_list s.action j [] (poly_ops (ops s)).one h) (form.action_front j h)

  graph-nonzero : (j : ℕ) → j < space_count s → IsFalse (is_zero (residue_ops s.p) (get_or (graph s) j []))
  graph-nonzero j h = class-nonzero (ops s) (laws s) (get_or (graph s) j []) (λ z.
      (poly_domain (ops s) (laws s) (residue_field_laws s.p)).one_zero (sym (class-one (poly_ops (ops s)) (poly_laws (ops s) (laws s))) ∙ value (poly_ops (ops s)).one z
      ∙ no-moved (poly_ops (ops s)).one [] (action_first j (omega (arith, form.action_count, h))) ∙ sym (value [] z) ∙ class-zero (poly_ops (ops s)) (poly_laws (ops s) (laws s))))
    where
      apart_from : (x y : Class (poly_ops (residue_ops s.p))) → Ring.add x (Ring.neg y) ≡ Ring.zero → x ≡ y
      apart_from x y e = add_cancel Ring x y (Ring.neg y) (e ∙ sym (add_neg Ring y))

      value : (t : Poly) → generator (ops s) (laws s) (graph s) j ≡ Ring.zero → class (poly_ops (ops s)) t ≡ (at_t t).at (set_apart.at (at s s.action j))
      value t z =
          sym (put-variable (ops s) (laws s) (point t) _ ∙ point-moved t j h)
          ∙ ap (at_t t).at (apart_from (x_at s (group_count s + j)) (set_apart.at (at s s.action j)) (sym (graph-at s form j h) ∙ z))

-- Zj - gj is not zero
pub graph_nonzero : (s : System) → IsSystem s → (j : ℕ) → j < space_count s → is_zero (residue_ops s.p) (get_or (graph s) j []) ≡ false
graph_nonzero s is j h = graph-nonzero s (system_form s is) j h
