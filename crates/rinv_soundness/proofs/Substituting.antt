-- Substitution at a list of polynomials, as contracts have it: what it does to variables and to moved polynomials.
--   var k                the variable at place k; variable-class: the class of `variable`
--   put images           the map of the classes; put-class: it is `substitute`
--   put-constant, put-variable    of a constant it is the constant, of a variable the image at its place
--   put-put              one substitution after another
--   move k               the variables moved past the first k; past-class: it is `past`
--   put-move             a substitution after a move
--   put_agree, put_front two substitutions with equal images are equal; on the first v variables, with equal first images
--   put-same             the first v variables put for themselves
--   image-variables, image-left, image-right    the images of a list of variables, and of two lists one after the other
use Rattle.std.proofs.Common.{◌≡◌, ℕ, zero, suc, ◌+◌, ◌<◌, List, [], ◌∷◌, ◌++◌, length, map, drop, replicate, get_or, refl, sym, ◌∙◌, ap, subst, arith}
use Rattle.std.specs.List.{range_with_len}
use Rattle.std.proofs.lemmas.List.{get_or-drop, get_or_append_left, get_or-append-add}
use Rattle.std.proofs.lemmas.List.FromFn.{get_or-map-range_with_len}
use Rattle.rinv_algebra.specs.Ring.{RingOps, RingLaws}
use Rattle.rinv_algebra.specs.Polynomial.{Polynomial, poly_ops, constant, variable}
use Rattle.rinv_algebra.specs.Value.{substitute}
use Rattle.rinv_algebra.proofs.PolynomialLaws.{poly_laws}
use Rattle.rinv_theory.proofs.CRing.{CRing, Hom, compose}
use Rattle.rinv_theory.proofs.Classes.{Class, class, class_ring, class_sound, class_ind, class-one}
use Rattle.rinv_theory.proofs.Monoid.{monomial, monomials, monoid_map-one}
use Rattle.rinv_theory.proofs.Universal.{relabel, relabel-term}
use Rattle.rinv_theory.proofs.Polynomials.{polynomials, poly_ring, term_at, class-term, class-constant}
use Rattle.rinv_theory.proofs.Substitution.{variable_monomial, agree_variables}
use Rattle.rinv_theory.proofs.Values.{constant_map, class_substitution, class-value, value-constant, value-variable, value-substitute}
use Rattle.rinv_theory.proofs.Of.{Of}
use Rattle.rinv_theory.proofs.Places.{behind, behind-list, behind-mul}
use Rattle.rinv_theory.proofs.Variables.{IsFront}
use Rattle.rinv_soundness.proofs.FirstVariables.{agree_front}

-- nothing is changed
unfoldable pub identity : {A : Type 0} (𝓐 : CRing A) → Hom 𝓐 𝓐
identity 𝓐 = record { at = λ x. x; add = λ x y. refl; mul = λ x y. refl; one = refl }

behind-variable : (k j : ℕ) → behind k (variable_monomial j) ≡ variable_monomial (k + j)
behind-variable k j = behind-list k _ ∙ ap monomial (zeros k)
  where
    zeros : (k : ℕ) → Path (List ℕ) (replicate k 0 ++ (replicate j 0 ++ 1 ∷ [])) (replicate (k + j) 0 ++ 1 ∷ [])
    zeros zero = let e : j ≡ 0 + j = omega arith in subst (λ (n : ℕ). Path (List ℕ) (replicate j 0 ++ 1 ∷ []) (replicate n 0 ++ 1 ∷ [])) e refl
    zeros (suc k) = let e : suc (k + j) ≡ suc k + j = omega arith in subst (λ (n : ℕ). Path (List ℕ) (0 ∷ (replicate k 0 ++ (replicate j 0 ++ 1 ∷ []))) (replicate n 0 ++ 1 ∷ [])) e (ap (λ (a : List ℕ). 0 ∷ a) (zeros k))

module _ {E : Type 0} (o : RingOps E) (l : RingLaws o) where
  abbrev poly : Polynomial E → Class (poly_ops o)
  poly f = class (poly_ops o) f

  -- the variable at a place
  abbrev pub var : ℕ → Class (poly_ops o)
  var k = term_at o l (class_ring o l).one (variable_monomial k)

  -- the image at a place, and 1 past them
  abbrev pub image : List (Polynomial E) → ℕ → Class (poly_ops o)
  image images k = class (poly_ops o) (get_or images k (poly_ops o).one)

  -- the class of a variable
  pub variable-class : (k : ℕ) → class (poly_ops o) (variable o k) ≡ var k
  variable-class k = class-term o l o.one (replicate k 0 ++ 1 ∷ []) ∙ ap (λ c. term_at o l c (variable_monomial k)) (class-one o l)

  -- the images put for the variables
  abbrev pub put : List (Polynomial E) → Hom (poly_ring o l) (poly_ring o l)
  put images = class_substitution o l (poly_ops o) (poly_laws o l) (constant o) (constant_map o l) images

  -- it is substitution
  pub put-class : (images : List (Polynomial E)) (f : Polynomial E) → class (poly_ops o) (substitute o images f) ≡ (put images).at (class (poly_ops o) f)
  put-class images f = class-value o l (poly_ops o) (poly_laws o l) (constant o) (constant_map o l) images f

  -- constants stay
  pub put-constant : (images : List (Polynomial E)) (c : Class o) → (put images).at (term_at o l c monomials.one) ≡ term_at o l c monomials.one
  put-constant images = class_ind o l (λ c. (put images).at (term_at o l c monomials.one) ≡ term_at o l c monomials.one) (λ c. (poly_ring o l).is_set _ _) (λ c.
      ap (put images).at (sym (class-constant o l c)) ∙ sym (put-class images (constant o c))
      ∙ class_sound (poly_ops o) (poly_laws o l) _ _ (value-constant o l (poly_ops o) (poly_laws o l) (constant o) (constant_map o l) images c) ∙ class-constant o l c)

  -- a variable becomes its image
  pub put-variable : (images : List (Polynomial E)) (k : ℕ) → (put images).at (var k) ≡ image images k
  put-variable images k =
      ap (put images).at (sym (variable-class k)) ∙ sym (put-class images (variable o k))
      ∙ class_sound (poly_ops o) (poly_laws o l) _ _ (value-variable o l (poly_ops o) (poly_laws o l) (constant o) (constant_map o l) images k)

  -- one after the other
  pub put-put : (images others : List (Polynomial E)) (x : Class (poly_ops o)) → (put images).at ((put others).at x) ≡ (put (map (substitute o images) others)).at x
  put-put images others = class_ind (poly_ops o) (poly_laws o l) _ (λ x. (poly_ring o l).is_set _ _) (λ f.
      ap (put images).at (sym (put-class others f)) ∙ sym (put-class images (substitute o others f))
      ∙ class_sound (poly_ops o) (poly_laws o l) _ _ (value-substitute o l (poly_ops o) (poly_laws o l) (constant o) (constant_map o l) images others f)
      ∙ put-class (map (substitute o images) others) f)

  -- images that are equal, place by place
  pub put_agree : (images others : List (Polynomial E)) → ((k : ℕ) → image images k ≡ image others k) → (x : Class (poly_ops o)) → (put images).at x ≡ (put others).at x
  put_agree images others e = agree_variables (polynomials o l) (poly_ring o l) (put images) (put others) (λ c. put-constant images c ∙ sym (put-constant others c)) (λ k. put-variable images k ∙ e k ∙ sym (put-variable others k))

  -- for polynomials in the first v variables, the first v images
  pub put_front : (images others : List (Polynomial E)) (v : ℕ) → ((k : ℕ) → k < v → image images k ≡ image others k) → {x : Class (poly_ops o)} → Of (polynomials o l) (IsFront v) x → (put images).at x ≡ (put others).at x
  put_front images others v e = agree_front (polynomials o l) (poly_ring o l) (put images) (put others) v (λ c. put-constant images c ∙ sym (put-constant others c)) (λ k h. put-variable images k ∙ e k h ∙ sym (put-variable others k))

  -- variables put for themselves
  pub put-same : (images : List (Polynomial E)) (v : ℕ) → ((k : ℕ) → k < v → image images k ≡ var k) → {x : Class (poly_ops o)} → Of (polynomials o l) (IsFront v) x → (put images).at x ≡ x
  unfolding identity
  put-same images v e = agree_front (polynomials o l) (poly_ring o l) (put images) (identity (poly_ring o l)) v (put-constant images) (λ k h. put-variable images k ∙ e k h)

  -- the variables moved past the first k
  abbrev pub move : ℕ → Hom (poly_ring o l) (poly_ring o l)
  move k = relabel (polynomials o l) (polynomials o l) (behind k) (behind-mul k)

  -- constants stay
  pub move-constant : (k : ℕ) (c : Class o) → (move k).at (term_at o l c monomials.one) ≡ term_at o l c monomials.one
  move-constant k c = relabel-term (polynomials o l) (polynomials o l) (behind k) (behind-mul k) c monomials.one ∙ ap (term_at o l c) (monoid_map-one monomials monomials (behind k) (behind-mul k))

  -- a variable becomes the one k places further
  pub move-variable : (k j : ℕ) → (move k).at (var j) ≡ var (k + j)
  move-variable k j = relabel-term (polynomials o l) (polynomials o l) (behind k) (behind-mul k) (class_ring o l).one (variable_monomial j) ∙ ap (term_at o l (class_ring o l).one) (behind-variable k j)

  -- a substitution after a move
  pub put-move : (images : List (Polynomial E)) (k : ℕ) (x : Class (poly_ops o)) → (put images).at ((move k).at x) ≡ (put (drop k images)).at x
  unfolding compose
  put-move images k = agree_variables (polynomials o l) (poly_ring o l) (compose (put images) (move k)) (put (drop k images))
      (λ c. ap (put images).at (move-constant k c) ∙ put-constant images c ∙ sym (put-constant (drop k images) c))
      (λ j. ap (put images).at (move-variable k j) ∙ put-variable images (k + j) ∙ ap poly (sym (get_or-drop k images j (poly_ops o).one)) ∙ sym (put-variable (drop k images) j))

  -- so many variables, from a place on: the k-th is the one at place j
  pub image-variables : (place count k j : ℕ) → k < count → place + k ≡ j → image (map (variable o) (range_with_len place count)) k ≡ var j
  image-variables place count k j h e = ap poly (get_or-map-range_with_len (variable o) place count k j (poly_ops o).one h e) ∙ variable-class j

  -- of two lists, one after the other: an image of the first
  pub image-left : (images others : List (Polynomial E)) (k : ℕ) → k < length images → image (images ++ others) k ≡ image images k
  image-left images others k h = ap poly (get_or_append_left images others (poly_ops o).one k h)

  -- an image of the second
  pub image-right : (images others : List (Polynomial E)) (v k j : ℕ) → length images ≡ v → v + k ≡ j → image (images ++ others) j ≡ image others k
  image-right images others v k j count e =
      let at : length images + k ≡ j = omega (arith, count, e) in
      ap (λ (i : ℕ). image (images ++ others) i) (sym at) ∙ ap poly (get_or-append-add images others k (poly_ops o).one)
