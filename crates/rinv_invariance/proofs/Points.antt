-- Values of a system's polynomials at points of any algebra over the field of p elements.
--   Scalar p, scalars p  the field, as classes of residues; PolyClass p, poly_terms p: the polynomials
--   natural              a map of algebras after a substitution
--   values κ a fs        the values of a list of polynomials at the point a
--   product, inverse, act, unit    the system's maps at points
--   IsPoint              a point of the group: the group's ideal is zero there
--   IsOver κ h           a map of the polynomials' ring that keeps numbers
--   images h fs          the images of a list; images-times and the like: the maps' images are the maps at the images
use Rattle.std.proofs.Common.{◌≡◌, ℕ, List, [], ◌∷◌, ◌++◌, length, map, get_or, refl, ◌∙◌, ap, ap₂}
use Rattle.std.proofs.lemmas.List.{map-append}
use Rattle.rinv_algebra.specs.Residue.{residue_ops}
use Rattle.rinv_algebra.specs.Polynomial.{poly_ops, constant}
use Rattle.rinv_algebra.specs.Value.{substitute}
use Rattle.rinv_algebra.proofs.ResidueLaws.{residue_laws}
use Rattle.rinv_algebra.proofs.PolynomialLaws.{poly_laws}
use Rattle.rinv_theory.proofs.CRing.{CRing, Hom, compose}
use Rattle.rinv_theory.proofs.Classes.{Class, class, class_ring, class_ind}
use Rattle.rinv_theory.proofs.Monoid.{monomials}
use Rattle.rinv_theory.proofs.TermRing.{TermRing}
use Rattle.rinv_theory.proofs.Polynomials.{polynomials, class-constant}
use Rattle.rinv_theory.proofs.Values.{class_map, class_map-at, constant_map}
use Rattle.rinv_theory.proofs.Substitution.{substitution, substitution-term, substitution-unique, hom-monomial_at}
use Rattle.rinv_soundness.proofs.Substituting.{put-class}
use Rattle.rinv_defs.specs.System.{System, Poly, group_count, times, inverse_of, moved, unit_point, at_point}

-- the field of p elements, as classes of residues
abbrev pub Scalar : ℕ → Type 0
Scalar p = Class (residue_ops p)

-- its ring
abbrev pub scalars : (p : ℕ) → CRing (Scalar p)
scalars p = class_ring (residue_ops p) (residue_laws p)

-- the classes of the polynomials over it
abbrev pub PolyClass : ℕ → Type 0
PolyClass p = Class (poly_ops (residue_ops p))

-- their ring of polynomials
abbrev pub poly_terms : (p : ℕ) → TermRing (scalars p) monomials (PolyClass p)
poly_terms p = polynomials (residue_ops p) (residue_laws p)

-- the class of a polynomial
abbrev pub poly_class : (p : ℕ) → Poly → PolyClass p
poly_class p f = class (poly_ops (residue_ops p)) f

-- a map of algebras after a substitution puts the images of the coordinates
pub natural : {K P A B : Type 0} {𝓚 : CRing K} (𝓣 : TermRing 𝓚 monomials P) {𝓐 : CRing A} {𝓑 : CRing B} (κ : Hom 𝓚 𝓐) (κ' : Hom 𝓚 𝓑) (h : Hom 𝓐 𝓑) → ((c : K) → h.at (κ.at c) ≡ κ'.at c) → (a : List A) (x : P)
    → h.at ((substitution 𝓣 𝓐 κ a).at x) ≡ (substitution 𝓣 𝓑 κ' (map h.at a)).at x
unfolding compose
natural 𝓣 {𝓐 = 𝓐} {𝓑 = 𝓑} κ κ' h h_κ a x =
    substitution-unique 𝓣 𝓑 κ' (map h.at a) (compose h (substitution 𝓣 𝓐 κ a)) (λ c m. ap h.at (substitution-term 𝓣 𝓐 κ a c m) ∙ h.mul _ _ ∙ ap₂ 𝓑.mul (h_κ c) (hom-monomial_at h a m)) x

-- the image of each element of a list
pub map-map : {X Y Z : Type 0} (g : Y → Z) (f : X → Y) (xs : List X) → map g (map f xs) ≡ map (λ x. g (f x)) xs
map-map g f [] = refl
map-map g f (x ∷ xs) = ap (λ l. g (f x) ∷ l) (map-map g f xs)

-- maps that agree have the same images
pub map_agree : {X Y : Type 0} (f g : X → Y) → ((x : X) → f x ≡ g x) → (xs : List X) → map f xs ≡ map g xs
map_agree f g e [] = refl
map_agree f g e (x ∷ xs) = ap₂ ◌∷◌ (e x) (map_agree f g e xs)

module _ (s : System) where
  module _ {A : Type 0} {𝓐 : CRing A} (κ : Hom (scalars s.p) 𝓐) where
    -- the value at a point
    abbrev pub at : List A → Hom (poly_terms s.p).ring 𝓐
    at a = substitution (poly_terms s.p) 𝓐 κ a

    -- the values of a list
    abbrev pub values : List A → List Poly → List A
    values a fs = map (λ f. (at a).at (poly_class s.p f)) fs

    -- the product of two points
    abbrev pub product : List A → List A → List A
    product a b = values (a ++ b) s.product

    -- the inverse of a point
    abbrev pub inverse : List A → List A
    inverse a = values a s.inverse

    -- a point of the space, moved by a point of the group
    abbrev pub act : List A → List A → List A
    act a y = values (a ++ y) s.action

    -- the unit
    abbrev pub unit : List A
    unit = map (λ c. κ.at (class (residue_ops s.p) c)) s.unit

    -- the group's ideal is zero at a
    pub record IsPoint (a : List A) : Type 0 where
      pub size : length a ≡ group_count s
      pub zero : (k : ℕ) → (at a).at (poly_class s.p (get_or s.ideal k [])) ≡ 𝓐.zero

    -- h keeps numbers
    abbrev pub IsOver : Hom (poly_terms s.p).ring 𝓐 → Type 0
    IsOver h = (c : Scalar s.p) → h.at ((poly_terms s.p).term c monomials.one) ≡ κ.at c

    -- the images of a list
    abbrev pub images : Hom (poly_terms s.p).ring 𝓐 → List Poly → List A
    images h fs = map (λ f. h.at (poly_class s.p f)) fs

    module _ (h : Hom (poly_terms s.p).ring 𝓐) (over : IsOver h) where
      on_constants : (c : Scalar s.p) → h.at ((class_map (residue_ops s.p) (residue_laws s.p) (poly_ops (residue_ops s.p)) (poly_laws (residue_ops s.p) (residue_laws s.p)) (constant (residue_ops s.p)) (constant_map (residue_ops s.p) (residue_laws s.p))).at c) ≡ κ.at c
      on_constants = class_ind (residue_ops s.p) (residue_laws s.p) _ (λ c. 𝓐.is_set _ _) (λ c.
          ap h.at (class_map-at (residue_ops s.p) (residue_laws s.p) (poly_ops (residue_ops s.p)) (poly_laws (residue_ops s.p) (residue_laws s.p)) (constant (residue_ops s.p)) (constant_map (residue_ops s.p) (residue_laws s.p)) c ∙ class-constant (residue_ops s.p) (residue_laws s.p) c)
          ∙ over (class (residue_ops s.p) c))

      -- the image of a substitution is the value at the images
      pub image-substitute : (point : List Poly) (f : Poly) → h.at (poly_class s.p (substitute (residue_ops s.p) point f)) ≡ (at (images h point)).at (poly_class s.p f)
      image-substitute point f =
          ap h.at (put-class (residue_ops s.p) (residue_laws s.p) point f)
          ∙ natural (poly_terms s.p) (class_map (residue_ops s.p) (residue_laws s.p) (poly_ops (residue_ops s.p)) (poly_laws (residue_ops s.p) (residue_laws s.p)) (constant (residue_ops s.p)) (constant_map (residue_ops s.p) (residue_laws s.p))) κ h on_constants (map (poly_class s.p) point) (poly_class s.p f)
          ∙ ap (λ a. (at a).at (poly_class s.p f)) (map-map h.at (poly_class s.p) point)

      -- of a list
      pub images-at_point : (point fs : List Poly) → images h (at_point s point fs) ≡ values (images h point) fs
      images-at_point point fs = map-map (λ f. h.at (poly_class s.p f)) (substitute (residue_ops s.p) point) fs ∙ map_agree _ _ (image-substitute point) fs

      -- the image of a product
      pub images-times : (a b : List Poly) → images h (times s a b) ≡ product (images h a) (images h b)
      images-times a b = images-at_point (a ++ b) s.product ∙ ap (λ c. values c s.product) (map-append _ a b)

      -- of an inverse
      pub images-inverse_of : (a : List Poly) → images h (inverse_of s a) ≡ inverse (images h a)
      images-inverse_of a = images-at_point a s.inverse

      -- of a moved point
      pub images-moved : (a x : List Poly) → images h (moved s a x) ≡ act (images h a) (images h x)
      images-moved a x = images-at_point (a ++ x) s.action ∙ ap (λ c. values c s.action) (map-append _ a x)

      -- of the unit
      pub images-unit : images h (unit_point s) ≡ unit
      images-unit = map-map (λ f. h.at (poly_class s.p f)) (constant (residue_ops s.p)) s.unit ∙ map_agree _ _ (λ c. ap h.at (class-constant (residue_ops s.p) (residue_laws s.p) c) ∙ over (class (residue_ops s.p) c)) s.unit

  -- maps of algebras keep the system's maps
  module _ {A B : Type 0} {𝓐 : CRing A} {𝓑 : CRing B} (κ : Hom (scalars s.p) 𝓐) (κ' : Hom (scalars s.p) 𝓑) (h : Hom 𝓐 𝓑) (h_κ : (c : Scalar s.p) → h.at (κ.at c) ≡ κ'.at c) where
    -- the values of a list
    pub keep-values : (a : List A) (fs : List Poly) → map h.at (values κ a fs) ≡ values κ' (map h.at a) fs
    keep-values a fs = map-map h.at _ fs ∙ map_agree _ _ (λ f. natural (poly_terms s.p) κ κ' h h_κ a (poly_class s.p f)) fs

    -- a product
    pub keep-product : (a b : List A) → map h.at (product κ a b) ≡ product κ' (map h.at a) (map h.at b)
    keep-product a b = keep-values (a ++ b) s.product ∙ ap (λ c. values κ' c s.product) (map-append h.at a b)

    -- an inverse
    pub keep-inverse : (a : List A) → map h.at (inverse κ a) ≡ inverse κ' (map h.at a)
    keep-inverse a = keep-values a s.inverse

    -- a moved point
    pub keep-act : (a y : List A) → map h.at (act κ a y) ≡ act κ' (map h.at a) (map h.at y)
    keep-act a y = keep-values (a ++ y) s.action ∙ ap (λ c. values κ' c s.action) (map-append h.at a y)
