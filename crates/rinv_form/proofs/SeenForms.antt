-- The forms of entries by sizes are the definition's, of what the entries stand for.
--   basis-forms, pair-forms, relation-forms, law-forms
use Rattle.std.proofs.Common.{◌≡◌, ℕ, Bool, List, [], ◌∷◌, map, length, ◌&&◌, ◌==◌, refl, ap, ap₂}
use Rattle.std.specs.Prelude.{zip}
use Rattle.std.specs.List.{list_all}
use Rattle.rinv_defs.specs.System.{Poly}
use Rattle.rinv_defs.specs.Laws.{Law, L1, L2, L3, L4, L5, L6, A1, A2}
use Rattle.rinv_defs.specs.Certificate.{Certificate}
use Rattle.rinv_defs.specs.Format.{laws_with_cofactors, are_law_cofactors, is_basis_item, is_pair_item, is_tied, is_tail_item, is_relation_item}
use Rattle.rinv_cert.specs.declared.certificate.PairItem.{PairItem}
use Rattle.rinv_cert.specs.declared.certificate.PairItem.TheVariants.{Coprime, Chain, Quotients}
use Rattle.rinv_cert.specs.declared.certificate.Tied.{Tied}
use Rattle.rinv_cert.specs.declared.certificate.Tied.TheVariants.{Constant, Generator}
use Rattle.rinv_cert.specs.Seen.{tied_of, basis_item_by, pair_item_by, tail_item_by, relation_item_by}
use Rattle.rinv_cert.proofs.Same.{map-same}
use Rattle.rinv_form.specs.declared.sizes.Sizes.{Sizes}
use Rattle.rinv_form.specs.Sized.{IsSized}
use Rattle.rinv_form.specs.ItemForms.{is_basis_form, is_pair_form, is_tied_form, is_tail_form, is_relation_form}
use Rattle.rinv_form.specs.LawShapes.{is_law_list, are_law_lists}

-- a test of all in a mapped list
mapped-tests : {A B : Type 0} (f : A → B) (p : B → Bool) (q : A → Bool) → ((x : A) → p (f x) ≡ q x) → (xs : List A) → list_all p (map f xs) ≡ list_all q xs
mapped-tests f p q h [] = refl
mapped-tests f p q h (x ∷ xs) = ap₂ (λ a b. a && b) (h x) (mapped-tests f p q h xs)

same-tests : {A : Type 0} (p q : A → Bool) → ((x : A) → p x ≡ q x) → (xs : List A) → list_all p xs ≡ list_all q xs
same-tests p q h [] = refl
same-tests p q h (x ∷ xs) = ap₂ (λ a b. a && b) (h x) (same-tests p q h xs)

map-twice : {A B C : Type 0} (f : A → B) (g : B → C) (h : A → C) → ((x : A) → g (f x) ≡ h x) → (xs : List A) → map g (map f xs) ≡ map h xs
map-twice f g h e [] = refl
map-twice f g h e (x ∷ xs) = ap₂ (λ y ys. y ∷ ys) (e x) (map-twice f g h e xs)

same-list : (fs : List Poly) → map (λ f. f) fs ≡ fs
same-list fs = map-same (λ f. f) (λ f. refl) fs

module _ (c : Certificate) (z : Sizes) (is : IsSized c z) where
  -- ---- the basis

  basis-form : (b : Poly × List Poly) → is_basis_item c.system (basis_item_by (λ f. f) b) ≡ is_basis_form z b
  basis-form b = rw (same-list b.1, is.field, is.graph, is.whole, is.ideal) refl

  pub basis-forms : (bs : List (Poly × List Poly)) → list_all (is_basis_item c.system) (map (basis_item_by (λ f. f)) bs) ≡ list_all (is_basis_form z) bs
  basis-forms bs = mapped-tests (basis_item_by (λ f. f)) (is_basis_item c.system) (is_basis_form z) basis-form bs

  -- ---- the pairs

  pair-form : (e : PairItem Poly) → is_pair_item c.system (length c.basis) (pair_item_by (λ f. f) e) ≡ is_pair_form z e
  pair-form (Coprime i j) = rw is.basis refl
  pair-form (Chain i j k) = rw is.basis refl
  pair-form (Quotients i j q) = rw (same-list q, is.basis, is.field, is.graph) refl

  pub pair-forms : (es : List (PairItem Poly)) → list_all (is_pair_item c.system (length c.basis)) (map (pair_item_by (λ f. f)) es) ≡ list_all (is_pair_form z) es
  pair-forms es = mapped-tests (pair_item_by (λ f. f)) (is_pair_item c.system (length c.basis)) (is_pair_form z) pair-form es

  -- ---- the relations

  tied-form : (t : Tied) → is_tied c.system c.fractions (tied_of t) ≡ is_tied_form z t
  tied-form (Constant v) = rw is.field refl
  tied-form (Generator k) = rw is.fractions refl

  tail-form : (t : List ℕ × Poly × Tied) → is_tail_item c.system c.fractions (tail_item_by (λ f. f) t) ≡ is_tail_form z t
  tail-form t = rw (tied-form t.2, is.field, is.space) refl

  relation-form : (r : List ℕ × Poly × List (List ℕ × Poly × Tied) × List Poly) → is_relation_item c.system c.fractions (relation_item_by (λ f. f) r) ≡ is_relation_form z r
  relation-form r =
      rw (
        mapped-tests (tail_item_by (λ f. f)) (is_tail_item c.system c.fractions) (is_tail_form z) tail-form r.2,
        map-twice (tail_item_by (λ f. f)) (λ t. t.alpha) (λ t. t.0) (λ t. refl) r.2,
        same-list r.3,
        is.field,
        is.space,
        is.whole,
        is.ideal,
      )
      refl

  pub relation-forms : (rs : List (List ℕ × Poly × List (List ℕ × Poly × Tied) × List Poly)) → list_all (is_relation_item c.system c.fractions) (map (relation_item_by (λ f. f)) rs) ≡ list_all (is_relation_form z) rs
  relation-forms rs = mapped-tests (relation_item_by (λ f. f)) (is_relation_item c.system c.fractions) (is_relation_form z) relation-form rs

  -- ---- the laws

  law-form : (x : Law × List (List Poly)) → are_law_cofactors c.system x ≡ is_law_list z x
  law-form (L1, arrays) = rw (is.field, is.group, is.ideal) refl
  law-form (L2, arrays) = rw (is.field, is.group, is.ideal) refl
  law-form (L3, arrays) = rw (is.field, is.group, is.ideal) refl
  law-form (L4, arrays) = rw (is.field, is.group, is.ideal) refl
  law-form (L5, arrays) = rw (is.field, is.group, is.ideal) refl
  law-form (L6, arrays) = rw (is.field, is.group, is.ideal) refl
  law-form (A1, arrays) = rw (is.field, is.space, is.ideal) refl
  law-form (A2, arrays) = rw (is.field, is.group, is.space, is.ideal) refl

  pub law-forms : (lists : List (List (List Poly))) → (length lists == length laws_with_cofactors && list_all (are_law_cofactors c.system) (zip laws_with_cofactors lists)) ≡ are_law_lists z lists
  law-forms lists = ap (λ b. length lists == length laws_with_cofactors && b) (same-tests (are_law_cofactors c.system) (is_law_list z) law-form (zip laws_with_cofactors lists))
