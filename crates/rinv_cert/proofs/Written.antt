-- As what the parts of a certificate are written.
--   basis-written .. relation-written     lists of entries
--   fractions-written, arrays-written, laws-written
--   Left                 what is still to be put of the laws, with one_more, no_name, no_law
use Rattle.std.proofs.Common.{◌≡◌, ℕ, ◌+◌, ◌<◌, ◌≤◌, List, [], ◌∷◌, map, zip, length, get_or, drop, refl, sym, ap, ap₂, ◌∙◌, add-one, drop-cons}
use Rattle.std.proofs.lemmas.List.{drop_all}
use Rattle.serde_json.specs.Data.{Data, array, Members, put}
use Rattle.serde_json.specs.View.{items_of}
use Rattle.rinv_defs.specs.System.{Poly}
use Rattle.rinv_defs.specs.Invariant.{Fraction}
use Rattle.rinv_json.specs.Keys.{law_keys}
use Rattle.rinv_json.specs.Written.{whole_data, list_data, tuple_data, poly_data, tied_data, basis_data, pair_data, tail_data, relation_data, with_members}
use Rattle.rinv_cert.specs.declared.certificate.Tied.{Tied}
use Rattle.rinv_cert.specs.declared.certificate.Tied.TheVariants.{Constant, Generator}
use Rattle.rinv_cert.specs.declared.certificate.PairItem.{PairItem}
use Rattle.rinv_cert.specs.declared.certificate.PairItem.TheVariants.{Coprime, Chain, Quotients}
use Rattle.rinv_cert.specs.Seen.{tied_of, basis_item_by, pair_item_by, tail_item_by, relation_item_by}
use Rattle.rinv_cert.specs.Shaped.{tied_written, pair_written, tail_written, relation_written}
use Rattle.rinv_cert.proofs.Same.{map-same}

same_list : (fs : List Poly) → map (λ f. f) fs ≡ fs
same_list fs = map-same (λ f. f) (λ f. refl) fs

same_arrays : (us : List (List Poly)) → map (map (λ f. f)) us ≡ us
same_arrays us = map-same (map (λ f. f)) same_list us

map-seen : {A B : Type 0} (w : A → Data) (v : B → Data) (g : A → B) → ((x : A) → w x ≡ v (g x)) → (xs : List A) → map w xs ≡ map v (map g xs)
map-seen w v g h [] = refl
map-seen w v g h (x ∷ xs) = ap₂ (λ d ds. d ∷ ds) (h x) (map-seen w v g h xs)

list-seen : {A B : Type 0} (w : A → Data) (v : B → Data) (g : A → B) → ((x : A) → w x ≡ v (g x)) → (xs : List A) → list_data w xs ≡ list_data v (map g xs)
list-seen w v g h xs = ap (λ ds. array (items_of ds)) (map-seen w v g h xs)

abbrev basis_written : Poly × List Poly → Data
basis_written b = tuple_data (poly_data b.0 ∷ list_data poly_data b.1 ∷ [])

pub basis-written : (xs : List (Poly × List Poly)) → list_data basis_written xs ≡ list_data (basis_data poly_data) (map (basis_item_by (λ f. f)) xs)
basis-written xs = list-seen basis_written (basis_data poly_data) (basis_item_by (λ f. f)) (λ b. ap (λ us. tuple_data (poly_data b.0 ∷ list_data poly_data us ∷ [])) (sym (same_list b.1))) xs

a_pair : (t : PairItem Poly) → pair_written poly_data t ≡ pair_data poly_data (pair_item_by (λ f. f) t)
a_pair (Coprime i j) = refl
a_pair (Chain i j k) = refl
a_pair (Quotients i j q) = ap (λ us. pair_written poly_data (Quotients i j us)) (sym (same_list q))

pub pairs-written : (xs : List (PairItem Poly)) → list_data (pair_written poly_data) xs ≡ list_data (pair_data poly_data) (map (pair_item_by (λ f. f)) xs)
pairs-written xs = list-seen (pair_written poly_data) (pair_data poly_data) (pair_item_by (λ f. f)) a_pair xs

a_tie : (t : Tied) → tied_written t ≡ tied_data (tied_of t)
a_tie (Constant v) = refl
a_tie (Generator k) = refl

a_tail : (t : List ℕ × Poly × Tied) → tail_written poly_data t ≡ tail_data poly_data (tail_item_by (λ f. f) t)
a_tail t = ap (λ e. tuple_data (list_data whole_data t.0 ∷ poly_data t.1 ∷ e ∷ [])) (a_tie t.2)

a_relation : (r : List ℕ × Poly × List (List ℕ × Poly × Tied) × List Poly) → relation_written poly_data r ≡ relation_data poly_data (relation_item_by (λ f. f) r)
a_relation r = ap₂ (λ ts us. tuple_data (list_data whole_data r.0 ∷ poly_data r.1 ∷ ts ∷ us ∷ []))
    (list-seen (tail_written poly_data) (tail_data poly_data) (tail_item_by (λ f. f)) a_tail r.2) (ap (list_data poly_data) (sym (same_list r.3)))

pub relations-written : (xs : List (List ℕ × Poly × List (List ℕ × Poly × Tied) × List Poly)) → list_data (relation_written poly_data) xs ≡ list_data (relation_data poly_data) (map (relation_item_by (λ f. f)) xs)
relations-written xs = list-seen (relation_written poly_data) (relation_data poly_data) (relation_item_by (λ f. f)) a_relation xs

abbrev fraction_written : Fraction → Data
fraction_written f = tuple_data (poly_data f.0 ∷ poly_data f.1 ∷ [])

pub fractions-written : (fs : List Fraction) → list_data fraction_written fs ≡ list_data (λ (f : Fraction). list_data poly_data (f.0 ∷ f.1 ∷ [])) (map (λ x. (x.0, x.1)) fs)
fractions-written fs = list-seen fraction_written (λ (f : Fraction). list_data poly_data (f.0 ∷ f.1 ∷ [])) (λ x. (x.0, x.1)) (λ f. refl) fs

pub arrays-written : (us : List (List Poly)) → list_data (list_data poly_data) us ≡ list_data (list_data poly_data) (map (map (λ f. f)) us)
arrays-written us = ap (list_data (list_data poly_data)) (sym (same_arrays us))

pub laws-written : (ls : List (List (List Poly))) → map (list_data (list_data poly_data)) ls ≡ map (list_data (list_data poly_data)) (map (map (map (λ f. f))) ls)
laws-written ls = ap (map (list_data (list_data poly_data))) (sym (map-same (map (map (λ f. f))) same_arrays ls))

-- ---- the laws, one by one

module _ {A : Type 0} (w : A → Data) (xs : List A) where
  -- those that were put, and then the others
  abbrev pub Left : Members → ℕ → Members
  Left m k = with_members m (zip (drop k law_keys) (map w (drop k xs)))

  pub one_more : (m n : Members) (k : ℕ) (x : A) (name : List ℕ) → k < length xs → x ≡ get_or xs k x → drop k law_keys ≡ name ∷ drop (k + 1) law_keys → n ≡ put name (w x) m → Left n (k + 1) ≡ Left m k
  one_more m n k x name within is named is_put =
      let split : drop k xs ≡ x ∷ drop (k + 1) xs = rw (add-one, drop-cons xs k x, ← is) refl in
      ap (λ z. Left z (k + 1)) is_put ∙ sym (ap₂ (λ ks ys. with_members m (zip ks (map w ys))) named split)

  pub no_name : (m : Members) (k : ℕ) → drop k law_keys ≡ [] → Left m k ≡ m
  no_name m k h = ap (λ ks. with_members m (zip ks (map w (drop k xs)))) h

  zip-nil : (ks : List (List ℕ)) → zip ks (map w []) ≡ []
  zip-nil [] = refl
  zip-nil (k ∷ ks) = refl

  pub no_law : (m : Members) (k : ℕ) → length xs ≤ k → Left m k ≡ m
  no_law m k h = ap (λ ys. with_members m (zip (drop k law_keys) (map w ys))) (drop_all k xs h) ∙ ap (with_members m) (zip-nil (drop k law_keys))
