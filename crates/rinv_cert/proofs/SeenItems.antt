-- The entries of a certificate have the shapes of the values that stand for them.
--   basis-seen, pair-seen, relation-seen
use Rattle.std.proofs.Common.{◌≡◌, ℕ, Bool, true, false, List, [], ◌∷◌, map, Option, Some, None, option_map, refl, sym, ap, ap₂, ◌∙◌}
use Rattle.std.specs.Prelude.{codes, bytes_eq, if◌then◌else◌}
use Rattle.serde_json.specs.Data.{Data, Items}
use Rattle.serde_json.specs.Find.{as_str, as_array}
use Rattle.rinv_defs.specs.System.{Poly}
use Rattle.rinv_defs.specs.Certificate as defined
use Rattle.rinv_json.specs.Shapes.{◌>>=◌, elements, whole, each, list_of, pair_of, three_of, triple_of, four_of, quadruple_of, poly, or_else}
use Rattle.rinv_json.specs.Items.{tied, basis_item, pair_item, tail_item, relation_item}
use Rattle.rinv_cert.specs.declared.certificate.Tied.{Tied}
use Rattle.rinv_cert.specs.declared.certificate.Tied.TheVariants.{Constant, Generator}
use Rattle.rinv_cert.specs.Seen.{tied_of, basis_item_by, pair_item_by, tail_item_by, relation_item_by}
use Rattle.rinv_cert.specs.Shaped.{tied_shape, coprime_shape, chain_shape, quotients_shape, pair_shape}
use Rattle.rinv_cert.proofs.Same.{map-same}

same_list : (fs : List Poly) → map (λ f. f) fs ≡ fs
same_list fs = map-same (λ f. f) (λ f. refl) fs

-- maps one behind the other
map_map : {A B C : Type 0} (f : A → B) (g : B → C) (h : A → C) → ((x : A) → h x ≡ g (f x)) → (o : Option A) → option_map h o ≡ option_map g (option_map f o)
map_map f g h e None = refl
map_map f g h e (Some x) = ap Some (e x)

same_map : {A B : Type 0} (f g : A → B) → ((x : A) → f x ≡ g x) → (o : Option A) → option_map f o ≡ option_map g o
same_map f g e None = refl
same_map f g e (Some x) = ap Some (e x)

-- ---- the basis

pub basis-seen : (d : Data) → basis_item poly d ≡ option_map (basis_item_by (λ f. f)) (pair_of poly (list_of poly) d)
basis-seen d = same_map _ _ (λ x. ap (λ (us : List Poly). record { h = x.0; cofactors = us }) (sym (same_list x.1))) (pair_of poly (list_of poly) d)

-- ---- the pairs

either : {A B : Type 0} (g : A → B) (o p : Option A) → or_else (option_map g o) (option_map g p) ≡ option_map g (or_else o p)
either g None p = refl
either g (Some x) p = refl

pub pair-seen : (d : Data) → pair_item poly d ≡ option_map (pair_item_by (λ f. f)) (pair_shape poly d)
pair-seen d =
    ap₂ or_else (map_map _ (pair_item_by (λ f. f)) _ (λ x. refl) _)
    (ap₂ or_else (map_map _ (pair_item_by (λ f. f)) _ (λ x. refl) _) (map_map _ (pair_item_by (λ f. f)) _ (λ x. ap (defined.by_quotients x.1 x.2) (sym (same_list x.3))) _)
    ∙ either (pair_item_by (λ f. f)) (chain_shape poly d) (quotients_shape poly d))
    ∙ either (pair_item_by (λ f. f)) (coprime_shape poly d) _

-- ---- the relations

abbrev named : Bool → Bool → ℕ → Option Tied
named b c n = if b then Some (Constant n) else if c then Some (Generator n) else None

abbrev defined_named : Bool → Bool → ℕ → Option defined.Tied
defined_named b c n = if b then Some (defined.to_constant n) else if c then Some (defined.to_generator n) else None

named-seen : (b c : Bool) (n : ℕ) → defined_named b c n ≡ option_map tied_of (named b c n)
named-seen true c n = refl
named-seen false true n = refl
named-seen false false n = refl

tied-seen : (d : Data) → tied d ≡ option_map tied_of (tied_shape d)
tied-seen d = go (pair_of as_str whole d)
  where
    go : (o : Option (List ℕ × ℕ)) → (o >>= (λ x. defined_named (bytes_eq x.0 (codes "constant")) (bytes_eq x.0 (codes "generator")) x.1)) ≡ option_map tied_of (o >>= (λ x. named (bytes_eq x.0 (codes "constant")) (bytes_eq x.0 (codes "generator")) x.1))
    go None = refl
    go (Some x) = named-seen _ _ x.1

abbrev all_three : {X Y Z : Type 0} → Option X → Option Y → Option Z → Option (X × Y × Z)
all_three p q r = p >>= (λ x. q >>= (λ y. r >>= (λ z. Some (x, y, z))))

abbrev all_four : {X Y Z W : Type 0} → Option X → Option Y → Option Z → Option W → Option (X × Y × Z × W)
all_four p q r s = p >>= (λ x. q >>= (λ y. r >>= (λ z. s >>= (λ w. Some (x, y, z, w)))))

module _ {A B : Type 0} (shape : Data → Option A) (other : Data → Option B) (g : A → B) (seen : (d : Data) → other d ≡ option_map g (shape d)) where
  step : (o : Option A) (r : Option (List A)) → (option_map g o >>= (λ x. option_map (map g) r >>= (λ xs. Some (x ∷ xs)))) ≡ option_map (map g) (o >>= (λ x. r >>= (λ xs. Some (x ∷ xs))))
  step None r = refl
  step (Some x) None = refl
  step (Some x) (Some xs) = refl

  each-seen : (ds : List Data) → each other ds ≡ option_map (map g) (each shape ds)
  unfolding each
  each-seen [] = refl
  each-seen (d ∷ ds) = rw (seen d, each-seen ds) (step (shape d) (each shape ds))

  list_of-seen : (d : Data) → list_of other d ≡ option_map (map g) (list_of shape d)
  list_of-seen d = go (as_array d)
    where
      go : (o : Option Items) → (o >>= (λ ds. each other (elements ds))) ≡ option_map (map g) (o >>= (λ ds. each shape (elements ds)))
      go None = refl
      go (Some ds) = each-seen (elements ds)

  -- as the last of three
  module _ {X Y : Type 0} (f : Data → Option X) (h : Data → Option Y) where
    last3 : (p : Option X) (q : Option Y) (o : Option A) → all_three p q (option_map g o) ≡ option_map (λ t. (t.0, t.1, g t.2)) (all_three p q o)
    last3 None q o = refl
    last3 (Some x) None o = refl
    last3 (Some x) (Some y) None = refl
    last3 (Some x) (Some y) (Some z) = refl

    three-seen : (ds : List Data) → three_of f h other ds ≡ option_map (λ t. (t.0, t.1, g t.2)) (three_of f h shape ds)
    three-seen [] = refl
    three-seen (a ∷ []) = refl
    three-seen (a ∷ b ∷ []) = refl
    three-seen (a ∷ b ∷ c ∷ []) = rw (seen c) (last3 (f a) (h b) (shape c))
    three-seen (a ∷ b ∷ c ∷ d ∷ ds) = refl

    triple-seen : (d : Data) → triple_of f h other d ≡ option_map (λ t. (t.0, t.1, g t.2)) (triple_of f h shape d)
    triple-seen d = go (as_array d)
      where
        go : (o : Option Items) → (o >>= (λ ds. three_of f h other (elements ds))) ≡ option_map (λ t. (t.0, t.1, g t.2)) (o >>= (λ ds. three_of f h shape (elements ds)))
        go None = refl
        go (Some ds) = three-seen (elements ds)

    -- and as the third of four
    module _ {Z : Type 0} (i : Data → Option Z) where
      third4 : (p : Option X) (q : Option Y) (o : Option A) (r : Option Z) → all_four p q (option_map g o) r ≡ option_map (λ t. (t.0, t.1, g t.2, t.3)) (all_four p q o r)
      third4 None q o r = refl
      third4 (Some x) None o r = refl
      third4 (Some x) (Some y) None r = refl
      third4 (Some x) (Some y) (Some z) None = refl
      third4 (Some x) (Some y) (Some z) (Some w) = refl

      four-seen : (ds : List Data) → four_of f h other i ds ≡ option_map (λ t. (t.0, t.1, g t.2, t.3)) (four_of f h shape i ds)
      four-seen [] = refl
      four-seen (a ∷ []) = refl
      four-seen (a ∷ b ∷ []) = refl
      four-seen (a ∷ b ∷ c ∷ []) = refl
      four-seen (a ∷ b ∷ c ∷ d ∷ []) = rw (seen c) (third4 (f a) (h b) (shape c) (i d))
      four-seen (a ∷ b ∷ c ∷ d ∷ e ∷ ds) = refl

      quadruple-seen : (d : Data) → quadruple_of f h other i d ≡ option_map (λ t. (t.0, t.1, g t.2, t.3)) (quadruple_of f h shape i d)
      quadruple-seen d = go (as_array d)
        where
          go : (o : Option Items) → (o >>= (λ ds. four_of f h other i (elements ds))) ≡ option_map (λ t. (t.0, t.1, g t.2, t.3)) (o >>= (λ ds. four_of f h shape i (elements ds)))
          go None = refl
          go (Some ds) = four-seen (elements ds)

abbrev tail_shape : Data → Option (List ℕ × Poly × Tied)
tail_shape = triple_of (list_of whole) poly tied_shape

tail-seen : (d : Data) → tail_item poly d ≡ option_map (tail_item_by (λ f. f)) (tail_shape d)
tail-seen d =
    ap (option_map (λ (x : List ℕ × Poly × defined.Tied). record { alpha = x.0; c = x.1; tied = x.2 })) (triple-seen tied_shape tied tied_of tied-seen (list_of whole) poly d)
    ∙ sym (map_map (λ t. (t.0, t.1, tied_of t.2)) (λ (x : List ℕ × Poly × defined.Tied). record { alpha = x.0; c = x.1; tied = x.2 }) (tail_item_by (λ f. f)) (λ x. refl) (tail_shape d))

abbrev make_relation : List ℕ × Poly × List defined.TailItem × List Poly → defined.RelationItem
make_relation x = record { a = x.0; d = x.1; tail = x.2; cofactors = x.3 }

pub relation-seen : (d : Data) → relation_item poly d ≡ option_map (relation_item_by (λ f. f)) (quadruple_of (list_of whole) poly (list_of tail_shape) (list_of poly) d)
relation-seen d =
    let tails = list_of-seen tail_shape (tail_item poly) (tail_item_by (λ f. f)) tail-seen in
    ap (option_map make_relation) (quadruple-seen (list_of tail_shape) (list_of (tail_item poly)) (map (tail_item_by (λ f. f))) tails (list_of whole) poly (list_of poly) d)
    ∙ sym (map_map (λ t. (t.0, t.1, map (tail_item_by (λ f. f)) t.2, t.3)) make_relation (relation_item_by (λ f. f)) (λ x. ap (λ us. make_relation (x.0, x.1, map (tail_item_by (λ f. f)) x.2, us)) (same_list x.3)) (quadruple_of (list_of whole) poly (list_of tail_shape) (list_of poly) d))
