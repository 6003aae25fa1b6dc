-- Arrays of JSON, as lists.
use Rattle.std.proofs.Common.{◌≡◌, ℕ, ◌+◌, ◌<◌, ◌≤◌, List, [], ◌∷◌, ◌++◌, map, length, get_or, drop, Option, Some, None, option_map, refl, sym, ap, ◌∙◌, add-one, drop-cons, append_assoc}
use Rattle.std.proofs.lemmas.List.{append-nil, drop_all}
use Rattle.serde_json.specs.Data.{Data}
use Rattle.serde_json.specs.Find.{as_array}
use Rattle.serde_json.specs.View.{view, items_of, items_view}
use Rattle.serde_json.specs.declared.value.Value.{Value}
use Rattle.rinv_json.specs.Shapes.{each, elements, list_of, pair_of, triple_of, quadruple_of, ◌>>=◌}

-- what was read, and then what the rest reads as
abbrev pub with_front : {A : Type 0} → List A → Option (List A) → Option (List A)
with_front xs o = option_map (λ ys. xs ++ ys) o

pub elements-items_of : (ds : List Data) → elements (items_of ds) ≡ ds
elements-items_of [] = refl
elements-items_of (d ∷ ds) = ap (λ l. d ∷ l) (elements-items_of ds)

pub list_of-array : {A : Type 0} (shape : Data → Option A) (d : Data) (vs : List Value) → Some (items_view vs) ≡ as_array d → list_of shape d ≡ each shape (map view vs)
list_of-array shape d vs e = ap (λ o. o >>= (λ ds. each shape (elements ds))) (sym e) ∙ ap (each shape) (elements-items_of (map view vs))

pub list_of-none : {A : Type 0} (shape : Data → Option A) (d : Data) → None ≡ as_array d → list_of shape d ≡ None
list_of-none shape d e = ap (λ o. o >>= (λ ds. each shape (elements ds))) (sym e)

pub each-nil : {A : Type 0} (shape : Data → Option A) → each shape [] ≡ Some []
unfolding each
each-nil shape = refl

joined : {A : Type 0} (x : A) (o : Option (List A)) → (o >>= (λ xs. Some (x ∷ xs))) ≡ with_front (x ∷ []) o
joined x None = refl
joined x (Some xs) = refl

pub each-some : {A : Type 0} (shape : Data → Option A) (d : Data) (ds : List Data) (x : A) → Some x ≡ shape d → each shape (d ∷ ds) ≡ with_front (x ∷ []) (each shape ds)
unfolding each
each-some shape d ds x e = rw (← e) (joined x (each shape ds))

pub each-none : {A : Type 0} (shape : Data → Option A) (d : Data) (ds : List Data) → None ≡ shape d → each shape (d ∷ ds) ≡ None
unfolding each
each-none shape d ds e = rw (← e) refl

pub with_front-append : {A : Type 0} (xs ys : List A) (o : Option (List A)) → with_front xs (with_front ys o) ≡ with_front (xs ++ ys) o
with_front-append xs ys None = refl
with_front-append xs ys (Some zs) = ap Some (sym (append_assoc xs ys zs))

pub with_front-nil : {A : Type 0} (o : Option (List A)) → with_front [] o ≡ o
with_front-nil None = refl
with_front-nil (Some zs) = refl

-- the values from the k-th on
pub rest_of : (vs : List Value) (k : ℕ) (v : Value) → k < length vs → v ≡ get_or vs k v → map view (drop k vs) ≡ view v ∷ map view (drop (k + 1) vs)
rest_of vs k v within is = let split : drop k vs ≡ v ∷ drop (k + 1) vs = rw (add-one, drop-cons vs k v, ← is) refl in ap (map view) split

-- one more was read
pub each_step : {A : Type 0} (shape : Data → Option A) (vs : List Value) (k : ℕ) (v : Value) (x : A) (found : List A) → k < length vs → v ≡ get_or vs k v → Some x ≡ shape (view v)
    → with_front (found ++ x ∷ []) (each shape (map view (drop (k + 1) vs))) ≡ with_front found (each shape (map view (drop k vs)))
each_step shape vs k v x found within is read =
    sym (with_front-append found (x ∷ []) _) ∙ ap (with_front found) (sym (each-some shape (view v) (map view (drop (k + 1) vs)) x read) ∙ ap (each shape) (sym (rest_of vs k v within is)))

-- one has another shape
pub each_stop : {A : Type 0} (shape : Data → Option A) (vs : List Value) (k : ℕ) (v : Value) (found : List A) → k < length vs → v ≡ get_or vs k v → None ≡ shape (view v)
    → with_front found (each shape (map view (drop k vs))) ≡ None
each_stop shape vs k v found within is none = ap (with_front found) (ap (each shape) (rest_of vs k v within is) ∙ each-none shape (view v) (map view (drop (k + 1) vs)) none)

pub each_end : {A : Type 0} (shape : Data → Option A) (vs : List Value) (k : ℕ) (found : List A) → length vs ≤ k → with_front found (each shape (map view (drop k vs))) ≡ Some found
each_end shape vs k found h = rw (drop_all k vs h, each-nil shape) (ap Some (append-nil found))

-- ---- arrays of two

pub pair-short : {A B : Type 0} (f : Data → Option A) (g : Data → Option B) (d : Data) (vs : List Value) → Some (items_view vs) ≡ as_array d → (length vs ≡ 2 → ⊥) → None ≡ pair_of f g d
pair-short f g d [] e h = rw (← e) refl
pair-short f g d (v ∷ []) e h = rw (← e) refl
pair-short f g d (v ∷ w ∷ []) e h = absurd (h refl)
pair-short f g d (v ∷ w ∷ x ∷ vs) e h = rw (← e) refl

-- ---- arrays of three

pub triple-short : {A B C : Type 0} (f : Data → Option A) (g : Data → Option B) (h : Data → Option C) (d : Data) (vs : List Value) → Some (items_view vs) ≡ as_array d → (length vs ≡ 3 → ⊥) → None ≡ triple_of f g h d
triple-short f g h d [] e n = rw (← e) refl
triple-short f g h d (v ∷ []) e n = rw (← e) refl
triple-short f g h d (v ∷ w ∷ []) e n = rw (← e) refl
triple-short f g h d (v ∷ w ∷ x ∷ []) e n = absurd (n refl)
triple-short f g h d (v ∷ w ∷ x ∷ y ∷ vs) e n = rw (← e) refl

-- ---- arrays of four

pub quadruple-short : {A B C D : Type 0} (f : Data → Option A) (g : Data → Option B) (h : Data → Option C) (i : Data → Option D) (d : Data) (vs : List Value) → Some (items_view vs) ≡ as_array d → (length vs ≡ 4 → ⊥) → None ≡ quadruple_of f g h i d
quadruple-short f g h i d [] e n = rw (← e) refl
quadruple-short f g h i d (v ∷ []) e n = rw (← e) refl
quadruple-short f g h i d (v ∷ w ∷ []) e n = rw (← e) refl
quadruple-short f g h i d (v ∷ w ∷ x ∷ []) e n = rw (← e) refl
quadruple-short f g h i d (v ∷ w ∷ x ∷ y ∷ []) e n = absurd (n refl)
quadruple-short f g h i d (v ∷ w ∷ x ∷ y ∷ z ∷ vs) e n = rw (← e) refl
