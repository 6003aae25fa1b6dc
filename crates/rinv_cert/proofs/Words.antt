-- An array whose first element is a certain word, read with any word first and tested then.
--   triple-hit, triple-miss, triple-none          of three
--   quadruple-hit, quadruple-miss, quadruple-none of four
use Rattle.std.proofs.Common.{◌≡◌, ℕ, Bool, true, false, List, [], ◌∷◌, Option, Some, None, option_map, refl, sym, ap, ◌∙◌}
use Rattle.std.specs.Prelude.{bytes_eq, if◌then◌else◌}
use Rattle.serde_json.specs.Data.{Data, Items}
use Rattle.serde_json.specs.Find.{as_str, as_array}
use Rattle.rinv_json.specs.Shapes.{◌>>=◌, elements, word, three_of, triple_of, four_of, quadruple_of}

-- what is made, where the test holds
abbrev made_if : {A : Type 0} → Bool → A → Option A
made_if b x = if b then Some x else None

module _ {A B C : Type 0} (w : List ℕ) (f : Data → Option A) (g : Data → Option B) (make : List ℕ × A × B → C) where
  -- the three at first, and then the test
  abbrev tested3 : Option (List ℕ × A × B) → Option C
  tested3 o = o >>= (λ x. made_if (bytes_eq x.0 w) (make x))

  three : (o : Option (List ℕ)) (p : Option A) (q : Option B)
      → option_map make ((o >>= (λ t. if bytes_eq t w then Some t else None)) >>= (λ x. p >>= (λ y. q >>= (λ z. Some (x, y, z)))))
      ≡ tested3 (o >>= (λ x. p >>= (λ y. q >>= (λ z. Some (x, y, z)))))
  three None p q = refl
  three (Some t) p q = go (bytes_eq t w) p q refl
    where
      go : (b : Bool) (p : Option A) (q : Option B) → bytes_eq t w ≡ b
          → option_map make ((if bytes_eq t w then Some t else None) >>= (λ x. p >>= (λ y. q >>= (λ z. Some (x, y, z)))))
          ≡ tested3 (p >>= (λ y. q >>= (λ z. Some (t, y, z))))
      go true None q e = rw e refl
      go true (Some y) None e = rw e refl
      go true (Some y) (Some z) e = rw e refl
      go false None q e = rw e refl
      go false (Some y) None e = rw e refl
      go false (Some y) (Some z) e = rw e refl

  three_list : (ds : List Data) → option_map make (three_of (word w) f g ds) ≡ tested3 (three_of as_str f g ds)
  three_list [] = refl
  three_list (a ∷ []) = refl
  three_list (a ∷ b ∷ []) = refl
  three_list (a ∷ b ∷ c ∷ []) = three (as_str a) (f b) (g c)
  three_list (a ∷ b ∷ c ∷ d ∷ ds) = refl

  triple-word : (d : Data) → option_map make (triple_of (word w) f g d) ≡ tested3 (triple_of as_str f g d)
  triple-word d = go (as_array d)
    where
      go : (o : Option Items) → option_map make (o >>= (λ ds. three_of (word w) f g (elements ds))) ≡ tested3 (o >>= (λ ds. three_of as_str f g (elements ds)))
      go None = refl
      go (Some ds) = three_list (elements ds)

  pub triple-hit : (d : Data) (x : List ℕ × A × B) → Some x ≡ triple_of as_str f g d → bytes_eq x.0 w ≡ true → Some (make x) ≡ option_map make (triple_of (word w) f g d)
  triple-hit d x e t = sym (triple-word d ∙ ap tested3 (sym e) ∙ ap (λ b. made_if b (make x)) t)

  pub triple-miss : (d : Data) (x : List ℕ × A × B) → Some x ≡ triple_of as_str f g d → bytes_eq x.0 w ≡ false → None ≡ option_map make (triple_of (word w) f g d)
  triple-miss d x e t = sym (triple-word d ∙ ap tested3 (sym e) ∙ ap (λ b. made_if b (make x)) t)

  pub triple-none : (d : Data) → None ≡ triple_of as_str f g d → None ≡ option_map make (triple_of (word w) f g d)
  triple-none d e = sym (triple-word d ∙ ap tested3 (sym e))

module _ {A B C D : Type 0} (w : List ℕ) (f : Data → Option A) (g : Data → Option B) (h : Data → Option C) (make : List ℕ × A × B × C → D) where
  -- the four at first, and then the test
  abbrev tested4 : Option (List ℕ × A × B × C) → Option D
  tested4 o = o >>= (λ x. made_if (bytes_eq x.0 w) (make x))

  four : (o : Option (List ℕ)) (p : Option A) (q : Option B) (r : Option C)
      → option_map make ((o >>= (λ t. if bytes_eq t w then Some t else None)) >>= (λ x. p >>= (λ y. q >>= (λ z. r >>= (λ u. Some (x, y, z, u))))))
      ≡ tested4 (o >>= (λ x. p >>= (λ y. q >>= (λ z. r >>= (λ u. Some (x, y, z, u))))))
  four None p q r = refl
  four (Some t) p q r = go (bytes_eq t w) p q r refl
    where
      go : (b : Bool) (p : Option A) (q : Option B) (r : Option C) → bytes_eq t w ≡ b
          → option_map make ((if bytes_eq t w then Some t else None) >>= (λ x. p >>= (λ y. q >>= (λ z. r >>= (λ u. Some (x, y, z, u))))))
          ≡ tested4 (p >>= (λ y. q >>= (λ z. r >>= (λ u. Some (t, y, z, u)))))
      go true None q r e = rw e refl
      go true (Some y) None r e = rw e refl
      go true (Some y) (Some z) None e = rw e refl
      go true (Some y) (Some z) (Some u) e = rw e refl
      go false None q r e = rw e refl
      go false (Some y) None r e = rw e refl
      go false (Some y) (Some z) None e = rw e refl
      go false (Some y) (Some z) (Some u) e = rw e refl

  four_list : (ds : List Data) → option_map make (four_of (word w) f g h ds) ≡ tested4 (four_of as_str f g h ds)
  four_list [] = refl
  four_list (a ∷ []) = refl
  four_list (a ∷ b ∷ []) = refl
  four_list (a ∷ b ∷ c ∷ []) = refl
  four_list (a ∷ b ∷ c ∷ d ∷ []) = four (as_str a) (f b) (g c) (h d)
  four_list (a ∷ b ∷ c ∷ d ∷ e ∷ ds) = refl

  quadruple-word : (d : Data) → option_map make (quadruple_of (word w) f g h d) ≡ tested4 (quadruple_of as_str f g h d)
  quadruple-word d = go (as_array d)
    where
      go : (o : Option Items) → option_map make (o >>= (λ ds. four_of (word w) f g h (elements ds))) ≡ tested4 (o >>= (λ ds. four_of as_str f g h (elements ds)))
      go None = refl
      go (Some ds) = four_list (elements ds)

  pub quadruple-hit : (d : Data) (x : List ℕ × A × B × C) → Some x ≡ quadruple_of as_str f g h d → bytes_eq x.0 w ≡ true → Some (make x) ≡ option_map make (quadruple_of (word w) f g h d)
  quadruple-hit d x e t = sym (quadruple-word d ∙ ap tested4 (sym e) ∙ ap (λ b. made_if b (make x)) t)

  pub quadruple-miss : (d : Data) (x : List ℕ × A × B × C) → Some x ≡ quadruple_of as_str f g h d → bytes_eq x.0 w ≡ false → None ≡ option_map make (quadruple_of (word w) f g h d)
  quadruple-miss d x e t = sym (quadruple-word d ∙ ap tested4 (sym e) ∙ ap (λ b. made_if b (make x)) t)

  pub quadruple-none : (d : Data) → None ≡ quadruple_of as_str f g h d → None ≡ option_map make (quadruple_of (word w) f g h d)
  quadruple-none d e = sym (quadruple-word d ∙ ap tested4 (sym e))
