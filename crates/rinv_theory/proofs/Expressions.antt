-- Expressions of commutative rings and their normal forms: two sorted lists of monomials, what is added and what is taken away.
--   Expression           atoms, 0, 1, sums ⊕, products ⊗, opposites ⊖
--   parts                the normal form
--   HaveOneForm          two expressions have one normal form
--   eval                 the value, with a list of values for the atoms
--   solve                expressions with one normal form have one value
use Rattle.std.proofs.Common.{◌≡◌, ℕ, zero, suc, Bool, true, false, List, [], ◌∷◌, refl, sym, ◌∙◌, ap, ap₂}
use Rattle.std.specs.Prelude.{leb, ltb, eqb}
use Rattle.rinv_theory.proofs.CRing.{CRing, add_zero, mul_one, add_mul, add_cancel, mul_zero, zero_mul, add_swap}

-- what a term of a ring is read as
pub data Expression : Type 0 where
  atom : ℕ → Expression
  nought : Expression
  unity : Expression
  ◌⊕◌ : Expression → Expression → Expression
  ◌⊗◌ : Expression → Expression → Expression
  ⊖◌ : Expression → Expression

infixl 60 ◌⊕◌
infixl 70 ◌⊗◌
infix 80 ⊖◌
-- an atom put into a sorted monomial; the order matters for no proof
abbrev pub insert_var : ℕ → List ℕ → List ℕ
insert_var x [] = x ∷ []
insert_var x (y ∷ m) = elim (leb x y) [ true ↦ x ∷ y ∷ m | false ↦ y ∷ insert_var x m ]

-- the product of two monomials
abbrev pub mono_mul : List ℕ → List ℕ → List ℕ
mono_mul [] n = n
mono_mul (x ∷ m) n = insert_var x (mono_mul m n)

-- whether a monomial stands before another
abbrev pub mono_le : List ℕ → List ℕ → Bool
mono_le [] n = true
mono_le (x ∷ m) [] = false
mono_le (x ∷ m) (y ∷ n) = elim (ltb x y) [ true ↦ true | false ↦ elim (eqb x y) [ true ↦ mono_le m n | false ↦ false ] ]

-- a monomial put into a sorted sum
abbrev pub insert_mono : List ℕ → List (List ℕ) → List (List ℕ)
insert_mono m [] = m ∷ []
insert_mono m (n ∷ s) = elim (mono_le m n) [ true ↦ m ∷ n ∷ s | false ↦ n ∷ insert_mono m s ]

-- the sum of two sums
abbrev pub merge : List (List ℕ) → List (List ℕ) → List (List ℕ)
merge [] t = t
merge (m ∷ s) t = insert_mono m (merge s t)

-- a monomial times a sum
abbrev pub times : List ℕ → List (List ℕ) → List (List ℕ)
times m [] = []
times m (n ∷ s) = mono_mul m n ∷ times m s

-- the product of two sums
abbrev pub product : List (List ℕ) → List (List ℕ) → List (List ℕ)
product [] t = []
product (m ∷ s) t = merge (times m t) (product s t)

-- what is added, and what is taken away
abbrev pub parts : Expression → List (List ℕ) × List (List ℕ)
parts (atom x) = ((x ∷ []) ∷ [], [])
parts nought = ([], [])
parts unity = ([] ∷ [], [])
parts (a ⊕ b) = (merge (parts a).0 (parts b).0, merge (parts a).1 (parts b).1)
parts (a ⊗ b) = (merge (product (parts a).0 (parts b).0) (product (parts a).1 (parts b).1), merge (product (parts a).0 (parts b).1) (product (parts a).1 (parts b).0))
parts (⊖ a) = ((parts a).1, (parts a).0)

-- two expressions have one normal form
abbrev pub HaveOneForm : Expression → Expression → Type 0
HaveOneForm a b = merge (parts a).0 (parts b).1 ≡ merge (parts b).0 (parts a).1

-- the value of an atom
abbrev pub nth : {A : Type 0} → A → List A → ℕ → A
nth d [] n = d
nth d (x ∷ xs) zero = x
nth d (x ∷ xs) (suc n) = nth d xs n

module _ {R : Type 0} (𝓡 : CRing R) (ρ : List R) where
  open 𝓡 use {add, mul, neg, zero as 𝟘, one as 𝟙}

  -- the value of an expression
  abbrev pub eval : Expression → R
  eval (atom x) = nth 𝟘 ρ x
  eval nought = 𝟘
  eval unity = 𝟙
  eval (a ⊕ b) = add (eval a) (eval b)
  eval (a ⊗ b) = mul (eval a) (eval b)
  eval (⊖ a) = neg (eval a)

  mono : List ℕ → R
  mono [] = 𝟙
  mono (x ∷ m) = mul (nth 𝟘 ρ x) (mono m)

  total : List (List ℕ) → R
  total [] = 𝟘
  total (m ∷ s) = add (mono m) (total s)

  left_comm : (f : R → R → R) → ((a b c : R) → f (f a b) c ≡ f a (f b c)) → ((a b : R) → f a b ≡ f b a) → (a b c : R) → f a (f b c) ≡ f b (f a c)
  left_comm f assoc comm a b c = sym (assoc a b c) ∙ ap (λ x. f x c) (comm a b) ∙ assoc b a c

  insert_var-mono : (x : ℕ) (m : List ℕ) → mono (insert_var x m) ≡ mul (nth 𝟘 ρ x) (mono m)
  unfolding mono
  insert_var-mono x [] = refl
  insert_var-mono x (y ∷ m) = go (leb x y) (insert_var-mono x m)
    where
      go : (b : Bool) → mono (insert_var x m) ≡ mul (nth 𝟘 ρ x) (mono m) → mono (elim b [ true ↦ x ∷ y ∷ m | false ↦ y ∷ insert_var x m ]) ≡ mul (nth 𝟘 ρ x) (mul (nth 𝟘 ρ y) (mono m))
      go true e = refl
      go false e = ap (mul (nth 𝟘 ρ y)) e ∙ left_comm mul 𝓡.mul_assoc 𝓡.mul_comm _ _ _

  mono_mul-mono : (m n : List ℕ) → mono (mono_mul m n) ≡ mul (mono m) (mono n)
  unfolding mono
  mono_mul-mono [] n = sym (𝓡.one_mul (mono n))
  mono_mul-mono (x ∷ m) n = insert_var-mono x (mono_mul m n) ∙ ap (mul (nth 𝟘 ρ x)) (mono_mul-mono m n) ∙ sym (𝓡.mul_assoc _ _ _)

  insert_mono-total : (m : List ℕ) (s : List (List ℕ)) → total (insert_mono m s) ≡ add (mono m) (total s)
  unfolding total
  insert_mono-total m [] = refl
  insert_mono-total m (n ∷ s) = go (mono_le m n) (insert_mono-total m s)
    where
      go : (b : Bool) → total (insert_mono m s) ≡ add (mono m) (total s) → total (elim b [ true ↦ m ∷ n ∷ s | false ↦ n ∷ insert_mono m s ]) ≡ add (mono m) (add (mono n) (total s))
      go true e = refl
      go false e = ap (add (mono n)) e ∙ left_comm add 𝓡.add_assoc 𝓡.add_comm _ _ _

  merge-total : (s t : List (List ℕ)) → total (merge s t) ≡ add (total s) (total t)
  unfolding total
  merge-total [] t = sym (𝓡.zero_add (total t))
  merge-total (m ∷ s) t = insert_mono-total m (merge s t) ∙ ap (add (mono m)) (merge-total s t) ∙ sym (𝓡.add_assoc _ _ _)

  times-total : (m : List ℕ) (s : List (List ℕ)) → total (times m s) ≡ mul (mono m) (total s)
  unfolding total
  times-total m [] = sym (mul_zero 𝓡 (mono m))
  times-total m (n ∷ s) = ap₂ add (mono_mul-mono m n) (times-total m s) ∙ sym (𝓡.mul_add _ _ _)

  product-total : (s t : List (List ℕ)) → total (product s t) ≡ mul (total s) (total t)
  unfolding total
  product-total [] t = sym (zero_mul 𝓡 (total t))
  product-total (m ∷ s) t = merge-total (times m t) (product s t) ∙ ap₂ add (times-total m t) (product-total s t) ∙ sym (add_mul 𝓡 _ _ _)

  plus : Expression → R
  plus a = total (parts a).0

  minus : Expression → R
  minus a = total (parts a).1

  product_step : (a b m n : R) → add (mul a b) (add (mul (add a m) n) (mul m (add b n))) ≡ add (mul (add a m) (add b n)) (mul m n)
  product_step a b m n = simp (add_mul 𝓡, 𝓡.mul_add, 𝓡.add_assoc, left_comm add 𝓡.add_assoc 𝓡.add_comm)

  cross : (s t s' t' : List (List ℕ)) → total (merge (product s t) (product s' t')) ≡ add (mul (total s) (total t)) (mul (total s') (total t'))
  cross s t s' t' = merge-total (product s t) (product s' t') ∙ ap₂ add (product-total s t) (product-total s' t')

  -- the value and what is taken away make what is added
  sound : (a : Expression) → add (eval a) (minus a) ≡ plus a
  unfolding total mono plus minus
  sound (atom x) = add_zero 𝓡 (nth 𝟘 ρ x) ∙ sym (mul_one 𝓡 _) ∙ sym (add_zero 𝓡 _)
  sound nought = add_zero 𝓡 𝟘
  sound unity = refl
  sound (a ⊕ b) = ap (add (add (eval a) (eval b))) (merge-total (parts a).1 (parts b).1) ∙ add_swap 𝓡 _ _ _ _ ∙ ap₂ add (sound a) (sound b) ∙ sym (merge-total (parts a).0 (parts b).0)
  sound (a ⊗ b) = ap (add (mul (eval a) (eval b))) (cross (parts a).0 (parts b).1 (parts a).1 (parts b).0 ∙ ap₂ add (ap (λ x. mul x (minus b)) (sym (sound a))) (ap (mul (minus a)) (sym (sound b)))) ∙ product_step _ _ _ _ ∙ ap (λ x. add x (mul (minus a) (minus b))) (ap₂ mul (sound a) (sound b)) ∙ sym (cross (parts a).0 (parts b).0 (parts a).1 (parts b).1)
  sound (⊖ a) = ap (add (neg (eval a))) (sym (sound a)) ∙ sym (𝓡.add_assoc _ _ _) ∙ ap (λ x. add x (total (parts a).1)) (𝓡.neg_add (eval a)) ∙ 𝓡.zero_add _

  -- expressions with one normal form have one value
  pub solve : (a b : Expression) → HaveOneForm a b → eval a ≡ eval b
  unfolding plus minus
  solve a b e = add_cancel 𝓡 (eval a) (eval b) (add (minus a) (minus b)) (sym (𝓡.add_assoc _ _ _) ∙ ap (λ x. add x (minus b)) (sound a) ∙ mid ∙ ap (λ x. add x (minus a)) (sym (sound b)) ∙ 𝓡.add_assoc _ _ _ ∙ ap (add (eval b)) (𝓡.add_comm (minus b) (minus a)))
    where
      mid : add (plus a) (minus b) ≡ add (plus b) (minus a)
      mid = sym (merge-total (parts a).0 (parts b).1) ∙ ap total e ∙ merge-total (parts b).0 (parts a).1
