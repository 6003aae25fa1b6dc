-- The size that the steps of an expression give is that of its formal numbers.
--   sizes-result     the size of an expression
--   degrees-low      the formal degrees of an expression that is not too high
--   terms-few        the formal terms of one that is not too long
use Rattle.std.proofs.Common.{◌≡◌, ℕ, ◌+◌, ◌*◌, ◌<◌, min, max, List, Bool, true, false, ◌||◌, nat_lt, refl, sym, ap, ap₂, ◌∙◌, arith, inl, inr, Option, Some, true≢false}
use Rattle.std.specs.Prelude.{option_and_then}
use Rattle.std.proofs.lemmas.Bool.{cases_Bool}
use Rattle.std.proofs.lemmas.Bool.Decides.{nat_tests}
use Rattle.rinv_text.specs.declared.formal.Formal.{Formal}
use Rattle.rinv_text.specs.declared.size.Size.{Size}
use Rattle.rinv_text.specs.Grammar.{Tree, number, name, negative, sum, difference, product, quotient, power}
use Rattle.rinv_text.specs.Formal.{formal, formal_sum, formal_product, turned, formal_power, some_part, has_high_exponent, is_above, has_more, is_high, is_long, max_formal_degree, max_formal_terms}
use Rattle.rinv_text.specs.Images.{literal_of, exponent_of}
use Rattle.rinv_text.specs.Sizes.{capped, judged, sizes}
use Rattle.rinv_text.proofs.Caps.{capped-product, capped-power, great-power, great-multiple}
use Rattle.rinv_text.proofs.Postfix.{result, both}

-- one more than the limits
abbrev high : ℕ
high = max_formal_degree + 1

abbrev many : ℕ
many = max_formal_terms + 1

-- four numbers that agree
pub numbers : (a b c d a' b' c' d' : ℕ) → a ≡ a' → b ≡ b' → c ≡ c' → d ≡ d' → ◌≡◌ {A = Formal} (record { num_degree = a; den_degree = b; num_terms = c; den_terms = d }) (record { num_degree = a'; den_degree = b'; num_terms = c'; den_terms = d' })
numbers a b c d a' b' c' d' e f g h = cc

-- ---- what is cut off before is cut off after

sum-degree : (a b c d : ℕ) → min (max (min a high + min d high) (min c high + min b high)) high ≡ min (max (a + d) (c + b)) high
sum-degree a b c d = omega arith

add-degree : (a b : ℕ) → min (min a high + min b high) high ≡ min (a + b) high
add-degree a b = omega arith

sum-terms : (a b c d : ℕ) → min (min a many * min d many + min c many * min b many) many ≡ min (a * d + c * b) many
sum-terms a b c d = at (min a many * min d many) (min c many * min b many) (a * d) (c * b) (capped-product many a d) (capped-product many c b)
  where
    at : (x y z w : ℕ) → min x many ≡ min z many → min y many ≡ min w many → min (x + y) many ≡ min (z + w) many
    at x y z w e f = omega (arith, e, f)

power-degree : (k a : ℕ) → min (k * min a high) high ≡ min (k * a) high
power-degree k a = sym (capped-product high k (min a high)) ∙ ap (λ (x : ℕ). min (min k high * x) high) twice ∙ capped-product high k a
  where
    twice : min (min a high) high ≡ min a high
    twice = omega arith

capped-sum : (f g : Formal) → capped (formal_sum (capped f) (capped g)) ≡ capped (formal_sum f g)
capped-sum f g = numbers _ _ _ _ _ _ _ _
    (sum-degree f.num_degree f.den_degree g.num_degree g.den_degree)
    (add-degree f.den_degree g.den_degree)
    (sum-terms f.num_terms f.den_terms g.num_terms g.den_terms)
    (capped-product many f.den_terms g.den_terms)

capped-product_of : (f g : Formal) → capped (formal_product (capped f) (capped g)) ≡ capped (formal_product f g)
capped-product_of f g = numbers _ _ _ _ _ _ _ _
    (add-degree f.num_degree g.num_degree)
    (add-degree f.den_degree g.den_degree)
    (capped-product many f.num_terms g.num_terms)
    (capped-product many f.den_terms g.den_terms)

capped-power_of : (f : Formal) (k : ℕ) → capped (formal_power (capped f) k) ≡ capped (formal_power f k)
capped-power_of f k = numbers _ _ _ _ _ _ _ _
    (power-degree k f.num_degree)
    (power-degree k f.den_degree)
    (capped-power many f.num_terms k)
    (capped-power many f.den_terms k)

-- of an exponent that the reader has cut off
capped-exponent : (f : Formal) (k : ℕ) → capped (formal_power f (exponent_of k)) ≡ capped (formal_power f k)
capped-exponent f k = elim (cases_Bool (nat_lt max_formal_degree k)) [
  | inl e ↦
      let great : 64 < k = grind (arith, nat_tests) in
      let cut : exponent_of k ≡ 65 = omega (arith, great) in
      rw cut (numbers _ _ _ _ _ _ _ _ (great-multiple f.num_degree k great) (great-multiple f.den_degree k great) (great-power f.num_terms k great) (great-power f.den_terms k great))
  | inr e ↦ let same : exponent_of k ≡ k = grind (arith, nat_tests) in rw same refl
]

exponent-above : (k : ℕ) → nat_lt max_formal_degree (exponent_of k) ≡ nat_lt max_formal_degree k
exponent-above k = grind (arith, nat_tests)

capped-twice : (f : Formal) → capped (capped f) ≡ capped f
capped-twice f = numbers _ _ _ _ _ _ _ _ (omega arith) (omega arith) (omega arith) (omega arith)

-- sizes are told by the numbers cut off
judged-by : (f g : Formal) (h l : Bool) → capped f ≡ capped g → judged f h l ≡ judged g h l
judged-by f g h l e = ap (λ (c : Formal). record { numbers = c; is_high = h || is_above c; is_long = l || has_more c }) e

-- the tests are those of the numbers themselves
above-capped : (f : Formal) → is_above (capped f) ≡ is_above f
above-capped f = ap₂ (λ (x y : Bool). x || y) (at f.num_degree) (at f.den_degree)
  where
    at : (n : ℕ) → nat_lt max_formal_degree (min n high) ≡ nat_lt max_formal_degree n
    at n = grind (arith, nat_tests)

more-capped : (f : Formal) → has_more (capped f) ≡ has_more f
more-capped f = ap₂ (λ (x y : Bool). x || y) (at f.num_terms) (at f.den_terms)
  where
    at : (n : ℕ) → nat_lt max_formal_terms (min n many) ≡ nat_lt max_formal_terms n
    at n = grind (arith, nat_tests)

-- ---- a part that passes a test

or-assoc : (a b c : Bool) → ((a || b) || c) ≡ (a || (b || c))
or-assoc true b c = refl
or-assoc false b c = refl

or-true : (b : Bool) → (b || true) ≡ true
or-true true = refl
or-true false = refl

-- an expression is a part of itself
own : (test : Tree → Bool) (t : Tree) → test t ≡ true → some_part test t ≡ true
unfolding some_part
own test (number n) e = e
own test (name w) e = e
own test (negative t) e = ap (λ b. some_part test t || b) e ∙ or-true (some_part test t)
own test (sum t u) e = ap (λ b. some_part test t || some_part test u || b) e ∙ or-true (some_part test t || some_part test u)
own test (difference t u) e = ap (λ b. some_part test t || some_part test u || b) e ∙ or-true (some_part test t || some_part test u)
own test (product t u) e = ap (λ b. some_part test t || some_part test u || b) e ∙ or-true (some_part test t || some_part test u)
own test (quotient t u) e = ap (λ b. some_part test t || some_part test u || b) e ∙ or-true (some_part test t || some_part test u)
own test (power t k) e = ap (λ b. some_part test t || b) e ∙ or-true (some_part test t)

module _ (of_name : List ℕ → Formal) where
  -- the size of an expression
  abbrev pub size_of : Tree → Size
  size_of t = record { numbers = capped (formal of_name t); is_high = is_high of_name t; is_long = is_long of_name t }

  -- an expression that is not too high has low degrees
  pub degrees-low : (t : Tree) → is_high of_name t ≡ false → is_above (formal of_name t) ≡ false
  degrees-low t h = elim (cases_Bool (is_above (formal of_name t))) [
    | inl e ↦ absurd (true≢false (sym (own (λ u. has_high_exponent u || is_above (formal of_name u)) t (ap (λ b. has_high_exponent t || b) e ∙ or-true (has_high_exponent t))) ∙ h))
    | inr e ↦ e
  ]

  -- and one that is not too long has few terms
  pub terms-few : (t : Tree) → is_long of_name t ≡ false → has_more (formal of_name t) ≡ false
  terms-few t h = elim (cases_Bool (has_more (formal of_name t))) [
    | inl e ↦ absurd (true≢false (sym (own (λ u. has_more (formal of_name u)) t e) ∙ h))
    | inr e ↦ e
  ]

  -- numbers that agree when cut off, and the tests of the parts
  sized : (f g : Formal) (h l : Bool) → capped f ≡ capped g → judged f h l ≡ record { numbers = capped g; is_high = h || is_above g; is_long = l || has_more g }
  sized f g h l e = judged-by f g h l e ∙ ap₂ (λ (x y : Bool). record { numbers = capped g; is_high = h || x; is_long = l || y }) (above-capped g) (more-capped g)

  module _ (p : ℕ) (named : ℕ → Formal) (place : List ℕ → ℕ) (agree : (w : List ℕ) → named (place w) ≡ of_name w) where
    abbrev sizes_here : Tree → Option Size
    sizes_here t = result (sizes named) (literal_of p) place t

    two : (f : Size → Size → Option Size) (x y : Option Size) (s t : Size) → x ≡ Some s → y ≡ Some t → both (sizes named) (literal_of p) place f x y ≡ f s t
    two f x y s t e h = ap₂ (λ (a b : Option Size). both (sizes named) (literal_of p) place f a b) e h

    power-case : (f : Formal) (k : ℕ) (h l : Bool) → ◌≡◌ {A = Option Size} (Some (judged (formal_power (capped f) (exponent_of k)) (h || nat_lt max_formal_degree (exponent_of k)) l))
        (Some (record { numbers = capped (formal_power f k); is_high = h || (nat_lt max_formal_degree k || is_above (formal_power f k)); is_long = l || has_more (formal_power f k) }))
    power-case f k h l =
        ap (λ (s : Size). Some s) (sized _ (formal_power f k) (h || nat_lt max_formal_degree (exponent_of k)) l (capped-power_of f (exponent_of k) ∙ capped-exponent f k))
        ∙ ap (λ (b : Bool). Some (record { numbers = capped (formal_power f k); is_high = (h || b) || is_above (formal_power f k); is_long = l || has_more (formal_power f k) })) (exponent-above k)
        ∙ ap (λ (b : Bool). Some (record { numbers = capped (formal_power f k); is_high = b; is_long = l || has_more (formal_power f k) })) (or-assoc h (nat_lt max_formal_degree k) (is_above (formal_power f k)))

    -- the size of an expression is what its steps give
    pub sizes-result : (t : Tree) → result (sizes named) (literal_of p) place t ≡ Some (size_of t)
    unfolding result some_part formal
    sizes-result (number n) = refl
    sizes-result (name w) = ap (λ (f : Formal). Some (judged f false false)) (agree w) ∙ ap (λ (s : Size). Some s) (sized (of_name w) (of_name w) false false refl)
    sizes-result (negative t) =
        ap (λ (o : Option Size). option_and_then (sizes named).negative o) (sizes-result t)
        ∙ ap (λ (s : Size). Some s) (sized (capped (formal of_name t)) (formal of_name t) (is_high of_name t) (is_long of_name t) (capped-twice (formal of_name t)))
    sizes-result (sum t u) =
        two (sizes named).sum _ _ (size_of t) (size_of u) (sizes-result t) (sizes-result u)
        ∙ ap (λ (s : Size). Some s) (sized _ (formal_sum (formal of_name t) (formal of_name u)) (is_high of_name t || is_high of_name u) (is_long of_name t || is_long of_name u) (capped-sum (formal of_name t) (formal of_name u)))
    sizes-result (difference t u) =
        two (sizes named).difference _ _ (size_of t) (size_of u) (sizes-result t) (sizes-result u)
        ∙ ap (λ (s : Size). Some s) (sized _ (formal_sum (formal of_name t) (formal of_name u)) (is_high of_name t || is_high of_name u) (is_long of_name t || is_long of_name u) (capped-sum (formal of_name t) (formal of_name u)))
    sizes-result (product t u) =
        two (sizes named).product _ _ (size_of t) (size_of u) (sizes-result t) (sizes-result u)
        ∙ ap (λ (s : Size). Some s) (sized _ (formal_product (formal of_name t) (formal of_name u)) (is_high of_name t || is_high of_name u) (is_long of_name t || is_long of_name u) (capped-product_of (formal of_name t) (formal of_name u)))
    sizes-result (quotient t u) =
        two (sizes named).quotient _ _ (size_of t) (size_of u) (sizes-result t) (sizes-result u)
        ∙ ap (λ (s : Size). Some s) (sized _ (formal_product (formal of_name t) (turned (formal of_name u))) (is_high of_name t || is_high of_name u) (is_long of_name t || is_long of_name u) (capped-product_of (formal of_name t) (turned (formal of_name u))))
    sizes-result (power t k) =
        ap (λ (o : Option Size). option_and_then (λ x. (sizes named).power x (exponent_of k)) o) (sizes-result t)
        ∙ power-case (formal of_name t) k (is_high of_name t) (is_long of_name t)
