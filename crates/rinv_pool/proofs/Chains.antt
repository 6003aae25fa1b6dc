-- Chains of slots: what a change of a slot outside them leaves, a further slot at an end, and the terms of a chain.
use Rattle.std.proofs.Common.{◌≡◌, ◌≢◌, ℕ, suc, ◌+◌, ◌<◌, List, [], ◌∷◌, ◌++◌, length, map, Option, Some, option_to_list, refl, sym, ap, ◌∙◌, subst, arith}
use Rattle.std.specs.Bool.{⊤}
use Rattle.std.proofs.lemmas.List.{length_push}
use Rattle.rinv_pool.specs.Chains.{IsChain, terms_from}

module _ {T : Type 0} (size : ℕ) (next next' : ℕ → ℕ) (term term' : ℕ → Option T) (owner owner' rank rank' : ℕ → ℕ) where
  -- a slot is as it was
  abbrev pub Stays : ℕ → Type 0
  Stays q = (next' q ≡ next q) × (term' q ≡ term q) × (owner' q ≡ owner q) × (rank' q ≡ rank q)

  -- a chain whose slots stay is a chain
  pub chain-stays : (size' : ℕ) (IsEnd : ℕ → Type 0) (own place : ℕ) (xs : List (Option T))
      → ((q : ℕ) → q < size → q < size')
      → ((q : ℕ) → q < size → owner q ≡ own → rank q < length xs → Stays q)
      → IsChain next term size owner rank IsEnd own place xs → IsChain next' term' size' owner' rank' IsEnd own place xs
  chain-stays size' IsEnd own place [] bound same h = tt
  chain-stays size' IsEnd own place (x ∷ xs) bound same h =
      let here : Stays place = same place h.0 h.1 (omega (arith, h.2)) in
      let rest : IsChain next' term' size' owner' rank' IsEnd own (next place) xs =
      chain-stays size' IsEnd own (next place) xs bound (λ q i o l. same q i o (omega (arith, l))) h.5 in
      (bound place h.0, here.2 ∙ h.1, here.3 ∙ h.2, here.1 ∙ h.3, h.4, subst (λ (n : ℕ). IsChain next' term' size' owner' rank' IsEnd own n xs) (sym here.0) rest)

  -- a slot that was in no chain comes behind the last one
  pub chain-push : (last new own place : ℕ) (x : Option T) (xs : List (Option T))
      → ((q : ℕ) → owner q ≡ own → (owner' q ≡ own) × (rank' q ≡ suc (rank q)) × (term' q ≡ term q))
      → ((q : ℕ) → owner q ≡ own → 0 < rank q → next' q ≡ next q)
      → next' last ≡ new → new < size → owner' new ≡ own → rank' new ≡ 0 → term' new ≡ x
      → 0 < length xs
      → IsChain next term size owner rank (λ p. p ≡ last) own place xs
      → IsChain next' term' size owner' rank' (λ p. p ≡ new) own place (xs ++ x ∷ [])
  chain-push last new own place x [] same links link inside owned ranked holds long h = absurd (omega (arith, long))
  chain-push last new own place x (y ∷ []) same links link inside owned ranked holds long h =
      let here : (owner' place ≡ own) × (rank' place ≡ suc (rank place)) × (term' place ≡ term place) = same place h.1 in
      let behind : next' place ≡ new = ap next' (h.4 refl) ∙ link in
      let end : IsChain next' term' size owner' rank' (λ p. p ≡ new) own new (x ∷ []) = (inside, owned, ranked, holds, (λ _. refl), tt) in (
        h.0,
        here.0,
        here.1 ∙ ap suc h.2,
        here.2 ∙ h.3,
        (λ e. absurd (omega (arith, e))),
        subst (λ (n : ℕ). IsChain next' term' size owner' rank' (λ p. p ≡ new) own n (x ∷ [])) (sym behind) end,
      )
  chain-push last new own place x (y ∷ z ∷ zs) same links link inside owned ranked holds long h =
      let here : (owner' place ≡ own) × (rank' place ≡ suc (rank place)) × (term' place ≡ term place) = same place h.1 in
      let low : rank place ≡ suc (length zs) = h.2 in
      let high : rank' place ≡ suc (rank place) = here.1 in
      let behind : next' place ≡ next place = links place h.1 (omega (arith, low)) in
      let rest : IsChain next' term' size owner' rank' (λ p. p ≡ new) own (next place) (z ∷ zs ++ x ∷ []) =
      chain-push last new own (next place) x (z ∷ zs) same links link inside owned ranked holds (omega arith) h.5 in (
        h.0,
        here.0,
        omega (arith, low, high, length_push zs x),
        here.2 ∙ h.3,
        (λ e. absurd (omega (arith, e))),
        subst (λ (n : ℕ). IsChain next' term' size owner' rank' (λ p. p ≡ new) own n (z ∷ zs ++ x ∷ [])) (sym behind) rest,
      )

-- the last slot of a chain
pub chain-last : {T : Type 0} (next : ℕ → ℕ) (term : ℕ → Option T) (size : ℕ) (owner rank : ℕ → ℕ) (last own place : ℕ) (x : Option T) (xs : List (Option T))
    → IsChain next term size owner rank (λ p. p ≡ last) own place (x ∷ xs) → (last < size) × (owner last ≡ own) × (rank last ≡ 0)
chain-last next term size owner rank last own place x [] h =
    subst (λ (p : ℕ). (p < size) × (owner p ≡ own) × (rank p ≡ 0)) (h.4 refl) (h.0, h.1, h.2)
chain-last next term size owner rank last own place x (y ∷ ys) h = chain-last next term size owner rank last own (next place) y ys h.5

-- the terms of a chain that holds these
pub terms-chain : {T : Type 0} (next : ℕ → ℕ) (term : ℕ → Option T) (size : ℕ) (owner rank : ℕ → ℕ) (IsEnd : ℕ → Type 0) (own place : ℕ) (ts : List T)
    → IsChain next term size owner rank IsEnd own place (map Some ts) → terms_from next term (length ts) place ≡ ts
terms-chain next term size owner rank IsEnd own place [] h = refl
terms-chain next term size owner rank IsEnd own place (t ∷ ts) h =
    ap (λ o. option_to_list o ++ terms_from next term (length ts) (next place)) h.3
    ∙ ap (λ us. t ∷ us) (terms-chain next term size owner rank IsEnd own (next place) ts h.5)

-- one more slot in front
pub chain-front : {T : Type 0} (next : ℕ → ℕ) (term : ℕ → Option T) (size : ℕ) (owner rank : ℕ → ℕ) (own place : ℕ) (x : Option T) (xs : List (Option T))
    → place < size → owner place ≡ own → rank place ≡ length xs → term place ≡ x
    → IsChain next term size owner rank (λ _. ⊤) own (next place) xs → IsChain next term size owner rank (λ _. ⊤) own place (x ∷ xs)
chain-front next term size owner rank own place x xs inside owned ranked holds h = (inside, owned, ranked, holds, (λ _. tt), h)
