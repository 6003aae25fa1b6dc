-- The text of a term is a phrase with the term's value.
use Rattle.std.proofs.Common.{◌≡◌, ℕ, zero, suc, ◌+◌, ◌*◌, ◌<◌, ◌≤◌, ◌^◌, List, [], ◌∷◌, ◌++◌, append_assoc, append-nil, length, replicate, refl, sym, ap, ◌∙◌, subst, Bool, true, false, ◌&&◌, ◌||◌, ◌==◌, if◌then◌else◌, nat_lt, bytes_eq, codes, decimal, arith, inl, inr, true≢false}
use Rattle.std.specs.Prelude.{zip, flat_map}
use Rattle.std.proofs.lemmas.Bool.{cases_Bool, eqb-true}
use Rattle.std.proofs.lemmas.Bool.Decides.{nat_tests}
use Rattle.std.proofs.lemmas.Slice.Eq.{bytes_eq-Decides}
use Rattle.std.proofs.lemmas.List.Sums.{sum_by-cons}
use Rattle.std.proofs.lemmas.List.{length-append, length-replicate}
use Rattle.std.specs.List.{list_all, list_any, IsDistinct, AllByRecursion}
use Rattle.rinv_algebra.specs.Ring.{RingOps, RingLaws, IsSame}
use Rattle.rinv_algebra.specs.Residue.{residue_ops}
use Rattle.rinv_algebra.specs.Monomial.{same_monomial, monomial_product, total_degree}
use Rattle.rinv_algebra.specs.Polynomial.{Polynomial, poly_ops, product, constant, variable}
use Rattle.rinv_algebra.proofs.PolynomialLaws.{poly_laws}
use Rattle.rinv_algebra.proofs.ResidueLaws.{residue_laws}
use Rattle.rinv_poly.proofs.Gather.{same-then, same-refl, same-equal}
use Rattle.rinv_poly.proofs.Units.{term-same_monomial}
use Rattle.rinv_defs.specs.Text.{join, power_text, term_text}
use Rattle.rinv_text.specs.Printable.{is_word}
use Rattle.rinv_text.specs.Grammar.{factor, term}
use Rattle.rinv_text.specs.Reading.{place_of, to_the}
use Rattle.rinv_text.proofs.PrintedTokens.{decimal-number}
use Rattle.rinv_text.proofs.PrintedPhrases.{Phrase, number-phrase, word-phrase, power-phrase, product-phrase, phrase-same, phrase-lower, as-factor, as-term}

-- ---- a name at its place

all-apart : (w : List ℕ) (xs : List (List ℕ)) (n : List ℕ) (ys : List (List ℕ)) → AllByRecursion (λ y. bytes_eq w y ≡ false) (xs ++ n ∷ ys) → bytes_eq w n ≡ false
all-apart w [] n ys h = h.0
all-apart w (x ∷ xs) n ys h = all-apart w xs n ys h.1

flipped : (v w : List ℕ) → bytes_eq v w ≡ false → bytes_eq w v ≡ false
flipped v w off = elim (cases_Bool (bytes_eq w v)) [
  | inl here ↦ absurd (true≢false (sym ((bytes_eq-Decides v w).1 (sym ((bytes_eq-Decides w v).0 here))) ∙ off))
  | inr e ↦ e
]

itself : (w : List ℕ) → bytes_eq w w ≡ true
itself w = (bytes_eq-Decides w w).1 refl

place-of_name : (before : List (List ℕ)) (n : List ℕ) (after : List (List ℕ)) → IsDistinct bytes_eq (before ++ n ∷ after) → place_of (before ++ n ∷ after) n ≡ length before
unfolding IsDistinct
place-of_name [] n after distinct = rw (itself n) refl
place-of_name (b ∷ before) n after distinct = let ih : place_of (before ++ n ∷ after) n ≡ length before = place-of_name before n after distinct.1 in rw (flipped b n (all-apart b before n after distinct.0), ih) (omega arith)

known-name : (before : List (List ℕ)) (n : List ℕ) (after : List (List ℕ)) → list_any (bytes_eq n) (before ++ n ∷ after) ≡ true
known-name [] n after = rw (itself n) refl
known-name (b ∷ before) n after = let ih = known-name before n after in rw ih (or-true (bytes_eq n b))
  where
    or-true : (x : Bool) → (x || true) ≡ true
    or-true true = refl
    or-true false = refl

word-at : (before : List (List ℕ)) (n : List ℕ) (after : List (List ℕ)) → list_all is_word (before ++ n ∷ after) ≡ true → is_word n ≡ true
word-at [] n after e = head (is_word n) (list_all is_word after) e
  where
    head : (x y : Bool) → (x && y) ≡ true → x ≡ true
    head true y e = refl
    head false y e = e
word-at (b ∷ before) n after e = word-at before n after (tail (is_word b) (list_all is_word (before ++ n ∷ after)) e)
  where
    tail : (x y : Bool) → (x && y) ≡ true → y ≡ true
    tail true y e = e
    tail false y e = cc

-- ---- powers of variables

-- the variable at place k to a power
abbrev pub alone : ℕ → ℕ → List ℕ
alone k e = replicate k 0 ++ e ∷ []

alone-zero : (k : ℕ) → same_monomial (alone k 0) [] ≡ true
unfolding same_monomial
alone-zero zero = refl
alone-zero (suc k) = alone-zero k

alone-more : (k e : ℕ) → monomial_product (alone k e) (alone k 1) ≡ alone k (suc e)
unfolding monomial_product
alone-more zero e = let one : e + 1 ≡ suc e = omega arith in rw one refl
alone-more (suc k) e = ap (λ m. 0 ∷ m) (alone-more k e)

-- so many exponents, and one more
alone-behind : (m : List ℕ) (e : ℕ) → monomial_product m (alone (length m) e) ≡ m ++ e ∷ []
unfolding monomial_product
alone-behind [] e = refl
alone-behind (x ∷ m) e = let same : x + 0 ≡ x = omega arith in rw same (ap (λ r. x ∷ r) (alone-behind m e))

zero-behind : (m : List ℕ) → same_monomial (m ++ 0 ∷ []) m ≡ true
unfolding same_monomial
zero-behind [] = refl
zero-behind (x ∷ m) = let same : (x == x) ≡ true = grind (arith, nat_tests) in rw same (zero-behind m)

zeros-shift : (k : ℕ) (ms : List ℕ) → replicate (suc k) 0 ++ ms ≡ replicate k 0 ++ 0 ∷ ms
zeros-shift zero ms = refl
zeros-shift (suc k) ms = ap (λ r. 0 ∷ r) (zeros-shift k ms)

positive : (e : ℕ) → (e == 0) ≡ false → 0 < e
positive e some = grind (arith, nat_tests)

module _ (p : ℕ) where
  abbrev o : RingOps ℕ
  o = residue_ops p

  abbrev l : RingLaws (residue_ops p)
  l = residue_laws p

  -- one term
  abbrev single : List ℕ → ℕ → Polynomial ℕ
  single m c = (m, c) ∷ []

  single-product : (a b m : List ℕ) (c : ℕ) → monomial_product a b ≡ m → product o (single a c) (single b 1) ≡ single m c
  unfolding product
  single-product a b m c e = let one : c * 1 ≡ c = omega arith in rw (e, one) refl

  power-value : (k e : ℕ) → IsSame (poly_ops (residue_ops p)) (single (alone k e) 1) (to_the o e (variable o k))
  unfolding to_the
  power-value k zero = term-same_monomial o l (alone k 0) [] 1 (alone-zero k)
  power-value k (suc e) =
      same-then o l (single (alone k (suc e)) 1) (product o (single (alone k e) 1) (variable o k)) (product o (to_the o e (variable o k)) (variable o k))
      (same-equal o l (single (alone k (suc e)) 1) (product o (single (alone k e) 1) (variable o k)) (sym (single-product (alone k e) (alone k 1) (alone k (suc e)) 1 (alone-more k e))))
      ((poly_laws o l).mul_same (single (alone k e) 1) (to_the o e (variable o k)) (variable o k) (variable o k) (power-value k e) (same-refl o l (variable o k)))

  module _ (names : List (List ℕ)) (words : list_all is_word names ≡ true) (distinct : IsDistinct bytes_eq names) where
    -- a name with its exponent, which is not 0
    factor-phrase : (before : List (List ℕ)) (n : List ℕ) (after : List (List ℕ)) (k e : ℕ) → names ≡ before ++ n ∷ after → length before ≡ k → 0 < e → e ≤ 64
        → Phrase p names factor (if e == 1 then n else n ++ codes "^" ++ decimal e) (single (alone k e) 1) e 1
    factor-phrase before n after k e is at some small =
        let form : is_word n ≡ true = word-at before n after (ap (list_all is_word) (sym is) ∙ words) in
        let known : list_any (bytes_eq n) names ≡ true = ap (list_any (bytes_eq n)) is ∙ known-name before n after in
        let place : place_of names n ≡ k = ap (λ ns. place_of ns n) is ∙ place-of_name before n after (subst (IsDistinct bytes_eq) is distinct) ∙ at in
        by (e == 1) refl form known place
      where
        by : (b : Bool) → (e == 1) ≡ b → is_word n ≡ true → list_any (bytes_eq n) names ≡ true → place_of names n ≡ k → Phrase p names factor (if b then n else n ++ codes "^" ++ decimal e) (single (alone k e) 1) e 1
        by true one form known place =
            let is_one : e ≡ 1 = eqb-true e 1 one in
            subst (λ x. Phrase p names factor n (single (alone k x) 1) x 1) (sym is_one) (as-factor p names n (variable o k) 1 1 (word-phrase p names n k form known place))
        by false more form known place =
            subst (λ t. Phrase p names factor t (single (alone k e) 1) e 1) (sym (append_assoc n (codes "^") (decimal e)))
            (phrase-same p names factor (n ++ 94 ∷ decimal e) (to_the o e (variable o k)) (single (alone k e) 1) e 1 (power-value k e)
            (power-phrase p names n (decimal e) k e form known place (decimal-number e (omega arith)) small))

    -- a term goes on with the variables from some place on
    goes-on : (s : List ℕ) (c d : ℕ) (before ns : List (List ℕ)) (done ms : List ℕ) → names ≡ before ++ ns → length before ≡ length done → length ns ≡ length ms → d + total_degree ms ≤ 64
        → Phrase p names term s (single done c) d 1
        → Phrase p names term (s ++ flat_map (λ y. codes "*" ++ y) (flat_map power_text (zip ns ms))) (single (done ++ ms) c) (d + total_degree ms) 1
    goes-on s c d before [] done [] is even long low h = rw (append-nil s, append-nil done) (phrase-lower p names term s (single done c) d (d + total_degree []) 1 (omega arith) h)
    goes-on s c d before [] done (e ∷ ms) is even long low h = absurd (omega arith)
    goes-on s c d before (n ∷ ns) done [] is even long low h = absurd (omega arith)
    goes-on s c d before (n ∷ ns) done (e ∷ ms) is even long low h =
        let total : total_degree (e ∷ ms) ≡ e + total_degree ms = sum_by-cons (λ x. x) e ms in
        let next : names ≡ (before ++ n ∷ []) ++ ns = is ∙ sym (append_assoc before (n ∷ []) ns) in
        let lengths : length (before ++ n ∷ []) ≡ length (done ++ e ∷ []) = omega (arith, even, length-append before (n ∷ []), length-append done (e ∷ [])) in
        let rest : List ℕ = flat_map (λ y. codes "*" ++ y) (flat_map power_text (zip ns ms)) in
        elim (cases_Bool (e == 0)) [
          | inl none ↦
              let is_zero : e ≡ 0 = eqb-true e 0 none in
              let ih = goes-on s c d (before ++ n ∷ []) ns (done ++ e ∷ []) ms next lengths (omega (arith, long)) (omega (arith, low, total))
              (phrase-same p names term s (single done c) (single (done ++ e ∷ []) c) d 1 (term-same_monomial o l (done ++ e ∷ []) done c (ap (λ x. same_monomial (done ++ x ∷ []) done) is_zero ∙ zero-behind done)) h) in
              rw none (phrase-lower p names term (s ++ rest) (single (done ++ e ∷ ms) c) (d + total_degree ms) (d + total_degree (e ∷ ms)) 1 (omega (arith, total))
              (subst (λ m. Phrase p names term (s ++ rest) (single m c) (d + total_degree ms) 1) (append_assoc done (e ∷ []) ms) ih))
          | inr some ↦
              let piece : List ℕ = if e == 1 then n else n ++ codes "^" ++ decimal e in
              let power = factor-phrase before n ns (length done) e is even (positive e some) (omega (arith, low, total)) in
              let both = product-phrase p names s piece (single done c) (single (alone (length done) e) 1) d e h power (omega (arith, low, total)) in
              let ih = goes-on (s ++ 42 ∷ piece) c (d + e) (before ++ n ∷ []) ns (done ++ e ∷ []) ms next lengths (omega (arith, long)) (omega (arith, low, total))
              (subst (λ g. Phrase p names term (s ++ 42 ∷ piece) g (d + e) 1) (single-product done (alone (length done) e) (done ++ e ∷ []) c (alone-behind done e)) both) in
              rw some (phrase-lower p names term (s ++ (42 ∷ (piece ++ rest))) (single (done ++ e ∷ ms) c) (d + e + total_degree ms) (d + total_degree (e ∷ ms)) 1 (omega (arith, total))
              (subst (λ m. Phrase p names term (s ++ (42 ∷ (piece ++ rest))) (single m c) (d + e + total_degree ms) 1) (append_assoc done (e ∷ []) ms)
              (subst (λ x. Phrase p names term x (single ((done ++ e ∷ []) ++ ms) c) (d + e + total_degree ms) 1) (append_assoc s (42 ∷ piece) rest) ih)))
        ]

    -- a term that begins with a variable, past some whose exponents are 0
    begins : (k : ℕ) (before ns : List (List ℕ)) (ms : List ℕ) → names ≡ before ++ ns → length before ≡ k → length ns ≡ length ms → 0 < total_degree ms → total_degree ms ≤ 64
        → Phrase p names term (join (codes "*") (flat_map power_text (zip ns ms))) (single (replicate k 0 ++ ms) 1) (total_degree ms) 1
    begins k before [] [] is even long some low = absurd (omega arith)
    begins k before [] (e ∷ ms) is even long some low = absurd (omega arith)
    begins k before (n ∷ ns) [] is even long some low = absurd (omega arith)
    begins k before (n ∷ ns) (e ∷ ms) is even long some low =
        let total : total_degree (e ∷ ms) ≡ e + total_degree ms = sum_by-cons (λ x. x) e ms in
        let next : names ≡ (before ++ n ∷ []) ++ ns = is ∙ sym (append_assoc before (n ∷ []) ns) in
        elim (cases_Bool (e == 0)) [
          | inl none ↦
              let is_zero : e ≡ 0 = eqb-true e 0 none in
              let ih = begins (suc k) (before ++ n ∷ []) ns ms next (omega (arith, even, length-append before (n ∷ []))) (omega (arith, long)) (omega (arith, some, total)) (omega (arith, low, total)) in
              rw none (phrase-lower p names term (join (codes "*") (flat_map power_text (zip ns ms))) (single (replicate k 0 ++ e ∷ ms) 1) (total_degree ms) (total_degree (e ∷ ms)) 1 (omega (arith, total))
              (subst (λ m. Phrase p names term (join (codes "*") (flat_map power_text (zip ns ms))) (single m 1) (total_degree ms) 1) (zeros-shift k ms ∙ ap (λ x. replicate k 0 ++ x ∷ ms) (sym is_zero)) ih))
          | inr nonzero ↦
              let piece : List ℕ = if e == 1 then n else n ++ codes "^" ++ decimal e in
              let rest : List ℕ = flat_map (λ y. codes "*" ++ y) (flat_map power_text (zip ns ms)) in
              let power = factor-phrase before n ns k e is even (positive e nonzero) (omega (arith, low, total)) in
              let ih = goes-on piece 1 e (before ++ n ∷ []) ns (alone k e) ms next
              (omega (arith, even, length-append before (n ∷ []), length-append (replicate k 0) (e ∷ []), length-replicate k zero)) (omega (arith, long)) (omega (arith, low, total)) (as-term p names piece (single (alone k e) 1) e 1 power) in
              rw nonzero (phrase-lower p names term (piece ++ rest) (single (replicate k 0 ++ e ∷ ms) 1) (e + total_degree ms) (total_degree (e ∷ ms)) 1 (omega (arith, total))
              (subst (λ m. Phrase p names term (piece ++ rest) (single m 1) (e + total_degree ms) 1) (append_assoc (replicate k 0) (e ∷ []) ms) ih))
        ]

    -- the text of a term
    pub term-phrase : (m : List ℕ) (c : ℕ) → length m ≡ length names → total_degree m ≤ 64 → c < 2 ^ 64 → Phrase p names term (term_text names (m, c)) (single m c) (total_degree m) 1
    term-phrase m c long low small = elim (cases_Bool (c == 1 && nat_lt 0 (total_degree m))) [
      | inl bare ↦
          let one : c ≡ 1 = grind (arith, nat_tests) in
          let some : 0 < total_degree m = grind (arith, nat_tests) in
          rw bare (subst (λ x. Phrase p names term (join (codes "*") (flat_map power_text (zip names m))) (single m x) (total_degree m) 1) (sym one) (begins 0 [] names m refl refl (sym long) some low))
      | inr led ↦
          let none : 0 + total_degree m ≡ total_degree m = omega arith in
          let rest : List ℕ = flat_map (λ y. codes "*" ++ y) (flat_map power_text (zip names m)) in
          rw led (subst (λ d. Phrase p names term (decimal c ++ rest) (single m c) d 1) none (goes-on (decimal c) c 0 [] names [] m refl refl (sym long) (omega (arith, low))
          (as-term p names (decimal c) (constant o c) 0 1 (as-factor p names (decimal c) (constant o c) 0 1 (number-phrase p names (decimal c) c (decimal-number c small) small)))))
    ]
