-- The least exponents of the terms of both parts are those of the greatest monomial that divides both.
--   least-below          they are at most those of the first monomial
--   low-sum              a monomial whose exponents are no greater has no greater degree
--   IsLeastSoFar, least-start, least-step    the least exponent of the first terms
--   least-both, least-push    the least exponents in both parts, variable by variable
--   least-divides, common-divides    the fact
use Rattle.std.proofs.Common.{◌≡◌, ℕ, zero, suc, ◌+◌, ◌<◌, ◌≤◌, true, List, [], ◌∷◌, ◌++◌, length, get_or, min, All, refl, sym, ◌∙◌, ap, subst, inl, inr, arith, IsTrue}
use Rattle.std.specs.Prelude.{Contains, nat_lt}
use Rattle.std.proofs.lemmas.Bool.{cases_lt}
use Rattle.std.proofs.lemmas.Bool.Decides.{nat_tests}
use Rattle.std.proofs.lemmas.List.{get_or_past, get_or_append_left, get_or_push}
use Rattle.std.proofs.lemmas.List.Elements.{Contains-get_or}
use Rattle.std.proofs.lemmas.List.Sums.{sum_by-cons}
use Rattle.rinv_algebra.specs.Residue.{residue_ops}
use Rattle.rinv_algebra.specs.Monomial.{divides, same_monomial, total_degree}
use Rattle.rinv_algebra.specs.Polynomial.{Term, Polynomial, has_monomial}
use Rattle.rinv_algebra.proofs.MonomialLaws.{same_at}
use Rattle.rinv_algebra.proofs.ResidueLaws.{residue_laws}
use Rattle.rinv_poly.proofs.Forms.{ordered-from_normal}
use Rattle.rinv_poly.proofs.NormalFacts.{has-term}
use Rattle.rinv_poly.proofs.Taking.{term-at}
use Rattle.rinv_frac.specs.Fractions.{IsPart}
use Rattle.rinv_frac.specs.Cancelling.{DividesBoth, IsGreatestDivisor}
use Rattle.rinv_frac.specs.Exponents.{IsLeast}

-- a divisor has no greater exponent
pub divides-at : (a b : List ℕ) → divides a b ≡ true → (k : ℕ) → get_or a k 0 ≤ get_or b k 0
unfolding divides
divides-at [] b d k = omega arith
divides-at (x ∷ a) [] d zero = grind (arith, nat_tests, d)
divides-at (x ∷ a) [] d (suc k) = let rest : divides a [] ≡ true = grind (arith, nat_tests, d) in divides-at a [] rest k
divides-at (x ∷ a) (y ∷ b) d zero = grind (arith, nat_tests, d)
divides-at (x ∷ a) (y ∷ b) d (suc k) = let rest : divides a b ≡ true = grind (arith, nat_tests, d) in divides-at a b rest k

-- what has no greater exponent is a divisor
pub divides-from : (a b : List ℕ) → ((k : ℕ) → get_or a k 0 ≤ get_or b k 0) → divides a b ≡ true
unfolding divides
divides-from [] b h = refl
divides-from (x ∷ a) [] h = let first : x ≤ 0 = h 0 in let rest = divides-from a [] (λ k. h (suc k)) in grind (arith, nat_tests, first, rest)
divides-from (x ∷ a) (y ∷ b) h = let first : x ≤ y = h 0 in let rest = divides-from a b (λ k. h (suc k)) in grind (arith, nat_tests, first, rest)

-- a monomial whose exponents are no greater has no greater degree
pub low-sum : (a b : List ℕ) → ((k : ℕ) → get_or a k 0 ≤ get_or b k 0) → total_degree a ≤ total_degree b
low-sum [] b h = omega arith
low-sum (x ∷ a) [] h = let first : x ≤ 0 = h 0 in let rest = low-sum a [] (λ k. h (suc k)) in omega (arith, first, rest, sum_by-cons (λ (n : ℕ). n) x a)
low-sum (x ∷ a) (y ∷ b) h = let first : x ≤ y = h 0 in let rest = low-sum a b (λ k. h (suc k)) in omega (arith, first, rest, sum_by-cons (λ (n : ℕ). n) x a, sum_by-cons (λ (n : ℕ). n) y b)

-- x is the least of the start and of the exponents of the variable at place k in the first n terms
pub record IsLeastSoFar (start : ℕ) (terms : Polynomial ℕ) (k n x : ℕ) : Type 0 where
  pub low : x ≤ start
  pub each : (i : ℕ) (d : Term ℕ) → i < n → x ≤ get_or (get_or terms i d).0 k 0
  pub greatest : (m : ℕ) → m ≤ start → ((i : ℕ) (d : Term ℕ) → i < n → m ≤ get_or (get_or terms i d).0 k 0) → m ≤ x

pub least-start : (start : ℕ) (terms : Polynomial ℕ) (k : ℕ) → IsLeastSoFar start terms k 0 start
least-start start terms k = record { low = omega arith; each = λ i d h. absurd (omega (arith, h)); greatest = λ m h all. h }

-- one term more
pub least-step : (start : ℕ) (terms : Polynomial ℕ) (k n x y : ℕ) → ((d : Term ℕ) → y ≡ get_or (get_or terms n d).0 k 0) → IsLeastSoFar start terms k n x → IsLeastSoFar start terms k (n + 1) (min x y)
least-step start terms k n x y at h = record {
  low = let a = h.low in omega (arith, a);
  each = λ i d low. elim (cases_lt i n) [
    | inl before ↦ let a = h.each i d before in omega (arith, a)
    | inr last ↦ let same : i ≡ n = omega (arith, low, last) in subst (λ j. min x y ≤ get_or (get_or terms j d).0 k 0) (sym same) (let a = at d in omega (arith, a))
  ];
  greatest = λ m low all. let a = h.greatest m low (λ i d inside. all i d (omega (arith, inside))) in let b = all n (m ∷ [], 0) (omega arith) in let e = at (m ∷ [], 0) in omega (arith, a, b, e);
}

-- the least exponent in the one list of terms, and then in the other
pub least-both : (first : List ℕ) (f g : Polynomial ℕ) (k s x y : ℕ) → s ≡ get_or first k 0 → x ≤ s → All (λ t. x ≤ get_or t.0 k 0) f → ((m : ℕ) → m ≤ s → All (λ t. m ≤ get_or t.0 k 0) f → m ≤ x)
    → y ≤ x → All (λ t. y ≤ get_or t.0 k 0) g → ((m : ℕ) → m ≤ x → All (λ t. m ≤ get_or t.0 k 0) g → m ≤ y) → IsLeast first f g k y
least-both first f g k s x y at a in_f best b in_g last = record {
  in_first = omega (arith, at, a, b);
  in_left = λ i d inside. let h = in_f i d inside in omega (arith, h, b);
  in_right = in_g;
  greatest = λ m h low high. last m (best m (omega (arith, h, at)) low) high;
}

-- one variable more
pub least-push : (first : List ℕ) (f g : Polynomial ℕ) (out new : List ℕ) (k y : ℕ) → new ≡ out ++ y ∷ [] → length out ≡ k → ((j : ℕ) → j < k → IsLeast first f g j (get_or out j 0)) → IsLeast first f g k y → (j : ℕ) → j < k + 1 → IsLeast first f g j (get_or new j 0)
least-push first f g out new k y items long each here j low = elim (cases_lt j k) [
  | inl before ↦ subst (IsLeast first f g j) (sym (ap (λ (xs : List ℕ). get_or xs j 0) items ∙ get_or_append_left out (y ∷ []) 0 j (omega (arith, before, long)))) (each j before)
  | inr last ↦
      let same : k ≡ j = omega (arith, low, last) in
      subst (λ i. IsLeast first f g i (get_or new i 0)) same (subst (IsLeast first f g k) (sym (ap (λ (xs : List ℕ). get_or xs k 0) items ∙ get_or_push out y 0 k long)) here)
]

module _ (v : ℕ) (first : List ℕ) (f g : Polynomial ℕ) (exponents : List ℕ) (len : length exponents ≡ v) (least : (k : ℕ) → k < v → IsLeast first f g k (get_or exponents k 0)) where
  -- they are at most those of the first monomial
  pub least-below : (k : ℕ) → get_or exponents k 0 ≤ get_or first k 0
  least-below k = elim (cases_lt k v) [
    | inr past ↦ let e = get_or_past exponents k 0 (omega (arith, len, past)) in omega (arith, e)
    | inl inside ↦ let e = (least k inside).in_first in omega (arith, e)
  ]

  module _ (p : ℕ) (nf : IsPart p v f) (ng : IsPart p v g) (c : ℕ) (there : Contains g (first, c)) (vars : length first ≡ v) where
    -- what is at most each exponent divides each monomial
    below-each : (h : Polynomial ℕ) → ((k : ℕ) → k < v → All (λ t. get_or exponents k 0 ≤ get_or t.0 k 0) h) → (e : List ℕ) → IsTrue (has_monomial (residue_ops p) h e) → IsTrue (divides exponents e)
    below-each h each e has = go (term-at (residue_ops p) (residue_laws p) h e has)
      where
        go : (i : ℕ) × (i < length h) × ((d : Term ℕ) → same_monomial (get_or h i d).0 e ≡ true) → IsTrue (divides exponents e)
        go (i, inside, same) = divides-from exponents e (λ k. elim (cases_lt k v) [
          | inr past ↦ let z = get_or_past exponents k 0 (omega (arith, len, past)) in omega (arith, z)
          | inl low ↦ let a = each k low i (e, 0) inside in let s = same_at (get_or h i (e, 0)).0 e (same (e, 0)) k in omega (arith, a, s)
        ])

    -- a divisor of all terms is no greater in any variable
    above-each : (h : Polynomial ℕ) → IsPart p v h → (n : List ℕ) → ((e : List ℕ) → IsTrue (has_monomial (residue_ops p) h e) → IsTrue (divides n e)) → (k : ℕ) → All (λ t. get_or n k 0 ≤ get_or t.0 k 0) h
    above-each h nh n each k i d inside = divides-at n (get_or h i d).0 (each (get_or h i d).0 (has-term (residue_ops p) (residue_laws p) (λ c. nat_lt c p) v h (ordered-from_normal (residue_ops p) (λ c. nat_lt c p) v h nh) (get_or h i d) (Contains-get_or h i d inside))) k

    divisor-below : (n : List ℕ) → DividesBoth (residue_ops p) n (f, g) → (k : ℕ) → get_or n k 0 ≤ get_or exponents k 0
    divisor-below n d k =
        let at_first = divides-at n first (d.denominator first (has-term (residue_ops p) (residue_laws p) (λ c. nat_lt c p) v g (ordered-from_normal (residue_ops p) (λ c. nat_lt c p) v g ng) (first, c) there)) k in
        elim (cases_lt k v) [
          | inr past ↦ let z = get_or_past first k 0 (omega (arith, vars, past)) in omega (arith, z, at_first)
          | inl low ↦ (least k low).greatest (get_or n k 0) at_first (above-each f nf n d.numerator k) (above-each g ng n d.denominator k)
        ]

    -- they are the exponents of the greatest monomial that divides both
    pub least-divides : IsGreatestDivisor (residue_ops p) (f, g) exponents
    least-divides = record {
      common = record { numerator = below-each f (λ k low. (least k low).in_left); denominator = below-each g (λ k low. (least k low).in_right) };
      greatest = λ n d. divides-from n exponents (divisor-below n d);
    }

-- the same, of a denominator with a first term
pub common-divides : (p v : ℕ) (f g : Polynomial ℕ) (t : Term ℕ) (rest : Polynomial ℕ) → g ≡ t ∷ rest → IsPart p v f → IsPart p v g → (exponents : List ℕ) → length exponents ≡ v → ((k : ℕ) → k < v → IsLeast t.0 f g k (get_or exponents k 0)) → (m : List ℕ) → m ≡ exponents → IsGreatestDivisor (residue_ops p) (f, g) m
common-divides p v f g t rest at nf ng exponents len least m is =
    subst (IsGreatestDivisor (residue_ops p) (f, g)) (sym is)
    (least-divides v t.0 f g exponents len least p nf ng t.1 (0, inside, first) (subst (λ (s : Term ℕ). length s.0 ≡ v) first ((ordered-from_normal (residue_ops p) (λ c. nat_lt c p) v g ng).terms 0 t inside).vars))
  where
    inside : 0 < length g
    inside = subst (λ (h : Polynomial ℕ). 0 < length h) (sym at) (omega arith)

    first : get_or g 0 t ≡ t
    first = ap (λ (h : Polynomial ℕ). get_or h 0 t) at
