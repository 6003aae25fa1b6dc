-- The text of a polynomial denotes it.
use Rattle.std.proofs.Common.{◌≡◌, ℕ, suc, ◌+◌, ◌<◌, ◌≤◌, ◌^◌, List, [], ◌∷◌, ◌++◌, append_assoc, append-nil, length, map, refl, sym, ◌∙◌, subst, true, false, IsTrue, nat_lt, bytes_eq, codes, All, arith}
use Rattle.std.specs.Prelude.{flat_map}
use Rattle.std.specs.List.{list_all, IsDistinct}
use Rattle.std.specs.List.Sorted.{IsPermutation}
use Rattle.std.proofs.lemmas.Bool.{ltb-true}
use Rattle.std.proofs.lemmas.Bool.Decides.{nat_tests}
use Rattle.std.proofs.lemmas.List.Elements.{All-head, All-tail, All-weaker}
use Rattle.std.proofs.lemmas.List.Sorted.{All-permutation, length_permutation}
use Rattle.rinv_algebra.specs.Ring.{RingOps}
use Rattle.rinv_algebra.specs.Residue.{is_listed, residue_ops}
use Rattle.rinv_algebra.specs.Monomial.{total_degree}
use Rattle.rinv_algebra.specs.Polynomial.{Polynomial, Term, constant}
use Rattle.rinv_algebra.specs.Normal.{IsNormal}
use Rattle.rinv_algebra.proofs.ResidueLaws.{residue_laws}
use Rattle.rinv_poly.proofs.Gather.{same-back, term-zero}
use Rattle.rinv_poly.proofs.Permuted.{same-permuted}
use Rattle.rinv_poly.proofs.Forms.{IsNormalTerm, ordered-from_normal}
use Rattle.rinv_defs.specs.Text.{term_text, terms_text, poly_text, descending_terms, is_sum}
use Rattle.rinv_text.specs.Printable.{is_word, AreWords, IsWithinLimits}
use Rattle.rinv_text.specs.Grammar.{term, expression}
use Rattle.rinv_text.specs.Stops.{Denotes}
use Rattle.rinv_text.proofs.PrintedTokens.{IsNumberText}
use Rattle.rinv_text.proofs.PrintedPhrases.{Phrase, number-phrase, sum-phrase, phrase-same, phrase-lower, as-factor, as-term, as-expression, phrase-denotes}
use Rattle.rinv_text.proofs.PrintedTerms.{term-phrase}
use Rattle.rinv_text.proofs.PrintedOrder.{descending_terms-permuted}

-- a term that may be printed
pub record IsPrintedTerm (v : ℕ) (t : Term ℕ) : Type 0 where
  pub long : length t.0 ≡ v
  pub low : total_degree t.0 ≤ 64
  pub small : t.1 < 2 ^ 64

-- s is an expression with the value f
pub record IsPrintedText (p : ℕ) (names : List (List ℕ)) (s : List ℕ) (f : Polynomial ℕ) : Type 0 where
  pub degree : ℕ
  pub terms : ℕ
  pub phrase : Phrase p names expression s f degree terms

module _ (p : ℕ) (names : List (List ℕ)) (words : list_all is_word names ≡ true) (distinct : IsDistinct bytes_eq names) where
  abbrev o : RingOps ℕ
  o = residue_ops p

  one-phrase : (t : Term ℕ) → IsPrintedTerm (length names) t → Phrase p names term (term_text names t) (t ∷ []) 64 1
  one-phrase (m, c) h = phrase-lower p names term (term_text names (m, c)) ((m, c) ∷ []) (total_degree m) 64 1 h.low (term-phrase p names words distinct m c h.long h.low h.small)

  -- a sum goes on
  goes-on : (s : List ℕ) (f ts : Polynomial ℕ) (n : ℕ) → n + length ts ≤ 1000000 → All (IsPrintedTerm (length names)) ts → Phrase p names expression s f 64 n
      → Phrase p names expression (s ++ flat_map (λ y. codes " + " ++ y) (map (term_text names) ts)) (f ++ ts) 64 (n + length ts)
  goes-on s f [] n few all h = let e : n + 0 ≡ n = omega arith in rw (append-nil s, append-nil f, e) h
  goes-on s f (t ∷ ts) n few all h =
      let text : List ℕ = term_text names t in
      let rest : List ℕ = flat_map (λ y. codes " + " ++ y) (map (term_text names) ts) in
      let more = sum-phrase p names s text f (t ∷ []) 64 n 1 h (one-phrase t (All-head (IsPrintedTerm (length names)) t ts all)) (omega arith) (omega (arith, few)) in
      let ih = goes-on (s ++ 32 ∷ 43 ∷ 32 ∷ text) (f ++ t ∷ []) ts (n + 1) (omega (arith, few)) (All-tail (IsPrintedTerm (length names)) t ts all) more in
      let count : n + 1 + length ts ≡ n + suc (length ts) = omega arith in
      subst (λ k. Phrase p names expression (s ++ (32 ∷ 43 ∷ 32 ∷ (text ++ rest))) (f ++ t ∷ ts) 64 k) count
      (subst (λ g. Phrase p names expression (s ++ (32 ∷ 43 ∷ 32 ∷ (text ++ rest))) g 64 (n + 1 + length ts)) (append_assoc f (t ∷ []) ts)
      (subst (λ x. Phrase p names expression x ((f ++ t ∷ []) ++ ts) 64 (n + 1 + length ts)) (append_assoc s (32 ∷ 43 ∷ 32 ∷ text) rest) ih))

  nothing : IsNumberText (codes "0") 0
  nothing = record { first = 48; others = []; is = refl; all = refl; value = refl }

  -- terms as they stand
  terms-printed : (ts : Polynomial ℕ) → length ts ≤ 1000000 → All (IsPrintedTerm (length names)) ts → IsPrintedText p names (terms_text names ts) ts
  terms-printed [] few all = record {
    degree = 0;
    terms = 1;
    phrase = phrase-same p names expression (codes "0") (constant o 0) [] 0 1 (same-back o (residue_laws p) (constant o 0) [] (term-zero o (residue_laws p) [] 0 ((residue_laws p).same_refl 0)))
        (as-expression p names (codes "0") (constant o 0) 0 1 (as-term p names (codes "0") (constant o 0) 0 1 (as-factor p names (codes "0") (constant o 0) 0 1 (number-phrase p names (codes "0") 0 nothing (omega arith)))));
  }
  terms-printed (t ∷ ts) few all = let text : List ℕ = term_text names t in record {
    degree = 64;
    terms = 1 + length ts;
    phrase = goes-on text (t ∷ []) ts 1 (omega (arith, few)) (All-tail (IsPrintedTerm (length names)) t ts all)
        (as-expression p names text (t ∷ []) 64 1 (one-phrase t (All-head (IsPrintedTerm (length names)) t ts all)));
  }

  -- a single term, or none
  term-printed : (ts : Polynomial ℕ) → nat_lt 1 (length ts) ≡ false → All (IsPrintedTerm (length names)) ts → Phrase p names term (terms_text names ts) ts 64 1
  term-printed [] one all =
      phrase-lower p names term (codes "0") [] 0 64 1 (omega arith)
      (phrase-same p names term (codes "0") (constant o 0) [] 0 1 (same-back o (residue_laws p) (constant o 0) [] (term-zero o (residue_laws p) [] 0 ((residue_laws p).same_refl 0)))
      (as-term p names (codes "0") (constant o 0) 0 1 (as-factor p names (codes "0") (constant o 0) 0 1 (number-phrase p names (codes "0") 0 nothing (omega arith)))))
  term-printed (t ∷ []) one all = rw (append-nil (term_text names t)) (one-phrase t (All-head (IsPrintedTerm (length names)) t [] all))
  term-printed (t ∷ u ∷ ts) one all = absurd (several (length ts) one)
    where
      several : (n : ℕ) → nat_lt 1 (suc (suc n)) ≡ false → ⊥
      several n e = let more : nat_lt 1 (suc (suc n)) ≡ true = grind (arith, nat_tests) in let clash : true ≡ false = sym more ∙ e in cc

-- the modulus is small
listed-small : (p : ℕ) → IsTrue (is_listed p) → p ≤ 2 ^ 64
listed-small p listed = grind (arith, nat_tests)

-- the terms of a polynomial as they are printed
record IsPrintable (p : ℕ) (names : List (List ℕ)) (f : Polynomial ℕ) : Type 0 where
  moved : IsPermutation f (descending_terms p f)
  few : length (descending_terms p f) ≤ 1000000
  each : All (IsPrintedTerm (length names)) (descending_terms p f)

printable : (p : ℕ) (names : List (List ℕ)) (f : Polynomial ℕ) → IsTrue (is_listed p) → IsNormal (residue_ops p) (λ c. nat_lt c p) (length names) f → IsWithinLimits f → IsPrintable p names f
printable p names f listed normal h =
    let n = ordered-from_normal (residue_ops p) (λ c. nat_lt c p) (length names) f normal in
    let ts : Polynomial ℕ = descending_terms p f in
    let moved : IsPermutation f ts = descending_terms-permuted p (length names) f listed normal in
    let each : All (IsPrintedTerm (length names)) f = All-weaker (λ t. IsNormalTerm (residue_ops p) (λ c. nat_lt c p) (length names) t × (total_degree t.0 ≤ 64)) (IsPrintedTerm (length names))
    (λ t both. record { long = both.0.vars; low = both.1; small = omega (arith, ltb-true t.1 p both.0.coefficient, listed-small p listed) }) f (λ k d lt. (n.terms k d lt, h.low k d lt)) in
    record { moved = moved; few = omega (arith, h.few, length_permutation f ts moved); each = All-permutation (IsPrintedTerm (length names)) f ts moved each }

-- the text of a polynomial within the limits
pub printed-text : (p : ℕ) (names : List (List ℕ)) (f : Polynomial ℕ) → IsTrue (is_listed p) → AreWords names → IsNormal (residue_ops p) (λ c. nat_lt c p) (length names) f → IsWithinLimits f → IsPrintedText p names (poly_text p names f) f
unfolding poly_text
printed-text p names f listed words normal h =
    let h = printable p names f listed normal h in
    let text = terms-printed p names words.words words.distinct (descending_terms p f) h.few h.each in
    record {
      degree = text.degree;
      terms = text.terms;
      phrase = phrase-same p names expression (terms_text names (descending_terms p f)) (descending_terms p f) f text.degree text.terms (same-permuted (residue_ops p) (residue_laws p) f (descending_terms p f) h.moved) text.phrase;
    }

-- the text of one that is no sum
pub printed-term : (p : ℕ) (names : List (List ℕ)) (f : Polynomial ℕ) → IsTrue (is_listed p) → AreWords names → IsNormal (residue_ops p) (λ c. nat_lt c p) (length names) f → IsWithinLimits f → is_sum p f ≡ false → Phrase p names term (poly_text p names f) f 64 1
unfolding poly_text
printed-term p names f listed words normal h one =
    let h = printable p names f listed normal h in
    phrase-same p names term (terms_text names (descending_terms p f)) (descending_terms p f) f 64 1 (same-permuted (residue_ops p) (residue_laws p) f (descending_terms p f) h.moved) (term-printed p names words.words words.distinct (descending_terms p f) one h.each)

-- it denotes the polynomial
pub printed-denoted : (p : ℕ) (names : List (List ℕ)) (f : Polynomial ℕ) → IsTrue (is_listed p) → AreWords names → IsNormal (residue_ops p) (λ c. nat_lt c p) (length names) f → IsWithinLimits f → Denotes p names (poly_text p names f) f
printed-denoted p names f listed words normal h = let text = printed-text p names f listed words normal h in phrase-denotes p names (poly_text p names f) f text.degree text.terms text.phrase
