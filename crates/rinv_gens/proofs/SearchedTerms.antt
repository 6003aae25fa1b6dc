-- The coefficient of a stored polynomial at a monomial, as its terms are searched.
--   IsPassed, passed-more    the first terms have other monomials
--   found-element, found-coefficient    the term that has it
--   none-found           no term has it
use Rattle.std.proofs.Common.{◌≡◌, ◌<◌, ◌≤◌, ◌+◌, ◌==◌, ℕ, zero, suc, Bool, true, false, List, [], ◌∷◌, length, get_or, sym, ap, ◌∙◌, subst, inl, inr, nat_lt, arith, true≢false, All}
use Rattle.std.specs.Ordering.{ordering_index, is_eq}
use Rattle.std.specs.declared.cmp.Ordering.{Ordering}
use Rattle.std.proofs.lemmas.Bool.{cases_lt, cases_Bool}
use Rattle.std.proofs.lemmas.Bool.Decides.{nat_tests}
use Rattle.std.proofs.lemmas.Cmp.{is_eq_index}
use Rattle.std.proofs.lemmas.List.{get_or_default}
use Rattle.rinv_algebra.specs.Ring.{IsSame}
use Rattle.rinv_algebra.specs.Residue.{residue_ops}
use Rattle.rinv_algebra.specs.Monomial.{same_monomial}
use Rattle.rinv_algebra.specs.Order.{lex}
use Rattle.rinv_algebra.specs.Polynomial.{Term, coefficient}
use Rattle.rinv_algebra.specs.Normal.{IsNormal}
use Rattle.rinv_algebra.proofs.MonomialLaws.{same_monomial-of_length}
use Rattle.rinv_algebra.proofs.ResidueLaws.{residue_laws}
use Rattle.rinv_algebra.proofs.RingFacts as facts
use Rattle.rinv_algebra.proofs.Same.{IsAbsent, coefficient-absent}
use Rattle.rinv_poly.proofs.Forms.{IsNormalTerm, ordered-from_normal}
use Rattle.rinv_poly.proofs.Lexicographic.{lex_equal, lex_itself}
use Rattle.rinv_poly.proofs.NormalFacts.{coefficient-of_term}
use Rattle.rinv_defs.specs.System.{Poly}

-- two monomials that compare as equal are
pub compared-equal : (a b : List ℕ) (x : Ordering) (r : Bool) → x ≡ lex a b → r ≡ (ordering_index x == 1) → r ≡ true → a ≡ b
compared-equal a b x r is e h = lex_equal a b (ap is_eq (sym is) ∙ is_eq_index x ∙ sym e ∙ h)

-- and others are not
pub compared-other : (a b : List ℕ) (x : Ordering) (r : Bool) → x ≡ lex a b → r ≡ (ordering_index x == 1) → r ≡ false → ¬ (a ≡ b)
compared-other a b x r is e h same = true≢false (sym (ap is_eq (lex_itself b)) ∙ ap (λ (m : List ℕ). is_eq (lex m b)) (sym same) ∙ ap is_eq (sym is) ∙ is_eq_index x ∙ sym e ∙ h)

-- the first k terms have other monomials
abbrev pub IsPassed : List ℕ → Poly → ℕ → Type 0
IsPassed m f k = (i : ℕ) (d : Term ℕ) → i < k → ¬ ((get_or f i d).0 ≡ m)

pub passed-more : (m : List ℕ) (f : Poly) (k : ℕ) (a : List ℕ) → k < length f → ((t : Term ℕ) → a ≡ (get_or f k t).0) → IsPassed m f k → ¬ (a ≡ m) → IsPassed m f (k + 1)
passed-more m f k a few at so_far here i d low = elim (cases_lt i k) [
  | inl before ↦ so_far i d before
  | inr after ↦ let last : k ≡ i = omega (arith, low, after) in λ e. here (at d ∙ ap (λ (j : ℕ). (get_or f j d).0) last ∙ e)
]

module _ (p v : ℕ) (f : Poly) (normal : IsNormal (residue_ops p) (λ c. nat_lt c p) v f) (m : List ℕ) where
  -- the term that has it
  module _ (k c : ℕ) (a : List ℕ) (few : k < length f) (monomial : (t : Term ℕ) → a ≡ (get_or f k t).0) (number : (t : Term ℕ) → c ≡ (get_or f k t).1) where
    pub found-element : c < p
    found-element =
        let t : Term ℕ = (a, c) in
        let term = (ordered-from_normal (residue_ops p) (λ c. nat_lt c p) v f normal).terms k t few in
        let low : nat_lt c p ≡ true = subst (λ (n : ℕ). nat_lt n p ≡ true) (sym (number t)) term.coefficient in
        grind (arith, nat_tests, low)

    pub found-coefficient : a ≡ m → IsSame (residue_ops p) c (coefficient (residue_ops p) f m)
    found-coefficient e =
        let d : Term ℕ = (a, c) in
        let t : Term ℕ = get_or f k d in
        let o = residue_ops p in
        let l = residue_laws p in
        let at : IsSame o (coefficient o f t.0) t.1 = coefficient-of_term o l (λ c. nat_lt c p) v f (ordered-from_normal o (λ c. nat_lt c p) v f normal) t (k, few, sym (get_or_default f k d t few)) in
        subst (λ (n : ℕ). IsSame o n (coefficient o f m)) (sym (number d))
        (subst (λ (b : List ℕ). IsSame o t.1 (coefficient o f b)) (sym (monomial d) ∙ e) (l.same_sym (coefficient o f t.0) t.1 at))

  -- no term has it
  pub none-found : length m ≡ v → (k : ℕ) → length f ≤ k → IsPassed m f k → IsSame (residue_ops p) 0 (coefficient (residue_ops p) f m)
  none-found long k whole passed =
      facts.of_same (residue_ops p) (residue_laws p) (sym (coefficient-absent (residue_ops p) m f (absent f (λ i d low. (ordered-from_normal (residue_ops p) (λ c. nat_lt c p) v f normal).terms i d low) (λ i d low. passed i d (omega (arith, low, whole))))))
    where
      absent : (f : Poly) → All (IsNormalTerm (residue_ops p) (λ c. nat_lt c p) v) f → IsPassed m f (length f) → IsAbsent m f
      absent [] terms h = tt
      absent (t ∷ f) terms h = (
        other t.0 (terms zero t (omega arith)).vars (h zero t (omega arith)),
        absent f (λ i d low. terms (suc i) d (omega (arith, low))) (λ i d low. h (suc i) d (omega (arith, low))),
      )
        where
          other : (a : List ℕ) → length a ≡ v → ¬ (a ≡ m) → same_monomial a m ≡ false
          other a la differ = elim (cases_Bool (same_monomial a m)) [
            | inl here ↦ absurd (differ (same_monomial-of_length a m (la ∙ sym long) here))
            | inr off ↦ off
          ]
