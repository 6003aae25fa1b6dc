-- What follows the word of a written line is taken for what was written.
use Rattle.std.proofs.Common.{◌≡◌, ℕ, suc, ◌%◌, ◌<◌, ◌≤◌, ◌^◌, List, [], ◌∷◌, length, map, decimal, refl, sym, ap, ◌∙◌, subst, Bool, true, false, ◌==◌, nat_lt, All, IsTrue, if◌then◌else◌, inl, inr, arith}
use Rattle.std.specs.List.{list_all}
use Rattle.std.proofs.Math.Nat.{mod-eq_of_lt}
use Rattle.std.proofs.lemmas.Bool.{cases_Bool, eqb-true, ltb-true}
use Rattle.std.proofs.lemmas.Bool.Decides.{nat_tests}
use Rattle.std.proofs.lemmas.List.Elements.{All-head, All-tail}
use Rattle.std.proofs.lemmas.List.{length-map}
use Rattle.rinv_algebra.specs.Ring.{IsSame}
use Rattle.rinv_algebra.specs.Residue.{is_listed, modulus_of, residue_ops}
use Rattle.rinv_algebra.specs.Polynomial.{constant, coefficient}
use Rattle.rinv_algebra.specs.Normal.{IsNormal, descends}
use Rattle.rinv_algebra.specs.Monomial.{same_monomial}
use Rattle.rinv_algebra.proofs.Same.{both}
use Rattle.rinv_algebra.proofs.ResidueLaws.{residue_laws, modulus_of_listed}
use Rattle.rinv_poly.proofs.Gather.{same-back, term-zero}
use Rattle.rinv_poly.proofs.Units.{nil-normal}
use Rattle.rinv_defs.specs.System.{Poly}
use Rattle.rinv_defs.specs.Text.{poly_text}
use Rattle.rinv_text.specs.Grammar.{expression}
use Rattle.rinv_text.specs.Tokens.{number_of}
use Rattle.rinv_text.specs.Printable.{AreWords, IsWithinLimits}
use Rattle.rinv_text.proofs.PrintedTokens.{decimal-number}
use Rattle.rinv_text.proofs.PrintedBytes.{IsSolid, number-solid}
use Rattle.rinv_text.proofs.PrintedPhrases.{number-phrase, phrase-same, as-factor, as-term, as-expression, phrase-denotes, phrase-behind}
use Rattle.rinv_text.proofs.PrintedSums.{IsPrintedText, printed-text}
use Rattle.rinv_system.specs.Entries.{entries_of, is_numeral}
use Rattle.rinv_system.specs.Forms.{AreEntries}
use Rattle.rinv_system.specs.Written.{list_text}
use Rattle.rinv_text.proofs.SystemParts.{AreNormal}
use Rattle.rinv_system.proofs.WrittenEntries.{AreSolid, behind_blanks, list-entries}
use Rattle.rinv_system.proofs.WrittenLines.{IsLineText, list-line, solid-line}

-- ---- numbers

listed-small : (p : ℕ) → IsTrue (is_listed p) → p ≤ 2 ^ 64
listed-small p listed = grind (arith, nat_tests)

pub number-read : (n : ℕ) → n < 2 ^ 64 → number_of (decimal n) ≡ n
number-read n small = let h = decimal-number n small in h.value

pub number-numeral : (n : ℕ) → n < 2 ^ 64 → is_numeral (decimal n) ≡ true
number-numeral n small =
    let h = decimal-number n small in
    let some : nat_lt 0 (length (decimal n)) ≡ true = subst (λ l. nat_lt 0 (length l) ≡ true) (sym h.is) (positive (length h.others)) in
    rw some h.all
  where
    positive : (k : ℕ) → nat_lt 0 (suc k) ≡ true
    positive k = grind (arith, nat_tests)

pub number-line : (n : ℕ) → n < 2 ^ 64 → IsLineText (decimal n)
number-line n small = solid-line (decimal n) (number-solid (decimal n) n (decimal-number n small))

-- ---- lists of polynomials, each with its text

-- s is the text of f
pub record IsTextOf (p : ℕ) (names : List (List ℕ)) (s : List ℕ) (f : Poly) : Type 0 where
  pub printed : IsPrintedText p names s f
  pub normal : IsNormal (residue_ops p) (λ c. nat_lt c p) (length names) f

abbrev pub AreTexts : ℕ → List (List ℕ) → List (List ℕ) → List Poly → Type 0
AreTexts p names [] [] = Unit {0}
AreTexts p names (s ∷ ss) (f ∷ fs) = IsTextOf p names s f × AreTexts p names ss fs
AreTexts p names _ _ = ⊥

module _ (p : ℕ) (names : List (List ℕ)) where
  solid-of : (s : List ℕ) (f : Poly) → IsTextOf p names s f → IsSolid s
  solid-of s f h = let phrase = h.printed.phrase in phrase.solid

  solids : (ss : List (List ℕ)) (fs : List Poly) → AreTexts p names ss fs → AreSolid ss
  solids [] [] h = tt
  solids (s ∷ ss) (f ∷ fs) h = (solid-of s f h.0, solids ss fs h.1)
  solids [] (f ∷ fs) h = absurd h
  solids (s ∷ ss) [] h = absurd h

  behind : (ss : List (List ℕ)) (fs : List Poly) → AreTexts p names ss fs → AreEntries p names (behind_blanks ss) fs
  behind [] [] h = AreEntries.none
  behind (s ∷ ss) (f ∷ fs) h = AreEntries.one_more (32 ∷ s) f (record { denotes = phrase-behind p names s f h.0.printed.degree h.0.printed.terms h.0.printed.phrase; normal = h.0.normal }) (behind ss fs h.1)
  behind [] (f ∷ fs) h = absurd h
  behind (s ∷ ss) [] h = absurd h

  pub entries-read : (ss : List (List ℕ)) (fs : List Poly) → 1 ≤ length fs → AreTexts p names ss fs → AreEntries p names (entries_of (list_text ss)) fs
  entries-read [] [] some h = absurd (omega (arith, some))
  entries-read [] (f ∷ fs) some h = absurd h
  entries-read (s ∷ ss) [] some h = absurd h
  entries-read (s ∷ ss) (f ∷ fs) some h =
      subst (λ es. AreEntries p names es (f ∷ fs)) (sym (list-entries s ss (solid-of s f h.0) (solids ss fs h.1)))
      (AreEntries.one_more s f (record { denotes = phrase-denotes p names s f h.0.printed.degree h.0.printed.terms h.0.printed.phrase; normal = h.0.normal }) (behind ss fs h.1))

  pub entries-count : (ss : List (List ℕ)) (fs : List Poly) → 1 ≤ length fs → AreTexts p names ss fs → length (entries_of (list_text ss)) ≡ length fs
  entries-count [] [] some h = absurd (omega (arith, some))
  entries-count [] (f ∷ fs) some h = absurd h
  entries-count (s ∷ ss) [] some h = absurd h
  entries-count (s ∷ ss) (f ∷ fs) some h =
      ap length (list-entries s ss (solid-of s f h.0) (solids ss fs h.1)) ∙ ap suc (length-map ss (λ e. 32 ∷ e) ∙ as-many ss fs h.1)
    where
      as-many : (ss : List (List ℕ)) (fs : List Poly) → AreTexts p names ss fs → length ss ≡ length fs
      as-many [] [] h = refl
      as-many (s ∷ ss) (f ∷ fs) h = ap suc (as-many ss fs h.1)
      as-many [] (f ∷ fs) h = absurd h
      as-many (s ∷ ss) [] h = absurd h

  pub entries-line : (ss : List (List ℕ)) (fs : List Poly) → 1 ≤ length fs → AreTexts p names ss fs → IsLineText (list_text ss)
  entries-line [] [] some h = absurd (omega (arith, some))
  entries-line [] (f ∷ fs) some h = absurd h
  entries-line (s ∷ ss) [] some h = absurd h
  entries-line (s ∷ ss) (f ∷ fs) some h = list-line s ss (solid-of s f h.0) (solids ss fs h.1)

  pub polynomials-texts : (fs : List Poly) → IsTrue (is_listed p) → AreWords names → AreNormal p (length names) fs → All IsWithinLimits fs → AreTexts p names (map (poly_text p names) fs) fs
  polynomials-texts [] listed words normal limits = tt
  polynomials-texts (f ∷ fs) listed words normal limits =
      let own = All-head (IsNormal (residue_ops p) (λ c. nat_lt c p) (length names)) f fs normal in (
        record { printed = printed-text p names f listed words own (All-head IsWithinLimits f fs limits); normal = own },
        polynomials-texts fs listed words (All-tail (IsNormal (residue_ops p) (λ c. nat_lt c p) (length names)) f fs normal) (All-tail IsWithinLimits f fs limits),
      )

-- ---- numbers as polynomials without variables

-- the polynomial that a number stands for
abbrev pub as_polynomial : ℕ → Poly
as_polynomial c = if c == 0 then [] else ([], c) ∷ []

single-normal : (p c : ℕ) → IsTrue (is_listed p) → nat_lt c p ≡ true → c < p → (c == 0) ≡ false → IsNormal (residue_ops p) (λ x. nat_lt x p) 0 (([], c) ∷ [])
unfolding descends
single-normal p c listed below low some =
    let own : c % modulus_of p ≡ c = ap (λ m. c % m) (modulus_of_listed p listed) ∙ mod-eq_of_lt low in
    let none : 0 % modulus_of p ≡ 0 = ap (λ m. 0 % m) (modulus_of_listed p listed) ∙ mod-eq_of_lt (omega (arith, low)) in
    rw (below, own, none, some) refl

module _ (p : ℕ) (listed : IsTrue (is_listed p)) where
  one-text : (c : ℕ) → nat_lt c p ≡ true → IsTextOf p [] (decimal c) (as_polynomial c)
  one-text c below =
      let low : c < p = ltb-true c p below in
      let small : c < 2 ^ 64 = omega (arith, low, listed-small p listed) in
      let phrase = as-expression p [] (decimal c) (constant (residue_ops p) c) 0 1 (as-term p [] (decimal c) (constant (residue_ops p) c) 0 1 (as-factor p [] (decimal c) (constant (residue_ops p) c) 0 1 (number-phrase p [] (decimal c) c (decimal-number c small) small))) in
      elim (cases_Bool (c == 0)) [
        | inl none ↦
            let is : c ≡ 0 = eqb-true c 0 none in
            rw none (record {
              printed = record {
                degree = 0;
                terms = 1;
                phrase = phrase-same p [] expression (decimal c) (constant (residue_ops p) c) [] 0 1
                    (same-back (residue_ops p) (residue_laws p) (constant (residue_ops p) c) [] (term-zero (residue_ops p) (residue_laws p) [] c (subst (λ x. IsSame (residue_ops p) x 0) (sym is) ((residue_laws p).same_refl 0)))) phrase;
              };
              normal = nil-normal (residue_ops p) (residue_laws p) (λ x. nat_lt x p) 0;
            })
        | inr some ↦ rw some (record { printed = record { degree = 0; terms = 1; phrase = phrase }; normal = single-normal p c listed below low some })
      ]

  pub numbers-texts : (cs : List ℕ) → list_all (λ c. nat_lt c p) cs ≡ true → AreTexts p [] (map decimal cs) (map as_polynomial cs)
  numbers-texts [] h = tt
  numbers-texts (c ∷ cs) h = let parts = both (nat_lt c p) (list_all (λ x. nat_lt x p) cs) h in (one-text c parts.0, numbers-texts cs parts.1)

  pub constants-back : (cs : List ℕ) → map (λ f. coefficient (residue_ops p) f []) (map as_polynomial cs) ≡ cs
  unfolding coefficient same_monomial
  constants-back [] = refl
  constants-back (c ∷ cs) = ap (λ x. x ∷ map (λ f. coefficient (residue_ops p) f []) (map as_polynomial cs)) (one (c == 0) refl) ∙ ap (λ r. c ∷ r) (constants-back cs)
    where
      one : (b : Bool) → (c == 0) ≡ b → coefficient (residue_ops p) (if b then [] else ([], c) ∷ []) [] ≡ c
      one true e = sym (eqb-true c 0 e)
      one false e = omega arith
