-- The lines of fractions, one more at a time.
--   append_assoc-5              five pieces in a row, as a format writes them
--   fraction_lines-take_more    the lines of one fraction more
--   fraction-line               the line of a fraction, piece by piece
use Rattle.std.proofs.Common.{◌≡◌, ℕ, suc, ◌+◌, ◌<◌, List, [], ◌∷◌, ◌++◌, length, get_or, take, refl, sym, ap, ◌∙◌, arith, append_assoc, append-nil, length-take}
use Rattle.std.proofs.lemmas.List.{take_more}
use Rattle.std.specs.Prelude.{codes, decimal}
use Rattle.rinv_defs.specs.Invariant.{Fraction}
use Rattle.rinv_defs.specs.Text.{fraction_lines, fraction_text}
use Rattle.rinv_lines.specs.Pieces.{fraction_line}

-- five pieces in a row, as a format writes them
pub append_assoc-5 : (a b c d e : List ℕ) → (((a ++ b) ++ c) ++ d) ++ e ≡ a ++ (b ++ (c ++ (d ++ e)))
append_assoc-5 a b c d e = simp append_assoc

lines-push : (p : ℕ) (names : List (List ℕ)) (k : ℕ) (fs : List Fraction) (f : Fraction) → fraction_lines p names k (fs ++ f ∷ []) ≡ fraction_lines p names k fs ++ fraction_line p names (k + length fs) f
unfolding fraction_lines
lines-push p names k [] f = append-nil (fraction_line p names k f) ∙ ap (λ (n : ℕ). fraction_line p names n f) (let e : k ≡ k + 0 = omega arith in e)
lines-push p names k (g ∷ fs) f =
    ap (λ (r : List ℕ). fraction_line p names k g ++ r) (lines-push p names (k + 1) fs f ∙ ap (λ (n : ℕ). fraction_lines p names (k + 1) fs ++ fraction_line p names n f) (let e : (k + 1) + length fs ≡ k + suc (length fs) = omega arith in e))
    ∙ sym (append_assoc (fraction_line p names k g) (fraction_lines p names (k + 1) fs) _)

-- the lines of one fraction more
pub fraction_lines-take_more : (p : ℕ) (names : List (List ℕ)) (fs : List Fraction) (k : ℕ) (d : Fraction) → k < length fs → fraction_lines p names 1 (take (k + 1) fs) ≡ fraction_lines p names 1 (take k fs) ++ fraction_line p names (k + 1) (get_or fs k d)
fraction_lines-take_more p names fs k d h =
    ap (fraction_lines p names 1) (take_more fs k d h) ∙ lines-push p names 1 (take k fs) (get_or fs k d)
    ∙ ap (λ (n : ℕ). fraction_lines p names 1 (take k fs) ++ fraction_line p names n (get_or fs k d)) (let e : 1 + length (take k fs) ≡ k + 1 = omega (arith, length-take k fs) in e)

pub fraction_lines-nil : (p : ℕ) (names : List (List ℕ)) (k : ℕ) → fraction_lines p names k [] ≡ []
unfolding fraction_lines
fraction_lines-nil p names k = refl

regrouped : (o a b c d e : List ℕ) → ((o ++ (a ++ (b ++ c))) ++ d) ++ e ≡ o ++ ((((a ++ b) ++ c) ++ d) ++ e)
regrouped o a b c d e = simp append_assoc

-- the line of a fraction, piece by piece
pub fraction-line : (p : ℕ) (names : List (List ℕ)) (k : ℕ) (f : Fraction) (out head with_head with_text line : List ℕ) → head ≡ codes "y" ++ (decimal k ++ codes " = ") → with_head ≡ out ++ head
    → with_text ≡ with_head ++ fraction_text p names f → line ≡ with_text ++ codes "\n" → line ≡ out ++ fraction_line p names k f
fraction-line p names k f out head with_head with_text line is first text last =
    last ∙ ap (λ (w : List ℕ). w ++ codes "\n") (text ∙ ap (λ (w : List ℕ). w ++ fraction_text p names f) (first ∙ ap (λ (w : List ℕ). out ++ w) is))
    ∙ regrouped out (codes "y") (decimal k) (codes " = ") (fraction_text p names f) (codes "\n")
