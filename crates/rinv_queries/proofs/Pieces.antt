-- The lines of queries, piece by piece.
--   symbols-number       there is a symbol for each generator
--   put-behind           a word, a number and what follows, as a format writes them
--   regrouped            pieces that were put behind one another
--   none-shown           where there are no generators
--   laws-line .. vanishing-line    the line of each outcome
use Rattle.std.proofs.Common.{◌≡◌, ℕ, zero, suc, ◌+◌, List, [], ◌∷◌, ◌++◌, length, refl, sym, ap, ◌∙◌, arith, append_assoc, append-nil, length-append}
use Rattle.std.specs.Prelude.{codes, decimal}
use Rattle.rinv_defs.specs.System.{System, Poly}
use Rattle.rinv_defs.specs.Text.{poly_text, fraction_text, fraction_lines}
use Rattle.rinv_defs.specs.Generators.{Expression}
use Rattle.rinv_text.specs.Names.{symbols}
use Rattle.rinv_answers.specs.GeneratorLines.{generator_lines}
use Rattle.rinv_queries.specs.declared.outcome.Outcome.TheVariants.{LawsHold, GeneratorsShown, Invariant, NotInvariant, Rewritten, NotRewritten, Vanishing}
use Rattle.rinv_queries.specs.Lines.{outcome_line}

-- there is a symbol for each generator
pub symbols-number : (n : ℕ) → length (symbols n) ≡ n
unfolding symbols
symbols-number zero = refl
symbols-number (suc n) = length-append (symbols n) ((codes "y" ++ decimal (suc n)) ∷ []) ∙ (let h = symbols-number n in let e : length (symbols n) + 1 ≡ suc n = omega (arith, h) in e)

-- a word, a number and what follows, as a format writes them
pub put-behind : (out head word number rest : List ℕ) → head ≡ word ++ (number ++ rest) → out ++ head ≡ out ++ ((word ++ number) ++ rest)
put-behind out head word number rest e = ap (λ (h : List ℕ). out ++ h) (e ∙ sym (append_assoc word number rest))

-- a head, and then a text and the end of the line
pub regrouped : (out head text end first second : List ℕ) → first ≡ out ++ head → second ≡ first ++ (text ++ end) → second ≡ out ++ ((head ++ text) ++ end)
regrouped out head text end first second a b = b ∙ ap (λ (w : List ℕ). w ++ (text ++ end)) a ∙ go out head text end
  where
    go : (o h t n : List ℕ) → (o ++ h) ++ (t ++ n) ≡ o ++ ((h ++ t) ++ n)
    go o h t n = simp append_assoc

-- where there are no generators, none are shown
pub none-shown : (s : System) (out : List ℕ) → out ≡ out ++ generator_lines s []
unfolding fraction_lines
none-shown s out = sym (append-nil out)

-- ---- the line of each outcome

module _ (s : System) (names : List (List ℕ)) (k : ℕ) (out new : List ℕ) where
  pub laws-line : new ≡ out ++ ((codes "laws " ++ decimal k) ++ codes " hold\n") → new ≡ out ++ outcome_line s names k LawsHold
  unfolding outcome_line
  laws-line e = e

  pub shown-line : new ≡ out → new ≡ out ++ outcome_line s names k GeneratorsShown
  unfolding outcome_line
  shown-line e = e ∙ sym (append-nil out)

  pub invariant-line : new ≡ out ++ ((codes "invariant " ++ decimal k) ++ codes " yes\n") → new ≡ out ++ outcome_line s names k Invariant
  unfolding outcome_line
  invariant-line e = e

  pub vanishing-line : new ≡ out ++ ((codes "rewrite " ++ decimal k) ++ codes " vanishing denominator\n") → new ≡ out ++ outcome_line s names k Vanishing
  unfolding outcome_line
  vanishing-line e = e

  -- the rests are in the names of the group's and the space's variables
  pub stray-line : (rest : Poly) (variables : List (List ℕ)) (head : List ℕ) → variables ≡ s.group ++ s.space → head ≡ out ++ ((codes "invariant " ++ decimal k) ++ codes " no rest ")
      → new ≡ head ++ (poly_text s.p variables rest ++ codes "\n") → new ≡ out ++ outcome_line s names k (NotInvariant rest)
  unfolding outcome_line
  stray-line rest variables head are first second =
      regrouped out ((codes "invariant " ++ decimal k) ++ codes " no rest ") (poly_text s.p (s.group ++ s.space) rest) (codes "\n") head new first
      (second ∙ ap (λ (vs : List (List ℕ)). head ++ (poly_text s.p vs rest ++ codes "\n")) are)

  pub unwritten-line : (rest : Poly) (variables : List (List ℕ)) (head : List ℕ) → variables ≡ s.group ++ s.space → head ≡ out ++ ((codes "rewrite " ++ decimal k) ++ codes " not invariant rest ")
      → new ≡ head ++ (poly_text s.p variables rest ++ codes "\n") → new ≡ out ++ outcome_line s names k (NotRewritten rest)
  unfolding outcome_line
  unwritten-line rest variables head are first second =
      regrouped out ((codes "rewrite " ++ decimal k) ++ codes " not invariant rest ") (poly_text s.p (s.group ++ s.space) rest) (codes "\n") head new first
      (second ∙ ap (λ (vs : List (List ℕ)). head ++ (poly_text s.p vs rest ++ codes "\n")) are)

  pub written-line : (e : Expression) (head : List ℕ) → head ≡ out ++ ((codes "rewrite " ++ decimal k) ++ codes " = ") → new ≡ head ++ (fraction_text s.p names e ++ codes "\n")
      → new ≡ out ++ outcome_line s names k (Rewritten e)
  unfolding outcome_line
  written-line e head first second = regrouped out ((codes "rewrite " ++ decimal k) ++ codes " = ") (fraction_text s.p names e) (codes "\n") head new first second
