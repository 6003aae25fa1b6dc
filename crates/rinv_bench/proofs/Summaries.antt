-- The last expression among outcomes, and the summary.
--   ends, step, none-left    from the end of the outcomes, one is no expression after another
--   found-at                 the first that is one, from the end
--   summed-up                the pieces of the summary
use Rattle.std.proofs.Common.{◌≡◌, ℕ, zero, suc, ◌+◌, ◌-◌, ◌<◌, List, [], ◌∷◌, ◌++◌, length, drop, get_or, Bool, true, false, ◌||◌, refl, sym, ap, ap₂, ◌∙◌, subst, Option, Some, None, arith, append-nil, append_assoc, ◌≤◌, true≢false}
use Rattle.std.specs.Prelude.{codes, decimal}
use Rattle.std.specs.Option.{option_or}
use Rattle.std.specs.List.{list_any, count_by}
use Rattle.std.proofs.lemmas.List.{drop_more, drop_all}
use Rattle.rinv_defs.specs.System.{System}
use Rattle.rinv_defs.specs.Generators.{Expression}
use Rattle.rinv_defs.specs.Text.{fraction_text}
use Rattle.rinv_text.specs.Names.{symbols}
use Rattle.rinv_answers.specs.GeneratorLines.{complete_line}
use Rattle.rinv_queries.specs.declared.outcome.Outcome.{Outcome}
use Rattle.rinv_queries.specs.declared.outcome.Outcome.TheVariants.{LawsHold, GeneratorsShown, Invariant, NotInvariant, Rewritten, NotRewritten, Vanishing}
use Rattle.rinv_bench.specs.Summary.{is_rewritten, is_not_invariant, expression_at, last_expression, number_line, last_line, summary_lines, summary_text}

-- ---- the last expression

or-parts : (a b : Bool) → (a || b) ≡ false → (a ≡ false) × (b ≡ false)
or-parts true b e = absurd (true≢false e)
or-parts false b e = (refl, e)

not-at : (k : ℕ) (o : Outcome) → is_rewritten o ≡ false → expression_at k o ≡ None
not-at k LawsHold e = refl
not-at k GeneratorsShown e = refl
not-at k Invariant e = refl
not-at k (NotInvariant rest) e = refl
not-at k (Rewritten x) e = cc
not-at k (NotRewritten rest) e = refl
not-at k Vanishing e = refl

none-found : (k : ℕ) (os : List Outcome) → list_any is_rewritten os ≡ false → last_expression k os ≡ None
unfolding last_expression
none-found k [] e = refl
none-found k (o ∷ os) e =
    let parts = or-parts (is_rewritten o) (list_any is_rewritten os) e in
    ap (λ (l : Option (ℕ × Expression)). option_or l (expression_at k o)) (none-found (k + 1) os parts.1) ∙ not-at k o parts.0

found-from : (k place : ℕ) (os : List Outcome) (d : Outcome) (e : Expression) → place < length os → list_any is_rewritten (drop (place + 1) os) ≡ false → get_or os place d ≡ Rewritten e
    → last_expression k os ≡ Some (place + k, e)
unfolding last_expression
found-from k place [] d e low none is = absurd (omega (arith, low))
found-from k zero (o ∷ os) d e low none is =
    let same : k ≡ 0 + k = omega arith in
    ap (λ (l : Option (ℕ × Expression)). option_or l (expression_at k o)) (none-found (k + 1) os none) ∙ ap (λ (x : Outcome). expression_at k x) is
    ∙ ap (λ (n : ℕ). Some (n, e)) same
found-from k (suc p) (o ∷ os) d e low none is =
    let within : p < length os = omega (arith, low) in
    let number : suc p + 1 ≡ suc (p + 1) = omega arith in
    let same : p + (k + 1) ≡ suc p + k = omega arith in
    ap (λ (l : Option (ℕ × Expression)). option_or l (expression_at k o))
    (found-from (k + 1) p os d e within (subst (λ (n : ℕ). list_any is_rewritten (drop n (o ∷ os)) ≡ false) number none) is)
    ∙ ap (λ (n : ℕ). Some (n, e)) same

-- the place of an expression, behind which there is none
pub found-at : (i place : ℕ) (os : List Outcome) (d : Outcome) (e : Expression) → i < length os → place ≡ length os - 1 - i → list_any is_rewritten (drop (length os - i) os) ≡ false → get_or os place d ≡ Rewritten e
    → last_expression 1 os ≡ Some (place + 1, e)
found-at i place os d e low at none is =
    let within : place < length os = omega (arith, low, at) in
    let next : length os - i ≡ place + 1 = omega (arith, low, at) in
    found-from 1 place os d e within (subst (λ (n : ℕ). list_any is_rewritten (drop n os) ≡ false) next none) is

pub ends : (os : List Outcome) → list_any is_rewritten (drop (length os - 0) os) ≡ false
ends os = let past : length os ≤ length os - 0 = omega arith in ap (λ (l : List Outcome). list_any is_rewritten l) (drop_all (length os - 0) os past)

pub step : (i place : ℕ) (os : List Outcome) (d : Outcome) → i < length os → place ≡ length os - 1 - i → list_any is_rewritten (drop (length os - i) os) ≡ false → is_rewritten (get_or os place d) ≡ false
    → list_any is_rewritten (drop (length os - (i + 1)) os) ≡ false
step i place os d low at none not =
    let within : place < length os = omega (arith, low, at) in
    let next : length os - i ≡ place + 1 = omega (arith, low, at) in
    let here : length os - (i + 1) ≡ place = omega (arith, low, at) in
    ap (λ (n : ℕ). list_any is_rewritten (drop n os)) here
    ∙ ap (λ (l : List Outcome). list_any is_rewritten l) (drop_more os place d within)
    ∙ ap₂ (λ (a b : Bool). a || b) not (subst (λ (n : ℕ). list_any is_rewritten (drop n os) ≡ false) next none)

pub none-left : (i : ℕ) (os : List Outcome) → i ≡ length os → list_any is_rewritten (drop (length os - i) os) ≡ false → last_expression 1 os ≡ None
none-left i os all none = let zero_left : length os - i ≡ 0 = omega (arith, all) in none-found 1 os (subst (λ (n : ℕ). list_any is_rewritten (drop n os) ≡ false) zero_left none)

-- ---- what is printed of it

module _ (s : System) (names : List (List ℕ)) (os : List Outcome) (out : List ℕ) where
  pub none-printed : (new : List ℕ) → new ≡ out → last_expression 1 os ≡ None → new ≡ out ++ last_line s names (last_expression 1 os)
  none-printed new same none = same ∙ sym (append-nil out) ∙ ap (λ (l : Option (ℕ × Expression)). out ++ last_line s names l) (sym none)

  pub printed : (k : ℕ) (e : Expression) (same head new : List ℕ) → same ≡ out → head ≡ same ++ (codes "last " ++ decimal k ++ codes " = ") → new ≡ head ++ (fraction_text s.p names e ++ codes "\n")
      → last_expression 1 os ≡ Some (k, e) → new ≡ out ++ last_line s names (last_expression 1 os)
  printed k e same head new is first second found =
      second ∙ ap (λ (h : List ℕ). h ++ (fraction_text s.p names e ++ codes "\n")) (first ∙ ap (λ (o : List ℕ). o ++ (codes "last " ++ decimal k ++ codes " = ")) is)
      ∙ regrouped out (codes "last " ++ decimal k ++ codes " = ") (fraction_text s.p names e) (codes "\n")
      ∙ ap (λ (l : Option (ℕ × Expression)). out ++ last_line s names l) (sym found)
    where
      regrouped : (o h t n : List ℕ) → (o ++ h) ++ (t ++ n) ≡ o ++ ((h ++ t) ++ n)
      regrouped o h t n = simp append_assoc

-- ---- the summary

-- a number behind its words, and the end of its line
pub summed-up : (k : ℕ) (s : System) (count rewritten strays : ℕ) (os : List Outcome) (names : List (List ℕ)) (a b c d e f : List ℕ)
    → rewritten ≡ count_by is_rewritten os → strays ≡ count_by is_not_invariant os → names ≡ symbols count
    → a ≡ number_line (codes "bench ") k → b ≡ a ++ number_line (codes "generators ") count → c ≡ b ++ number_line (codes "rewritten ") rewritten → d ≡ c ++ number_line (codes "not invariant ") strays
    → e ≡ d ++ last_line s names (last_expression 1 os) → f ≡ e ++ complete_line s → f ≡ summary_text k s count os
unfolding summary_lines
summed-up k s count rewritten strays os names a b c d e f many few are first second third fourth fifth sixth =
    sixth ∙ ap (λ (t : List ℕ). t ++ complete_line s) (fifth
    ∙ ap₂ (λ (t : List ℕ) (ns : List (List ℕ)). t ++ last_line s ns (last_expression 1 os)) (fourth
    ∙ ap₂ (λ (t : List ℕ) (n : ℕ). t ++ number_line (codes "not invariant ") n) (third
    ∙ ap₂ (λ (t : List ℕ) (n : ℕ). t ++ number_line (codes "rewritten ") n) (second
    ∙ ap (λ (t : List ℕ). t ++ number_line (codes "generators ") count) first) many) few) are)
