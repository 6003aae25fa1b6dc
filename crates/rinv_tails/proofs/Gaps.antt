-- Where a monomial belongs among terms from the greatest down.
--   is-there             at the term that ties with it
--   gap-before, gap-end  before the first term below it, or behind all
--   above-more           one more term above it
use Rattle.std.proofs.Common.{◌≡◌, ℕ, zero, suc, ◌<◌, ◌≤◌, ◌+◌, List, [], ◌∷◌, length, length-drop, get_or, get_or-drop, take, take_all, refl, sym, ◌∙◌, ap, subst, arith, All, AllPairs}
use Rattle.std.specs.Ordering.{ordering_reverse}
use Rattle.std.specs.declared.cmp.Ordering.TheVariants.{Less, Equal, Greater}
use Rattle.std.proofs.lemmas.List.Elements.{All-more}
use Rattle.rinv_algebra.specs.Order.{grevlex}
use Rattle.rinv_algebra.proofs.Grevlex.{grevlex_laws, grevlex_ties}
use Rattle.rinv_defs.specs.Invariant.{Fraction}
use Rattle.rinv_defs.specs.Extended.{FractionPoly}
use Rattle.rinv_tails.specs.Places.{IsThere, IsGap}

-- what is greater one way is less the other
pub less-from_greater : (a b : List ℕ) → grevlex a b ≡ Greater → grevlex b a ≡ Less
less-from_greater a b e = grevlex_laws.total.antisymm b a ∙ ap ordering_reverse e

module _ (m : List ℕ) (f : FractionPoly) (k : ℕ) where
  pub above-more : (t : List ℕ × Fraction) → k < length f → t ≡ get_or f k t → All (λ u. grevlex m u.0 ≡ Less) (take k f) → grevlex (get_or f k t).0 m ≡ Greater → All (λ u. grevlex m u.0 ≡ Less) (take (k + 1) f)
  above-more t low here above e = All-more (λ u. grevlex m u.0 ≡ Less) f k t low above (less-from_greater (get_or f k t).0 m e)

  -- whatever stands for what is missing
  first : (t : List ℕ × Fraction) → k < length f → t ≡ get_or f k t → (d : List ℕ × Fraction) → get_or f k d ≡ t
  first t low here d = same f k low ∙ sym here
    where
      same : (f : FractionPoly) (k : ℕ) → k < length f → get_or f k d ≡ get_or f k t
      same [] k low = absurd (omega arith)
      same (x ∷ f) zero low = refl
      same (x ∷ f) (suc k) low = same f k (omega (arith, low))

  pub is-there : (t : List ℕ × Fraction) → k < length f → t ≡ get_or f k t → length (get_or f k t).0 ≡ length m → grevlex (get_or f k t).0 m ≡ Equal → IsThere m f k
  is-there t low here many ties = record {
    inside = low;
    same = λ d. subst (λ (u : List ℕ × Fraction). u.0 ≡ m) (sym here ∙ sym (first t low here d)) (grevlex_ties (get_or f k t).0 m many ties);
  }

  pub gap-before : (t : List ℕ × Fraction) → AllPairs (λ s u. grevlex u.0 s.0 ≡ Less) f → k < length f → t ≡ get_or f k t → All (λ u. grevlex m u.0 ≡ Less) (take k f) → grevlex (get_or f k t).0 m ≡ Less → IsGap m f k
  gap-before t down low here above smaller = record {
    inside = omega (arith, low);
    above = above;
    below = λ j d within. subst (λ (u : List ℕ × Fraction). grevlex u.0 m ≡ Less) (sym (get_or-drop k f j d)) (at j d (let l = length-drop k f in omega (arith, within, l)));
  }
    where
      less : grevlex t.0 m ≡ Less
      less = subst (λ (u : List ℕ × Fraction). grevlex u.0 m ≡ Less) (sym here) smaller

      at : (j : ℕ) (d : List ℕ × Fraction) → k + j < length f → grevlex (get_or f (k + j) d).0 m ≡ Less
      at zero d within = let e : k + 0 ≡ k = omega arith in subst (λ (i : ℕ). grevlex (get_or f i d).0 m ≡ Less) (sym e) (subst (λ (u : List ℕ × Fraction). grevlex u.0 m ≡ Less) (sym (first t low here d)) less)
      at (suc j) d within = grevlex_laws.total.trans (get_or f (k + suc j) d).0 t.0 m
          (subst (λ (u : List ℕ × Fraction). grevlex (get_or f (k + suc j) d).0 u.0 ≡ Less) (first t low here d) (down k (k + suc j) d (omega arith) within)) less

  pub gap-end : length f ≤ k → All (λ u. grevlex m u.0 ≡ Less) (take k f) → IsGap m f (length f)
  gap-end all above = record {
    inside = omega arith;
    above = subst (All (λ u. grevlex m u.0 ≡ Less)) (take_all k f all ∙ sym (take_all (length f) f (omega arith))) above;
    below = λ j d within. absurd (let l = length-drop (length f) f in omega (arith, within, l));
  }
