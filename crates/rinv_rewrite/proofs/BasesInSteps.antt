-- The relations as polynomials and divisors, as they are made one after another.
--   IsSoFar              those of some relations
--   start-so_far, next-so_far    none, and one more
--   first_of             a stored polynomial is written in the variables
use Rattle.std.proofs.Common.{◌≡◌, ◌<◌, ◌+◌, ℕ, List, [], ◌∷◌, ◌++◌, length, get_or, take, map, All, sym, ◌∙◌, ap, subst}
use Rattle.std.proofs.lemmas.List.{take_more}
use Rattle.std.proofs.lemmas.List.Elements.{All-nil, All-cons, All-append}
use Rattle.rinv_algebra.specs.Ring.{RingOps, RingLaws, IsSame}
use Rattle.rinv_algebra.specs.Residue.{residue_ops}
use Rattle.rinv_algebra.specs.Order.{grevlex}
use Rattle.rinv_algebra.specs.Polynomial.{poly_ops}
use Rattle.rinv_algebra.proofs.Grevlex.{grevlex_laws}
use Rattle.rinv_algebra.proofs.PolynomialLaws.{poly_laws}
use Rattle.rinv_algebra.proofs.ResidueLaws.{residue_laws}
use Rattle.rinv_groebner.specs.Division.{AreSame}
use Rattle.rinv_groebner.proofs.Compared.{InFirst}
use Rattle.rinv_groebner.proofs.ListElements.{all_first}
use Rattle.rinv_buch.proofs.InVariables.{all-in_variables}
use Rattle.rinv_div.specs.Divisors.{AreDivisors, Adds}
use Rattle.rinv_div.specs.declared.divisors.Divisor.{Divisor}
use Rattle.rinv_div.proofs.DividedBy.{divisors-nil, divisors-more}
use Rattle.rinv_defs.specs.System.{Poly}
use Rattle.rinv_soundness.specs.Rewriting.{SymbolPoly, symbol_poly}
use Rattle.rinv_coefficients.specs.Ties.{TiedRelation, with_symbols}
use Rattle.rinv_rewrite.specs.Symbols.{IsSymbolPart, is_symbolic}

abbrev o : ℕ → RingOps Poly
o p = poly_ops (residue_ops p)

abbrev l : (p : ℕ) → RingLaws (poly_ops (residue_ops p))
l p = poly_laws (residue_ops p) (residue_laws p)

same-more : (p : ℕ) (ts : List TiedRelation) (t : TiedRelation) (polys : List SymbolPoly) (f : SymbolPoly) → AreSame (poly_ops (residue_ops p)) polys (map (symbol_poly p) (map (with_symbols p) ts)) → IsSame (poly_ops (o p)) f (symbol_poly p (with_symbols p t))
    → AreSame (poly_ops (residue_ops p)) (polys ++ f ∷ []) (map (symbol_poly p) (map (with_symbols p) (ts ++ t ∷ [])))
same-more p [] t [] f z e = (e, tt)
same-more p [] t (g ∷ polys) f z e = absurd z
same-more p (u ∷ ts) t [] f z e = absurd z
same-more p (u ∷ ts) t (g ∷ polys) f z e = (z.0, same-more p ts t polys f z.1 e)

module _ {R : Type 0} (p k n : ℕ) where
  -- the polynomials and divisors of these relations
  pub record IsSoFar (ts : List TiedRelation) (polys : List SymbolPoly) (ds : List (Divisor R Poly)) : Type 0 where
    pub same : AreSame (poly_ops (residue_ops p)) polys (map (symbol_poly p) (map (with_symbols p) ts))
    pub normal : All (IsSymbolPart p k n) polys
    pub divisors : AreDivisors (poly_ops (residue_ops p)) (is_symbolic p k) n grevlex polys ds

  pub start-so_far : IsSoFar [] [] []
  start-so_far = record { same = tt; normal = All-nil (IsSymbolPart p k n); divisors = divisors-nil (o p) (l p) (is_symbolic p k) n grevlex grevlex_laws }

  pub next-so_far : (ts : List TiedRelation) (i : ℕ) (t : TiedRelation) (polys : List SymbolPoly) (ds after : List (Divisor R Poly)) (f : SymbolPoly) → i < length ts → t ≡ get_or ts i t → IsSoFar (take i ts) polys ds → IsSymbolPart p k n f → IsSame (poly_ops (o p)) f (symbol_poly p (with_symbols p t))
      → Adds (poly_ops (residue_ops p)) (is_symbolic p k) n grevlex f ds after → IsSoFar (take (i + 1) ts) (polys ++ f ∷ []) after
  next-so_far ts i t polys ds after f inside is h normal value adds =
      subst (λ (us : List TiedRelation). IsSoFar us (polys ++ f ∷ []) after) (sym (take_more ts i t inside ∙ ap (λ u. take i ts ++ u ∷ []) (sym is))) (record {
        same = same-more p (take i ts) t polys f h.same value;
        normal = All-append (IsSymbolPart p k n) polys (f ∷ []) h.normal (All-cons (IsSymbolPart p k n) f [] normal (All-nil (IsSymbolPart p k n)));
        divisors = divisors-more (o p) (l p) (is_symbolic p k) n grevlex grevlex_laws polys f ds after h.divisors adds;
      })

module _ (p k n : ℕ) where
  -- a stored polynomial is written in the variables
  pub first_of : (h : SymbolPoly) → IsSymbolPart p k n h → InFirst (o p) (l p) n h
  first_of h normal = all_first (o p) (l p) n (h ∷ []) (all-in_variables (o p) (is_symbolic p k) n (h ∷ []) (All-cons (IsSymbolPart p k n) h [] normal (All-nil (IsSymbolPart p k n)))) 0
