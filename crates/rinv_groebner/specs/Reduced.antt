-- Normal forms, and the reduced Gröbner basis of an ideal: what it is, and how it is made.
use Rattle.std.specs.Prelude.{◌≡◌, ℕ, ◌<◌, Bool, not, ◌&&◌, List, [], ◌∷◌, ◌++◌, length, get_or, remove, IsTrue, IsFalse, if◌then◌else◌}
use Rattle.std.specs.List.{list_any, AllPairs}
use Rattle.std.specs.declared.cmp.Ordering.{Ordering}
use Rattle.std.specs.declared.cmp.Ordering.TheVariants.{Less}
use Rattle.rinv_algebra.specs.Ring.{RingOps, IsSame}
use Rattle.rinv_algebra.specs.Monomial.{same_monomial, divides}
use Rattle.rinv_algebra.specs.Polynomial.{Polynomial, poly_ops, has_monomial, difference, scale}
use Rattle.rinv_algebra.specs.Ideal.{IsMember}
use Rattle.rinv_algebra.specs.Leading.{leading_monomial, leading_coefficient}
use Rattle.rinv_groebner.specs.Division.{Step, lead_divides, IsIrreducible, IsDivision}
use Rattle.rinv_groebner.specs.Basis.{IsGroebnerBasis}

module _ {E : Type 0} (o : RingOps E) (cmp : List ℕ → List ℕ → Ordering) where
  -- r is a normal form of f modulo the ideal of fs, by its Gröbner basis hs
  pub record IsNormalForm (fs hs : List (Polynomial E)) (f r : Polynomial E) : Type 0 where
    pub congruent : IsMember o fs (difference o f r)
    pub irreducible : IsIrreducible o cmp hs r

  -- no monomial of an element is divided by the leading monomial of another
  abbrev pub AreApart : List (Polynomial E) → Type 0
  AreApart gs = (i j : ℕ) → i < length gs → j < length gs → (i ≡ j → ⊥) → (m : List ℕ) → IsTrue (has_monomial o (get_or gs i []) m) → IsFalse (lead_divides o cmp (get_or gs j []) m)

  -- each leading coefficient is one
  abbrev pub AreMonic : List (Polynomial E) → Type 0
  AreMonic gs = (k : ℕ) → k < length gs → IsSame o (leading_coefficient o cmp (get_or gs k [])) o.one

  -- gs is a reduced Gröbner basis of the ideal of fs in v variables
  pub record IsReducedGroebnerBasis (v : ℕ) (fs gs : List (Polynomial E)) : Type 0 where
    pub basis : IsGroebnerBasis o cmp v fs gs
    pub monic : AreMonic gs
    pub apart : AreApart gs

  -- the leading monomials ascend
  abbrev pub Ascend : List (Polynomial E) → Type 0
  Ascend gs = AllPairs (λ f g. cmp (leading_monomial o cmp f) (leading_monomial o cmp g) ≡ Less) gs

  -- ---- how it is made

  -- two elements have one leading monomial
  abbrev pub same_lead : Polynomial E → Polynomial E → Bool
  same_lead g h = same_monomial (leading_monomial o cmp g) (leading_monomial o cmp h)

  -- the leading monomial of g divides that of h, and is another
  abbrev pub properly_divides : Polynomial E → Polynomial E → Bool
  properly_divides g h = divides (leading_monomial o cmp g) (leading_monomial o cmp h) && not (same_lead g h)

  -- no leading monomial of all properly divides that of h, and no earlier element has the same one
  abbrev pub is_kept : List (Polynomial E) → List (Polynomial E) → Polynomial E → Bool
  is_kept all earlier h = not (list_any (λ g. properly_divides g h) all) && not (list_any (λ g. same_lead g h) earlier)

  -- the kept elements of those after the earlier ones
  unfoldable pub kept_after : List (Polynomial E) → List (Polynomial E) → List (Polynomial E) → List (Polynomial E)
  kept_after all earlier [] = []
  kept_after all earlier (h ∷ hs) = if is_kept all earlier h then h ∷ kept_after all (earlier ++ h ∷ []) hs else kept_after all (earlier ++ h ∷ []) hs

  -- the kept elements of a list
  abbrev pub kept : List (Polynomial E) → List (Polynomial E)
  kept hs = kept_after hs [] hs

  -- g is f made monic
  pub record IsMonicOf (f g : Polynomial E) : Type 0 where
    pub factor : E
    pub inverse : IsSame o (o.mul factor (leading_coefficient o cmp f)) o.one
    pub scaled : IsSame (poly_ops o) g (scale o factor f)

  -- g is what division of the element at a place by the others, in their order, leaves, made monic
  pub record IsMadeAt (hs : List (Polynomial E)) (place : ℕ) (g : Polynomial E) : Type 0 where
    pub steps : List (Step E)
    pub rest : Polynomial E
    pub division : IsDivision o cmp (remove hs place) (get_or hs place []) steps rest
    pub monic : IsMonicOf rest g

  -- gs are made so of the kept elements of hs
  pub record AreMade (hs gs : List (Polynomial E)) : Type 0 where
    pub number : length gs ≡ length (kept hs)
    pub made : (k : ℕ) → k < length gs → IsMadeAt (kept hs) k (get_or gs k [])
