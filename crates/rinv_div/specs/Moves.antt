-- How terms move between vectors, as contracts name it: `ops` are those of the ring of the coefficients, `cmp` is the order's.
use Rattle.std.specs.Prelude.{◌≡◌, ℕ, List, [], ◌∷◌, ◌++◌, get_or, map}
use Rattle.std.specs.Global.{Vec}
use Rattle.std.specs.declared.cmp.Ordering.{Ordering}
use Rattle.rinv_algebra.specs.Ring.{RingOps}
use Rattle.rinv_algebra.specs.Polynomial.{Term, Polynomial}
use Rattle.rinv_poly.specs.Terms.{with_term}
use Rattle.rinv_div.specs.Arranged.{IsPut, IsReplaced, IsPlaced, IsPlacedLast, term_between}

-- how the last terms compare
abbrev pub ComparesLast : {E O : Type 0} → (O → List ℕ → List ℕ → Ordering) → O → Polynomial E → Polynomial E → Ordering → Type 0
ComparesLast {E = E} cmp order f g result = (before others : Polynomial E) (s t : Term E) → f ≡ before ++ s ∷ [] → g ≡ others ++ t ∷ [] → result ≡ cmp order s.0 t.0

-- the term was appended, unless its coefficient is zero
abbrev pub Appends : {R E : Type 0} → (R → RingOps E) → R → Term E → Vec (Term E) → Vec (Term E) → Type 0
Appends ops coeffs t before after = after.items ≡ with_term (ops coeffs) before.items t

-- or put in at the place
abbrev pub PutsAt : {R E : Type 0} → (R → RingOps E) → R → ℕ → Term E → Vec (Term E) → Vec (Term E) → Type 0
PutsAt ops coeffs k t before after = after.items ≡ term_between (ops coeffs) before.items k k t

-- or put where it belongs
abbrev pub Places : {R E O : Type 0} → (R → RingOps E) → (O → List ℕ → List ℕ → Ordering) → R → O → Vec (Term E) → Vec (Term E) → Term E → Type 0
Places ops cmp coeffs order before after t = IsPlaced (ops coeffs) (cmp order) before.items after.items t

-- the last term was moved behind others, unless its coefficient is zero
abbrev pub PutsLast : {R E : Type 0} → (R → RingOps E) → R → Vec (Term E) → Vec (Term E) → Vec (Term E) → Vec (Term E) → Type 0
PutsLast ops coeffs from from_after to to_after = IsPut (ops coeffs) from.items from_after.items to.items to_after.items

-- or to where it belongs
abbrev pub PlacesLast : {R E O : Type 0} → (R → RingOps E) → (O → List ℕ → List ℕ → Ordering) → R → O → Vec (Term E) → Vec (Term E) → Vec (Term E) → Vec (Term E) → Type 0
PlacesLast ops cmp coeffs order from from_after to to_after = IsPlacedLast (ops coeffs) (cmp order) from.items from_after.items to.items to_after.items

-- or behind others in the place of the last that is left
abbrev pub ReplacesLast : {R E : Type 0} → (R → RingOps E) → R → Vec (Term E) → Vec (Term E) → Vec (Term E) → Vec (Term E) → Vec (Term E) → Vec (Term E) → Type 0
ReplacesLast ops coeffs left left_after from from_after to to_after = IsReplaced (ops coeffs) left.items left_after.items from.items from_after.items to.items to_after.items

-- the list at the place
abbrev pub list_at : {T : Type 0} → ℕ → Vec (Vec T) → List T
list_at k lists = get_or (map (λ x. x.items) lists.items) k []
