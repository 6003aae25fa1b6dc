-- What functions do to vectors of terms, as contracts name it: `ops` and `is_element` are those of the coefficients.
use Rattle.std.specs.Prelude.{◌≡◌, ℕ, Bool, List, ◌∷◌, ◌++◌, reverse}
use Rattle.std.specs.Global.{Vec}
use Rattle.rinv_algebra.specs.Ring.{RingOps, IsSame}
use Rattle.rinv_algebra.specs.Polynomial.{Polynomial, Term, poly_ops, product, term_product}
use Rattle.rinv_algebra.specs.Normal.{IsNormal}
use Rattle.rinv_poly.specs.Faults.{AreWorkedOut}
use Rattle.rinv_poly.specs.Terms.{IsPushed, IsJoined, AddsProducts, with_term}
use Rattle.rinv_poly.specs.Signs.{with_sign, signed}
use Rattle.rinv_poly.specs.declared.merge.Sign.{Sign}

-- the terms are those of a polynomial in v variables, the greatest last
abbrev pub Ascends : {R E : Type 0} → (R → RingOps E) → (R → E → Bool) → R → ℕ → Vec (Term E) → Type 0
Ascends ops is_element coeffs v terms = IsNormal (ops coeffs) (is_element coeffs) v (reverse terms.items)

-- the terms are the multiple of f by the monomial and c
abbrev pub IsMultiple : {R E : Type 0} → (R → RingOps E) → R → List ℕ → E → Polynomial E → Vec (Term E) → Type 0
IsMultiple ops coeffs m c f terms = IsSame (poly_ops (ops coeffs)) terms.items (term_product (ops coeffs) (m, c) f)

-- the two come to the sum and the piece
abbrev pub ComeTo : {R E : Type 0} → (R → RingOps E) → R → Vec (Term E) → Vec (Term E) → Vec (Term E) × Vec (Term E) → Type 0
ComeTo ops coeffs sum piece r = IsSame (poly_ops (ops coeffs)) (r.0.items ++ r.1.items) (sum.items ++ piece.items)

-- after is before less the multiple of f by the monomial and c, the greatest last
abbrev pub Takes : {R E : Type 0} → (R → RingOps E) → R → List ℕ → E → Polynomial E → Vec (Term E) → Vec (Term E) → Type 0
Takes ops coeffs m c f before after = IsSame (poly_ops (ops coeffs)) (reverse after.items) (reverse before.items ++ term_product (ops coeffs) (m, (ops coeffs).neg c) f)

-- after is the sum of before and the terms, the greatest last
abbrev pub TakesIn : {R E : Type 0} → (R → RingOps E) → R → Vec (Term E) → Vec (Term E) → Vec (Term E) → Type 0
TakesIn ops coeffs terms before after = IsSame (poly_ops (ops coeffs)) (reverse after.items) (reverse before.items ++ terms.items)

-- the sum of the last terms of a and b is moved to the third
abbrev pub JoinsLasts : {R E : Type 0} → (R → RingOps E) → (R → E → Bool) → R → Vec (Term E) → Vec (Term E) → Vec (Term E) → Vec (Term E) → Vec (Term E) → Vec (Term E) → Type 0
JoinsLasts ops is_element coeffs a a' b b' to to' = IsJoined (ops coeffs) (is_element coeffs) a.items a'.items b.items b'.items to.items to'.items

-- c at the monomial and what is taken off the end come to `sum` at the monomial
abbrev pub Gathers : {R E : Type 0} → (R → RingOps E) → R → List ℕ → E → Vec (Term E) → Vec (Term E) → E → Type 0
Gathers ops coeffs m c before after sum = IsSame (poly_ops (ops coeffs)) ((m, sum) ∷ after.items) ((m, c) ∷ before.items)

-- the terms are a and b, the second with the sign
abbrev pub IsMerged : {R E : Type 0} → (R → RingOps E) → R → Sign → Polynomial E → Polynomial E → Vec (Term E) → Type 0
IsMerged ops coeffs sign a b terms = IsSame (poly_ops (ops coeffs)) terms.items (a ++ signed (ops coeffs) sign b)

-- the term is put behind the others, unless its coefficient is zero
abbrev pub Pushes : {R E : Type 0} → (R → RingOps E) → R → List ℕ → E → Vec (Term E) → Vec (Term E) → Type 0
Pushes ops coeffs m c before after = after.items ≡ with_term (ops coeffs) before.items (m, c)

-- d with the sign is put behind,
abbrev pub PushesSigned : {R E : Type 0} → (R → RingOps E) → (R → E → Bool) → R → List ℕ → Sign → E → Vec (Term E) → Vec (Term E) → Type 0
PushesSigned ops is_element coeffs m sign d before after = IsPushed (ops coeffs) (is_element coeffs) before.items after.items m (with_sign (ops coeffs) sign d)

-- the sum of c and d with the sign,
abbrev pub PushesSum : {R E : Type 0} → (R → RingOps E) → (R → E → Bool) → R → List ℕ → E → Sign → E → Vec (Term E) → Vec (Term E) → Type 0
PushesSum ops is_element coeffs m c sign d before after = IsPushed (ops coeffs) (is_element coeffs) before.items after.items m ((ops coeffs).add c (with_sign (ops coeffs) sign d))

-- or the product of c and d
abbrev pub PushesProduct : {R E : Type 0} → (R → RingOps E) → (R → E → Bool) → R → List ℕ → E → E → Vec (Term E) → Vec (Term E) → Type 0
PushesProduct ops is_element coeffs m c d before after = IsPushed (ops coeffs) (is_element coeffs) before.items after.items m ((ops coeffs).mul c d)

-- r is d with the sign
abbrev pub HasSign : {R E : Type 0} → (R → RingOps E) → R → Sign → E → E → Type 0
HasSign ops coeffs sign d r = IsSame (ops coeffs) r (with_sign (ops coeffs) sign d)

-- r is the sum of c and d with the sign
abbrev pub IsSignedSum : {R E : Type 0} → (R → RingOps E) → R → E → Sign → E → E → Type 0
IsSignedSum ops coeffs c sign d r = IsSame (ops coeffs) r ((ops coeffs).add c (with_sign (ops coeffs) sign d))

-- the terms are the products of each of f and each of g, worked out
abbrev pub AreProducts : {R E : Type 0} → (R → RingOps E) → (R → E → Bool) → R → Polynomial E → Polynomial E → Vec (Term E) → Type 0
AreProducts ops is_element coeffs f g terms = AreWorkedOut (ops coeffs) (is_element coeffs) (product (ops coeffs) f g) terms.items

-- the multiple of f by the term is added,
abbrev pub AddsMultiple : {R E : Type 0} → (R → RingOps E) → R → List ℕ → E → Polynomial E → Vec (Term E) → Vec (Term E) → Type 0
AddsMultiple ops coeffs m c f before after = IsSame (poly_ops (ops coeffs)) after.items (before.items ++ term_product (ops coeffs) (m, c) f)

-- and as the products with each of its terms
abbrev pub AddsEach : {R E : Type 0} → (R → RingOps E) → (R → E → Bool) → R → List ℕ → E → Polynomial E → Vec (Term E) → Vec (Term E) → Type 0
AddsEach ops is_element coeffs m c f before after = AddsProducts (ops coeffs) (is_element coeffs) (m, c) f before.items after.items
