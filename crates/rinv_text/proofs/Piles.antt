-- Stacks of values, against what they stand for.
--   one-..., two-...    what an operation on one or two values finds, and what it leaves
--   whole-...           the value of the whole
use Rattle.std.proofs.Common.{◌≡◌, ℕ, List, [], ◌∷◌, true, false, Bool, if◌then◌else◌, refl, sym, ap, subst, ◌∙◌, Option, Some, None}
use Rattle.rinv_text.specs.declared.parts.Parts.{Parts}
use Rattle.rinv_text.specs.Formal.{is_above}
use Rattle.rinv_text.specs.Evaluation.{on_one, on_two, onto, top}
use Rattle.rinv_text.specs.Meanings.{Meaning, within, StandsFor, Piled}

-- an answer that depends on a test
pub if-some : {A : Type 0} (b : Bool) (x z : A) → (if b then Some x else None) ≡ Some z → (b ≡ true) × (x ≡ z)
if-some true x z e = (refl, cc)
if-some false x z e = let clash : None ≡ Some z = e in cc

-- a meaning within the limits
pub within-some : (g z : Meaning) → within g ≡ Some z → (is_above g.numbers ≡ false) × (g ≡ z)
within-some g z e = at (is_above g.numbers) refl e
  where
    at : (b : Bool) → is_above g.numbers ≡ b → (if b then None else Some g) ≡ Some z → (is_above g.numbers ≡ false) × (g ≡ z)
    at true h k = let clash : None ≡ Some z = k in cc
    at false h k = (h, cc)

module _ (p v : ℕ) where
  pub along : (x : Parts) (g z : Meaning) → g ≡ z → StandsFor p v x g → StandsFor p v x z
  along x g z e s = subst (λ m. StandsFor p v x m) e s

  -- ---- one value

  pub one-there : (f : Meaning → Option Meaning) (xs : List Parts) (gs hs : List Meaning) → Piled p v xs gs → on_one f gs ≡ Some hs → (x : Parts) × (rest : List Parts) × (xs ≡ x ∷ rest)
  one-there f xs [] hs pile e = cc
  one-there f [] (g ∷ gs) hs pile e = elim pile [ ]
  one-there f (x ∷ xs) (g ∷ gs) hs pile e = (x, xs, refl)

  pub one-given : (f : Meaning → Option Meaning) (x : Parts) (xs rest : List Parts) (gs hs : List Meaning) → x ∷ rest ≡ xs → Piled p v xs gs → on_one f gs ≡ Some hs → (g : Meaning) × (z : Meaning) × StandsFor p v x g × (f g ≡ Some z)
  one-given f x xs rest [] hs same pile e = cc
  one-given f x xs rest (g ∷ gs) hs same pile e = given (f g) refl e
    where
      piled : Piled p v (x ∷ rest) (g ∷ gs)
      piled = subst (λ l. Piled p v l (g ∷ gs)) (sym same) pile

      given : (o : Option Meaning) → f g ≡ o → onto gs o ≡ Some hs → (g : Meaning) × (z : Meaning) × StandsFor p v x g × (f g ≡ Some z)
      given None h k = let clash : None ≡ Some hs = k in cc
      given (Some z) h k = (g, z, piled.0, h)

  pub one-returns : (f : Meaning → Option Meaning) (xs rest : List Parts) (x y : Parts) (gs hs : List Meaning) → x ∷ rest ≡ xs → Piled p v xs gs → on_one f gs ≡ Some hs → ((g z : Meaning) → StandsFor p v x g → f g ≡ Some z → StandsFor p v y z) → Piled p v (y ∷ rest) hs
  one-returns f xs rest x y [] hs same pile e each = cc
  one-returns f xs rest x y (g ∷ gs) hs same pile e each = given (f g) refl e
    where
      piled : Piled p v (x ∷ rest) (g ∷ gs)
      piled = subst (λ l. Piled p v l (g ∷ gs)) (sym same) pile

      given : (o : Option Meaning) → f g ≡ o → onto gs o ≡ Some hs → Piled p v (y ∷ rest) hs
      given None h k = let clash : None ≡ Some hs = k in cc
      given (Some z) h k = let whole : z ∷ gs ≡ hs = cc in subst (λ l. Piled p v (y ∷ rest) l) whole (each g z piled.0 h, piled.1)

  -- ---- two values

  pub two-there : (f : Meaning → Meaning → Option Meaning) (xs : List Parts) (gs hs : List Meaning) → Piled p v xs gs → on_two f gs ≡ Some hs → (y : Parts) × (x : Parts) × (rest : List Parts) × (xs ≡ y ∷ x ∷ rest)
  two-there f xs [] hs pile e = cc
  two-there f xs (b ∷ []) hs pile e = cc
  two-there f [] (b ∷ a ∷ gs) hs pile e = elim pile [ ]
  two-there f (y ∷ []) (b ∷ a ∷ gs) hs pile e = elim pile.1 [ ]
  two-there f (y ∷ x ∷ xs) (b ∷ a ∷ gs) hs pile e = (y, x, xs, refl)

  -- the one on top
  pub two-top : (f : Meaning → Meaning → Option Meaning) (xs : List Parts) (gs hs : List Meaning) → Piled p v xs gs → on_two f gs ≡ Some hs → (y : Parts) × (rest : List Parts) × (xs ≡ y ∷ rest)
  two-top f xs gs hs pile e = let (y, x, rest, h) = two-there f xs gs hs pile e in (y, x ∷ rest, h)

  -- the one below it
  pub two-next : (f : Meaning → Meaning → Option Meaning) (xs ms : List Parts) (r : Parts) (gs hs : List Meaning) → r ∷ ms ≡ xs → Piled p v xs gs → on_two f gs ≡ Some hs → (x : Parts) × (rest : List Parts) × (ms ≡ x ∷ rest)
  two-next f xs ms r gs hs same pile e = let (y, x, rest, h) = two-there f xs gs hs pile e in (x, rest, cc)

  pub two-given : (f : Meaning → Meaning → Option Meaning) (xs ms rest : List Parts) (l r : Parts) (gs hs : List Meaning) → r ∷ ms ≡ xs → l ∷ rest ≡ ms → Piled p v xs gs → on_two f gs ≡ Some hs → (a : Meaning) × (b : Meaning) × (z : Meaning) × StandsFor p v l a × StandsFor p v r b × (f a b ≡ Some z)
  two-given f xs ms rest l r [] hs same below pile e = cc
  two-given f xs ms rest l r (b ∷ []) hs same below pile e = cc
  two-given f xs ms rest l r (b ∷ a ∷ gs) hs same below pile e = given (f a b) refl e
    where
      piled : Piled p v (r ∷ l ∷ rest) (b ∷ a ∷ gs)
      piled = subst (λ l. Piled p v l (b ∷ a ∷ gs)) (sym (ap (λ l. r ∷ l) below ∙ same)) pile

      given : (o : Option Meaning) → f a b ≡ o → onto gs o ≡ Some hs → (a : Meaning) × (b : Meaning) × (z : Meaning) × StandsFor p v l a × StandsFor p v r b × (f a b ≡ Some z)
      given None h k = let clash : None ≡ Some hs = k in cc
      given (Some z) h k = (a, b, z, piled.1.0, piled.0, h)

  pub two-returns : (f : Meaning → Meaning → Option Meaning) (xs ms rest : List Parts) (l r y : Parts) (gs hs : List Meaning) → r ∷ ms ≡ xs → l ∷ rest ≡ ms → Piled p v xs gs → on_two f gs ≡ Some hs → ((a b z : Meaning) → StandsFor p v l a → StandsFor p v r b → f a b ≡ Some z → StandsFor p v y z) → Piled p v (y ∷ rest) hs
  two-returns f xs ms rest l r y [] hs same below pile e each = cc
  two-returns f xs ms rest l r y (b ∷ []) hs same below pile e each = cc
  two-returns f xs ms rest l r y (b ∷ a ∷ gs) hs same below pile e each = given (f a b) refl e
    where
      piled : Piled p v (r ∷ l ∷ rest) (b ∷ a ∷ gs)
      piled = subst (λ l. Piled p v l (b ∷ a ∷ gs)) (sym (ap (λ l. r ∷ l) below ∙ same)) pile

      given : (o : Option Meaning) → f a b ≡ o → onto gs o ≡ Some hs → Piled p v (y ∷ rest) hs
      given None h k = let clash : None ≡ Some hs = k in cc
      given (Some z) h k = let whole : z ∷ gs ≡ hs = cc in subst (λ l. Piled p v (y ∷ rest) l) whole (each a b z piled.1.0 piled.0 h, piled.1.1)

  -- a value that no other gives
  pub none-returns : (xs : List Parts) (y : Parts) (gs hs : List Meaning) (given : Option Meaning) → Piled p v xs gs → onto gs given ≡ Some hs → ((z : Meaning) → given ≡ Some z → StandsFor p v y z) → Piled p v (y ∷ xs) hs
  none-returns xs y gs hs None pile e each = let clash : None ≡ Some hs = e in cc
  none-returns xs y gs hs (Some z) pile e each = let whole : z ∷ gs ≡ hs = cc in subst (λ l. Piled p v (y ∷ xs) l) whole (each z refl, pile)

  -- where it is put on a stack, it is there
  pub none-given : (gs hs : List Meaning) (given : Option Meaning) → onto gs given ≡ Some hs → (z : Meaning) × (given ≡ Some z)
  none-given gs hs None e = let clash : None ≡ Some hs = e in cc
  none-given gs hs (Some z) e = (z, refl)

  -- ---- the whole

  pub whole-there : (xs : List Parts) (gs : List Meaning) (g : Meaning) → Piled p v xs gs → top gs ≡ Some g → (x : Parts) × (rest : List Parts) × (xs ≡ x ∷ rest)
  whole-there xs [] g pile e = cc
  whole-there [] (h ∷ gs) g pile e = elim pile [ ]
  whole-there (x ∷ xs) (h ∷ gs) g pile e = (x, xs, refl)

  pub whole-stands : (xs rest : List Parts) (x : Parts) (gs : List Meaning) (g : Meaning) → x ∷ rest ≡ xs → Piled p v xs gs → top gs ≡ Some g → StandsFor p v x g
  whole-stands xs rest x [] g same pile e = cc
  whole-stands xs rest x (h ∷ gs) g same pile e =
      let piled : Piled p v (x ∷ rest) (h ∷ gs) = subst (λ l. Piled p v l (h ∷ gs)) (sym same) pile in
      let one : h ≡ g = cc in
      along x h g one piled.0
