-- A value that is kept where a test holds.
use Rattle.std.proofs.Common.{◌≡◌, Bool, true, false, Option, Some, None, IsSome, IfSome, IsTrue, ◌↔◌, refl, sym, ap, true≢false}
use Rattle.std.proofs.lemmas.Option.{none-some}
use Rattle.rinv_form.specs.Forms.{kept}

-- what is kept is the value
pub kept-some : {A : Type 0} (b : Bool) (x y : A) → Some y ≡ kept b x → y ≡ x
kept-some true x y e = cc
kept-some false x y e = absurd (none-some y (sym e))

-- where nothing is kept, the test fails
pub kept-none : {A : Type 0} (b : Bool) (x : A) → None ≡ kept b x → b ≡ false
kept-none true x e = absurd (none-some x e)
kept-none false x e = refl

-- an answer that is the value, and that is there where the test holds
pub kept_from : {A : Type 0} (o : Option A) (b : Bool) (x : A) → IfSome o (λ y. y ≡ x) → (IsSome o ↔ IsTrue b) → o ≡ kept b x
kept_from None true x is there = absurd (true≢false (sym (there.1 refl)))
kept_from None false x is there = refl
kept_from (Some y) true x is there = ap Some is
kept_from (Some y) false x is there = absurd (true≢false (sym (there.0 refl)))

-- where something is kept, the test holds
pub kept-holds : {A : Type 0} (b : Bool) (x y : A) → Some y ≡ kept b x → b ≡ true
kept-holds true x y e = refl
kept-holds false x y e = cc
