-- The solver for a ring of the code: identities up to its tested sameness.
--   alike_ring o l (a ∷ b ∷ []) (search alike_reading depth 30) refl    proves `IsSame o x y`, over the terms a and b (at most twelve)
--   alike_by              the same from a hypothesis, up to a multiple of it
use Rattle.std.proofs.Common.{◌≡◌, List, [], ◌∷◌, refl, sym, ◌∙◌, ap, ap₂}
use Rattle.rinv_algebra.specs.Ring.{RingOps, RingLaws, IsSame}
use Rattle.rinv_theory.proofs.CRing.{by}
use Rattle.rinv_theory.proofs.Classes.{Class, class_ring, class, class_exact, class_sound, class-add, class-mul, class-neg, class-zero, class-one}
use Rattle.rinv_theory.proofs.Expressions.{Expression, atom, nought, unity, ◌⊕◌, ◌⊗◌, ⊖◌, eval, HaveOneForm, solve}

-- the classes of the values in a list
abbrev pub classes : {E : Type 0} (o : RingOps E) → List E → List (Class o)
classes o [] = []
classes o (x ∷ ρ) = class o x ∷ classes o ρ

-- an expression whose value is the class of x
pub record AlikeRead {E : Type 0} (o : RingOps E) (l : RingLaws o) (ρ : List E) (x : E) : Type 0 where
  pub ex : Expression
  pub value : eval (class_ring o l) (classes o ρ) ex ≡ class o x

-- how 0, 1, sums, products and opposites are read
module _ {E : Type 0} {o : RingOps E} {l : RingLaws o} {ρ : List E} where
  abbrev pub alike_zero : AlikeRead o l ρ o.zero
  alike_zero = record { ex = nought; value = sym (class-zero o l) }

  abbrev pub alike_one : AlikeRead o l ρ o.one
  alike_one = record { ex = unity; value = sym (class-one o l) }

  abbrev pub alike_add : {x y : E} → AlikeRead o l ρ x → AlikeRead o l ρ y → AlikeRead o l ρ (o.add x y)
  alike_add {x} {y} p q = record { ex = p.ex ⊕ q.ex; value = ap₂ (class_ring o l).add p.value q.value ∙ sym (class-add o l x y) }

  abbrev pub alike_mul : {x y : E} → AlikeRead o l ρ x → AlikeRead o l ρ y → AlikeRead o l ρ (o.mul x y)
  alike_mul {x} {y} p q = record { ex = p.ex ⊗ q.ex; value = ap₂ (class_ring o l).mul p.value q.value ∙ sym (class-mul o l x y) }

  abbrev pub alike_neg : {x : E} → AlikeRead o l ρ x → AlikeRead o l ρ (o.neg x)
  alike_neg {x} p = record { ex = ⊖ p.ex; value = ap (class_ring o l).neg p.value ∙ sym (class-neg o l x) }

-- the atoms by number
module _ {E : Type 0} {o : RingOps E} {l : RingLaws o} where
  abbrev pub alike0 : {x : E} {ρ : List E} → AlikeRead o l (x ∷ ρ) x
  alike0 = record { ex = atom 0; value = refl }

  abbrev pub alike1 : {y0 : E} {x : E} {ρ : List E} → AlikeRead o l (y0 ∷ x ∷ ρ) x
  alike1 = record { ex = atom 1; value = refl }

  abbrev pub alike2 : {y0 y1 : E} {x : E} {ρ : List E} → AlikeRead o l (y0 ∷ y1 ∷ x ∷ ρ) x
  alike2 = record { ex = atom 2; value = refl }

  abbrev pub alike3 : {y0 y1 y2 : E} {x : E} {ρ : List E} → AlikeRead o l (y0 ∷ y1 ∷ y2 ∷ x ∷ ρ) x
  alike3 = record { ex = atom 3; value = refl }

  abbrev pub alike4 : {y0 y1 y2 y3 : E} {x : E} {ρ : List E} → AlikeRead o l (y0 ∷ y1 ∷ y2 ∷ y3 ∷ x ∷ ρ) x
  alike4 = record { ex = atom 4; value = refl }

  abbrev pub alike5 : {y0 y1 y2 y3 y4 : E} {x : E} {ρ : List E} → AlikeRead o l (y0 ∷ y1 ∷ y2 ∷ y3 ∷ y4 ∷ x ∷ ρ) x
  alike5 = record { ex = atom 5; value = refl }

  abbrev pub alike6 : {y0 y1 y2 y3 y4 y5 : E} {x : E} {ρ : List E} → AlikeRead o l (y0 ∷ y1 ∷ y2 ∷ y3 ∷ y4 ∷ y5 ∷ x ∷ ρ) x
  alike6 = record { ex = atom 6; value = refl }

  abbrev pub alike7 : {y0 y1 y2 y3 y4 y5 y6 : E} {x : E} {ρ : List E} → AlikeRead o l (y0 ∷ y1 ∷ y2 ∷ y3 ∷ y4 ∷ y5 ∷ y6 ∷ x ∷ ρ) x
  alike7 = record { ex = atom 7; value = refl }

  abbrev pub alike8 : {y0 y1 y2 y3 y4 y5 y6 y7 : E} {x : E} {ρ : List E} → AlikeRead o l (y0 ∷ y1 ∷ y2 ∷ y3 ∷ y4 ∷ y5 ∷ y6 ∷ y7 ∷ x ∷ ρ) x
  alike8 = record { ex = atom 8; value = refl }

  abbrev pub alike9 : {y0 y1 y2 y3 y4 y5 y6 y7 y8 : E} {x : E} {ρ : List E} → AlikeRead o l (y0 ∷ y1 ∷ y2 ∷ y3 ∷ y4 ∷ y5 ∷ y6 ∷ y7 ∷ y8 ∷ x ∷ ρ) x
  alike9 = record { ex = atom 9; value = refl }

  abbrev pub alike10 : {y0 y1 y2 y3 y4 y5 y6 y7 y8 y9 : E} {x : E} {ρ : List E} → AlikeRead o l (y0 ∷ y1 ∷ y2 ∷ y3 ∷ y4 ∷ y5 ∷ y6 ∷ y7 ∷ y8 ∷ y9 ∷ x ∷ ρ) x
  alike10 = record { ex = atom 10; value = refl }

  abbrev pub alike11 : {y0 y1 y2 y3 y4 y5 y6 y7 y8 y9 y10 : E} {x : E} {ρ : List E} → AlikeRead o l (y0 ∷ y1 ∷ y2 ∷ y3 ∷ y4 ∷ y5 ∷ y6 ∷ y7 ∷ y8 ∷ y9 ∷ y10 ∷ x ∷ ρ) x
  alike11 = record { ex = atom 11; value = refl }

-- the two sides of an equation
pub record AlikeReads {E : Type 0} (o : RingOps E) (l : RingLaws o) (ρ : List E) (x y : E) : Type 0 where
  pub left : AlikeRead o l ρ x
  pub right : AlikeRead o l ρ y

-- and how they are read
abbrev pub alike_reads : {E : Type 0} {o : RingOps E} {l : RingLaws o} {ρ : List E} {x y : E} → AlikeRead o l ρ x → AlikeRead o l ρ y → AlikeReads o l ρ x y
alike_reads p q = record { left = p; right = q }

-- the rules of reading
pub ruleset alike_reading = (alike_reads, alike_add, alike_mul, alike_neg, alike_zero, alike_one, alike0, alike1, alike2, alike3, alike4, alike5, alike6, alike7, alike8, alike9, alike10, alike11)

module _ {E : Type 0} (o : RingOps E) (l : RingLaws o) where
  -- an identity, up to sameness
  pub alike_ring : (ρ : List E) {x y : E} (p : AlikeReads o l ρ x y) → HaveOneForm p.left.ex p.right.ex → IsSame o x y
  alike_ring ρ {x} {y} p e = class_exact o l x y (sym p.left.value ∙ solve (class_ring o l) (classes o ρ) p.left.ex p.right.ex e ∙ p.right.value)

  -- a linear combination: where a and b are the same, and x + k*b and y + k*a, so are x and y
  pub alike_by : (a b k x y : E) → IsSame o a b → IsSame o (o.add x (o.mul k b)) (o.add y (o.mul k a)) → IsSame o x y
  alike_by a b k x y e h = class_exact o l x y (by (class_ring o l) (class o a) (class o b) (class o k) (class o x) (class o y) (class_sound o l a b e) (spread x b ∙ class_sound o l _ _ h ∙ sym (spread y a)))
    where
      spread : (z c : E) → (class_ring o l).add (class o z) ((class_ring o l).mul (class o k) (class o c)) ≡ class o (o.add z (o.mul k c))
      spread z c = ap ((class_ring o l).add (class o z)) (sym (class-mul o l k c)) ∙ sym (class-add o l z (o.mul k c))
