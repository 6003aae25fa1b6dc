-- A solver for identities of commutative rings: `search` reads the two sides as expressions, `refl` compares the normal forms.
--   ring 𝓡 (a ∷ b ∷ []) (search reading depth 30) refl    proves an identity whose terms are a and b (at most twelve)
--   Read 𝓡 ρ x           an expression in the atoms ρ whose value is x
--   Reads 𝓡 ρ x y        expressions for both sides of an equation
--   reading              the rules by which they are found
use Rattle.std.proofs.Common.{◌≡◌, ℕ, zero, suc, List, ◌∷◌, refl, sym, ◌∙◌, ap, ap₂}
use Rattle.rinv_theory.proofs.CRing.{CRing}
use Rattle.rinv_theory.proofs.Expressions.{Expression, atom, nought, unity, ◌⊕◌, ◌⊗◌, ⊖◌, nth, eval, HaveOneForm, solve}

-- a place in the list of atoms
pub data Atom {R : Type 0} : List R → R → Type 0 where
  here : {x : R} {xs : List R} → Atom (x ∷ xs) x
  there : {x y : R} {xs : List R} → Atom xs x → Atom (y ∷ xs) x

-- its number
abbrev pub place : {R : Type 0} {xs : List R} {x : R} → Atom xs x → ℕ
place here = zero
place (there p) = suc (place p)

-- what stands there
pub place-nth : {R : Type 0} (d : R) {xs : List R} {x : R} (p : Atom xs x) → nth d xs (place p) ≡ x
place-nth d here = refl
place-nth d (there p) = place-nth d p

-- an expression whose value is x
pub record Read {R : Type 0} (𝓡 : CRing R) (ρ : List R) (x : R) : Type 0 where
  pub ex : Expression
  pub value : eval 𝓡 ρ ex ≡ x

-- how 0, 1, sums, products, opposites and atoms are read
module _ {R : Type 0} {𝓡 : CRing R} {ρ : List R} where
  abbrev pub read_zero : Read 𝓡 ρ 𝓡.zero
  read_zero = record { ex = nought; value = refl }

  abbrev pub read_one : Read 𝓡 ρ 𝓡.one
  read_one = record { ex = unity; value = refl }

  abbrev pub read_add : {x y : R} → Read 𝓡 ρ x → Read 𝓡 ρ y → Read 𝓡 ρ (𝓡.add x y)
  read_add p q = record { ex = p.ex ⊕ q.ex; value = ap₂ 𝓡.add p.value q.value }

  abbrev pub read_mul : {x y : R} → Read 𝓡 ρ x → Read 𝓡 ρ y → Read 𝓡 ρ (𝓡.mul x y)
  read_mul p q = record { ex = p.ex ⊗ q.ex; value = ap₂ 𝓡.mul p.value q.value }

  abbrev pub read_neg : {x : R} → Read 𝓡 ρ x → Read 𝓡 ρ (𝓡.neg x)
  read_neg p = record { ex = ⊖ p.ex; value = ap 𝓡.neg p.value }

  abbrev pub read_atom : {x : R} → Atom ρ x → Read 𝓡 ρ x
  read_atom p = record { ex = atom (place p); value = place-nth 𝓡.zero p }

-- the atoms by number, which cost less to find
module _ {R : Type 0} {𝓡 : CRing R} where
  abbrev pub at0 : {x : R} {ρ : List R} → Read 𝓡 (x ∷ ρ) x
  at0 {x = x} {ρ = ρ} = read_atom here

  abbrev pub at1 : {y0 : R} {x : R} {ρ : List R} → Read 𝓡 (y0 ∷ x ∷ ρ) x
  at1 {x = x} {ρ = ρ} = read_atom (there here)

  abbrev pub at2 : {y0 y1 : R} {x : R} {ρ : List R} → Read 𝓡 (y0 ∷ y1 ∷ x ∷ ρ) x
  at2 {x = x} {ρ = ρ} = read_atom (there (there here))

  abbrev pub at3 : {y0 y1 y2 : R} {x : R} {ρ : List R} → Read 𝓡 (y0 ∷ y1 ∷ y2 ∷ x ∷ ρ) x
  at3 {x = x} {ρ = ρ} = read_atom (there (there (there here)))

  abbrev pub at4 : {y0 y1 y2 y3 : R} {x : R} {ρ : List R} → Read 𝓡 (y0 ∷ y1 ∷ y2 ∷ y3 ∷ x ∷ ρ) x
  at4 {x = x} {ρ = ρ} = read_atom (there (there (there (there here))))

  abbrev pub at5 : {y0 y1 y2 y3 y4 : R} {x : R} {ρ : List R} → Read 𝓡 (y0 ∷ y1 ∷ y2 ∷ y3 ∷ y4 ∷ x ∷ ρ) x
  at5 {x = x} {ρ = ρ} = read_atom (there (there (there (there (there here)))))

  abbrev pub at6 : {y0 y1 y2 y3 y4 y5 : R} {x : R} {ρ : List R} → Read 𝓡 (y0 ∷ y1 ∷ y2 ∷ y3 ∷ y4 ∷ y5 ∷ x ∷ ρ) x
  at6 {x = x} {ρ = ρ} = read_atom (there (there (there (there (there (there here))))))

  abbrev pub at7 : {y0 y1 y2 y3 y4 y5 y6 : R} {x : R} {ρ : List R} → Read 𝓡 (y0 ∷ y1 ∷ y2 ∷ y3 ∷ y4 ∷ y5 ∷ y6 ∷ x ∷ ρ) x
  at7 {x = x} {ρ = ρ} = read_atom (there (there (there (there (there (there (there here)))))))

  abbrev pub at8 : {y0 y1 y2 y3 y4 y5 y6 y7 : R} {x : R} {ρ : List R} → Read 𝓡 (y0 ∷ y1 ∷ y2 ∷ y3 ∷ y4 ∷ y5 ∷ y6 ∷ y7 ∷ x ∷ ρ) x
  at8 {x = x} {ρ = ρ} = read_atom (there (there (there (there (there (there (there (there here))))))))

  abbrev pub at9 : {y0 y1 y2 y3 y4 y5 y6 y7 y8 : R} {x : R} {ρ : List R} → Read 𝓡 (y0 ∷ y1 ∷ y2 ∷ y3 ∷ y4 ∷ y5 ∷ y6 ∷ y7 ∷ y8 ∷ x ∷ ρ) x
  at9 {x = x} {ρ = ρ} = read_atom (there (there (there (there (there (there (there (there (there here)))))))))

  abbrev pub at10 : {y0 y1 y2 y3 y4 y5 y6 y7 y8 y9 : R} {x : R} {ρ : List R} → Read 𝓡 (y0 ∷ y1 ∷ y2 ∷ y3 ∷ y4 ∷ y5 ∷ y6 ∷ y7 ∷ y8 ∷ y9 ∷ x ∷ ρ) x
  at10 {x = x} {ρ = ρ} = read_atom (there (there (there (there (there (there (there (there (there (there here))))))))))

  abbrev pub at11 : {y0 y1 y2 y3 y4 y5 y6 y7 y8 y9 y10 : R} {x : R} {ρ : List R} → Read 𝓡 (y0 ∷ y1 ∷ y2 ∷ y3 ∷ y4 ∷ y5 ∷ y6 ∷ y7 ∷ y8 ∷ y9 ∷ y10 ∷ x ∷ ρ) x
  at11 {x = x} {ρ = ρ} = read_atom (there (there (there (there (there (there (there (there (there (there (there here)))))))))))

-- the two sides of an equation
pub record Reads {R : Type 0} (𝓡 : CRing R) (ρ : List R) (x y : R) : Type 0 where
  pub left : Read 𝓡 ρ x
  pub right : Read 𝓡 ρ y

-- and how they are read
abbrev pub reads : {R : Type 0} {𝓡 : CRing R} {ρ : List R} {x y : R} → Read 𝓡 ρ x → Read 𝓡 ρ y → Reads 𝓡 ρ x y
reads p q = record { left = p; right = q }

-- the rules of reading
pub ruleset reading = (reads, read_add, read_mul, read_neg, read_zero, read_one, at0, at1, at2, at3, at4, at5, at6, at7, at8, at9, at10, at11)

module _ {R : Type 0} (𝓡 : CRing R) (ρ : List R) where
  -- two sides with one normal form are equal
  pub ring : {x y : R} (p : Reads 𝓡 ρ x y) → HaveOneForm p.left.ex p.right.ex → x ≡ y
  ring p e = sym p.left.value ∙ solve 𝓡 ρ p.left.ex p.right.ex e ∙ p.right.value
