-- What a slot holds after a slot is replaced, or one is added.
use Rattle.std.proofs.Common.{◌≡◌, ◌≢◌, ℕ, zero, suc, ◌+◌, ◌<◌, List, [], ◌∷◌, ◌++◌, set, length, get_or, refl, sym, ap, ◌∙◌, arith, inl, inr}
use Rattle.std.proofs.lemmas.Bool.{cases_eq}
use Rattle.rinv_pool.specs.declared.slots.Slot.{Slot}
use Rattle.rinv_pool.specs.Slots.{next_at, term_at}

-- the slot at a place
pub next-here : {T : Type 0} (slots : List (Slot T)) (place : ℕ) (slot : Slot T) → place < length slots → next_at slots place ≡ (get_or slots place slot).next
next-here [] place slot inside = absurd (omega (arith, inside))
next-here (s ∷ slots) zero slot inside = refl
next-here (s ∷ slots) (suc place) slot inside = next-here slots place slot (omega (arith, inside))

pub term-here : {T : Type 0} (slots : List (Slot T)) (place : ℕ) (slot : Slot T) → place < length slots → term_at slots place ≡ (get_or slots place slot).term
term-here [] place slot inside = absurd (omega (arith, inside))
term-here (s ∷ slots) zero slot inside = refl
term-here (s ∷ slots) (suc place) slot inside = term-here slots place slot (omega (arith, inside))

-- another slot in the place of one
pub next-same : {T : Type 0} (slots : List (Slot T)) (place : ℕ) (slot : Slot T) → place < length slots → next_at (set slots place slot) place ≡ slot.next
next-same [] place slot inside = absurd (omega (arith, inside))
next-same (s ∷ slots) zero slot inside = refl
next-same (s ∷ slots) (suc place) slot inside = next-same slots place slot (omega (arith, inside))

pub next-other : {T : Type 0} (slots : List (Slot T)) (place at : ℕ) (slot : Slot T) → at ≢ place → next_at (set slots place slot) at ≡ next_at slots at
next-other [] place at slot other = refl
next-other (s ∷ slots) zero zero slot other = absurd (other refl)
next-other (s ∷ slots) zero (suc at) slot other = refl
next-other (s ∷ slots) (suc place) zero slot other = refl
next-other (s ∷ slots) (suc place) (suc at) slot other = next-other slots place at slot (λ e. other (ap suc e))

pub term-same : {T : Type 0} (slots : List (Slot T)) (place : ℕ) (slot : Slot T) → place < length slots → term_at (set slots place slot) place ≡ slot.term
term-same [] place slot inside = absurd (omega (arith, inside))
term-same (s ∷ slots) zero slot inside = refl
term-same (s ∷ slots) (suc place) slot inside = term-same slots place slot (omega (arith, inside))

pub term-other : {T : Type 0} (slots : List (Slot T)) (place at : ℕ) (slot : Slot T) → at ≢ place → term_at (set slots place slot) at ≡ term_at slots at
term-other [] place at slot other = refl
term-other (s ∷ slots) zero zero slot other = absurd (other refl)
term-other (s ∷ slots) zero (suc at) slot other = refl
term-other (s ∷ slots) (suc place) zero slot other = refl
term-other (s ∷ slots) (suc place) (suc at) slot other = term-other slots place at slot (λ e. other (ap suc e))

-- a slot whose term stays
pub term-kept : {T : Type 0} (slots : List (Slot T)) (place : ℕ) (slot : Slot T) → place < length slots → slot.term ≡ term_at slots place → (at : ℕ) → term_at (set slots place slot) at ≡ term_at slots at
term-kept slots place slot inside kept at = elim (cases_eq at place) [
  | inl same ↦ ap (term_at (set slots place slot)) same ∙ term-same slots place slot inside ∙ kept ∙ sym (ap (term_at slots) same)
  | inr other ↦ term-other slots place at slot other
]

-- one more slot
pub next-push : {T : Type 0} (slots : List (Slot T)) (slot : Slot T) (at : ℕ) → at < length slots → next_at (slots ++ slot ∷ []) at ≡ next_at slots at
next-push [] slot at inside = absurd (omega (arith, inside))
next-push (s ∷ slots) slot zero inside = refl
next-push (s ∷ slots) slot (suc at) inside = next-push slots slot at (omega (arith, inside))

pub term-push : {T : Type 0} (slots : List (Slot T)) (slot : Slot T) (at : ℕ) → at < length slots → term_at (slots ++ slot ∷ []) at ≡ term_at slots at
term-push [] slot at inside = absurd (omega (arith, inside))
term-push (s ∷ slots) slot zero inside = refl
term-push (s ∷ slots) slot (suc at) inside = term-push slots slot at (omega (arith, inside))

pub next-last : {T : Type 0} (slots : List (Slot T)) (slot : Slot T) → next_at (slots ++ slot ∷ []) (length slots) ≡ slot.next
next-last [] slot = refl
next-last (s ∷ slots) slot = next-last slots slot

pub term-last : {T : Type 0} (slots : List (Slot T)) (slot : Slot T) → term_at (slots ++ slot ∷ []) (length slots) ≡ slot.term
term-last [] slot = refl
term-last (s ∷ slots) slot = term-last slots slot
