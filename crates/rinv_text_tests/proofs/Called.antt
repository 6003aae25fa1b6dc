-- Two names, and one abbreviation or none.
use Rattle.std.proofs.Common.{◌≡◌, ℕ, List, [], ◌∷◌, length, map, codes, false, refl, sym, ◌∙◌, ap, All}
use Rattle.std.proofs.lemmas.List.Elements.{All-nil, All-cons}
use Rattle.rinv_algebra.specs.Fraction.{Fraction}
use Rattle.rinv_frac.specs.Fractions.{IsStored}
use Rattle.rinv_text.specs.declared.formal.Formal.{Formal}
use Rattle.rinv_text.specs.Names.{meet}
use Rattle.rinv_text.specs.Reading.{Definition}

pub two-names : (names : List (List ℕ)) (v : ℕ) → names ≡ codes "x" ∷ codes "y" ∷ [] → v ≡ 2 → length names ≡ v
two-names names v e h = ap (λ (l : List (List ℕ)). length l) e ∙ sym h

pub none-apart : (names : List (List ℕ)) (defs : List Definition) → defs ≡ [] → meet names (map (λ d. d.name) defs) ≡ false
none-apart names defs e = rw e refl

pub none-stored : (p v : ℕ) (defs : List Definition) → defs ≡ [] → All (λ d. IsStored p v d.value) defs
none-stored p v defs e = rw e (All-nil (λ (d : Definition). IsStored p v d.value))

pub one-apart : (names : List (List ℕ)) (defs : List Definition) (f : Fraction ℕ) (n : Formal) → names ≡ codes "x" ∷ codes "y" ∷ [] → defs ≡ (record { name = codes "t"; value = f; formal = n }) ∷ [] → meet names (map (λ d. d.name) defs) ≡ false
one-apart names defs f n e h = rw (e, h) refl

pub one-stored : (p v : ℕ) (defs : List Definition) (f : Fraction ℕ) (n : Formal) → defs ≡ (record { name = codes "t"; value = f; formal = n }) ∷ [] → IsStored p v f → All (λ d. IsStored p v d.value) defs
one-stored p v defs f n e s = rw e (All-cons (λ (d : Definition). IsStored p v d.value) (record { name = codes "t"; value = f; formal = n }) [] s (All-nil (λ (d : Definition). IsStored p v d.value)))
