-- A system has one first fault.
--   no-fault       none where the law holds
--   one-fault      two are at one part of one law
use Rattle.std.proofs.Common.{◌≡◌, ℕ, ◌<◌, [], sym, subst, inl, inr, arith}
use Rattle.std.proofs.lemmas.Bool.{cases_lt}
use Rattle.rinv_defs.specs.System.{System, Poly}
use Rattle.rinv_defs.specs.Laws.{Law, LawHolds}
use Rattle.rinv_parts.specs.LawNames.{rank}
use Rattle.rinv_laws.specs.Faults.{IsFirstFault}
use Rattle.rinv_laws.proofs.LawsInTurn.{same-rank}

-- none where the law holds
pub no-fault : (s : System) (law : Law) (k : ℕ) (rest : Poly) → IsFirstFault s law k rest → LawHolds s law → ⊥
no-fault s law k rest f holds = f.false_part (holds k [] f.inside)

-- neither below the other
equal : (m n : ℕ) → (m < n → ⊥) → (n < m → ⊥) → m ≡ n
equal m n p q = elim (cases_lt m n) [
  | inl low ↦ absurd (p low)
  | inr h ↦ elim (cases_lt n m) [ inl low ↦ absurd (q low) | inr k ↦ omega (arith, h, k) ]
]

-- two are at one part of one law
pub one-fault : (s : System) (law other : Law) (j k : ℕ) (f g : Poly) → IsFirstFault s law j f → IsFirstFault s other k g → (law ≡ other) × (j ≡ k)
one-fault s law other j k f g a b = (same, equal j k (λ low. a.false_part (here.before.parts j low)) (λ low. here.false_part (a.before.parts k low)))
  where
    same : law ≡ other
    same = same-rank law other (equal (rank law) (rank other) (λ low. no-fault s law j f a (b.before.laws law low)) (λ low. no-fault s other k g b (a.before.laws other low)))

    here : IsFirstFault s law k g
    here = subst (λ (l : Law). IsFirstFault s l k g) (sym same) b
