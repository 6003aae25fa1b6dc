-- The number that decimal digits write, digit by digit.
use Rattle.std.proofs.Common.{Bool, true, false, ◌≡◌, ◌⊎◌, ◌↔◌, Result, Ok, Err, inl, inr, IsTrue, IsFalse, ℕ, ◌≤◌, ◌<◌, ◌^◌, List, refl, sym, subst, ◌∙◌, arith}
use Rattle.std.proofs.lemmas.Bool.{cases_lt}
use Rattle.std.specs.Result.{OkIff, IsErrOf, result_unwrap_or}
use Rattle.rinv_algebra.specs.Residue.{is_listed}
use Rattle.rinv_ring.specs.declared.modulus.FieldFault.{FieldFault}
use Rattle.rinv_ring.specs.declared.modulus.FieldFault.TheVariants.{TooSmall, TooLarge, NotListed}
use Rattle.rinv_text.specs.declared.fault.TextCode.{TextCode}
use Rattle.rinv_text.specs.declared.fault.TextCode.TheVariants.{Expression, Limit}
use Rattle.rinv_text.specs.Tokens.{number_of}
use Rattle.rinv_system.specs.declared.keyword.Keyword.TheVariants.{Field, Pairs, Steps}
use Rattle.rinv_system.specs.declared.refused.Code.TheVariants.{Field as InField, Text}
use Rattle.rinv_system.specs.Entries.{is_numeral}
use Rattle.rinv_system.specs.Drafts.{Draft}
use Rattle.rinv_system.specs.Forms.{IsRestRefused, IsFieldFault, TellsNumber}

-- the refusals of a number that has a limit
abbrev pub IsPast : ℕ → List ℕ → TextCode → Type 0
IsPast limit rest code = ((code ≡ Expression) × IsFalse (is_numeral rest)) ⊎ ((code ≡ Limit) × IsTrue (is_numeral rest) × (limit < number_of rest))

pub pairs-refused : (d : Draft) (rest : List ℕ) (code : TextCode) → IsPast 1000000 rest code → IsRestRefused d rest Pairs (Text code)
pairs-refused d rest code (inl h) = subst (λ e. IsRestRefused d rest Pairs (Text e)) (sym h.0) (IsRestRefused.no_number TellsNumber.pairs_line h.1)
pairs-refused d rest code (inr h) = subst (λ e. IsRestRefused d rest Pairs (Text e)) (sym h.0) (IsRestRefused.many_pairs h.1 h.2)

pub steps-refused : (d : Draft) (rest : List ℕ) (code : TextCode) → IsPast 1000000000 rest code → IsRestRefused d rest Steps (Text code)
steps-refused d rest code (inl h) = subst (λ e. IsRestRefused d rest Steps (Text e)) (sym h.0) (IsRestRefused.no_number TellsNumber.steps_line h.1)
steps-refused d rest code (inr h) = subst (λ e. IsRestRefused d rest Steps (Text e)) (sym h.0) (IsRestRefused.many_steps h.1 h.2)

-- a number as it is handed to a field: itself, or more than any modulus
abbrev pub IsCapped : ℕ → ℕ → Type 0
IsCapped n p = (p ≡ n) ⊎ ((32003 < p) × (32003 < n))

pub capped : {E : Type 0} (n p : ℕ) (r : Result ℕ E) → OkIff r (n < 18446744073709551616) n → p ≡ result_unwrap_or r 18446744073709551615 → IsCapped n p
capped n p (Ok m) h is = inl (is ∙ h.1)
capped n p (Err e) h is = inr (omega (arith, is), omega (arith, h))

-- the fault of a modulus
pub modulus-refused : (d : Draft) (rest : List ℕ) (n p : ℕ) (fault : FieldFault) → IsTrue (is_numeral rest) → n ≡ number_of rest → n < 2 ^ 128 → IsCapped n p
    → (IsTrue (is_listed p) → false ≡ true) → (IsErrOf {T = ℕ} (Err fault) TooSmall ↔ (p < 2)) → (IsErrOf {T = ℕ} (Err fault) TooLarge ↔ (32003 < p)) → IsRestRefused d rest Field (InField fault)
modulus-refused d rest n p TooSmall numeral is few between other small large = IsRestRefused.no_modulus numeral (IsFieldFault.too_small (is_small between (small.0 refl)))
  where
    is_small : IsCapped n p → p < 2 → number_of rest < 2
    is_small (inl e) h = omega (arith, e, is)
    is_small (inr e) h = omega (arith, e)
modulus-refused d rest n p TooLarge numeral is few between other small large = IsRestRefused.no_modulus numeral (IsFieldFault.too_large (is_large between (large.0 refl)) (omega (arith, is)))
  where
    is_large : IsCapped n p → 32003 < p → 32003 < number_of rest
    is_large (inl e) h = omega (arith, e, is)
    is_large (inr e) h = omega (arith, e, is)
modulus-refused d rest n p NotListed numeral is few between other small large = IsRestRefused.no_modulus numeral (is_other between)
  where
    least : 2 ≤ p
    least = elim (cases_lt p 2) [ inr h ↦ h | inl h ↦ let e : IsErrOf {T = ℕ} (Err NotListed) TooSmall = small.1 h in cc ]

    most : p ≤ 32003
    most = elim (cases_lt 32003 p) [ inr h ↦ h | inl h ↦ let e : IsErrOf {T = ℕ} (Err NotListed) TooLarge = large.1 h in cc ]

    is_other : IsCapped n p → IsFieldFault (number_of rest) (InField NotListed)
    is_other (inr e) = absurd (omega (arith, e, most))
    is_other (inl e) = subst (λ m. IsFieldFault m (InField NotListed)) (e ∙ is) (IsFieldFault.not_listed least most (unlisted (is_listed p) other))
      where
        unlisted : (b : Bool) → (b ≡ true → false ≡ true) → b ≡ false
        unlisted true h = sym (h refl)
        unlisted false h = refl
