-- Results that may hold nothing, and answers of yes or no.
use Rattle.std.specs.Prelude.{◌≡◌, Bool, true, Result, Option, IfOk, IfSome, IfNone}

-- what was found has the property
abbrev pub IfFound : {A F : Type 0} → Result (Option A) F → (A → Type 0) → Type 0
IfFound result P = IfOk result (λ o. IfSome o P)

-- where the answer is yes, the fact holds
abbrev pub IfHolds : {F : Type 0} → Result Bool F → Type 0 → Type 0
IfHolds result P = IfOk result (λ b. b ≡ true → P)

-- where nothing was found, the fact holds
abbrev pub IfNotFound : {A F : Type 0} → Result (Option A) F → Type 0 → Type 0
IfNotFound result P = IfOk result (λ o. IfNone o P)
