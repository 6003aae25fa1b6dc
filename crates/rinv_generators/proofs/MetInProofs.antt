-- A halt in the proofs is one for degrees, and its journal is that of both runs.
--   pairs-met, steps-met, work-within
use Rattle.std.proofs.Common.{◌≡◌, ◌+◌, ◌-◌, ◌^◌, ◌<◌, ℕ, Bool, true, false, List, length, refl, sym, ap, ◌∙◌, inl, inr, true≢false}
use Rattle.rinv_groebner.specs.Journal.{Entry}
use Rattle.rinv_text.specs.Told.{Told}
use Rattle.rinv_buch.specs.declared.kinds.Why.{Why}
use Rattle.rinv_buch.specs.declared.kinds.Why.TheVariants.{Pairs, Steps, Degree}
use Rattle.rinv_buch.specs.Spent.{steps_of}
use Rattle.rinv_gens.specs.declared.kinds.Phase.{Phase}
use Rattle.rinv_gens.specs.declared.kinds.Phase.TheVariants.{Group, Laws, Action, Tail}
use Rattle.rinv_gens.specs.Runs.{IsWithin}
use Rattle.rinv_gens.proofs.MetBudgets.{pairs_met, steps_met}
use Rattle.rinv_gens.proofs.Within.{halts-within}
use Rattle.rinv_generators.specs.Stops.{ProvingHaltsIn, WorkHaltsIn}
use Rattle.rinv_generators.proofs.Together.{runs-within}

-- two degrees are the cause
for-degrees : (told : Told) (journal : List Entry) (why : Why) (phase : Phase) → ProvingHaltsIn told phase journal why → (x : ℕ) × (y : ℕ) × (why ≡ Degree x y)
for-degrees told journal why Group h = absurd h
for-degrees told journal why Laws h = (h.x, h.y, h.cause)
for-degrees told journal why Action h = absurd h
for-degrees told journal why Tail h = (h.x, h.y, h.cause)

abbrev is_degree : Why → Bool
is_degree (Pairs i j) = false
is_degree (Steps m) = false
is_degree (Degree x y) = true

other-cause : {A : Type 0} (why : Why) → is_degree why ≡ false → (x : ℕ) × (y : ℕ) × (why ≡ Degree x y) → A
other-cause why off (x, y, e) = absurd (true≢false (sym (sym off ∙ ap is_degree e)))

module _ (told : Told) (journal : List Entry) (phase : Phase) where
  pub pairs-met : (i j : ℕ) → told.pairs < 2 ^ 32 - 1 → WorkHaltsIn told phase journal (Pairs i j) → length journal ≡ told.pairs
  pairs-met i j low (inl h) = pairs_met told journal phase i j low h
  pairs-met i j low (inr h) = other-cause (Pairs i j) refl (for-degrees told journal (Pairs i j) phase h)

  pub steps-met : (m : List ℕ) → told.steps < 2 ^ 64 - 1 → WorkHaltsIn told phase journal (Steps m) → (k : ℕ) × (steps_of journal + k ≡ told.steps)
  steps-met m low (inl h) = steps_met told journal phase m low h
  steps-met m low (inr h) = other-cause (Steps m) refl (for-degrees told journal (Steps m) phase h)

proving-within : (told : Told) (journal : List Entry) (why : Why) → told.pairs < 2 ^ 32 - 1 → told.steps < 2 ^ 64 - 1 → (phase : Phase) → ProvingHaltsIn told phase journal why → IsWithin told journal
proving-within told journal why pairs steps Group h = absurd h
proving-within told journal why pairs steps Laws h = runs-within told h.group h.action journal h.are_run.both_end h.entries pairs steps
proving-within told journal why pairs steps Action h = absurd h
proving-within told journal why pairs steps Tail h = runs-within told h.group h.action journal h.are_run.both_end h.entries pairs steps

pub work-within : (told : Told) (phase : Phase) (journal : List Entry) (why : Why) → told.pairs < 2 ^ 32 - 1 → told.steps < 2 ^ 64 - 1 → WorkHaltsIn told phase journal why → IsWithin told journal
work-within told phase journal why pairs steps (inl h) = halts-within told pairs steps phase journal why h
work-within told phase journal why pairs steps (inr h) = proving-within told journal why pairs steps phase h
