-- A halt on the way to generators with their proofs is within what the text allows.
--   halt-within
use Rattle.std.proofs.Common.{◌≡◌, ◌-◌, ◌^◌, ◌<◌, ℕ, List, ◌++◌, sym, subst, arith, inl, inr}
use Rattle.rinv_groebner.specs.Journal.{Entry}
use Rattle.rinv_text.specs.Told.{Told}
use Rattle.rinv_buch.specs.declared.kinds.Why.{Why}
use Rattle.rinv_buch.specs.Kinds.{Found}
use Rattle.rinv_gens.specs.declared.kinds.Phase.{Phase}
use Rattle.rinv_gens.specs.declared.kinds.Phase.TheVariants.{Group, Laws, Action, Tail}
use Rattle.rinv_gens.specs.Runs.{BothEnd, IsWithin as IsWithinRuns}
use Rattle.rinv_gens.proofs.Within.{halts-within, two}
use Rattle.rinv_generators.specs.Stops.{ProvingHaltsIn, WorkHaltsIn}
use Rattle.rinv_answers.specs.Budgets.{IsWithin, IsLimited}

module _ (told : Told) (pairs : told.pairs < 2 ^ 32 - 1) (steps : told.steps < 2 ^ 64 - 1) (journal : List Entry) where
  -- the journal of both runs
  both : (group action : Found ℕ) → BothEnd told group action → journal ≡ group.journal ++ action.journal → IsWithinRuns told journal
  both group action ends entries =
      subst (IsWithinRuns told) (sym entries) (two told pairs steps group.journal action.journal 0 ends.left ends.after ends.group_ends.spent ends.spent ends.kept)

  -- proofs are made once both runs have ended
  in-proofs : (phase : Phase) (why : Why) → ProvingHaltsIn told phase journal why → IsWithinRuns told journal
  in-proofs Group why h = absurd h
  in-proofs Laws why h = both h.group h.action h.are_run.both_end h.entries
  in-proofs Action why h = absurd h
  in-proofs Tail why h = both h.group h.action h.are_run.both_end h.entries

  in-work : (phase : Phase) (why : Why) → WorkHaltsIn told phase journal why → IsWithinRuns told journal
  in-work phase why (inl h) = halts-within told pairs steps phase journal why h
  in-work phase why (inr h) = in-proofs phase why h

pub halt-within : (told : Told) (phase : Phase) (journal : List Entry) (why : Why) → IsLimited told → WorkHaltsIn told phase journal why → IsWithin told journal
halt-within told phase journal why low h = go (in-work told (let pairs = low.pairs in omega (arith, pairs)) (let steps = low.steps in omega (arith, steps)) journal phase why h)
  where
    go : IsWithinRuns told journal → IsWithin told journal
    go w = record { pairs = w.pairs; steps = w.steps }
