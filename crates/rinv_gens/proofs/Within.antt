-- A journal of a halt is within what the text allows, over both runs.
--   one, two             one run, and both
--   halts-within
use Rattle.std.proofs.Common.{ℕ, ◌-◌, ◌^◌, ◌<◌, List, ◌++◌, sym, ◌∙◌, subst, arith, inl, inr, length-append}
use Rattle.rinv_groebner.specs.Journal.{Entry}
use Rattle.rinv_text.specs.Told.{Told}
use Rattle.rinv_div.specs.declared.budget.Budget.{Budget}
use Rattle.rinv_buch.specs.declared.kinds.Why.{Why}
use Rattle.rinv_buch.specs.Spent.{IsKept, SpendsOn}
use Rattle.rinv_laws.specs.Group.{HaltsInGroup}
use Rattle.rinv_gens.specs.declared.kinds.Phase.{Phase}
use Rattle.rinv_gens.specs.declared.kinds.Phase.TheVariants.{Group, Laws, Action, Tail}
use Rattle.rinv_gens.specs.Runs.{budget_of, IsWithin}
use Rattle.rinv_gens.specs.Halts.{HaltsIn}
use Rattle.rinv_gens.proofs.MetBudgets.{steps-append}

module _ (told : Told) (low_pairs : told.pairs < 2 ^ 32 - 1) (low_steps : told.steps < 2 ^ 64 - 1) where
  -- one run
  one : (journal : List Entry) (more : ℕ) (after : Budget) → SpendsOn journal more (budget_of told) after → IsKept after → IsWithin told journal
  one journal more after s kept = record {
    pairs = omega (arith, low_pairs, s.pairs_spent, s.limits.pairs, kept.pairs s.limits.endless);
    steps = omega (arith, low_steps, s.steps_spent, s.limits.steps, kept.steps s.limits.endless);
  }

  -- a second one with what the first leaves
  pub two : (first second : List Entry) (more : ℕ) (left after : Budget) → SpendsOn first 0 (budget_of told) left → SpendsOn second more left after → IsKept after → IsWithin told (first ++ second)
  two first second more left after s t kept = record {
    pairs = omega (arith, low_pairs, s.pairs_spent, s.limits.pairs, t.pairs_spent, t.limits.pairs, kept.pairs (t.limits.endless ∙ s.limits.endless), length-append first second);
    steps = omega (arith, low_steps, s.steps_spent, s.limits.steps, t.steps_spent, t.limits.steps, kept.steps (t.limits.endless ∙ s.limits.endless), steps-append first second);
  }

  pub halts-within : (phase : Phase) (journal : List Entry) (why : Why) → HaltsIn told phase journal why → IsWithin told journal
  halts-within Group journal why h = subst (IsWithin told) (sym h.entries) (go h.halts)
    where
      go : HaltsInGroup told.system (budget_of told) h.after h.halted → IsWithin told h.halted.journal
      go (inl r) = one h.halted.journal r.taken h.after r.spent h.kept
      go (inr r) = one h.halted.journal 0 h.after r.spent h.kept
  halts-within Laws journal why h = subst (IsWithin told) (sym h.entries) (one h.group.journal 0 h.left h.group_ends.spent h.group_ends.kept)
  halts-within Action journal why (inl h) = subst (IsWithin told) (sym h.entries) (two h.group.journal h.halted.journal h.halts.taken h.left h.after h.group_ends.spent h.halts.spent h.kept)
  halts-within Action journal why (inr h) = subst (IsWithin told) (sym h.entries) (two h.group.journal h.action.journal 0 h.both_end.left h.both_end.after h.both_end.group_ends.spent h.both_end.spent h.both_end.kept)
  halts-within Tail journal why h = subst (IsWithin told) (sym h.entries) (two h.group.journal h.action.journal 0 h.both_end.left h.both_end.after h.both_end.group_ends.spent h.both_end.spent h.both_end.kept)
