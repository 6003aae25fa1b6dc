-- A halt at the end of a budget tells how long the journal of both runs is, and how many steps were taken.
--   steps-append         the steps of two journals
--   pairs_met, steps_met    a halt for pairs, and one for steps
use Rattle.std.proofs.Common.{◌≡◌, ℕ, ◌+◌, ◌-◌, ◌^◌, ◌<◌, Bool, true, false, List, ◌++◌, length, map, refl, sym, ap, ◌∙◌, subst, arith, inl, inr, true≢false, length-append}
use Rattle.std.specs.Prelude.{sum, nat_lt}
use Rattle.std.proofs.lemmas.List.{map-append}
use Rattle.std.proofs.lemmas.List.Sums.{sum_by-append}
use Rattle.rinv_algebra.specs.Residue.{residue_ops}
use Rattle.rinv_algebra.specs.Order.{grevlex}
use Rattle.rinv_defs.specs.PairConditions.{action_order}
use Rattle.rinv_groebner.specs.Journal.{Entry}
use Rattle.rinv_text.specs.Told.{Told}
use Rattle.rinv_buch.specs.declared.kinds.Why.{Why}
use Rattle.rinv_buch.specs.declared.kinds.Why.TheVariants.{Pairs, Steps, Degree}
use Rattle.rinv_buch.specs.Causes.{IsCause}
use Rattle.rinv_buch.specs.Spent.{steps_of}
use Rattle.rinv_sub.specs.Refusal.{never}
use Rattle.rinv_defs.specs.System.{group_count}
use Rattle.rinv_reduction.specs.Localised.{all_count}
use Rattle.rinv_laws.specs.Group.{HaltsInGroup}
use Rattle.rinv_gens.specs.declared.kinds.Phase.{Phase}
use Rattle.rinv_gens.specs.declared.kinds.Phase.TheVariants.{Group, Laws, Action, Tail}
use Rattle.rinv_gens.specs.Runs.{budget_of}
use Rattle.rinv_gens.specs.Halts.{HaltsIn, HaltsAtGroup, HaltsAtAction}

abbrev is_degree : Why → Bool
is_degree (Pairs i j) = false
is_degree (Steps m) = false
is_degree (Degree x y) = true

pub steps-append : (xs ys : List Entry) → steps_of (xs ++ ys) ≡ steps_of xs + steps_of ys
steps-append xs ys = ap sum (map-append (λ (e : Entry). e.steps) xs ys) ∙ sum_by-append (λ (n : ℕ). n) (map (λ (e : Entry). e.steps) xs) (map (λ (e : Entry). e.steps) ys)

no_degree : {A : Type 0} {why : Why} (x y : ℕ) → is_degree why ≡ false → why ≡ Degree x y → A
no_degree x y off e = absurd (true≢false (sym (sym off ∙ ap is_degree e)))

module _ (told : Told) (journal : List Entry) where
  group_pairs : (i j : ℕ) → told.pairs < 2 ^ 32 - 1 → HaltsAtGroup told journal (Pairs i j) → length journal ≡ told.pairs
  group_pairs i j low h = go h.halts
    where
      go : HaltsInGroup told.system (budget_of told) h.after h.halted → length journal ≡ told.pairs
      go (inl r) =
          let cause : IsCause (residue_ops told.system.p) (λ c. nat_lt c told.system.p) never (group_count told.system) grevlex h.after h.halted.journal h.halted.polys h.halted.working (Pairs i j) = subst (IsCause (residue_ops told.system.p) (λ c. nat_lt c told.system.p) never (group_count told.system) grevlex h.after h.halted.journal h.halted.polys h.halted.working) (sym h.cause) r.cause in
          let spent = r.spent.pairs_spent in let limit = r.spent.limits.pairs in let all = cause.1 in let entries = ap length h.entries in omega (arith, spent, limit, all, entries, low)
      go (inr r) = no_degree r.left r.right refl (h.cause ∙ r.why)

  group_steps : (m : List ℕ) → told.steps < 2 ^ 64 - 1 → HaltsAtGroup told journal (Steps m) → (k : ℕ) × (steps_of journal + k ≡ told.steps)
  group_steps m low h = go h.halts
    where
      go : HaltsInGroup told.system (budget_of told) h.after h.halted → (k : ℕ) × (steps_of journal + k ≡ told.steps)
      go (inl r) =
          let cause : IsCause (residue_ops told.system.p) (λ c. nat_lt c told.system.p) never (group_count told.system) grevlex h.after h.halted.journal h.halted.polys h.halted.working (Steps m) = subst (IsCause (residue_ops told.system.p) (λ c. nat_lt c told.system.p) never (group_count told.system) grevlex h.after h.halted.journal h.halted.polys h.halted.working) (sym h.cause) r.cause in
          let spent = r.spent.steps_spent in let limit = r.spent.limits.steps in let all = cause.1 in let entries = ap steps_of h.entries in (r.taken, omega (arith, spent, limit, all, entries, low))
      go (inr r) = no_degree r.left r.right refl (h.cause ∙ r.why)

  action_pairs : (i j : ℕ) → told.pairs < 2 ^ 32 - 1 → HaltsAtAction told journal (Pairs i j) → length journal ≡ told.pairs
  action_pairs i j low h =
      let cause : IsCause (residue_ops told.system.p) (λ c. nat_lt c told.system.p) never (all_count told.system) (action_order told.system) h.after h.halted.journal h.halted.polys h.halted.working (Pairs i j) = subst (IsCause (residue_ops told.system.p) (λ c. nat_lt c told.system.p) never (all_count told.system) (action_order told.system) h.after h.halted.journal h.halted.polys h.halted.working) (sym h.cause) h.halts.cause in
      let first = h.group_ends.spent.pairs_spent in let first_limit = h.group_ends.spent.limits.pairs in
      let spent = h.halts.spent.pairs_spent in let limit = h.halts.spent.limits.pairs in let all = cause.1 in
      let entries = ap length h.entries ∙ length-append h.group.journal h.halted.journal in omega (arith, first, first_limit, spent, limit, all, entries, low)

  action_steps : (m : List ℕ) → told.steps < 2 ^ 64 - 1 → HaltsAtAction told journal (Steps m) → (k : ℕ) × (steps_of journal + k ≡ told.steps)
  action_steps m low h =
      let cause : IsCause (residue_ops told.system.p) (λ c. nat_lt c told.system.p) never (all_count told.system) (action_order told.system) h.after h.halted.journal h.halted.polys h.halted.working (Steps m) = subst (IsCause (residue_ops told.system.p) (λ c. nat_lt c told.system.p) never (all_count told.system) (action_order told.system) h.after h.halted.journal h.halted.polys h.halted.working) (sym h.cause) h.halts.cause in
      let first = h.group_ends.spent.steps_spent in let first_limit = h.group_ends.spent.limits.steps in
      let spent = h.halts.spent.steps_spent in let limit = h.halts.spent.limits.steps in let all = cause.1 in
      let entries = ap steps_of h.entries ∙ steps-append h.group.journal h.halted.journal in (h.halts.taken, omega (arith, first, first_limit, spent, limit, all, entries, low))

  pub pairs_met : (phase : Phase) (i j : ℕ) → told.pairs < 2 ^ 32 - 1 → HaltsIn told phase journal (Pairs i j) → length journal ≡ told.pairs
  pairs_met Group i j low h = group_pairs i j low h
  pairs_met Laws i j low h = no_degree h.x h.y refl h.cause
  pairs_met Action i j low (inl h) = action_pairs i j low h
  pairs_met Action i j low (inr h) = no_degree h.x h.y refl h.cause
  pairs_met Tail i j low h = no_degree h.x h.y refl h.cause

  pub steps_met : (phase : Phase) (m : List ℕ) → told.steps < 2 ^ 64 - 1 → HaltsIn told phase journal (Steps m) → (k : ℕ) × (steps_of journal + k ≡ told.steps)
  steps_met Group m low h = group_steps m low h
  steps_met Laws m low h = no_degree h.x h.y refl h.cause
  steps_met Action m low (inl h) = action_steps m low h
  steps_met Action m low (inr h) = no_degree h.x h.y refl h.cause
  steps_met Tail m low h = no_degree h.x h.y refl h.cause
