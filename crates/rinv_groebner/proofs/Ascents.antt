-- Lists of monomials to which one after another is added that no earlier one divides: they end.
--   ascents_end          only finitely many monomials in v variables can be added, each divided by none before it
--   descents_end         in an order of the monomials in v variables they descend only finitely often
use Rattle.std.proofs.Common.{◌≡◌, ℕ, ◌≤◌, Bool, true, false, List, ◌∷◌, length, sym, ◌∙◌, arith, subst, inl, inr, IsTrue, true≢false}
use Rattle.std.specs.Prelude.{◌||◌}
use Rattle.std.specs.declared.cmp.Ordering.{Ordering}
use Rattle.std.specs.declared.cmp.Ordering.TheVariants.{Less}
use Rattle.std.proofs.lemmas.Bool.{cases_Bool}
use Rattle.std.proofs.lemmas.Bool.Decides.{nat_tests}
use mathlib.Core.WellFounded.{Acc, WellFounded}
use mathlib.Core.WellFounded.Subrelation as Subrelation
use mathlib.Core.WellFounded.InvImage as InvImage
use Rattle.rinv_algebra.specs.Monomial.{divides}
use Rattle.rinv_theory.proofs.Monoid.{monomial}
use Rattle.rinv_groebner.specs.Orders.{OrdersMonomials}
use Rattle.rinv_groebner.specs.Count.{is_undivided, AddsUndivided}
use Rattle.rinv_groebner.proofs.AlmostFull.{AlmostFull}
use Rattle.rinv_groebner.proofs.FullDivisors.{first_full, first-divides}
use Rattle.rinv_groebner.proofs.FirstVariables.{order_in-less, order_in-well}

-- the relation holds of undivided monomials only where the first divides the second
abbrev Fits : ℕ → (List ℕ → List ℕ → Bool) → List (List ℕ) → Type 0
Fits v R ms = (a b : List ℕ) → length a ≤ v → length b ≤ v → R a b ≡ true → IsTrue (is_undivided ms a) → IsTrue (divides a b)

undivided_cons : (ms : List (List ℕ)) (m a : List ℕ) → IsTrue (is_undivided (m ∷ ms) a) → (divides m a ≡ false) × IsTrue (is_undivided ms a)
undivided_cons ms m a h = (grind (arith, nat_tests, h), grind (arith, nat_tests, h))

ascents-acc : (v : ℕ) {R : List ℕ → List ℕ → Bool} → AlmostFull R → (ms : List (List ℕ)) → Fits v R ms → Acc (AddsUndivided v) ms
ascents-acc v (AlmostFull.full h) ms fits = Acc.intro ms (λ more s. Acc.intro more (λ last t. absurd (twice more last s t)))
  where
    twice : (more last : List (List ℕ)) → AddsUndivided v more ms → AddsUndivided v last more → ⊥
    twice more last s t =
        let parts = undivided_cons ms s.added t.added (subst (λ (x : List (List ℕ)). IsTrue (is_undivided x t.added)) s.whole t.undivided) in
        true≢false (sym (fits s.added t.added s.in_variables t.in_variables (h s.added t.added) s.undivided) ∙ parts.0)
ascents-acc v (AlmostFull.step {R} h) ms fits = Acc.intro ms (λ more s. subst (Acc (AddsUndivided v)) (sym s.whole) (ascents-acc v (h s.added) (s.added ∷ ms) (kept s.added s.in_variables s.undivided)))
  where
    kept : (m : List ℕ) → length m ≤ v → IsTrue (is_undivided ms m) → Fits v (λ a b. R a b || R m a) (m ∷ ms)
    kept m lm um a b la lb r u =
        let parts = undivided_cons ms m a u in
        elim (cases_Bool (R a b)) [
          | inl here ↦ fits a b la lb here parts.1
          | inr off ↦ absurd (true≢false (sym (fits m a lm la (grind (arith, nat_tests, off, r)) um) ∙ parts.0))
        ]

-- only finitely many monomials in v variables can be added, each divided by none before it
pub ascents_end : (v : ℕ) → WellFounded (AddsUndivided v)
ascents_end v = record { apply = λ ms. ascents-acc v (first_full v) ms (λ a b la lb r u. first-divides v a b la r) }

-- in an order of the monomials in v variables they descend only finitely often
pub descents_end : (cmp : List ℕ → List ℕ → Ordering) (v : ℕ) → OrdersMonomials cmp v → WellFounded (λ (a b : List ℕ). (length a ≤ v) × (length b ≤ v) × (cmp a b ≡ Less))
descents_end cmp v order = Subrelation.wf (λ a b h. order_in-less cmp order.laws v a b h.0 h.1 h.2) (InvImage.wf monomial (order_in-well cmp order.laws v).well_founded)
