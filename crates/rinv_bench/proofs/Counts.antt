-- Counts of outcomes, one after another.
--   none, more       of the first so many
--   low              no more than there are
--   all              of all
use Rattle.std.proofs.Common.{◌≡◌, ℕ, ◌+◌, ◌<◌, ◌≤◌, List, length, take, get_or, Bool, true, false, refl, sym, ap, ap₂, ◌∙◌, arith, length-take, take_all}
use Rattle.std.specs.Prelude.{if◌then◌else◌}
use Rattle.std.specs.List.{count_by}
use Rattle.std.proofs.lemmas.List.Sums.{count_by-le-length, count_by_more_no, count_by_more_yes}
use Rattle.rinv_queries.specs.declared.outcome.Outcome.{Outcome}

module _ (test : Outcome → Bool) (os : List Outcome) where
  pub more : (k n m : ℕ) (d o : Outcome) → k < length os → o ≡ get_or os k d → n ≡ count_by test (take k os) → m ≡ (if test o then 1 else 0) → n + m ≡ count_by test (take (k + 1) os)
  more k n m d o within is so_far one =
      ap₂ (λ (a b : ℕ). a + b) so_far (one ∙ ap (λ (x : Outcome). if test x then 1 else 0) is) ∙ by (test (get_or os k d)) refl
    where
      by : (b : Bool) → test (get_or os k d) ≡ b → count_by test (take k os) + (if b then 1 else 0) ≡ count_by test (take (k + 1) os)
      by true e = sym (count_by_more_yes test os k d within e)
      by false e = let f : count_by test (take k os) + 0 ≡ count_by test (take k os) = omega arith in f ∙ sym (count_by_more_no test os k d within e)

  pub low : (k n : ℕ) → n ≡ count_by test (take k os) → n ≤ k
  low k n so_far = let most = count_by-le-length test (take k os) in let len = length-take k os in omega (arith, so_far, most, len)

  pub all : (k n : ℕ) → length os ≤ k → n ≡ count_by test (take k os) → n ≡ count_by test os
  all k n past so_far = so_far ∙ ap (λ (l : List Outcome). count_by test l) (take_all k os past)
