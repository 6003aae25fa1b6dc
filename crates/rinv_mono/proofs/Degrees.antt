-- Degrees of a part of the variables, read off the partial sums.
use Rattle.std.proofs.Common.{◌≡◌, ℕ, ◌+◌, ◌-◌, ◌<◌, ◌≤◌, List, length, take, drop, get_or, min, sum, sym, ap, ◌∙◌, arith, IsTrue, inl, inr}
use Rattle.std.proofs.lemmas.List.{take_all, drop_all, length-take, length-drop, get_or-take}
use Rattle.std.proofs.lemmas.Bool.{cases_order}
use Rattle.std.proofs.lemmas.List.Sums.{sum_by_more_le}
use Rattle.rinv_algebra.specs.BlockEnds.{sizes_from, rises_from, last_from}
use Rattle.rinv_mono.specs.AreSums.{AreSums}
use Rattle.rinv_mono.proofs.PartialSums.{sum-sizes, last-place, last-parts, length-sizes}
use Rattle.rinv_mono.proofs.SumBlocks.{sizes-part, rises-part}

-- the sum before a place
pub before-place : (a : List ℕ) (k : ℕ) → 0 < k → k ≤ length a → get_or a (k - 1) 0 ≡ last_from 0 (take k a)
before-place a k some inside =
    let whole : length (take k a) ≡ k = omega (arith, length-take k a, inside) in
    sym (get_or-take k a (k - 1) 0 (omega (arith, some))) ∙ sym (last-place 0 (take k a) (k - 1) (omega (arith, whole, some)))

-- no exponent is over the limit
pub low-exponent : (a : List ℕ) (k x : ℕ) → AreSums a → k < length a → x ≡ get_or (sizes_from 0 a) k 0 → x ≤ 10000
low-exponent a k x h inside read =
    let part = sum_by_more_le (λ (n : ℕ). n) (sizes_from 0 a) k 0 (omega (arith, inside, length-sizes 0 a)) in
    omega (arith, part, sum-sizes 0 a h.0, h.1, read)

-- the sum of a part
pub part-sum : (a : List ℕ) (s n e : ℕ) → s + n ≡ e → IsTrue (rises_from 0 a) → last_from 0 (take s a) + sum (take n (drop s (sizes_from 0 a))) ≡ last_from 0 (take e a)
part-sum a s n e end h =
    let before = last_from 0 (take s a) in
    ap (λ (r : List ℕ). before + sum r) (sizes-part a s n) ∙ sum-sizes before (take n (drop s a)) (rises-part a s n h) ∙ sym (last-parts 0 s n a) ∙ ap (λ (k : ℕ). last_from 0 (take k a)) end

-- a difference of two sums
pub part-le : (a : List ℕ) (s e : ℕ) → s ≤ e → IsTrue (rises_from 0 a) → last_from 0 (take s a) ≤ last_from 0 (take e a)
part-le a s e le h = omega (arith, part-sum a s (e - s) e (omega (arith, le)) h)

pub part-degree : (a : List ℕ) (s e x : ℕ) → s ≤ e → IsTrue (rises_from 0 a) → x ≡ last_from 0 (take e a) - last_from 0 (take s a) → x ≡ sum (take (e - s) (drop s (sizes_from 0 a)))
part-degree a s e x le h is = omega (arith, is, part-sum a s (e - s) e (omega (arith, le)) h)

-- all that is past a place
min-drop : (a : List ℕ) (from : ℕ) → drop (min from (length a)) a ≡ drop from a
min-drop a from = elim (cases_order from (length a)) [
  | inl same ↦ let e : min from (length a) ≡ from = omega (arith, same) in ap (λ (k : ℕ). drop k a) e
  | inr (inl below) ↦ let e : min from (length a) ≡ from = omega (arith, below) in ap (λ (k : ℕ). drop k a) e
  | inr (inr above) ↦ let e : min from (length a) ≡ length a = omega (arith, above) in ap (λ (k : ℕ). drop k a) e ∙ drop_all (length a) a (omega arith) ∙ sym (drop_all from a (omega (arith, above)))
]

pub past-part : (a : List ℕ) (from n : ℕ) → n ≡ length a → take (n - min from n) (drop (min from n) a) ≡ drop from a
past-part a from n e =
    let fits : length (drop (min from (length a)) a) ≤ n - min from n = omega (arith, e, length-drop (min from (length a)) a) in
    ap (λ (k : ℕ). take (n - min from n) (drop (min from k) a)) e ∙ take_all (n - min from n) (drop (min from (length a)) a) fits ∙ min-drop a from
