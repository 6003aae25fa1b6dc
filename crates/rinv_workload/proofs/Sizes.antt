-- The workload is short enough to be read.
--   text-short
use Rattle.std.proofs.Common.{◌≡◌, ℕ, zero, suc, ◌+◌, ◌-◌, ◌*◌, ◌^◌, ◌<◌, ◌≤◌, ◌%◌, List, ◌++◌, length, map, Bool, true, false, ◌==◌, if◌then◌else◌, codes, decimal, arith, mod-lt, length-append, subst, sym}
use Rattle.std.specs.List.{range_with_len}
use Rattle.std.proofs.lemmas.Fmt.{length-decimal-le}
use Rattle.std.proofs.lemmas.Grind.{flat_map-append}
use Rattle.rinv_system.specs.Written.{text_of}
use Rattle.rinv_workload.specs.Workload.{first_lines, constant, exponent, power, numerator, denominator, query_line, workload_text}

small-number : (m n : ℕ) → m ≤ 101 → n < m → length (decimal n) ≤ 3
small-number m n few low = length-decimal-le 3 n (let e : 0 < 3 = omega arith in e) (let e : n < 10 ^ 3 = omega (arith, low, few) in e) (let e : n < 2 ^ 64 = omega (arith, low, few) in e)

constant-short : (k i : ℕ) → length (decimal (constant k i)) ≤ 3
constant-short k i = small-number 101 (constant k i) (let e : 101 ≤ 101 = omega arith in e) (mod-lt (7 * i * i + 3 * i + k) (let e : 0 < 101 = omega arith in e))

exponent-short : (i : ℕ) → length (decimal (exponent i)) ≤ 3
exponent-short i = let low = mod-lt i (let e : 0 < 3 = omega arith in e) in small-number 4 (exponent i) (let e : 4 ≤ 101 = omega arith in e) (let e : exponent i < 4 = omega (arith, low) in e)

-- pieces of a line, one behind another
four : (a c b e : List ℕ) → length (a ++ c ++ b ++ e) ≡ length a + length c + length b + length e
four a c b e = let x = length-append (a ++ c ++ b) e in let y = length-append (a ++ c) b in let z = length-append a c in omega (arith, x, y, z)

power-short : (k i : ℕ) → length (power k i) ≤ 11
power-short k i =
    let all = four (codes "(q+") (decimal (constant k i)) (codes ")^") (decimal (exponent i)) in
    let c = constant-short k i in
    let e = exponent-short i in
    omega (arith, all, c, e)

numerator-short : (k i : ℕ) → length (numerator k i) ≤ 15
numerator-short k i = by (i % 3 == 0) (power k i) (power-short k i)
  where
    by : (b : Bool) (p : List ℕ) → length p ≤ 11 → length (if b then codes "(" ++ p ++ codes "+x)" else p) ≤ 15
    by true p h = let x = length-append (codes "(" ++ p) (codes "+x)") in omega (arith, x, h)
    by false p h = omega (arith, h)

denominator-short : (k i : ℕ) → length (denominator k i) ≤ 9
denominator-short k i = let x = length-append (codes "(q+" ++ decimal (constant k i)) (codes "+1)") in let c = constant-short k i in omega (arith, x, c)

line-short : (k i : ℕ) → length (query_line k i ++ codes "\n") ≤ 34
line-short k i =
    let all = four (codes "rewrite ") (numerator k i) (codes "/") (denominator k i) in
    let ended = length-append (query_line k i) (codes "\n") in
    let n = numerator-short k i in
    let d = denominator-short k i in
    omega (arith, all, ended, n, d)

queries-short : (k a n : ℕ) → length (text_of (map (query_line k) (range_with_len a n))) ≤ 34 * n
queries-short k a zero = omega arith
queries-short k a (suc n) =
    let whole = length-append (query_line k a ++ codes "\n") (text_of (map (query_line k) (range_with_len (a + 1) n))) in
    let one = line-short k a in
    let rest = queries-short k (a + 1) n in
    omega (arith, whole, one, rest)

pub text-short : (k : ℕ) → k ≤ 1000 → length (workload_text k) < 2 ^ 32 - 1
unfolding workload_text
text-short k few =
    let lines = map (query_line k) (range_with_len 1 k) in
    let parts = flat_map-append (λ line. line ++ codes "\n") first_lines lines in
    let whole = length-append (text_of first_lines) (text_of lines) in
    let rest = queries-short k 1 k in
    subst (λ (t : List ℕ). length t < 2 ^ 32 - 1) (sym parts) (omega (arith, whole, rest, few))
