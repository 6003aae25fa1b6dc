-- The numbers of a command that words are.
--   in-range    they are within their range
use Rattle.std.proofs.Common.{◌≡◌, ℕ, ◌+◌, ◌-◌, ◌*◌, ◌≤◌, List, [], ◌∷◌, String, Option, Some, None, Bool, true, false, not, ◌&&◌, ◌==◌, if◌then◌else◌, nat_le, codes, refl, ◌∙◌, subst, arith}
use Rattle.std.specs.Prelude.{IfSome, fold, option_map, string_bytes, bytes_eq}
use Rattle.std.specs.List.{list_all}
use Rattle.std.specs.declared.alloc.Global.{Global}
use Rattle.std.proofs.lemmas.Bool.Decides.{nat_tests}
use Rattle.rinv_algebra.proofs.Same.{both}
use Rattle.rinv_defs.specs.Names.{is_digit}
use Rattle.rinv_text.specs.Tokens.{number_of}
use Rattle.rinv_commands.specs.declared.command.Command.{Command}
use Rattle.rinv_commands.specs.declared.command.Command.TheVariants.{Check, Laws, Gen, Rewrite, Certify, Run, Bench}
use Rattle.rinv_commands.specs.Inputs.{IsWithinRange, max_bench}
use Rattle.rinv_serve.specs.Words.{command_named, is_count, bench_number, bench_of, command_of}

-- ---- numbers

digits-positive : (n : ℕ) (ds : List ℕ) → 1 ≤ n → 1 ≤ fold (λ m b. m * 10 + (b - 48)) n ds
digits-positive n [] h = h
digits-positive n (d ∷ ds) h = digits-positive (n * 10 + (d - 48)) ds (omega (arith, h))

first-digit : (b : ℕ) → not (b == 48) ≡ true → is_digit b ≡ true → 49 ≤ b
first-digit b other digit = grind (arith, nat_tests, other, digit)

count-positive : (w : List ℕ) → is_count w ≡ true → 1 ≤ number_of w
count-positive [] e = cc
count-positive (b ∷ bs) e =
    let parts = both (not (b == 48)) (list_all is_digit (b ∷ bs)) e in
    let digit = both (is_digit b) (list_all is_digit bs) parts.1 in
    let low = first-digit b parts.0 digit.0 in
    digits-positive (0 * 10 + (b - 48)) bs (omega (arith, low))

low : (n m : ℕ) → nat_le n m ≡ true → n ≤ m
low n m e = grind (arith, nat_tests, e)

number-in-range : (w : List ℕ) → IfSome (bench_number w) (λ k. (1 ≤ k) × (k ≤ max_bench))
number-in-range w = by (is_count w && nat_le (number_of w) max_bench) refl
  where
    by : (b : Bool) → (is_count w && nat_le (number_of w) max_bench) ≡ b → IfSome (if b then Some (number_of w) else None) (λ k. (1 ≤ k) × (k ≤ max_bench))
    by true e = let parts = both (is_count w) (nat_le (number_of w) max_bench) e in (count-positive w parts.0, low (number_of w) max_bench parts.1)
    by false e = tt

-- ---- words

either : (b : Bool) (x : Command) (o : Option Command) → IsWithinRange x → IfSome o IsWithinRange → IfSome (if b then Some x else o) IsWithinRange
either true x o h rest = h
either false x o h rest = rest

named-in-range : (w : List ℕ) → IfSome (command_named w) IsWithinRange
named-in-range w =
    either (bytes_eq w (codes "check")) Check _ tt (either (bytes_eq w (codes "laws")) Laws _ tt (either (bytes_eq w (codes "gen")) Gen _ tt
    (either (bytes_eq w (codes "rewrite")) Rewrite _ tt (either (bytes_eq w (codes "certify")) Certify _ tt (either (bytes_eq w (codes "run")) Run None tt tt)))))

bench-in-range : (v w : List ℕ) → IfSome (bench_of v w) IsWithinRange
bench-in-range v w = by (bytes_eq v (codes "bench")) (bench_number w) (number-in-range w)
  where
    by : (b : Bool) (o : Option ℕ) → IfSome o (λ k. (1 ≤ k) × (k ≤ max_bench)) → IfSome (if b then option_map (λ k. Bench k) o else None) IsWithinRange
    by true None h = tt
    by true (Some k) h = h
    by false o h = tt

words-in-range : (words : List (String Global)) → IfSome (command_of words) IsWithinRange
words-in-range [] = tt
words-in-range (w ∷ []) = named-in-range (string_bytes w)
words-in-range (v ∷ w ∷ []) = bench-in-range (string_bytes v) (string_bytes w)
words-in-range (u ∷ v ∷ w ∷ ws) = tt

pub in-range : (words : List (String Global)) (asked : Command) → command_of words ≡ Some asked → IsWithinRange asked
in-range words asked e = subst (λ (o : Option Command). IfSome o IsWithinRange) e (words-in-range words)
