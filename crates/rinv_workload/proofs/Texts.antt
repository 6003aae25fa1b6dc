-- The text of the workload, line by line.
--   begins           the lines that come first
--   more             a query more
--   all              all of them
use Rattle.std.proofs.Common.{◌≡◌, ℕ, ◌+◌, List, ◌++◌, map, append_assoc, append-nil, sym, ap, ◌∙◌, Bool, true, false, ◌%◌, ◌==◌, arith}
use Rattle.std.specs.Prelude.{codes, decimal}
use Rattle.std.specs.List.{range_with_len}
use Rattle.std.proofs.lemmas.Bool.Decides.{nat_tests}
use Rattle.std.proofs.lemmas.List.{flat_map_more}
use Rattle.std.proofs.lemmas.List.FromFn.{map-range_with_len_more}
use Rattle.std.proofs.lemmas.Grind.{flat_map-append}
use Rattle.rinv_system.specs.Written.{text_of}
use Rattle.rinv_workload.specs.Workload.{first_lines, constant, exponent, query_line, workload_text}

-- a line and its end
abbrev pub ended : List ℕ → List ℕ
ended line = line ++ codes "\n"

-- the first lines, and so many queries
abbrev pub so_far : ℕ → ℕ → List ℕ
so_far k n = text_of first_lines ++ text_of (map (query_line k) (range_with_len 1 n))

pub begins : (k : ℕ) → text_of first_lines ≡ so_far k 0
begins k = sym (append-nil (text_of first_lines))

pub more : (k n i : ℕ) (old new : List ℕ) → 1 + n ≡ i → old ≡ so_far k n → new ≡ old ++ (query_line k i ++ codes "\n") → new ≡ so_far k (n + 1)
more k n i old new is before after =
    let lines = map (query_line k) (range_with_len 1 n) in
    after ∙ ap (λ (t : List ℕ). t ++ ended (query_line k i)) before
    ∙ flat_map_more ended (text_of first_lines) lines (query_line k i)
    ∙ ap (λ (ls : List (List ℕ)). text_of first_lines ++ text_of ls) (sym (map-range_with_len_more (query_line k) 1 n i is))

pub all : (k : ℕ) (text : List ℕ) → text ≡ so_far k k → text ≡ workload_text k
unfolding workload_text
all k text h = h ∙ sym (flat_map-append ended first_lines (map (query_line k) (range_with_len 1 k)))

-- ---- the line of a query, as a format writes it

third_regrouped : (w b q c h e x s d t n : List ℕ)
    → (w ++ (b ++ q)) ++ (c ++ (h ++ (e ++ ((x ++ (s ++ d)) ++ (c ++ (t ++ n)))))) ≡ (w ++ (b ++ (q ++ c ++ h ++ e) ++ x) ++ s ++ (d ++ c ++ t)) ++ n
third_regrouped w b q c h e x s d t n = simp append_assoc

other_regrouped : (w q c h e s d t n : List ℕ)
    → (w ++ q) ++ (c ++ (h ++ (e ++ ((s ++ d) ++ (c ++ (t ++ n)))))) ≡ (w ++ (q ++ c ++ h ++ e) ++ s ++ (d ++ c ++ t)) ++ n
other_regrouped w q c h e s d t n = simp append_assoc

-- with x, or without
abbrev written : Bool → List ℕ → List ℕ → List ℕ
written true c e = codes "rewrite ((q+" ++ (c ++ (codes ")^" ++ (e ++ (codes "+x)/(q+" ++ (c ++ codes "+1)\n")))))
written false c e = codes "rewrite (q+" ++ (c ++ (codes ")^" ++ (e ++ (codes "/(q+" ++ (c ++ codes "+1)\n")))))

-- what is no third
pub no-third : (i : ℕ) → (i % 3 ≡ 0 → ⊥) → (i % 3 == 0) ≡ false
no-third i h = grind (arith, nat_tests, h)

module _ (k i : ℕ) (old made new : List ℕ) where
  line-of : (third : Bool) → (i % 3 == 0) ≡ third → written third (decimal (constant k i)) (decimal (exponent i)) ≡ query_line k i ++ codes "\n"
  line-of true e = rw e (third_regrouped (codes "rewrite ") (codes "(") (codes "(q+") (decimal (constant k i)) (codes ")^") (decimal (exponent i)) (codes "+x)") (codes "/") (codes "(q+") (codes "+1)") (codes "\n"))
  line-of false e = rw e (other_regrouped (codes "rewrite ") (codes "(q+") (decimal (constant k i)) (codes ")^") (decimal (exponent i)) (codes "/") (codes "(q+") (codes "+1)") (codes "\n"))

  pub appended : (third : Bool) → (i % 3 == 0) ≡ third → made ≡ written third (decimal (constant k i)) (decimal (exponent i)) → new ≡ old ++ made → new ≡ old ++ (query_line k i ++ codes "\n")
  appended third e is grown = grown ∙ ap (λ (t : List ℕ). old ++ t) (is ∙ line-of third e)
