-- The block order that is given by the ends of its blocks.
use Rattle.std.proofs.Common.{◌≡◌, ℕ, ◌+◌, ◌-◌, ◌≤◌, List, [], ◌∷◌, length, take, drop, sum, ap, ◌∙◌, arith, IsTrue}
use Rattle.std.proofs.lemmas.Bool.Decides.{nat_tests}
use Rattle.std.proofs.lemmas.List.{drop-drop}
use Rattle.std.proofs.lemmas.List.Sums.{sum_by-cons}
use Rattle.std.specs.Ordering.{ordering_then}
use Rattle.std.specs.declared.cmp.Ordering.TheVariants.{Equal}
use Rattle.rinv_algebra.specs.Order.{grevlex, block_order}
use Rattle.rinv_algebra.proofs.Grevlex.{block_order_ties}
use Rattle.rinv_algebra.specs.BlockEnds.{sizes_from, rises_from, last_from}

last_from-le : (s : ℕ) (ends : List ℕ) → last_from s ends ≤ s + sum (sizes_from s ends)
last_from-le s [] = omega arith
last_from-le s (e ∷ ends) = omega (arith, last_from-le e ends, sum_by-cons (λ (n : ℕ). n) (e - s) (sizes_from e ends))

-- two monomials in as many variables tie only where they are equal
pub blocks_ties : (ends a b : List ℕ) → length a ≡ length b → length a ≡ last_from 0 ends → block_order (sizes_from 0 ends) a b ≡ Equal → a ≡ b
blocks_ties ends a b same fits e = block_order_ties (sizes_from 0 ends) a b same (omega (arith, fits, last_from-le 0 ends)) e

-- ends that rise are at most the last
pub rises-last : (s : ℕ) (ends : List ℕ) → IsTrue (rises_from s ends) → s ≤ last_from s ends
rises-last s [] h = omega arith
rises-last s (e ∷ ends) h =
    let first : s ≤ e = grind (arith, nat_tests, h) in
    let rest : IsTrue (rises_from e ends) = grind (arith, nat_tests, h) in
    omega (arith, first, rises-last e ends rest)

-- the first block, and those after it
pub block_order-step : (s e : ℕ) (ends a b : List ℕ) → s ≤ e → block_order (sizes_from s (e ∷ ends)) (drop s a) (drop s b) ≡ ordering_then (grevlex (take (e - s) (drop s a)) (take (e - s) (drop s b))) (block_order (sizes_from e ends) (drop e a) (drop e b))
unfolding block_order
block_order-step s e ends a b le = ap (ordering_then (grevlex (take (e - s) (drop s a)) (take (e - s) (drop s b)))) (ap (λ (r : List ℕ). block_order (sizes_from e ends) r (drop (e - s) (drop s b))) (past a) ∙ ap (block_order (sizes_from e ends) (drop e a)) (past b))
  where
    past : (c : List ℕ) → drop (e - s) (drop s c) ≡ drop e c
    past c = drop-drop (e - s) s c ∙ ap (λ (k : ℕ). drop k c) (omega arith)
