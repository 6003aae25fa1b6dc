-- How the loops that write ranks go on.
use Rattle.std.proofs.Common.{◌≡◌, ℕ, suc, zero, add-one, ◌+◌, ◌-◌, ◌<◌, ◌≤◌, List, [], ◌∷◌, ◌++◌, length, take, drop, get_or, sym, ap, ap₂, ◌∙◌, arith, IsTrue}
use Rattle.std.proofs.lemmas.List.{append_assoc, append-nil, drop-drop, drop_more, drop_all, length-take, length-drop, get_or-take, get_or-drop, take_all}
use Rattle.rinv_algebra.specs.Monomial.{max_degree}
use Rattle.rinv_algebra.specs.Ranks.{turned, graded_rank, block_rank}
use Rattle.rinv_algebra.specs.BlockEnds.{sizes_from, rises_from}
use Rattle.rinv_mono.proofs.BlockLoop.{begins-le}
use Rattle.rinv_mono.proofs.PartialSums.{length-sizes}

-- the place before those that were written
turned-place : (a out whole : List ℕ) (k x : ℕ) → 0 < k → k ≤ length a → x ≡ get_or a (k - 1) 0 → whole ≡ out ++ turned (drop k a) → whole ++ (max_degree - x) ∷ [] ≡ out ++ turned (drop (k - 1) a)
unfolding turned
turned-place a out whole zero x some inside read e = absurd (omega arith)
turned-place a out whole (suc k) x some inside read e =
    let one : suc k - 1 ≡ k = omega arith in
    let here : x ≡ get_or a k 0 = read ∙ ap (λ (n : ℕ). get_or a n 0) one in
    let more : drop k a ≡ get_or a k 0 ∷ drop (suc k) a = drop_more a k 0 (omega arith) ∙ ap (λ (n : ℕ). get_or a k 0 ∷ drop n a) (add-one k) in
    rw (one, here) (ap (λ (r : List ℕ). r ++ (max_degree - get_or a k 0) ∷ []) e ∙ append_assoc out (turned (drop (suc k) a)) ((max_degree - get_or a k 0) ∷ []) ∙ ap (λ (r : List ℕ). out ++ turned r) (sym more))

-- of a part of the places, from the one after the last
pub part-begins : (a out : List ℕ) (s e k : ℕ) → k ≡ e → out ≡ out ++ turned (drop (k - s) (take (e - s) (drop s a)))
unfolding turned
part-begins a out s e k last =
    let past : length (take (e - s) (drop s a)) ≤ k - s = omega (arith, last, length-take (e - s) (drop s a)) in
    sym (ap (λ (r : List ℕ). out ++ turned r) (drop_all (k - s) (take (e - s) (drop s a)) past) ∙ append-nil out)

pub part-place : (a out whole : List ℕ) (s e k x : ℕ) → s < k → k ≤ e → e ≤ length a → x ≡ get_or a (k - 1) 0 → whole ≡ out ++ turned (drop (k - s) (take (e - s) (drop s a))) → whole ++ (max_degree - x) ∷ [] ≡ out ++ turned (drop ((k - 1) - s) (take (e - s) (drop s a)))
part-place a out whole s e k x some inside fits read h =
    let part = take (e - s) (drop s a) in
    let size : length part ≡ e - s = omega (arith, length-take (e - s) (drop s a), length-drop s a, fits) in
    let place : s + ((k - s) - 1) ≡ k - 1 = omega (arith, some) in
    let seen : x ≡ get_or part ((k - s) - 1) 0 = read ∙ ap (λ (n : ℕ). get_or a n 0) (sym place) ∙ sym (get_or-drop s a ((k - s) - 1) 0) ∙ sym (get_or-take (e - s) (drop s a) ((k - s) - 1) 0 (omega (arith, some, inside))) in
    let next : (k - s) - 1 ≡ (k - 1) - s = omega arith in
    turned-place part out whole (k - s) x (omega (arith, some)) (omega (arith, size, inside)) seen h ∙ ap (λ (n : ℕ). out ++ turned (drop n part)) next

pub part-ends : (a out whole : List ℕ) (s e k : ℕ) → k ≡ s → whole ≡ out ++ turned (drop (k - s) (take (e - s) (drop s a))) → whole ≡ out ++ turned (take (e - s) (drop s a))
part-ends a out whole s e k first h =
    let none : k - s ≡ 0 = omega (arith, first) in
    h ∙ ap (λ (n : ℕ). out ++ turned (drop n (take (e - s) (drop s a)))) none

-- the rank of all variables
rank-all : (sums seen : List ℕ) (n : ℕ) → sizes_from 0 sums ≡ seen → length (sizes_from 0 sums) ≤ n → graded_rank (take (n - 0) (drop 0 (sizes_from 0 sums))) ≡ graded_rank seen
rank-all sums seen n e fits = ap graded_rank (take_all (n - 0) (sizes_from 0 sums) (omega (arith, fits)) ∙ e)

pub rank-made : (sums seen begun made : List ℕ) (n : ℕ) → begun ≡ [] → made ≡ begun ++ graded_rank (take (n - 0) (drop 0 (sizes_from 0 sums))) → sizes_from 0 sums ≡ seen → n ≡ length sums → made ≡ graded_rank seen
rank-made sums seen begun made n empty whole e count =
    whole ∙ ap (λ (r : List ℕ). r ++ graded_rank (take (n - 0) (drop 0 (sizes_from 0 sums)))) empty ∙ rank-all sums seen n e (omega (arith, count, length-sizes 0 sums))

-- and the same after a number
pub rank-after : (sums seen begun made : List ℕ) (n d x : ℕ) → begun ≡ d ∷ [] → d ≡ x → made ≡ begun ++ graded_rank (take (n - 0) (drop 0 (sizes_from 0 sums))) → sizes_from 0 sums ≡ seen → n ≡ length sums → made ≡ x ∷ graded_rank seen
rank-after sums seen begun made n d x one is whole e count =
    whole ∙ ap (λ (r : List ℕ). r ++ graded_rank (take (n - 0) (drop 0 (sizes_from 0 sums)))) one
    ∙ ap₂ (λ (y : ℕ) (r : List ℕ). y ∷ r) is (rank-all sums seen n e (omega (arith, count, length-sizes 0 sums)))

-- the next block
pub block-place : (ends a out whole : List ℕ) (k s : ℕ) → k < length ends → IsTrue (rises_from s (drop k ends)) → out ++ block_rank (sizes_from s (drop k ends)) (drop s a) ≡ whole
    → (out ++ graded_rank (take (get_or ends k 0 - s) (drop s a))) ++ block_rank (sizes_from (get_or ends k 0) (drop (k + 1) ends)) (drop (get_or ends k 0) a) ≡ whole
block-place ends a out whole k s inside rising e =
    let end = get_or ends k 0 in
    let after = sizes_from end (drop (k + 1) ends) in
    let le : s ≤ end = begins-le ends k s inside rising in
    let past : drop (end - s) (drop s a) ≡ drop end a = drop-drop (end - s) s a ∙ ap (λ (n : ℕ). drop n a) (omega (arith, le)) in
    append_assoc out (graded_rank (take (end - s) (drop s a))) (block_rank after (drop end a))
    ∙ ap (λ (r : List ℕ). out ++ (graded_rank (take (end - s) (drop s a)) ++ block_rank after r)) (sym past)
    ∙ ap (λ (r : List ℕ). out ++ block_rank (sizes_from s r) (drop s a)) (sym (drop_more ends k 0 inside)) ∙ e
