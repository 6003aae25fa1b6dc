-- Where the leading monomials of a certificate's basis are covered by its relations: a monomial without the group's variables that a
-- leading monomial divides is divided, in Z, by the lead of a relation.
--   divides_take, divides_drop, divides_trans, sum-divides    parts and sums of exponent lists that divide
--   any_implies, all_of-filter    tests of lists
--   free_of_group        an element whose leading monomial divides such a monomial has none of the group's variables
--   leads_cover          the fact
use Rattle.std.proofs.Common.{◌≡◌, ℕ, zero, suc, ◌<◌, ◌≤◌, Bool, true, false, cond, List, [], ◌∷◌, length, map, take, drop, get_or, None, refl, sym, ◌∙◌, ap, arith, true≢false}
use Rattle.std.specs.Prelude.{IsFalse, ◌==◌, ◌||◌, not, nat_le, filter, sum}
use Rattle.std.specs.List.{list_all, list_any, AllByRecursion}
use Rattle.std.specs.Ordering.{is_ge, nat_cmp, ordering_then}
use Rattle.std.specs.declared.cmp.Ordering.{Ordering}
use Rattle.std.proofs.lemmas.Bool.{eqb-true}
use Rattle.std.proofs.lemmas.List.Sums.{sum_by-cons}
use Rattle.std.proofs.Math.Seq.{take-nil, drop-nil}
use Rattle.std.proofs.lemmas.Bool.Decides.{nat_tests}
use Rattle.rinv_algebra.specs.Residue.{residue_ops}
use Rattle.rinv_algebra.specs.Monomial.{divides, total_degree}
use Rattle.rinv_algebra.specs.Order.{block_order, last_cmp}
use Rattle.rinv_algebra.specs.Polynomial.{is_zero, has_monomial}
use Rattle.rinv_algebra.proofs.Same.{both, and_true}
use Rattle.rinv_algebra.proofs.ResidueLaws.{residue_laws}
use Rattle.rinv_algebra.proofs.BlockOrder.{block_order_laws}
use Rattle.rinv_groebner.specs.Division.{is_reducible}
use Rattle.rinv_groebner.proofs.LeadingMonomials.{leading_monomial-leads}
use Rattle.rinv_groebner.proofs.MonomialLists.{divides_at, divides_from}
use Rattle.rinv_groebner.proofs.Reducible.{first_divisor, divides-parts}
use Rattle.rinv_defs.specs.System.{Poly, group_count, space_count}
use Rattle.rinv_defs.specs.Certificate.{Certificate}
use Rattle.rinv_defs.specs.Conditions.{elements}
use Rattle.rinv_defs.specs.PairConditions.{action_order, leading}
use Rattle.rinv_defs.specs.RelationConditions.{is_free_of_group, z_part, is_covered, leads_failure}
use Rattle.rinv_defs.proofs.Tests.{none_fails}

-- the first exponents of a divisor divide the first exponents
pub divides_take : (k : ℕ) (a b : List ℕ) → divides a b ≡ true → divides (take k a) (take k b) ≡ true
unfolding divides
divides_take zero a b h = refl
divides_take (suc k) [] b h = refl
divides_take (suc k) (x ∷ a) [] h = let t = both (x == 0) (divides a []) h in rw t.0 (ap (divides (take k a)) (sym (take-nil k)) ∙ divides_take k a [] t.1)
divides_take (suc k) (x ∷ a) (y ∷ b) h = let t = both (nat_le x y) (divides a b) h in rw t.0 (divides_take k a b t.1)

-- and so do the later ones
pub divides_drop : (k : ℕ) (a b : List ℕ) → divides a b ≡ true → divides (drop k a) (drop k b) ≡ true
unfolding divides
divides_drop zero a b h = h
divides_drop (suc k) [] b h = refl
divides_drop (suc k) (x ∷ a) [] h = ap (divides (drop k a)) (sym (drop-nil k)) ∙ divides_drop k a [] (both (x == 0) (divides a []) h).1
divides_drop (suc k) (x ∷ a) (y ∷ b) h = divides_drop k a b (both (nat_le x y) (divides a b) h).1

-- a divisor of a divisor divides
pub divides_trans : (a b c : List ℕ) → divides a b ≡ true → divides b c ≡ true → divides a c ≡ true
divides_trans a b c h k = divides_from a c (λ i. let x = divides_at a b h i in let y = divides_at b c k i in omega (arith, x, y))

-- a divisor has no greater sum
pub sum-divides : (a b : List ℕ) → divides a b ≡ true → sum a ≤ sum b
unfolding divides
sum-divides [] b h = omega arith
sum-divides (x ∷ a) [] h = let t = both (x == 0) (divides a []) h in let i = sum-divides a [] t.1 in let z : x ≡ 0 = eqb-true _ _ t.0 in omega (arith, i, z, sum_by-cons (λ (n : ℕ). n) x a)
sum-divides (x ∷ a) (y ∷ b) h = let t = both (nat_le x y) (divides a b) h in let i = sum-divides a b t.1 in let z : x ≤ y = grind (arith, nat_tests, t) in omega (arith, i, z, sum_by-cons (λ (n : ℕ). n) x a, sum_by-cons (λ (n : ℕ). n) y b)

-- where one test gives another, it does so for some element
pub any_implies : {X : Type 0} (p q : X → Bool) → ((x : X) → p x ≡ true → q x ≡ true) → (xs : List X) → list_any p xs ≡ true → list_any q xs ≡ true
any_implies p q h [] e = e
any_implies p q h (x ∷ xs) e = go (p x) (q x) (h x) (any_implies p q h xs) e
  where
    go : (a b : Bool) → (a ≡ true → b ≡ true) → (list_any p xs ≡ true → list_any q xs ≡ true) → (a || list_any p xs) ≡ true → (b || list_any q xs) ≡ true
    go true b here later e = ap (λ (b : Bool). b || list_any q xs) (here refl)
    go false true here later e = refl
    go false false here later e = later e

-- a test that holds of all that pass a filter
pub all_of-filter : {X : Type 0} (p q : X → Bool) → ((x : X) → p x ≡ true → q x ≡ true) → (xs : List X) → list_all q (filter p xs) ≡ true
all_of-filter p q h [] = refl
all_of-filter p q h (x ∷ xs) = go (p x) refl (all_of-filter p q h xs)
  where
    go : (b : Bool) → p x ≡ b → list_all q (filter p xs) ≡ true → list_all q (cond b (x ∷ filter p xs) (filter p xs)) ≡ true
    go true e rest = and_true (q x) _ (h x e) rest
    go false e rest = rest

module _ (c : Certificate) (shown : leads_failure c ≡ None) where
  all_covered : AllByRecursion (λ h. is_covered c h ≡ true) (elements c)
  unfolding leads_failure
  all_covered = none_fails (is_covered c) 1 (elements c) shown

  covered_at : (p : ℕ) → p < length (elements c) → is_covered c (get_or (elements c) p []) ≡ true
  covered_at = at_place (elements c) all_covered
    where
      at_place : (hs : List Poly) → AllByRecursion (λ h. is_covered c h ≡ true) hs → (p : ℕ) → p < length hs → is_covered c (get_or hs p []) ≡ true
      at_place [] h p inside = absurd (omega arith)
      at_place (f ∷ hs) h zero inside = h.0
      at_place (f ∷ hs) h (suc p) inside = at_place hs h.1 p (omega arith)

  -- what the order says of the sums of the first block
  first_block : (x y : ℕ) (o p : Ordering) → x ≡ 0 → is_ge (ordering_then (ordering_then (nat_cmp x y) o) p) ≡ true → y ≡ 0
  first_block x y o p e h = grind (arith, nat_tests)

  -- an element whose leading monomial divides a monomial without the group's variables has none of them
  free_of_group : (h : Poly) (m : List ℕ) → IsFalse (is_zero (residue_ops c.system.p) h) → divides (leading c.system h) m ≡ true → total_degree (take (group_count c.system) m) ≡ 0 → is_free_of_group c.system h ≡ true
  unfolding block_order
  free_of_group h m n d z = all_of-filter (has_monomial (residue_ops c.system.p) h) (λ m. total_degree (take (group_count c.system) m) == 0) free (map (λ t. t.0) h)
    where
      lead_free : total_degree (take (group_count c.system) (leading c.system h)) ≡ 0
      lead_free = let low = sum-divides (take (group_count c.system) (leading c.system h)) (take (group_count c.system) m) (divides_take (group_count c.system) _ _ d) in omega (arith, low, z)

      free : (e : List ℕ) → has_monomial (residue_ops c.system.p) h e ≡ true → (total_degree (take (group_count c.system) e) == 0) ≡ true
      free e has = true_from (total_degree (take (group_count c.system) e)) (first_block (total_degree (take (group_count c.system) (leading c.system h))) (total_degree (take (group_count c.system) e)) (last_cmp (take (group_count c.system) (leading c.system h)) (take (group_count c.system) e)) (block_order (space_count c.system ∷ space_count c.system ∷ []) (drop (group_count c.system) (leading c.system h)) (drop (group_count c.system) e)) lead_free ((leading_monomial-leads (residue_ops c.system.p) (residue_laws c.system.p) (action_order c.system) (block_order_laws (group_count c.system ∷ space_count c.system ∷ space_count c.system ∷ [])) h n).greatest e has))
        where
          true_from : (x : ℕ) → x ≡ 0 → (x == 0) ≡ true
          true_from x e = grind (arith, nat_tests)

  -- a monomial without the group's variables that a leading monomial divides is divided by the lead of a relation
  pub leads_cover : (m : List ℕ) → is_reducible (residue_ops c.system.p) (action_order c.system) (elements c) m ≡ true → total_degree (take (group_count c.system) m) ≡ 0 → list_any (λ r. divides r.a (z_part c.system m)) c.relations ≡ true
  unfolding is_covered
  leads_cover m r z =
      let (p, inside, d, before) = first_divisor (residue_ops c.system.p) (action_order c.system) (elements c) m r in
      let parts = divides-parts (residue_ops c.system.p) (action_order c.system) (get_or (elements c) p []) m d in
      at_element (get_or (elements c) p []) parts.0 parts.1 (covered_at p inside)
    where
      at_element : (h : Poly) → IsFalse (is_zero (residue_ops c.system.p) h) → divides (leading c.system h) m ≡ true → is_covered c h ≡ true → list_any (λ r. divides r.a (z_part c.system m)) c.relations ≡ true
      at_element h n d covered = any_implies (λ r. divides r.a (z_part c.system (leading c.system h))) (λ r. divides r.a (z_part c.system m))
          (λ r e. divides_trans r.a (z_part c.system (leading c.system h)) (z_part c.system m) e (divides_take (space_count c.system) _ _ (divides_drop (group_count c.system) _ _ d))) c.relations
          (second (is_free_of_group c.system h) (list_any (λ r. divides r.a (z_part c.system (leading c.system h))) c.relations) (free_of_group h m n d z) covered)
        where
          second : (a b : Bool) → a ≡ true → (not a || b) ≡ true → b ≡ true
          second true b e h = h
          second false b e h = absurd (true≢false (sym e))
