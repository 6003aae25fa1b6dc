-- A third element of a pair that was taken, by the queue and by the journal.
use Rattle.std.proofs.Common.{◌≡◌, ℕ, ◌<◌, min, max, Bool, false, ◌||◌, ◌&&◌, ◌==◌, List, [], ◌∷◌, ◌++◌, map, length, get_or, sym, ◌∙◌, ap, ap₂, arith, IsTrue}
use Rattle.std.proofs.lemmas.Bool.Decides.{nat_tests}
use Rattle.std.proofs.lemmas.List.{get_or-map, length-map}
use Rattle.std.proofs.lemmas.List.Folds.{list_any-append}
use Rattle.std.specs.declared.cmp.Ordering.{Ordering}
use Rattle.rinv_algebra.specs.Ring.{RingOps}
use Rattle.rinv_algebra.specs.Monomial.{divides, lcm}
use Rattle.rinv_algebra.specs.Polynomial.{Polynomial}
use Rattle.rinv_algebra.specs.Leading.{leading_monomial}
use Rattle.rinv_groebner.specs.Settled.{is_listed, lead_at, lcm_at, HasChain}
use Rattle.rinv_groebner.specs.Journal.{Entry, pairs_of}
use Rattle.rinv_groebner.specs.Sparing.{HasNoChain}
use Rattle.rinv_pairs.specs.Pairs.{Pairs, HasThird, is_taken}
use Rattle.rinv_div.specs.declared.stop.DivStop.{DivStop}
use Rattle.rinv_div.specs.declared.stop.DivStop.TheVariants.{Steps as StepsStop, Degree as DegreeStop, NoMemory as MemoryStop}
use Rattle.rinv_div.specs.Stops.{StopsBy}
use Rattle.rinv_buch.specs.declared.settling.Outcome.{Outcome}
use Rattle.rinv_buch.specs.declared.settling.Outcome.TheVariants.{Coprime, Chain, Reduced}
use Rattle.rinv_buch.specs.Runs.{AreTaken, SettlesBy, SettlesByThird}

min-max : (ps : List (ℕ × ℕ)) (a b : ℕ) → is_listed ps a b ≡ is_listed ps b a
min-max ps a b = ap₂ (λ (x y : ℕ). is_listed-of x y ps) (omega arith) (omega arith)
  where
    is_listed-of : ℕ → ℕ → List (ℕ × ℕ) → Bool
    is_listed-of x y [] = false
    is_listed-of x y (p ∷ ps) = (p.0 == x && p.1 == y) || is_listed-of x y ps

-- a place with which a pair may be: not the same place
apart : {O : Type 0} (q : Pairs O) (a b : ℕ) → IsTrue (is_taken q a b) → a ≡ b → ⊥
apart q a b h e = grind (arith, nat_tests, h, e)

-- a pair more at the end
pub listed-one : (ps : List (ℕ × ℕ)) (i j a b : ℕ) → is_listed (ps ++ (i, j) ∷ []) a b ≡ (is_listed ps a b || (i == min a b && j == max a b))
listed-one ps i j a b = let more = list_any-append (λ (p : ℕ × ℕ). p.0 == min a b && p.1 == max a b) ps ((i, j) ∷ []) in grind (arith, nat_tests, more)

earlier-first : (i j by : ℕ) (old now : Bool) → now ≡ (old || (i == min i by && j == max i by)) → IsTrue now → (j ≡ by → ⊥) → i < j → IsTrue old
earlier-first i j by old now e h off low = grind (arith, nat_tests, e, h, off, low)

earlier-second : (i j by : ℕ) (old now : Bool) → now ≡ (old || (i == min j by && j == max j by)) → IsTrue now → (i ≡ by → ⊥) → i < j → IsTrue old
earlier-second i j by old now e h off low = grind (arith, nat_tests, e, h, off, low)

more-listed : (old now t : Bool) → now ≡ (old || t) → IsTrue old → IsTrue now
more-listed old now t e h = grind (arith, nat_tests, e, h)

module _ {E O : Type 0} (o : RingOps E) (cmp : List ℕ → List ℕ → Ordering) (list : List (Polynomial E)) (journal : List Entry) (q : Pairs O) (i j : ℕ) (low : i < j) (high : j < length list) (leads : q.leads ≡ map (leading_monomial o cmp) list) (taken : AreTaken (pairs_of journal ++ (i, j) ∷ []) q) where
  lead : (k : ℕ) → k < length list → get_or q.leads k [] ≡ lead_at o cmp list k
  lead k inside = ap (λ (ms : List (List ℕ)). get_or ms k []) leads ∙ get_or-map (leading_monomial o cmp) list k [] [] inside

  number : length q.leads ≡ length list
  number = ap length leads ∙ length-map list (leading_monomial o cmp)

  same : (by : ℕ) → by < length list → divides (get_or q.leads by []) (lcm (get_or q.leads i []) (get_or q.leads j [])) ≡ divides (lead_at o cmp list by) (lcm_at o cmp list i j)
  same by inside = ap₂ divides (lead by inside) (ap₂ lcm (lead i (omega (arith, low, high))) (lead j high))

  pub chain-third : (by : ℕ) → HasThird q i j by → HasChain o cmp list (pairs_of journal) i j by
  chain-third by t =
      let inside : by < length list = omega (arith, t.inside, number) in
      let first : IsTrue (is_listed (pairs_of journal) i by) = earlier-first i j by _ _ (taken.taken i by ∙ listed-one (pairs_of journal) i j i by) t.with_first (apart q j by t.with_second) low in
      let second : IsTrue (is_listed (pairs_of journal) j by) = earlier-second i j by _ _ (taken.taken j by ∙ listed-one (pairs_of journal) i j j by) t.with_second (apart q i by t.with_first) low in
      record { inside = inside; divides = sym (same by inside) ∙ t.divides; with_first = first; with_second = min-max (pairs_of journal) by j ∙ second }

  pub third-chain : (by : ℕ) → HasChain o cmp list (pairs_of journal) i j by → HasThird q i j by
  third-chain by c = record {
    inside = omega (arith, c.inside, number);
    divides = same by c.inside ∙ c.divides;
    with_first = more-listed _ _ _ (taken.taken i by ∙ listed-one (pairs_of journal) i j i by) c.with_first;
    with_second = more-listed _ _ _ (taken.taken j by ∙ listed-one (pairs_of journal) i j j by) (min-max (pairs_of journal) j by ∙ c.with_second);
  }

  pub by-third : {R : Type 0} (outcome : Outcome R E) → SettlesBy q i j outcome → SettlesByThird o cmp journal list i j outcome
  by-third Coprime s = s
  by-third (Chain by) s = chain-third by s
  by-third (Reduced rest steps) s = λ by c. s by (third-chain by c)

  -- a stop, unless it is for want of memory, is of a pair that no third element settles
  pub stops-third : {R : Type 0} (stop : DivStop R E) → StopsBy (λ _. (by : ℕ) → HasThird q i j by → ⊥) (λ _ _ _. (by : ℕ) → HasThird q i j by → ⊥) stop → StopsBy (λ _. HasNoChain o cmp journal list i j) (λ _ _ _. HasNoChain o cmp journal list i j) stop
  stops-third (StepsStop left) s = λ by c. s by (third-chain by c)
  stops-third (DegreeStop x y left) s = λ by c. s by (third-chain by c)
  stops-third MemoryStop s = s
