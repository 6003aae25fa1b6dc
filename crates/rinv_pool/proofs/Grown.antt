-- A pool whose free slots are more.
use Rattle.std.proofs.Common.{◌≡◌, ◌≢◌, ℕ, suc, ◌+◌, ◌<◌, ◌≤◌, ◌^◌, List, [], ◌∷◌, ◌++◌, length, get_or, Option, None, refl, sym, ◌∙◌, subst, arith}
use Rattle.std.specs.Bool.{⊤}
use Rattle.std.proofs.lemmas.List.{length_push}
use Rattle.rinv_pool.specs.declared.slots.Slot.{Slot}
use Rattle.rinv_pool.specs.declared.slots.Chain.{Chain}
use Rattle.rinv_pool.specs.Slots.{next_at, term_at}
use Rattle.rinv_pool.specs.Chains.{Holds, IsChain, empties}
use Rattle.rinv_pool.specs.Growing.{IsGrown}
use Rattle.rinv_pool.proofs.Places.{next-push, term-push, next-last, term-last}
use Rattle.rinv_pool.proofs.Chains.{Stays, chain-stays, chain-front}
use Rattle.rinv_pool.proofs.Rows.{row-stays, updated, updated-same, updated-other}

module _ {T : Type 0} where
  -- a slot is added in front of the free ones
  holds-grown : (slots : List (Slot T)) (slot : Slot T) (free spare spare' live : ℕ) (runs : List (Option Chain)) (rows : List (Option (List T)))
      → slot.term ≡ None → slot.next ≡ free → length slots + 1 < 2 ^ 32 → spare' ≡ suc spare
      → Holds (next_at slots) (term_at slots) (length slots) free spare live runs rows
      → Holds (next_at (slots ++ slot ∷ [])) (term_at (slots ++ slot ∷ [])) (length (slots ++ slot ∷ [])) (length slots) spare' live runs rows
  holds-grown slots slot free spare spare' live runs rows empty behind few more h =
      let p = length slots in
      let all = slots ++ slot ∷ [] in
      let longer : length all ≡ p + 1 = length_push slots slot in
      let owner' : ℕ → ℕ = updated h.owner p 0 in
      let rank' : ℕ → ℕ = updated h.rank p (length (empties {T = T} spare)) in
      let wider : (q : ℕ) → q < p → q < length all = λ q i. omega (arith, i, longer) in
      let stays : (q : ℕ) → q < p → Stays p (next_at slots) (next_at all) (term_at slots) (term_at all) h.owner owner' h.rank rank' q =
      λ q i. (
        next-push slots slot q i,
        term-push slots slot q i,
        updated-other h.owner p 0 q (λ e. absurd (omega (arith, i, e))),
        updated-other h.rank p (length (empties {T = T} spare)) q (λ e. absurd (omega (arith, i, e))),
      ) in
      let spares : IsChain (next_at all) (term_at all) (length all) owner' rank' (λ _. ⊤) 0 free (empties spare) =
      chain-stays p (next_at slots) (next_at all) (term_at slots) (term_at all) h.owner owner' h.rank rank' (length all) (λ _. ⊤) 0 free (empties spare) wider
      (λ q i o l. stays q i) h.spares in
      record {
        owner = owner';
        rank = rank';
        spares = subst (λ (n : ℕ). IsChain (next_at all) (term_at all) (length all) owner' rank' (λ _. ⊤) 0 p (empties n)) (sym more)
            (chain-front (next_at all) (term_at all) (length all) owner' rank' 0 p None (empties spare) (omega (arith, longer)) (updated-same h.owner p 0)
            (updated-same h.rank p (length (empties {T = T} spare))) (term-last slots slot ∙ empty)
            (subst (λ (n : ℕ). IsChain (next_at all) (term_at all) (length all) owner' rank' (λ _. ⊤) 0 n (empties spare)) (sym (next-last slots slot ∙ behind)) spares));
        chains = λ k. row-stays p (length all) (next_at slots) (next_at all) (term_at slots) (term_at all) h.owner owner' h.rank rank' k (get_or runs k None) (get_or rows k None) wider
            (λ q i o. stays q i) (h.chains k);
        numbers = h.numbers;
        sum = h.sum;
        whole = let w : live + spare ≡ p = h.whole in omega (arith, w, more, longer);
        few = omega (arith, few, longer);
      }

  -- with no slot added yet
  pub grown-none : (slots : List (Slot T)) (free : ℕ) → IsGrown slots free slots free 0
  grown-none slots free = λ spare live runs rows h.
      let e : spare ≡ spare + 0 = omega arith in
      subst (λ (n : ℕ). Holds (next_at slots) (term_at slots) (length slots) free n live runs rows) e h

  -- with one more
  pub grown-more : (before slots : List (Slot T)) (slot : Slot T) (old_free free more : ℕ) → slot.term ≡ None → slot.next ≡ free → length slots + 1 < 2 ^ 32
      → IsGrown before old_free slots free more → IsGrown before old_free (slots ++ slot ∷ []) (length slots) (more + 1)
  grown-more before slots slot old_free free more empty behind few grown = λ spare live runs rows h.
      holds-grown slots slot free (spare + more) (spare + (more + 1)) live runs rows empty behind few (omega arith) (grown spare live runs rows h)

  -- a pool with no slots and no runs
  pub holds-none : {next : ℕ → ℕ} {term : ℕ → Option T} → Holds next term 0 0 0 0 [] []
  holds-none = record {
    owner = λ q. 0;
    rank = λ q. 0;
    spares = tt;
    chains = λ k. tt;
    numbers = refl;
    sum = refl;
    whole = omega arith;
    few = omega arith;
  }
