-- Outcomes of queries, one after another.
--   AreOutcomes, none, one-more, all    of so many queries
--   met-at                         the query that meets degrees
use Rattle.std.proofs.Common.{◌≡◌, ℕ, ◌+◌, ◌<◌, ◌≤◌, List, [], ◌∷◌, ◌++◌, length, map, take, drop, get_or, sym, ap, ◌∙◌, subst, All, arith, take_all}
use Rattle.std.proofs.lemmas.List.Elements.{All-nil, All-push}
use Rattle.rinv_defs.specs.System.{System}
use Rattle.rinv_defs.specs.Invariant.{Fraction}
use Rattle.rinv_text.specs.Told.{Told}
use Rattle.rinv_script.specs.declared.form.Query.{Query as StoredQuery}
use Rattle.rinv_script.specs.Queries.{Query}
use Rattle.rinv_script.specs.Stored.{query_of}
use Rattle.rinv_queries.specs.declared.outcome.Outcome.{Outcome}
use Rattle.rinv_queries.specs.Cuts.{IsMetAt, QueryMeets}
use Rattle.rinv_queries.specs.Outcomes.{Answers, AreAnswered}
use Rattle.rinv_queries.specs.Written.{IsStoredOutcome}
use Rattle.rinv_queries.proofs.Pages.{all-more, images-more, images-parted, images-number}

module _ (s : System) (cs : List Fraction) where
  -- these are the outcomes of the first so many queries, as they are stored
  pub record AreOutcomes (queries : List StoredQuery) (k : ℕ) (os : List Outcome) : Type 0 where
    pub answered : AreAnswered s cs (map query_of (take k queries)) os
    pub stored : All (IsStoredOutcome s (length cs)) os

  pub none : (queries : List StoredQuery) (os : List Outcome) → os ≡ [] → AreOutcomes queries 0 os
  none queries os is = subst (AreOutcomes queries 0) (sym is) (record { answered = tt; stored = All-nil (IsStoredOutcome s (length cs)) })

  pub one-more : (queries : List StoredQuery) (k : ℕ) (d query : StoredQuery) (old new : List Outcome) (o : Outcome) → k < length queries → query ≡ get_or queries k d
      → Answers s cs (query_of query) o → IsStoredOutcome s (length cs) o → new ≡ old ++ o ∷ [] → AreOutcomes queries k old → AreOutcomes queries (k + 1) new
  one-more queries k d query old new o low is answers stored grown so_far =
      subst (AreOutcomes queries (k + 1)) (sym grown) (record {
        answered = subst (λ (qs : List Query). AreAnswered s cs qs (old ++ o ∷ [])) (sym (images-more query_of queries k d low))
            (all-more (Answers s cs) (map query_of (take k queries)) old (query_of (get_or queries k d)) o so_far.answered (subst (λ (q : StoredQuery). Answers s cs (query_of q) o) is answers));
        stored = All-push (IsStoredOutcome s (length cs)) old o so_far.stored stored;
      })

  pub all : (queries : List StoredQuery) (k : ℕ) (os : List Outcome) → length queries ≤ k → AreOutcomes queries k os → AreAnswered s cs (map query_of queries) os
  all queries k os past h = subst (λ (qs : List StoredQuery). AreAnswered s cs (map query_of qs) os) (take_all k queries past) h.answered

-- the query that meets degrees, among all
pub met-at : (told : Told) (queries : List StoredQuery) (k : ℕ) (d query : StoredQuery) (x y : ℕ) → k < length queries → query ≡ get_or queries k d → QueryMeets told (query_of query) x y
    → IsMetAt told (map query_of queries) (k + 1) x y
met-at told queries k d query x y low is meets =
    let within : k ≤ length queries = omega (arith, low) in
    record {
      before = map query_of (take k queries);
      query = query_of query;
      after = map query_of (drop (k + 1) queries);
      whole = images-parted query_of queries k d low ∙ ap (λ (q : StoredQuery). map query_of (take k queries) ++ query_of q ∷ map query_of (drop (k + 1) queries)) (sym is);
      number = ap (λ (n : ℕ). n + 1) (sym (images-number query_of queries k within));
      meets = meets;
    }
