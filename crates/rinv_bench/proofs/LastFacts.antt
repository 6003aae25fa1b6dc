-- The last expression answers the last query that has one.
--   last-answers
use Rattle.std.proofs.Common.{◌≡◌, ℕ, suc, ◌+◌, List, [], ◌∷◌, length, Bool, false, ◌||◌, refl, ap, ap₂, ◌∙◌, subst, Option, Some, None, arith}
use Rattle.std.specs.Option.{option_or}
use Rattle.std.specs.List.{list_any}
use Rattle.rinv_defs.specs.System.{System}
use Rattle.rinv_defs.specs.Invariant.{Fraction}
use Rattle.rinv_defs.specs.Generators.{Expression}
use Rattle.rinv_script.specs.Queries.{Query}
use Rattle.rinv_queries.specs.declared.outcome.Outcome.{Outcome}
use Rattle.rinv_queries.specs.declared.outcome.Outcome.TheVariants.{LawsHold, GeneratorsShown, Invariant, NotInvariant, Rewritten, NotRewritten, Vanishing}
use Rattle.rinv_queries.specs.Outcomes.{Answers, AreAnswered, IsWritten}
use Rattle.rinv_bench.specs.Summary.{is_rewritten, expression_at, last_expression}
use Rattle.rinv_bench.specs.Last.{IsLast}

-- a number and an expression that are given, and others where none are
abbrev given : ℕ → Expression → Option (ℕ × Expression) → ℕ × Expression
given k e None = (k, e)
given k e (Some x) = x

none-at : (n : ℕ) (o : Outcome) → expression_at n o ≡ None → is_rewritten o ≡ false
none-at n LawsHold e = refl
none-at n GeneratorsShown e = refl
none-at n Invariant e = refl
none-at n (NotInvariant rest) e = refl
none-at n (Rewritten x) e = cc
none-at n (NotRewritten rest) e = refl
none-at n Vanishing e = refl

parted : (a b : Option (ℕ × Expression)) → option_or a b ≡ None → (a ≡ None) × (b ≡ None)
parted None b e = (refl, e)
parted (Some x) b e = cc

none-of : (n : ℕ) (os : List Outcome) → last_expression n os ≡ None → list_any is_rewritten os ≡ false
unfolding last_expression
none-of n [] e = refl
none-of n (o ∷ os) e =
    let parts = parted (last_expression (n + 1) os) (expression_at n o) e in
    ap₂ (λ (a b : Bool). a || b) (none-at n o parts.1) (none-of (n + 1) os parts.0)

module _ (s : System) (cs : List Fraction) where
  -- it is that of the first query, and there is none behind
  first : (n k : ℕ) (x : Expression) (q : Query) (o : Outcome) (qs : List Query) (os : List Outcome) → Answers s cs q o → expression_at n o ≡ Some (k, x) → list_any is_rewritten os ≡ false
      → IsLast s cs n (q ∷ qs) (o ∷ os) k x
  first n k x q o qs os (Answers.it_is_written {f} {e} w) found none =
      let number : n ≡ k = ap (λ (r : Option (ℕ × Expression)). (given n e r).0) found in
      let same : e ≡ x = ap (λ (r : Option (ℕ × Expression)). (given n e r).1) found in
      record {
        before = [];
        fraction = f;
        after = qs;
        whole = refl;
        number = (let z : k ≡ n + 0 = omega (arith, number) in z);
        written = subst (IsWritten s cs f) same w;
        earlier = [];
        later = os;
        answers = ap (λ (z : Expression). Rewritten z ∷ os) same;
        place = refl;
        none_behind = none;
      }
  first n k x q o qs os (Answers.they_hold w) e none = cc
  first n k x q o qs os Answers.they_are_shown e none = cc
  first n k x q o qs os (Answers.it_is_invariant w) e none = cc
  first n k x q o qs os (Answers.it_is_not w) e none = cc
  first n k x q o qs os (Answers.it_is_not_written w) e none = cc
  first n k x q o qs os (Answers.it_vanishes w) e none = cc

  -- it is that of a later query
  later-on : (n k : ℕ) (x : Expression) (q : Query) (o : Outcome) (qs : List Query) (os : List Outcome) → IsLast s cs (n + 1) qs os k x → IsLast s cs n (q ∷ qs) (o ∷ os) k x
  later-on n k x q o qs os l = record {
    before = q ∷ l.before;
    fraction = l.fraction;
    after = l.after;
    whole = ap (λ (t : List Query). q ∷ t) l.whole;
    number = (let number = l.number in let z : k ≡ n + suc (length l.before) = omega (arith, number) in z);
    written = l.written;
    earlier = o ∷ l.earlier;
    later = l.later;
    answers = ap (λ (t : List Outcome). o ∷ t) l.answers;
    place = ap suc l.place;
    none_behind = l.none_behind;
  }

  pub last-answers : (n k : ℕ) (x : Expression) (qs : List Query) (os : List Outcome) → AreAnswered s cs qs os → last_expression n os ≡ Some (k, x) → IsLast s cs n qs os k x
  unfolding last_expression
  last-answers n k x [] [] h e = cc
  last-answers n k x [] (o ∷ os) h e = absurd h
  last-answers n k x (q ∷ qs) [] h e = absurd h
  last-answers n k x (q ∷ qs) (o ∷ os) h e = by (last_expression (n + 1) os) refl (λ is. last-answers (n + 1) k x qs os h.1 is) e
    where
      by : (r : Option (ℕ × Expression)) → last_expression (n + 1) os ≡ r → (last_expression (n + 1) os ≡ Some (k, x) → IsLast s cs (n + 1) qs os k x) → option_or r (expression_at n o) ≡ Some (k, x) → IsLast s cs n (q ∷ qs) (o ∷ os) k x
      by None is rest e = first n k x q o qs os h.0 e (none-of (n + 1) os is)
      by (Some y) is rest e = later-on n k x q o qs os (rest (is ∙ e))
