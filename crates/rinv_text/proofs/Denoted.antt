-- From the passes of the reader to what tokens denote, or to their refusal.
--   fault-seen         what the reader refuses is what is refused
--   answer-...         the answers of the reader, to the text of a polynomial
use Rattle.std.proofs.Common.{◌≡◌, ℕ, List, [], ◌∷◌, length, map, Bool, true, false, if◌then◌else◌, refl, sym, ap, subst, ◌∙◌, IsTrue, Option, Some, None, Result, Ok, Err, nat_lt}
use Rattle.rinv_algebra.specs.Residue.{is_listed}
use Rattle.rinv_text.specs.declared.token.Placed.{Placed as Seen}
use Rattle.rinv_text.specs.declared.step.Step.{Step}
use Rattle.rinv_text.specs.declared.formal.Formal.{Formal}
use Rattle.rinv_text.specs.declared.size.Size.{Size}
use Rattle.rinv_text.specs.declared.fault.TextFault.{TextFault}
use Rattle.rinv_text.specs.declared.fault.TextStop.{TextStop}
use Rattle.rinv_text.specs.declared.fault.TextStop.TheVariants.{Fault, NoMemory}
use Rattle.rinv_text.specs.Faults.{OnFault}
use Rattle.rinv_text.specs.declared.fault.TextCode.{TextCode}
use Rattle.rinv_text.specs.declared.fault.TextCode.TheVariants.{Expression, Limit, FormalDegree, FormalTerms}
use Rattle.rinv_text.specs.Tokens.{Placed, kinds, tokens}
use Rattle.rinv_text.specs.Grammar.{Tree}
use Rattle.rinv_text.specs.Formal.{of_variable, formal, is_high, is_long}
use Rattle.rinv_text.specs.Reading.{Definition, place_of, formal_at, variable_named, value, divides_by_zero}
use Rattle.rinv_text.specs.Stops.{AreExpression, AreRefused, is_past_limit, first_unknown, start, excess, refusal_by, refusal, Denotes, IsRefused, malformed, refused}
use Rattle.rinv_text.specs.Images.{literal_of, seen, steps_of}
use Rattle.rinv_text.specs.Automaton.{initial, parsed}
use Rattle.rinv_text.specs.Evaluation.{outcome}
use Rattle.rinv_text.specs.Sizes.{sizes}
use Rattle.rinv_text.specs.Sightings.{first_unknown_word, first_place, size_excess, excess_of, fault_by, fault_of, IsRead}
use Rattle.rinv_algebra.specs.Polynomial.{Polynomial}
use Rattle.rinv_text.specs.Values.{IsNormalOver, IsStored}
use Rattle.rinv_text.specs.Meanings.{Meaning, meanings, named_at}
use Rattle.rinv_text.proofs.Malformed.{parsed-ok, parsed-err, stuck-malformed}
use Rattle.rinv_text.proofs.Postfix.{outcome-steps}
use Rattle.rinv_text.proofs.Judged.{sizes-result}
use Rattle.rinv_text.proofs.Words.{derived-names, EachName, names-weaker}
use Rattle.rinv_text.proofs.Seen.{unknown-seen, exceeds-seen}
use Rattle.rinv_text.proofs.Read.{HasPlace, HasMeaning, words-known, meanings-result, variable-named}

-- ---- what a refusal is

unknown-none : (ts : List Placed) (o : Option ℕ) (x : Option TextCode) → refusal_by ts o x ≡ None → o ≡ None
unknown-none ts (Some k) x e = cc
unknown-none ts None x e = refl

excess-none : (ts : List Placed) (o : Option ℕ) (x : Option TextCode) → refusal_by ts o x ≡ None → x ≡ None
excess-none ts (Some k) x e = cc
excess-none ts None (Some c) e = cc
excess-none ts None None e = refl

high-none : (past high long : Bool) → (if past then Some Limit else if high then Some FormalDegree else if long then Some FormalTerms else None) ≡ None → high ≡ false
high-none true high long e = cc
high-none false true long e = cc
high-none false false long e = refl

-- where nothing is refused, the names are known, and the degrees are low
pub accepted-low_by : (of_name : List ℕ → Formal) (known : List (List ℕ)) (ts : List Placed) (t : Tree) → refusal_by ts (first_unknown known ts) (excess of_name false (kinds ts) t) ≡ None → (first_unknown known ts ≡ None) × (is_high of_name t ≡ false)
accepted-low_by of_name known ts t none = (
  unknown-none ts (first_unknown known ts) (excess of_name false (kinds ts) t) none,
  high-none (is_past_limit 0 (kinds ts)) (is_high of_name t) (is_long of_name t) (excess-none ts (first_unknown known ts) (excess of_name false (kinds ts) t) none),
)

long-none : (past high long : Bool) → (if past then Some Limit else if high then Some FormalDegree else if long then Some FormalTerms else None) ≡ None → long ≡ false
long-none true high long e = cc
long-none false true long e = cc
long-none false false true e = cc
long-none false false false e = refl

-- and the terms few
pub accepted-few_by : (of_name : List ℕ → Formal) (known : List (List ℕ)) (ts : List Placed) (t : Tree) → refusal_by ts (first_unknown known ts) (excess of_name false (kinds ts) t) ≡ None → is_long of_name t ≡ false
accepted-few_by of_name known ts t none = long-none (is_past_limit 0 (kinds ts)) (is_high of_name t) (is_long of_name t) (excess-none ts (first_unknown known ts) (excess of_name false (kinds ts) t) none)

pub accepted-low : (names : List (List ℕ)) (ts : List Placed) (t : Tree) → refusal names ts t ≡ None → (first_unknown names ts ≡ None) × (is_high (λ w. of_variable) t ≡ false)
unfolding refusal
accepted-low names ts t none = accepted-low_by (λ w. of_variable) names ts t none

-- ---- what the reader sees

module _ (p : ℕ) (known : List (List ℕ)) where
  pub first-seen : (ts : List Placed) → first_place (map (seen (literal_of p) (place_of known)) ts) ≡ start ts
  first-seen [] = refl
  first-seen (t ∷ ts) = refl

  fault-by : (ts : List Placed) (o : Option ℕ) (x : Option TextCode) → fault_by (map (seen (literal_of p) (place_of known)) ts) o x ≡ refusal_by ts o x
  fault-by ts (Some k) x = refl
  fault-by ts None (Some c) = ap (λ k. Some (record { place = k; code = c })) (first-seen ts)
  fault-by ts None None = refl

  -- what the reader refuses is what is refused
  pub fault-seen : (of_name : List ℕ → Formal) (named : ℕ → Formal) → ((w : List ℕ) → named (place_of known w) ≡ of_name w) → (ts : List Placed) (t : Tree)
      → fault_of (length known) (map (seen (literal_of p) (place_of known)) ts) (outcome (sizes named) (steps_of (literal_of p) (place_of known) t)) ≡ refusal_by ts (first_unknown known ts) (excess of_name false (kinds ts) t)
  fault-seen of_name named agree ts t =
      fault-by ts (first_unknown_word (length known) seen_ts) (excess_of seen_ts size)
      ∙ ap (λ (o : Option ℕ). refusal_by ts o (excess_of seen_ts size)) (unknown-seen p known ts)
      ∙ ap (λ (x : Option TextCode). refusal_by ts (first_unknown known ts) x) same
    where
      seen_ts : List Seen
      seen_ts = map (seen (literal_of p) (place_of known)) ts

      size : Option Size
      size = outcome (sizes named) (steps_of (literal_of p) (place_of known) t)

      same : excess_of (map (seen (literal_of p) (place_of known)) ts) (outcome (sizes named) (steps_of (literal_of p) (place_of known) t)) ≡ excess of_name false (kinds ts) t
      same =
          ap (λ (b : Bool). if b then Some Limit else size_excess (outcome (sizes named) (steps_of (literal_of p) (place_of known) t))) (exceeds-seen p (place_of known) 0 ts)
          ∙ ap (λ (o : Option Size). if is_past_limit 0 (kinds ts) then Some Limit else size_excess o) (outcome-steps (sizes named) (literal_of p) (place_of known) t ∙ sizes-result of_name p named (place_of known) agree t)

  -- ---- what is read

  module _ (ps : List Placed) (end : ℕ) (ts : List Seen) (are : ts ≡ map (seen (literal_of p) (place_of known)) ps) where
    read-as : (r : Result (List Step) ℕ) → parsed end initial ts ≡ r → parsed end initial (map (seen (literal_of p) (place_of known)) ps) ≡ r
    read-as r e = sym (ap (λ l. parsed end initial l) are) ∙ e

    -- tokens that are no expression
    pub tokens-malformed : (refused_at : Tree → Option TextFault) (fault : TextFault) → parsed end initial ts ≡ Err fault.place → fault.code ≡ Expression → AreRefused refused_at ps end fault
    tokens-malformed refused_at fault e code =
        subst (λ (c : TextCode). AreRefused refused_at ps end (record { place = fault.place; code = c })) (sym code)
        (malformed (stuck-malformed ps end fault.place (parsed-err (literal_of p) (place_of known) end ps fault.place (read-as (Err fault.place) e))))

    -- the expression that they are
    pub record Parsed (ss : List Step) : Type 0 where
      pub tree : Tree
      pub derived : AreExpression ps tree
      pub steps : ss ≡ steps_of (literal_of p) (place_of known) tree

    pub tokens-parsed : (ss : List Step) → parsed end initial ts ≡ Ok ss → Parsed ss
    tokens-parsed ss ok = let (t, d, s) = parsed-ok (literal_of p) (place_of known) end ps ss (read-as (Ok ss) ok) in record { tree = t; derived = d; steps = s }

    -- its refusal
    pub faults-as : (of_name : List ℕ → Formal) (named : ℕ → Formal) → ((w : List ℕ) → named (place_of known w) ≡ of_name w) → (ss : List Step) (t : Tree) → ss ≡ steps_of (literal_of p) (place_of known) t
        → fault_of (length known) ts (outcome (sizes named) ss) ≡ refusal_by ps (first_unknown known ps) (excess of_name false (kinds ps) t)
    faults-as of_name named agree ss t e =
        ap (λ (l : List Seen). fault_of (length known) l (outcome (sizes named) ss)) are
        ∙ ap (λ (l : List Step). fault_of (length known) (map (seen (literal_of p) (place_of known)) ps) (outcome (sizes named) l)) e
        ∙ fault-seen of_name named agree ps t

-- a fault that has a property that follows
pub fault-weaker : (P Q : TextFault → Type 0) → ((f : TextFault) → P f → Q f) → (e : TextStop) → OnFault P e → OnFault Q e
fault-weaker P Q h (Fault f) m = h f m
fault-weaker P Q h NoMemory m = m

-- ---- the text of a polynomial

-- without abbreviations, each name is a variable
all-variables : (count k : ℕ) → formal_at count [] k ≡ of_variable
all-variables count k = at (nat_lt k count)
  where
    at : (b : Bool) → (if b then of_variable else of_variable) ≡ of_variable
    at true = refl
    at false = refl

module _ (p : ℕ) (names : List (List ℕ)) (text : List ℕ) (ts : List Seen) (ss : List Step) (read : IsRead p names (tokens text) (length text) ts ss) (count : ℕ) (all : count ≡ length names) (defs : List Definition) (none : defs ≡ [])
    (size : Option Size) (sized : size ≡ outcome (sizes (formal_at count defs)) ss) (o : Option TextFault) (found : o ≡ fault_of count ts size) where
  whole : Parsed p names (tokens text) (length text) ts read.are ss
  whole = tokens-parsed p names (tokens text) (length text) ts read.are ss read.steps

  fault-found : o ≡ refusal names (tokens text) whole.tree
  unfolding refusal
  fault-found =
      found
      ∙ ap (λ (s : Option Size). fault_of count ts s) (sized ∙ ap (λ (l : List Definition). outcome (sizes (formal_at count l)) ss) none)
      ∙ ap (λ (n : ℕ). fault_of n ts (outcome (sizes (formal_at count [])) ss)) all
      ∙ faults-as p names (tokens text) (length text) ts read.are (λ w. of_variable) (formal_at count []) (λ w. all-variables count (place_of names w)) ss whole.tree whole.steps

  pub answer-refused : (fault : TextFault) → o ≡ Some fault → IsRefused names text fault
  answer-refused fault e = refused whole.tree whole.derived (sym fault-found ∙ e)

  module _ (listed : IsTrue (is_listed p)) (accepted : o ≡ None) (q n : ℕ) (field : q ≡ p) (vars : n ≡ count) where
    low : (first_unknown names (tokens text) ≡ None) × (is_high (λ w. of_variable) whole.tree ≡ false)
    low = accepted-low names (tokens text) whole.tree (sym fault-found ∙ accepted)

    -- the meaning of the steps
    meant : Meaning
    meant = record { numbers = formal (λ w. of_variable) whole.tree; value = value p (variable_named p names) whole.tree; by_zero = divides_by_zero p (variable_named p names) whole.tree }

    have : EachName (HasMeaning p listed (named_at p (length names) defs) (place_of names) (λ w. of_variable) (variable_named p names)) whole.tree
    have = names-weaker (HasPlace names) _ (λ w h. variable-named p names defs w h) whole.tree (derived-names (HasPlace names) whole.derived (words-known names (tokens text) low.0))

    means : outcome (meanings q (named_at q n defs)) ss ≡ Some meant
    unfolding meant
    means =
        ap (λ (m : ℕ). outcome (meanings m (named_at m n defs)) ss) field
        ∙ ap (λ (m : ℕ). outcome (meanings p (named_at p m defs)) ss) (vars ∙ all)
        ∙ ap (λ (l : List Step). outcome (meanings p (named_at p (length names) defs)) l) whole.steps
        ∙ outcome-steps (meanings p (named_at p (length names) defs)) (literal_of p) (place_of names) whole.tree
        ∙ meanings-result p listed (named_at p (length names) defs) (place_of names) (λ w. of_variable) (variable_named p names) whole.tree low.1 have

    pub answer-meaning : (g : Meaning) × (outcome (meanings q (named_at q n defs)) ss ≡ Some g)
    answer-meaning = (meant, means)

    module _ (r : Polynomial ℕ) (each : (g : Meaning) → outcome (meanings q (named_at q n defs)) ss ≡ Some g → IsStored q n g.numbers.num_degree g.value.0 r) where
      stored : IsStored p (length names) meant.numbers.num_degree meant.value.0 r
      stored =
          subst (λ (m : ℕ). IsStored p m meant.numbers.num_degree meant.value.0 r) (vars ∙ all)
          (subst (λ (m : ℕ). IsStored m n meant.numbers.num_degree meant.value.0 r) field (each meant means))

      -- the polynomial is in normal form
      pub answer-normal : IsNormalOver p (length names) r
      answer-normal = stored.normal

      -- the text denotes it
      pub answer-denotes : Denotes p names text r
      unfolding meant
      answer-denotes = record { tree = whole.tree; derived = whole.derived; accepted = sym fault-found ∙ accepted; same = stored.value }
