-- What was written of queries so far.
--   AreVariables       the names of the group's and the space's variables, and symbols for so many generators
--   IsStoredOutcome    the polynomials of an outcome are as they are stored, in so many symbols
--   IsTurn             one query more was answered
--   IsPage             so many were, behind what stood there before
use Rattle.std.specs.Prelude.{◌≡◌, ℕ, ◌+◌, List, [], ◌∷◌, ◌++◌, Bool, ◌||◌, ⊤}
use Rattle.std.specs.List.{list_any}
use Rattle.rinv_defs.specs.System.{System}
use Rattle.rinv_defs.specs.Invariant.{Fraction}
use Rattle.rinv_frac.specs.Fractions.{IsPart, IsStored}
use Rattle.rinv_text.specs.Names.{symbols}
use Rattle.rinv_change.specs.Changes.{change_count}
use Rattle.rinv_script.specs.Queries.{Query, needs_generators, need_generators}
use Rattle.rinv_queries.specs.declared.outcome.Outcome.{Outcome}
use Rattle.rinv_queries.specs.declared.outcome.Outcome.TheVariants.{LawsHold, GeneratorsShown, Invariant, NotInvariant, Rewritten, NotRewritten, Vanishing}
use Rattle.rinv_queries.specs.declared.lines.Variables.{Variables}
use Rattle.rinv_queries.specs.declared.answering.Page.{Page}
use Rattle.rinv_queries.specs.Outcomes.{Answers, AreAnswered, denies}
use Rattle.rinv_queries.specs.Lines.{query_text, query_lines}
use Rattle.rinv_queries.specs.declared.known.Known.{Known}
use Rattle.rinv_queries.specs.Known.{fractions_of}

pub record AreVariables (s : System) (count : ℕ) (v : Variables) : Type 0 where
  pub changes : v.changes ≡ s.group ++ s.space
  pub symbols : v.symbols ≡ symbols count

abbrev pub IsStoredOutcome : System → ℕ → Outcome → Type 0
IsStoredOutcome s count LawsHold = ⊤
IsStoredOutcome s count GeneratorsShown = ⊤
IsStoredOutcome s count Invariant = ⊤
IsStoredOutcome s count (NotInvariant rest) = IsPart s.p (change_count s) rest
IsStoredOutcome s count (Rewritten e) = IsStored s.p count e
IsStoredOutcome s count (NotRewritten rest) = IsPart s.p (change_count s) rest
IsStoredOutcome s count Vanishing = ⊤

module _ (s : System) (cs : List Fraction) where
  -- the query with this number is answered, and its lines stand behind those before
  pub record IsTurn (number : ℕ) (q : Query) (old new : Page) : Type 0 where
    pub outcome : Outcome
    pub answered : Answers s cs q outcome
    pub text : new.text.items ≡ old.text.items ++ query_text s cs old.shown number q outcome
    pub shown : new.shown ≡ (old.shown || needs_generators q)
    pub denied : new.denied ≡ (old.denied || denies outcome)

  -- the queries are answered, and their lines stand behind the old text
  pub record IsPage (shown : Bool) (old : List ℕ) (qs : List Query) (page : Page) : Type 0 where
    pub outcomes : List Outcome
    pub answered : AreAnswered s cs qs outcomes
    pub text : page.text.items ≡ old ++ query_lines s cs shown 1 qs outcomes
    pub is_shown : page.shown ≡ (shown || need_generators qs)
    pub denied : page.denied ≡ list_any denies outcomes

-- the queries are answered with what is known, and their lines stand behind the page
abbrev pub IsPageAfter : System → Known → Page → List Query → Page → Type 0
IsPageAfter s known page qs new = IsPage s (fractions_of known) page.shown page.text.items qs new
