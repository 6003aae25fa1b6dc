-- A text that is read line by line: what its lines tell, or the first that is refused and why.
use Rattle.std.specs.Prelude.{◌≡◌, ◌⊎◌, ℕ, ◌+◌, List, [], ◌∷◌, ◌++◌, length, Bool, IsTrue, IsFalse, Some, None}
use Rattle.rinv_system.specs.declared.refused.Code.{Code}
use Rattle.rinv_system.specs.declared.refused.Code.TheVariants.{NotText, Missing}
use Rattle.rinv_system.specs.declared.refused.Refused.{Refused}
use Rattle.rinv_system.specs.Lines.{first_bad_line, contents_of}

-- D is what the lines so far told, and LineTaken what they tell with a line more
module _ {D : Type 0} (LineTaken : D → List ℕ → D → Type 0) where
  -- the lines are taken, one after the other
  pub data AreTaken (d : D) : List (List ℕ) → D → Type 0 where
    none : AreTaken d [] d
    one_more : {lines : List (List ℕ)} {last next : D} (line : List ℕ) → AreTaken d lines last → LineTaken last line next → AreTaken d (lines ++ line ∷ []) next

  -- From nothing told, each line is taken, all that are needed have come, and this is what they tell.
  pub record IsText (start : D) (is_whole : D → Bool) (text : List ℕ) (d : D) : Type 0 where
    pub good_bytes : first_bad_line text ≡ None
    pub taken : AreTaken start (contents_of text) d
    pub whole : IsTrue (is_whole d)

-- LineRefused is how a line is refused after those so far
module _ {D : Type 0} (LineRefused : D → List ℕ → Code → Type 0) (LineTaken : D → List ℕ → D → Type 0) where
  -- a line has a bad byte; or the lines before one are taken and it is refused; or all are taken and one is missing
  pub data IsRefusedText (start : D) (is_whole : D → Bool) (text : List ℕ) : Refused → Type 0 where
    bad_byte : {n : ℕ} → first_bad_line text ≡ Some n → IsRefusedText start is_whole text (record { line = n; code = NotText })
    bad_line : {d : D} {code : Code} (before : List (List ℕ)) (line : List ℕ) (after : List (List ℕ)) → first_bad_line text ≡ None → contents_of text ≡ before ++ line ∷ after
        → AreTaken LineTaken start before d → LineRefused d line code → IsRefusedText start is_whole text (record { line = length before + 1; code = code })
    unfinished : {d : D} → first_bad_line text ≡ None → AreTaken LineTaken start (contents_of text) d → IsFalse (is_whole d)
        → IsRefusedText start is_whole text (record { line = length (contents_of text) + 1; code = Missing })

  -- A text tells one thing or has one refusal, and not both.
  pub record HasOneReading (start : D) (is_whole : D → Bool) (text : List ℕ) : Type 0 where
    pub one_told : (a b : D) → IsText LineTaken start is_whole text a → IsText LineTaken start is_whole text b → a ≡ b
    pub one_refusal : (a b : Refused) → IsRefusedText start is_whole text a → IsRefusedText start is_whole text b → a ≡ b
    pub not_both : (a : D) (b : Refused) → IsText LineTaken start is_whole text a → ¬ (IsRefusedText start is_whole text b)
    pub read_or_refused : ((d : D) × IsText LineTaken start is_whole text d) ⊎ ((refused : Refused) × IsRefusedText start is_whole text refused)

  -- After what lines told (of which Good holds), a line is taken in one way at most, or refused for one cause, and not both.
  pub record AreApart (Good : D → Type 0) : Type 0 where
    pub kept : (d next : D) (line : List ℕ) → Good d → LineTaken d line next → Good next
    pub one_next : (d next other : D) (line : List ℕ) → Good d → LineTaken d line next → LineTaken d line other → next ≡ other
    pub one_code : (d : D) (line : List ℕ) (a b : Code) → Good d → LineRefused d line a → LineRefused d line b → a ≡ b
    pub not_both : (d next : D) (line : List ℕ) (code : Code) → Good d → LineTaken d line next → ¬ (LineRefused d line code)

  -- And it is taken or refused.
  abbrev pub AreAnswered : (D → Type 0) → Type 0
  AreAnswered Good = (d : D) (line : List ℕ) → Good d → ((next : D) × LineTaken d line next) ⊎ ((code : Code) × LineRefused d line code)
