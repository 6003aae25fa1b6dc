-- Lines make one draft at most, and are refused at one place at most.
use Rattle.std.proofs.Common.{◌≡◌, ℕ, List, [], ◌∷◌, Option, Some, None, refl, sym, ap, ◌∙◌}
use Rattle.rinv_system.specs.declared.keyword.Keyword.{Keyword}
use Rattle.rinv_system.specs.declared.refused.Code.{Code}
use Rattle.rinv_system.specs.declared.refused.Code.TheVariants.{Word}
use Rattle.rinv_system.specs.Words.{head_of}
use Rattle.rinv_system.specs.Drafts.{Draft, order_fault}
use Rattle.rinv_system.specs.Texts.{IsLineTaken, IsLineRefused}
use Rattle.rinv_system.proofs.Verdicts.{rest_fault, refused-rest, taken-rest}

-- the first, or else the second
abbrev fault_after : Option Code → Option Code → Option Code
fault_after (Some code) later = Some code
fault_after None later = later

-- how a line is refused, by its head
abbrev head_fault : Draft → Option (Keyword × List ℕ) → Option Code
head_fault d None = Some Word
head_fault d (Some h) = fault_after (order_fault d h.0) (rest_fault d h.1 h.0)

pub line_fault : Draft → List ℕ → Option Code
line_fault d [] = None
line_fault d (b ∷ bs) = head_fault d (head_of (b ∷ bs))

some-line : (d : Draft) (line : List ℕ) → ¬ (line ≡ []) → line_fault d line ≡ head_fault d (head_of line)
unfolding line_fault
some-line d [] some = absurd (some refl)
some-line d (b ∷ bs) some = refl

pub refused-line : (d : Draft) (line : List ℕ) (code : Code) → IsLineRefused d line code → line_fault d line ≡ Some code
refused-line d line _ (IsLineRefused.no_word some head) = some-line d line some ∙ ap (head_fault d) head
refused-line d line code (IsLineRefused.no_place {k = k} {rest = rest} some head order) = some-line d line some ∙ ap (head_fault d) head ∙ ap (λ o. fault_after o (rest_fault d rest k)) order
refused-line d line code (IsLineRefused.no_rest {k = k} {rest = rest} some head order r) = some-line d line some ∙ ap (head_fault d) head ∙ ap (λ o. fault_after o (rest_fault d rest k)) order ∙ refused-rest d rest k code r

pub taken-line : (d : Draft) (line : List ℕ) (next : Draft) → IsLineTaken d line next → line_fault d line ≡ None
unfolding line_fault
taken-line d line _ (IsLineTaken.empty e) = ap (line_fault d) e
taken-line d line next (IsLineTaken.taken {k = k} {rest = rest} some head order r) = some-line d line some ∙ ap (head_fault d) head ∙ ap (λ o. fault_after o (rest_fault d rest k)) order ∙ taken-rest d rest k next r

-- a line is refused in one way, and not taken
pub one-code : (d : Draft) (line : List ℕ) (a b : Code) → IsLineRefused d line a → IsLineRefused d line b → a ≡ b
one-code d line a b r s = let e : Some a ≡ Some b = sym (refused-line d line a r) ∙ refused-line d line b s in cc

pub not-taken : {A : Type 0} (d next : Draft) (line : List ℕ) (code : Code) → IsLineTaken d line next → IsLineRefused d line code → A
not-taken d next line code t r = let e : None ≡ Some code = sym (taken-line d line next t) ∙ refused-line d line code r in absurd (cc)
