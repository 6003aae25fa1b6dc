-- A line that is taken makes one draft.
use Rattle.std.proofs.Common.{◌≡◌, ℕ, List, ◌∷◌, length, Option, Some, None, IsTrue, refl, sym, ap, ap₂, subst, ◌∙◌}
use Rattle.rinv_algebra.specs.Residue.{is_listed, residue_ops}
use Rattle.rinv_algebra.proofs.ResidueLaws.{residue_laws}
use Rattle.rinv_defs.specs.System.{Poly}
use Rattle.rinv_algebra.specs.Ring.{IsSame}
use Rattle.rinv_algebra.specs.Polynomial.{poly_ops}
use Rattle.rinv_poly.proofs.Gather.{same-then, same-back}
use Rattle.rinv_poly.proofs.Residues.{equal-normal}
use Rattle.rinv_text.specs.Reading.{variable_named, value}
use Rattle.rinv_text.proofs.OneReading.{has_one_reading}
use Rattle.rinv_system.specs.declared.keyword.Keyword.{Keyword}
use Rattle.rinv_system.specs.Entries.{entries_of}
use Rattle.rinv_system.specs.Drafts.{Draft, modulus, names_for}
use Rattle.rinv_system.specs.Forms.{AreEntries, IsEntry, TellsNumber, TellsNames, TellsPolynomials, IsRestTaken, with_polynomials}
use Rattle.rinv_system.specs.Texts.{IsLineTaken}

-- an entry is one polynomial
one-entry : (p : ℕ) (names : List (List ℕ)) (e : List ℕ) (f g : Poly) → IsTrue (is_listed p) → IsEntry p names e f → IsEntry p names e g → f ≡ g
one-entry p names e f g listed a b =
    equal-normal p (length names) listed f g a.normal b.normal
    (same-then (residue_ops p) (residue_laws p) f (value p (variable_named p names) a.denotes.tree).0 g a.denotes.same
    (same-back (residue_ops p) (residue_laws p) g (value p (variable_named p names) a.denotes.tree).0
    (subst (λ t. IsSame (poly_ops (residue_ops p)) g (value p (variable_named p names) t).0) ((has_one_reading names e).one_tree b.denotes.tree a.denotes.tree b.denotes.derived a.denotes.derived) b.denotes.same)))

pub one-list : (p : ℕ) (names es : List (List ℕ)) (fs gs : List Poly) → IsTrue (is_listed p) → AreEntries p names es fs → AreEntries p names es gs → fs ≡ gs
one-list p names _ _ _ listed AreEntries.none AreEntries.none = refl
one-list p names _ _ _ listed (AreEntries.one_more {entries = es} {fs = fs} e f is are) (AreEntries.one_more {fs = gs} e' g is' are') = ap₂ (λ h hs. h ∷ hs) (one-entry p names e f g listed is is') (one-list p names es fs gs listed are are')

-- ---- what one word tells

number-names : {A : Type 0} {d : Draft} {k : Keyword} {earlier : List (List ℕ)} → TellsNumber k → TellsNames d k earlier → A
number-names TellsNumber.field_line h = elim h [ ]
number-names TellsNumber.pairs_line h = elim h [ ]
number-names TellsNumber.steps_line h = elim h [ ]

number-polynomials : {A : Type 0} {k : Keyword} → TellsNumber k → TellsPolynomials k → A
number-polynomials TellsNumber.field_line h = elim h [ ]
number-polynomials TellsNumber.pairs_line h = elim h [ ]
number-polynomials TellsNumber.steps_line h = elim h [ ]

names-polynomials : {A : Type 0} {d : Draft} {k : Keyword} {earlier : List (List ℕ)} → TellsNames d k earlier → TellsPolynomials k → A
names-polynomials TellsNames.group_line h = elim h [ ]
names-polynomials TellsNames.space_line h = elim h [ ]

module _ (d : Draft) (rest : List ℕ) (k : Keyword) (listed : IsTrue (is_listed (modulus d))) where
  one-rest : (a b : Draft) → IsRestTaken d rest k a → IsRestTaken d rest k b → a ≡ b
  one-rest _ _ (IsRestTaken.a_number tells h is) (IsRestTaken.a_number tells' h' is') = refl
  one-rest _ _ (IsRestTaken.a_number tells h is) (IsRestTaken.some_names tells' h' e new) = number-names tells tells'
  one-rest _ _ (IsRestTaken.a_number tells h is) (IsRestTaken.some_polynomials tells' e are) = number-polynomials tells tells'
  one-rest _ _ (IsRestTaken.some_names tells h e new) (IsRestTaken.a_number tells' h' is') = number-names tells' tells
  one-rest _ _ (IsRestTaken.some_names tells h e new) (IsRestTaken.some_names tells' h' e' new') = refl
  one-rest _ _ (IsRestTaken.some_names tells h e new) (IsRestTaken.some_polynomials tells' e' are) = names-polynomials tells tells'
  one-rest _ _ (IsRestTaken.some_polynomials tells e are) (IsRestTaken.a_number tells' h is) = number-polynomials tells' tells
  one-rest _ _ (IsRestTaken.some_polynomials tells e are) (IsRestTaken.some_names tells' h e' new) = names-polynomials tells' tells
  one-rest _ _ (IsRestTaken.some_polynomials {fs = fs} tells e are) (IsRestTaken.some_polynomials {fs = gs} tells' e' are') =
      ap (with_polynomials d k) (one-list (modulus d) (names_for d k) (entries_of rest) fs gs listed are are')

-- the parts of a head
abbrev word_of_head : Keyword → Option (Keyword × List ℕ) → Keyword
word_of_head k None = k
word_of_head k (Some h) = h.0

abbrev rest_of_head : List ℕ → Option (Keyword × List ℕ) → List ℕ
rest_of_head r None = r
rest_of_head r (Some h) = h.1

pub one-next : (d : Draft) (line : List ℕ) (a b : Draft) → IsTrue (is_listed (modulus d)) → IsLineTaken d line a → IsLineTaken d line b → a ≡ b
one-next d line _ _ listed (IsLineTaken.empty e) (IsLineTaken.empty e') = refl
one-next d line _ b listed (IsLineTaken.empty e) (IsLineTaken.taken some at order r) = absurd (some e)
one-next d line a _ listed (IsLineTaken.taken some at order r) (IsLineTaken.empty e) = absurd (some e)
one-next d line a b listed (IsLineTaken.taken {k = k} {rest = rest} some at order r) (IsLineTaken.taken {k = j} {rest = rest'} some' at' order' r') =
    one-rest d rest k listed a b r (subst (λ w. IsRestTaken d rest w b) (sym (ap (word_of_head k) (sym at ∙ at'))) (subst (λ t. IsRestTaken d t j b) (sym (ap (rest_of_head rest) (sym at ∙ at'))) r'))
