-- Answers whose last line is not `complete`. Where a text may have many lines, its end tells; where names of variables may stand last, it
-- has one line, which begins otherwise.
use Rattle.std.proofs.Common.{◌≡◌, ℕ, ◌+◌, List, [], ◌∷◌, ◌++◌, append_assoc, get_or, reverse, refl, sym, ap, ◌∙◌, subst, Bool, true, false, codes, decimal, length, ◌==◌, if◌then◌else◌, arith}
use Rattle.std.proofs.lemmas.Bool.{eqb-true}
use Rattle.rinv_defs.specs.System.{System, Poly}
use Rattle.rinv_defs.specs.Laws.{Law, copies}
use Rattle.rinv_defs.specs.Laws.Law.{L1, L2, L3, L4, L5, L6, A1, A2}
use Rattle.rinv_defs.specs.Text.{poly_text, no_text, refused_text}
use Rattle.rinv_ring.specs.declared.modulus.FieldFault.TheVariants.{TooSmall, TooLarge, NotListed}
use Rattle.rinv_text.specs.Told.{Told}
use Rattle.rinv_text.specs.declared.fault.TextCode.TheVariants.{Expression, Name, Limit, FormalDegree, FormalTerms, ZeroDenominator}
use Rattle.rinv_text.specs.Names.{copies as copied_names}
use Rattle.rinv_system.specs.declared.refused.Code.{Code}
use Rattle.rinv_system.specs.declared.refused.Code.TheVariants.{NotText, Word, Missing, Twice, Count, Field, Text}
use Rattle.rinv_system.specs.declared.refused.Refused.{Refused}
use Rattle.rinv_system.specs.Codes.{code_word}
use Rattle.rinv_parts.specs.LawNames.{law_word, is_of_action}
use Rattle.rinv_answers.specs.declared.incomplete.Phase.{Phase}
use Rattle.rinv_answers.specs.declared.incomplete.Cause.{Cause}
use Rattle.rinv_answers.specs.declared.incomplete.Cause.TheVariants.{Pairs, Steps, Degree, Length}
use Rattle.rinv_answers.specs.Incomplete.{phase_word, cause_word, incomplete_line}
use Rattle.rinv_answers.specs.LawLines.{hold_text, space_names, law_names, fault_text, refused_line_text}
use Rattle.rinv_answers.specs.GeneratorLines.{complete_line, missed_text}
use Rattle.rinv_answers.specs.Commands.Laws.{IsDenial}
use Rattle.rinv_answers.specs.Commands.Generators.{IsGenDenial}
use Rattle.rinv_commands.specs.Headline.{EndsComplete}
use Rattle.rinv_commands.proofs.Feedless.{IsInner, AreInner, AreInner-append, inner-append, decimal-inner, poly-inner, copies-inner}
use Rattle.rinv_commands.proofs.LastLines.{agree, complete_back, ends-otherwise, number-last, one-line}
use Rattle.rinv_commands.proofs.ToldNames.{IsNamed}

-- ---- by the end

pub not-hold : (text : List ℕ) → EndsComplete text → text ≡ hold_text → ⊥
not-hold text h is = ends-otherwise text [] hold_text h is refl

pub not-no : (text : List ℕ) (failure : ℕ × ℕ) → EndsComplete text → text ≡ no_text failure → ⊥
unfolding no_text
not-no text (condition, index) h is = number-last text (codes "no C" ++ decimal condition ++ codes " ") index h is

pub not-refused_part : (text part : List ℕ) (place : ℕ) → EndsComplete text → text ≡ refused_text part place → ⊥
unfolding refused_text
not-refused_part text part place h is = number-last text (codes "refused " ++ part ++ codes " ") place h is

-- each code ends otherwise
code-ends : (code : Code) → agree (reverse (code_word code ++ codes "\n")) complete_back ≡ false
code-ends NotText = refl
code-ends Word = refl
code-ends Missing = refl
code-ends Twice = refl
code-ends Count = refl
code-ends (Field TooSmall) = refl
code-ends (Field TooLarge) = refl
code-ends (Field NotListed) = refl
code-ends (Text Expression) = refl
code-ends (Text Name) = refl
code-ends (Text Limit) = refl
code-ends (Text FormalDegree) = refl
code-ends (Text FormalTerms) = refl
code-ends (Text ZeroDenominator) = refl

pub not-refused : (text : List ℕ) (r : Refused) → EndsComplete text → text ≡ refused_line_text r → ⊥
unfolding refused_line_text
not-refused text r h is =
    let front = codes "refused line " ++ decimal r.line ++ codes " " in
    ends-otherwise text front (code_word r.code ++ codes "\n") h (is ∙ append_assoc front (code_word r.code) (codes "\n")) (code-ends r.code)

-- whatever was at work
pub not-incomplete : (text : List ℕ) (p : Phase) (c : Cause) → EndsComplete text → text ≡ incomplete_line p c → ⊥
unfolding incomplete_line
not-incomplete text p c h is = by c is
  where
    front : List ℕ
    front = codes "incomplete " ++ phase_word p ++ codes " "

    ends-in : (s : List ℕ) (n : ℕ) → text ≡ (front ++ (s ++ decimal n)) ++ codes "\n" → ⊥
    ends-in s n e = number-last text (front ++ s) n h (e ∙ ap (λ t. t ++ codes "\n") (sym (append_assoc front s (decimal n))))

    by : (c : Cause) → text ≡ (front ++ cause_word c) ++ codes "\n" → ⊥
    by (Pairs n) e = ends-in (codes "pairs ") n e
    by (Steps n) e = ends-in (codes "steps ") n e
    by (Degree x y) e = ends-in (codes "degree " ++ decimal x ++ codes " ") y e
    by Length e = ends-otherwise text front (codes "length\n") h (e ∙ append_assoc front (codes "length") (codes "\n")) refl

nothing : {A : Type 0} (xs : List A) → length xs ≡ 0 → xs ≡ []
nothing [] e = refl
nothing (x ∷ xs) e = absurd (let f : length (x ∷ xs) ≡ 0 = e in omega (arith, f))

-- with generators, `complete` comes without a section alone
pub no-section : (text front : List ℕ) (s : System) → EndsComplete text → text ≡ front ++ complete_line s → s.section ≡ []
no-section text front s h is = by (length s.section == 0) refl is
  where
    by : (b : Bool) → (length s.section == 0) ≡ b → text ≡ front ++ (if b then codes "complete\n" else codes "complete on section\n") → s.section ≡ []
    by true e is = nothing s.section (eqb-true (length s.section) 0 e)
    by false e is = absurd (ends-otherwise text front (codes "complete on section\n") h is refl)

-- ---- by the beginning of one line

other-line : (text l : List ℕ) (b : ℕ) → EndsComplete text → text ≡ l ++ codes "\n" → IsInner l → get_or l 0 0 ≡ b → (b ≡ 99 → ⊥) → ⊥
other-line text l b h is inner first differs = differs (sym first ∙ ap (λ t. get_or t 0 0) (one-line l inner (subst EndsComplete is h)))

law_word-inner : (law : Law) → IsInner (law_word law)
law_word-inner L1 = refl
law_word-inner L2 = refl
law_word-inner L3 = refl
law_word-inner L4 = refl
law_word-inner L5 = refl
law_word-inner L6 = refl
law_word-inner A1 = refl
law_word-inner A2 = refl

law_names-inner : (s : System) (law : Law) → IsNamed s → AreInner (law_names s law)
law_names-inner s law named = AreInner-append (copied_names (copies law) s.group) (space_names s law) (copies-inner (copies law) s.group named.group) (by (is_of_action law))
  where
    by : (b : Bool) → AreInner (if b then s.space else [])
    by true = named.space
    by false = AreInner.none

pub not-fault : (text : List ℕ) (s : System) (law : Law) (k : ℕ) (rest : Poly) → IsNamed s → EndsComplete text → text ≡ fault_text s law k rest → ⊥
unfolding fault_text
not-fault text s law k rest named h is =
    let named_law : IsInner (codes "denied law " ++ law_word law) = inner-append (codes "denied law ") (law_word law) refl (law_word-inner law) in
    let part : IsInner (codes "denied law " ++ law_word law ++ codes " part ") = inner-append (codes "denied law " ++ law_word law) (codes " part ") named_law refl in
    let placed : IsInner (codes "denied law " ++ law_word law ++ codes " part " ++ decimal (k + 1)) = inner-append (codes "denied law " ++ law_word law ++ codes " part ") (decimal (k + 1)) part (decimal-inner (k + 1)) in
    let head = codes "denied law " ++ law_word law ++ codes " part " ++ decimal (k + 1) ++ codes " rest " in
    let inner : IsInner head = inner-append (codes "denied law " ++ law_word law ++ codes " part " ++ decimal (k + 1)) (codes " rest ") placed refl in
    other-line text (head ++ poly_text s.p (law_names s law) rest) 100 h is (inner-append head (poly_text s.p (law_names s law) rest) inner (poly-inner s.p (law_names s law) rest (law_names-inner s law named))) refl (λ e. omega (arith, e))

pub not-missed : (text : List ℕ) (s : System) (element : Poly) → IsNamed s → EndsComplete text → text ≡ missed_text s element → ⊥
unfolding missed_text
not-missed text s element named h is =
    other-line text (codes "denied section misses element " ++ poly_text s.p s.space element) 100 h is
    (inner-append (codes "denied section misses element ") (poly_text s.p s.space element) refl (poly-inner s.p s.space element named.space)) refl (λ e. omega (arith, e))

-- ---- denials

pub not-denial : (told : Told) (text : List ℕ) → IsNamed told.system → EndsComplete text → IsDenial told text → ⊥
not-denial told text named h d = not-fault text told.system d.law d.part d.rest named h d.printed

pub not-gen_denial : (told : Told) (text : List ℕ) → IsNamed told.system → EndsComplete text → IsGenDenial told text → ⊥
not-gen_denial told text named h (IsGenDenial.in_law d) = not-denial told text named h d
not-gen_denial told text named h (IsGenDenial.missed d miss printed) = not-missed text told.system d named h printed
