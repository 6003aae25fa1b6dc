-- How the text of a fraction is refused where a code comes behind its grammar.
use Rattle.std.proofs.Common.{◌≡◌, ℕ, Bool, true, false, List, length, Option, Some, None, unwrap_or, if◌then◌else◌, refl, sym, subst}
use Rattle.rinv_text.specs.declared.fault.TextFault.{TextFault}
use Rattle.rinv_text.specs.declared.fault.TextCode.{TextCode}
use Rattle.rinv_text.specs.declared.fault.TextCode.TheVariants.{Expression, Name, Limit, FormalDegree, FormalTerms, ZeroDenominator}
use Rattle.rinv_text.specs.Tokens.{Placed, kinds, fraction_tokens}
use Rattle.rinv_text.specs.Grammar.{Tree}
use Rattle.rinv_text.specs.Formal.{is_high, is_long}
use Rattle.rinv_text.specs.Reading.{meaning, formal_of, divides_by_zero}
use Rattle.rinv_text.specs.Stops.{malformed, refused, is_past_limit, refusal_by, fraction_refusal, start}
use Rattle.rinv_text.proofs.OneReading.{have_one_reading}
use Rattle.rinv_system.specs.declared.refused.Code.TheVariants.{Text}
use Rattle.rinv_system.specs.Drafts.{modulus, space_names}
use Rattle.rinv_script.specs.Scripts.{ScriptDraft, IsFault, IsRefusedInTurn}
use Rattle.rinv_script.specs.Kept.{code_behind, IsValueRefused}

-- ---- codes that come behind the grammar

abbrev IsLate : TextCode → Type 0
IsLate code = (next : Option TextCode) → code_behind next code ≡ unwrap_or next code

pub code_behind-other : (next : Option TextCode) (code : TextCode) → (code ≡ Expression → ⊥) → unwrap_or next code ≡ code_behind next code
code_behind-other next Expression other = absurd (other refl)
code_behind-other next Name other = refl
code_behind-other next Limit other = refl
code_behind-other next FormalDegree other = refl
code_behind-other next FormalTerms other = refl
code_behind-other next ZeroDenominator other = refl

late-code : (a b : TextCode) → Some a ≡ Some b → IsLate a → IsLate b
late-code a b e h = let i : a ≡ b = cc in subst IsLate i h

late-excess : (a b c d : Bool) (code : TextCode)
    → (if a then Some Limit else if b then Some FormalDegree else if c then Some FormalTerms else if d then Some ZeroDenominator else None) ≡ Some code → IsLate code
late-excess true b c d code e = late-code Limit code e (λ n. refl)
late-excess false true c d code e = late-code FormalDegree code e (λ n. refl)
late-excess false false true d code e = late-code FormalTerms code e (λ n. refl)
late-excess false false false true code e = late-code ZeroDenominator code e (λ n. refl)
late-excess false false false false code e = absurd (cc)

late-refusal : (ts : List Placed) (o : Option ℕ) (e : Option TextCode) (fault : TextFault) → ((code : TextCode) → e ≡ Some code → IsLate code) → refusal_by ts o e ≡ Some fault → IsLate fault.code
late-refusal ts (Some place) e fault late is = let i : record { place = place; code = Name } ≡ fault = cc in subst (λ (f : TextFault). IsLate f.code) i (λ n. refl)
late-refusal ts None (Some code) fault late is = let i : record { place = start ts; code = code } ≡ fault = cc in subst (λ (f : TextFault). IsLate f.code) i (late code refl)
late-refusal ts None None fault late is = absurd (cc)

-- ---- the text of a fraction

module _ (d : ScriptDraft) (text : List ℕ) where
  refusals-late : (t : Tree) (fault : TextFault) → fraction_refusal (modulus d.system) (space_names d.system) d.defs (fraction_tokens text) t ≡ Some fault → IsLate fault.code
  unfolding fraction_refusal
  refusals-late t fault e =
      late-refusal (fraction_tokens text) _ _ fault
      (late-excess (is_past_limit 0 (kinds (fraction_tokens text))) (is_high (formal_of (space_names d.system) d.defs) t) (is_long (formal_of (space_names d.system) d.defs) t)
      (divides_by_zero (modulus d.system) (meaning (modulus d.system) (space_names d.system) d.defs) t))
      e

  pub value-refused : (next : Option TextCode) (fault : TextFault) → IsFault d text fault → IsValueRefused d text next (Text (code_behind next fault.code))
  value-refused next _ (malformed m) = IsRefusedInTurn.by_grammar (λ (t, derived). (have_one_reading (λ u. None) (fraction_tokens text) (length text)).not_both t _ derived refl (malformed m))
  value-refused (Some code) fault (refused t derived e) = subst (λ c. IsValueRefused d text (Some code) (Text c)) (sym (refusals-late t fault e (Some code))) (IsRefusedInTurn.by_code (t, derived) refl)
  value-refused None fault (refused t derived e) = subst (λ c. IsValueRefused d text None (Text c)) (sym (refusals-late t fault e None)) (IsRefusedInTurn.by_fault (t, derived) refl (refused t derived e))
