-- What holds of a draft after lines that were taken.
use Rattle.std.proofs.Common.{◌≡◌, ℕ, Bool, true, false, not, ◌&&◌, ◌||◌, nat_lt, List, [], ◌∷◌, ◌++◌, length, map, bytes_eq, IsTrue, Some, None, if◌then◌else◌, refl, sym, ap, subst, ◌∙◌, arith, true≢false}
use Rattle.std.specs.List.{All, list_any}
use Rattle.std.proofs.lemmas.Bool.Decides.{nat_tests}
use Rattle.std.proofs.lemmas.List.{map-append}
use Rattle.std.proofs.lemmas.List.Folds.{list_any-append}
use Rattle.std.proofs.lemmas.List.Elements.{All-nil, All-push}
use Rattle.rinv_algebra.specs.Fraction.{Fraction}
use Rattle.rinv_algebra.specs.Residue.{is_listed}
use Rattle.rinv_algebra.proofs.Same.{both}
use Rattle.rinv_frac.specs.Fractions.{IsStored}
use Rattle.rinv_defs.specs.Names.{is_plain_name, is_symbol}
use Rattle.rinv_text.specs.declared.fault.TextCode.{TextCode}
use Rattle.rinv_text.specs.Names.{is_new_name, meet}
use Rattle.rinv_text.specs.Reading.{Definition}
use Rattle.rinv_system.specs.Drafts.{Draft, modulus, group_names, space_names, has_begun, is_whole}
use Rattle.rinv_system.specs.LineTexts.{AreTaken}
use Rattle.rinv_system.specs.Texts.{IsLineTaken}
use Rattle.rinv_system.proofs.Good.{AreTaken-good, good-listed}
use Rattle.rinv_script.specs.Queries.{Query}
use Rattle.rinv_script.specs.Words.{AsksAlone, AsksOf}
use Rattle.rinv_script.specs.Scripts.{ScriptDraft, blank_script, has_script, given_names, name_fault, IsScriptRestTaken}
use Rattle.rinv_script.specs.ScriptTexts.{IsScriptLineTaken}
use Rattle.rinv_script.specs.Stored.{IsStoredQuery}
use Rattle.rinv_script.specs.Kept.{IsKept}

-- a system that is whole has begun
pub whole-begun : (d : Draft) → is_whole d ≡ true → has_begun d ≡ true
whole-begun d h = (both (has_begun d) _ (both _ _ (both _ _ (both _ _ h).0).0).0).0

pub kept-listed : {d : ScriptDraft} → IsKept d → IsTrue (is_listed (modulus d.system))
kept-listed kept = good-listed (AreTaken-good kept.system.1)

-- ---- new names

some-code : {A : Type 0} (code : TextCode) → Some code ≡ None → A
some-code code e = absurd (cc)

pub name-new : (d : ScriptDraft) (name : List ℕ) → name_fault d name ≡ None → is_new_name (given_names d) name ≡ true
name-new d name e = at (is_new_name (given_names d) name) _ e
  where
    at : (b : Bool) (code : TextCode) → (if b then None else Some code) ≡ None → b ≡ true
    at true code e = refl
    at false code e = some-code code e

negated : (b : Bool) → not b ≡ true → b ≡ false
negated true e = absurd (true≢false (sym e))
negated false e = refl

or_left : (a b : Bool) → (a || b) ≡ false → a ≡ false
or_left true b h = absurd (true≢false h)
or_left false b h = refl

or_right : (a b : Bool) → (a || b) ≡ false → b ≡ false
or_right true b h = absurd (true≢false h)
or_right false b h = h

both_off : (a b : Bool) → a ≡ false → b ≡ false → (a || b) ≡ false
both_off true b e f = absurd (true≢false e)
both_off false b e f = f

-- no variable of the space and no abbreviation has a new name
pub new-absent : (d : ScriptDraft) (name : List ℕ) → name_fault d name ≡ None → (list_any (bytes_eq name) (space_names d.system) ≡ false) × (list_any (bytes_eq name) (map (λ a. a.name) d.defs) ≡ false)
new-absent d name e =
    let known = (both (is_plain_name name && not (is_symbol name)) (not (list_any (bytes_eq name) (given_names d))) (name-new d name e)).1 in
    let off : list_any (bytes_eq name) (given_names d) ≡ false = negated _ known in
    let split : (list_any (bytes_eq name) (group_names d.system ++ space_names d.system) || list_any (bytes_eq name) (map (λ a. a.name) d.defs)) ≡ false = sym (list_any-append (bytes_eq name) (group_names d.system ++ space_names d.system) (map (λ a. a.name) d.defs)) ∙ off in
    let front : (list_any (bytes_eq name) (group_names d.system) || list_any (bytes_eq name) (space_names d.system)) ≡ false = sym (list_any-append (bytes_eq name) (group_names d.system) (space_names d.system)) ∙ or_left _ _ split in
    (or_right (list_any (bytes_eq name) (group_names d.system)) _ front, or_right (list_any (bytes_eq name) (group_names d.system ++ space_names d.system)) _ split)

-- the same of the list of abbreviations
pub absent-defs : (name : List ℕ) (defs : List Definition) → list_any (bytes_eq name) (map (λ a. a.name) defs) ≡ false → list_any (λ d. bytes_eq name d.name) defs ≡ false
absent-defs name [] h = refl
absent-defs name (d ∷ defs) h = both_off (bytes_eq name d.name) (list_any (λ e. bytes_eq name e.name) defs) (or_left (bytes_eq name d.name) _ h) (absent-defs name defs (or_right (bytes_eq name d.name) _ h))

-- a name more, and its abbreviation
pub both-more : (names names' : List (List ℕ)) (defs defs' : List Definition) (a : Definition) → names ≡ map (λ d. d.name) defs → names' ≡ names ++ a.name ∷ [] → defs' ≡ defs ++ a ∷ [] → names' ≡ map (λ d. d.name) defs'
both-more names names' defs defs' a same first second =
    first ∙ ap (λ ns. ns ++ a.name ∷ []) same ∙ sym (map-append (λ (d : Definition). d.name) defs (a ∷ [])) ∙ ap (map (λ (d : Definition). d.name)) (sym second)

-- ---- one line more

none-of : {A : Type 0} (xs : List A) → nat_lt 0 (length xs) ≡ false → xs ≡ []
none-of [] e = refl
none-of (x ∷ xs) e = absurd (grind (arith, nat_tests, e))

-- before a script line there is no abbreviation and no query
pub no-script : (d : ScriptDraft) → has_script d ≡ false → (d.defs ≡ []) × (d.queries ≡ [])
no-script d e = (none-of d.defs (or_left (nat_lt 0 (length d.defs)) (nat_lt 0 (length d.queries)) e), none-of d.queries (or_right (nat_lt 0 (length d.defs)) (nat_lt 0 (length d.queries)) e))

module _ (d : ScriptDraft) (kept : IsKept d) where
  pub kept-system : (next : Draft) (line : List ℕ) → has_script d ≡ false → IsLineTaken d.system line next → IsKept (record d { system = next })
  kept-system next line e made =
      let (no_defs, no_queries) = no-script d e in
      record {
        system = (kept.system.0 ++ line ∷ [], AreTaken.one_more line kept.system.1 made);
        apart = subst (λ (l : List Definition). meet (space_names next) (map (λ a. a.name) l) ≡ false) (sym no_defs) refl;
        values = subst (All (λ (a : Definition). IsStored (modulus next) (length (space_names next)) a.value)) (sym no_defs) (All-nil (λ (a : Definition). IsStored (modulus next) (length (space_names next)) a.value));
        queries = subst (All (IsStoredQuery (modulus next) (length (space_names next)))) (sym no_queries) (All-nil (IsStoredQuery (modulus next) (length (space_names next))));
      }

  pub kept-definition : (a : Definition) → name_fault d a.name ≡ None → IsStored (modulus d.system) (length (space_names d.system)) a.value → IsKept (record d { defs = d.defs ++ a ∷ [] })
  kept-definition a new is = record {
    system = kept.system;
    apart = ap (meet (space_names d.system)) (map-append (λ (b : Definition). b.name) d.defs (a ∷ [])) ∙ list_any-append (λ y. list_any (bytes_eq y) (space_names d.system)) (map (λ b. b.name) d.defs) (a.name ∷ [])
        ∙ both_off _ _ kept.apart (both_off _ false (new-absent d a.name new).0 refl);
    values = All-push (λ (b : Definition). IsStored (modulus d.system) (length (space_names d.system)) b.value) d.defs a kept.values is;
    queries = kept.queries;
  }

  pub kept-query : (q : Query) → IsStoredQuery (modulus d.system) (length (space_names d.system)) q → IsKept (record d { queries = d.queries ++ q ∷ [] })
  kept-query q is = record { system = kept.system; apart = kept.apart; values = kept.values; queries = All-push (IsStoredQuery (modulus d.system) (length (space_names d.system))) d.queries q kept.queries is }

stored-alone : {w : _} {q : Query} (p v : ℕ) → AsksAlone w q → IsStoredQuery p v q
stored-alone p v AsksAlone.laws_alone = tt
stored-alone p v AsksAlone.generators_alone = tt

stored-of : {w : _} {ask : Fraction ℕ → Query} (p v : ℕ) (f : Fraction ℕ) → AsksOf w ask → IsStored p v f → IsStoredQuery p v (ask f)
stored-of p v f AsksOf.of_invariance is = is
stored-of p v f AsksOf.of_expression is = is

pub kept-more : (d next : ScriptDraft) (line : List ℕ) → IsKept d → IsScriptLineTaken d line next → IsKept next
kept-more d _ line kept (IsScriptLineTaken.empty e) = kept
kept-more d _ line kept (IsScriptLineTaken.of_system {next = next} some none made) = kept-system d kept next line none made
kept-more d _ line kept (IsScriptLineTaken.of_script some none head whole (IsScriptRestTaken.a_definition f formal is new fraction)) = kept-definition d kept (record { name = _; value = f; formal = formal }) new fraction.stored
kept-more d _ line kept (IsScriptLineTaken.of_script some none head whole (IsScriptRestTaken.a_word {q = q} asks is few)) = kept-query d kept q (stored-alone _ _ asks)
kept-more d _ line kept (IsScriptLineTaken.of_script some none head whole (IsScriptRestTaken.a_fraction {ask = ask} f formal asks few fraction)) = kept-query d kept (ask f) (stored-of _ _ f asks fraction.stored)

-- before the first line
pub kept-blank : (form : _) → IsKept (blank_script form)
kept-blank form = record { system = ([], AreTaken.none); apart = refl; values = All-nil (λ (a : Definition). IsStored 2 0 a.value); queries = All-nil (IsStoredQuery 2 0) }
