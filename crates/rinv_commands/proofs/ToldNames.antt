-- The names of a system that is told stand within a line.
use Rattle.std.proofs.Common.{◌≡◌, ℕ, List, [], ◌∷◌, ◌++◌, refl, sym, subst, true, not, ◌&&◌, ◌||◌, ◌==◌, bytes_eq, length, nat_le, arith}
use Rattle.std.specs.List.{list_all, list_any}
use Rattle.std.proofs.lemmas.Bool.Decides.{nat_tests}
use Rattle.rinv_algebra.proofs.Same.{both, and_true}
use Rattle.rinv_defs.specs.Names.{is_letter, is_digit, is_plain_name, is_symbol, are_names}
use Rattle.rinv_defs.specs.System.{System}
use Rattle.rinv_text.specs.Told.{Told}
use Rattle.rinv_system.specs.Drafts.{Draft, blank, group_names, space_names}
use Rattle.rinv_system.specs.LineTexts.{AreTaken}
use Rattle.rinv_system.specs.Texts.{IsLineTaken, IsSystemText, told_by}
use Rattle.rinv_system.proofs.Good.{IsGood, AreTaken-good}
use Rattle.rinv_script.specs.declared.form.Form.{Form}
use Rattle.rinv_script.specs.Queries.{Script}
use Rattle.rinv_script.specs.Scripts.{ScriptDraft, IsScriptRestTaken, blank_script}
use Rattle.rinv_script.specs.ScriptTexts.{IsScriptLineTaken, IsScriptText}
use Rattle.rinv_commands.proofs.Feedless.{is_inner, IsInner, AreInner}

letter-inner : (b : ℕ) → is_letter b ≡ true → is_inner b ≡ true
letter-inner b e = grind (arith, nat_tests)

byte-inner : (b : ℕ) → (is_letter b || is_digit b || b == 95) ≡ true → is_inner b ≡ true
byte-inner b e = grind (arith, nat_tests)

bytes-inner : (bs : List ℕ) → list_all (λ x. is_letter x || is_digit x || x == 95) bs ≡ true → IsInner bs
bytes-inner [] e = refl
bytes-inner (b ∷ bs) e = let p = both (is_letter b || is_digit b || b == 95) (list_all (λ x. is_letter x || is_digit x || x == 95) bs) e in and_true (is_inner b) (list_all is_inner bs) (byte-inner b p.0) (bytes-inner bs p.1)

plain-inner : (w : List ℕ) → is_plain_name w ≡ true → IsInner w
plain-inner [] e = refl
plain-inner (b ∷ bs) e =
    let p = both (is_letter b && list_all (λ x. is_letter x || is_digit x || x == 95) bs) (nat_le (length (b ∷ bs)) 16) e in
    let q = both (is_letter b) (list_all (λ x. is_letter x || is_digit x || x == 95) bs) p.0 in
    and_true (is_inner b) (list_all is_inner bs) (letter-inner b q.0) (bytes-inner bs q.1)

names-inner : (earlier ws : List (List ℕ)) → are_names earlier ws ≡ true → AreInner ws
unfolding are_names
names-inner earlier [] e = AreInner.none
names-inner earlier (w ∷ ws) e =
    let p = both (is_plain_name w && not (is_symbol w) && not (list_any (bytes_eq w) earlier)) (are_names (w ∷ earlier) ws) e in
    let q = both (is_plain_name w && not (is_symbol w)) (not (list_any (bytes_eq w) earlier)) p.0 in
    AreInner.one_more (plain-inner w (both (is_plain_name w) (not (is_symbol w)) q.0).0) (names-inner (w ∷ earlier) ws p.1)

-- the names of the group and of the space
pub record IsNamed (s : System) : Type 0 where
  pub group : AreInner s.group
  pub space : AreInner s.space

draft-named : (d : Draft) → IsGood d → AreInner (group_names d) × AreInner (space_names d)
draft-named d IsGood.start = (AreInner.none, AreInner.none)
draft-named d (IsGood.with_field p listed) = (AreInner.none, AreInner.none)
draft-named d (IsGood.with_group p group listed names) = (names-inner [] group names.form, AreInner.none)
draft-named d (IsGood.begun p group space rest form) = (names-inner [] group form.group_form.form, names-inner group space form.space_form.form)

-- of a system that taken lines tell, also where other lines stand between them
pub told-named : (told : Told) (d : Draft) (lines : List (List ℕ)) → AreTaken IsLineTaken blank lines d → told ≡ told_by d → IsNamed told.system
told-named told d lines taken is = let h = draft-named d (AreTaken-good taken) in subst (λ (t : Told). IsNamed t.system) (sym is) (record { group = h.0; space = h.1 })

pub system-named : (bytes : List ℕ) (told : Told) → IsSystemText bytes told → IsNamed told.system
system-named bytes told h = told-named told h.draft _ h.is_text.taken h.is

-- ---- scripts

-- the lines of a script that are those of its system
system-lines : {form : Form} {ls : List (List ℕ)} {d : ScriptDraft} → AreTaken IsScriptLineTaken (blank_script form) ls d → (lines : List (List ℕ)) × AreTaken IsLineTaken blank lines d.system
system-lines AreTaken.none = ([], AreTaken.none)
system-lines (AreTaken.one_more line before (IsScriptLineTaken.empty e)) = system-lines before
system-lines (AreTaken.one_more line before (IsScriptLineTaken.of_system some first taken)) = let so_far = system-lines before in (so_far.0 ++ line ∷ [], AreTaken.one_more line so_far.1 taken)
system-lines (AreTaken.one_more line before (IsScriptLineTaken.of_script some none head whole (IsScriptRestTaken.a_definition f formal is new value))) = system-lines before
system-lines (AreTaken.one_more line before (IsScriptLineTaken.of_script some none head whole (IsScriptRestTaken.a_word asks alone few))) = system-lines before
system-lines (AreTaken.one_more line before (IsScriptLineTaken.of_script some none head whole (IsScriptRestTaken.a_fraction f formal asks few is))) = system-lines before

pub script-named : (form : Form) (bytes : List ℕ) (script : Script) → IsScriptText form bytes script → IsNamed script.told.system
script-named form bytes script h =
    let lines = system-lines h.is_text.taken in
    subst (λ (s : Script). IsNamed s.told.system) (sym h.is) (told-named (told_by h.draft.system) h.draft.system lines.0 lines.1 refl)
