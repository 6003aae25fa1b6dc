-- A line of a script is taken in one way at most, or refused for one cause, and not both.
use Rattle.std.proofs.Common.{◌≡◌, ℕ, List, [], ◌∷◌, ◌++◌, length, Option, Some, None, refl, sym, ap, ap₂, subst, ◌∙◌, true≢false}
use Rattle.rinv_algebra.specs.Fraction.{Fraction}
use Rattle.rinv_algebra.specs.Residue.{residue_ops}
use Rattle.rinv_frac.specs.Cancelling.{IsCancelled}
use Rattle.rinv_text.specs.declared.fault.TextFault.{TextFault}
use Rattle.rinv_text.specs.declared.fault.TextCode.{TextCode}
use Rattle.rinv_text.specs.declared.formal.Formal.{Formal}
use Rattle.rinv_text.specs.Tokens.{fraction_tokens}
use Rattle.rinv_text.specs.Formal.{formal}
use Rattle.rinv_text.specs.Reading.{value, meaning, formal_of}
use Rattle.rinv_text.specs.Stops.{fraction_refusal, HasOneFraction}
use Rattle.rinv_text.proofs.OneReading.{have_one_reading}
use Rattle.rinv_system.specs.declared.refused.Code.{Code}
use Rattle.rinv_system.specs.declared.refused.Code.TheVariants.{Text}
use Rattle.rinv_system.specs.Words.{head_of}
use Rattle.rinv_system.specs.Drafts.{Draft, modulus, space_names}
use Rattle.rinv_system.specs.LineTexts.{AreApart}
use Rattle.rinv_system.specs.Texts.{IsLineTaken, IsLineRefused}
use Rattle.rinv_system.proofs.Good.{AreTaken-good, good-listed}
use Rattle.rinv_system.proofs.OneNext.{one-next}
use Rattle.rinv_system.proofs.OneDraft.{one-code, not-taken}
use Rattle.rinv_script.specs.declared.words.ScriptWord.{ScriptWord}
use Rattle.rinv_script.specs.declared.words.ScriptWord.TheVariants.{Def}
use Rattle.rinv_script.specs.Queries.{Query}
use Rattle.rinv_script.specs.Words.{AsksAlone, AsksOf}
use Rattle.rinv_script.specs.Scripts.{ScriptDraft, defined_name, defined_value, IsFractionExpression, IsFraction, IsFault, IsRefusedInTurn, IsScriptRestRefused, IsScriptRestTaken}
use Rattle.rinv_script.specs.ScriptTexts.{IsScriptLineRefused, IsScriptLineTaken}
use Rattle.rinv_script.specs.Kept.{IsKept}
use Rattle.rinv_script.proofs.OneCancelled.{stored-one}
use Rattle.rinv_script.proofs.KeptFacts.{kept-listed, kept-more}

some-none : {A B : Type 0} {x : A} → Some x ≡ None → B
some-none {x = x} e = absurd (let f : Some x ≡ None = e in cc)

-- ---- refusals in turn

module _ {G : Type 0} {next : Option TextCode} {HasFault : TextFault → Type 0} where
  turn-one : ((a b : TextFault) → HasFault a → HasFault b → a ≡ b) → (a b : Code) → IsRefusedInTurn G next HasFault a → IsRefusedInTurn G next HasFault b → a ≡ b
  turn-one one _ _ (IsRefusedInTurn.by_grammar n) (IsRefusedInTurn.by_grammar m) = refl
  turn-one one _ _ (IsRefusedInTurn.by_grammar n) (IsRefusedInTurn.by_code g e) = absurd (n g)
  turn-one one _ _ (IsRefusedInTurn.by_grammar n) (IsRefusedInTurn.by_fault g e h) = absurd (n g)
  turn-one one _ _ (IsRefusedInTurn.by_code g e) (IsRefusedInTurn.by_grammar n) = absurd (n g)
  turn-one one _ _ (IsRefusedInTurn.by_code {code = a} g e) (IsRefusedInTurn.by_code {code = b} h f) = let s : Some a ≡ Some b = sym e ∙ f in let i : a ≡ b = cc in ap (λ t. Text t) i
  turn-one one _ _ (IsRefusedInTurn.by_code g e) (IsRefusedInTurn.by_fault h f x) = some-none (sym e ∙ f)
  turn-one one _ _ (IsRefusedInTurn.by_fault g e x) (IsRefusedInTurn.by_grammar n) = absurd (n g)
  turn-one one _ _ (IsRefusedInTurn.by_fault g e x) (IsRefusedInTurn.by_code h f) = some-none (sym f ∙ e)
  turn-one one _ _ (IsRefusedInTurn.by_fault {fault = a} g e x) (IsRefusedInTurn.by_fault {fault = b} h f y) = ap (λ (t : TextFault). Text t.code) (one a b x y)

  turn-never : {A : Type 0} → G → next ≡ None → ((a : TextFault) → ¬ (HasFault a)) → (code : Code) → IsRefusedInTurn G next HasFault code → A
  turn-never g e none _ (IsRefusedInTurn.by_grammar n) = absurd (n g)
  turn-never g e none _ (IsRefusedInTurn.by_code h f) = some-none (sym f ∙ e)
  turn-never g e none _ (IsRefusedInTurn.by_fault {fault = a} h f x) = absurd (none a x)

-- ---- the words

alone-of : {A : Type 0} {w : ScriptWord} {q : Query} {ask : Fraction ℕ → Query} → AsksAlone w q → AsksOf w ask → A
alone-of AsksAlone.laws_alone h = elim h [ ]
alone-of AsksAlone.generators_alone h = elim h [ ]

alone-one : {w : ScriptWord} {q r : Query} → AsksAlone w q → AsksAlone w r → q ≡ r
alone-one AsksAlone.laws_alone AsksAlone.laws_alone = refl
alone-one AsksAlone.generators_alone AsksAlone.generators_alone = refl

of-one : {w : ScriptWord} {ask also : Fraction ℕ → Query} → AsksOf w ask → AsksOf w also → (f : Fraction ℕ) → ask f ≡ also f
of-one AsksOf.of_invariance AsksOf.of_invariance f = refl
of-one AsksOf.of_expression AsksOf.of_expression f = refl

def-alone : {A : Type 0} {q : Query} → AsksAlone Def q → A
def-alone h = elim h [ ]

def-of : {A : Type 0} {ask : Fraction ℕ → Query} → AsksOf Def ask → A
def-of h = elim h [ ]

module _ (d : ScriptDraft) where
  -- ---- fractions

  reading : (text : List ℕ) → HasOneFraction (modulus d.system) (space_names d.system) d.defs text
  reading text = have_one_reading (fraction_refusal (modulus d.system) (space_names d.system) d.defs (fraction_tokens text)) (fraction_tokens text) (length text)

  one-fault : (text : List ℕ) (a b : TextFault) → IsFault d text a → IsFault d text b → a ≡ b
  one-fault text = (reading text).one_fault

  no-fault : (text : List ℕ) (f : Fraction ℕ) (n : Formal) → IsFraction d text f n → (a : TextFault) → ¬ (IsFault d text a)
  no-fault text f n h a = (reading text).not_both h.denotes.tree a h.denotes.derived h.denotes.accepted

  expression-of : (text : List ℕ) (f : Fraction ℕ) (n : Formal) → IsFraction d text f n → IsFractionExpression text
  expression-of text f n h = (h.denotes.tree, h.denotes.derived)

  one-fraction : IsKept d → (text : List ℕ) (f g : Fraction ℕ) (m n : Formal) → IsFraction d text f m → IsFraction d text g n → (f ≡ g) × (m ≡ n)
  one-fraction kept text f g m n a b =
      let p : ℕ = modulus d.system in
      let means : List ℕ → Fraction ℕ = meaning (modulus d.system) (space_names d.system) d.defs in
      let same : b.denotes.tree ≡ a.denotes.tree = (reading text).one_tree b.denotes.tree a.denotes.tree b.denotes.derived a.denotes.derived in (
        stored-one p (length (space_names d.system)) (value p means a.denotes.tree) f g (kept-listed kept) a.denotes.cancelled (subst (λ t. IsCancelled (residue_ops p) (value p means t) g) same b.denotes.cancelled) a.stored b.stored,
        a.denotes.formal ∙ sym (b.denotes.formal ∙ ap (formal (formal_of (space_names d.system) d.defs)) same),
      )

  -- ---- what follows the word of a script line

  one-rest_code : (rest : List ℕ) (w : ScriptWord) (a b : Code) → IsScriptRestRefused d rest w a → IsScriptRestRefused d rest w b → a ≡ b
  one-rest_code rest _ a b (IsScriptRestRefused.no_definition x) (IsScriptRestRefused.no_definition y) = turn-one (one-fault (defined_value rest)) a b x y
  one-rest_code rest _ a b (IsScriptRestRefused.no_definition x) (IsScriptRestRefused.no_word s y) = def-alone s
  one-rest_code rest _ a b (IsScriptRestRefused.no_definition x) (IsScriptRestRefused.no_fraction s y) = def-of s
  one-rest_code rest _ a b (IsScriptRestRefused.no_word s x) (IsScriptRestRefused.no_definition y) = def-alone s
  one-rest_code rest _ a b (IsScriptRestRefused.no_word s x) (IsScriptRestRefused.no_word t y) = turn-one (λ i j h k. absurd h) a b x y
  one-rest_code rest _ a b (IsScriptRestRefused.no_word s x) (IsScriptRestRefused.no_fraction t y) = alone-of s t
  one-rest_code rest _ a b (IsScriptRestRefused.no_fraction s x) (IsScriptRestRefused.no_definition y) = def-of s
  one-rest_code rest _ a b (IsScriptRestRefused.no_fraction s x) (IsScriptRestRefused.no_word t y) = alone-of t s
  one-rest_code rest _ a b (IsScriptRestRefused.no_fraction s x) (IsScriptRestRefused.no_fraction t y) = turn-one (one-fault rest) a b x y

  never-rest : {A : Type 0} (rest : List ℕ) (w : ScriptWord) (next : ScriptDraft) (code : Code) → IsScriptRestTaken d rest w next → IsScriptRestRefused d rest w code → A
  never-rest rest _ _ code (IsScriptRestTaken.a_definition f n is new x) (IsScriptRestRefused.no_definition y) = turn-never is new (no-fault (defined_value rest) f n x) code y
  never-rest rest _ _ code (IsScriptRestTaken.a_definition f n is new x) (IsScriptRestRefused.no_word s y) = def-alone s
  never-rest rest _ _ code (IsScriptRestTaken.a_definition f n is new x) (IsScriptRestRefused.no_fraction s y) = def-of s
  never-rest rest _ _ code (IsScriptRestTaken.a_word s is few) (IsScriptRestRefused.no_definition y) = def-alone s
  never-rest rest _ _ code (IsScriptRestTaken.a_word s is few) (IsScriptRestRefused.no_word t y) = turn-never is few (λ a h. h) code y
  never-rest rest _ _ code (IsScriptRestTaken.a_word s is few) (IsScriptRestRefused.no_fraction t y) = alone-of s t
  never-rest rest _ _ code (IsScriptRestTaken.a_fraction f n s few x) (IsScriptRestRefused.no_definition y) = def-of s
  never-rest rest _ _ code (IsScriptRestTaken.a_fraction f n s few x) (IsScriptRestRefused.no_word t y) = alone-of t s
  never-rest rest _ _ code (IsScriptRestTaken.a_fraction f n s few x) (IsScriptRestRefused.no_fraction t y) = turn-never (expression-of rest f n x) few (no-fault rest f n x) code y

  with-value : List ℕ → Fraction ℕ → Formal → ScriptDraft
  with-value rest f n = record d { defs = d.defs ++ record { name = defined_name rest; value = f; formal = n } ∷ [] }

  with-query : Query → ScriptDraft
  with-query q = record d { queries = d.queries ++ q ∷ [] }

  one-rest : IsKept d → (rest : List ℕ) (w : ScriptWord) (a b : ScriptDraft) → IsScriptRestTaken d rest w a → IsScriptRestTaken d rest w b → a ≡ b
  unfolding with-value with-query
  one-rest kept rest _ _ _ (IsScriptRestTaken.a_definition f m is new x) (IsScriptRestTaken.a_definition g n is' new' y) = let same = one-fraction kept (defined_value rest) f g m n x y in ap₂ (with-value rest) same.0 same.1
  one-rest kept rest _ _ _ (IsScriptRestTaken.a_definition f m is new x) (IsScriptRestTaken.a_word s is' few) = def-alone s
  one-rest kept rest _ _ _ (IsScriptRestTaken.a_definition f m is new x) (IsScriptRestTaken.a_fraction g n s few y) = def-of s
  one-rest kept rest _ _ _ (IsScriptRestTaken.a_word s is few) (IsScriptRestTaken.a_definition g n is' new y) = def-alone s
  one-rest kept rest _ _ _ (IsScriptRestTaken.a_word s is few) (IsScriptRestTaken.a_word t is' few') = ap with-query (alone-one s t)
  one-rest kept rest _ _ _ (IsScriptRestTaken.a_word s is few) (IsScriptRestTaken.a_fraction g n t few' y) = alone-of s t
  one-rest kept rest _ _ _ (IsScriptRestTaken.a_fraction f m s few x) (IsScriptRestTaken.a_definition g n is new y) = def-of s
  one-rest kept rest _ _ _ (IsScriptRestTaken.a_fraction f m s few x) (IsScriptRestTaken.a_word t is few') = alone-of t s
  one-rest kept rest _ _ _ (IsScriptRestTaken.a_fraction {ask = ask} f m s few x) (IsScriptRestTaken.a_fraction {ask = also} g n t few' y) = ap with-query (ap ask (one-fraction kept rest f g m n x y).0 ∙ of-one s t g)

  -- ---- the heads of lines

  abbrev word-in : ScriptWord → Option (ScriptWord × List ℕ) → ScriptWord
  word-in w None = w
  word-in w (Some h) = h.0

  abbrev rest-in : List ℕ → Option (ScriptWord × List ℕ) → List ℕ
  rest-in r None = r
  rest-in r (Some h) = h.1

  -- one head
  moved-refused : {o : Option (ScriptWord × List ℕ)} (w u : ScriptWord) (r s : List ℕ) (code : Code) → o ≡ Some (w, r) → o ≡ Some (u, s) → IsScriptRestRefused d s u code → IsScriptRestRefused d r w code
  moved-refused w u r s code e f h = subst (λ x. IsScriptRestRefused d r x code) (sym (ap (word-in w) (sym e ∙ f))) (subst (λ x. IsScriptRestRefused d x u code) (sym (ap (rest-in r) (sym e ∙ f))) h)

  moved-taken : {o : Option (ScriptWord × List ℕ)} (w u : ScriptWord) (r s : List ℕ) (next : ScriptDraft) → o ≡ Some (w, r) → o ≡ Some (u, s) → IsScriptRestTaken d s u next → IsScriptRestTaken d r w next
  moved-taken w u r s next e f h = subst (λ x. IsScriptRestTaken d r x next) (sym (ap (word-in w) (sym e ∙ f))) (subst (λ x. IsScriptRestTaken d x u next) (sym (ap (rest-in r) (sym e ∙ f))) h)

  -- ---- lines

  system-code : (line : List ℕ) (a b : Code) → IsLineRefused d.system line a → IsLineRefused d.system line b → a ≡ b
  system-code line = one-code d.system line

  one-line_code : (line : List ℕ) (a b : Code) → IsScriptLineRefused d line a → IsScriptLineRefused d line b → a ≡ b
  one-line_code line _ _ (IsScriptLineRefused.no_word x h n) (IsScriptLineRefused.no_word y k m) = refl
  one-line_code line _ _ (IsScriptLineRefused.no_word x h n) (IsScriptLineRefused.late_word y k m) = refl
  one-line_code line _ _ (IsScriptLineRefused.no_word x h n) (IsScriptLineRefused.of_system k m r) = some-none (sym k ∙ h)
  one-line_code line _ _ (IsScriptLineRefused.no_word x h n) (IsScriptLineRefused.early_word y k m f) = some-none (sym m ∙ n)
  one-line_code line _ _ (IsScriptLineRefused.no_word x h n) (IsScriptLineRefused.no_rest y k m f r) = some-none (sym m ∙ n)
  one-line_code line _ _ (IsScriptLineRefused.late_word x h n) (IsScriptLineRefused.no_word y k m) = refl
  one-line_code line _ _ (IsScriptLineRefused.late_word x h n) (IsScriptLineRefused.late_word y k m) = refl
  one-line_code line _ _ (IsScriptLineRefused.late_word x h n) (IsScriptLineRefused.of_system k m r) = absurd (true≢false (sym n ∙ m))
  one-line_code line _ _ (IsScriptLineRefused.late_word x h n) (IsScriptLineRefused.early_word y k m f) = some-none (sym h ∙ k)
  one-line_code line _ _ (IsScriptLineRefused.late_word x h n) (IsScriptLineRefused.no_rest y k m f r) = some-none (sym h ∙ k)
  one-line_code line _ _ (IsScriptLineRefused.of_system h n r) (IsScriptLineRefused.no_word y k m) = some-none (sym h ∙ k)
  one-line_code line _ _ (IsScriptLineRefused.of_system h n r) (IsScriptLineRefused.late_word y k m) = absurd (true≢false (sym m ∙ n))
  one-line_code line a b (IsScriptLineRefused.of_system h n r) (IsScriptLineRefused.of_system k m s) = system-code line a b r s
  one-line_code line _ _ (IsScriptLineRefused.of_system h n r) (IsScriptLineRefused.early_word y k m f) = some-none (sym h ∙ k)
  one-line_code line _ _ (IsScriptLineRefused.of_system h n r) (IsScriptLineRefused.no_rest y k m f s) = some-none (sym h ∙ k)
  one-line_code line _ _ (IsScriptLineRefused.early_word x h n e) (IsScriptLineRefused.no_word y k m) = some-none (sym n ∙ m)
  one-line_code line _ _ (IsScriptLineRefused.early_word x h n e) (IsScriptLineRefused.late_word y k m) = some-none (sym k ∙ h)
  one-line_code line _ _ (IsScriptLineRefused.early_word x h n e) (IsScriptLineRefused.of_system k m r) = some-none (sym k ∙ h)
  one-line_code line _ _ (IsScriptLineRefused.early_word x h n e) (IsScriptLineRefused.early_word y k m f) = refl
  one-line_code line _ _ (IsScriptLineRefused.early_word x h n e) (IsScriptLineRefused.no_rest y k m f r) = absurd (true≢false (sym f ∙ e))
  one-line_code line _ _ (IsScriptLineRefused.no_rest x h n e r) (IsScriptLineRefused.no_word y k m) = some-none (sym n ∙ m)
  one-line_code line _ _ (IsScriptLineRefused.no_rest x h n e r) (IsScriptLineRefused.late_word y k m) = some-none (sym k ∙ h)
  one-line_code line _ _ (IsScriptLineRefused.no_rest x h n e r) (IsScriptLineRefused.of_system k m s) = some-none (sym k ∙ h)
  one-line_code line _ _ (IsScriptLineRefused.no_rest x h n e r) (IsScriptLineRefused.early_word y k m f) = absurd (true≢false (sym e ∙ f))
  one-line_code line a b (IsScriptLineRefused.no_rest {w = w} {rest = rest} x h n e r) (IsScriptLineRefused.no_rest {w = u} {rest = rest'} y k m f s) = one-rest_code rest w a b r (moved-refused w u rest rest' b n m s)

  -- a line of a system that is taken has one of its words
  system-head : {A : Type 0} (line : List ℕ) (next : Draft) → ¬ (line ≡ []) → IsLineTaken d.system line next → head_of line ≡ None → A
  system-head line _ some (IsLineTaken.empty e) none = absurd (some e)
  system-head line next some (IsLineTaken.taken x head order r) none = some-none (sym head ∙ none)

  never-line : {A : Type 0} (line : List ℕ) (next : ScriptDraft) (code : Code) → IsScriptLineTaken d line next → IsScriptLineRefused d line code → A
  never-line line _ _ (IsScriptLineTaken.empty e) (IsScriptLineRefused.no_word y k m) = absurd (y e)
  never-line line _ _ (IsScriptLineTaken.empty e) (IsScriptLineRefused.late_word y k m) = absurd (y e)
  never-line line _ code (IsScriptLineTaken.empty e) (IsScriptLineRefused.of_system k m r) = not-taken d.system d.system line code (IsLineTaken.empty e) r
  never-line line _ _ (IsScriptLineTaken.empty e) (IsScriptLineRefused.early_word y k m f) = absurd (y e)
  never-line line _ _ (IsScriptLineTaken.empty e) (IsScriptLineRefused.no_rest y k m f r) = absurd (y e)
  never-line line _ _ (IsScriptLineTaken.of_system {next = next} x n t) (IsScriptLineRefused.no_word y k m) = system-head line next x t k
  never-line line _ _ (IsScriptLineTaken.of_system x n t) (IsScriptLineRefused.late_word y k m) = absurd (true≢false (sym m ∙ n))
  never-line line _ code (IsScriptLineTaken.of_system {next = next} x n t) (IsScriptLineRefused.of_system k m r) = not-taken d.system next line code t r
  never-line line _ _ (IsScriptLineTaken.of_system {next = next} x n t) (IsScriptLineRefused.early_word y k m f) = system-head line next x t k
  never-line line _ _ (IsScriptLineTaken.of_system {next = next} x n t) (IsScriptLineRefused.no_rest y k m f r) = system-head line next x t k
  never-line line _ _ (IsScriptLineTaken.of_script x h n e t) (IsScriptLineRefused.no_word y k m) = some-none (sym n ∙ m)
  never-line line _ _ (IsScriptLineTaken.of_script x h n e t) (IsScriptLineRefused.late_word y k m) = some-none (sym k ∙ h)
  never-line line _ _ (IsScriptLineTaken.of_script x h n e t) (IsScriptLineRefused.of_system k m r) = some-none (sym k ∙ h)
  never-line line _ _ (IsScriptLineTaken.of_script x h n e t) (IsScriptLineRefused.early_word y k m f) = absurd (true≢false (sym e ∙ f))
  never-line line _ code (IsScriptLineTaken.of_script {w = w} {rest = rest} {next = next} x h n e t) (IsScriptLineRefused.no_rest {w = u} {rest = rest'} y k m f r) = never-rest rest w next code t (moved-refused w u rest rest' code n m r)

  with-system : Draft → ScriptDraft
  with-system s = record d { system = s }

  one-line : IsKept d → (line : List ℕ) (a b : ScriptDraft) → IsScriptLineTaken d line a → IsScriptLineTaken d line b → a ≡ b
  unfolding with-system
  one-line kept line _ _ (IsScriptLineTaken.empty e) (IsScriptLineTaken.empty f) = refl
  one-line kept line _ _ (IsScriptLineTaken.empty e) (IsScriptLineTaken.of_system x n t) = absurd (x e)
  one-line kept line _ _ (IsScriptLineTaken.empty e) (IsScriptLineTaken.of_script x h n w t) = absurd (x e)
  one-line kept line _ _ (IsScriptLineTaken.of_system x n t) (IsScriptLineTaken.empty e) = absurd (x e)
  one-line kept line _ _ (IsScriptLineTaken.of_system {next = a} x n t) (IsScriptLineTaken.of_system {next = b} y m s) = ap with-system (one-next d.system line a b (good-listed (AreTaken-good kept.system.1)) t s)
  one-line kept line _ _ (IsScriptLineTaken.of_system {next = a} x n t) (IsScriptLineTaken.of_script y h m w s) = system-head line a x t h
  one-line kept line _ _ (IsScriptLineTaken.of_script x h n w t) (IsScriptLineTaken.empty e) = absurd (x e)
  one-line kept line _ _ (IsScriptLineTaken.of_script x h n w t) (IsScriptLineTaken.of_system {next = b} y m s) = system-head line b y s h
  one-line kept line a b (IsScriptLineTaken.of_script {w = w} {rest = rest} x h n f t) (IsScriptLineTaken.of_script {w = u} {rest = rest'} y k m g s) = one-rest kept rest w a b t (moved-taken w u rest rest' b n m s)

pub script_lines-apart : AreApart IsScriptLineRefused IsScriptLineTaken IsKept
script_lines-apart = record {
  kept = kept-more;
  one_next = λ d next other line kept a b. one-line d kept line next other a b;
  one_code = λ d line a b kept r s. one-line_code d line a b r s;
  not_both = λ d next line code kept t r. never-line d line next code t r;
}
