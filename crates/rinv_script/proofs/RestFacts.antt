-- What follows the word of a script line, part by part.
use Rattle.std.proofs.Common.{◌≡◌, ℕ, zero, suc, option_map, ◌+◌, ◌≤◌, Bool, true, false, not, cond, ◌||◌, ◌==◌, List, [], ◌∷◌, drop, length, one-add, IsTrue, IsFalse, Option, Some, None, refl, sym, ap, ◌∙◌, arith, length-drop}
use Rattle.std.specs.List.{list_all, list_any, take_while, position_or_len}
use Rattle.rinv_system.specs.Lines.{is_allowed, is_blank}
use Rattle.rinv_system.specs.Words.{rest_of, word_of}
use Rattle.rinv_system.proofs.Allowed.{all-take, all-drop, all-from_word, all-to_last_word}
use Rattle.rinv_script.specs.declared.form.Form.{Form}
use Rattle.rinv_script.specs.declared.words.ScriptWord.{ScriptWord}
use Rattle.rinv_script.specs.Words.{script_word_of, if_allowed, script_head}
use Rattle.rinv_script.specs.Scripts.{defined_name, defined_value}

-- ---- the first place at which a test passes

module _ (test : ℕ → Bool) where
  nothing-some : {A : Type 0} (c : ℕ) (bs : List ℕ) → c ∷ bs ≡ [] → A
  nothing-some c bs e = absurd (let n : suc (length bs) ≡ 0 = ap length e in omega (arith, n))

  none-passes : (bs : List ℕ) → drop (position_or_len test bs) bs ≡ [] → list_any test bs ≡ false
  none-passes [] e = refl
  none-passes (c ∷ bs) e = at (test c) (position_or_len test bs) e (none-passes bs)
    where
      at : (t : Bool) (k : ℕ) → drop (cond (not t) (1 + k) 0) (c ∷ bs) ≡ [] → (drop k bs ≡ [] → list_any test bs ≡ false) → (t || list_any test bs) ≡ false
      at true k e ih = nothing-some c bs e
      at false k e ih = ih (ap (λ n. drop n (c ∷ bs)) (sym (one-add k)) ∙ e)

  one-passes : (bs : List ℕ) (b : ℕ) (rest : List ℕ) → drop (position_or_len test bs) bs ≡ b ∷ rest → list_any test bs ≡ true
  one-passes [] b rest e = nothing-some b rest (sym e)
  one-passes (c ∷ bs) b rest e = at (test c) (position_or_len test bs) e (one-passes bs b rest)
    where
      at : (t : Bool) (k : ℕ) → drop (cond (not t) (1 + k) 0) (c ∷ bs) ≡ b ∷ rest → (drop k bs ≡ b ∷ rest → list_any test bs ≡ true) → (t || list_any test bs) ≡ true
      at true k e ih = refl
      at false k e ih = ih (ap (λ n. drop n (c ∷ bs)) (sym (one-add k)) ∙ e)

drop-further : (k : ℕ) (bs : List ℕ) (b : ℕ) (rest : List ℕ) → drop k bs ≡ b ∷ rest → drop (k + 1) bs ≡ rest
drop-further zero bs b rest e = ap (drop 1) e
drop-further (suc k) [] b rest e = absurd (let n : 0 ≡ suc (length rest) = ap length e in omega (arith, n))
drop-further (suc k) (c ∷ bs) b rest e = let n : suc k + 1 ≡ suc (k + 1) = omega arith in ap (λ i. drop i (c ∷ bs)) n ∙ drop-further k bs b rest e

-- ---- a definition

no-nil : (bs : List ℕ) → length bs ≡ 0 → bs ≡ []
no-nil [] e = refl
no-nil (b ∷ bs) e = absurd (omega (arith, e))

pub no-sign : (rest behind : List ℕ) (place : ℕ) → place ≡ position_or_len (λ b. b == 61) rest → behind ≡ drop place rest → length behind ≡ 0 → IsFalse (list_any (λ b. b == 61) rest)
no-sign rest behind place at back none = none-passes (λ b. b == 61) rest (ap (λ k. drop k rest) (sym at) ∙ sym back ∙ no-nil behind none)

pub has-sign : (rest behind value : List ℕ) (b place : ℕ) → place ≡ position_or_len (λ b. b == 61) rest → behind ≡ drop place rest → behind ≡ b ∷ value → IsTrue (list_any (λ b. b == 61) rest)
has-sign rest behind value b place at back is = one-passes (λ b. b == 61) rest b value (ap (λ k. drop k rest) (sym at) ∙ sym back ∙ is)

pub is-value : (rest behind value : List ℕ) (b place : ℕ) → place ≡ position_or_len (λ b. b == 61) rest → behind ≡ drop place rest → behind ≡ b ∷ value → value ≡ defined_value rest
is-value rest behind value b place at back is = sym (drop-further (position_or_len (λ b. b == 61) rest) rest b value (ap (λ k. drop k rest) (sym at) ∙ sym back ∙ is))

pub name-allowed : (rest : List ℕ) → IsTrue (list_all is_allowed rest) → IsTrue (list_all is_allowed (defined_name rest))
name-allowed rest h = all-to_last_word is_allowed (take_while (λ b. not (b == 61)) rest) (all-take is_allowed _ rest h)

pub value-allowed : (rest : List ℕ) → IsTrue (list_all is_allowed rest) → IsTrue (list_all is_allowed (defined_value rest))
value-allowed rest h = all-drop is_allowed (position_or_len (λ b. b == 61) rest + 1) rest h

pub value-short : (rest : List ℕ) → length (defined_value rest) ≤ length rest
value-short rest = omega (arith, length-drop (position_or_len (λ b. b == 61) rest + 1) rest)

-- ---- the rest of a script line

abbrev rest-in : List ℕ → Option (ScriptWord × List ℕ) → List ℕ
rest-in r None = r
rest-in r (Some h) = h.1

pub head-rest : (form : Form) (line rest : List ℕ) (w : ScriptWord) → script_head form line ≡ Some (w, rest) → rest ≡ rest_of line
unfolding script_head
head-rest form line rest w e = at (if_allowed form (script_word_of (word_of line))) e
  where
    at : (o : Option ScriptWord) → option_map {U = ScriptWord × List ℕ} (λ u. (u, rest_of line)) o ≡ Some (w, rest) → rest ≡ rest_of line
    at None e = absurd (cc)
    at (Some u) e = sym (ap (rest-in rest) e)

pub rest-allowed : (line : List ℕ) → IsTrue (list_all is_allowed line) → IsTrue (list_all is_allowed (rest_of line))
rest-allowed line h = all-from_word is_allowed (drop (position_or_len is_blank line) line) (all-drop is_allowed (position_or_len is_blank line) line h)
