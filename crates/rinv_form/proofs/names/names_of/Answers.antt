use Rattle.std.proofs.Common.{◌≡◌, ◌+◌, ◌<◌, ◌∙◌, ◌++◌, [], ◌∷◌, List, ℕ, length, ◌≤◌, get_or, map, take, true, sym, ap, arith, string_bytes, take_all, subst}
use Rattle.std.proofs.lemmas.List.{take_more, map-append, length-map}
use Rattle.rinv_defs.specs.Names.{are_names}
use Rattle.rinv_text.specs.Names.{StopsAtWord}
use Rattle.rinv_text.proofs.WordsInTurn.{none_bad}
use Rattle.rinv_form.proofs.names.names_of.Goals as goal

-- the words that were copied are the names so far
more : {X : Type 0} (f : X → List ℕ) (names : List (List ℕ)) (k : ℕ) (words words' : List X) (x : X) (w : List ℕ) → k < length names → w ≡ get_or names k w → f x ≡ w
    → map f words ≡ take k names → words' ≡ words ++ x ∷ [] → map f words' ≡ take (k + 1) names
more f names k words words' x w within is copy before pushed =
    ap (map f) pushed ∙ map-append f words (x ∷ []) ∙ ap (λ ws. ws ++ f x ∷ []) before ∙ ap (λ v. take k names ++ v ∷ []) (copy ∙ is) ∙ sym (take_more names k w within)

-- and in the end all
module _ {X : Type 0} (f : X → List ℕ) (names : List (List ℕ)) (k : ℕ) (words slice : List X) (all : length names ≤ k) (before : map f words ≡ take k names) (same : slice ≡ words) where
  copied : map f slice ≡ names
  copied = ap (map f) same ∙ before ∙ take_all k names all

  few : (n : ℕ) → length names < n → length slice < n
  few n h = omega (arith, h, length-map slice f, ap length copied)

  names-are : are_names [] names ≡ true → are_names [] (map f slice) ≡ true
  names-are form = ap (are_names []) copied ∙ form

pub from_words-requires : goal.from_words-requires
from_words-requires c = few string_bytes c.args.names.now c.loop-name.name-index c.loop-name.words.items c.deref.result.now c.loop-name-test.false c.loop-name.invariant c.deref.ensures.value _ c.requires.few

pub unreachable-requires : goal.unreachable-requires
unreachable-requires c =
    none_bad _ _ (names-are string_bytes c.args.names.now c.loop-name.name-index c.loop-name.words.items c.deref.result.now c.loop-name-test.false c.loop-name.invariant c.deref.ensures.value c.requires.form)
    (subst (StopsAtWord (map string_bytes c.deref.result.now)) c.in-Err-Fault.field-0-is c.in-Err-Fault.ensures.fault).1
