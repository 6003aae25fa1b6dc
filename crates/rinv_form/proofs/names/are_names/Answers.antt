use Rattle.std.proofs.Common.{◌≡◌, ◌+◌, ◌<◌, ◌++◌, [], ◌∷◌, ◌∙◌, ◌&&◌, List, ℕ, true, false, length, get_or, take, drop, refl, ap, sym, take_all}
use Rattle.std.proofs.lemmas.List.{take_more, take-append-drop}
use Rattle.rinv_defs.specs.Names.{are_names}
use Rattle.rinv_text.specs.Names.{is_new_name}
use Rattle.rinv_text.proofs.NamesInTurn.{are_names-push, are_names-front}
use Rattle.rinv_form.proofs.names.are_names.Goals as goal

module _ (earlier names before : List (List ℕ)) (k : ℕ) (w : List ℕ) (within : k < length names) (is : w ≡ get_or names k w) (front : before ≡ take k names) (form : are_names earlier (take k names) ≡ true) where
  judged : are_names earlier (take (k + 1) names) ≡ is_new_name (before ++ earlier) w
  judged =
      ap (are_names earlier) (take_more names k w within ∙ ap (λ v. take k names ++ v ∷ []) (sym is)) ∙ are_names-push earlier (take k names) w
      ∙ ap (λ t. t && is_new_name (take k names ++ earlier) w) form ∙ ap (λ vs. is_new_name (vs ++ earlier) w) (sym front)

  go_on : is_new_name (before ++ earlier) w ≡ true → are_names earlier (take (k + 1) names) ≡ true
  go_on new = judged ∙ new

  stop : is_new_name (before ++ earlier) w ≡ false → are_names earlier names ≡ false
  stop old = ap (are_names earlier) (sym (take-append-drop (k + 1) names)) ∙ are_names-front earlier (take (k + 1) names) (drop (k + 1) names) (judged ∙ old)

pub loop-place-init : goal.loop-place-init
unfolding are_names
loop-place-init c = refl

pub returns-then-not-is_new_name : goal.returns-then-not-is_new_name
returns-then-not-is_new_name c =
    sym (stop c.args.earlier.now c.args.names.now _ _ _ c.loop-place-test.true c.index-names-place.is c.split_at.ensures.front c.loop-place.invariant (sym c.if-not-is_new_name.ensures))

pub loop-place-preserved : goal.loop-place-preserved
loop-place-preserved c =
    go_on c.args.earlier.now c.args.names.now _ _ _ c.loop-place-test.true c.index-names-place.is c.split_at.ensures.front c.loop-place.invariant (sym c.if-not-is_new_name.ensures)

pub returns : goal.returns
returns c = sym (ap (are_names c.args.earlier.now) (sym (take_all _ c.args.names.now c.loop-place-test.false)) ∙ c.loop-place.invariant)
