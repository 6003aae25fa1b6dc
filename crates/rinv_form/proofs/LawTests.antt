-- The cofactors of six laws, one list after the other.
--   other-number           another number of lists
--   lost-2, .., lost-a2    the list of a law has another form
--   six-kept               all have their form
use Rattle.std.proofs.Common.{◌≡◌, ℕ, ◌<◌, List, [], ◌∷◌, length, get_or, Bool, true, false, ◌&&◌, ◌==◌, Some, None, refl, sym, ap, ◌∙◌, arith}
use Rattle.std.proofs.lemmas.Bool.Decides.{nat_tests}
use Rattle.std.proofs.lemmas.List.{get_or_read}
use Rattle.rinv_defs.specs.System.{Poly}
use Rattle.rinv_defs.specs.Laws.{Law, L2, L3, L4, L5, L6, A2}
use Rattle.rinv_form.specs.Forms.{kept}
use Rattle.rinv_form.specs.LawShapes.{is_law_list, are_law_lists}
use Rattle.rinv_form.specs.declared.sizes.Sizes.{Sizes}
use Rattle.rinv_form.proofs.Kept.{kept-some, kept-none, kept-holds}
use Rattle.rinv_form.proofs.KeptParts.{kept-false, kept-true, first-fails, last-fails, both-hold}

abbrev Arrays : Type 0
Arrays = List (List Poly)

differs : (n : ℕ) → (n ≡ 6 → ⊥) → (n == 6) ≡ false
differs n h = grind (arith, nat_tests, h)

-- another number of lists
pub other-number : (z : Sizes) (lists : List Arrays) → (length lists ≡ 6 → ⊥) → None ≡ kept (are_law_lists z lists) lists
other-number z lists many = kept-false (are_law_lists z lists) lists (first-fails (length lists == 6) _ (differs (length lists) many))

module _ (z : Sizes) (lists : List Arrays) (six : length lists ≡ 6) where
  -- the test of the list at a place
  abbrev test : ℕ → Law → Bool
  test k law = is_law_list z (law, get_or lists k [])

  abbrev tests : Bool
  tests = test 0 L2 && (test 1 L3 && (test 2 L4 && (test 3 L5 && (test 4 L6 && (test 5 A2 && true)))))

  six-tests : are_law_lists z lists ≡ tests
  six-tests = go lists six
    where
      go : (xs : List Arrays) → length xs ≡ 6 → are_law_lists z xs
          ≡ (is_law_list z (L2, get_or xs 0 []) && (is_law_list z (L3, get_or xs 1 []) && (is_law_list z (L4, get_or xs 2 []) && (is_law_list z (L5, get_or xs 3 []) && (is_law_list z (L6, get_or xs 4 []) && (is_law_list z (A2, get_or xs 5 []) && true))))))
      go [] h = absurd (omega (arith, h))
      go (a ∷ []) h = absurd (omega (arith, h))
      go (a ∷ b ∷ []) h = absurd (omega (arith, h))
      go (a ∷ b ∷ c ∷ []) h = absurd (omega (arith, h))
      go (a ∷ b ∷ c ∷ d ∷ []) h = absurd (omega (arith, h))
      go (a ∷ b ∷ c ∷ d ∷ e ∷ []) h = absurd (omega (arith, h))
      go (a ∷ b ∷ c ∷ d ∷ e ∷ f ∷ []) h = refl
      go (a ∷ b ∷ c ∷ d ∷ e ∷ f ∷ g ∷ xs) h = absurd (omega (arith, h))

  are-six : lists ≡ get_or lists 0 [] ∷ get_or lists 1 [] ∷ get_or lists 2 [] ∷ get_or lists 3 [] ∷ get_or lists 4 [] ∷ get_or lists 5 [] ∷ []
  are-six = go lists six
    where
      go : (xs : List Arrays) → length xs ≡ 6 → xs ≡ get_or xs 0 [] ∷ get_or xs 1 [] ∷ get_or xs 2 [] ∷ get_or xs 3 [] ∷ get_or xs 4 [] ∷ get_or xs 5 [] ∷ []
      go [] h = absurd (omega (arith, h))
      go (a ∷ []) h = absurd (omega (arith, h))
      go (a ∷ b ∷ []) h = absurd (omega (arith, h))
      go (a ∷ b ∷ c ∷ []) h = absurd (omega (arith, h))
      go (a ∷ b ∷ c ∷ d ∷ []) h = absurd (omega (arith, h))
      go (a ∷ b ∷ c ∷ d ∷ e ∷ []) h = absurd (omega (arith, h))
      go (a ∷ b ∷ c ∷ d ∷ e ∷ f ∷ []) h = refl
      go (a ∷ b ∷ c ∷ d ∷ e ∷ f ∷ g ∷ xs) h = absurd (omega (arith, h))

  lost : tests ≡ false → None ≡ kept (are_law_lists z lists) lists
  lost h = kept-false (are_law_lists z lists) lists (six-tests ∙ h)

  -- the list at a place that was read
  module _ (k : ℕ) (law : Law) (x : Arrays) (within : k < 6) (is : x ≡ get_or lists k x) where
    read : x ≡ get_or lists k []
    read = get_or_read lists k x (omega (arith, within, six)) is []

    fails : None ≡ kept (is_law_list z (law, x)) x → test k law ≡ false
    fails none = ap (λ (y : Arrays). is_law_list z (law, y)) (sym read) ∙ kept-none (is_law_list z (law, x)) x none

    module _ (y : Arrays) (some : Some y ≡ kept (is_law_list z (law, x)) x) where
      holds : test k law ≡ true
      holds = ap (λ (y : Arrays). is_law_list z (law, y)) (sym read) ∙ kept-holds (is_law_list z (law, x)) x y some

      stays : y ≡ get_or lists k []
      stays = kept-some (is_law_list z (law, x)) x y some ∙ read

  pub lost-2 : (x : Arrays) → x ≡ get_or lists 0 x → None ≡ kept (is_law_list z (L2, x)) x → None ≡ kept (are_law_lists z lists) lists
  lost-2 x is none = lost (first-fails (test 0 L2) _ (fails 0 L2 x (omega arith) is none))

  pub lost-3 : (x : Arrays) → x ≡ get_or lists 1 x → None ≡ kept (is_law_list z (L3, x)) x → None ≡ kept (are_law_lists z lists) lists
  lost-3 x is none = lost (last-fails (test 0 L2) _ (first-fails (test 1 L3) _ (fails 1 L3 x (omega arith) is none)))

  pub lost-4 : (x : Arrays) → x ≡ get_or lists 2 x → None ≡ kept (is_law_list z (L4, x)) x → None ≡ kept (are_law_lists z lists) lists
  lost-4 x is none = lost (last-fails (test 0 L2) _ (last-fails (test 1 L3) _ (first-fails (test 2 L4) _ (fails 2 L4 x (omega arith) is none))))

  pub lost-5 : (x : Arrays) → x ≡ get_or lists 3 x → None ≡ kept (is_law_list z (L5, x)) x → None ≡ kept (are_law_lists z lists) lists
  lost-5 x is none = lost (last-fails (test 0 L2) _ (last-fails (test 1 L3) _ (last-fails (test 2 L4) _ (first-fails (test 3 L5) _ (fails 3 L5 x (omega arith) is none)))))

  pub lost-6 : (x : Arrays) → x ≡ get_or lists 4 x → None ≡ kept (is_law_list z (L6, x)) x → None ≡ kept (are_law_lists z lists) lists
  lost-6 x is none = lost (last-fails (test 0 L2) _ (last-fails (test 1 L3) _ (last-fails (test 2 L4) _ (last-fails (test 3 L5) _ (first-fails (test 4 L6) _ (fails 4 L6 x (omega arith) is none))))))

  pub lost-a2 : (x : Arrays) → x ≡ get_or lists 5 x → None ≡ kept (is_law_list z (A2, x)) x → None ≡ kept (are_law_lists z lists) lists
  lost-a2 x is none = lost (last-fails (test 0 L2) _ (last-fails (test 1 L3) _ (last-fails (test 2 L4) _ (last-fails (test 3 L5) _ (last-fails (test 4 L6) _ (first-fails (test 5 A2) _ (fails 5 A2 x (omega arith) is none)))))))

  -- each list was read and has its form
  pub six-kept : (a b c d e f : Arrays) → a ≡ get_or lists 0 a → b ≡ get_or lists 1 b → c ≡ get_or lists 2 c → d ≡ get_or lists 3 d → e ≡ get_or lists 4 e → f ≡ get_or lists 5 f
      → (a' b' c' d' e' f' : Arrays)
      → Some a' ≡ kept (is_law_list z (L2, a)) a → Some b' ≡ kept (is_law_list z (L3, b)) b → Some c' ≡ kept (is_law_list z (L4, c)) c
      → Some d' ≡ kept (is_law_list z (L5, d)) d → Some e' ≡ kept (is_law_list z (L6, e)) e → Some f' ≡ kept (is_law_list z (A2, f)) f
      → (stored : List Arrays) → stored ≡ a' ∷ b' ∷ c' ∷ d' ∷ e' ∷ f' ∷ [] → Some stored ≡ kept (are_law_lists z lists) lists
  six-kept a b c d e f ia ib ic id ie ig a' b' c' d' e' f' ka kb kc kd ke kf stored is =
      let all : tests ≡ true =
      both-hold (test 0 L2) _ (holds 0 L2 a (omega arith) ia a' ka)
      (both-hold (test 1 L3) _ (holds 1 L3 b (omega arith) ib b' kb)
      (both-hold (test 2 L4) _ (holds 2 L4 c (omega arith) ic c' kc)
      (both-hold (test 3 L5) _ (holds 3 L5 d (omega arith) id d' kd) (both-hold (test 4 L6) _ (holds 4 L6 e (omega arith) ie e' ke) (both-hold (test 5 A2) true (holds 5 A2 f (omega arith) ig f' kf) refl))))) in
      let same : stored ≡ lists =
      is ∙ six-same a' b' c' d' e' f' _ _ _ _ _ _ (stays 0 L2 a (omega arith) ia a' ka) (stays 1 L3 b (omega arith) ib b' kb) (stays 2 L4 c (omega arith) ic c' kc)
      (stays 3 L5 d (omega arith) id d' kd) (stays 4 L6 e (omega arith) ie e' ke) (stays 5 A2 f (omega arith) ig f' kf)
      ∙ sym are-six in
      ap Some same ∙ kept-true (are_law_lists z lists) lists (six-tests ∙ all)
    where
      six-same : (a b c d e f p q r s t u : Arrays) → a ≡ p → b ≡ q → c ≡ r → d ≡ s → e ≡ t → f ≡ u → Path (List Arrays) (a ∷ b ∷ c ∷ d ∷ e ∷ f ∷ []) (p ∷ q ∷ r ∷ s ∷ t ∷ u ∷ [])
      six-same a b c d e f p q r s t u ea eb ec ed ee ef = rw (ea, eb, ec, ed, ee, ef) refl
