-- The tests of the terms of a tail.
--   is_shown                   a term is below the lead, and its coefficient is what it is tied to
--   shown-more, shown-stop     one term more
--   shown-all                  all of them
use Rattle.std.proofs.Common.{◌≡◌, ℕ, ◌+◌, ◌<◌, ◌≤◌, Bool, true, false, ◌&&◌, List, [], ◌∷◌, ◌++◌, length, get_or, take, refl, sym, ap, ◌∙◌}
use Rattle.std.specs.List.{list_all}
use Rattle.std.specs.Ordering.{is_lt}
use Rattle.std.proofs.lemmas.List.{take_all, take_more}
use Rattle.std.proofs.lemmas.List.Folds.{list_all-append, list_all-map, list_all_at}
use Rattle.rinv_algebra.specs.Order.{grevlex}
use Rattle.rinv_algebra.proofs.Same.{and_true}
use Rattle.rinv_defs.specs.System.{Poly}
use Rattle.rinv_defs.specs.Certificate.{Certificate}
use Rattle.rinv_defs.specs.RelationConditions.{is_tied_to}
use Rattle.rinv_cert.specs.declared.certificate.Tied.{Tied}
use Rattle.rinv_cert.specs.Seen.{tied_of, tail_item_by, relation_item_by}
use Rattle.rinv_basis_check.specs.Relations.{tails_are}

module _ (c : Certificate) (a : List ℕ) (d : Poly) where
  -- a term is below the lead, and its coefficient is what it is tied to
  abbrev pub is_shown : List ℕ × Poly × Tied → Bool
  is_shown t = is_lt (grevlex t.0 a) && is_tied_to c d t.1 (tied_of t.2)

  module _ (ts : List (List ℕ × Poly × Tied)) (k : ℕ) (t : List ℕ × Poly × Tied) (few : k < length ts) (at : t ≡ get_or ts k t) where
    pub shown-more : is_lt (grevlex t.0 a) ≡ true → is_tied_to c d t.1 (tied_of t.2) ≡ true → list_all is_shown (take k ts) ≡ true → list_all is_shown (take (k + 1) ts) ≡ true
    shown-more below tied so_far =
        let step : take (k + 1) ts ≡ take k ts ++ t ∷ [] = take_more ts k t few ∙ ap (λ u. take k ts ++ u ∷ []) (sym at) in
        rw (step, list_all-append is_shown (take k ts) (t ∷ []))
        (and_true (list_all is_shown (take k ts)) (is_shown t && true) so_far (and_true (is_shown t) true (and_true (is_lt (grevlex t.0 a)) (is_tied_to c d t.1 (tied_of t.2)) below tied) refl))

    stops : (us : List Poly) → is_shown t ≡ false → false ≡ tails_are c (relation_item_by (λ f. f) (a, d, ts, us))
    stops us off = sym (list_all-map (λ t. is_lt (grevlex t.alpha a) && is_tied_to c d t.c t.tied) (tail_item_by (λ f. f)) ts ∙ list_all_at is_shown ts k t few (sym (sym off ∙ ap is_shown at)))

    pub above-stops : (us : List Poly) → false ≡ is_lt (grevlex t.0 a) → false ≡ tails_are c (relation_item_by (λ f. f) (a, d, ts, us))
    above-stops us off = stops us (sym (ap (λ (b : Bool). b && is_tied_to c d t.1 (tied_of t.2)) off))

    pub untied-stops : (us : List Poly) → true ≡ is_lt (grevlex t.0 a) → false ≡ is_tied_to c d t.1 (tied_of t.2) → false ≡ tails_are c (relation_item_by (λ f. f) (a, d, ts, us))
    untied-stops us below off = stops us (rw (← below, ← off) refl)

  pub shown-all : (ts : List (List ℕ × Poly × Tied)) (us : List Poly) (k : ℕ) → length ts ≤ k → list_all is_shown (take k ts) ≡ true → true ≡ tails_are c (relation_item_by (λ f. f) (a, d, ts, us))
  shown-all ts us k past all = sym (list_all-map (λ t. is_lt (grevlex t.alpha a) && is_tied_to c d t.c t.tied) (tail_item_by (λ f. f)) ts ∙ sym (ap (list_all is_shown) (take_all k ts past)) ∙ all)
