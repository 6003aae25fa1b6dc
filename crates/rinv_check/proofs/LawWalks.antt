-- The walk along the laws, up to the first that is not shown.
--   laws-stop, laws-more, laws-end
use Rattle.std.proofs.Common.{◌≡◌, ℕ, ◌+◌, ◌<◌, ◌≤◌, List, [], ◌∷◌, get_or, Bool, true, false, not, Some, None, sym, ap, ◌∙◌}
use Rattle.std.specs.Prelude.{Option}
use Rattle.std.proofs.lemmas.List.{get_or-map}
use Rattle.rinv_defs.specs.Laws.{Law, all_laws}
use Rattle.rinv_defs.specs.Certificate.{Certificate}
use Rattle.rinv_defs.specs.Conditions.{law_is_shown, law_failure}
use Rattle.rinv_parts.specs.declared.law.LawName.{LawName}
use Rattle.rinv_parts.specs.declared.law.LawName.TheVariants.{L1 as N1, L2 as N2, L3 as N3, L4 as N4, L5 as N5, L6 as N6, A1 as M1, A2 as M2}
use Rattle.rinv_parts.specs.LawNames.{law_of}
use Rattle.rinv_identities.proofs.Walks.{Walks, walk-more, walk-stop, walk-end}

-- the laws by their names
abbrev names : List LawName
names = N1 ∷ N2 ∷ N3 ∷ N4 ∷ N5 ∷ N6 ∷ M1 ∷ M2 ∷ []

-- that at a place
abbrev named : ℕ → Law
named k = law_of (get_or names k N1)

law-at : (k : ℕ) → k < 8 → named k ≡ get_or all_laws k (named k)
law-at k few = sym (get_or-map law_of names k N1 (named k) few)

module _ (c : Certificate) (k : ℕ) (walk : Walks (λ law. not (law_is_shown c law)) all_laws k) where
  module _ (few : k < 8) (b : Bool) (is : b ≡ law_is_shown c (named k)) where
    pub laws-stop : b ≡ false → ◌≡◌ {A = Option ℕ} (Some (k + 1)) (law_failure c)
    unfolding law_failure
    laws-stop fails = sym (walk-stop (λ law. not (law_is_shown c law)) all_laws k (named k) few (law-at k few) (ap not (sym is ∙ fails)) walk)

    pub laws-more : b ≡ true → Walks (λ law. not (law_is_shown c law)) all_laws (k + 1)
    laws-more shown = walk-more (λ law. not (law_is_shown c law)) all_laws k (named k) few (law-at k few) (ap not (sym is ∙ shown)) walk

  pub laws-end : 8 ≤ k → ◌≡◌ {A = Option ℕ} None (law_failure c)
  unfolding law_failure
  laws-end past = sym (walk-end (λ law. not (law_is_shown c law)) all_laws k past walk)
