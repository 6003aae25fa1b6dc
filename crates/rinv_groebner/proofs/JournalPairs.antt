-- The pairs that stand in a journal are good in the list that it makes, and in each list that begins with it.
--   journal-good         the pairs of a journal
use Rattle.std.proofs.Common.{◌≡◌, ◌⊎◌, ℕ, ◌<◌, List, [], ◌∷◌, ◌++◌, length, append_assoc, get_or, sym, ◌∙◌, ap, ap₂, ◌+◌, subst₂, inl, inr, arith, IsTrue, true≢false}
use Rattle.std.specs.Prelude.{IsFalse, Some, None}
use Rattle.std.proofs.lemmas.List.{get_or-append-add}
use Rattle.std.specs.declared.cmp.Ordering.{Ordering}
use Rattle.rinv_algebra.specs.Ring.{RingOps, RingLaws, FieldLaws}
use Rattle.rinv_algebra.specs.Monomial.{divides, lcm, coprime}
use Rattle.rinv_algebra.specs.Polynomial.{Polynomial, is_zero}
use Rattle.rinv_groebner.specs.Orders.{OrdersMonomials}
use Rattle.rinv_groebner.specs.Settled.{is_listed, AreCoprime, HasChain}
use Rattle.rinv_groebner.specs.Journal.{Entry, Kind, reduced, coprime as coprime_kind, chain, pairs_of, Makes, Journal}
use Rattle.rinv_groebner.proofs.Pairs.{IsGood, good_sym}
use Rattle.rinv_groebner.proofs.ListElements.{AllFirst, Place, list_elements}
use Rattle.rinv_groebner.proofs.PairsOfLists.{coprime-good, chain-good}
use Rattle.rinv_groebner.proofs.JournalGood.{listed-append, same_lead, inside, zero-good, element-good}

module _ {E : Type 0} (o : RingOps E) (l : RingLaws o) (field : FieldLaws o) (cmp : List ℕ → List ℕ → Ordering) (v : ℕ) (order : OrdersMonomials cmp v)
    (final : List (Polynomial E)) (first : AllFirst o l v final) (nonzero : (k : ℕ) → k < length final → IsFalse (is_zero o (get_or final k []))) where
  abbrev Good : Place o final → Place o final → Type 0
  Good x y = IsGood (list_elements o l field cmp v order final first) x y

  -- the pairs of the journal are good, where the final list begins with the list that it makes
  abbrev GoodSoFar : List Entry → List (Polynomial E) → Type 0
  GoodSoFar journal list = (more : List (Polynomial E)) → final ≡ list ++ more → (x y : Place o final) → IsTrue (is_listed (pairs_of journal) x.0 y.0) → Good x y

  module _ (journal : List Entry) (list more : List (Polynomial E)) (whole : final ≡ list ++ more) (so_far : GoodSoFar journal list) (x y : Place o final) (low : x.0 < length list) (high : y.0 < length list) where
    coprime_pair : AreCoprime o cmp list x.0 y.0 → Good x y
    coprime_pair h = coprime-good o l field cmp v order final first x y
        (subst₂ (λ a b. IsTrue (coprime a b)) (sym (same_lead o l field cmp v order final first nonzero list more whole x.0 low)) (sym (same_lead o l field cmp v order final first nonzero list more whole y.0 high)) h)

    chain_pair : (by : ℕ) → HasChain o cmp list (pairs_of journal) x.0 y.0 by → Good x y
    chain_pair by h =
        let z : Place o final = (by, nonzero by (inside o l field cmp v order final first nonzero list more whole by h.inside)) in
        chain-good o l field cmp v order final first x y z
        (subst₂ (λ a b. IsTrue (divides a b)) (sym (same_lead o l field cmp v order final first nonzero list more whole by h.inside))
        (sym (ap₂ lcm (same_lead o l field cmp v order final first nonzero list more whole x.0 low) (same_lead o l field cmp v order final first nonzero list more whole y.0 high))) h.divides)
        (so_far more whole x z h.with_first) (so_far more whole z y h.with_second)

  -- what an entry makes of the list is the list, or one element more
  made_front : (journal : List Entry) (list : List (Polynomial E)) (i j count : ℕ) (kind : Kind) (made more : List (Polynomial E)) → Makes o cmp journal list i j count kind made → final ≡ made ++ more → (rest : List (Polynomial E)) × (final ≡ list ++ rest)
  made_front journal list i j count (reduced None) made more m e = (more, e ∙ ap (λ (xs : List (Polynomial E)). xs ++ more) m.0)
  made_front journal list i j count (reduced (Some at)) made more (_, rest, _, _, w) e = (rest ∷ more, e ∙ ap (λ (xs : List (Polynomial E)). xs ++ more) w ∙ append_assoc list (rest ∷ []) more)
  made_front journal list i j count coprime_kind made more m e = (more, e ∙ ap (λ (xs : List (Polynomial E)). xs ++ more) m.0)
  made_front journal list i j count (chain by) made more m e = (more, e ∙ ap (λ (xs : List (Polynomial E)). xs ++ more) m.0)

  -- the pair of an entry is good
  entry-good : (journal : List Entry) (list made more : List (Polynomial E)) (kind : Kind) (count : ℕ) (x y : Place o final) → x.0 < length list → y.0 < length list → Makes o cmp journal list x.0 y.0 count kind made → final ≡ made ++ more → GoodSoFar journal list → Good x y
  entry-good journal list made more (reduced None) count x y low high (same, rest, r, z) e so_far =
      zero-good o l field cmp v order final first nonzero list more (e ∙ ap (λ (xs : List (Polynomial E)). xs ++ more) same) x y low high count rest r z
  entry-good journal list made more (reduced (Some at)) count x y low high (_, rest, r, n, w) e so_far =
      let whole : final ≡ list ++ rest ∷ more = e ∙ ap (λ (xs : List (Polynomial E)). xs ++ more) w ∙ append_assoc list (rest ∷ []) more in
      let here : get_or final (length list + 0) [] ≡ rest = ap (λ (xs : List (Polynomial E)). get_or xs (length list + 0) []) whole ∙ get_or-append-add list (rest ∷ more) 0 [] in
      element-good o l field cmp v order final first nonzero list (rest ∷ more) whole x y low high count rest r (length list + 0, ap (is_zero o) here ∙ n) here
  entry-good journal list made more coprime_kind count x y low high (same, h, _) e so_far =
      coprime_pair journal list more (e ∙ ap (λ (xs : List (Polynomial E)). xs ++ more) same) so_far x y low high h
  entry-good journal list made more (chain by) count x y low high (same, h, _) e so_far =
      chain_pair journal list more (e ∙ ap (λ (xs : List (Polynomial E)). xs ++ more) same) so_far x y low high by h

  -- the pairs of a journal are good
  pub journal-good : {given : List (Polynomial E)} {journal : List Entry} {list : List (Polynomial E)} → Journal o cmp given journal list → (more : List (Polynomial E)) → final ≡ list ++ more → (x y : Place o final) → IsTrue (is_listed (pairs_of journal) x.0 y.0) → Good x y
  journal-good (Journal.begin list s) more whole x y h = absurd (true≢false (sym h))
  journal-good (Journal.enter journal list e made j entry) more whole x y h = go (journal-good j) (listed-append journal e x.0 y.0 h)
    where
      pair : GoodSoFar journal list → (x y : Place o final) → x.0 ≡ e.first → y.0 ≡ e.second → Good x y
      pair so_far x y p q = entry-good journal list made more e.kind e.steps x y (omega (arith, p, entry.open_pair.ascending, entry.open_pair.inside)) (omega (arith, q, entry.open_pair.inside))
          (subst₂ (λ (i j : ℕ). Makes o cmp journal list i j e.steps e.kind made) (sym p) (sym q) entry.makes) whole so_far

      go : GoodSoFar journal list → IsTrue (is_listed (pairs_of journal) x.0 y.0) ⊎ ((x.0 ≡ e.first) × (y.0 ≡ e.second)) ⊎ ((x.0 ≡ e.second) × (y.0 ≡ e.first)) → Good x y
      go so_far (inl earlier) = let f = made_front journal list e.first e.second e.steps e.kind made more entry.makes whole in so_far f.0 f.1 x y earlier
      go so_far (inr (inl p)) = pair so_far x y p.0 p.1
      go so_far (inr (inr p)) = good_sym (list_elements o l field cmp v order final first) y x (pair so_far y x p.1 p.0)
