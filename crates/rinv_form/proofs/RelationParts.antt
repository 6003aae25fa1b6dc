-- The parts of a relation that have their form.
--   tail-lengths             the terms of the tail have as many exponents
--   a-lost, .., last-lost    a part has another form
--   relation-kept            all have their form
use Rattle.std.proofs.Common.{◌≡◌, ℕ, List, [], ◌∷◌, map, length, Bool, true, false, ◌&&◌, ◌==◌, nat_le, Option, Some, None, refl, sym, ap, ◌∙◌}
use Rattle.std.specs.Prelude.{All}
use Rattle.std.specs.List.{list_all}
use Rattle.std.proofs.lemmas.Bool.{eqb-true}
use Rattle.std.proofs.lemmas.List.Elements.{All-nil, All-cons}
use Rattle.rinv_algebra.proofs.Same.{both}
use Rattle.rinv_algebra.specs.Monomial.{total_degree, max_degree}
use Rattle.rinv_defs.specs.System.{Poly}
use Rattle.rinv_defs.specs.Format.{are_distinct}
use Rattle.rinv_cert.specs.declared.certificate.Tied.{Tied}
use Rattle.rinv_form.specs.Forms.{kept, each_stored, is_stored, are_stored}
use Rattle.rinv_form.specs.ItemForms.{are_exponents, is_stored_nonzero, is_tied_form, is_tail_form, is_relation_form}
use Rattle.rinv_form.specs.declared.sizes.Sizes.{Sizes}
use Rattle.rinv_form.proofs.Kept.{kept-some, kept-none, kept-holds}
use Rattle.rinv_form.proofs.KeptParts.{kept-false, kept-true, first-fails, last-fails, both-hold}
use Rattle.rinv_form.proofs.StoredLists.{each_stored-kept}

abbrev TailTerm : Type 0
TailTerm = List ℕ × Poly × Tied

abbrev Relation : Type 0
Relation = List ℕ × Poly × List TailTerm × List Poly

-- a list of terms that have their form
pub tail-lengths : (z : Sizes) (ts : List TailTerm) → list_all (is_tail_form z) ts ≡ true → All (λ t. length t.0 ≡ z.space) ts
tail-lengths z [] h = All-nil (λ (t : TailTerm). length t.0 ≡ z.space)
tail-lengths z (t ∷ ts) h =
    let parts = both (is_tail_form z t) (list_all (is_tail_form z) ts) h in
    let front = both (are_exponents z.space t.0 && is_stored z.field z.space t.1) (is_tied_form z t.2) parts.0 in
    let exponents = both (are_exponents z.space t.0) (is_stored z.field z.space t.1) front.0 in
    let many = both (length t.0 == z.space) (nat_le (total_degree t.0) max_degree) exponents.0 in
    All-cons (λ (t : TailTerm). length t.0 ≡ z.space) t ts (eqb-true _ _ many.0) (tail-lengths z ts parts.1)

-- the terms of a tail, one after the other
tail-kept : (z : Sizes) (ts : List TailTerm) → each_stored (λ t. kept (is_tail_form z t) t) ts ≡ kept (list_all (is_tail_form z) ts) ts
tail-kept z ts = each_stored-kept _ (is_tail_form z) (λ t. refl) ts

-- those that are stored
pub stored-lengths : (z : Sizes) (ts us : List TailTerm) → Some us ≡ each_stored (λ t. kept (is_tail_form z t) t) ts → All (λ t. length t.0 ≡ z.space) us
stored-lengths z ts us some =
    let here : Some us ≡ kept (list_all (is_tail_form z) ts) ts = some ∙ tail-kept z ts in
    rw (kept-some (list_all (is_tail_form z) ts) ts us here) (tail-lengths z ts (kept-holds (list_all (is_tail_form z) ts) ts us here))

module _ (z : Sizes) (r : Relation) where
  abbrev a_form : Bool
  a_form = are_exponents z.space r.0

  abbrev d_form : Bool
  d_form = is_stored_nonzero z.field z.space r.1

  abbrev tail_forms : Bool
  tail_forms = list_all (is_tail_form z) r.2

  abbrev apart : Bool
  apart = are_distinct (map (λ t. t.0) r.2)

  abbrev cofactors_form : Bool
  cofactors_form = are_stored z.field z.whole z.ideal r.3

  lost : is_relation_form z r ≡ false → None ≡ kept (is_relation_form z r) r
  lost h = kept-false (is_relation_form z r) r h

  pub a-lost : None ≡ kept a_form r.0 → None ≡ kept (is_relation_form z r) r
  a-lost none = lost (first-fails _ cofactors_form (first-fails _ apart (first-fails _ tail_forms (first-fails a_form d_form (kept-none a_form r.0 none)))))

  pub d-lost : None ≡ kept d_form r.1 → None ≡ kept (is_relation_form z r) r
  d-lost none = lost (first-fails _ cofactors_form (first-fails _ apart (first-fails _ tail_forms (last-fails a_form d_form (kept-none d_form r.1 none)))))

  pub tail-lost : None ≡ each_stored (λ t. kept (is_tail_form z t) t) r.2 → None ≡ kept (is_relation_form z r) r
  tail-lost none = lost (first-fails _ cofactors_form (first-fails _ apart (last-fails (a_form && d_form) tail_forms (kept-none tail_forms r.2 (none ∙ tail-kept z r.2)))))

  module _ (tail : List TailTerm) (some : Some tail ≡ each_stored (λ t. kept (is_tail_form z t) t) r.2) where
    same-tail : tail ≡ r.2
    same-tail = kept-some tail_forms r.2 tail (some ∙ tail-kept z r.2)

    pub apart-lost : are_distinct (map (λ t. t.0) tail) ≡ false → None ≡ kept (is_relation_form z r) r
    apart-lost h = lost (first-fails _ cofactors_form (last-fails (a_form && d_form && tail_forms) apart (ap (λ (ts : List TailTerm). are_distinct (map (λ t. t.0) ts)) (sym same-tail) ∙ h)))

    pub cofactors-lost : None ≡ kept cofactors_form r.3 → None ≡ kept (is_relation_form z r) r
    cofactors-lost none = lost (last-fails (a_form && d_form && tail_forms && apart) cofactors_form (kept-none cofactors_form r.3 none))

    pub relation-kept : are_distinct (map (λ t. t.0) tail) ≡ true → (a : List ℕ) → Some a ≡ kept a_form r.0 → (d : Poly) → Some d ≡ kept d_form r.1
        → (us : List Poly) → Some us ≡ kept cofactors_form r.3 → ◌≡◌ {A = Option Relation} (Some (a, d, tail, us)) (kept (is_relation_form z r) r)
    relation-kept h a ka d kd us ku =
        let holds : is_relation_form z r ≡ true =
        both-hold _ cofactors_form
        (both-hold _ apart (both-hold _ tail_forms (both-hold a_form d_form (kept-holds a_form r.0 a ka) (kept-holds d_form r.1 d kd)) (kept-holds tail_forms r.2 tail (some ∙ tail-kept z r.2)))
        (ap (λ (ts : List TailTerm). are_distinct (map (λ t. t.0) ts)) (sym same-tail) ∙ h))
        (kept-holds cofactors_form r.3 us ku) in
        rw (kept-some a_form r.0 a ka, kept-some d_form r.1 d kd, same-tail, kept-some cofactors_form r.3 us ku) (kept-true (is_relation_form z r) r holds)
