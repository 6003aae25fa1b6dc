-- The first condition that fails, kind by kind.
use Rattle.std.proofs.Common.{◌≡◌, ℕ, List, [], ◌∷◌, Option, Some, None, refl, sym, ap, ◌∙◌}
use Rattle.rinv_defs.specs.Certificate.{Certificate, Kind, invariance, sound, full}
use Rattle.rinv_defs.specs.Format.{format_failure}
use Rattle.rinv_defs.specs.Conditions.{law_is_shown, law_failure, basis_failure, inputs_failure, invariance_failure}
use Rattle.rinv_defs.specs.PairConditions.{pairs_failure}
use Rattle.rinv_defs.specs.RelationConditions.{relations_failure, leads_failure}
use Rattle.rinv_defs.specs.Accepted.{conditions_of, first_failing, first_failure}
use Rattle.rinv_form.specs.Trimmed.{keys_of_kind, trimmed}
use Rattle.rinv_form.proofs.TrimmedForms.{keys-form, form-of_kind}
use Rattle.rinv_check.specs.Verdicts.{or_after}

failing-after : (k : ℕ) (o : Option ℕ) (rest : List (ℕ × Option ℕ)) → first_failing ((k, o) ∷ rest) ≡ or_after k o (first_failing rest)
unfolding first_failing
failing-after k None rest = refl
failing-after k (Some i) rest = refl

failing-nothing : first_failing [] ≡ None
unfolding first_failing
failing-nothing = refl

of_a_kind : (c : Certificate) (k : Kind) → c.kind ≡ k → first_failure c ≡ first_failing (conditions_of k c)
unfolding first_failure
of_a_kind c k e = ap (λ k. first_failing (conditions_of k c)) e

stops : (o : Option ℕ) (rest : List (ℕ × Option ℕ)) (i : ℕ) → o ≡ Some i → first_failing ((1, o) ∷ rest) ≡ Some (1, i)
stops o rest i f = failing-after 1 o rest ∙ ap (λ o. or_after 1 o (first_failing rest)) f

-- the format fails
pub format_fails : (c : Certificate) (k : Kind) (i : ℕ) → c.kind ≡ k → format_failure c ≡ Some i → first_failure c ≡ Some (1, i)
format_fails c invariance i e f = of_a_kind c invariance e ∙ stops (format_failure c) ((8, invariance_failure c) ∷ []) i f
format_fails c sound i e f = of_a_kind c sound e ∙ stops (format_failure c) ((2, law_failure c) ∷ (8, invariance_failure c) ∷ []) i f
format_fails c full i e f = of_a_kind c full e ∙ stops (format_failure c) ((2, law_failure c) ∷ (3, basis_failure c) ∷ (4, inputs_failure c) ∷ (5, pairs_failure c) ∷ (6, relations_failure c) ∷ (7, leads_failure c) ∷ (8, invariance_failure c) ∷ []) i f

last : (c : Certificate) → first_failing ((8, invariance_failure c) ∷ []) ≡ or_after 8 (invariance_failure c) None
last c = failing-after 8 (invariance_failure c) [] ∙ ap (or_after 8 (invariance_failure c)) failing-nothing

-- it holds, and the others in turn
pub of_invariance : (c : Certificate) → c.kind ≡ invariance → format_failure c ≡ None → first_failure c ≡ or_after 8 (invariance_failure c) None
of_invariance c e f = of_a_kind c invariance e ∙ failing-after 1 (format_failure c) _ ∙ ap (λ o. or_after 1 o (first_failing ((8, invariance_failure c) ∷ []))) f ∙ last c

pub of_sound : (c : Certificate) → c.kind ≡ sound → format_failure c ≡ None → first_failure c ≡ or_after 2 (law_failure c) (or_after 8 (invariance_failure c) None)
of_sound c e f =
    of_a_kind c sound e ∙ failing-after 1 (format_failure c) _ ∙ ap (λ o. or_after 1 o (first_failing ((2, law_failure c) ∷ (8, invariance_failure c) ∷ []))) f
    ∙ failing-after 2 (law_failure c) _ ∙ ap (or_after 2 (law_failure c)) (last c)

-- the conditions from the third on
abbrev pub from_basis_on : Certificate → Option (ℕ × ℕ)
from_basis_on c = or_after 3 (basis_failure c) (or_after 4 (inputs_failure c) (or_after 5 (pairs_failure c) (or_after 6 (relations_failure c) (or_after 7 (leads_failure c) (or_after 8 (invariance_failure c) None)))))

pub of_full : (c : Certificate) → c.kind ≡ full → format_failure c ≡ None → first_failure c ≡ or_after 2 (law_failure c) (from_basis_on c)
of_full c e f =
    of_a_kind c full e ∙ failing-after 1 (format_failure c) _ ∙ ap (λ o. or_after 1 o (first_failing rest2)) f
    ∙ failing-after 2 (law_failure c) rest3 ∙ ap (or_after 2 (law_failure c))
    (failing-after 3 (basis_failure c) rest4 ∙ ap (or_after 3 (basis_failure c)) (failing-after 4 (inputs_failure c) rest5 ∙ ap (or_after 4 (inputs_failure c))
    (failing-after 5 (pairs_failure c) rest6 ∙ ap (or_after 5 (pairs_failure c)) (failing-after 6 (relations_failure c) rest7 ∙ ap (or_after 6 (relations_failure c))
    (failing-after 7 (leads_failure c) rest8 ∙ ap (or_after 7 (leads_failure c)) (last c))))))
  where
    rest8 : List (ℕ × Option ℕ)
    rest8 = (8, invariance_failure c) ∷ []

    rest7 : List (ℕ × Option ℕ)
    rest7 = (7, leads_failure c) ∷ rest8

    rest6 : List (ℕ × Option ℕ)
    rest6 = (6, relations_failure c) ∷ rest7

    rest5 : List (ℕ × Option ℕ)
    rest5 = (5, pairs_failure c) ∷ rest6

    rest4 : List (ℕ × Option ℕ)
    rest4 = (4, inputs_failure c) ∷ rest5

    rest3 : List (ℕ × Option ℕ)
    rest3 = (3, basis_failure c) ∷ rest4

    rest2 : List (ℕ × Option ℕ)
    rest2 = (2, law_failure c) ∷ rest3

-- ---- the keys that its kind does not have tell nothing

keys-full : (c : Certificate) → c.kind ≡ full → keys_of_kind full c ≡ c
keys-full c e = ap (λ (k : Kind). record { kind = k; system = c.system; fractions = c.fractions; invariance = c.invariance; laws = c.laws; basis = c.basis; inputs = c.inputs; pairs = c.pairs; relations = c.relations }) (sym e)

keys-failure : (k : Kind) (c : Certificate) → c.kind ≡ k → first_failure (keys_of_kind k c) ≡ first_failure c
unfolding first_failure law_failure law_is_shown invariance_failure
keys-failure invariance c e =
    ap (λ o. first_failing ((1, o) ∷ (8, invariance_failure c) ∷ [])) (keys-form invariance c ∙ sym (form-of_kind invariance c e)) ∙ sym (of_a_kind c invariance e)
keys-failure sound c e =
    ap (λ o. first_failing ((1, o) ∷ (2, law_failure c) ∷ (8, invariance_failure c) ∷ [])) (keys-form sound c ∙ sym (form-of_kind sound c e)) ∙ sym (of_a_kind c sound e)
keys-failure full c e = ap first_failure (keys-full c e)

pub first_failure-trimmed : (c : Certificate) → first_failure (trimmed c) ≡ first_failure c
first_failure-trimmed c = keys-failure c.kind c refl
