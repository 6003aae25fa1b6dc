-- Lists of abbreviations.
--   none-defined, one-more     they stay apart and bounded
--   defined-stands             what is kept of one
--   name-absent, names-more, names-all    their names, one by one
use Rattle.std.proofs.Common.{◌≡◌, ℕ, ◌+◌, ◌<◌, ◌≤◌, length, get_or, take, take_all, arith, ap, ap₂, List, [], ◌∷◌, ◌++◌, map, Bool, true, false, ◌||◌, refl, sym, subst, ◌∙◌, Some, bytes_eq, inl, inr, true≢false}
use Rattle.std.specs.List.{list_any, IsDistinct, AllByRecursion}
use Rattle.std.proofs.lemmas.Bool.{cases_Bool}
use Rattle.std.proofs.lemmas.Slice.Eq.{bytes_eq-Decides}
use Rattle.std.proofs.lemmas.List.{get_or-map, length-map, take_more}
use Rattle.std.proofs.lemmas.List.Elements.{All-nil, All-push}
use Rattle.rinv_algebra.specs.Residue.{residue_ops}
use Rattle.rinv_algebra.specs.Polynomial.{Polynomial}
use Rattle.rinv_algebra.proofs.ResidueLaws.{residue_laws}
use Rattle.rinv_poly.proofs.Gather.{same-refl}
use Rattle.rinv_frac.specs.Fractions.{IsStored}
use Rattle.rinv_frac.proofs.Stored.{stored}
use Rattle.rinv_text.specs.declared.partial.Partial.{Partial}
use Rattle.rinv_text.specs.Reading.{Definition, IsBounded, AreDefinitions}
use Rattle.rinv_text.proofs.Absent.{Absent, Absent-earlier}
use Rattle.rinv_text.specs.Values.{IsStored as IsKept, Stands}
use Rattle.rinv_text.specs.Meanings.{defined_meaning, StandsFor}

-- no abbreviation
pub none-defined : (defs : List Definition) → defs ≡ [] → AreDefinitions defs
unfolding IsDistinct
none-defined [] e = record { distinct = tt; bounded = All-nil IsBounded }
none-defined (d ∷ defs) e = cc

flipped : (v w : List ℕ) → bytes_eq v w ≡ false → bytes_eq w v ≡ false
flipped v w off = elim (cases_Bool (bytes_eq w v)) [
  | inl here ↦ absurd (true≢false (sym ((bytes_eq-Decides v w).1 (sym ((bytes_eq-Decides w v).0 here))) ∙ off))
  | inr e ↦ e
]

either-false : (a b : Bool) → (a || b) ≡ false → (a ≡ false) × (b ≡ false)
either-false true b e = cc
either-false false b e = (refl, e)

-- a name that is none of them stands behind them
apart-behind : (v : List ℕ) (d : Definition) (defs : List Definition) → AllByRecursion (λ w. bytes_eq v w ≡ false) (map (λ e. e.name) defs) → bytes_eq v d.name ≡ false → AllByRecursion (λ w. bytes_eq v w ≡ false) (map (λ e. e.name) (defs ++ d ∷ []))
apart-behind v d [] h off = (off, tt)
apart-behind v d (e ∷ defs) (x, h) off = (x, apart-behind v d defs h off)

distinct-behind : (d : Definition) (defs : List Definition) → IsDistinct bytes_eq (map (λ e. e.name) defs) → list_any (λ e. bytes_eq d.name e.name) defs ≡ false → IsDistinct bytes_eq (map (λ e. e.name) (defs ++ d ∷ []))
unfolding IsDistinct
distinct-behind d [] h off = (tt, tt)
distinct-behind d (e ∷ defs) (x, h) off =
    let (here, later) = either-false (bytes_eq d.name e.name) (list_any (λ e. bytes_eq d.name e.name) defs) off in
    (apart-behind e.name d defs x (flipped d.name e.name here), distinct-behind d defs h later)

-- one more
pub one-more : (old new : List Definition) (d : Definition) → new ≡ old ++ d ∷ [] → AreDefinitions old → list_any (λ e. bytes_eq d.name e.name) old ≡ false → IsBounded d → AreDefinitions new
one-more old new d e h off low = rw e (record { distinct = distinct-behind d old h.distinct off; bounded = All-push IsBounded old d h.bounded low })

-- what is kept of an abbreviation stands for it
pub defined-stands : (p v : ℕ) (d : Definition) (num den : Polynomial ℕ) (kept : Partial) → IsStored p v d.value → IsBounded d → num ≡ d.value.0 → den ≡ d.value.1 → ((e : ℕ) (g : Polynomial ℕ) → IsKept p v e g num → Stands p v e g kept)
    → StandsFor p v (record { num = kept; den = Some den; by_zero = false }) (defined_meaning d)
defined-stands p v d num den kept s low en ed stands = record {
  num = stands d.formal.num_degree d.value.0 (subst (λ r. IsKept p v d.formal.num_degree d.value.0 r) (sym en) (record { normal = (stored p v d.value s).numerator; low = low.numerator; value = same-refl (residue_ops p) (residue_laws p) d.value.0 }));
  den = subst (λ r. IsKept p v d.formal.den_degree d.value.1 r) (sym ed) (record { normal = (stored p v d.value s).denominator; low = low.denominator; value = same-refl (residue_ops p) (residue_laws p) d.value.1 });
  by_zero = refl;
}

-- ---- their names, one by one

module _ (defs : List Definition) (k : ℕ) (d : Definition) (w : List ℕ) (within : k < length defs) (is : d ≡ get_or defs k d) (named : w ≡ d.name) where
  abbrev names : List (List ℕ)
  names = map (λ (e : Definition). e.name) defs

  place : k < length names
  place = omega (arith, within, length-map defs (λ (e : Definition). e.name))

  word : w ≡ get_or names k w
  word = named ∙ ap (λ (e : Definition). e.name) is ∙ sym (get_or-map (λ (e : Definition). e.name) defs k d w within)

  -- the next stands nowhere before
  pub name-absent : (text : List ℕ) (so_far : List (List ℕ)) → text ≡ w → so_far ≡ take k names → IsDistinct bytes_eq names → Absent text so_far
  name-absent text so_far copy are distinct = ap₂ (λ (v : List ℕ) (vs : List (List ℕ)). list_any (bytes_eq v) vs) (copy ∙ word) are ∙ Absent-earlier names k w distinct place

  -- and is one more
  pub names-more : (text : List ℕ) (so_far next : List (List ℕ)) → text ≡ w → so_far ≡ take k names → next ≡ so_far ++ text ∷ [] → next ≡ take (k + 1) names
  names-more text so_far next copy are pushed = pushed ∙ ap₂ (λ (vs : List (List ℕ)) (v : List ℕ). vs ++ v ∷ []) are (copy ∙ word) ∙ sym (take_more names k w place)

pub names-all : (defs : List Definition) (k : ℕ) (so_far : List (List ℕ)) → so_far ≡ take k (map (λ d. d.name) defs) → length defs ≤ k → so_far ≡ map (λ d. d.name) defs
names-all defs k so_far are all = are ∙ take_all k (map (λ d. d.name) defs) (omega (arith, all, length-map defs (λ (e : Definition). e.name)))
