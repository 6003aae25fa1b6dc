-- The rows of the inputs.
--   entry-at             an entry of a unit row
--   row-past             a unit row whose place is past its end
--   zero-left, zero-right    whether a generator is zero: one of the group's ideal, or a Zj - gj
--   zero-row, unit-at    one row more
--   count-zero, count-more    the place of the next generator that is not zero
use Rattle.std.proofs.Common.{◌≡◌, ℕ, ◌+◌, ◌-◌, ◌<◌, ◌≤◌, Bool, true, false, cond, not, List, [], ◌∷◌, ◌++◌, length, length-append, get_or, take, replicate, sym, ◌∙◌, ap, arith, inl, inr}
use Rattle.std.specs.Prelude.{◌==◌, if◌then◌else◌, set}
use Rattle.std.proofs.lemmas.Bool.{cases_eq}
use Rattle.std.proofs.lemmas.Bool.Decides.{nat_tests}
use Rattle.std.proofs.lemmas.List.{length-set, length-replicate, get_or-replicate, get_or-set_same, get_or-set_other, set_past, get_or_append_left, get_or-append-add, get_or_default}
use Rattle.std.proofs.lemmas.List.FromFn.{get_or-map-range_with_len, length-map-range_with_len}
use Rattle.std.proofs.lemmas.List.Elements.{filter-append}
use Rattle.rinv_algebra.specs.Residue.{residue_ops}
use Rattle.rinv_algebra.specs.Polynomial.{is_zero}
use Rattle.rinv_groebner.specs.Journal.{nonzeros}
use Rattle.rinv_sub.proofs.Sums.{take-at}
use Rattle.rinv_defs.specs.System.{System, Poly, space_count}
use Rattle.rinv_defs.specs.SystemForm.{IsSystem}
use Rattle.rinv_defs.specs.Extended.{graph}
use Rattle.rinv_soundness.proofs.SystemForms.{system_form}
use Rattle.rinv_acceptance.proofs.LawForms.{graph_exact}
use Rattle.rinv_acceptance.specs.Inputs.{stored_one, unit_row, input_row, input_rows}
use Rattle.rinv_certify.proofs.GraphNonzero.{graph_nonzero}

-- ---- one row

-- an entry of a unit row
pub entry-at : (u : Poly) (b k place : ℕ) (f : Poly) → k < b → f ≡ (if k == place then u else []) → f ≡ get_or (set (replicate b []) place u) k f
entry-at u b k place f h is = elim (cases_eq k place) [
  | inl same ↦
      let e : (k == place) ≡ true = grind (arith, nat_tests, same) in
      is ∙ ap (λ (t : Bool). cond t u []) e ∙ sym (get_or-set_same (replicate b []) k u f (omega (arith, length-replicate {A = Poly} b [], h))) ∙ ap (λ (j : ℕ). get_or (set (replicate b []) j u) k f) same
  | inr other ↦
      let e : (k == place) ≡ false = grind (arith, nat_tests, other) in
      is ∙ ap (λ (t : Bool). cond t u []) e ∙ sym (get_or-replicate b k [] f h) ∙ sym (get_or-set_other (replicate b []) place k u f other)
]

-- a unit row whose place is past its end
pub row-past : (s : System) (b : ℕ) → unit_row s b b ≡ replicate b []
row-past s b = set_past (replicate b []) b (stored_one s) (omega (arith, length-replicate {A = Poly} b []))

pub row-length : (s : System) (b k : ℕ) → length (unit_row s b k) ≡ b
row-length s b k = length-set (replicate b []) k (stored_one s) ∙ length-replicate {A = Poly} b []

-- ---- whether a generator is zero

module _ (s : System) where
  pub zero-left : (k : ℕ) (f : Poly) → k < length s.ideal → f ≡ get_or s.ideal k f → is_zero (residue_ops s.p) f ≡ is_zero (residue_ops s.p) (get_or (s.ideal ++ graph s) k [])
  zero-left k f h at = ap (is_zero (residue_ops s.p)) (at ∙ get_or_default s.ideal k f [] h ∙ sym (get_or_append_left s.ideal (graph s) [] k h))

  pub zero-right : (k : ℕ) → IsSystem s → length s.ideal ≤ k → k < length s.ideal + space_count s → is_zero (residue_ops s.p) (get_or (s.ideal ++ graph s) k []) ≡ false
  zero-right k is past h =
      let e : length s.ideal + (k - length s.ideal) ≡ k = omega (arith, past) in
      ap (λ (j : ℕ). is_zero (residue_ops s.p) (get_or (s.ideal ++ graph s) j [])) (sym e) ∙ ap (is_zero (residue_ops s.p)) (get_or-append-add s.ideal (graph s) (k - length s.ideal) [])
      ∙ graph_nonzero s is (k - length s.ideal) (omega (arith, past, h))

-- ---- the rows

module _ (s : System) (b : ℕ) (given : List Poly) where
  pub rows-length : length (input_rows s b given) ≡ length given
  rows-length = length-map-range_with_len (input_row s b given) 0 (length given)

  pub row-there : (k : ℕ) (row : List Poly) → k < length given → row ≡ input_row s b given k → row ≡ get_or (input_rows s b given) k row
  row-there k row h is = is ∙ sym (get_or-map-range_with_len (input_row s b given) 0 (length given) k k row h (omega arith))

  pub zero-row : (k : ℕ) (t : Bool) (row : List Poly) → t ≡ is_zero (residue_ops s.p) (get_or given k []) → t ≡ true → row ≡ unit_row s b b → row ≡ input_row s b given k
  zero-row k t row test on is = is ∙ row-past s b ∙ ap (λ (z : Bool). cond z (replicate b []) (unit_row s b (length (nonzeros (residue_ops s.p) (take k given))))) (sym on ∙ test)

  pub unit-at : (k place : ℕ) (t : Bool) (row : List Poly) → t ≡ is_zero (residue_ops s.p) (get_or given k []) → t ≡ false → place ≡ length (nonzeros (residue_ops s.p) (take k given)) → row ≡ unit_row s b place → row ≡ input_row s b given k
  unit-at k place t row test off at is =
      is ∙ ap (unit_row s b) at ∙ ap (λ (z : Bool). cond z (replicate b []) (unit_row s b (length (nonzeros (residue_ops s.p) (take k given))))) (sym off ∙ test)

  count-by : (k : ℕ) (t : Bool) → k < length given → t ≡ is_zero (residue_ops s.p) (get_or given k []) → length (nonzeros (residue_ops s.p) (take (k + 1) given)) ≡ length (nonzeros (residue_ops s.p) (take k given)) + cond t 0 1
  count-by k t h test =
      let f = get_or given k [] in
      ap (λ (fs : List Poly). length (nonzeros (residue_ops s.p) fs)) (take-at given k f h (get_or_default given k [] f h))
      ∙ ap (λ (fs : List Poly). length fs) (filter-append (λ g. not (is_zero (residue_ops s.p) g)) (take k given) (f ∷ []))
      ∙ length-append (nonzeros (residue_ops s.p) (take k given)) (nonzeros (residue_ops s.p) (f ∷ []))
      ∙ ap (λ (n : ℕ). length (nonzeros (residue_ops s.p) (take k given)) + n) (one t (is_zero (residue_ops s.p) f) test)
    where
      one : (t z : Bool) → t ≡ z → length (cond (not z) (get_or given k [] ∷ []) []) ≡ cond t 0 1
      one t true e = ap {B = ℕ} (λ (x : Bool). cond x 0 1) (sym e)
      one t false e = ap {B = ℕ} (λ (x : Bool). cond x 0 1) (sym e)

  pub count-zero : (k place : ℕ) (t : Bool) → k < length given → t ≡ is_zero (residue_ops s.p) (get_or given k []) → t ≡ true → place ≡ length (nonzeros (residue_ops s.p) (take k given)) → place ≡ length (nonzeros (residue_ops s.p) (take (k + 1) given))
  count-zero k place t h test on at = let e = count-by k t h test in let z = ap {B = ℕ} (λ (x : Bool). cond x 0 1) on in omega (arith, at, e, z)

  pub count-more : (k place : ℕ) (t : Bool) → k < length given → t ≡ is_zero (residue_ops s.p) (get_or given k []) → t ≡ false → place ≡ length (nonzeros (residue_ops s.p) (take k given)) → place + 1 ≡ length (nonzeros (residue_ops s.p) (take (k + 1) given))
  count-more k place t h test off at = let e = count-by k t h test in let z = ap {B = ℕ} (λ (x : Bool). cond x 0 1) off in omega (arith, at, e, z)

-- how many generators there are
pub given-length : (s : System) → IsSystem s → length (s.ideal ++ graph s) ≡ length s.ideal + space_count s
given-length s is = length-append s.ideal (graph s) ∙ ap (λ (m : ℕ). length s.ideal + m) (graph_exact s (system_form s is))
