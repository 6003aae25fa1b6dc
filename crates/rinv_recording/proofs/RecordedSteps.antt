-- The entries of a journal one by one, with the divisors that were there when their pairs were taken.
--   IsRecordedTo         the first entries
--   recorded-few, recorded-begin    the elements before all entries
--   basis-normal, basis-nonzero     what is known of the elements
--   entry-has-room, next-inside     the pair of the next entry
--   recorded-stay, recorded-add     one entry more, without a rest and with one
use Rattle.std.proofs.Common.{◌≡◌, ℕ, ◌+◌, ◌<◌, ◌≤◌, true, false, cond, List, [], ◌∷◌, ◌++◌, length, get_or, take, refl, sym, ◌∙◌, subst, subst₂, arith, nat_lt, All}
use Rattle.std.proofs.lemmas.List.Elements.{All-take}
use Rattle.rinv_algebra.specs.BlockEnds.{sizes_from, last_from}
use Rattle.rinv_algebra.specs.Order.{block_order}
use Rattle.rinv_algebra.specs.Residue.{residue_ops}
use Rattle.rinv_algebra.specs.Polynomial.{is_zero}
use Rattle.rinv_algebra.specs.Normal.{IsNormal}
use Rattle.rinv_algebra.proofs.BlockOrder.{block_order_laws}
use Rattle.rinv_algebra.proofs.ResidueLaws.{residue_laws}
use Rattle.rinv_groebner.specs.Journal.{Entry, nonzeros}
use Rattle.rinv_defs.specs.System.{System, Poly}
use Rattle.rinv_defs.specs.Certificate.{PairItem}
use Rattle.rinv_defs.specs.Extended.{action_ideal}
use Rattle.rinv_defs.specs.PairConditions.{action_order}
use Rattle.rinv_reduction.specs.Localised.{all_count}
use Rattle.rinv_div.specs.Divisors.{AreDivisors, Adds}
use Rattle.rinv_div.specs.declared.divisors.Divisor.{Divisor}
use Rattle.rinv_div.proofs.DividedBy.{divisors-next}
use Rattle.rinv_buch.specs.Kinds.{Found}
use Rattle.rinv_cofactors.specs.Combining.{adds}
use Rattle.rinv_parts.specs.Points.{ArePolynomials}
use Rattle.rinv_action.specs.Action.{IsActionBasis}
use Rattle.rinv_recording.specs.Recorded.{elements_after}
use Rattle.rinv_recording.specs.Settings.{IsSetting}
use Rattle.rinv_recording.specs.Divided.{EntryHasRoom, IsItemFor}
use Rattle.rinv_recording.proofs.JournalPlaces.{IsPlaced, adding, adding-next, entry-room, journal-count, journal-nonzero, placed}
use Rattle.rinv_recording.proofs.EntryItems.{AreItemsUpTo, items-begin, items-more}

-- the ring and the order of the action's basis
pub is-setting : (s : System) (p v : ℕ) (ends : List ℕ) → p ≡ s.p → v ≡ all_count s → block_order (sizes_from 0 ends) ≡ action_order s → all_count s ≡ last_from 0 ends → IsSetting s p v ends
is-setting s p v ends field vars order suits = record { field = field; vars = vars; order = order; suits = vars ∙ suits }

-- the first k entries are these items; the list had so many elements then, and these are their divisors
pub record IsRecordedTo {R : Type 0} (s : System) (found : Found ℕ) (p v : ℕ) (ends : List ℕ) (k made : ℕ) (ds : List (Divisor R ℕ)) (items : List PairItem) : Type 0 where
  pub made_is : made ≡ elements_after s (action_ideal s) (take k found.journal)
  pub divisors : AreDivisors (residue_ops p) (λ c. nat_lt c p) v (block_order (sizes_from 0 ends)) (take made found.polys) ds
  pub items_are : AreItemsUpTo s found k items

-- the same by other ends
pub recorded-over : {R : Type 0} (s : System) (found : Found ℕ) (p v : ℕ) (ends own : List ℕ) → ends ≡ own → (k made : ℕ) (ds : List (Divisor R ℕ)) (items : List PairItem)
    → IsRecordedTo s found p v ends k made ds items → IsRecordedTo s found p v own k made ds items
recorded-over s found p v ends own same k made ds items h = subst (λ (xs : List ℕ). IsRecordedTo s found p v xs k made ds items) same h

-- an element has what all have
pub element-has : (P : Poly → Type 0) (hs : List Poly) (k : ℕ) (h : Poly) → All P hs → k < length hs → h ≡ get_or hs k h → P h
element-has P hs k h all low is = subst P (sym is) (all k h low)

module _ (s : System) (found : Found ℕ) (action : IsActionBasis s found) where
  -- the elements before all entries
  count : length found.polys ≡ length (nonzeros (residue_ops s.p) (action_ideal s)) + adding found.journal
  count = journal-count (residue_ops s.p) (action_order s) (action_ideal s) action.journal

  pub recorded-few : adding found.journal ≤ length found.polys
  recorded-few = omega (arith, count)

  module _ (p v : ℕ) (ends : List ℕ) (set : IsSetting s p v ends) where
    pub recorded-begin : {R : Type 0} (made : ℕ) → made + adding found.journal ≡ length found.polys → (ds : List (Divisor R ℕ)) → AreDivisors (residue_ops p) (λ c. nat_lt c p) v (block_order (sizes_from 0 ends)) (take made found.polys) ds
        → IsRecordedTo s found p v ends 0 made ds []
    recorded-begin made is ds divisors = record { made_is = omega (arith, is, count); divisors = divisors; items_are = items-begin s found }

    -- what is known of the elements
    pub basis-normal : ArePolynomials p v found.polys
    basis-normal = subst₂ (λ (r w : ℕ). ArePolynomials r w found.polys) (sym set.field) (sym set.vars) action.normal

    pub basis-nonzero : All (λ h. is_zero (residue_ops p) h ≡ false) found.polys
    basis-nonzero = subst (λ (r : ℕ). All (λ h. is_zero (residue_ops r) h ≡ false) found.polys) (sym set.field)
        (journal-nonzero (residue_ops s.p) (action_order s) (action_ideal s) (residue_laws s.p) action.journal)

    pub front-normal : (n : ℕ) → ArePolynomials p v (take n found.polys)
    front-normal n = All-take (IsNormal (residue_ops p) (λ c. nat_lt c p) v) n found.polys basis-normal

    pub front-nonzero : (n : ℕ) → All (λ h. is_zero (residue_ops p) h ≡ false) (take n found.polys)
    front-nonzero n = All-take (λ h. is_zero (residue_ops p) h ≡ false) n found.polys basis-nonzero

    -- the next entry
    module _ {R : Type 0} (k made : ℕ) (ds : List (Divisor R ℕ)) (items : List PairItem) (so_far : IsRecordedTo s found p v ends k made ds items) (e : Entry) (low : k < length found.journal) (at : e ≡ get_or found.journal k e) where
      place : IsPlaced (length found.polys) made e
      place = placed (residue_ops s.p) (action_order s) (action_ideal s) action.journal k made e low at so_far.made_is

      pub entry-has-room : EntryHasRoom e.first e.second made (length found.polys) e.kind
      entry-has-room = entry-room (length found.polys) made e place

      one : adds e.kind ≡ true → ◌≡◌ {A = ℕ} (cond (adds e.kind) 1 0) 1
      one on = rw on refl

      pub next-inside : adds e.kind ≡ true → made < length found.polys
      next-inside on = omega (arith, place.room, one on)

      module _ (x : PairItem) (item : IsItemFor s (take made found.polys) found.polys e.first e.second e.kind x) where
        items-next : AreItemsUpTo s found (k + 1) (items ++ x ∷ [])
        items-next = items-more s found k items e x low at (subst (λ (n : ℕ). IsItemFor s (take n found.polys) found.polys e.first e.second e.kind x) so_far.made_is item) so_far.items_are

        pub recorded-stay : adds e.kind ≡ false → IsRecordedTo s found p v ends (k + 1) made ds (items ++ x ∷ [])
        recorded-stay off =
            let none : ◌≡◌ {A = ℕ} (cond (adds e.kind) 1 0) 0 = rw off refl in
            record { made_is = omega (arith, so_far.made_is, adding-next found.journal k e low at, none); divisors = so_far.divisors; items_are = items-next }

        pub recorded-add : adds e.kind ≡ true → (h : Poly) → h ≡ get_or found.polys made h → (after : List (Divisor R ℕ)) → Adds (residue_ops p) (λ c. nat_lt c p) v (block_order (sizes_from 0 ends)) h ds after
            → IsRecordedTo s found p v ends (k + 1) (made + 1) after (items ++ x ∷ [])
        recorded-add on h is after more = record {
          made_is = omega (arith, so_far.made_is, adding-next found.journal k e low at, one on);
          divisors = divisors-next (residue_ops p) (residue_laws p) (λ c. nat_lt c p) v (block_order (sizes_from 0 ends)) (block_order_laws (sizes_from 0 ends)) found.polys made h ds after (next-inside on) is so_far.divisors more;
          items_are = items-next;
        }
