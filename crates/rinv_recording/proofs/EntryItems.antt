-- Entries as a certificate has them, one after the other.
--   settle-quotients     quotients that were divided again, of a system
--   settle-quotients-meet, settle-sums-meet    the degrees that a pair meets
--   coprime-item, chain-item, reduced-item     an entry, with products that fit
--   AreItemsUpTo         the first entries
--   items-begin, items-more, items-end    none, one more, and all
use Rattle.std.proofs.Common.{◌≡◌, ℕ, ◌+◌, ◌-◌, ◌<◌, Bool, true, ◌&&◌, List, [], ◌∷◌, ◌++◌, length, get_or, map, take, refl, sym, ap, ◌∙◌, subst, subst₂, inl, inr, arith}
use Rattle.std.specs.Prelude.{Option}
use Rattle.std.specs.List.{list_all}
use Rattle.std.proofs.lemmas.Bool.{cases_lt}
use Rattle.std.proofs.lemmas.Option.{unwrap_or-slice_get}
use Rattle.std.proofs.lemmas.List.{get_or_append_left, get_or_push, get_or_default, get_or-take, length_push}
use Rattle.std.proofs.lemmas.List.Folds.{list_all-append}
use Rattle.rinv_algebra.specs.BlockEnds.{sizes_from}
use Rattle.rinv_algebra.specs.Order.{block_order}
use Rattle.rinv_algebra.specs.Residue.{residue_ops}
use Rattle.rinv_algebra.specs.Leading.{multiplier}
use Rattle.rinv_algebra.specs.Fits.{product_fits, combination_fits}
use Rattle.rinv_groebner.specs.Journal.{Entry}
use Rattle.rinv_groebner.specs.Journal.Kind.{reduced, coprime, chain}
use Rattle.rinv_defs.specs.System.{System, Poly}
use Rattle.rinv_defs.specs.Certificate.{Certificate, PairItem, by_coprime, by_chain, by_quotients}
use Rattle.rinv_defs.specs.Conditions.{elements}
use Rattle.rinv_defs.specs.PairConditions.{action_order, element}
use Rattle.rinv_reduction.specs.Localised.{all_count}
use Rattle.rinv_acceptance.specs.Fits.{pair_multiplies}
use Rattle.rinv_ring.specs.Fault.{DegreesMeet}
use Rattle.rinv_ring.specs.declared.fault.RingFault.{RingFault}
use Rattle.rinv_poly.proofs.Meets.{meet-weaker}
use Rattle.rinv_cert.proofs.Same.{map-same}
use Rattle.rinv_fits.specs.Sums.{SumsMeet}
use Rattle.rinv_buch.specs.Kinds.{Found}
use Rattle.rinv_recording.specs.Recorded.{ArePairItemsOf, AreRecorded, IsPairItemOf, PairFits, PairsFit, PairMeets, in_first, in_second, in_division, in_identity, PairsMeet, QuotientsMeet, list_before}
use Rattle.rinv_recording.specs.Settings.{IsSetting}
use Rattle.rinv_recording.specs.Divided.{AreDividedAgain, AreQuotientsFor, HasRoom, IsItemFor}

-- ---- one entry

module _ (s : System) (p v : ℕ) (ends : List ℕ) (set : IsSetting s p v ends) (list polys : List Poly) (i j : ℕ) where
  pub settle-quotients : (b : ℕ) → b ≡ length polys → (added : Option ℕ) (q : List Poly) → AreDividedAgain p v (block_order (sizes_from 0 ends)) list b i j added q → combination_fits (residue_ops p) q polys ≡ true → AreQuotientsFor s list polys i j added q
  settle-quotients b many added q h sums =
      let first : AreDividedAgain s.p (all_count s) (block_order (sizes_from 0 ends)) list b i j added q = subst₂ (λ (r w : ℕ). AreDividedAgain r w (block_order (sizes_from 0 ends)) list b i j added q) set.field set.vars h in
      let own : AreDividedAgain s.p (all_count s) (action_order s) list b i j added q = subst (λ cmp. AreDividedAgain s.p (all_count s) cmp list b i j added q) set.order first in
      let whole : AreDividedAgain s.p (all_count s) (action_order s) list (length polys) i j added q = subst (λ (n : ℕ). AreDividedAgain s.p (all_count s) (action_order s) list n i j added q) many own in
      record {
        recorded = record { quotients = whole.quotients; rest = whole.are.rest; steps = whole.are.steps; divides = whole.are.divides; recorded = whole.recorded; normal = whole.normal };
        multiples = whole.multiples;
        sums = subst (λ (r : ℕ). combination_fits (residue_ops r) q polys ≡ true) set.field sums;
      }

  -- the degrees that its division meets
  meets-at : (x y : ℕ) → QuotientsMeet s.p (action_order s) list i j x y → PairMeets s list polys i j x y
  meets-at x y (inl (inl h)) = in_first h
  meets-at x y (inl (inr h)) = in_second h
  meets-at x y (inr h) = in_division h

  pub settle-quotients-meet : (fault : RingFault) → DegreesMeet (QuotientsMeet p (block_order (sizes_from 0 ends)) list i j) fault → DegreesMeet (PairMeets s list polys i j) fault
  settle-quotients-meet fault meets = meet-weaker (QuotientsMeet p (block_order (sizes_from 0 ends)) list i j) (PairMeets s list polys i j)
      (λ x y h. meets-at x y (subst₂ (λ (r : ℕ) cmp. QuotientsMeet r cmp list i j x y) set.field set.order h)) fault meets

  -- and those that the quotients times the elements do
  pub settle-sums-meet : (b : ℕ) → b ≡ length polys → (added : Option ℕ) (q : List Poly) → AreDividedAgain p v (block_order (sizes_from 0 ends)) list b i j added q → (fault : RingFault) → DegreesMeet (SumsMeet p v q polys) fault → DegreesMeet (PairMeets s list polys i j) fault
  settle-sums-meet b many added q h fault meets =
      let first : AreDividedAgain s.p (all_count s) (block_order (sizes_from 0 ends)) list b i j added q = subst₂ (λ (r w : ℕ). AreDividedAgain r w (block_order (sizes_from 0 ends)) list b i j added q) set.field set.vars h in
      let own : AreDividedAgain s.p (all_count s) (action_order s) list b i j added q = subst (λ cmp. AreDividedAgain s.p (all_count s) cmp list b i j added q) set.order first in
      let whole : AreDividedAgain s.p (all_count s) (action_order s) list (length polys) i j added q = subst (λ (n : ℕ). AreDividedAgain s.p (all_count s) (action_order s) list n i j added q) many own in
      let recorded : AreRecorded s list (length polys) i j added q = record { quotients = whole.quotients; rest = whole.are.rest; steps = whole.are.steps; divides = whole.are.divides; recorded = whole.recorded; normal = whole.normal } in
      meet-weaker (SumsMeet p v q polys) (PairMeets s list polys i j) (λ x y m. in_identity added q recorded (subst₂ (λ (r w : ℕ). SumsMeet r w q polys x y) set.field set.vars m)) fault meets

module _ (s : System) (polys : List Poly) (made i j : ℕ) where
  pub coprime-item : IsItemFor s (take made polys) polys i j coprime (by_coprime (i + 1) (j + 1))
  coprime-item = record { entry = refl; fits = λ c same are. refl }

  pub chain-item : (by : ℕ) → IsItemFor s (take made polys) polys i j (chain by) (by_chain (i + 1) (j + 1) (by + 1))
  chain-item by = record { entry = refl; fits = λ c same are. refl }

  all-fit : (a b c : Bool) → a ≡ true → b ≡ true → c ≡ true → (a && b && c) ≡ true
  all-fit a b c x y z = rw (x, y, z) refl

  quotient-item : i < made → j < made → (added : Option ℕ) (q : List Poly) → AreQuotientsFor s (take made polys) polys i j added q → IsItemFor s (take made polys) polys i j (reduced added) (by_quotients (i + 1) (j + 1) q)
  quotient-item low high added q h = record { entry = (q, refl, h.recorded); fits = fits }
    where
      at : (c : Certificate) → elements c ≡ polys → (k : ℕ) → k < made → element c (k + 1) ≡ get_or (take made polys) k []
      at c are k inside =
          let e : k + 1 - 1 ≡ k = omega arith in
          unwrap_or-slice_get (elements c) (k + 1 - 1) [] ∙ ap (λ (n : ℕ). get_or (elements c) n []) e ∙ ap (λ (fs : List Poly). get_or fs k []) are ∙ sym (get_or-take made polys k [] inside)

      go : (t : System) → t ≡ record s { section = [] } → (f g : Poly) → f ≡ get_or (take made polys) i [] → g ≡ get_or (take made polys) j [] → (hs : List Poly) → hs ≡ polys
          → (product_fits (residue_ops t.p) (multiplier (residue_ops t.p) (action_order t) f g ∷ []) f && product_fits (residue_ops t.p) (multiplier (residue_ops t.p) (action_order t) g f ∷ []) g && combination_fits (residue_ops t.p) q hs) ≡ true
      go t a f g b c hs d = rw (a, b, c, d) (all-fit _ _ _ h.multiples.first h.multiples.second h.sums)

      fits : PairFits s polys (by_quotients (i + 1) (j + 1) q)
      fits c same are = go c.system same (element c (i + 1)) (element c (j + 1)) (at c are i low) (at c are j high) (elements c) are

  pub reduced-item : (m n : ℕ) → m ≡ i + 1 → n ≡ j + 1 → (added : Option ℕ) (q : List Poly) → HasRoom i j made (length polys) added → AreQuotientsFor s (take made polys) polys i j added q
      → IsItemFor s (take made polys) polys i j (reduced added) (by_quotients m n (map (λ f. f) q))
  reduced-item m n first second added q room h =
      let low : i < made = omega (arith, room.ascending, room.inside) in
      rw (first, second) (subst (λ (fs : List Poly). IsItemFor s (take made polys) polys i j (reduced added) (by_quotients (i + 1) (j + 1) fs)) (sym (map-same (λ (f : Poly). f) (λ f. refl) q)) (quotient-item low room.inside added q h))

-- ---- the entries in their order

-- the first k entries
pub record AreItemsUpTo (s : System) (found : Found ℕ) (k : ℕ) (items : List PairItem) : Type 0 where
  pub number : length items ≡ k
  pub each : (m : ℕ) (e : Entry) (item : PairItem) → m < k → e ≡ get_or found.journal m e → item ≡ get_or items m item → IsPairItemOf s (list_before s found m) (length found.polys) e.first e.second e.kind item
  pub fits : PairsFit s found.polys items

module _ (s : System) (found : Found ℕ) where
  pub items-begin : AreItemsUpTo s found 0 []
  items-begin = record { number = refl; each = λ m e item low. absurd (omega (arith, low)); fits = λ c same are. refl }

  pub items-more : (k : ℕ) (items : List PairItem) (e : Entry) (x : PairItem) → k < length found.journal → e ≡ get_or found.journal k e → IsItemFor s (list_before s found k) found.polys e.first e.second e.kind x
      → AreItemsUpTo s found k items → AreItemsUpTo s found (k + 1) (items ++ x ∷ [])
  items-more k items e x inside at is so_far = record {
    number = length_push items x ∙ ap (λ (n : ℕ). n + 1) so_far.number;
    each = λ m f item low is_entry is_item. elim (cases_lt m k) [
      | inl before ↦ so_far.each m f item before is_entry (is_item ∙ get_or_append_left items (x ∷ []) item m (omega (arith, before, so_far.number)))
      | inr past ↦ here m f item (omega (arith, low, past)) is_entry is_item
    ];
    fits = λ c same are. list_all-append (pair_multiplies c) items (x ∷ []) ∙ both-true (list_all (pair_multiplies c) items) (pair_multiplies c x) (so_far.fits c same are) (is.fits c same are);
  }
    where
      both-true : (a b : Bool) → a ≡ true → b ≡ true → (a && (b && true)) ≡ true
      both-true a b p q = rw (p, q) refl

      here : (m : ℕ) (f : Entry) (item : PairItem) → m ≡ k → f ≡ get_or found.journal m f → item ≡ get_or (items ++ x ∷ []) m item → IsPairItemOf s (list_before s found m) (length found.polys) f.first f.second f.kind item
      here m f item same is_entry is_item =
          let one : f ≡ e = is_entry ∙ ap (λ (n : ℕ). get_or found.journal n f) same ∙ get_or_default found.journal k f e inside ∙ sym at in
          let other : item ≡ x = is_item ∙ ap (λ (n : ℕ). get_or (items ++ x ∷ []) n item) same ∙ get_or_push items x item k so_far.number in
          rw (same, one, other) is.entry

  pub items-end : (k : ℕ) (items : List PairItem) → k ≡ length found.journal → AreItemsUpTo s found k items → ArePairItemsOf s found items
  items-end k items all h = record { number = h.number ∙ all; each = λ m e item low. h.each m e item (omega (arith, low, h.number)) }

  -- the degrees that an entry meets
  pub entry-meets : (k : ℕ) (e : Entry) → k < length found.journal → e ≡ get_or found.journal k e → (fault : RingFault) → DegreesMeet (PairMeets s (list_before s found k) found.polys e.first e.second) fault → DegreesMeet (PairsMeet s found) fault
  entry-meets k e inside at fault meets = meet-weaker (PairMeets s (list_before s found k) found.polys e.first e.second) (PairsMeet s found) (λ x y m. record { place = k; entry = e; inside = inside; stands = at; meets = m }) fault meets
