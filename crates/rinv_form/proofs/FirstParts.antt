-- Which part of a certificate fails first.
--   part_holds, part_fails, first_false-append, first_false-found    lists of parts
--   field_fails, .., frame_holds     the parts before a system's lists
--   ideal_fails, .., lists_hold      its lists
--   stops-first, stops-later         stops of lists one after the other
use Rattle.std.proofs.Common.{◌≡◌, ℕ, ◌+◌, ◌*◌, ◌≤◌, List, [], ◌∷◌, ◌++◌, length, drop, Bool, true, false, ◌&&◌, ◌==◌, nat_lt, nat_le, Some, None, refl, sym, ap, ◌∙◌}
use Rattle.std.specs.List.{list_all}
use Rattle.std.proofs.lemmas.Bool.{leb-true}
use Rattle.rinv_algebra.specs.Residue.{is_listed}
use Rattle.rinv_defs.specs.System.{System, Poly, group_count, space_count}
use Rattle.rinv_defs.specs.Names.{is_between, are_names}
use Rattle.rinv_defs.specs.Format.{first_false}
use Rattle.rinv_form.specs.Forms.{kept, is_stored, are_stored}
use Rattle.rinv_form.specs.Stops.{StopsAt, frame_failure, lists_failure}
use Rattle.rinv_form.specs.Sized.{IsFrame}
use Rattle.rinv_form.specs.declared.frame.FormatStop.{FormatStop}
use Rattle.rinv_form.specs.declared.frame.FormatStop.TheVariants.{Part, NoMemory}
use Rattle.rinv_form.specs.declared.sizes.Sizes.{Sizes}
use Rattle.rinv_form.proofs.Kept.{kept-some, kept-none, kept-holds}

and_right : (a b : Bool) → (a && b) ≡ true → b ≡ true
and_right true b h = h
and_right false b h = cc

-- a test that would give what is not so
pub false_where_none : (b : Bool) → (b ≡ true → false ≡ true) → b ≡ false
false_where_none true h = sym (h refl)
false_where_none false h = refl

-- ---- a list of parts

-- the first part holds
pub part_holds : (k : ℕ) (b : Bool) (parts : List (ℕ × Bool)) → b ≡ true → first_false ((k, b) ∷ parts) ≡ first_false parts
unfolding first_false
part_holds k b parts h = rw h refl

-- the first part fails
pub part_fails : (k : ℕ) (b : Bool) (parts : List (ℕ × Bool)) → b ≡ false → first_false ((k, b) ∷ parts) ≡ Some k
unfolding first_false
part_fails k b parts h = rw h refl

pub no_part : first_false [] ≡ None
unfolding first_false
no_part = refl

-- the first parts hold
pub first_false-append : (ps qs : List (ℕ × Bool)) → first_false ps ≡ None → first_false (ps ++ qs) ≡ first_false qs
unfolding first_false
first_false-append [] qs h = refl
first_false-append ((k, true) ∷ ps) qs h = first_false-append ps qs h
first_false-append ((k, false) ∷ ps) qs h = cc

-- one of the first parts fails
pub first_false-found : (ps qs : List (ℕ × Bool)) (k : ℕ) → first_false ps ≡ Some k → first_false (ps ++ qs) ≡ Some k
unfolding first_false
first_false-found [] qs k h = cc
first_false-found ((j, true) ∷ ps) qs k h = first_false-found ps qs k h
first_false-found ((j, false) ∷ ps) qs k h = h

-- ---- the field and the names

-- 1 to 8 names
abbrev pub names_form : List (List ℕ) → List (List ℕ) → Bool
names_form earlier names = is_between 1 8 (length names) && are_names earlier names

pub field_fails : (s : System) (p : ℕ) → p ≡ s.p → is_listed p ≡ false → frame_failure s ≡ Some 3
field_fails s p ep h = part_fails 3 _ _ (rw ep at h)

module _ (s : System) (p : ℕ) (ep : p ≡ s.p) (listed : is_listed p ≡ true) (earlier group : List (List ℕ)) (ee : earlier ≡ []) (eg : group ≡ s.group) where
  pub group_fails : None ≡ kept (names_form earlier group) (length group) → frame_failure s ≡ Some 4
  group_fails none = part_holds 3 _ _ (rw ep at listed) ∙ part_fails 4 _ _ (rw (ee, eg) at (kept-none (names_form earlier group) _ none))

  module _ (l : ℕ) (some : Some l ≡ kept (names_form earlier group) (length group)) (before space : List (List ℕ)) (eb : before ≡ s.group) (es : space ≡ s.space) where
    group_holds : names_form [] s.group ≡ true
    group_holds = rw (ee, eg) at (kept-holds (names_form earlier group) _ _ some)

    pub space_fails : None ≡ kept (names_form before space) (length space) → frame_failure s ≡ Some 5
    space_fails none = part_holds 3 _ _ (rw ep at listed) ∙ part_holds 4 _ _ group_holds ∙ part_fails 5 _ _ (rw (eb, es) at (kept-none (names_form before space) _ none))

    few : (a c d : Bool) (k : ℕ) → ((a && nat_le k 8) && d) ≡ true → k ≤ 8
    few a c d k h = leb-true k 8 (middle a (nat_le k 8) d h)
      where
        middle : (x y z : Bool) → ((x && y) && z) ≡ true → y ≡ true
        middle true true z h = refl
        middle true false z h = h
        middle false y z h = cc

    pub frame_holds : (n : ℕ) → Some n ≡ kept (names_form before space) (length space) → IsFrame s (record { field = p; group = l; space = n })
    frame_holds n some' =
        let space_holds : names_form s.group s.space ≡ true = rw (eb, es) at (kept-holds (names_form before space) _ _ some') in
        let group_is : l ≡ group_count s = kept-some (names_form earlier group) _ _ some ∙ ap length eg in
        let space_is : n ≡ space_count s = kept-some (names_form before space) _ _ some' ∙ ap length es in
        record {
          field = ep;
          group = group_is;
          space = space_is;
          few_group = rw group_is (few (nat_le 1 (group_count s)) true (are_names [] s.group) (group_count s) group_holds);
          few_space = rw space_is (few (nat_le 1 (space_count s)) true (are_names s.group s.space) (space_count s) space_holds);
          form = part_holds 3 _ _ (rw ep at listed) ∙ part_holds 4 _ _ group_holds ∙ part_holds 5 _ _ space_holds ∙ no_part;
        }

-- ---- the lists of the system

-- the parts from 6 on, over sizes
abbrev pub list_parts : Sizes → System → List (ℕ × Bool)
list_parts z s =
    (6, nat_le (length s.ideal) 64 && list_all (is_stored z.field z.group) s.ideal)
    ∷ (7, length s.unit == z.group && list_all (λ x. nat_lt x z.field) s.unit)
    ∷ (8, are_stored z.field (2 * z.group) z.group s.product)
    ∷ (9, are_stored z.field z.group z.group s.inverse)
    ∷ (10, are_stored z.field z.whole z.space s.action)
    ∷ []

-- the parts from 6 on, by the sizes
pub lists_failure-sizes : (s : System) (z : Sizes) → z.field ≡ s.p → z.group ≡ group_count s → z.space ≡ space_count s → z.whole ≡ z.group + z.space
    → lists_failure s ≡ first_false (list_parts z s)
lists_failure-sizes s z ep eg es ew = rw (ew, ep, eg, es) refl

module _ (s : System) (z : Sizes) (is : lists_failure s ≡ first_false (list_parts z s)) where
  abbrev ideal_form : List Poly → Bool
  ideal_form fs = nat_le (length fs) 64 && list_all (is_stored z.field z.group) fs

  abbrev point_form : List ℕ → Bool
  point_form xs = length xs == z.group && list_all (λ x. nat_lt x z.field) xs

  pub ideal_fails : (ideal : List Poly) → ideal ≡ s.ideal → None ≡ kept (ideal_form ideal) ideal → lists_failure s ≡ Some 6
  ideal_fails ideal e none = is ∙ part_fails 6 _ _ (rw e at (kept-none (ideal_form ideal) ideal none))

  module _ (ideal x : List Poly) (ei : ideal ≡ s.ideal) (some6 : Some x ≡ kept (ideal_form ideal) ideal) where
    past_ideal : lists_failure s ≡ first_false (drop 1 (list_parts z s))
    past_ideal = is ∙ part_holds 6 _ _ (rw ei at (kept-holds (ideal_form ideal) ideal x some6))

    pub unit_fails : (unit : List ℕ) → unit ≡ s.unit → point_form unit ≡ false → lists_failure s ≡ Some 7
    unit_fails unit e h = past_ideal ∙ part_fails 7 _ _ (rw e at h)

    module _ (unit : List ℕ) (eu : unit ≡ s.unit) (holds7 : point_form unit ≡ true) (product : List Poly) (ep : product ≡ s.product) where
      past_unit : lists_failure s ≡ first_false (drop 2 (list_parts z s))
      past_unit = past_ideal ∙ part_holds 7 _ _ (rw eu at holds7)

      pub product_fails : None ≡ kept (are_stored z.field (2 * z.group) z.group product) product → lists_failure s ≡ Some 8
      product_fails none = past_unit ∙ part_fails 8 _ _ (rw ep at (kept-none (are_stored z.field (2 * z.group) z.group product) product none))

      module _ (y : List Poly) (some8 : Some y ≡ kept (are_stored z.field (2 * z.group) z.group product) product) (inverse : List Poly) (en : inverse ≡ s.inverse) where
        past_product : lists_failure s ≡ first_false (drop 3 (list_parts z s))
        past_product = past_unit ∙ part_holds 8 _ _ (rw ep at (kept-holds (are_stored z.field (2 * z.group) z.group product) product y some8))

        pub inverse_fails : None ≡ kept (are_stored z.field z.group z.group inverse) inverse → lists_failure s ≡ Some 9
        inverse_fails none = past_product ∙ part_fails 9 _ _ (rw en at (kept-none (are_stored z.field z.group z.group inverse) inverse none))

        module _ (y9 : List Poly) (some9 : Some y9 ≡ kept (are_stored z.field z.group z.group inverse) inverse) (action : List Poly) (ea : action ≡ s.action) where
          past_inverse : lists_failure s ≡ first_false (drop 4 (list_parts z s))
          past_inverse = past_product ∙ part_holds 9 _ _ (rw en at (kept-holds (are_stored z.field z.group z.group inverse) inverse y9 some9))

          pub action_fails : None ≡ kept (are_stored z.field (z.whole) z.space action) action → lists_failure s ≡ Some 10
          action_fails none = past_inverse ∙ part_fails 10 _ _ (rw ea at (kept-none (are_stored z.field (z.whole) z.space action) action none))

          module _ (w : List Poly) (some10 : Some w ≡ kept (are_stored z.field z.whole z.space action) action) where
            pub lists_hold : lists_failure s ≡ None
            lists_hold = past_inverse ∙ part_holds 10 _ _ (rw ea at (kept-holds (are_stored z.field z.whole z.space action) action w some10)) ∙ no_part

-- ---- stops of lists of parts, one after the other

-- a stop at the first ones is one of all
pub stops-first : (ps qs : List (ℕ × Bool)) (stop : FormatStop) → StopsAt (first_false ps) stop → StopsAt (first_false (ps ++ qs)) stop
stops-first ps qs (Part k) h = first_false-found ps qs k h
stops-first ps qs NoMemory h = tt

-- where these hold, so is a stop at the others
pub stops-later : (ps qs : List (ℕ × Bool)) (stop : FormatStop) → first_false ps ≡ None → StopsAt (first_false qs) stop → StopsAt (first_false (ps ++ qs)) stop
stops-later ps qs (Part k) none h = first_false-append ps qs none ∙ h
stops-later ps qs NoMemory none h = tt

-- one part, where it fails
pub one-stops : (k : ℕ) (b : Bool) → b ≡ false → first_false ((k, b) ∷ []) ≡ Some k
one-stops k b h = part_fails k b [] h

-- and where it holds
pub one-holds : (k : ℕ) (b : Bool) → b ≡ true → first_false ((k, b) ∷ []) ≡ None
one-holds k b h = part_holds k b [] h ∙ no_part
