-- From the passes of the reader to the fraction that tokens denote, or to their refusal.
--   refusal-first, refusal-last      a division by zero is refused last
--   den-nonzero                      where nothing is divided by zero, no denominator is zero
--   answer-...                       the answers of the reader
use Rattle.std.proofs.Common.{◌≡◌, ℕ, zero, suc, ◌+◌, ◌-◌, ◌<◌, ◌≤◌, min, List, length, get_or, map, All, Bool, true, false, ◌||◌, nat_lt, if◌then◌else◌, refl, sym, ap, ap₂, ◌∙◌, arith, IsTrue, Option, Some, None, length-append}
use Rattle.std.proofs.lemmas.List.{length-map, get_or_default}
use Rattle.std.proofs.lemmas.Bool.Decides.{nat_tests}
use Rattle.rinv_algebra.specs.Ring.{RingOps}
use Rattle.rinv_algebra.specs.Residue.{is_listed, residue_ops}
use Rattle.rinv_algebra.specs.Polynomial.{Polynomial, variable, is_zero, degree, has_monomial}
use Rattle.rinv_algebra.specs.Fraction.{Fraction, over_one}
use Rattle.rinv_algebra.proofs.ResidueLaws.{residue_laws}
use Rattle.rinv_algebra.proofs.ResidueField.{residue_field_laws}
use Rattle.rinv_algebra.proofs.Degrees.{degree-above}
use Rattle.rinv_poly.proofs.Forms.{ordered-from_normal}
use Rattle.rinv_poly.proofs.NormalFacts.{has-term}
use Rattle.rinv_frac.specs.Fractions.{IsStored}
use Rattle.rinv_frac.specs.Cancelling.{IsCancelled}
use Rattle.rinv_frac.proofs.Stored.{stored}
use Rattle.rinv_frac.proofs.Sums.{product-nonzero}
use Rattle.rinv_frac.proofs.CancelledValues.{one_nonzero}
use Rattle.rinv_text.specs.declared.formal.Formal.{Formal}
use Rattle.rinv_text.specs.declared.size.Size.{Size}
use Rattle.rinv_text.specs.declared.step.Step.{Step}
use Rattle.rinv_text.specs.declared.token.Placed.{Placed as Seen}
use Rattle.rinv_text.specs.declared.fault.TextFault.{TextFault}
use Rattle.rinv_text.specs.declared.fault.TextCode.TheVariants.{Limit, FormalDegree, FormalTerms, ZeroDenominator}
use Rattle.rinv_text.specs.Tokens.{Placed, kinds}
use Rattle.rinv_text.specs.Grammar.{Tree, number, name, negative, sum, difference, product as times, quotient, power}
use Rattle.rinv_text.specs.Formal.{of_variable, formal, some_part, is_above, has_more, is_high, is_long}
use Rattle.rinv_text.specs.Reading.{Definition, undefined, place_of, meaning_at, formal_at, meaning, formal_of, to_the, value, divides_by_zero}
use Rattle.rinv_text.specs.Stops.{AreFraction, AreRefused, is_past_limit, first_unknown, start, excess, refusal_by, fraction_refusal, refused}
use Rattle.rinv_text.specs.Images.{literal_of}
use Rattle.rinv_text.specs.Evaluation.{outcome}
use Rattle.rinv_text.specs.Sizes.{capped, sizes}
use Rattle.rinv_text.specs.Sightings.{first_unknown_word, exceeds, first_place, fault_by, fault_of, IsFractionRead}
use Rattle.rinv_text.specs.Values.{IsNormalOver, IsLow}
use Rattle.rinv_text.specs.Meanings.{Meaning, meanings, variable_meaning, defined_meaning, named_at}
use Rattle.rinv_text.proofs.Postfix.{outcome-steps}
use Rattle.rinv_text.proofs.Judged.{numbers, size_of, sizes-result, degrees-low, terms-few}
use Rattle.rinv_text.proofs.Words.{EachName, derived-names, names-weaker}
use Rattle.rinv_text.proofs.Read.{HasPlace, HasMeaning, words-known, meanings-result}
use Rattle.rinv_text.proofs.Denoted.{Parsed, tokens-parsed, faults-as, first-seen, accepted-low_by, accepted-few_by}

left : (a b : Bool) → (a || b) ≡ false → a ≡ false
left true b e = cc
left false b e = refl

right : (a b : Bool) → (a || b) ≡ false → b ≡ false
right true b e = cc
right false b e = e

-- ---- a division by zero is refused last

-- what is refused before is refused
refusal-first : (ts : List Placed) (u : Option ℕ) (a b c z : Bool) (fault : TextFault) → refusal_by ts u (if a then Some Limit else if b then Some FormalDegree else if c then Some FormalTerms else None) ≡ Some fault
    → refusal_by ts u (if a then Some Limit else if b then Some FormalDegree else if c then Some FormalTerms else if z then Some ZeroDenominator else None) ≡ Some fault
refusal-first ts (Some k) a b c z fault e = e
refusal-first ts None true b c z fault e = e
refusal-first ts None false true c z fault e = e
refusal-first ts None false false true z fault e = e
refusal-first ts None false false false z fault e = cc

-- where nothing is, the division by zero is
refusal-last : (ts : List Placed) (u : Option ℕ) (a b c z : Bool) → refusal_by ts u (if a then Some Limit else if b then Some FormalDegree else if c then Some FormalTerms else None) ≡ None
    → refusal_by ts u (if a then Some Limit else if b then Some FormalDegree else if c then Some FormalTerms else if z then Some ZeroDenominator else None) ≡ (if z then Some (record { place = start ts; code = ZeroDenominator }) else None)
refusal-last ts (Some k) a b c z e = cc
refusal-last ts None true b c z e = cc
refusal-last ts None false true c z e = cc
refusal-last ts None false false true z e = cc
refusal-last ts None false false false true e = refl
refusal-last ts None false false false false e = refl

-- where nothing is refused, there is a size
size-there : (ts : List Seen) (count : ℕ) (size : Option Size) → None ≡ fault_of count ts size → (s : Size) × (size ≡ Some s)
size-there ts count (Some s) e = (s, refl)
size-there ts count None e = absurd (by (first_unknown_word count ts) (exceeds 0 ts) e)
  where
    by : (o : Option ℕ) (past : Bool) → None ≡ fault_by ts o (if past then Some Limit else Some FormalDegree) → ⊥
    by (Some k) past e = cc
    by None true e = cc
    by None false e = cc

-- numbers within the limits are not cut off
uncapped : (f : Formal) → is_above f ≡ false → has_more f ≡ false → capped f ≡ f
uncapped f h k = numbers (min f.num_degree 65) (min f.den_degree 65) (min f.num_terms 1000001) (min f.den_terms 1000001) f.num_degree f.den_degree f.num_terms f.den_terms (at f.num_degree 64 low.0) (at f.den_degree 64 low.1) (at f.num_terms 1000000 few.0) (at f.den_terms 1000000 few.1)
  where
    either : (a b : Bool) → (a || b) ≡ false → (a ≡ false) × (b ≡ false)
    either true b e = cc
    either false b e = (refl, e)

    low : (nat_lt 64 f.num_degree ≡ false) × (nat_lt 64 f.den_degree ≡ false)
    low = either (nat_lt 64 f.num_degree) (nat_lt 64 f.den_degree) h

    few : (nat_lt 1000000 f.num_terms ≡ false) × (nat_lt 1000000 f.den_terms ≡ false)
    few = either (nat_lt 1000000 f.num_terms) (nat_lt 1000000 f.den_terms) k

    at : (n m : ℕ) → nat_lt m n ≡ false → min n (m + 1) ≡ n
    at n m e = grind (arith, nat_tests)

-- ---- denominators

module _ (p : ℕ) where
  abbrev o : RingOps ℕ
  o = residue_ops p

  power-nonzero : (f : Polynomial ℕ) (k : ℕ) → is_zero o f ≡ false → is_zero o (to_the o k f) ≡ false
  unfolding to_the
  power-nonzero f zero h = one_nonzero o (residue_laws p) (residue_field_laws p)
  power-nonzero f (suc k) h = product-nonzero o (residue_laws p) (residue_field_laws p) (to_the o k f) f (power-nonzero f k h) h

  -- where nothing is divided by zero, no denominator is zero
  den-nonzero : (m : List ℕ → Fraction ℕ) (t : Tree) → divides_by_zero p m t ≡ false → EachName (λ w. is_zero o (m w).1 ≡ false) t → is_zero o (value p m t).1 ≡ false
  unfolding value some_part
  den-nonzero m (number n) off named = one_nonzero o (residue_laws p) (residue_field_laws p)
  den-nonzero m (name w) off named = named
  den-nonzero m (negative t) off named = den-nonzero m t (left (divides_by_zero p m t) _ off) named
  den-nonzero m (sum t u) off (a, b) =
      let parts = left (divides_by_zero p m t || divides_by_zero p m u) _ off in
      product-nonzero o (residue_laws p) (residue_field_laws p) (value p m t).1 (value p m u).1 (den-nonzero m t (left (divides_by_zero p m t) _ parts) a) (den-nonzero m u (right (divides_by_zero p m t) _ parts) b)
  den-nonzero m (difference t u) off (a, b) =
      let parts = left (divides_by_zero p m t || divides_by_zero p m u) _ off in
      product-nonzero o (residue_laws p) (residue_field_laws p) (value p m t).1 (value p m u).1 (den-nonzero m t (left (divides_by_zero p m t) _ parts) a) (den-nonzero m u (right (divides_by_zero p m t) _ parts) b)
  den-nonzero m (times t u) off (a, b) =
      let parts = left (divides_by_zero p m t || divides_by_zero p m u) _ off in
      product-nonzero o (residue_laws p) (residue_field_laws p) (value p m t).1 (value p m u).1 (den-nonzero m t (left (divides_by_zero p m t) _ parts) a) (den-nonzero m u (right (divides_by_zero p m t) _ parts) b)
  den-nonzero m (quotient t u) off (a, b) =
      let parts = left (divides_by_zero p m t || divides_by_zero p m u) _ off in
      product-nonzero o (residue_laws p) (residue_field_laws p) (value p m t).1 (value p m u).0 (den-nonzero m t (left (divides_by_zero p m t) _ parts) a) (right (divides_by_zero p m t || divides_by_zero p m u) _ off)
  den-nonzero m (power t k) off named = power-nonzero (value p m t).1 k (den-nonzero m t (left (divides_by_zero p m t) _ off) named)

  -- a polynomial in normal form has no term above its degree
  pub low-degree : (v d : ℕ) (f : Polynomial ℕ) → IsNormalOver p v f → degree o f ≤ d → IsLow d f
  low-degree v d f n low k t b =
      let l = residue_laws p in
      let has : has_monomial o f (get_or f k t).0 ≡ true = has-term o l (λ c. nat_lt c p) v f (ordered-from_normal o (λ c. nat_lt c p) v f n) (get_or f k t) (k, b, get_or_default f k (get_or f k t) t b) in
      omega (arith, degree-above o l f (get_or f k t).0 has, low)

-- ---- names

-- what stands at a place among the names
named-there : (p v : ℕ) (defs : List Definition) (k : ℕ) → k < v + length defs → named_at p v defs k ≡ Some (record { numbers = formal_at v defs k; value = meaning_at p v defs k; by_zero = false })
named-there p v defs k within = at (nat_lt k v) refl
  where
    at : (b : Bool) → nat_lt k v ≡ b
        → ◌≡◌ {A = Option Meaning} (if b then Some (variable_meaning p k) else if nat_lt (k - v) (length defs) then Some (defined_meaning (get_or defs (k - v) undefined)) else None)
        (Some (record { numbers = if b then of_variable else (get_or defs (k - v) undefined).formal; value = if b then over_one (residue_ops p) (variable (residue_ops p) k) else (get_or defs (k - v) undefined).value; by_zero = false }))
    at true e = refl
    at false e = let there : nat_lt (k - v) (length defs) ≡ true = grind (arith, nat_tests) in rw there refl

-- a denominator of what stands there
nonzero-there : (p v : ℕ) (defs : List Definition) (k : ℕ) → All (λ d. IsStored p v d.value) defs → k < v + length defs → is_zero (residue_ops p) (meaning_at p v defs k).1 ≡ false
nonzero-there p v defs k all within = at (nat_lt k v) refl
  where
    at : (b : Bool) → nat_lt k v ≡ b → is_zero (residue_ops p) (if b then over_one (residue_ops p) (variable (residue_ops p) k) else (get_or defs (k - v) undefined).value).1 ≡ false
    at true e = one_nonzero (residue_ops p) (residue_laws p) (residue_field_laws p)
    at false e = let there : k - v < length defs = grind (arith, nat_tests) in (stored p v (get_or defs (k - v) undefined).value (all (k - v) undefined there)).nonzero

-- ---- the answers of the reader

module _ (p v : ℕ) (names : List (List ℕ)) (defs : List Definition) (known : List (List ℕ)) (ps : List Placed) (end : ℕ) (ts : List Seen) (ss : List Step) (given : IsFractionRead p v names defs known ps end ts ss)
    (size : Option Size) (sized : size ≡ outcome (sizes (formal_at v defs)) ss) (found : Option TextFault) (is : found ≡ fault_of (length known) ts size) where
  whole : Parsed p known ps end ts given.tokens.are ss
  whole = tokens-parsed p known ps end ts given.tokens.are ss given.steps

  abbrev tree : Tree
  tree = whole.tree

  agree : (w : List ℕ) → formal_at v defs (place_of known w) ≡ formal_of names defs w
  agree w = ap₂ (λ (n : ℕ) (l : List (List ℕ)). formal_at n defs (place_of l w)) (sym given.tokens.many) given.tokens.are_known

  -- the refusals before the last
  before : found ≡ refusal_by ps (first_unknown known ps) (excess (formal_of names defs) false (kinds ps) tree)
  before = is ∙ ap (λ (s : Option Size). fault_of (length known) ts s) sized ∙ faults-as p known ps end ts given.tokens.are (formal_of names defs) (formal_at v defs) agree ss tree whole.steps

  pub answer-refused_first : (fault : TextFault) → found ≡ Some fault → AreRefused (fraction_refusal p names defs ps) ps end fault
  unfolding fraction_refusal
  answer-refused_first fault e =
      refused tree whole.derived
      (ap (λ (l : List (List ℕ)). refusal_by ps (first_unknown l ps) (excess (formal_of names defs) (divides_by_zero p (meaning p names defs) tree) (kinds ps) tree)) (sym given.tokens.are_known)
      ∙ refusal-first ps (first_unknown known ps) (is_past_limit 0 (kinds ps)) (is_high (formal_of names defs) tree) (is_long (formal_of names defs) tree) (divides_by_zero p (meaning p names defs) tree) fault (sym before ∙ e))

  module _ (none : found ≡ None) (listed : IsTrue (is_listed p)) (values : All (λ d. IsStored p v d.value) defs) where
    low : (first_unknown known ps ≡ None) × (is_high (formal_of names defs) tree ≡ false)
    low = accepted-low_by (formal_of names defs) known ps tree (sym before ∙ none)

    -- there is a size, and its numbers are those of the expression
    pub answer-size : (s : Size) × (size ≡ Some s)
    answer-size = size-there ts (length known) size (sym none ∙ is)

    places : EachName (HasPlace known) tree
    places = derived-names (HasPlace known) whole.derived (words-known known ps low.0)

    within : (w : List ℕ) → HasPlace known w → place_of known w < v + length defs
    within w h =
        let count : length known ≡ length names + length defs = ap (λ (l : List (List ℕ)). length l) given.tokens.are_known ∙ length-append names (map (λ d. d.name) defs) ∙ ap (λ (n : ℕ). length names + n) (length-map defs (λ d. d.name)) in
        at (place_of known w) (length known) (length names) (length defs) h count given.tokens.many
      where
        at : (k n a b : ℕ) → nat_lt k n ≡ true → n ≡ a + b → a ≡ v → k < v + b
        at k n a b h e f = let less : k < n = grind (arith, nat_tests) in omega (arith, less, e, f)

    have : EachName (HasMeaning p listed (named_at p v defs) (place_of known) (formal_of names defs) (meaning p names defs)) tree
    have = names-weaker (HasPlace known) _ (λ w h. named-there p v defs (place_of known w) (within w h) ∙ ap₂ (λ (f : Formal) (x : Fraction ℕ). Some (record { numbers = f; value = x; by_zero = false })) (agree w) (means-as w)) tree places
      where
        means-as : (w : List ℕ) → meaning_at p v defs (place_of known w) ≡ meaning p names defs w
        means-as w = ap₂ (λ (n : ℕ) (l : List (List ℕ)). meaning_at p n defs (place_of l w)) (sym given.tokens.many) given.tokens.are_known

    -- the meaning of the steps
    pub meant : Meaning
    meant = record { numbers = formal (formal_of names defs) tree; value = value p (meaning p names defs) tree; by_zero = divides_by_zero p (meaning p names defs) tree }

    pub means : outcome (meanings p (named_at p v defs)) ss ≡ Some meant
    unfolding meant
    means =
        ap (λ (l : List Step). outcome (meanings p (named_at p v defs)) l) whole.steps
        ∙ outcome-steps (meanings p (named_at p v defs)) (literal_of p) (place_of known) tree
        ∙ meanings-result p listed (named_at p v defs) (place_of known) (formal_of names defs) (meaning p names defs) tree low.1 have

    -- the last refusal
    last : fraction_refusal p names defs ps tree ≡ (if divides_by_zero p (meaning p names defs) tree then Some (record { place = start ps; code = ZeroDenominator }) else None)
    unfolding fraction_refusal
    last =
        ap (λ (l : List (List ℕ)). refusal_by ps (first_unknown l ps) (excess (formal_of names defs) (divides_by_zero p (meaning p names defs) tree) (kinds ps) tree)) (sym given.tokens.are_known)
        ∙ refusal-last ps (first_unknown known ps) (is_past_limit 0 (kinds ps)) (is_high (formal_of names defs) tree) (is_long (formal_of names defs) tree) (divides_by_zero p (meaning p names defs) tree) (sym before ∙ none)

    pub answer-refused_last : (place : ℕ) → place ≡ first_place ts → meant.by_zero ≡ true → AreRefused (fraction_refusal p names defs ps) ps end (record { place = place; code = ZeroDenominator })
    unfolding meant
    answer-refused_last place e divides =
        refused tree whole.derived
        (last ∙ ap (λ (b : Bool). if b then Some (record { place = start ps; code = ZeroDenominator }) else None) divides
        ∙ ap (λ (k : ℕ). Some (record { place = k; code = ZeroDenominator })) (sym (e ∙ ap (λ (l : List Seen). first_place l) given.tokens.are ∙ first-seen p known ps)))

    -- the denominator is not zero
    pub answer-nonzero : meant.by_zero ≡ false → is_zero (residue_ops p) meant.value.1 ≡ false
    unfolding meant
    answer-nonzero off = den-nonzero p (meaning p names defs) tree off (names-weaker (HasPlace known) _ (λ w h. ap (λ (x : Fraction ℕ). is_zero (residue_ops p) x.1) (sym (means-as w)) ∙ nonzero-there p v defs (place_of known w) values (within w h)) tree places)
      where
        means-as : (w : List ℕ) → meaning_at p v defs (place_of known w) ≡ meaning p names defs w
        means-as w = ap₂ (λ (n : ℕ) (l : List (List ℕ)). meaning_at p n defs (place_of l w)) (sym given.tokens.many) given.tokens.are_known

    -- the numbers that are kept are the formal ones
    pub answer-numbers : (s : Size) → size ≡ Some s → s.numbers ≡ meant.numbers
    unfolding meant
    answer-numbers s e =
        let same : Some s ≡ Some (size_of (formal_of names defs) tree) = sym e ∙ sized ∙ ap (λ (l : List Step). outcome (sizes (formal_at v defs)) l) whole.steps ∙ outcome-steps (sizes (formal_at v defs)) (literal_of p) (place_of known) tree ∙ sizes-result (formal_of names defs) p (formal_at v defs) (place_of known) agree tree in
        let one : s ≡ size_of (formal_of names defs) tree = cc in
        ap (λ (x : Size). x.numbers) one ∙ uncapped (formal (formal_of names defs) tree) (degrees-low (formal_of names defs) tree low.1) (terms-few (formal_of names defs) tree (accepted-few_by (formal_of names defs) known ps tree (sym before ∙ none)))

    -- the tokens are the fraction
    pub answer-fraction : (s : Size) (r : Fraction ℕ) → size ≡ Some s → meant.by_zero ≡ false → IsCancelled (residue_ops p) meant.value r → AreFraction p names defs ps r s.numbers
    unfolding meant
    answer-fraction s r e off cancelled = record {
      tree = tree;
      derived = whole.derived;
      accepted = last ∙ ap (λ (b : Bool). if b then Some (record { place = start ps; code = ZeroDenominator }) else None) off;
      cancelled = cancelled;
      formal = answer-numbers s e;
    }
