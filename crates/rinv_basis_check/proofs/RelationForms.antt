-- The relations and the fractions of a certificate as they are stored.
--   relation-form       each relation has its form
--   fractions-stored    the fractions are stored
--   shown-is            whether a relation is shown, by the tests in their order: unfit-fails, tail-fails, graph-decides
--   relation-parts, term-form, tied-among, form-in, term-in    what forms say of parts
use Rattle.std.proofs.Common.{◌≡◌, ℕ, ◌<◌, ◌≤◌, arith, Bool, true, false, not, ◌&&◌, List, [], ◌∷◌, length, map, get_or, ◌==◌, None, refl, sym, ap, ap₂, ◌∙◌, subst, IsTrue}
use Rattle.std.specs.List.{list_all, position_from}
use Rattle.rinv_algebra.specs.Residue.{residue_ops}
use Rattle.rinv_algebra.specs.Polynomial.{is_zero}
use Rattle.rinv_algebra.specs.Fits.{product_fits}
use Rattle.std.specs.Prelude.{nat_le}
use Rattle.std.proofs.lemmas.Bool.{leb-true}
use Rattle.std.proofs.lemmas.Bool.Decides.{nat_tests}
use Rattle.rinv_algebra.specs.Monomial.{total_degree, max_degree}
use Rattle.rinv_algebra.proofs.Same.{both, and_true}
use Rattle.rinv_defs.proofs.Tests.{list_all-implies}
use Rattle.rinv_defs.specs.System.{Poly}
use Rattle.rinv_defs.specs.Certificate.{Certificate, RelationItem, TailItem, full}
use Rattle.rinv_defs.specs.Format.{format_failure, are_distinct}
use Rattle.rinv_defs.specs.Conditions.{vanishes_on_graph}
use Rattle.rinv_defs.specs.RelationConditions.{z_power, behind_z, is_tail, is_tied_to, relation_of, relation_is_shown, relations_failure}
use Rattle.rinv_cert.specs.declared.certificate.Tied.{Tied}
use Rattle.rinv_cert.specs.declared.certificate.Tied.TheVariants.{Constant, Generator}
use Rattle.rinv_cert.specs.declared.certificate.CertificateOf.{CertificateOf}
use Rattle.rinv_cert.specs.Seen.{plain, relation_item_by}
use Rattle.rinv_cert.proofs.Same.{map-same}
use Rattle.rinv_form.specs.declared.sizes.Sizes.{Sizes}
use Rattle.rinv_form.specs.Sized.{IsSized}
use Rattle.rinv_form.specs.Forms.{is_stored, are_stored, is_stored_fraction}
use Rattle.rinv_form.specs.ItemForms.{is_relation_form, is_stored_nonzero, is_tail_form, is_tied_form, are_exponents}
use Rattle.rinv_basis_check.specs.declared.rings.RelationRings.{RelationRings}
use Rattle.rinv_form.proofs.FormParts.{form-fractions, form-relations}
use Rattle.rinv_form.proofs.SeenForms.{relation-forms}
use Rattle.rinv_identities.proofs.Walks.{position_from-map}
use Rattle.rinv_basis_check.specs.Relations.{relation_fits, tails_are, is_relation_in, is_tied_among}
use Rattle.rinv_basis_check.proofs.PairEntries.{test_at}
use Rattle.std.specs.Ordering.{is_lt}
use Rattle.rinv_algebra.specs.Order.{grevlex}

-- each relation has its form
pub relation-form : (c : CertificateOf Poly) (z : Sizes) → IsSized (plain c) z → (plain c).kind ≡ full → format_failure (plain c) ≡ None → (rs : List (List ℕ × Poly × List (List ℕ × Poly × Tied) × List Poly)) → rs ≡ c.relations → (k : ℕ) (r : List ℕ × Poly × List (List ℕ × Poly × Tied) × List Poly) → k < length rs → r ≡ get_or rs k r → is_relation_form z r ≡ true
relation-form c z is kind form rs e k r few at =
    test_at (is_relation_form z) rs k r few at (subst (λ us. list_all (is_relation_form z) us ≡ true) (sym e) (sym (relation-forms (plain c) z is c.relations) ∙ form-relations (plain c) kind form))

-- the first that is not shown, by the relations as they are stored
pub relations-walk : (c : CertificateOf Poly) (rs : List (List ℕ × Poly × List (List ℕ × Poly × Tied) × List Poly)) → rs ≡ c.relations → relations_failure (plain c) ≡ position_from (λ r. not (relation_is_shown (plain c) (relation_item_by (λ f. f) r))) 1 rs
unfolding relations_failure
relations-walk c rs e = position_from-map (relation_item_by (λ f. f)) (λ r. not (relation_is_shown (plain c) r)) 1 c.relations ∙ ap (position_from (λ r. not (relation_is_shown (plain c) (relation_item_by (λ f. f) r))) 1) (sym e)

-- the fractions as they are seen
pub fractions-seen : (c : CertificateOf Poly) → c.fractions ≡ (plain c).fractions
fractions-seen c = sym (map-same (λ x. (x.0, x.1)) (λ x. refl) c.fractions)

-- the fractions are stored
pub fractions-stored : (c : CertificateOf Poly) (z : Sizes) → IsSized (plain c) z → format_failure (plain c) ≡ None → IsTrue (list_all (is_stored_fraction z.field z.space) c.fractions)
fractions-stored c z is form = rw (is.field, is.space, fractions-seen c) (form-fractions (plain c) form)

-- tests of pairs of tests
mixed : (a b c f t : Bool) → ((a && b && c) && (f && t)) ≡ ((b && f) && ((a && c) && t))
mixed false b c f t = none (b && f)
  where
    none : (a : Bool) → false ≡ (a && false)
    none true = refl
    none false = refl
mixed true false c f t = refl
mixed true true false f t = none f
  where
    none : (a : Bool) → false ≡ (a && false)
    none true = refl
    none false = refl
mixed true true true f t = refl

tails-parted : (c : Certificate) (r : RelationItem) (ts : List TailItem)
    → list_all (is_tail c r) ts ≡ (list_all (λ t. product_fits (residue_ops c.system.p) (z_power c.system t.alpha ∷ []) (behind_z c.system t.c)) ts && list_all (λ t. is_lt (grevlex t.alpha r.a) && is_tied_to c r.d t.c t.tied) ts)
tails-parted c r [] = refl
tails-parted c r (t ∷ ts) =
    ap (λ (b : Bool). is_tail c r t && b) (tails-parted c r ts)
    ∙ mixed (is_lt (grevlex t.alpha r.a)) (product_fits (residue_ops c.system.p) (z_power c.system t.alpha ∷ []) (behind_z c.system t.c)) (is_tied_to c r.d t.c t.tied)
    (list_all (λ t. product_fits (residue_ops c.system.p) (z_power c.system t.alpha ∷ []) (behind_z c.system t.c)) ts) (list_all (λ t. is_lt (grevlex t.alpha r.a) && is_tied_to c r.d t.c t.tied) ts)

grouped : (a f t v : Bool) → (a && (f && t) && v) ≡ ((a && f) && t && v)
grouped false f t v = refl
grouped true false t v = refl
grouped true true t v = refl

-- whether a relation is shown: its products fit, its tail is one, and it vanishes on the graph
pub shown-is : (c : Certificate) (r : RelationItem) → relation_is_shown c r ≡ (relation_fits c.system r && tails_are c r && vanishes_on_graph c.system (relation_of c.system r) r.cofactors)
unfolding relation_is_shown
shown-is c r =
    ap (λ (b : Bool). product_fits (residue_ops c.system.p) (z_power c.system r.a ∷ []) (behind_z c.system r.d) && b && vanishes_on_graph c.system (relation_of c.system r) r.cofactors) (tails-parted c r r.tail)
    ∙ grouped (product_fits (residue_ops c.system.p) (z_power c.system r.a ∷ []) (behind_z c.system r.d)) (list_all (λ t. product_fits (residue_ops c.system.p) (z_power c.system t.alpha ∷ []) (behind_z c.system t.c)) r.tail) (tails_are c r) (vanishes_on_graph c.system (relation_of c.system r) r.cofactors)

-- ---- the parts of a relation

-- what the form of a relation says of its parts
pub record AreParts (z : Sizes) (x : List ℕ × Poly × List (List ℕ × Poly × Tied) × List Poly) : Type 0 where
  pub lead : are_exponents z.space x.0 ≡ true
  pub denominator : is_stored_nonzero z.field z.space x.1 ≡ true
  pub tail : list_all (is_tail_form z) x.2 ≡ true
  pub cofactors : are_stored z.field z.whole z.ideal x.3 ≡ true

pub relation-parts : (z : Sizes) (x : List ℕ × Poly × List (List ℕ × Poly × Tied) × List Poly) → is_relation_form z x ≡ true → AreParts z x
relation-parts z x h =
    let a = are_exponents z.space x.0 in
    let b = is_stored_nonzero z.field z.space x.1 in
    let d = list_all (is_tail_form z) x.2 in
    let e = are_distinct (map (λ t. t.0) x.2) in
    let last = both (a && b && d && e) (are_stored z.field z.whole z.ideal x.3) h in
    let more = both (a && b && d) e last.0 in
    let first = both (a && b) d more.0 in
    let both_first = both a b first.0 in
    record { lead = both_first.0; denominator = both_first.1; tail = first.1; cofactors = last.1 }

-- what the form of a term says of its parts
pub record IsPart (z : Sizes) (t : List ℕ × Poly × Tied) : Type 0 where
  pub alpha : are_exponents z.space t.0 ≡ true
  pub coefficient : is_stored z.field z.space t.1 ≡ true
  pub tied : is_tied_form z t.2 ≡ true

term-parts : (z : Sizes) (t : List ℕ × Poly × Tied) → is_tail_form z t ≡ true → IsPart z t
term-parts z t h =
    let last = both (are_exponents z.space t.0 && is_stored z.field z.space t.1) (is_tied_form z t.2) h in
    let first = both (are_exponents z.space t.0) (is_stored z.field z.space t.1) last.0 in
    record { alpha = first.0; coefficient = first.1; tied = last.1 }

pub term-form : (z : Sizes) (x : List ℕ × Poly × List (List ℕ × Poly × Tied) × List Poly) → is_relation_form z x ≡ true → (ts : List (List ℕ × Poly × Tied)) → ts ≡ x.2 → (k : ℕ) (t : List ℕ × Poly × Tied) → k < length ts → t ≡ get_or ts k t → IsPart z t
term-form z x h ts e k t few at = term-parts z t (test_at (is_tail_form z) ts k t few at (subst (λ us. list_all (is_tail_form z) us ≡ true) (sym e) (relation-parts z x h).tail))

pub exponents-count : (n : ℕ) (a : List ℕ) → are_exponents n a ≡ true → length a ≡ n
exponents-count n a h = grind (arith, nat_tests, h)

pub exponents-low : (n : ℕ) (a : List ℕ) → are_exponents n a ≡ true → total_degree a ≤ max_degree
exponents-low n a h = leb-true (total_degree a) max_degree (both (length a == n) (nat_le (total_degree a) max_degree) h).1

-- what a coefficient is tied to
pub tied-among : (z : Sizes) (p n : ℕ) → p ≡ z.field → n ≡ z.fractions → (u : Tied) → is_tied_form z u ≡ true → is_tied_among p n u ≡ true
tied-among z p n ep en (Constant v) h = rw ep h
tied-among z p n ep en (Generator k) h = rw en h

-- the leads of relations have an exponent for each space variable
pub relation-leads : (c : CertificateOf Poly) (z : Sizes) → IsSized (plain c) z → (plain c).kind ≡ full → format_failure (plain c) ≡ None → (rs : List (List ℕ × Poly × List (List ℕ × Poly × Tied) × List Poly)) → rs ≡ c.relations → list_all (λ r. length r.0 == z.space) rs ≡ true
relation-leads c z is kind form rs e =
    rw e
    (list_all-implies (is_relation_form z) (λ r. length r.0 == z.space) first c.relations (sym (relation-forms (plain c) z is c.relations) ∙ form-relations (plain c) kind form))
  where
    first : (r : List ℕ × Poly × List (List ℕ × Poly × Tied) × List Poly) → is_relation_form z r ≡ true → (length r.0 == z.space) ≡ true
    first r h = (both (length r.0 == z.space) (nat_le (total_degree r.0) max_degree) (relation-parts z r h).lead).0

-- a relation of the form is one in the rings
pub form-in : (z : Sizes) (r : RelationRings) (x : List ℕ × Poly × List (List ℕ × Poly × Tied) × List Poly) → r.space.coeffs ≡ z.field → r.space.vars ≡ z.space → is_relation_form z x ≡ true → is_relation_in r x ≡ true
form-in z r x ef ev h =
    let parts = relation-parts z x h in
    let denominator = (both (is_stored z.field z.space x.1) (not (is_zero (residue_ops z.field) x.1)) parts.denominator).0 in
    let tail = list_all-implies (is_tail_form z) (λ t. are_exponents z.space t.0 && is_stored z.field z.space t.1) (λ t i. (both (are_exponents z.space t.0 && is_stored z.field z.space t.1) (is_tied_form z t.2) i).0) x.2 parts.tail in
    rw (ef, ev)
    (and_true (are_exponents z.space x.0 && is_stored z.field z.space x.1) (list_all (λ t. are_exponents z.space t.0 && is_stored z.field z.space t.1) x.2) (and_true (are_exponents z.space x.0) (is_stored z.field z.space x.1) parts.lead denominator) tail)

-- a term of a relation in the rings
pub term-in : (r : RelationRings) (x : List ℕ × Poly × List (List ℕ × Poly × Tied) × List Poly) → is_relation_in r x ≡ true → (ts : List (List ℕ × Poly × Tied)) → ts ≡ x.2 → (k : ℕ) (t : List ℕ × Poly × Tied) → k < length ts → t ≡ get_or ts k t
    → (are_exponents r.space.vars t.0 ≡ true) × (is_stored r.space.coeffs r.space.vars t.1 ≡ true)
term-in r x h ts e k t few at =
    let test : List ℕ × Poly × Tied → Bool = λ t. are_exponents r.space.vars t.0 && is_stored r.space.coeffs r.space.vars t.1 in
    let all = (both (are_exponents r.space.vars x.0 && is_stored r.space.coeffs r.space.vars x.1) (list_all test x.2) h).1 in
    both (are_exponents r.space.vars t.0) (is_stored r.space.coeffs r.space.vars t.1) (test_at test ts k t few at (subst (λ us. list_all test us ≡ true) (sym e) all))

-- ---- whether a relation is shown, by the tests in their order

pub unfit-fails : (c : Certificate) (r : RelationItem) → false ≡ relation_fits c.system r → false ≡ relation_is_shown c r
unfit-fails c r h = sym (shown-is c r ∙ ap (λ (b : Bool). b && tails_are c r && vanishes_on_graph c.system (relation_of c.system r) r.cofactors) (sym h))

pub tail-fails : (c : Certificate) (r : RelationItem) → true ≡ relation_fits c.system r → false ≡ tails_are c r → false ≡ relation_is_shown c r
tail-fails c r h off = sym (shown-is c r ∙ ap₂ (λ (a b : Bool). a && b && vanishes_on_graph c.system (relation_of c.system r) r.cofactors) (sym h) (sym off))

pub graph-decides : (c : Certificate) (r : RelationItem) → true ≡ relation_fits c.system r → true ≡ tails_are c r → vanishes_on_graph c.system (relation_of c.system r) r.cofactors ≡ relation_is_shown c r
graph-decides c r h on = sym (shown-is c r ∙ ap₂ (λ (a b : Bool). a && b && vanishes_on_graph c.system (relation_of c.system r) r.cofactors) (sym h) (sym on))
