use Rattle.std.proofs.Common.{◌≡◌, ◌∙◌, ◌<◌, ◌≤◌, ℕ, false, IsTrue, rules, List, length, get_or, All, sym, ap, subst}
use Rattle.std.specs.List.{list_any}
use Rattle.std.specs.declared.cmp.Ordering.TheVariants.{Less}
use Rattle.std.specs.Ordering.{is_lt}
use Rattle.std.proofs.lemmas.List.MinMax.{IsStrictWeakOrder-flip}
use Rattle.std.proofs.lemmas.List.Sorted.{answers_always, ranks_by}
use Rattle.rinv_algebra.specs.Residue.{residue_ops}
use Rattle.rinv_algebra.specs.Monomial.{same_monomial, total_degree, max_degree}
use Rattle.rinv_algebra.specs.Order.{grevlex}
use Rattle.rinv_algebra.specs.Polynomial.{is_zero, opposite}
use Rattle.rinv_algebra.proofs.Grevlex.{grevlex_laws}
use Rattle.rinv_algebra.proofs.MonomialLaws.{same_monomial_refl}
use Rattle.rinv_defs.specs.System.{Poly, space_count}
use Rattle.rinv_defs.specs.Invariant.{Fraction}
use Rattle.rinv_frac.specs.Cancelling.{IsCancelled}
use Rattle.rinv_reduction.specs.Localised.{lead_in_z, z_coefficient}
use Rattle.rinv_tails.specs.Stored.{IsStoredRelation}
use Rattle.rinv_elim.specs.Localising.{IsSolution, IsSolved}
use Rattle.rinv_elim.proofs.RelationFacts.{frees, lead-many, lead-low, divisor-nonzero, term-many, z-many, z-under, tail-term}
use Rattle.rinv_elim.proofs.Solving.{solving-start, solving-lead, solving-passed, solving-more, solved-sorted, stored-sorted}
use Rattle.rinv_elim.proofs.relating.relation_of.Goals as goal

pub z_coefficient-requires-clause-field : goal.z_coefficient-requires-clause-field
z_coefficient-requires-clause-field c = ap (λ r. r.coeffs) c.base.ensures ∙ c.requires.field

pub z_coefficient-requires-clause-vars : goal.z_coefficient-requires-clause-vars
z_coefficient-requires-clause-vars c = ap (λ r. r.vars) c.base.ensures ∙ c.requires.vars

pub z_coefficient-requires-clause-free : goal.z_coefficient-requires-clause-free
z_coefficient-requires-clause-free c =
    let s = c.args.system.now.system in
    let h = c.args.h.now in
    let normal = c.requires.normal in
    let nonzero = c.requires.nonzero in
    let free = c.requires.free in
    frees s h normal nonzero free

pub z_coefficient-requires-clause-z : goal.z_coefficient-requires-clause-z
z_coefficient-requires-clause-z c =
    let s = c.args.system.now.system in
    let h = c.args.h.now in
    let normal = c.requires.normal in
    let nonzero = c.requires.nonzero in
    let free = c.requires.free in
    ap (λ (m : List ℕ). length m) c.requires.lead ∙ lead-many s h normal nonzero free

pub each-init : goal.each-init
each-init c = solving-start c.args.system.now.system c.args.h.now c.args.lead.now c.new-tail.result.items c.new-tail.ensures.items

pub z_part-requires-clause-vars : goal.z_part-requires-clause-vars
z_part-requires-clause-vars c =
    let s = c.args.system.now.system in
    let h = c.args.h.now in
    let normal = c.requires.normal in
    let nonzero = c.requires.nonzero in
    let free = c.requires.free in
    let k = c.each.mono-index in
    let t = c.each-item.result in
    let low : k < length h = subst (λ (f : Poly). k < length f) c.terms-mono-items.ensures.value c.each-test.true in
    let here : t ≡ get_or h k t = c.each-item.is ∙ ap (λ (f : Poly). get_or f k t) c.terms-mono-items.ensures.value in
    term-many s h normal nonzero free k t low here

pub is_same-requires : goal.is_same-requires
is_same-requires c =
    let s = c.args.system.now.system in
    let h = c.args.h.now in
    let normal = c.requires.normal in
    let nonzero = c.requires.nonzero in
    let free = c.requires.free in
    let k = c.each.mono-index in
    let t = c.each-item.result in
    let low : k < length h = subst (λ (f : Poly). k < length f) c.terms-mono-items.ensures.value c.each-test.true in
    let here : t ≡ get_or h k t = c.each-item.is ∙ ap (λ (f : Poly). get_or f k t) c.terms-mono-items.ensures.value in
    let z = c.in_ok-z.z in
    let many : length z ≡ space_count s = z-many s h normal nonzero free k t low here z c.in_ok-z.ensures in
    many ∙ sym (ap (λ (m : List ℕ). length m) c.requires.lead ∙ lead-many s h normal nonzero free)

pub has_monomial-requires : goal.has_monomial-requires
has_monomial-requires c =
    let s = c.args.system.now.system in
    let h = c.args.h.now in
    let normal = c.requires.normal in
    let nonzero = c.requires.nonzero in
    let free = c.requires.free in
    let k = c.each.mono-index in
    let t = c.each-item.result in
    let low : k < length h = subst (λ (f : Poly). k < length f) c.terms-mono-items.ensures.value c.each-test.true in
    let here : t ≡ get_or h k t = c.each-item.is ∙ ap (λ (f : Poly). get_or f k t) c.terms-mono-items.ensures.value in
    let z = c.in_ok-z.z in
    let many : length z ≡ space_count s = z-many s h normal nonzero free k t low here z c.in_ok-z.ensures in
    subst (λ ts. All (λ t. length t.0 ≡ length z) ts) (sym c.deref.ensures.value) (λ j d inside. (c.each.invariant.terms j d inside).vars ∙ sym many)

pub solved_at-requires-clause-free : goal.solved_at-requires-clause-free
solved_at-requires-clause-free c =
    let s = c.args.system.now.system in
    let h = c.args.h.now in
    let normal = c.requires.normal in
    let nonzero = c.requires.nonzero in
    let free = c.requires.free in
    frees s h normal nonzero free

pub solved_at-requires-clause-z : goal.solved_at-requires-clause-z
solved_at-requires-clause-z c =
    let s = c.args.system.now.system in
    let h = c.args.h.now in
    let normal = c.requires.normal in
    let nonzero = c.requires.nonzero in
    let free = c.requires.free in
    let k = c.each.mono-index in
    let t = c.each-item.result in
    let low : k < length h = subst (λ (f : Poly). k < length f) c.terms-mono-items.ensures.value c.each-test.true in
    let here : t ≡ get_or h k t = c.each-item.is ∙ ap (λ (f : Poly). get_or f k t) c.terms-mono-items.ensures.value in
    let z = c.in_ok-z.z in
    let many : length z ≡ space_count s = z-many s h normal nonzero free k t low here z c.in_ok-z.ensures in
    many

pub solved_at-requires-clause-nonzero : goal.solved_at-requires-clause-nonzero
solved_at-requires-clause-nonzero c =
    let s = c.args.system.now.system in
    let h = c.args.h.now in
    let normal = c.requires.normal in
    let nonzero = c.requires.nonzero in
    let free = c.requires.free in
    subst (λ (f : Poly). is_zero (residue_ops s.p) f ≡ false) (sym (c.in_ok-divisor.ensures.value ∙ ap (z_coefficient s h) c.requires.lead)) (divisor-nonzero s h normal nonzero free)

pub each-preserved-then-is_same : goal.each-preserved-then-is_same
each-preserved-then-is_same c =
    let s = c.args.system.now.system in
    let h = c.args.h.now in
    let normal = c.requires.normal in
    let nonzero = c.requires.nonzero in
    let free = c.requires.free in
    let k = c.each.mono-index in
    let t = c.each-item.result in
    let low : k < length h = subst (λ (f : Poly). k < length f) c.terms-mono-items.ensures.value c.each-test.true in
    let here : t ≡ get_or h k t = c.each-item.is ∙ ap (λ (f : Poly). get_or f k t) c.terms-mono-items.ensures.value in
    let z = c.in_ok-z.z in
    let many : length z ≡ space_count s = z-many s h normal nonzero free k t low here z c.in_ok-z.ensures in
    solving-lead s h c.args.lead.now k c.each.tail.items c.each.invariant t low here z c.in_ok-z.ensures (sym c.is_same.ensures ∙ c.if-is_same.true)

pub each-preserved-then-has_monomial : goal.each-preserved-then-has_monomial
each-preserved-then-has_monomial c =
    let s = c.args.system.now.system in
    let h = c.args.h.now in
    let normal = c.requires.normal in
    let nonzero = c.requires.nonzero in
    let free = c.requires.free in
    let k = c.each.mono-index in
    let t = c.each-item.result in
    let low : k < length h = subst (λ (f : Poly). k < length f) c.terms-mono-items.ensures.value c.each-test.true in
    let here : t ≡ get_or h k t = c.each-item.is ∙ ap (λ (f : Poly). get_or f k t) c.terms-mono-items.ensures.value in
    let z = c.in_ok-z.z in
    let many : length z ≡ space_count s = z-many s h normal nonzero free k t low here z c.in_ok-z.ensures in
    solving-passed s h c.args.lead.now k c.each.tail.items c.each.invariant t low here z c.in_ok-z.ensures (ap (λ ts. list_any (λ u. same_monomial u.0 z) ts) (sym c.deref.ensures.value) ∙ sym c.has_monomial.ensures ∙ c.if-has_monomial.true)

pub each-preserved : goal.each-preserved
each-preserved c =
    let s = c.args.system.now.system in
    let h = c.args.h.now in
    let normal = c.requires.normal in
    let nonzero = c.requires.nonzero in
    let free = c.requires.free in
    let k = c.each.mono-index in
    let t = c.each-item.result in
    let low : k < length h = subst (λ (f : Poly). k < length f) c.terms-mono-items.ensures.value c.each-test.true in
    let here : t ≡ get_or h k t = c.each-item.is ∙ ap (λ (f : Poly). get_or f k t) c.terms-mono-items.ensures.value in
    let z = c.in_ok-z.z in
    let many : length z ≡ space_count s = z-many s h normal nonzero free k t low here z c.in_ok-z.ensures in
    let lead = c.args.lead.now in
    let x = c.in_ok-solved.solved in
    let off : same_monomial z lead ≡ false = sym c.is_same.ensures ∙ c.if-is_same.false in
    let new = ap (λ ts. list_any (λ u. same_monomial u.0 z) ts) (sym c.deref.ensures.value) ∙ sym c.has_monomial.ensures ∙ c.if-has_monomial.false in
    let made : IsSolution s h lead z x = subst (λ (d : Poly). IsCancelled (residue_ops s.p) (opposite (residue_ops s.p) (z_coefficient s h z), d) x) c.in_ok-divisor.ensures.value c.in_ok-solved.ensures.solved in
    let made_z : IsSolution s h (lead_in_z s h) z x = subst (λ (m : List ℕ). IsSolution s h m z x) c.requires.lead made in
    let off_z : same_monomial z (lead_in_z s h) ≡ false = subst (λ (m : List ℕ). same_monomial z m ≡ false) c.requires.lead off in
    solving-more s h lead k c.each.tail.items c.each.invariant t low here z c.in_ok-z.ensures x c.push.new.self.items c.in_ok-push.ensures.items off new made
    (tail-term s h normal nonzero free k t low here z c.in_ok-z.ensures x c.in_ok-solved.ensures.stored made_z) (subst (λ (m : List ℕ). grevlex z m ≡ Less) (sym c.requires.lead) (z-under s h normal nonzero free k t low here z c.in_ok-z.ensures off_z))

pub returns-clause-solved : goal.returns-clause-solved
returns-clause-solved c =
    let s = c.args.system.now.system in
    let h = c.args.h.now in
    let normal = c.requires.normal in
    let nonzero = c.requires.nonzero in
    let free = c.requires.free in
    let lead = c.args.lead.now in
    let k = c.each.mono-index in
    let all : length h ≤ k = subst (λ (f : Poly). length f ≤ k) c.terms-mono-items.ensures.value c.each-test.false in
    let sorted = c.sort_unstable_by.new.self.items in
    let descends = c.sort_unstable_by.ensures.sorted (λ s t. is_lt (grevlex t.0 s.0)) (IsStrictWeakOrder-flip (λ (s t : List ℕ × Fraction). is_lt (grevlex s.0 t.0)) (ranks_by grevlex_laws.total (λ s. s.0))) (answers_always _ _ _ (λ f a r h called. search rules)) in
    let same = subst (λ (m : List ℕ). IsTrue (same_monomial lead m)) c.requires.lead (same_monomial_refl lead) in
    let divisor = subst (λ (m : List ℕ). is_zero (residue_ops s.p) (z_coefficient s h m) ≡ false) (sym c.requires.lead) (divisor-nonzero s h normal nonzero free) in
    subst (λ (m : List ℕ). IsSolved s h (record { lead = m; tail = sorted })) (sym c.in_ok-lead.ensures) (solved-sorted s h lead k c.each.tail.items sorted all c.each.invariant c.sort_unstable_by.ensures.permutation descends same divisor)

pub returns-clause-stored : goal.returns-clause-stored
returns-clause-stored c =
    let s = c.args.system.now.system in
    let h = c.args.h.now in
    let normal = c.requires.normal in
    let nonzero = c.requires.nonzero in
    let free = c.requires.free in
    let lead = c.args.lead.now in
    let k = c.each.mono-index in
    let all : length h ≤ k = subst (λ (f : Poly). length f ≤ k) c.terms-mono-items.ensures.value c.each-test.false in
    let sorted = c.sort_unstable_by.new.self.items in
    let descends = c.sort_unstable_by.ensures.sorted (λ s t. is_lt (grevlex t.0 s.0)) (IsStrictWeakOrder-flip (λ (s t : List ℕ × Fraction). is_lt (grevlex s.0 t.0)) (ranks_by grevlex_laws.total (λ s. s.0))) (answers_always _ _ _ (λ f a r h called. search rules)) in
    let many = ap (λ (m : List ℕ). length m) c.requires.lead ∙ lead-many s h normal nonzero free in
    let low = subst (λ (m : List ℕ). total_degree m ≤ max_degree) (sym c.requires.lead) (lead-low s h normal nonzero free) in
    subst (λ (m : List ℕ). IsStoredRelation s.p (space_count s) (record { lead = m; tail = sorted })) (sym c.in_ok-lead.ensures) (stored-sorted s h lead k c.each.tail.items sorted all c.each.invariant c.sort_unstable_by.ensures.permutation descends many low)
