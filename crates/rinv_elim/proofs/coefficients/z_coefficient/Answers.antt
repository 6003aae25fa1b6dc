use Rattle.std.proofs.Common.{◌≡◌, ◌∙◌, ◌<◌, ◌≤◌, true, false, ℕ, List, length, get_or, take_all, sym, ap, subst, arith, true≢false}
use Rattle.std.proofs.lemmas.Bool.Decides.{nat_tests}
use Rattle.rinv_algebra.specs.Monomial.{same_monomial}
use Rattle.rinv_defs.specs.System.{Poly, space_count}
use Rattle.rinv_frac.specs.Fractions.{IsPart}
use Rattle.rinv_reduction.specs.Localised.{z_coefficient}
use Rattle.rinv_elim.proofs.LeadsMade.{part-over}
use Rattle.rinv_elim.proofs.ZCoefficients.{term-length, z-length, coefficient-passed, coefficient-kept, coefficient-normal}
use Rattle.rinv_elim.proofs.coefficients.z_coefficient.Goals as goal

pub z_part-requires-clause-vars : goal.z_part-requires-clause-vars
z_part-requires-clause-vars c =
    let s = c.args.system.now.system in
    let h = c.args.h.now in
    let z = c.args.z.now in
    let k = c.each.mono-index in
    let t = c.each-item.result in
    let low : k < length h = subst (λ (f : Poly). k < length f) c.terms-mono-items.ensures.value c.each-test.true in
    let here : t ≡ get_or h k t = c.each-item.is ∙ ap (λ (f : Poly). get_or f k t) c.terms-mono-items.ensures.value in
    let many = term-length s h c.requires.polynomial k t low here in
    many

pub is_same-requires : goal.is_same-requires
is_same-requires c =
    let s = c.args.system.now.system in
    let h = c.args.h.now in
    let z = c.args.z.now in
    let k = c.each.mono-index in
    let t = c.each-item.result in
    let low : k < length h = subst (λ (f : Poly). k < length f) c.terms-mono-items.ensures.value c.each-test.true in
    let here : t ≡ get_or h k t = c.each-item.is ∙ ap (λ (f : Poly). get_or f k t) c.terms-mono-items.ensures.value in
    let many = term-length s h c.requires.polynomial k t low here in
    ap (λ (m : List ℕ). length m) c.in_ok-exponents.ensures ∙ z-length s t.0 many ∙ sym c.requires.z

pub space_part-requires-clause-vars : goal.space_part-requires-clause-vars
space_part-requires-clause-vars c =
    let s = c.args.system.now.system in
    let h = c.args.h.now in
    let z = c.args.z.now in
    let k = c.each.mono-index in
    let t = c.each-item.result in
    let low : k < length h = subst (λ (f : Poly). k < length f) c.terms-mono-items.ensures.value c.each-test.true in
    let here : t ≡ get_or h k t = c.each-item.is ∙ ap (λ (f : Poly). get_or f k t) c.terms-mono-items.ensures.value in
    let many = term-length s h c.requires.polynomial k t low here in
    many

pub each-preserved-then-not-is_same : goal.each-preserved-then-not-is_same
each-preserved-then-not-is_same c =
    let s = c.args.system.now.system in
    let h = c.args.h.now in
    let z = c.args.z.now in
    let k = c.each.mono-index in
    let t = c.each-item.result in
    let low : k < length h = subst (λ (f : Poly). k < length f) c.terms-mono-items.ensures.value c.each-test.true in
    let here : t ≡ get_or h k t = c.each-item.is ∙ ap (λ (f : Poly). get_or f k t) c.terms-mono-items.ensures.value in
    let many = term-length s h c.requires.polynomial k t low here in
    let off : c.is_same.result ≡ false = grind (arith, nat_tests, c.if-not-is_same.true) in
    coefficient-passed s h z k t low here c.each.terms.items c.each.invariant (ap (λ (m : List ℕ). same_monomial m z) (sym c.in_ok-exponents.ensures) ∙ sym c.is_same.ensures ∙ off)

pub each-preserved : goal.each-preserved
each-preserved c =
    let s = c.args.system.now.system in
    let h = c.args.h.now in
    let z = c.args.z.now in
    let k = c.each.mono-index in
    let t = c.each-item.result in
    let low : k < length h = subst (λ (f : Poly). k < length f) c.terms-mono-items.ensures.value c.each-test.true in
    let here : t ≡ get_or h k t = c.each-item.is ∙ ap (λ (f : Poly). get_or f k t) c.terms-mono-items.ensures.value in
    let many = term-length s h c.requires.polynomial k t low here in
    let on : c.is_same.result ≡ true = grind (arith, nat_tests, c.if-not-is_same.false) in
    coefficient-kept s h z k t low here c.each.terms.items c.push.new.self.items c.in_ok-rest.rest c.each.invariant (ap (λ (m : List ℕ). same_monomial m z) (sym c.in_ok-exponents.ensures) ∙ sym c.is_same.ensures ∙ on) c.in_ok-rest.ensures c.in_ok-push.ensures.items

pub returns-clause-stored : goal.returns-clause-stored
returns-clause-stored c =
    let s = c.args.system.now.system in
    let h = c.args.h.now in
    let z = c.args.z.now in
    let ring = c.args.space_ring.now in
    let all : length h ≤ c.each.mono-index = subst (λ (f : Poly). length f ≤ c.each.mono-index) c.terms-mono-items.ensures.value c.each-test.false in
    let items : c.each.terms.items ≡ z_coefficient s h z = c.each.invariant ∙ ap (λ (f : Poly). z_coefficient s f z) (take_all c.each.mono-index h all) in
    let whole = coefficient-normal s z c.requires.z h c.requires.polynomial c.requires.free in
    let value = rw c.in-Some.is at c.in_ok-made.ensures.value in
    subst (IsPart s.p (space_count s)) (sym (value ∙ items)) whole

pub returns-clause-value : goal.returns-clause-value
returns-clause-value c =
    let s = c.args.system.now.system in
    let h = c.args.h.now in
    let z = c.args.z.now in
    let ring = c.args.space_ring.now in
    let all : length h ≤ c.each.mono-index = subst (λ (f : Poly). length f ≤ c.each.mono-index) c.terms-mono-items.ensures.value c.each-test.false in
    let items : c.each.terms.items ≡ z_coefficient s h z = c.each.invariant ∙ ap (λ (f : Poly). z_coefficient s f z) (take_all c.each.mono-index h all) in
    let whole = coefficient-normal s z c.requires.z h c.requires.polynomial c.requires.free in
    let value = rw c.in-Some.is at c.in_ok-made.ensures.value in
    value ∙ items

pub unreachable-requires : goal.unreachable-requires
unreachable-requires c =
    let s = c.args.system.now.system in
    let h = c.args.h.now in
    let z = c.args.z.now in
    let ring = c.args.space_ring.now in
    let all : length h ≤ c.each.mono-index = subst (λ (f : Poly). length f ≤ c.each.mono-index) c.terms-mono-items.ensures.value c.each-test.false in
    let items : c.each.terms.items ≡ z_coefficient s h z = c.each.invariant ∙ ap (λ (f : Poly). z_coefficient s f z) (take_all c.each.mono-index h all) in
    let whole = coefficient-normal s z c.requires.z h c.requires.polynomial c.requires.free in
    let normal = rw c.in-None.is at c.in_ok-made.ensures.normal in
    absurd (true≢false (sym (normal.1 (subst (IsPart ring.coeffs ring.vars) (sym items) (part-over ring.coeffs s.p ring.vars (space_count s) (z_coefficient s h z) c.requires.field c.requires.vars whole)))))
