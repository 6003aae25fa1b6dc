use Rattle.std.proofs.Common.{◌≡◌, ◌∙◌, ℕ, List, length, All, ap, sym}
use Rattle.std.proofs.lemmas.Result.{err_from_is_err_and}
use Rattle.rinv_defs.specs.System.{space_count}
use Rattle.rinv_defs.specs.Invariant.{Fraction}
use Rattle.rinv_text.specs.Told.{Told}
use Rattle.rinv_frac.specs.Fractions.{IsStored}
use Rattle.rinv_frac.proofs.Stored.{stored}
use Rattle.rinv_rewrite.specs.Prepared.{symbol_relations}
use Rattle.rinv_rewrite.proofs.Expressed.{expressed-answer, expressed-values, moved_divisors, moved_part}
use Rattle.rinv_rewrite.proofs.ExpressingFaults.{denominator-meets, numerator-meets}
use Rattle.rinv_rewrite.proofs.rewriting.expressed.Goals as goal

fractions-over : (p q v w : ℕ) (cs : List Fraction) → p ≡ q → v ≡ w → All (IsStored q w) cs → All (IsStored p v) cs
fractions-over p q v w cs e h are = rw (e, h) are

pub rest_in_z-requires-clause-polynomial : goal.rest_in_z-requires-clause-polynomial
rest_in_z-requires-clause-polynomial c =
    let s = c.args.system.now.system in
    let r = c.z_ring-ring.result in
    rw c.num.ensures (moved_part r.coeffs.coeffs s.p (space_count s) r.vars c.args.f.now.0 c.z_ring-ring.ensures.field c.z_ring-ring.ensures.vars (stored s.p (space_count s) c.args.f.now c.requires.fraction).numerator)

pub rest_in_z-requires-clause-divisors : goal.rest_in_z-requires-clause-divisors
rest_in_z-requires-clause-divisors c =
    let s = c.args.system.now.system in
    let r = c.z_ring-ring.result in
    let ready = c.requires.basis.1 in
    moved_divisors r.coeffs.coeffs s.p r.coeffs.vars (length c.args.fractions.now) (space_count s) r.vars c.args.basis.now.polys.items c.args.basis.now.divisors.list.items
    c.z_ring-ring.ensures.field (c.z_ring-ring.ensures.symbols ∙ ready.symbols) c.z_ring-ring.ensures.vars ready.divisors

pub rest_in_z-requires-2-clause-polynomial : goal.rest_in_z-requires-2-clause-polynomial
rest_in_z-requires-2-clause-polynomial c =
    let s = c.args.system.now.system in
    let r = c.z_ring-ring.result in
    rw c.den.ensures (moved_part r.coeffs.coeffs s.p (space_count s) r.vars c.args.f.now.1 c.z_ring-ring.ensures.field c.z_ring-ring.ensures.vars (stored s.p (space_count s) c.args.f.now c.requires.fraction).denominator)

pub rest_in_z-requires-2-clause-divisors : goal.rest_in_z-requires-2-clause-divisors
rest_in_z-requires-2-clause-divisors c =
    let s = c.args.system.now.system in
    let r = c.z_ring-ring.result in
    let ready = c.requires.basis.1 in
    moved_divisors r.coeffs.coeffs s.p r.coeffs.vars (length c.args.fractions.now) (space_count s) r.vars c.args.basis.now.polys.items c.args.basis.now.divisors.list.items
    c.z_ring-ring.ensures.field (c.z_ring-ring.ensures.symbols ∙ ready.symbols) c.z_ring-ring.ensures.vars ready.divisors

pub chosen-requires-clause-field : goal.chosen-requires-clause-field
chosen-requires-clause-field c = ap (λ r. r.coeffs) c.new-field.ensures ∙ c.new.ensures.ring ∙ ap (λ (t : Told). t.system.p) c.system.view_is ∙ sym c.z_ring-ring.ensures.field

pub chosen-requires-clause-symbols : goal.chosen-requires-clause-symbols
chosen-requires-clause-symbols c = sym (c.z_ring-ring.ensures.symbols ∙ c.requires.basis.1.symbols)

pub chosen-requires-clause-fractions : goal.chosen-requires-clause-fractions
chosen-requires-clause-fractions c =
    let s = c.args.system.now.system in
    fractions-over c.new-field.result.base.coeffs s.p c.new-field.result.base.vars (space_count s) c.args.fractions.now
    (ap (λ r. r.coeffs) c.new-field.ensures ∙ c.new.ensures.ring ∙ ap (λ (t : Told). t.system.p) c.system.view_is)
    (ap (λ r. r.vars) c.new-field.ensures ∙ c.new.ensures.count ∙ c.len.ensures.len ∙ ap (λ (t : Told). length t.system.space) c.system.view_is) c.requires.fractions

pub returns-in_err-num : goal.returns-in_err-num
returns-in_err-num c =
    let s = c.args.system.now.system in
    let r = c.z_ring-ring.result in
    let q = err_from_is_err_and c.from_residual.result c.from_residual.ensures.1 in
    let meets = rw c.num.ensures at c.in_err-num.ensures.degree in
    λ ts tied ready. rw (q.1, q.2) (numerator-meets s c.args.fractions.now (symbol_relations s.p ts) c.args.f.now c.in_err-num.field-0.0 c.args.basis.now.polys.items ready.same r.coeffs.coeffs r.coeffs.vars c.z_ring-ring.ensures.field (c.z_ring-ring.ensures.symbols ∙ ready.symbols) meets)

pub returns-in_err-den : goal.returns-in_err-den
returns-in_err-den c =
    let s = c.args.system.now.system in
    let r = c.z_ring-ring.result in
    let q = err_from_is_err_and c.from_residual-in_err-den.result c.from_residual-in_err-den.ensures.1 in
    let meets = rw c.den.ensures at c.in_err-den.ensures.degree in
    λ ts tied ready. rw (q.1, q.2) (denominator-meets s c.args.fractions.now (symbol_relations s.p ts) c.args.f.now c.in_err-den.field-0.0 c.args.basis.now.polys.items ready.same r.coeffs.coeffs r.coeffs.vars c.z_ring-ring.ensures.field (c.z_ring-ring.ensures.symbols ∙ ready.symbols) meets)

pub returns-in_err-expression : goal.returns-in_err-expression
returns-in_err-expression c =
    let s = c.args.system.now.system in
    let r = c.z_ring-ring.result in
    let q = err_from_is_err_and c.from_residual-in_err-expression.result c.from_residual-in_err-expression.ensures.1 in
    let den = rw c.den.ensures at c.in_ok-den.ensures.rest in
    λ ts tied ready. rw (q.1, q.2) (expressed-values s c.args.fractions.now ts tied r.coeffs.coeffs r.coeffs.vars r.vars c.z_ring-ring.ensures.field (c.z_ring-ring.ensures.symbols ∙ ready.symbols) c.z_ring-ring.ensures.vars c.args.basis.now.polys.items ready.same ready.normal
    c.args.f.now c.in_ok-den.den c.in_ok-den.ensures.element den c.in_err-expression.field-0.0 c.in_err-expression.ensures.degree)

pub returns : goal.returns
returns c =
    let s = c.args.system.now.system in
    let r = c.z_ring-ring.result in
    let num = rw c.num.ensures at c.in_ok-num.ensures.rest in
    let den = rw c.den.ensures at c.in_ok-den.ensures.rest in
    λ ts tied ready. expressed-answer s c.args.fractions.now ts tied r.coeffs.coeffs r.coeffs.vars r.vars c.z_ring-ring.ensures.field (c.z_ring-ring.ensures.symbols ∙ ready.symbols) c.z_ring-ring.ensures.vars c.args.basis.now.polys.items ready.same ready.normal
    c.requires.fractions c.args.f.now c.requires.invariant c.requires.system c.in_ok-num.num c.in_ok-den.den c.in_ok-num.ensures.element num c.in_ok-den.ensures.element den c.in_ok-expression.expression c.in_ok-expression.ensures.choice
