use Rattle.std.proofs.Common.{◌<◌, ◌≤◌, ℕ, length, get_or, map, arith, refl, ◌∙◌, subst, length-append, [], ◌∷◌}
use Rattle.std.proofs.lemmas.List.{map-append, get_or_default}
use Rattle.rinv_algebra.specs.Polynomial.{Polynomial}
use Rattle.rinv_sub.proofs.KnownPowers.{each-push}
use Rattle.rinv_modulo.specs.Congruence.{ArePowersModulo}
use Rattle.rinv_modulo.proofs.tables.tables_modulo.Goals as goal

pub polynomials-init : goal.polynomials-init
polynomials-init c = rw c.new-tables.ensures.items (record { many = refl; each = λ j t b f. absurd (omega (arith, b)) })

pub polynomials-preserved : goal.polynomials-preserved
polynomials-preserved c =
    let p = c.args.ring.now.coeffs in
    let v = c.args.ring.now.vars in
    let hs = c.args.basis.now in
    let fs = c.args.fs.now in
    let k = c.polynomials.k in
    let h = c.polynomials.invariant in
    let few : k < length fs = omega (arith, c.polynomials-test.true) in
    let here : (f : Polynomial ℕ) → ArePowersModulo p v hs (get_or fs k f) c.in_ok-powers.powers.items = λ f.
    subst (λ (x : Polynomial ℕ). ArePowersModulo p v hs x c.in_ok-powers.powers.items) (c.index-fs-k.is ∙ get_or_default fs k c.index-fs-k.result f few) c.in_ok-powers.ensures in
    let more = map-append (λ t. t.items) c.polynomials.tables.items (c.in_ok-powers.powers ∷ []) in
    rw (c.in_ok-push.ensures.items, more) (record {
      many = omega (arith, length-append (map (λ t. t.items) c.polynomials.tables.items) (c.in_ok-powers.powers.items ∷ []), h.many);
      each = each-push (λ j t. (f : Polynomial ℕ) → ArePowersModulo p v hs (get_or fs j f) t) (map (λ t. t.items) c.polynomials.tables.items) c.in_ok-powers.powers.items k h.many h.each here;
    })

pub returns : goal.returns
returns c =
    let past : length c.args.fs.now ≤ c.polynomials.k = omega (arith, c.polynomials-test.false) in
    record {
      many = omega (arith, c.polynomials.invariant.many, past, c.polynomials.auto.k-end);
      each = λ k f t b. c.polynomials.invariant.each k t (omega (arith, b, past)) f;
    }
