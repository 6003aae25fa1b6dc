use Rattle.std.proofs.Common.{◌≡◌, ◌+◌, ◌<◌, ◌≤◌, ◌^◌, ◌∷◌, ◌++◌, ◌∙◌, [], None, ap, refl, sym, subst, arith, length, List}
use Rattle.std.proofs.lemmas.List.{length_push}
use Rattle.rinv_pool.specs.Growing.{IsGrown}
use Rattle.rinv_pool.proofs.Grown.{grown-more}
use Rattle.rinv_pool.proofs.slots.add_slots.Goals as goal

pub slots-preserved : goal.slots-preserved
slots-preserved g c =
    let i = c.slots.invariant in
    let place : c.len-place.result ≡ length c.slots.slots.items = omega (arith, c.len-place.ensures) in
    let few : length c.slots.slots.items + 1 < 2 ^ 32 = omega (arith, i.1, c.requires.few, c.slots-test.true) in (
      omega (arith, c.slots-test.true),
      ap length c.push_reserved.ensures.items ∙ length_push c.slots.slots.items _ ∙ omega (arith, i.1),
      omega (arith, i.2, c.push_reserved.ensures.len, c.push_reserved.ensures.capacity),
      subst (λ n. IsGrown c.args.slots.now.items c.args.free.now c.push_reserved.new.self.items n (c.slots.added + 1)) (sym place)
          (subst (λ (xs : List _). IsGrown c.args.slots.now.items c.args.free.now xs (length c.slots.slots.items) (c.slots.added + 1)) (sym c.push_reserved.ensures.items)
          (grown-more c.args.slots.now.items c.slots.slots.items (record { term = None; next = c.slots.free }) c.args.free.now c.slots.free c.slots.added refl refl few i.3)),
    )

pub returns-clause-holds : goal.returns-clause-holds
returns-clause-holds g c =
    let i = c.slots.invariant in
    let e : c.slots.added ≡ c.args.more = omega (arith, i.0, c.slots-test.false) in
    subst (λ n. IsGrown c.args.slots.now.items c.args.free.now c.slots.slots.items c.slots.free n) e i.3
