use Rattle.std.proofs.Common.{◌≡◌, ◌∙◌, length, ap}
use Rattle.std.proofs.lemmas.Result.{err_from_is_err_and}
use Rattle.rinv_defs.specs.System.{Poly}
use Rattle.rinv_text.specs.Told.{Told}
use Rattle.rinv_tails.specs.Reducing.{TailsMeet}
use Rattle.rinv_elim.proofs.ReduceFacts.{reduced-basis, ascending-leads, stops-at, stored-over, stored-back, made-over, meets-over}
use Rattle.rinv_elim.proofs.reducing.reduce.Goals as goal

pub reduced_tails-requires : goal.reduced_tails-requires
reduced_tails-requires c =
    let s = c.args.system.now.system in
    let base = c.new-field.result.base in
    let p : base.coeffs ≡ s.p = ap (λ r. r.coeffs) c.new-field.ensures ∙ c.new-ring.ensures.ring ∙ ap (λ (t : Told). t.system.p) c.system.view_is in
    let v : base.vars ≡ length s.space = ap (λ r. r.vars) c.new-field.ensures ∙ c.new-ring.ensures.count ∙ c.len.ensures.len ∙ ap (λ (t : Told). length t.system.space) c.system.view_is in
    let rs = c.args.relations in
    stored-over base.coeffs s.p base.vars (length s.space) p v rs c.requires.stored

pub returns-clause-reduced : goal.returns-clause-reduced
returns-clause-reduced c =
    let s = c.args.system.now.system in
    let base = c.new-field.result.base in
    let p : base.coeffs ≡ s.p = ap (λ r. r.coeffs) c.new-field.ensures ∙ c.new-ring.ensures.ring ∙ ap (λ (t : Told). t.system.p) c.system.view_is in
    let v : base.vars ≡ length s.space = ap (λ r. r.vars) c.new-field.ensures ∙ c.new-ring.ensures.count ∙ c.len.ensures.len ∙ ap (λ (t : Told). length t.system.space) c.system.view_is in
    let rs = c.args.relations in
    let made = c.in_ok-reduced.ensures in
    let qs = c.in_ok-reduced.reduced in
    let stored = stored-back base.coeffs s.p base.vars (length s.space) p v qs made.stored in
    let so_far = made-over base.coeffs s.p base.vars (length s.space) p v rs qs made.made in
    reduced-basis s rs qs c.requires.stored c.requires.monic made.number stored so_far

pub returns-clause-ascending : goal.returns-clause-ascending
returns-clause-ascending c =
    let s = c.args.system.now.system in
    let base = c.new-field.result.base in
    let p : base.coeffs ≡ s.p = ap (λ r. r.coeffs) c.new-field.ensures ∙ c.new-ring.ensures.ring ∙ ap (λ (t : Told). t.system.p) c.system.view_is in
    let v : base.vars ≡ length s.space = ap (λ r. r.vars) c.new-field.ensures ∙ c.new-ring.ensures.count ∙ c.len.ensures.len ∙ ap (λ (t : Told). length t.system.space) c.system.view_is in
    let rs = c.args.relations in
    let made = c.in_ok-reduced.ensures in
    let qs = c.in_ok-reduced.reduced in
    let stored = stored-back base.coeffs s.p base.vars (length s.space) p v qs made.stored in
    let so_far = made-over base.coeffs s.p base.vars (length s.space) p v rs qs made.made in
    ascending-leads s rs qs c.requires.stored c.requires.monic made.number stored so_far

pub returns-clause-stored : goal.returns-clause-stored
returns-clause-stored c =
    let s = c.args.system.now.system in
    let base = c.new-field.result.base in
    let p : base.coeffs ≡ s.p = ap (λ r. r.coeffs) c.new-field.ensures ∙ c.new-ring.ensures.ring ∙ ap (λ (t : Told). t.system.p) c.system.view_is in
    let v : base.vars ≡ length s.space = ap (λ r. r.vars) c.new-field.ensures ∙ c.new-ring.ensures.count ∙ c.len.ensures.len ∙ ap (λ (t : Told). length t.system.space) c.system.view_is in
    let rs = c.args.relations in
    let made = c.in_ok-reduced.ensures in
    let qs = c.in_ok-reduced.reduced in
    let stored = stored-back base.coeffs s.p base.vars (length s.space) p v qs made.stored in
    let so_far = made-over base.coeffs s.p base.vars (length s.space) p v rs qs made.made in
    stored

pub returns-clause-made : goal.returns-clause-made
returns-clause-made c =
    let s = c.args.system.now.system in
    let base = c.new-field.result.base in
    let p : base.coeffs ≡ s.p = ap (λ r. r.coeffs) c.new-field.ensures ∙ c.new-ring.ensures.ring ∙ ap (λ (t : Told). t.system.p) c.system.view_is in
    let v : base.vars ≡ length s.space = ap (λ r. r.vars) c.new-field.ensures ∙ c.new-ring.ensures.count ∙ c.len.ensures.len ∙ ap (λ (t : Told). length t.system.space) c.system.view_is in
    let rs = c.args.relations in
    let made = c.in_ok-reduced.ensures in
    let qs = c.in_ok-reduced.reduced in
    let stored = stored-back base.coeffs s.p base.vars (length s.space) p v qs made.stored in
    let so_far = made-over base.coeffs s.p base.vars (length s.space) p v rs qs made.made in
    so_far

pub returns-in_err-reduced-clause-degree : goal.returns-in_err-reduced-clause-degree
returns-in_err-reduced-clause-degree c =
    let s = c.args.system.now.system in
    let base = c.new-field.result.base in
    let p : base.coeffs ≡ s.p = ap (λ r. r.coeffs) c.new-field.ensures ∙ c.new-ring.ensures.ring ∙ ap (λ (t : Told). t.system.p) c.system.view_is in
    let v : base.vars ≡ length s.space = ap (λ r. r.vars) c.new-field.ensures ∙ c.new-ring.ensures.count ∙ c.len.ensures.len ∙ ap (λ (t : Told). length t.system.space) c.system.view_is in
    let rs = c.args.relations in
    let fault = c.in_err-reduced.field-0.0 in
    let q = err_from_is_err_and c.from_residual.result c.from_residual.ensures.1 in
    rw (q.1, q.2) (stops-at (λ (d : Poly). ⊥) (TailsMeet s.p (length s.space) rs) fault (meets-over base.coeffs s.p base.vars (length s.space) p v rs fault c.in_err-reduced.ensures.degree))
