use Rattle.std.proofs.Common.{ℕ, sym, ap, subst, ◌∙◌}
use Rattle.rinv_text.specs.declared.formal.Formal.{Formal}
use Rattle.rinv_text.specs.Evaluation.{outcome}
use Rattle.rinv_text.specs.Reading.{formal_at}
use Rattle.rinv_text.specs.Sizes.{sizes}
use Rattle.rinv_text.specs.Sightings.{fault_of}
use Rattle.rinv_text.specs.Values.{IsLow}
use Rattle.rinv_text.proofs.FractionAnswers.{answer-refused_first, answer-refused_last, answer-nonzero, answer-numbers, answer-fraction, meant, means}
use Rattle.rinv_text.proofs.fractions.accepted.Goals as goal

pub returns-in-Some-clause-fault : goal.returns-in-Some-clause-fault
returns-in-Some-clause-fault c = λ names ps end read.
    answer-refused_first c.args.field.now.base.coeffs c.args.field.now.base.vars names c.args.defs.now c.args.known.now ps end c.args.tokens.now c.args.steps.now read c.in_ok-size.size (c.in_ok-size.ensures ∙ ap (λ (n : ℕ). outcome (sizes (formal_at n c.args.defs.now)) c.args.steps.now) (rw c.base-2.ensures at c.vars.ensures)) c.refusal.result (c.refusal.ensures ∙ ap (λ (n : ℕ). fault_of n c.args.tokens.now c.in_ok-size.size) c.len.ensures.len)
    c.in-Some.fault c.in-Some.is

pub value_of-requires-clause-may : goal.value_of-requires-clause-may
value_of-requires-clause-may c =
    let (names, ps, end, read) = c.requires.read in (
      meant c.args.field.now.base.coeffs c.args.field.now.base.vars names c.args.defs.now c.args.known.now ps end c.args.tokens.now c.args.steps.now read c.in_ok-size.size (c.in_ok-size.ensures ∙ ap (λ (n : ℕ). outcome (sizes (formal_at n c.args.defs.now)) c.args.steps.now) (rw c.base-2.ensures at c.vars.ensures)) c.refusal.result (c.refusal.ensures ∙ ap (λ (n : ℕ). fault_of n c.args.tokens.now c.in_ok-size.size) c.len.ensures.len) c.in_default.is (rw c.base.ensures at (rw c.coeffs.ensures at c.modulus-p.ensures.listed)) c.requires.values,
      means c.args.field.now.base.coeffs c.args.field.now.base.vars names c.args.defs.now c.args.known.now ps end c.args.tokens.now c.args.steps.now read c.in_ok-size.size (c.in_ok-size.ensures ∙ ap (λ (n : ℕ). outcome (sizes (formal_at n c.args.defs.now)) c.args.steps.now) (rw c.base-2.ensures at c.vars.ensures)) c.refusal.result (c.refusal.ensures ∙ ap (λ (n : ℕ). fault_of n c.args.tokens.now c.in_ok-size.size) c.len.ensures.len) c.in_default.is (rw c.base.ensures at (rw c.coeffs.ensures at c.modulus-p.ensures.listed)) c.requires.values,
    )

pub returns-then-parts-clause-fault : goal.returns-then-parts-clause-fault
returns-then-parts-clause-fault c = λ names ps end read.
    let stands = (c.in_ok-parts.ensures (meant c.args.field.now.base.coeffs c.args.field.now.base.vars names c.args.defs.now c.args.known.now ps end c.args.tokens.now c.args.steps.now read c.in_ok-size.size (c.in_ok-size.ensures ∙ ap (λ (n : ℕ). outcome (sizes (formal_at n c.args.defs.now)) c.args.steps.now) (rw c.base-2.ensures at c.vars.ensures)) c.refusal.result (c.refusal.ensures ∙ ap (λ (n : ℕ). fault_of n c.args.tokens.now c.in_ok-size.size) c.len.ensures.len) c.in_default.is (rw c.base.ensures at (rw c.coeffs.ensures at c.modulus-p.ensures.listed)) c.requires.values) (means c.args.field.now.base.coeffs c.args.field.now.base.vars names c.args.defs.now c.args.known.now ps end c.args.tokens.now c.args.steps.now read c.in_ok-size.size (c.in_ok-size.ensures ∙ ap (λ (n : ℕ). outcome (sizes (formal_at n c.args.defs.now)) c.args.steps.now) (rw c.base-2.ensures at c.vars.ensures)) c.refusal.result (c.refusal.ensures ∙ ap (λ (n : ℕ). fault_of n c.args.tokens.now c.in_ok-size.size) c.len.ensures.len) c.in_default.is (rw c.base.ensures at (rw c.coeffs.ensures at c.modulus-p.ensures.listed)) c.requires.values)) in
    answer-refused_last c.args.field.now.base.coeffs c.args.field.now.base.vars names c.args.defs.now c.args.known.now ps end c.args.tokens.now c.args.steps.now read c.in_ok-size.size (c.in_ok-size.ensures ∙ ap (λ (n : ℕ). outcome (sizes (formal_at n c.args.defs.now)) c.args.steps.now) (rw c.base-2.ensures at c.vars.ensures)) c.refusal.result (c.refusal.ensures ∙ ap (λ (n : ℕ). fault_of n c.args.tokens.now c.in_ok-size.size) c.len.ensures.len) c.in_default.is (rw c.base.ensures at (rw c.coeffs.ensures at c.modulus-p.ensures.listed)) c.requires.values
    c.start-place.result c.start-place.ensures (sym stands.by_zero ∙ c.if-parts.true)

pub cancelled-requires : goal.cancelled-requires
cancelled-requires c =
    let (names, ps, end, read) = c.requires.read in
    let stands = (c.in_ok-parts.ensures (meant c.args.field.now.base.coeffs c.args.field.now.base.vars names c.args.defs.now c.args.known.now ps end c.args.tokens.now c.args.steps.now read c.in_ok-size.size (c.in_ok-size.ensures ∙ ap (λ (n : ℕ). outcome (sizes (formal_at n c.args.defs.now)) c.args.steps.now) (rw c.base-2.ensures at c.vars.ensures)) c.refusal.result (c.refusal.ensures ∙ ap (λ (n : ℕ). fault_of n c.args.tokens.now c.in_ok-size.size) c.len.ensures.len) c.in_default.is (rw c.base.ensures at (rw c.coeffs.ensures at c.modulus-p.ensures.listed)) c.requires.values) (means c.args.field.now.base.coeffs c.args.field.now.base.vars names c.args.defs.now c.args.known.now ps end c.args.tokens.now c.args.steps.now read c.in_ok-size.size (c.in_ok-size.ensures ∙ ap (λ (n : ℕ). outcome (sizes (formal_at n c.args.defs.now)) c.args.steps.now) (rw c.base-2.ensures at c.vars.ensures)) c.refusal.result (c.refusal.ensures ∙ ap (λ (n : ℕ). fault_of n c.args.tokens.now c.in_ok-size.size) c.len.ensures.len) c.in_default.is (rw c.base.ensures at (rw c.coeffs.ensures at c.modulus-p.ensures.listed)) c.requires.values)) in (
      meant c.args.field.now.base.coeffs c.args.field.now.base.vars names c.args.defs.now c.args.known.now ps end c.args.tokens.now c.args.steps.now read c.in_ok-size.size (c.in_ok-size.ensures ∙ ap (λ (n : ℕ). outcome (sizes (formal_at n c.args.defs.now)) c.args.steps.now) (rw c.base-2.ensures at c.vars.ensures)) c.refusal.result (c.refusal.ensures ∙ ap (λ (n : ℕ). fault_of n c.args.tokens.now c.in_ok-size.size) c.len.ensures.len) c.in_default.is (rw c.base.ensures at (rw c.coeffs.ensures at c.modulus-p.ensures.listed)) c.requires.values,
      stands,
      answer-nonzero c.args.field.now.base.coeffs c.args.field.now.base.vars names c.args.defs.now c.args.known.now ps end c.args.tokens.now c.args.steps.now read c.in_ok-size.size (c.in_ok-size.ensures ∙ ap (λ (n : ℕ). outcome (sizes (formal_at n c.args.defs.now)) c.args.steps.now) (rw c.base-2.ensures at c.vars.ensures)) c.refusal.result (c.refusal.ensures ∙ ap (λ (n : ℕ). fault_of n c.args.tokens.now c.in_ok-size.size) c.len.ensures.len) c.in_default.is (rw c.base.ensures at (rw c.coeffs.ensures at c.modulus-p.ensures.listed)) c.requires.values (sym stands.by_zero ∙ c.if-parts.false),
    )

pub returns-clause-numerator : goal.returns-clause-numerator
returns-clause-numerator c =
    let (names, ps, end, read) = c.requires.read in
    let stands = (c.in_ok-parts.ensures (meant c.args.field.now.base.coeffs c.args.field.now.base.vars names c.args.defs.now c.args.known.now ps end c.args.tokens.now c.args.steps.now read c.in_ok-size.size (c.in_ok-size.ensures ∙ ap (λ (n : ℕ). outcome (sizes (formal_at n c.args.defs.now)) c.args.steps.now) (rw c.base-2.ensures at c.vars.ensures)) c.refusal.result (c.refusal.ensures ∙ ap (λ (n : ℕ). fault_of n c.args.tokens.now c.in_ok-size.size) c.len.ensures.len) c.in_default.is (rw c.base.ensures at (rw c.coeffs.ensures at c.modulus-p.ensures.listed)) c.requires.values) (means c.args.field.now.base.coeffs c.args.field.now.base.vars names c.args.defs.now c.args.known.now ps end c.args.tokens.now c.args.steps.now read c.in_ok-size.size (c.in_ok-size.ensures ∙ ap (λ (n : ℕ). outcome (sizes (formal_at n c.args.defs.now)) c.args.steps.now) (rw c.base-2.ensures at c.vars.ensures)) c.refusal.result (c.refusal.ensures ∙ ap (λ (n : ℕ). fault_of n c.args.tokens.now c.in_ok-size.size) c.len.ensures.len) c.in_default.is (rw c.base.ensures at (rw c.coeffs.ensures at c.modulus-p.ensures.listed)) c.requires.values)) in
    subst (λ (f : Formal). IsLow f.num_degree c.in_ok-fraction.fraction.0) (sym (answer-numbers c.args.field.now.base.coeffs c.args.field.now.base.vars names c.args.defs.now c.args.known.now ps end c.args.tokens.now c.args.steps.now read c.in_ok-size.size (c.in_ok-size.ensures ∙ ap (λ (n : ℕ). outcome (sizes (formal_at n c.args.defs.now)) c.args.steps.now) (rw c.base-2.ensures at c.vars.ensures)) c.refusal.result (c.refusal.ensures ∙ ap (λ (n : ℕ). fault_of n c.args.tokens.now c.in_ok-size.size) c.len.ensures.len) c.in_default.is (rw c.base.ensures at (rw c.coeffs.ensures at c.modulus-p.ensures.listed)) c.requires.values c.in-Some-size.size c.in-Some-size.is))
    (c.in_ok-fraction.ensures.low (meant c.args.field.now.base.coeffs c.args.field.now.base.vars names c.args.defs.now c.args.known.now ps end c.args.tokens.now c.args.steps.now read c.in_ok-size.size (c.in_ok-size.ensures ∙ ap (λ (n : ℕ). outcome (sizes (formal_at n c.args.defs.now)) c.args.steps.now) (rw c.base-2.ensures at c.vars.ensures)) c.refusal.result (c.refusal.ensures ∙ ap (λ (n : ℕ). fault_of n c.args.tokens.now c.in_ok-size.size) c.len.ensures.len) c.in_default.is (rw c.base.ensures at (rw c.coeffs.ensures at c.modulus-p.ensures.listed)) c.requires.values) stands).0

pub returns-clause-denominator : goal.returns-clause-denominator
returns-clause-denominator c =
    let (names, ps, end, read) = c.requires.read in
    let stands = (c.in_ok-parts.ensures (meant c.args.field.now.base.coeffs c.args.field.now.base.vars names c.args.defs.now c.args.known.now ps end c.args.tokens.now c.args.steps.now read c.in_ok-size.size (c.in_ok-size.ensures ∙ ap (λ (n : ℕ). outcome (sizes (formal_at n c.args.defs.now)) c.args.steps.now) (rw c.base-2.ensures at c.vars.ensures)) c.refusal.result (c.refusal.ensures ∙ ap (λ (n : ℕ). fault_of n c.args.tokens.now c.in_ok-size.size) c.len.ensures.len) c.in_default.is (rw c.base.ensures at (rw c.coeffs.ensures at c.modulus-p.ensures.listed)) c.requires.values) (means c.args.field.now.base.coeffs c.args.field.now.base.vars names c.args.defs.now c.args.known.now ps end c.args.tokens.now c.args.steps.now read c.in_ok-size.size (c.in_ok-size.ensures ∙ ap (λ (n : ℕ). outcome (sizes (formal_at n c.args.defs.now)) c.args.steps.now) (rw c.base-2.ensures at c.vars.ensures)) c.refusal.result (c.refusal.ensures ∙ ap (λ (n : ℕ). fault_of n c.args.tokens.now c.in_ok-size.size) c.len.ensures.len) c.in_default.is (rw c.base.ensures at (rw c.coeffs.ensures at c.modulus-p.ensures.listed)) c.requires.values)) in
    subst (λ (f : Formal). IsLow f.den_degree c.in_ok-fraction.fraction.1) (sym (answer-numbers c.args.field.now.base.coeffs c.args.field.now.base.vars names c.args.defs.now c.args.known.now ps end c.args.tokens.now c.args.steps.now read c.in_ok-size.size (c.in_ok-size.ensures ∙ ap (λ (n : ℕ). outcome (sizes (formal_at n c.args.defs.now)) c.args.steps.now) (rw c.base-2.ensures at c.vars.ensures)) c.refusal.result (c.refusal.ensures ∙ ap (λ (n : ℕ). fault_of n c.args.tokens.now c.in_ok-size.size) c.len.ensures.len) c.in_default.is (rw c.base.ensures at (rw c.coeffs.ensures at c.modulus-p.ensures.listed)) c.requires.values c.in-Some-size.size c.in-Some-size.is))
    (c.in_ok-fraction.ensures.low (meant c.args.field.now.base.coeffs c.args.field.now.base.vars names c.args.defs.now c.args.known.now ps end c.args.tokens.now c.args.steps.now read c.in_ok-size.size (c.in_ok-size.ensures ∙ ap (λ (n : ℕ). outcome (sizes (formal_at n c.args.defs.now)) c.args.steps.now) (rw c.base-2.ensures at c.vars.ensures)) c.refusal.result (c.refusal.ensures ∙ ap (λ (n : ℕ). fault_of n c.args.tokens.now c.in_ok-size.size) c.len.ensures.len) c.in_default.is (rw c.base.ensures at (rw c.coeffs.ensures at c.modulus-p.ensures.listed)) c.requires.values) stands).1

pub returns-clause-value : goal.returns-clause-value
returns-clause-value c = λ names ps end read.
    let stands = (c.in_ok-parts.ensures (meant c.args.field.now.base.coeffs c.args.field.now.base.vars names c.args.defs.now c.args.known.now ps end c.args.tokens.now c.args.steps.now read c.in_ok-size.size (c.in_ok-size.ensures ∙ ap (λ (n : ℕ). outcome (sizes (formal_at n c.args.defs.now)) c.args.steps.now) (rw c.base-2.ensures at c.vars.ensures)) c.refusal.result (c.refusal.ensures ∙ ap (λ (n : ℕ). fault_of n c.args.tokens.now c.in_ok-size.size) c.len.ensures.len) c.in_default.is (rw c.base.ensures at (rw c.coeffs.ensures at c.modulus-p.ensures.listed)) c.requires.values) (means c.args.field.now.base.coeffs c.args.field.now.base.vars names c.args.defs.now c.args.known.now ps end c.args.tokens.now c.args.steps.now read c.in_ok-size.size (c.in_ok-size.ensures ∙ ap (λ (n : ℕ). outcome (sizes (formal_at n c.args.defs.now)) c.args.steps.now) (rw c.base-2.ensures at c.vars.ensures)) c.refusal.result (c.refusal.ensures ∙ ap (λ (n : ℕ). fault_of n c.args.tokens.now c.in_ok-size.size) c.len.ensures.len) c.in_default.is (rw c.base.ensures at (rw c.coeffs.ensures at c.modulus-p.ensures.listed)) c.requires.values)) in
    answer-fraction c.args.field.now.base.coeffs c.args.field.now.base.vars names c.args.defs.now c.args.known.now ps end c.args.tokens.now c.args.steps.now read c.in_ok-size.size (c.in_ok-size.ensures ∙ ap (λ (n : ℕ). outcome (sizes (formal_at n c.args.defs.now)) c.args.steps.now) (rw c.base-2.ensures at c.vars.ensures)) c.refusal.result (c.refusal.ensures ∙ ap (λ (n : ℕ). fault_of n c.args.tokens.now c.in_ok-size.size) c.len.ensures.len) c.in_default.is (rw c.base.ensures at (rw c.coeffs.ensures at c.modulus-p.ensures.listed)) c.requires.values
    c.in-Some-size.size c.in_ok-fraction.fraction c.in-Some-size.is (sym stands.by_zero ∙ c.if-parts.false) (c.in_ok-fraction.ensures.cancelled (meant c.args.field.now.base.coeffs c.args.field.now.base.vars names c.args.defs.now c.args.known.now ps end c.args.tokens.now c.args.steps.now read c.in_ok-size.size (c.in_ok-size.ensures ∙ ap (λ (n : ℕ). outcome (sizes (formal_at n c.args.defs.now)) c.args.steps.now) (rw c.base-2.ensures at c.vars.ensures)) c.refusal.result (c.refusal.ensures ∙ ap (λ (n : ℕ). fault_of n c.args.tokens.now c.in_ok-size.size) c.len.ensures.len) c.in_default.is (rw c.base.ensures at (rw c.coeffs.ensures at c.modulus-p.ensures.listed)) c.requires.values) stands)
