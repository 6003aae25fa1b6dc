use Rattle.std.proofs.Common.{sym, ◌∙◌, true≢false}
use Rattle.rinv_algebra.specs.Monomial.{divides, lcm}
use Rattle.rinv_basis_check.specs.Listed.{is_listed}
use Rattle.rinv_basis_check.proofs.EntryTests.{coprime-settles, chain-settles, quotients-settle, both-listed, not-listed, no-divisor}
use Rattle.rinv_basis_check.proofs.entry.settles.Goals as goal
use Rattle.rinv_basis_check.proofs.entry.settles.Goals.{then-divides, else-divides}

pub returns-in-Coprime : goal.returns-in-Coprime
returns-in-Coprime c = λ cert earlier is pairs.
    c.coprime.ensures ∙ coprime-settles cert earlier c.args.entry.now c.in-Coprime.i c.in-Coprime.j c.lead.result.now c.lead-in-Coprime.result.now c.in-Coprime.is (c.lead.ensures cert is) (c.lead-in-Coprime.ensures cert is)

pub returns-then-has : goal.returns-then-has
returns-then-has c = λ cert earlier is pairs.
    let a = c.lead-in-Chain.result.now in
    let b = c.lead-in-Chain-2.result.now in
    let d = c.lead-in-Chain-3.result.now in
    let listed = c.args.listed.now in
    let whole = chain-settles cert earlier c.args.entry.now listed pairs c.in-Chain.i c.in-Chain.j c.in-Chain.k a b d c.in-Chain.is (c.lead-in-Chain.ensures cert is) (c.lead-in-Chain-2.ensures cert is) (c.lead-in-Chain-3.ensures cert is) in
    elim c.if-divides.branch [
      | then-divides w ↦ c.has-then-has.ensures
          ∙ both-listed (divides d (lcm a b)) (is_listed listed c.in-Chain.i c.in-Chain.k) (is_listed listed c.in-Chain.k c.in-Chain.j) (sym c.chain_by-divides.ensures ∙ w.if-divides.true) (sym w.has.ensures ∙ sym w.value-is ∙ c.if-has.true) ∙ whole
      | else-divides w ↦ absurd (true≢false (sym c.if-has.true ∙ w.value-is ∙ w.if-divides.false))
    ]

pub returns-else-has : goal.returns-else-has
returns-else-has c = λ cert earlier is pairs.
    let a = c.lead-in-Chain.result.now in
    let b = c.lead-in-Chain-2.result.now in
    let d = c.lead-in-Chain-3.result.now in
    let listed = c.args.listed.now in
    let whole = chain-settles cert earlier c.args.entry.now listed pairs c.in-Chain.i c.in-Chain.j c.in-Chain.k a b d c.in-Chain.is (c.lead-in-Chain.ensures cert is) (c.lead-in-Chain-2.ensures cert is) (c.lead-in-Chain-3.ensures cert is) in
    elim c.if-divides.branch [
      | then-divides w ↦ c.if-has.false
          ∙ not-listed (divides d (lcm a b)) (is_listed listed c.in-Chain.i c.in-Chain.k) (is_listed listed c.in-Chain.k c.in-Chain.j) (sym c.chain_by-divides.ensures ∙ w.if-divides.true) (sym w.has.ensures ∙ sym w.value-is ∙ c.if-has.false) ∙ whole
      | else-divides w ↦ c.if-has.false ∙ no-divisor (divides d (lcm a b)) (is_listed listed c.in-Chain.i c.in-Chain.k) (is_listed listed c.in-Chain.k c.in-Chain.j) (sym c.chain_by-divides.ensures ∙ w.if-divides.false) ∙ whole
    ]

pub returns-in_ok-reduces-in-Quotients : goal.returns-in_ok-reduces-in-Quotients
returns-in_ok-reduces-in-Quotients c = λ cert earlier is pairs.
    c.in_ok-reduces-in-Quotients.ensures cert is ∙ quotients-settle cert earlier c.args.entry.now c.args.basis.now c.requires.form c.in-Quotients.i c.in-Quotients.j c.in-Quotients.q c.as_slice.result.now c.in-Quotients.is c.as_slice.ensures
