use Rattle.rinv_laws.proofs.quickly.holds_at.Goals as goal

pub returns-in-Vanish : goal.returns-in-Vanish
returns-in-Vanish c = rw c.in-Vanish.is (rw c.deref.ensures.value at c.vanish_at.ensures)

pub returns-in-Agree : goal.returns-in-Agree
returns-in-Agree c = rw c.in-Agree.is (rw (c.deref-in-Agree.ensures.value, c.deref-in-Agree-2.ensures.value) at c.agree_at.ensures)

pub returns-in-Give : goal.returns-in-Give
returns-in-Give c = rw c.in-Give.is (rw (c.deref-in-Give.ensures.value, c.deref-in-Give-2.ensures.value) at c.give_at.ensures)

pub returns-in-GiveBoth : goal.returns-in-GiveBoth
returns-in-GiveBoth c = rw c.in-GiveBoth.is (rw (c.deref-in-GiveBoth.ensures.value, c.deref-in-GiveBoth-2.ensures.value, c.deref-in-GiveBoth-3.ensures.value) at c.give_at_both.ensures)
