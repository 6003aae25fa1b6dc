-- Lists of numbers packed into words, four numbers in each, the first in the highest place.
use Rattle.std.specs.Prelude.{ℕ, zero, suc, ◌+◌, ◌*◌, nat_lt, List, [], ◌∷◌, cond}
use Rattle.std.specs.Ordering.{ordering_then}
use Rattle.std.specs.declared.cmp.Ordering.{Ordering}
use Rattle.rinv_algebra.specs.Order.{lex}

-- one more than the first number, or 0 where there is none; 65535 stands for all numbers that do not fit
abbrev pub part : List ℕ → ℕ
part [] = 0
part (x ∷ xs) = cond (nat_lt x 65534) (x + 1) 65535

-- what is left after the first number, where that fits
abbrev pub after : List ℕ → List ℕ
after [] = []
after (x ∷ xs) = cond (nat_lt x 65534) xs (x ∷ xs)

-- the first four numbers
unfoldable pub word : List ℕ → ℕ
word xs = ((part xs * 65536 + part (after xs)) * 65536 + part (after (after xs))) * 65536 + part (after (after (after xs)))

-- what is left after four numbers
unfoldable pub after_four : List ℕ → List ℕ
after_four xs = after (after (after (after xs)))

-- so many words
abbrev pub words : ℕ → List ℕ → List ℕ
words zero r = []
words (suc n) r = word r ∷ words n (after_four r)

-- what is left after so many words
abbrev pub left_after : ℕ → List ℕ → List ℕ
left_after zero r = r
left_after (suc n) r = left_after n (after_four r)

-- six words, and what is left
abbrev pub packed : List ℕ → List ℕ × List ℕ
packed r = (words 6 r, left_after 6 r)

-- words first, and then what is left
abbrev pub packed_cmp : List ℕ × List ℕ → List ℕ × List ℕ → Ordering
packed_cmp p q = ordering_then (lex p.0 q.0) (lex p.1 q.1)
