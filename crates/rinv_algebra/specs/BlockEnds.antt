-- Variables cut into blocks, by the ends of the blocks.
use Rattle.std.specs.Prelude.{ℕ, ◌-◌, Bool, true, ◌&&◌, nat_le, List, [], ◌∷◌}

-- the sizes of the blocks with these ends, where the first begins at s
abbrev pub sizes_from : ℕ → List ℕ → List ℕ
sizes_from s [] = []
sizes_from s (e ∷ ends) = (e - s) ∷ sizes_from e ends

-- whether no end is below s or below the end before it
abbrev pub rises_from : ℕ → List ℕ → Bool
rises_from s [] = true
rises_from s (e ∷ ends) = nat_le s e && rises_from e ends

-- the last end, or s where there is none
abbrev pub last_from : ℕ → List ℕ → ℕ
last_from s [] = s
last_from s (e ∷ ends) = last_from e ends
