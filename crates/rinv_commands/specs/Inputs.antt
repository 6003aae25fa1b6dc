-- What a command is given.
use Rattle.std.specs.Prelude.{ℕ, ◌≤◌, Bool, true, false, ⊤}
use Rattle.rinv_commands.specs.declared.command.Command.{Command}
use Rattle.rinv_commands.specs.declared.command.Command.TheVariants.{Check, Laws, Gen, Rewrite, Certify, Run, Bench}

-- whether it has an input: `bench` alone has none
abbrev pub reads : Command → Bool
reads Check = true
reads Laws = true
reads Gen = true
reads Rewrite = true
reads Certify = true
reads Run = true
reads (Bench k) = false

-- the greatest number of queries of `bench`
abbrev pub max_bench : ℕ
max_bench = 1000

-- its numbers are within their range
abbrev pub IsWithinRange : Command → Type 0
IsWithinRange Check = ⊤
IsWithinRange Laws = ⊤
IsWithinRange Gen = ⊤
IsWithinRange Rewrite = ⊤
IsWithinRange Certify = ⊤
IsWithinRange Run = ⊤
IsWithinRange (Bench k) = (1 ≤ k) × (k ≤ max_bench)
