use Rattle.std.specs.Prelude.{ℕ, List, Vec, map, Option, Some, None, ◌==◌, if◌then◌else◌}
use Rattle.std.specs.declared.cmp.Ordering.{Ordering}
use Rattle.std.specs.Ordering.{nat_cmp}
use Rattle.std.specs.Cmp.Lexicographic.{slice_cmp}
use Rattle.std.specs.FinMap.{FinMap}
use Rattle.std.specs.declared.alloc.Global.{Global}

-- which process stands under which name; a name is its bytes
abbrev pub Names : Type 0
Names = FinMap (slice_cmp nat_cmp) ℕ

-- names in the order of their bytes
abbrev pub name_cmp : Vec ℕ Global → Vec ℕ Global → Ordering
name_cmp x y = slice_cmp nat_cmp x.items y.items

-- the entries of a map whose keys are vectors of bytes, each name as its bytes
abbrev pub named : List (Vec ℕ Global × ℕ) → List (List ℕ × ℕ)
named entries = map (λ e. (e.0.items, e.1)) entries

-- what is left of a process that stands under a name, where another process goes
abbrev pub unless : ℕ → Option ℕ → Option ℕ
unless pid None = None
unless pid (Some other) = if other == pid then None else Some other
