use Rattle.std.specs.Prelude.{ℕ, ◌+◌, ◌*◌, ◌/◌, ◌%◌, ◌^◌, List, length, sum_by}
use Rattle.std.specs.List.{enumerate_from}

-- the number of pages of a memory; a page has 65,536 bytes
abbrev pub pages_of : List ℕ → ℕ
pages_of memory = length memory / 65536

-- the mark of a memory: each byte times its place counted from 1, summed modulo 2^64
abbrev pub mark_of : List ℕ → ℕ
mark_of memory = sum_by (λ placed. (placed.0 + 1) * placed.1) (enumerate_from 0 memory) % 2 ^ 64
