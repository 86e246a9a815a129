-- Numbers as bytes, and lists of bytes.
use Rattle.std.specs.Prelude.{ℕ, zero, suc, ◌+◌, ◌*◌, ◌/◌, ◌%◌, ◌^◌, List, [], ◌∷◌, ◌++◌, length, take, drop, sum_by}
use Rattle.std.specs.List.{enumerate_from}

-- Core 1.0, 4.3.1: the number that bytes spell, the lowest byte first
abbrev pub little_endian : List ℕ → ℕ
little_endian [] = 0
little_endian (byte ∷ higher) = byte + 256 * little_endian higher

-- the lowest `count` bytes of n, the lowest first
abbrev pub low_bytes : ℕ → ℕ → List ℕ
low_bytes zero n = []
low_bytes (suc count) n = n % 256 ∷ low_bytes count (n / 256)

-- the list after `new` was written over it from `at` on
abbrev pub written : List ℕ → ℕ → List ℕ → List ℕ
written bytes at new = take at bytes ++ (new ++ drop (at + length new) bytes)

-- the sum of each byte times one more than its place, modulo 2 ^ 64
abbrev pub mark_of : List ℕ → ℕ
mark_of bytes = sum_by (λ placed. (placed.0 + 1) * placed.1) (enumerate_from 0 bytes) % 2 ^ 64
