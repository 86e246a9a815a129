-- A linear memory (Core 1.0, 4.2.8): its bytes, and the pages to which it may grow.
use Rattle.std.specs.Prelude.{◌≡◌, ℕ, ◌*◌, ◌%◌, ◌≤◌, List, length}

pub record Contents : Type 0 where
  pub bytes : List ℕ
  pub most : ℕ

-- the bytes of a page
abbrev pub page_size : ℕ
page_size = 65536

-- the memory has this many pages, no more than it may, which is at most 1,024
pub record HasPages (memory : Contents) (pages : ℕ) : Type 0 where
  pub whole : length memory.bytes ≡ pages * page_size
  pub within : pages ≤ memory.most
  pub limit : memory.most ≤ 1024

-- what every memory keeps: whole pages, no more than it may have, and room for all of those
pub record IsMemory (len most room : ℕ) : Type 0 where
  pub whole : len % page_size ≡ 0
  pub within : len ≤ most * page_size
  pub limit : most ≤ 1024
  pub reserved : most * page_size ≤ room
