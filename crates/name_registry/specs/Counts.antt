use Rattle.std.specs.Prelude.{◌≡◌, ◌==◌, ℕ, List, Vec, sum_by, Option, option_map, unwrap_or, if◌then◌else◌}
use Rattle.std.specs.Ordering.{nat_cmp}
use Rattle.std.specs.Map.{values_of}
use Rattle.std.specs.BTreeMap.{BTreeMap}
use Rattle.std.specs.BTreeMap as tree
use Rattle.std.specs.declared.alloc.Global.{Global}

-- one for the process itself, and nothing for another one
abbrev pub one_for : ℕ → ℕ → ℕ
one_for pid number = if number == pid then 1 else 0

-- the same of a number that may be missing
abbrev pub one_if : ℕ → Option ℕ → ℕ
one_if pid number = unwrap_or (option_map (one_for pid) number) 0

-- how many names a process stands under
abbrev pub names_for : ℕ → List (Vec ℕ Global × ℕ) → ℕ
names_for pid entries = sum_by (one_for pid) (values_of entries)

-- the count of a process; who has none has 0
abbrev pub count_of : BTreeMap ℕ ℕ → ℕ → ℕ
count_of counts pid = unwrap_or (tree.get nat_cmp counts pid) 0

-- each process has as many names as its count says
abbrev pub AreCounts : BTreeMap ℕ ℕ → List (Vec ℕ Global × ℕ) → Type 0
AreCounts counts entries = (pid : ℕ) → count_of counts pid ≡ names_for pid entries
