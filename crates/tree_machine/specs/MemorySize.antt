-- The size of the memory, and its growth (Core 1.0, 4.4.4).
use Rattle.std.specs.Prelude.{ℕ, ◌+◌, ◌-◌, ◌*◌, ◌/◌, ◌^◌, List, [], ◌∷◌, ◌++◌, cond, nat_le, length, replicate, Option, Some, None}
use Rattle.linear_memory.specs.Contents.{Contents, page_size}
use Rattle.tree_machine.specs.Config.{Config, Frame, with_frames, with_operands}
use Rattle.tree_machine.specs.Outcomes.{Effect, Gives, Undefined, Outcome, Goes, Stuck}

-- how many pages a memory has
abbrev pub pages_in : Contents → ℕ
pages_in memory = length memory.bytes / page_size

-- memory.size
abbrev pub size_of : Option Contents → (operands : List ℕ) → Effect (List ℕ)
size_of None operands = Undefined
size_of (Some memory) operands = Gives (pages_in memory ∷ operands)

-- -1 as an i32
abbrev pub minus_one : ℕ
minus_one = 2 ^ 32 - 1

-- the memory with so many pages of zeros more
abbrev pub grown : (pages : ℕ) → Contents → Contents
grown pages memory = record memory { bytes = memory.bytes ++ replicate (pages * page_size) 0 }

-- memory.grow: the size before, or -1 exactly where the memory would pass the most pages that it may have
abbrev pub grow : Option Contents → (operands : List ℕ) → Config → Frame → (frames : List Frame) → Outcome
grow None operands c f frames = Stuck
grow (Some memory) [] c f frames = Stuck
grow (Some memory) (pages ∷ below) c f frames =
    cond (nat_le (pages_in memory + pages) memory.most)
    (Goes (record c {
      memory = Some (grown pages memory);
      frames = with_operands (pages_in memory ∷ below) f ∷ frames;
    }))
    (Goes (with_frames (with_operands (minus_one ∷ below) f ∷ frames) c))
