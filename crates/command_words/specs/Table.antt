-- The table of the options.
use Rattle.std.specs.Prelude.{ℕ, ◌≤◌, ◌^◌, ◌&&◌, List, [], ◌∷◌, length, not, Option, Some, None}
use Rattle.std.specs.Prelude.{codes, nat_le, drop, map, option_and_then, if◌then◌else◌}
use Rattle.std.specs.Str.{all_ascii_digits}
use Rattle.std.specs.Str.Parse.{digits_value}
use Rattle.command_words.specs.declared.table.Measure.{Measure}
use Rattle.command_words.specs.declared.table.Measure.TheVariants.{Number, Length}
use Rattle.command_words.specs.declared.table.OptionRow.{OptionRow}

-- a word, a name, a value
abbrev pub Text : Type 0
Text = List ℕ

-- a row: what stands after the two dashes, what of the value has a range, the range, and the value of an option that
-- the words leave out
pub record Row : Type 0 where
  pub name : Text
  pub measure : Measure
  pub least : ℕ
  pub most : ℕ
  pub preset : Text

abbrev pub workers : Row
workers = record { name = codes "workers"; measure = Number; least = 1; most = 16; preset = codes "1" }

abbrev pub entry : Row
entry = record { name = codes "entry"; measure = Length; least = 1; most = 255; preset = codes "_start" }

abbrev pub pages : Row
pages = record { name = codes "pages"; measure = Number; least = 0; most = 1024; preset = codes "64" }

abbrev pub fuel : Row
fuel = record { name = codes "fuel"; measure = Number; least = 1; most = 10 ^ 15; preset = codes "1000000000" }

abbrev pub traffic : Row
traffic = record { name = codes "traffic"; measure = Number; least = 0; most = 2 ^ 40; preset = codes "67108864" }

abbrev pub live : Row
live = record { name = codes "live"; measure = Number; least = 1; most = 4096; preset = codes "1024" }

abbrev pub idle : Row
idle = record { name = codes "idle"; measure = Number; least = 1; most = 10 ^ 12; preset = codes "100000" }

-- the options of `run`
abbrev pub table : List Row
table = workers ∷ entry ∷ pages ∷ fuel ∷ traffic ∷ live ∷ idle ∷ []

-- the options of `solo`: all but `--workers`
abbrev pub solo_table : List Row
solo_table = drop 1 table

abbrev pub names_in : List Row → List Text
names_in = map (λ row. row.name)

-- the number that one decimal digit or more write; a sign is no digit
abbrev pub number_of : Text → Option ℕ
number_of text = if not (nat_le (length text) 0) && all_ascii_digits text then Some (digits_value 10 text) else None

-- what of a value has a range
abbrev pub measure_of : Measure → Text → Option ℕ
measure_of Number text = number_of text
measure_of Length text = Some (length text)

-- the number, where it lies between these
abbrev pub within : (least most : ℕ) → ℕ → Option ℕ
within least most n = if nat_le least n && nat_le n most then Some n else None

-- the measure of a value, where it has one and lies in the row's range
abbrev pub measured : Row → Text → Option ℕ
measured row value = option_and_then (within row.least row.most) (measure_of row.measure value)

-- the number lies in the row's range
abbrev pub IsWithin : Row → ℕ → Type 0
IsWithin row n = (row.least ≤ n) × (n ≤ row.most)

-- the row that the code's row shows
abbrev pub shown : OptionRow → Row
shown row = record {
  name = row.name.now;
  measure = row.measure;
  least = row.least;
  most = row.most;
  preset = row.preset.now;
}
