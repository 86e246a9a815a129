use Rattle.std.specs.Prelude.{ℕ, ◌*◌, ◌&&◌, Bool, true, false, List, [], ◌∷◌, ◌++◌, Option, Some, None, nat_eq, nat_le, map, find, filter, slice_index, option_map, option_to_list}
use Rattle.std.specs.Cmp.Lexicographic.{pointwise}
use Rattle.std.specs.List.{list_all, list_any}
use Rattle.host_port.specs.declared.ask.Ask.{Ask}
pub use Rattle.host_port.specs.Rows.{Row, Kind, Local, World, Outside, ReadArea, Reads, NoArea, OneArea, TwoAreas, Holds, Plain, Tags, Name, WrittenText, WrittenWord, Width, Four, Eight, MayCome, Results, NoResult, OneOf, UpTo, Count, AnyI64}
use Rattle.host_port.specs.MessageRows.{message_rows}
use Rattle.host_port.specs.ProcessRows.{process_rows}
use Rattle.host_port.specs.ConfigRows.{config_rows}
use Rattle.host_port.specs.RegistryRows.{registry_rows}
use Rattle.host_port.specs.NetworkRows.{network_rows}
use Rattle.host_port.specs.PrintRows.{print_rows}
pub use Rattle.host_port.specs.MessageRows.{create_data, send, receive}
pub use Rattle.host_port.specs.ProcessRows.{process_id}

-- an area of the guest's memory: where it begins, and how many bytes it has
pub record Area : Type 0 where
  pub addr : ℕ
  pub len : ℕ

-- the host calls that there are, by rising number
unfoldable pub all_rows : List Row
all_rows = message_rows ++ process_rows ++ config_rows ++ registry_rows ++ network_rows ++ print_rows

-- the numbers of the calls that the host serves
abbrev pub served : List ℕ
served = 0 ∷ 1 ∷ 2 ∷ 3 ∷ 4 ∷ 5 ∷ 6 ∷ 7 ∷ 8 ∷ 9 ∷ 10 ∷ 17 ∷ 27 ∷ 28 ∷ 29 ∷ 30 ∷ 31 ∷ 32 ∷ 33 ∷ 34 ∷ 35 ∷ []

-- the host serves the call of this number
unfoldable pub is_served : ℕ → Bool
is_served call = list_any (λ number. nat_eq number call) served

-- the rows of the calls that the host serves
abbrev pub host_table : List Row
host_table = filter (λ (row : Row). is_served row.call) all_rows

-- the row of a call, also of one that is not served
unfoldable pub known_row_of : ℕ → Option Row
known_row_of call = find (λ (row : Row). nat_eq row.call call) all_rows

-- the row of a call that is served
unfoldable pub row_of : ℕ → Option Row
row_of call = find (λ (row : Row). nat_eq row.call call) host_table

-- two texts have the same bytes
abbrev pub same_text : List ℕ → List ℕ → Bool
same_text a b = pointwise nat_eq a b

-- the row is imported by these names
abbrev pub is_import : (import_module import_name : List ℕ) → Row → Bool
is_import import_module import_name row =
    same_text row.import_module import_module && same_text row.import_name import_name

-- the row of an import, if the host serves it
unfoldable pub row_of_import : List ℕ → List ℕ → Option Row
row_of_import import_module import_name = find (is_import import_module import_name) host_table

-- who performs a call; nothing for a call that is not served
abbrev pub kind_of : ℕ → Option Kind
kind_of call = option_map (λ (row : Row). row.kind) (row_of call)

-- a local call is answered within the turn
abbrev pub is_local_kind : Option Kind → Bool
is_local_kind None = false
is_local_kind (Some Local) = true
is_local_kind (Some World) = false
is_local_kind (Some Outside) = false

abbrev pub is_local : ℕ → Bool
is_local call = is_local_kind (kind_of call)

-- what may come beside a call in an entry; nothing for a call that is not served
abbrev pub may_come_of : ℕ → Option MayCome
may_come_of call = option_map (λ (row : Row). row.may_come) (row_of call)

-- the world may refuse memory to a call, which is then answered 12
abbrev pub is_refusable : ℕ → Bool
is_refusable call = list_any (λ (row : Row). row.refusable) (option_to_list (row_of call))

-- the results that a call may give; a call that is not served gives none of them
unfoldable pub results_of : ℕ → Option Results
results_of call = option_map (λ (row : Row). row.results) (row_of call)

-- how many bytes an area has whose length is told by this number
abbrev pub area_length : Holds → ℕ → ℕ
area_length Plain n = n
area_length Tags n = 8 * n
area_length Name n = n

-- the area that is read, at these arguments
abbrev pub area_read : List ℕ → ReadArea → Area
area_read args form =
    record { addr = slice_index args form.addr; len = area_length form.holds (slice_index args form.length) }

-- how many bytes a word of this width has
abbrev pub bytes_in : Width → ℕ
bytes_in Four = 4
bytes_in Eight = 8

-- the area in which a text is written, and that of a word
abbrev pub area_of_text : List ℕ → WrittenText → Area
area_of_text args form = record { addr = slice_index args form.addr; len = slice_index args form.length }

abbrev pub area_of_word : List ℕ → WrittenWord → Area
area_of_word args form = record { addr = slice_index args form.addr; len = bytes_in form.width }

-- the areas that are read, in their order
abbrev pub areas_in : Reads → List ReadArea
areas_in NoArea = []
areas_in (OneArea form) = form ∷ []
areas_in (TwoAreas first second) = first ∷ second ∷ []

-- a name has 1 to 255 bytes; other areas may have any length
abbrev pub is_sound_length : Holds → ℕ → Bool
is_sound_length Plain n = true
is_sound_length Tags n = true
is_sound_length Name n = nat_le 1 n && nat_le n 255

-- the area that is read has a sound length
abbrev pub is_sound_area : List ℕ → ReadArea → Bool
is_sound_area args form = is_sound_length form.holds (slice_index args form.length)

-- the areas that a row reads at an ask; a call that is not served reads nothing
abbrev pub areas_read_by : Option Row → Ask → List Area
areas_read_by None ask = []
areas_read_by (Some row) ask = map (area_read ask.args) (areas_in row.reads)

-- the areas that a row writes at an ask: of its text, and of its word
abbrev pub areas_written_by : Option Row → Ask → List Area
areas_written_by None ask = []
areas_written_by (Some row) ask =
    map (area_of_text ask.args) (option_to_list row.text) ++ map (area_of_word ask.args) (option_to_list row.word)

-- each name that a row reads at an ask has a length that a name may have
abbrev pub are_sound_by : Option Row → Ask → Bool
are_sound_by None ask = true
are_sound_by (Some row) ask =
    list_all (is_sound_area ask.args) (areas_in row.reads)

-- the areas that an ask reads
unfoldable pub areas_read : Ask → List Area
areas_read ask = areas_read_by (row_of ask.call) ask

-- the areas that an ask reads or writes
unfoldable pub areas_of : Ask → List Area
areas_of ask = areas_read ask ++ areas_written_by (row_of ask.call) ask

-- the names that an ask reads are sound
unfoldable pub are_sound : Ask → Bool
are_sound ask = are_sound_by (row_of ask.call) ask
