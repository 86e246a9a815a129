use Rattle.std.specs.Prelude.{ℕ, ◌+◌, ◌<◌, ◌≤◌, ◌≡◌, ◌&&◌, Option, Some, None, true, List, [], ◌∷◌, length, drop, take, nat_le, Bool, cond}
use Rattle.std.specs.List.{list_all}
use Rattle.host_port.specs.declared.ask.Ask.{Ask}
use Rattle.host_port.specs.declared.request.Request.{Request}
use Rattle.host_port.specs.HostTable.{Area, ReadArea, WrittenText, WrittenWord, area_read, area_of_text, area_of_word, is_sound_area, areas_read, areas_of, are_sound}

-- an area lies in the memory; without a memory, that has no bytes
abbrev pub fits_in : List ℕ → Area → Bool
fits_in memory area = nat_le (area.addr + area.len) (length memory)

-- each area that an ask reads or writes lies in the memory, and its names are sound
abbrev pub areas_fit : List ℕ → Ask → Bool
areas_fit memory ask = are_sound ask && list_all (λ area. fits_in memory area) (areas_of ask)

-- the bytes of an area that lies in the memory
abbrev pub bytes_at : List ℕ → Area → List ℕ
bytes_at memory area = take area.len (drop area.addr memory)

-- an area that is read lies in the memory and is sound
abbrev pub reads_well : List ℕ → List ℕ → ReadArea → Bool
reads_well memory args form = is_sound_area args form && fits_in memory (area_read args form)

-- the area of a text that is written, if one is, lies in the memory; and so that of a word
abbrev pub text_fits : List ℕ → List ℕ → Option WrittenText → Bool
text_fits memory args None = true
text_fits memory args (Some form) = fits_in memory (area_of_text args form)

abbrev pub word_fits : List ℕ → List ℕ → Option WrittenWord → Bool
word_fits memory args None = true
word_fits memory args (Some form) = fits_in memory (area_of_word args form)

-- the bytes of the first of these areas, if there is one
abbrev pub first_bytes : List ℕ → List Area → List ℕ
first_bytes memory [] = []
first_bytes memory (area ∷ areas) = bytes_at memory area

-- the areas after the first
abbrev pub later_areas : List Area → List Area
later_areas [] = []
later_areas (area ∷ areas) = areas

-- the request of an ask at this memory: with the bytes of the first and the second area that it reads where all its areas fit
abbrev pub request_of : List ℕ → Ask → Request
request_of memory ask = record {
  ask = ask;
  fits = areas_fit memory ask;
  first = cond (areas_fit memory ask) (first_bytes memory (areas_read ask)) [];
  second = cond (areas_fit memory ask) (first_bytes memory (later_areas (areas_read ask))) [];
}

-- what a read of an area gives: its bytes where it lies in the memory, and nothing exactly where it does not
abbrev pub IsRead : List ℕ → Area → Option (List ℕ) → Type 0
IsRead memory area None = length memory < area.addr + area.len
IsRead memory area (Some bytes) = (area.addr + area.len ≤ length memory) × (bytes ≡ bytes_at memory area)
