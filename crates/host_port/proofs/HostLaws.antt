-- The rows of the calls that are served, and what follows from a row.
use Rattle.std.proofs.Common.{◌≡◌, ℕ, ◌*◌, List, [], ◌∷◌, ◌++◌, map, Option, Some, None, true, slice_index, refl}
use Rattle.std.specs.List.{list_all}
use Rattle.host_port.specs.declared.ask.Ask.{Ask}
use Rattle.host_port.specs.Rows.{Row, Reads, NoArea, OneArea, TwoAreas}
use Rattle.host_port.specs.MessageRows.{create_data, send, receive}
use Rattle.host_port.specs.ProcessRows.{process_id}
use Rattle.host_port.specs.HostTable.{Area, NoResult, OneOf, AnyI64, all_rows, is_served, row_of, kind_of, areas_in, area_read, is_sound_area, areas_read_by, areas_written_by, are_sound_by, areas_read, areas_of, are_sound, results_of}
use Rattle.host_port.specs.Areas.{areas_fit, request_of}
use Rattle.host_port.specs.Forms.{text_of, word_of}

-- what follows from the row of a call
pub results_by : (call : ℕ) (row : Row) → row_of call ≡ Some row → results_of call ≡ Some row.results
unfolding results_of
results_by call row is = rw is refl

pub text_by : (call : ℕ) (row : Row) → row_of call ≡ Some row → text_of call ≡ row.text
unfolding text_of
text_by call row is = rw is refl

pub word_by : (call : ℕ) (row : Row) → row_of call ≡ Some row → word_of call ≡ row.word
unfolding word_of
word_by call row is = rw is refl

pub kind_by : (call : ℕ) (row : Row) → row_of call ≡ Some row → kind_of call ≡ Some row.kind
kind_by call row is = rw is refl

pub areas_by : (ask : Ask) (row : Row) → row_of ask.call ≡ Some row → areas_of ask ≡ areas_read_by (Some row) ask ++ areas_written_by (Some row) ask
unfolding areas_of areas_read
areas_by ask row is = rw is refl

pub read_by : (ask : Ask) (row : Row) → row_of ask.call ≡ Some row → areas_read ask ≡ areas_read_by (Some row) ask
unfolding areas_read
read_by ask row is = rw is refl

pub sound_by : (ask : Ask) (row : Row) → row_of ask.call ≡ Some row → are_sound ask ≡ are_sound_by (Some row) ask
unfolding are_sound
sound_by ask row is = rw is refl

-- the rows of four calls
pub create_data-row : row_of 0 ≡ Some create_data
unfolding row_of all_rows is_served
create_data-row = refl

pub send-row : row_of 8 ≡ Some send
unfolding row_of all_rows is_served
send-row = refl

pub receive-row : row_of 9 ≡ Some receive
unfolding row_of all_rows is_served
receive-row = refl

pub process_id-row : row_of 10 ≡ Some process_id
unfolding row_of all_rows is_served
process_id-row = refl

-- create_data, send and process_id have no areas
pub create_data-areas : (ask : Ask) → ask.call ≡ 0 → areas_of ask ≡ []
create_data-areas ask is = areas_by ask create_data (rw is create_data-row)

pub send-areas : (ask : Ask) → ask.call ≡ 8 → areas_of ask ≡ []
send-areas ask is = areas_by ask send (rw is send-row)

pub process_id-areas : (ask : Ask) → ask.call ≡ 10 → areas_of ask ≡ []
process_id-areas ask is = areas_by ask process_id (rw is process_id-row)

-- receive has its tags
pub receive-areas : (ask : Ask) → ask.call ≡ 9 →
    areas_of ask ≡ record { addr = slice_index ask.args 0; len = 8 * slice_index ask.args 1 } ∷ []
receive-areas ask is = areas_by ask receive (rw is receive-row)

pub receive-reads : (ask : Ask) → ask.call ≡ 9 →
    areas_read ask ≡ record { addr = slice_index ask.args 0; len = 8 * slice_index ask.args 1 } ∷ []
receive-reads ask is = read_by ask receive (rw is receive-row)

pub receive-sound : (ask : Ask) → ask.call ≡ 9 → are_sound ask ≡ true
receive-sound ask is = sound_by ask receive (rw is receive-row)

-- the results of each call
pub create_data-results : results_of 0 ≡ Some NoResult
create_data-results = results_by 0 create_data create_data-row

pub send-results : results_of 8 ≡ Some (OneOf (0 ∷ 1 ∷ 2 ∷ 12 ∷ []))
send-results = results_by 8 send send-row

pub receive-results : results_of 9 ≡ Some (OneOf (0 ∷ 1 ∷ 9027 ∷ []))
receive-results = results_by 9 receive receive-row

pub process_id-results : results_of 10 ≡ Some AnyI64
process_id-results = results_by 10 process_id process_id-row

nothing_read : (read written : List Area) → (read ++ written) ≡ [] → read ≡ []
nothing_read [] written h = refl
nothing_read (area ∷ read) written h = cc

no_areas-read : (ask : Ask) → areas_of ask ≡ [] → areas_read ask ≡ []
unfolding areas_of
no_areas-read ask none = nothing_read _ _ none

sound_reads : (args : List ℕ) (reads : Reads) → map (area_read args) (areas_in reads) ≡ [] → list_all (is_sound_area args) (areas_in reads) ≡ true
sound_reads args NoArea none = refl
sound_reads args (OneArea form) none = absurd (cc)
sound_reads args (TwoAreas first second) none = absurd (cc)

nothing_unsound : (o : Option Row) (ask : Ask) → areas_read_by o ask ≡ [] → are_sound_by o ask ≡ true
nothing_unsound None ask none = refl
nothing_unsound (Some row) ask none = sound_reads ask.args row.reads none

no_areas-sound : (ask : Ask) → areas_of ask ≡ [] → are_sound ask ≡ true
unfolding are_sound areas_of areas_read
no_areas-sound ask none = nothing_unsound (row_of ask.call) ask (nothing_read _ _ none)

-- an ask without areas fits, and its request has no bytes
pub no_areas-fit : (memory : List ℕ) (ask : Ask) → areas_of ask ≡ [] → areas_fit memory ask ≡ true
no_areas-fit memory ask none = rw (no_areas-sound ask none, none) refl

pub no_areas-request : (memory : List ℕ) (ask : Ask) → areas_of ask ≡ [] →
    request_of memory ask ≡ record { ask = ask; fits = true; first = []; second = [] }
no_areas-request memory ask none = rw (no_areas-sound ask none, none, no_areas-read ask none) refl
