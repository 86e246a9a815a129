use Rattle.std.proofs.Common.{◌≡◌, ℕ, List, length, Option, Some, None, true, nat_lt, option_map, slice_get, slice_index_or, refl, sym, ◌∙◌, ap}
use Rattle.std.proofs.lemmas.Bool.{ltb-true}
use Rattle.std.proofs.lemmas.Option.{slice_get_read}
use Rattle.host_port.specs.declared.ask.Ask.{Ask}
use Rattle.world_rules.specs.Part.{Scratch}
use Rattle.message_scratch.specs.Messages as Kept
use Rattle.node_state.specs.Seats.{Seat}
use Rattle.node_mirror.specs.Slots.{Slot, Giving}
use Rattle.host_calls.specs.declared.proc.Proc.{Proc}
use Rattle.host_calls.specs.Shown.{seat_of, shown_scratch}
use Rattle.process_store.specs.declared.place.Place.{Place}
use Rattle.process_store.specs.declared.place.Place.TheVariants as PlaceIs
use Rattle.process_store.specs.Holds.{slot_in}

-- The scratch message of a process whose Give is being performed.

shown_tag : {S : Type 0} (kept : Option (Kept.Scratch S)) (tag : ℕ) → option_map (λ (s : Kept.Scratch S). s.message.tag) kept ≡ Some tag
    → (scratch : Scratch) × (shown_scratch kept ≡ Some scratch) × (scratch.message.tag ≡ tag)
shown_tag None tag is = let h : ⊥ = cc in absurd h
shown_tag (Some s) tag is = (_, refl, cc)

giving_seat : {E : Type 0} (a b : Seat E) (x y : Ask) → ◌≡◌ {A = Slot E} (Giving a x) (Giving b y) → a ≡ b
giving_seat a b x y is = cc

pub tag_held : {E O P S L : Type 0} (place : Option (Place E O P S L)) (proc : Proc E O P S L) (asked : Ask) (tag : ℕ) → place ≡ Some (PlaceIs.Giving proc asked)
    → option_map (λ (s : Kept.Scratch S). s.message.tag) proc.scratch ≡ Some tag → (seat : Seat E) (ask : Ask) → slot_in place ≡ Giving seat ask
    → (scratch : Scratch) × (seat.part.scratch ≡ Some scratch) × (scratch.message.tag ≡ tag)
tag_held {E = E} place proc asked tag there is seat ask at =
    let same : seat_of proc ≡ seat = giving_seat (seat_of proc) seat asked ask (sym (ap slot_in there) ∙ at) in
    let shown = shown_tag proc.scratch tag is in
    (shown.0, ap (λ (s : Seat E). s.part.scratch) (sym same) ∙ shown.1, shown.2)

-- a place that was read
pub read_place : {X : Type 0} (items xs : List X) (pid : ℕ) (x y : X) → xs ≡ items → true ≡ nat_lt pid (length xs) → x ≡ slice_index_or xs pid x → x ≡ y → slice_get items pid ≡ Some y
read_place items xs pid x y same within read is = ap (λ (zs : List _). slice_get zs pid) (sym same) ∙ slice_get_read xs (length xs) pid x refl (ltb-true pid (length xs) (sym within)) read ∙ ap Some is
