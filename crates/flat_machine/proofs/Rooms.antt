-- The limit of value places, counted by the flat machine.
use Rattle.std.proofs.Common.{◌≡◌, ℕ, pred, ◌+◌, List, [], ◌∷◌, length, reverse, sum_by, arith, refl, ap, length-append}
use Rattle.std.proofs.lemmas.List.{length-reverse}
use Rattle.std.proofs.lemmas.List.Sums.{sum_by-cons}
use Rattle.wasm_form.specs.declared.parts.Parts.{Parts}
use Rattle.tree_machine.specs.Config.{Cont, Frame, Config}
use Rattle.tree_machine.specs.Limits.{places_of, places}
use Rattle.flat_machine.specs.Flat.{Place, Flat}
use Rattle.flat_machine.specs.Values.{operands_with, frame_values, all_values}
use Rattle.flat_machine.specs.Tells.{opens_of, PlacesStand, Tells}

operands_count : (operands : List ℕ) (ks : List Cont) → length (operands_with operands ks) ≡ length operands + sum_by (λ (k : Cont). length k.under) ks
operands_count operands [] = omega arith
operands_count operands (k ∷ ks) =
    let here = length-append operands (operands_with k.under ks) in
    let more = operands_count k.under ks in
    let all = sum_by-cons (λ (k : Cont). length k.under) k ks in
    omega arith

frame_count : (f : Frame) → length (frame_values f) + pred (length f.conts) ≡ places_of f
frame_count f =
    let both = length-append (operands_with f.operands f.conts) (reverse f.locals) in
    let locals = length-reverse f.locals in
    let operands = operands_count f.operands f.conts in
    omega arith

all_count : (m : Parts) (list : List Place) (frames : List Frame) → PlacesStand m list frames → length (all_values frames) + opens_of list ≡ places frames
all_count m [] [] h = refl
all_count m [] (f ∷ below) h = absurd h
all_count m (place ∷ callers) [] h = absurd h
all_count m (place ∷ callers) (f ∷ below) h =
    let both = length-append (frame_values f) (all_values below) in
    let here = frame_count f in
    let more = all_count m callers below h.3 in
    let opens = h.2 in
    let all = sum_by-cons places_of f below in
    omega arith

-- the values in use and the open blocks are the places of the frames
pub places_counted : (m : Parts) (flat : Flat) (c : Config) → Tells m flat c → length flat.values + flat.place.opens ≡ places c.frames
places_counted m flat c tells =
    let all = all_count m (flat.place ∷ flat.callers) c.frames tells.places in
    let values = ap length tells.values in
    omega arith
