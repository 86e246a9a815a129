-- Runs through a body.
use Rattle.std.proofs.Common.{◌≡◌, ◌≢◌, ◌<◌, ◌≤◌, ℕ, suc, ◌+◌, inl, inr, Bool, List, length, slice_get, get_or, Option, Some, None, refl, sym, ◌∙◌, ap, arith}
use Rattle.std.proofs.lemmas.Option.{slice_get_within, slice_get_read, slice_get_past}
use Rattle.linear_memory.specs.Contents.{Contents}
use Rattle.wasm_form.specs.declared.body.Body.{Body}
use Rattle.wasm_form.specs.declared.instr.Instr.{Instr}
use Rattle.wasm_form.specs.declared.parts.Parts.{Parts}
use Rattle.code_map.specs.declared.body_map.BodyMap.{BodyMap}
use Rattle.code_map.specs.declared.map.CodeMap.{CodeMap}
use Rattle.flat_machine.specs.Flat.{Flat}
use Rattle.flat_machine.specs.Flat as flat_machine
use Rattle.flat_machine.specs.Tells.{IsInstrAt}
use Rattle.flat_machine.specs.Moves.{Executes, Passes, Stuck, leave, move, move_in, move_at}
use Rattle.flat_machine.specs.Runs.{Runs}
use Rattle.flat_machine.specs.Shown.{moved}
use Rattle.flat_stepper.specs.declared.place.Place.{Place}
use Rattle.flat_stepper.specs.declared.within.Within.{Within}
use Rattle.flat_stepper.specs.declared.within.Spot.{Spot}
use Rattle.flat_stepper.specs.Begun.{IsBegun}
use Rattle.flat_stepper.specs.Standing.{IsMappedBy, IsFetched, Stands}
use Rattle.flat_stepper.proofs.Arrivals.{lands}

-- a run, and an instruction more
pub runs_on : (m : Parts) (map : CodeMap) (executed more : ℕ) (from mid to : Flat) → Runs m map executed from mid → move m map mid ≡ Executes to → more ≡ executed + 1 → Runs m map more from to
runs_on m map executed more from mid to run e count = (suc run.0, (mid, executed, 1, count, run.1, inl (refl, e)))

-- a run, and an end or an else more
pub runs_past : (m : Parts) (map : CodeMap) (executed : ℕ) (from mid to : Flat) → Runs m map executed from mid → move m map mid ≡ Passes to → Runs m map executed from to
runs_past m map executed from mid to run e = (suc run.0, (mid, executed, 0, omega arith, run.1, inr (refl, e)))

-- the move in a body
move_there : (m : Parts) (map : CodeMap) (flat : Flat) (text : Body) → slice_get m.bodies flat.place.body ≡ Some text →
    move m map flat ≡ move_at m map (length text.expr.code) (slice_get text.expr.code flat.place.pc) flat
unfolding move
move_there m map flat text e = ap (λ (o : Option Body). move_in m map o flat) e

module _ (m : Parts) (map : CodeMap) (flat : Flat) (has : Bool) (values : List ℕ) (sp : ℕ) (at : Place) (outer : ℕ) (memory : Contents) (globals : List ℕ)
    (b : IsBegun m map flat has values sp at outer memory globals) where
  pub begun : Runs m map 0 flat (moved flat has values sp memory globals at.pc at.opens)
  begun = (
    0,
    (
      refl,
      lands flat has memory globals flat.values values sp flat.place.pc flat.place.opens at.pc at.opens b.shown.memory_is b.shown.globals_are b.shown.values_are
          (ap (λ (p : flat_machine.Place). p.pc) b.place_is) (ap (λ (p : flat_machine.Place). p.opens) b.place_is),
    ),
  )

  body_is : flat.place.body ≡ at.body
  body_is = ap (λ (p : flat_machine.Place). p.body) b.place_is

  module _ (within : Within) (fetched : IsFetched m map at outer within) (new : List ℕ) (memory_new : Contents) (globals_new : List ℕ) (spot : Spot) where
    text_there : slice_get m.bodies flat.place.body ≡ Some fetched.text
    text_there = ap (λ (n : ℕ). slice_get m.bodies n) body_is ∙ fetched.text_is

    mapped_there : IsMappedBy map flat.place.body within
    mapped_there = record {
      found = fetched.mapped.found;
      is = ap (λ (n : ℕ). slice_get map.bodies n) body_is ∙ fetched.mapped.is;
      slots = fetched.mapped.slots;
      targets = fetched.mapped.targets;
      tables = fetched.mapped.tables;
    }

    move_is : move m map (moved flat has new spot.sp memory_new globals_new spot.pc spot.opens)
        ≡ move_at m map (length within.code.now) (slice_get within.code.now spot.pc) (moved flat has new spot.sp memory_new globals_new spot.pc spot.opens)
    move_is =
        move_there m map (moved flat has new spot.sp memory_new globals_new spot.pc spot.opens) fetched.text text_there
        ∙ ap (λ (code : List Instr). move_at m map (length code) (slice_get code spot.pc) (moved flat has new spot.sp memory_new globals_new spot.pc spot.opens)) fetched.code_is

    -- at an instruction
    pub stands : (executed : ℕ) (i : Instr) → Runs m map executed flat (moved flat has new spot.sp memory_new globals_new spot.pc spot.opens) → slice_get within.code.now spot.pc ≡ Some i →
        Stands m map (moved flat has new spot.sp memory_new globals_new spot.pc spot.opens) has within i new memory_new globals_new spot
    stands executed i run is = record {
      shown = record {
        values_are = refl;
        base_is = ap (λ (p : flat_machine.Place). p.base) b.place_is ∙ fetched.base_is;
        memory_is = refl;
        globals_are = refl;
      };
      pc_is = refl;
      opens_are = refl;
      outer_is = b.outer_is ∙ fetched.outer_is;
      mapped = mapped_there;
      instr_is = is;
      moves = move_is ∙ ap (λ (o : Option Instr). move_at m map (length within.code.now) o (moved flat has new spot.sp memory_new globals_new spot.pc spot.opens)) is;
      free = b.safe executed (moved flat has new spot.sp memory_new globals_new spot.pc spot.opens) run;
    }

    -- behind the code
    pub is_over : slice_get within.code.now spot.pc ≡ None →
        move m map (moved flat has new spot.sp memory_new globals_new spot.pc spot.opens) ≡ leave m map flat.callers (moved flat has new spot.sp memory_new globals_new spot.pc spot.opens)
    is_over none = move_is ∙ ap (λ (o : Option Instr). move_at m map (length within.code.now) o (moved flat has new spot.sp memory_new globals_new spot.pc spot.opens)) none

    pub instr_there : (i : Instr) → slice_get within.code.now spot.pc ≡ Some i → IsInstrAt m (moved flat has new spot.sp memory_new globals_new spot.pc spot.opens).place i
    instr_there i is = (fetched.text, text_there, ap (λ (code : List Instr). slice_get code spot.pc) fetched.code_is ∙ is)

-- a safe machine's body is there
pub text_of : (m : Parts) (map : CodeMap) (flat : Flat) (body : ℕ) → move m map flat ≢ Stuck → flat.place.body ≡ body → (text : Body) × (slice_get m.bodies body ≡ Some text)
unfolding move
text_of m map flat body free is = found (slice_get m.bodies flat.place.body) refl
  where
    found : (o : Option Body) → slice_get m.bodies flat.place.body ≡ o → (text : Body) × (slice_get m.bodies body ≡ Some text)
    found None e = absurd (free (ap (λ (o : Option Body). move_in m map o flat) e))
    found (Some text) e = (text, ap (λ (n : ℕ). slice_get m.bodies n) (sym is) ∙ e)

-- a begun machine's body is there
pub body_below : (m : Parts) (map : CodeMap) (flat : Flat) (has : Bool) (values : List ℕ) (sp : ℕ) (at : Place) (outer : ℕ) (memory : Contents) (globals : List ℕ) →
    IsBegun m map flat has values sp at outer memory globals → at.body < length m.bodies
body_below m map flat has values sp at outer memory globals b =
    let there = text_of m map flat at.body (b.safe 0 flat (0, (refl, refl))) (ap (λ (p : flat_machine.Place). p.body) b.place_is) in
    slice_get_within m.bodies at.body there.0 there.1

pub at_instr : (code : List Instr) (pc : ℕ) (i : Instr) → pc < length code → i ≡ get_or code pc i → slice_get code pc ≡ Some i
at_instr code pc i below is = slice_get_read code (length code) pc i refl below is

pub behind_code : (code : List Instr) (pc : ℕ) → length code ≤ pc → slice_get code pc ≡ None
behind_code code pc past = slice_get_past code pc past

item_at : (X : Type 0) (all slice : List X) (k : ℕ) (x : X) → slice ≡ all → k < length all → x ≡ get_or slice k x → slice_get all k ≡ Some x
item_at X all slice k x same below is =
    let count = ap length same in
    let less : k < length slice = omega arith in
    ap (λ (l : List X). slice_get l k) (sym same) ∙ slice_get_read slice (length slice) k x refl less is

pub text_at : (all slice : List Body) (k : ℕ) (x : Body) → slice ≡ all → k < length all → x ≡ get_or slice k x → slice_get all k ≡ Some x
text_at all slice k x same below is = item_at _ all slice k x same below is

pub map_at : (all slice : List BodyMap) (k : ℕ) (x : BodyMap) → slice ≡ all → k < length all → x ≡ get_or slice k x → slice_get all k ≡ Some x
map_at all slice k x same below is = item_at _ all slice k x same below is
