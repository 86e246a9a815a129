-- The calls of the outside by their numbers, and what a request without faults names.
use Rattle.std.specs.List.{list_all, Contains}
use Rattle.std.specs.Option.{option_map_or}
use Rattle.std.proofs.Common.{◌≡◌, ◌||◌, not, suc, find, take, option_map, option_and_then, inl, inr, take-take, ℕ, ◌≤◌, Bool, true, false, nat_eq, List, [], ◌∷◌, map, Option, Some, None, arith, refl, sym, ap, subst, ◌∙◌}
use Rattle.std.proofs.lemmas.Bool.Decides.{eqb_tells}
use Rattle.host_port.specs.declared.request.Request.{Request}
use Rattle.host_port.specs.HostTable.{Row, all_rows, known_row_of}
use Rattle.host_port.specs.NetworkRows.{tcp_local_port, tcp_read, tcp_write}
use Rattle.world_rules.specs.declared.halt.HostFault.{HostFault}
use Rattle.world_rules.specs.Calls.{HostCall, call_of, call_numbered, arg}
use Rattle.world_rules.specs.Calls as CallIs
use Rattle.world_rules.specs.Judge.{unless, own_fault, fault_of}
use Rattle.world_rules.specs.Part.{Part, is_among}
use Rattle.node_state.specs.Fits.{is_outside}
use Rattle.host_calls.specs.Listening.{Bound, Listening, listener_of, listener_numbers}
use Rattle.host_calls.specs.OutsideSteps.{outside_number}
use Rattle.host_calls.proofs.OutsideForms.{IsFor, local_port_for, read_for, write_for, both_true, differs, is_same}

-- BY NAME

-- a row of the outside has the number that its call's name tells
abbrev agrees : Row → Bool
agrees row = not (is_outside (Some row.kind)) || option_map_or (λ (n : ℕ). nat_eq n row.call) (option_and_then outside_number (call_numbered row.call)) false

all_agree : list_all agrees all_rows ≡ true
unfolding all_rows
all_agree = refl

is_number : (o : Option ℕ) (call : ℕ) → option_map_or (λ (n : ℕ). nat_eq n call) o false ≡ true → o ≡ Some call
is_number None call is = absurd (cc)
is_number (Some n) call is = ap Some (is_same n call is)

must : (a b : Bool) → (not a || b) ≡ true → a ≡ true → b ≡ true
must true b either is = either
must false b either is = absurd (cc)

row_agrees : (rows : List Row) (call : ℕ) (row : Row) → find (λ (r : Row). nat_eq r.call call) rows ≡ Some row → list_all agrees rows ≡ true → (agrees row ≡ true) × (row.call ≡ call)
row_agrees [] call row found each = absurd (cc)
row_agrees (r ∷ rows) call row found each =
    let both = both_true (agrees r) (list_all agrees rows) each in
    elim (eqb_tells r.call call) as (λ _. (agrees row ≡ true) × (row.call ≡ call)) [
      | inl same ↦ let here : Some r ≡ Some row = rw same.0 at found in
          let this : r ≡ row = cc in (ap agrees (sym this) ∙ both.0, ap (λ (x : Row). x.call) (sym this) ∙ same.1)
      | inr other ↦ row_agrees rows call row (rw other.0 at found) both.1
    ]

by_row : (call : ℕ) (o : Option Row) → known_row_of call ≡ o → is_outside (option_map (λ (row : Row). row.kind) o) ≡ true → option_and_then outside_number (call_numbered call) ≡ Some call
unfolding known_row_of
by_row call None is outside = absurd (cc)
by_row call (Some row) is outside =
    let both = row_agrees all_rows call row is all_agree in
    let here = is_number _ _ (must (is_outside (Some row.kind)) _ both.0 outside) in
    subst (λ (n : ℕ). option_and_then outside_number (call_numbered n) ≡ Some n) both.1 here

pub outside_named : (call : ℕ) → is_outside (option_map (λ (row : Row). row.kind) (known_row_of call)) ≡ true → (o : Option HostCall) → o ≡ call_numbered call →
    option_and_then outside_number o ≡ Some call
outside_named call outside o is = ap (option_and_then outside_number) is ∙ by_row call (known_row_of call) refl outside

-- a call of another number isn't this one
pub names_itself : (number call : ℕ) (name other : HostCall) → Some number ≡ Some call → call_numbered number ≡ Some name → call_numbered call ≡ Some other → name ≡ other
names_itself number call name other same one two =
    let numbers : number ≡ call = cc in
    let names : Some name ≡ Some other = sym one ∙ ap call_numbered numbers ∙ two in
    cc

-- FAULTS

unless_true : (b : Bool) (fault : HostFault) → unless b fault ≡ None → b ≡ true
unless_true true fault is = refl
unless_true false fault is = absurd (cc)

faultless_by : (request : Request) (part : Part) (row : Row) (name : HostCall) → IsFor request row name → fault_of (call_of request) part request ≡ None → own_fault name part request ≡ None
faultless_by request part row name is faultless = subst (λ (call : Option HostCall). fault_of call part request ≡ None) is.named faultless

pub local_port_there : (request : Request) (part : Part) → request.ask.call ≡ 28 → fault_of (call_of request) part request ≡ None → is_among part.listeners (arg request 0) ≡ true
local_port_there request part called faultless = unless_true _ _ (faultless_by request part tcp_local_port CallIs.LocalPort (local_port_for request called) faultless)

among_contains : (n : ℕ) (ns : List ℕ) → is_among ns n ≡ true → Contains ns n
among_contains n [] is = absurd (cc)
among_contains n (m ∷ ns) is =
    elim (eqb_tells n m) as (λ _. Contains (m ∷ ns) n) [
      | inl same ↦ (0, omega arith, sym same.1)
      | inr other ↦ let rest : is_among ns n ≡ true = rw other.0 at is in
          let there = among_contains n ns rest in let lt = there.1 in (suc there.0, omega arith, there.2)
    ]

pub read_there : (request : Request) (part : Part) → request.ask.call ≡ 31 → fault_of (call_of request) part request ≡ None → Contains part.handles (arg request 0)
read_there request part called faultless =
    among_contains _ _ (unless_true _ _ (faultless_by request part tcp_read CallIs.ReadStream (read_for request called) faultless))

pub write_there : (request : Request) (part : Part) → request.ask.call ≡ 32 → fault_of (call_of request) part request ≡ None → Contains part.handles (arg request 0)
write_there request part called faultless =
    among_contains _ _ (unless_true _ _ (faultless_by request part tcp_write CallIs.WriteStream (write_for request called) faultless))

not_among : {L : Type 0} (number : ℕ) (bound : List (Bound L)) → find (λ (b : Bound L). nat_eq b.number number) bound ≡ None → is_among (map (λ (b : Bound L). b.number) bound) number ≡ false
not_among number [] none = refl
not_among {L} number (b ∷ bound) none =
    elim (eqb_tells b.number number) as (λ _. is_among (map (λ (x : Bound L). x.number) (b ∷ bound)) number ≡ false) [
      | inl same ↦ let here : Some b ≡ None = rw same.0 at none in absurd (cc)
      | inr other ↦ let rest : find (λ (x : Bound L). nat_eq x.number number) bound ≡ None = rw other.0 at none in
          let first : nat_eq number b.number ≡ false = differs number b.number (λ e. other.1 (sym e)) in
          rw first (not_among number bound rest)
    ]

none_mapped : {A B : Type 0} (f : A → B) (o : Option A) → None ≡ option_map f o → o ≡ None
none_mapped f None is = refl
none_mapped f (Some a) is = absurd (cc)

-- a port is told of each listener that is there
pub port_there : {L : Type 0} (number : ℕ) (listening : Listening L) (port : Bound L → ℕ) → None ≡ option_map port (listener_of number listening) →
    is_among (listener_numbers listening) number ≡ true → ⊥
port_there number listening port none there =
    let not_there = not_among number listening.bound (none_mapped port (listener_of number listening) none) in cc

-- the first bytes of a shorter area are those of the longer
pub first_taken : (n few many : ℕ) (rest : List ℕ) → n ≤ few → few ≤ many → take n (take few rest) ≡ take n (take many rest)
first_taken n few many rest one two = take-take n few rest one ∙ sym (take-take n many rest (omega arith))
