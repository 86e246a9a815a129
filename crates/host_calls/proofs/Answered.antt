-- Which calls the turn answers, and what it answers.
use Rattle.std.proofs.Common.{◌≡◌, ℕ, ◌+◌, ◌<◌, ◌≤◌, ◌&&◌, Bool, true, false, nat_eq, nat_lt, List, [], ◌∷◌, map, slice_get, get_or, Option, Some, None, option_map, refl, sym, ◌∙◌, ap, ap₂, arith}
use Rattle.std.specs.List.{list_any, list_all, range_with_len}
use Rattle.std.proofs.lemmas.Bool.Decides.{nat_tests}
use Rattle.std.proofs.lemmas.Option.{slice_get-get_or, slice_get-map, slice_get_within}
use Rattle.std.proofs.lemmas.List.FromFn.{get_or-range_with_len}
use Rattle.host_port.specs.declared.start.Start.{Start}
use Rattle.host_port.specs.declared.request.Request.{Request}
use Rattle.host_port.specs.declared.reply.Reply.{Reply}
use Rattle.host_port.specs.Rows.{Row}
use Rattle.host_port.specs.HostTable.{is_local, is_local_kind, row_of, known_row_of, all_rows, served, is_served}
use Rattle.host_port.proofs.RowLaws.{row_if_served, not_served}
use Rattle.world_rules.specs.Calls.{HostCall, CreateData, all_calls, call_numbered, call_of}
use Rattle.world_rules.specs.Kinds.{is_local as is_local_request}
use Rattle.world_rules.specs.Part.{Part}
use Rattle.world_rules.specs.Judge.{Fit, judge, charged}
use Rattle.world_rules.specs.Local.{local, local_reply, local_part}
use Rattle.host_calls.specs.Steps.{is_answered}

and_true : (a b : Bool) → (a && b) ≡ true → (a ≡ true) × (b ≡ true)
and_true true b is = (refl, is)
and_true false b is = absurd cc

-- a call is answered where its row says that it is local
all_alike : map is_answered all_calls ≡ map is_local (range_with_len 0 36)
unfolding row_of all_rows is_served
all_alike = refl

numbered : (number : ℕ) → number < 36 → slice_get (range_with_len 0 36) number ≡ Some number
numbered number within =
    let found = slice_get-get_or (range_with_len 0 36) number 0 within in
    let is : get_or (range_with_len 0 36) number 0 ≡ number = get_or-range_with_len 0 36 number 0 within ∙ omega arith in
    found ∙ ap (λ (n : ℕ). Some n) is

-- a local call that the host serves is answered
pub local_is_answered : (number : ℕ) (call : HostCall) → is_local number ≡ true → call_numbered number ≡ Some call →
    is_answered call ≡ true
local_is_answered number call local at =
    let within : number < 36 = slice_get_within all_calls number call at in
    let same : Some (is_answered call) ≡ Some (is_local number) =
    ap (option_map is_answered) (sym at) ∙ sym (slice_get-map is_answered all_calls number)
    ∙ ap (λ (tests : List Bool). slice_get tests number) all_alike
    ∙ slice_get-map is_local (range_with_len 0 36) number ∙ ap (option_map is_local) (numbered number within) in
    cc

-- the calls that are served are among the 36
all_below : list_all (λ number. nat_lt number 36) served ≡ true
all_below = refl

none_past : (numbers : List ℕ) (most call : ℕ) → list_all (λ number. nat_lt number most) numbers ≡ true → most ≤ call →
    list_any (λ number. nat_eq number call) numbers ≡ false
none_past [] most call below past = refl
none_past (number ∷ numbers) most call below past =
    let both = and_true (nat_lt number most) _ below in
    let less = both.0 in
    let other : nat_eq number call ≡ false = grind (arith, nat_tests) in
    rw other (none_past numbers most call both.1 past)

past_served : (call : ℕ) → 36 ≤ call → is_served call ≡ false
unfolding is_served
past_served call past = none_past served 36 call all_below past

no_row : (call : ℕ) → row_of call ≡ None → is_local call ≡ false
no_row call none = rw none refl

within_calls : (number : ℕ) → call_numbered number ≡ None → number < 36 → ⊥
within_calls number none within =
    let found = slice_get-get_or all_calls number CreateData within in
    absurd cc

-- there is such a call
pub local_is_there : (number : ℕ) → is_local number ≡ true → call_numbered number ≡ None → ⊥
local_is_there number local none =
    let inside : number < 36 → ⊥ = within_calls number none in
    let past : 36 ≤ number = grind arith in
    let not_local = no_row number (not_served number (past_served number past)) in
    absurd cc

known_by : (call : ℕ) (is : Bool) → is_served call ≡ is → is_local call ≡ true →
    is_local_kind (option_map (λ (row : Row). row.kind) (known_row_of call)) ≡ true
known_by call true served local =
    let same : row_of call ≡ known_row_of call = row_if_served call ∙ rw served refl in
    rw (sym same) local
known_by call false served local =
    let not_local = no_row call (not_served call served) in
    absurd cc

-- the rules take it for local
pub is_local_known : (request : Request) → is_local request.ask.call ≡ true → is_local_request request ≡ true
is_local_known request local = known_by request.ask.call (is_served request.ask.call) refl local

-- what the rules answer to a local call that is judged fit
pub answered_so : (start : Start) (was is : Part) (request : Request) (call : HostCall) (reply : Reply) →
    is_local request.ask.call ≡ true → judge start was request ≡ Fit → call_of request ≡ Some call →
    reply ≡ local_reply call start was request → is ≡ local_part call start (charged request was) request →
    local start was request ≡ Some (reply, is)
answered_so start was is request call reply is_local fit at replied left =
    rw (is_local_known request is_local, fit, at) (sym (ap₂ (λ (r : Reply) (p : Part). Some (r, p)) replied left))
