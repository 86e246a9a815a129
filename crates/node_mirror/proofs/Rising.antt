-- The streams of a table rise, whatever calls do to them (as world_rules proves it for itself).
use Rattle.std.specs.Prelude.{◌≡◌, ◌⊎◌, ℕ, suc, ◌<◌, ◌≤◌, List, [], ◌∷◌, ◌++◌, filter, cond, not, Option, Some, None, Bool, true, false, nat_eq, nat_lt, if◌then◌else◌, refl}
use Rattle.std.specs.Option.{option_map_or}
use Rattle.std.proofs.Common.{sym, ◌∙◌, inl, inr, arith}
use Rattle.std.proofs.lemmas.Bool.Decides.{leb_tells}
use Rattle.host_port.specs.declared.start.Start.{Start}
use Rattle.host_port.specs.declared.call.Call.{Call}
use Rattle.host_port.specs.declared.request.Request.{Request}
use Rattle.world_rules.specs.Views.{Given, asked_in}
use Rattle.world_rules.specs.Calls.{HostCall, call_of, arg}
use Rattle.world_rules.specs.Calls as CallIs
use Rattle.world_rules.specs.Kinds.{is_local}
use Rattle.world_rules.specs.Part.{Part, Scratch, slots_of, handle_at, with_number, without_number}
use Rattle.world_rules.specs.Judge.{Judgement, Fit, Overdrawn, Faulty, judge, charged}
use Rattle.world_rules.specs.Local.{after_write, after_read, after_take, local_part, answer_of, if_fit, local, part_of, part_after}
use Rattle.world_rules.specs.Settled.{Outcome, SentOff, Delivered, StreamOpened, ListenerBound, settled}
use Rattle.world_rules.specs.World.{Process}
use Rattle.world_rules.specs.Rules.{part_after_turn}
use Rattle.world_rules.specs.Sound.{AllAbove, Rise}
use Rattle.world_rules.specs.laws.KeepingLaws.{false_is_true}

-- RISING NUMBERS

above_more : (low high : ℕ) (xs : List ℕ) → low < high → AllAbove high xs → AllAbove low xs
above_more low high [] less above = tt
above_more low high (x ∷ xs) less above = (by low high x less above.0, above_more low high xs less above.1)
  where
    by : (a b c : ℕ) → a < b → b < c → a < c
    by a b c x y = omega (arith, x, y)

above_kept : (low x : ℕ) (b : Bool) (xs : List ℕ) → low < x → AllAbove low xs → AllAbove low (cond b (x ∷ xs) xs)
above_kept low x true xs less above = (less, above)
above_kept low x false xs less above = above

above_filter : (low : ℕ) (test : ℕ → Bool) (xs : List ℕ) → AllAbove low xs → AllAbove low (filter test xs)
above_filter low test [] above = tt
above_filter low test (x ∷ xs) above = above_kept low x (test x) (filter test xs) above.0 (above_filter low test xs above.1)

rise_kept : (x : ℕ) (b : Bool) (xs : List ℕ) → AllAbove x xs → Rise xs → Rise (cond b (x ∷ xs) xs)
rise_kept x true xs above rise = (above, rise)
rise_kept x false xs above rise = rise

rise_filter : (test : ℕ → Bool) (xs : List ℕ) → Rise xs → Rise (filter test xs)
rise_filter test [] rise = tt
rise_filter test (x ∷ xs) rise = rise_kept x (test x) (filter test xs) (above_filter x test xs rise.0) (rise_filter test xs rise.1)

abbrev AllBelow : ℕ → List ℕ → Type 0
AllBelow high [] = Unit {0}
AllBelow high (x ∷ xs) = (x < high) × AllBelow high xs

below_of : (a b : ℕ) → nat_lt a b ≡ true → a < b
below_of a b e = by (leb_tells (suc a) b) e
  where
    by : ((nat_lt a b ≡ true) × (suc a ≤ b)) ⊎ ((nat_lt a b ≡ false) × (b < suc a)) → nat_lt a b ≡ true → a < b
    by (inl h) e = let x = h.1 in omega (arith, x)
    by (inr h) e = false_is_true (sym h.0 ∙ e)

lesser_at : (n x : ℕ) (b : Bool) (xs : List ℕ) → nat_lt x n ≡ b → AllBelow n xs → AllBelow n (cond b (x ∷ xs) xs)
lesser_at n x true xs e below = (below_of x n e, below)
lesser_at n x false xs e below = below

lesser : (n : ℕ) (xs : List ℕ) → AllBelow n (filter (λ k. nat_lt k n) xs)
lesser n [] = tt
lesser n (x ∷ xs) = lesser_at n x (nat_lt x n) (filter (λ k. nat_lt k n) xs) refl (lesser n xs)

greater_at : (n x : ℕ) (b : Bool) (xs : List ℕ) → nat_lt n x ≡ b → AllAbove n xs → AllAbove n (cond b (x ∷ xs) xs)
greater_at n x true xs e above = (below_of n x e, above)
greater_at n x false xs e above = above

greater : (n : ℕ) (xs : List ℕ) → AllAbove n (filter (λ k. nat_lt n k) xs)
greater n [] = tt
greater n (x ∷ xs) = greater_at n x (nat_lt n x) (filter (λ k. nat_lt n k) xs) refl (greater n xs)

above_append : (low n : ℕ) (xs ys : List ℕ) → AllAbove low xs → low < n → AllAbove n ys → AllAbove low (xs ++ n ∷ ys)
above_append low n [] ys above less more = (less, above_more low n ys less more)
above_append low n (x ∷ xs) ys above less more = (above.0, above_append low n xs ys above.1 less more)

rise_between : (n : ℕ) (xs ys : List ℕ) → Rise xs → AllBelow n xs → AllAbove n ys → Rise ys → Rise (xs ++ n ∷ ys)
rise_between n [] ys rise below above behind = (above, behind)
rise_between n (x ∷ xs) ys rise below above behind =
    (above_append x n xs ys rise.0 below.0 above, rise_between n xs ys rise.1 below.1 above behind)

with_rise : (n : ℕ) (xs : List ℕ) → Rise xs → Rise (with_number n xs)
with_rise n xs rise =
    rise_between n (filter (λ k. nat_lt k n) xs) (filter (λ k. nat_lt n k) xs) (rise_filter (λ k. nat_lt k n) xs rise) (lesser n xs) (greater n xs) (rise_filter (λ k. nat_lt n k) xs rise)

without_rise : (n : ℕ) (xs : List ℕ) → Rise xs → Rise (without_number n xs)
without_rise n xs rise = rise_filter (λ k. not (nat_eq k n)) xs rise

-- LOCAL CALLS

write_rise : (scratch : Option Scratch) (request : Request) (part : Part) → Rise part.handles → Rise (option_map_or (after_write request part) scratch part).handles
write_rise None request part rise = rise
write_rise (Some scratch) request part rise = rise

read_rise : (scratch : Option Scratch) (request : Request) (part : Part) → Rise part.handles → Rise (option_map_or (after_read request part) scratch part).handles
read_rise None request part rise = rise
read_rise (Some scratch) request part rise = rise

take_rise : (handle : Option ℕ) (place : ℕ) (part : Part) → Rise part.handles → Rise (option_map_or (after_take place part) handle part).handles
take_rise None place part rise = rise
take_rise (Some handle) place part rise = with_rise handle part.handles rise

local_rise : (call : HostCall) (start : Start) (part : Part) (request : Request) → Rise part.handles → Rise (local_part call start part request).handles
local_rise CallIs.WriteData start part request rise = write_rise part.scratch request part rise
local_rise CallIs.ReadData start part request rise = read_rise part.scratch request part rise
local_rise CallIs.PushStream start part request rise = without_rise (arg request 0) part.handles rise
local_rise CallIs.TakeStream start part request rise = take_rise (handle_at (slots_of part.scratch) (arg request 0)) (arg request 0) part rise
local_rise CallIs.DropStream start part request rise = without_rise (arg request 0) part.handles rise
local_rise _ start part request rise = rise

answer_rise : (b : Bool) (judgement : Judgement) (call : Option HostCall) (start : Start) (part : Part) (request : Request) → Rise part.handles
    → Rise (part_of part (if b then if_fit judgement (answer_of call start part request) else None)).handles
answer_rise true Fit None start part request rise = rise
answer_rise true Fit (Some call) start part request rise = local_rise call start (charged request part) request rise
answer_rise true Overdrawn call start part request rise = rise
answer_rise true (Faulty fault) call start part request rise = rise
answer_rise false judgement call start part request rise = rise

calls_rise : (start : Start) (part : Part) (calls : List Call) → Rise part.handles → Rise (part_after start part calls).handles
calls_rise start part [] rise = rise
calls_rise start part (call ∷ calls) rise =
    calls_rise start (part_of part (local start part call.request)) calls
    (answer_rise (is_local call.request) (judge start part call.request) (call_of call.request) start part call.request rise)

asked_rise : (asked : Option Request) (part : Part) → Rise part.handles → Rise (option_map_or (λ (request : Request). charged request part) asked part).handles
asked_rise None part rise = rise
asked_rise (Some request) part rise = rise

pub turn_rise : (p : Process) (give : Given) → Rise p.part.handles → Rise (part_after_turn p give).handles
turn_rise p give rise = asked_rise (asked_in give.halt) (part_after p.start p.part give.calls) (calls_rise p.start p.part give.calls rise)

pub settled_rise : (outcome : Outcome) (part : Part) → Rise part.handles → Rise (settled part outcome).handles
settled_rise SentOff part rise = rise
settled_rise (Delivered item) part rise = rise
settled_rise (StreamOpened handle) part rise = with_rise handle part.handles rise
settled_rise ListenerBound part rise = rise
