use Rattle.std.proofs.Common.{◌≡◌, ℕ, List, [], ◌∷◌, Some, None, Contains, lit<, refl, sym, ◌∙◌, ap}
use Rattle.host_port.specs.declared.ask.Ask.{Ask}
use Rattle.host_port.specs.declared.request.Request.{Request}
use Rattle.host_port.specs.declared.reply.Reply.{Reply}
use Rattle.host_port.specs.Forms.{HasForm, text_of, word_of}
use Rattle.host_port.specs.HostTable.{OneOf, send, receive, results_of}
use Rattle.host_port.specs.ProcessRows.{sleep_ms}
use Rattle.host_port.specs.Steps.{IsAnswerable}
use Rattle.host_port.proofs.HostLaws.{send-row, receive-row, send-results, receive-results, text_by, word_by}
use Rattle.world_rules.specs.declared.halt.Halt.TheVariants.{Asks}
use Rattle.world_rules.specs.declared.life.Birth.{Birth}
use Rattle.world_rules.specs.Answers.{empty_reply, number_reply}
use Rattle.world_rules.specs.World.{World}
use Rattle.world_rules.specs.Lives.{Setting}
use Rattle.node_state.specs.declared.outcome.Post.{Post}
use Rattle.node_state.specs.declared.outcome.Post.TheVariants.{Put, Nobody, Full, Refused}
use Rattle.node_state.specs.declared.outcome.Receipt.{Receipt}
use Rattle.node_state.specs.declared.outcome.Receipt.TheVariants as ReceiptIs
use Rattle.node_state.specs.Seats.{Meaning}
use Rattle.node_state.specs.Fits.{Brought, TurnFits}
use Rattle.node_state.specs.Posts.{code_of, receipt_code}
use Rattle.node_laws.proofs.HostRows.{sleep-row, sleep-results}
use Rattle.node_laws.proofs.Gives.{brings}
use Rattle.node_laws.proofs.Requests.{asked-fits}

-- What a node may tell its engines.

-- a number has the form of a call that gives it and writes nothing
pub number-form : (ask : Ask) (numbers : List ℕ) (answer : ℕ) → results_of ask.call ≡ Some (OneOf numbers) → text_of ask.call ≡ None → word_of ask.call ≡ None →
    Contains numbers answer → HasForm ask (number_reply answer)
number-form ask numbers answer results text word among = record {
  result = rw results among;
  count = rw results tt;
  writes = record { text_is = rw text refl; word_is = rw word refl };
}

post_number : (outcome : Post) → Contains (0 ∷ 1 ∷ 2 ∷ 12 ∷ []) (code_of outcome)
post_number Put = (0, lit< tt, refl)
post_number Nobody = (1, lit< tt, refl)
post_number Full = (2, lit< tt, refl)
post_number Refused = (3, lit< tt, refl)

receipt_number : (receipt : Receipt) → Contains (0 ∷ 1 ∷ 9027 ∷ []) (receipt_code receipt)
receipt_number ReceiptIs.Delivered = (0, lit< tt, refl)
receipt_number ReceiptIs.TimedOut = (2, lit< tt, refl)
receipt_number ReceiptIs.Waits = (2, lit< tt, refl)

-- the reply to a send, to a receive and to a sleep
pub send-form : (ask : Ask) (outcome : Post) → ask.call ≡ 8 → HasForm ask (number_reply (code_of outcome))
send-form ask outcome call =
    number-form ask (0 ∷ 1 ∷ 2 ∷ 12 ∷ []) (code_of outcome) (rw call send-results) (rw call (text_by 8 send send-row)) (rw call (word_by 8 send send-row)) (post_number outcome)

pub receive-form : (ask : Ask) (receipt : Receipt) → ask.call ≡ 9 → HasForm ask (number_reply (receipt_code receipt))
receive-form ask receipt call =
    number-form ask (0 ∷ 1 ∷ 9027 ∷ []) (receipt_code receipt) (rw call receive-results) (rw call (text_by 9 receive receive-row)) (rw call (word_by 9 receive receive-row)) (receipt_number receipt)

pub sleep-form : (ask : Ask) → ask.call ≡ 17 → HasForm ask empty_reply
sleep-form ask call = record {
  result = rw (call, sleep-results) refl;
  count = rw (call, sleep-results) tt;
  writes = record { text_is = rw (call, text_by 17 sleep_ms sleep-row) refl; word_is = rw (call, word_by 17 sleep_ms sleep-row) refl };
}

-- an engine that owes a reply may be given one that has the form of its call
pub answerable : {E P : Type 0} {engines : Meaning E P} {setting : Setting P} (births : List Birth) (w : World) (worker pid : ℕ) (brought : Brought E) (request : Request) (reply : Reply)
    → TurnFits engines setting births w worker pid brought → brought.halt ≡ Asks request → HasForm request.ask reply
    → IsAnswerable (engines.phase brought.seat.engine) (engines.memory brought.seat.engine) reply
answerable births w worker pid brought request reply fits halt form =
    let f = brings births w worker pid brought (Asks request) brought.side halt refl fits in
    let owes = f.phase.0 in
    record {
      ask = request.ask;
      owed = owes.phase;
      fits = ap (λ (r : Request). r.fits) (sym owes.bytes) ∙ asked-fits births w worker pid brought.seat brought.calls request brought.side brought.shed f;
      form = form;
    }

pub answerable-send : {E P : Type 0} {engines : Meaning E P} {setting : Setting P} (births : List Birth) (w : World) (worker pid : ℕ) (brought : Brought E) (request : Request) (outcome : Post)
    → request.ask.call ≡ 8 → TurnFits engines setting births w worker pid brought → brought.halt ≡ Asks request
    → IsAnswerable (engines.phase brought.seat.engine) (engines.memory brought.seat.engine) (number_reply (code_of outcome))
answerable-send births w worker pid brought request outcome call fits halt =
    answerable births w worker pid brought request (number_reply (code_of outcome)) fits halt (send-form request.ask outcome call)

pub answerable-receive : {E P : Type 0} {engines : Meaning E P} {setting : Setting P} (births : List Birth) (w : World) (worker pid : ℕ) (brought : Brought E) (request : Request) (receipt : Receipt)
    → request.ask.call ≡ 9 → TurnFits engines setting births w worker pid brought → brought.halt ≡ Asks request
    → IsAnswerable (engines.phase brought.seat.engine) (engines.memory brought.seat.engine) (number_reply (receipt_code receipt))
answerable-receive births w worker pid brought request receipt call fits halt =
    answerable births w worker pid brought request (number_reply (receipt_code receipt)) fits halt (receive-form request.ask receipt call)

pub answerable-sleep : {E P : Type 0} {engines : Meaning E P} {setting : Setting P} (births : List Birth) (w : World) (worker pid : ℕ) (brought : Brought E) (request : Request)
    → request.ask.call ≡ 17 → TurnFits engines setting births w worker pid brought → brought.halt ≡ Asks request
    → IsAnswerable (engines.phase brought.seat.engine) (engines.memory brought.seat.engine) empty_reply
answerable-sleep births w worker pid brought request call fits halt =
    answerable births w worker pid brought request empty_reply fits halt (sleep-form request.ask call)
