-- Each step of the walk keeps the containers as the moves have them.
use Rattle.std.specs.Prelude.{◌≡◌, ◌≢◌, ◌⊎◌, ℕ, ◌+◌, ◌<◌, ◌≤◌, List, [], ◌∷◌, ◌++◌, Option, Some, None, Bool, true, false, nat_eq, nat_lt, nat_le, if◌then◌else◌, refl}
use Rattle.std.specs.Option.{option_map_or}
use Rattle.std.proofs.Common.{subst, sym, ◌∙◌, ap, inl, inr, arith, append-nil}
use Rattle.std.proofs.lemmas.Bool.Decides.{eqb_tells}
use Rattle.host_port.specs.declared.request.Request.{Request}
use Rattle.host_port.specs.declared.reply.Reply.{Reply}
use Rattle.world_rules.specs.declared.halt.End.{End}
use Rattle.world_rules.specs.Views.{Given, asked_in}
use Rattle.world_rules.specs.Answers.{number_reply}
use Rattle.world_rules.specs.Arrivals.{What}
use Rattle.world_rules.specs.Arrivals as Came
use Rattle.world_rules.specs.Part.{Part, Scratch, Message, is_among, handles_in, handle_at, slots_of, scratch_handles}
use Rattle.world_rules.specs.Judge.{charged}
use Rattle.world_rules.specs.Local.{part_after}
use Rattle.world_rules.specs.Mail.{MailItem, Letter, Signal, pick, unpicked, item_handles, mail_handles}
use Rattle.world_rules.specs.Settled.{SentOff, Delivered, StreamOpened, ListenerBound, settled}
use Rattle.world_rules.specs.Moves.{Move, Opened, Sent, Received, Shut, ShutScratch, ShutMail, ShutAll, Mail, after_move, Handled, after_one, handled_after, handled}
use Rattle.world_rules.specs.Handles.{moves_of, closings_of, delivery_moves}
use Rattle.world_rules.specs.World.{World, Process, Stage, Ready, Out, put, with_process, with_moves, with_closed, is_home, is_live, Waiting}
use Rattle.world_rules.specs.Changes.{reached, with_arrival, with_part, readied, replied, posted, waiting}
use Rattle.world_rules.specs.Receive.{held, sent_off}
use Rattle.world_rules.specs.Outside.{stream_drawn, opened_and_shut}
use Rattle.world_rules.specs.Rules.{turned}
use Rattle.world_rules.specs.Ends.{ended, doomed, held_handles, stripped, fated}
use Rattle.world_rules.specs.Touches.{Change, Takes, Arrives, Turns, Returns, Answers, Pends, Waits, Posts, Picks, Settles, Minds, Dooms, Finishes, Begins, changed, TurnStands, PostStands, is_there, can_end}
use Rattle.world_rules.specs.Sound.{AreInOrder}
use Rattle.world_rules.specs.Placed.{letter_numbers}
use Rattle.world_rules.specs.laws.BirthLaws.{put_here}
use Rattle.world_rules.specs.laws.KeepingLaws.{false_is_true}
use Rattle.world_rules.proofs.Walk.{Still, One, Whole, Rest, Books, books_of, is_quiet, Posting}
use Rattle.world_rules.proofs.MildWalk.{put_field, away_there, home_live, steps}
use Rattle.world_rules.proofs.Chains.{live_there, ends_there}
use Rattle.world_rules.proofs.Keeping.{posting_kept, whole_kept, there_drawn, both_true, within}
use Rattle.world_rules.proofs.Listing.{picked_lies, picked_other}
use Rattle.world_rules.proofs.Standing.{Standing}
use Rattle.world_rules.proofs.Shifting.{Hold, hold_of, Shift, shifted, map_at}
use Rattle.world_rules.proofs.Moving.{shift_scratch, shift_received, shift_posted, shift_signal}
use Rattle.world_rules.proofs.Parting.{sent_to, shift_sent, shift_picked, shift_opened, shift_ended, shift_doomed, opened_shut, begun}
use Rattle.world_rules.proofs.TurnPlaces.{part_hold, same_holds, same_put, same_closed, handled_append, calls_stand}

-- the containers of a world are as its moves have them
abbrev pub Stands : World → Type 0
Stands w = Standing (handled w.moves) w.process w.numbers_drawn w.closed w.streams w.sends []

-- a step keeps that, and keeps the processes in order
abbrev pub Places : World → World → Type 0
Places w after = AreInOrder w → Stands w → AreInOrder after × Stands after

-- THE SAME, TOLD OTHERWISE

told_otherwise : (h g : Handled) (p r : ℕ → Process) (n m : ℕ) (c d : List ℕ) (s t e f : ℕ) → h ≡ g → p ≡ r → n ≡ m → c ≡ d → s ≡ t → e ≡ f
    → Standing h p n c s e [] → Standing g r m d t f []
told_otherwise h g p r n m c d s t e f x1 x2 x3 x4 x5 x6 stands =
    subst (λ (z : Handled). Standing z r m d t f []) x1
    (subst (λ (z : ℕ → Process). Standing h z m d t f []) x2
    (subst (λ (z : ℕ). Standing h p z d t f []) x3
    (subst (λ (z : List ℕ). Standing h p n z t f []) x4
    (subst (λ (z : ℕ). Standing h p n c z f []) x5
    (subst (λ (z : ℕ). Standing h p n c s z []) x6 stands)))))

each_same : (p r : ℕ → Process) → ((q : ℕ) → p q ≡ r q) → p ≡ r
each_same p r same = λ i q. same q i

put_self : (process : ℕ → Process) (pid q : ℕ) → process q ≡ put process pid (process pid) q
put_self process pid q = by (eqb_tells q pid)
  where
    by : ((nat_eq q pid ≡ true) × (q ≡ pid)) ⊎ ((nat_eq q pid ≡ false) × (q ≢ pid)) → process q ≡ put process pid (process pid) q
    by (inl same) = ap (λ (n : ℕ). process n) same.1 ∙ sym (ap (λ (b : Bool). if b then process pid else process q) same.0)
    by (inr other) = sym (ap (λ (b : Bool). if b then process pid else process q) other.0)

-- one process of the world is looked at
focus : (h : Handled) (process : ℕ → Process) (numbers : ℕ) (closed : List ℕ) (streams sends : ℕ) (flight : List ℕ) (pid : ℕ)
    → Standing h process numbers closed streams sends flight → Standing h (put process pid (process pid)) numbers closed streams sends flight
focus h process numbers closed streams sends flight pid stands =
    subst (λ (ps : ℕ → Process). Standing h ps numbers closed streams sends flight)
    (each_same process (put process pid (process pid)) (put_self process pid)) stands

handled_more : (moves more : List Move) → handled_after (handled moves) more ≡ handled (moves ++ more)
handled_more moves more = sym (handled_append (record { owner = λ _. None; drawn = 0; closed = [] }) moves more)

-- who is there was drawn
abbrev InRange : World → ℕ → Type 0
InRange w pid = (0 < pid) × (pid ≤ w.numbers_drawn)

in_range : (w : World) (pid : ℕ) → AreInOrder w → is_there (w.process pid).stage ≡ true → InRange w pid
in_range w pid order there =
    let both = both_true (nat_lt 0 pid) (nat_le pid w.numbers_drawn) (there_drawn w pid order there) in
    (within 1 pid both.0, within pid w.numbers_drawn both.1)

-- one process is changed with one move
one_moves : (w : World) (pid : ℕ) (new : Process) (move : Move) (extra : List ℕ) (streams sends : ℕ) → InRange w pid → Stands w
    → Shift (handled w.moves) (after_one (handled w.moves) move) pid (hold_of (w.process pid)) (hold_of new) extra w.streams streams w.sends sends [] []
    → Standing (handled (w.moves ++ move ∷ [])) (put w.process pid new) w.numbers_drawn (w.closed ++ extra) streams sends []
one_moves w pid new move extra streams sends range stands shift =
    subst (λ (h : Handled). Standing h (put w.process pid new) w.numbers_drawn (w.closed ++ extra) streams sends []) (handled_more w.moves (move ∷ []))
    (shifted (handled w.moves) (after_one (handled w.moves) move) w.process w.numbers_drawn w.closed w.streams streams w.sends sends [] [] pid (w.process pid) new extra
    range.0 range.1 (focus (handled w.moves) w.process w.numbers_drawn w.closed w.streams w.sends [] pid stands) shift)

-- NO STREAM MOVES

still_placed : (w after : World) → Still w after → books_of after ≡ books_of w → Places w after
still_placed w after still books order stands = (
  (posting_kept.calm.still w after still books order).order,
  told_otherwise (handled w.moves) (handled after.moves) after.process after.process w.numbers_drawn after.numbers_drawn w.closed after.closed w.streams after.streams
      w.sends after.sends
      (ap (λ (b : Books). handled b.moves) (sym books)) refl (ap (λ (r : Rest). r.numbers) (sym still.rest)) (ap (λ (b : Books). b.closed) (sym books))
      (ap (λ (b : Books). b.streams) (sym books)) (ap (λ (b : Books). b.sends) (sym books))
      (same_holds (handled w.moves) w.process after.process w.numbers_drawn w.closed w.streams w.sends [] stands (λ q. ap (λ (p : Process). hold_of p) (still.process q))),
)

-- a change that moves no stream leaves what the process holds
quiet_hold : (change : Change) (p : Process) → is_quiet change ≡ true → hold_of (changed change p) ≡ hold_of p
quiet_hold (Takes worker) p quiet = refl
quiet_hold (Arrives what) p quiet = refl
quiet_hold (Turns give) p quiet = false_is_true quiet
quiet_hold Returns p quiet = refl
quiet_hold (Answers request reply) p quiet = refl
quiet_hold (Pends request) p quiet = refl
quiet_hold (Waits request deadline) p quiet = refl
quiet_hold (Posts item) p quiet = false_is_true quiet
quiet_hold (Picks tags) p quiet = false_is_true quiet
quiet_hold (Settles SentOff) p quiet = false_is_true quiet
quiet_hold (Settles (Delivered item)) p quiet = false_is_true quiet
quiet_hold (Settles (StreamOpened handle)) p quiet = false_is_true quiet
quiet_hold (Settles ListenerBound) p quiet = refl
quiet_hold (Minds dies) p quiet = refl
quiet_hold (Dooms worker end) p quiet = false_is_true quiet
quiet_hold (Finishes end) p quiet = false_is_true quiet
quiet_hold (Begins start) p quiet = false_is_true quiet

one_placed : (w after : World) (pid : ℕ) (change : Change) → One w after pid change → is_quiet change ≡ true → books_of after ≡ books_of w → Places w after
one_placed w after pid change one quiet books order stands = (
  (posting_kept.calm.one w after pid change one quiet books order).order,
  told_otherwise (handled w.moves) (handled after.moves) after.process after.process w.numbers_drawn after.numbers_drawn w.closed after.closed w.streams after.streams
      w.sends after.sends
      (ap (λ (b : Books). handled b.moves) (sym books)) refl (ap (λ (r : Rest). r.numbers) (sym one.rest)) (ap (λ (b : Books). b.closed) (sym books))
      (ap (λ (b : Books). b.streams) (sym books)) (ap (λ (b : Books). b.sends) (sym books))
      (same_holds (handled w.moves) w.process after.process w.numbers_drawn w.closed w.streams w.sends [] stands
      (λ q. ap (λ (p : Process). hold_of p) (one.process q)
      ∙ put_field (λ (p : Process). hold_of p) w pid (changed change (w.process pid)) (quiet_hold change (w.process pid) quiet) q)),
)

waits_placed : (w : World) (pid : ℕ) (request : Request) (deadline : Option ℕ) → (w.process pid).stage ≡ Ready → Places w (waiting w pid request deadline)
waits_placed w pid request deadline there order stands = (
  (posting_kept.waits w pid request deadline there order).order,
  same_holds (handled w.moves) w.process (waiting w pid request deadline).process w.numbers_drawn w.closed w.streams w.sends [] stands
      (put_field (λ (p : Process). hold_of p) w pid (record (w.process pid) { stage = Waiting request; deadline = deadline }) refl),
)

signals_placed : (w : World) (to tag : ℕ) → is_live (w.process to).stage ≡ true → Places w (posted w to (Signal tag))
signals_placed w to tag live order stands =
    let range : InRange w to = in_range w to order (live_there (w.process to).stage live) in
    let old : Process = w.process to in
    let new : Process = record old { mail = old.mail ++ Signal tag ∷ [] } in
    let near : Standing (handled w.moves) (put w.process to old) w.numbers_drawn w.closed w.streams w.sends [] =
    focus (handled w.moves) w.process w.numbers_drawn w.closed w.streams w.sends [] to stands in (
      (posting_kept.signals w to tag live order).order,
      same_closed (handled w.moves) (put w.process to new) w.numbers_drawn (w.closed ++ []) w.closed w.streams w.sends []
          (shifted (handled w.moves) (handled w.moves) w.process w.numbers_drawn w.closed w.streams w.streams w.sends w.sends [] [] to old new [] range.0 range.1 near
          (shift_signal (handled w.moves) w.process w.numbers_drawn w.closed w.streams w.sends [] to old near tag))
          (append-nil w.closed),
    )

-- A TURN

asked_hold : (asked : Option Request) (part : Part) (box : List MailItem)
    → part_hold (option_map_or (λ (r : Request). charged r part) asked part) box ≡ part_hold part box
asked_hold None part box = refl
asked_hold (Some request) part box = refl

turns_placed : (w : World) (give : Given) (moves : List Move) (closings : List ℕ) → TurnStands (w.process give.pid) give
    → moves ≡ moves_of give.pid (w.process give.pid).start (w.process give.pid).part give.calls
    → closings ≡ closings_of (w.process give.pid).start (w.process give.pid).part give.calls
    → Places w (with_closed (with_moves (with_process w give.pid (turned (w.process give.pid) give)) moves) closings)
turns_placed w give moves closings may same closes order stands =
    let pid : ℕ = give.pid in
    let p : Process = w.process pid in
    let made : List Move = moves_of pid p.start p.part give.calls in
    let shut : List ℕ = closings_of p.start p.part give.calls in
    let part : Part = part_after p.start p.part give.calls in
    let range : InRange w pid = in_range w pid order (away_there p.stage may.away) in
    let after : Standing (handled_after (handled w.moves) made) (put w.process pid (record p { part = part })) w.numbers_drawn (w.closed ++ shut) w.streams w.sends [] =
    calls_stand w.process w.numbers_drawn w.streams w.sends pid p range.0 range.1 (handled w.moves) w.closed p.start p.part give.calls may.local
    (focus (handled w.moves) w.process w.numbers_drawn w.closed w.streams w.sends [] pid stands) in
    let whole : Standing (handled_after (handled w.moves) made) (put w.process pid (turned p give)) w.numbers_drawn (w.closed ++ shut) w.streams w.sends [] =
    same_put (handled_after (handled w.moves) made) w.process w.numbers_drawn (w.closed ++ shut) w.streams w.sends [] pid (record p { part = part }) (turned p give) after
    (asked_hold (asked_in give.halt) part p.mail) in (
      (posting_kept.turns w give moves closings may same closes order).order,
      told_otherwise (handled_after (handled w.moves) made) (handled (w.moves ++ moves)) (put w.process pid (turned p give)) (put w.process pid (turned p give))
          w.numbers_drawn w.numbers_drawn (w.closed ++ shut) (w.closed ++ closings) w.streams w.streams w.sends w.sends
          (handled_more w.moves made ∙ ap (λ (ms : List Move). handled (w.moves ++ ms)) (sym same)) refl refl (ap (λ (xs : List ℕ). w.closed ++ xs) (sym closes)) refl refl whole,
    )

-- OPENED

opens_placed : (w : World) (pid : ℕ) → is_home (w.process pid).stage ≡ true
    → Places w (with_moves (with_part (stream_drawn w) pid (settled (w.process pid).part (StreamOpened w.streams))) (Opened w.streams pid ∷ []))
opens_placed w pid there order stands =
    let range : InRange w pid = in_range w pid order (live_there (w.process pid).stage (home_live (w.process pid).stage there)) in
    let new : Process = record (w.process pid) { part = settled (w.process pid).part (StreamOpened w.streams) } in (
      (posting_kept.opens w pid there order).order,
      same_closed (handled (w.moves ++ Opened w.streams pid ∷ [])) (put w.process pid new) w.numbers_drawn (w.closed ++ []) w.closed (w.streams + 1) w.sends []
          (one_moves w pid new (Opened w.streams pid) [] (w.streams + 1) w.sends range stands
          (shift_opened (handled w.moves) w.process w.numbers_drawn w.closed w.streams w.sends pid (w.process pid)
          (focus (handled w.moves) w.process w.numbers_drawn w.closed w.streams w.sends [] pid stands)))
          (append-nil w.closed),
    )

shuts_placed : (w : World) (pid : ℕ) → Places w (opened_and_shut w pid)
shuts_placed w pid order stands = (
  (posting_kept.shuts w pid order).order,
  subst (λ (h : Handled). Standing h w.process w.numbers_drawn (w.closed ++ w.streams ∷ []) (w.streams + 1) w.sends [])
      (handled_more w.moves (Opened w.streams pid ∷ Shut w.streams ∷ []))
      (opened_shut (handled w.moves) w.process w.numbers_drawn w.closed w.streams w.sends stands pid),
)

-- ENDS

ends_placed : (w : World) (pid : ℕ) (end : End) → can_end (w.process pid).stage ≡ true → Places w (ended w pid end)
ends_placed w pid end can order stands = (
  (whole_kept.ends w pid end can order).order,
  one_moves w pid (stripped (w.process pid) end) (ShutAll pid) (held_handles (w.process pid)) w.streams w.sends
      (in_range w pid order (ends_there (w.process pid).stage can)) stands
      (shift_ended (handled w.moves) w.process w.numbers_drawn w.closed w.streams w.sends pid (w.process pid)
      (focus (handled w.moves) w.process w.numbers_drawn w.closed w.streams w.sends [] pid stands)),
)

dooms_placed : (w : World) (pid worker : ℕ) (end : End) → (w.process pid).stage ≡ Out worker → Places w (doomed w pid worker end)
dooms_placed w pid worker end at order stands = (
  (whole_kept.dooms w pid worker end at order).order,
  one_moves w pid (fated (w.process pid) worker end) (ShutMail pid) (mail_handles (w.process pid).mail) w.streams w.sends
      (in_range w pid order (ap (λ (s : Stage). is_there s) at)) stands
      (shift_doomed (handled w.moves) w.process w.numbers_drawn w.closed w.streams w.sends pid (w.process pid)
      (focus (handled w.moves) w.process w.numbers_drawn w.closed w.streams w.sends [] pid stands)),
)

-- SENT

replied_hold_at : (w : World) (pid : ℕ) (request : Request) (reply : Reply) (what : What) (b : Bool) (q : ℕ)
    → hold_of ((if b then with_arrival (with_process w pid (readied (w.process pid) request reply)) pid what else w).process q) ≡ hold_of (w.process q)
replied_hold_at w pid request reply what true q =
    let mid : World = with_process w pid (readied (w.process pid) request reply) in
    put_field (λ (p : Process). hold_of p) mid pid (reached (mid.process pid) what) refl q
    ∙ put_field (λ (p : Process). hold_of p) w pid (readied (w.process pid) request reply) refl q
replied_hold_at w pid request reply what false q = refl

replied_hold : (w : World) (pid : ℕ) (request : Request) (reply : Reply) (q : ℕ) → hold_of ((replied w pid request reply).process q) ≡ hold_of (w.process q)
replied_hold w pid request reply q = replied_hold_at w pid request reply (Came.Answered reply) (is_home (w.process pid).stage) q

replied_books_at : (w : World) (pid : ℕ) (request : Request) (reply : Reply) (what : What) (b : Bool)
    → let after : World = if b then with_arrival (with_process w pid (readied (w.process pid) request reply)) pid what else w in
    (books_of after ≡ books_of w) × (after.numbers_drawn ≡ w.numbers_drawn)
replied_books_at w pid request reply what true = (refl, refl)
replied_books_at w pid request reply what false = (refl, refl)

pub replied_books : (w : World) (pid : ℕ) (request : Request) (reply : Reply)
    → (books_of (replied w pid request reply) ≡ books_of w) × ((replied w pid request reply).numbers_drawn ≡ w.numbers_drawn)
replied_books w pid request reply = replied_books_at w pid request reply (Came.Answered reply) (is_home (w.process pid).stage)

module _ (w : World) (pid to : ℕ) (request : Request) (scratch : Scratch) (at : (w.process pid).part.scratch ≡ Some scratch)
    (live : is_live (w.process to).stage ≡ true) (there : is_there (w.process pid).stage ≡ true) (order : AreInOrder w) (stands : Stands w) where
  sent_stands : Standing (handled (w.moves ++ Sent pid to w.sends ∷ [])) (sent_off w pid to).process w.numbers_drawn (w.closed ++ []) w.streams (w.sends + 1)
      (handles_in (slots_of (w.process pid).part.scratch))
  sent_stands =
      let range : InRange w pid = in_range w pid order there in
      let new : Process = record (w.process pid) { part = settled (w.process pid).part SentOff } in
      let near : Standing (handled w.moves) (put w.process pid (w.process pid)) w.numbers_drawn w.closed w.streams w.sends [] =
      focus (handled w.moves) w.process w.numbers_drawn w.closed w.streams w.sends [] pid stands in
      subst (λ (h : Handled). Standing h (put w.process pid new) w.numbers_drawn (w.closed ++ []) w.streams (w.sends + 1) (handles_in (slots_of (w.process pid).part.scratch)))
      (handled_more w.moves (Sent pid to w.sends ∷ []))
      (shifted (handled w.moves) (after_one (handled w.moves) (Sent pid to w.sends)) w.process w.numbers_drawn w.closed w.streams w.streams w.sends (w.sends + 1) []
      (handles_in (slots_of (w.process pid).part.scratch)) pid (w.process pid) new [] range.0 range.1 near
      (shift_sent (handled w.moves) w.process w.numbers_drawn w.closed w.streams w.sends pid (w.process pid) near to))

  sent_flies : (slot k : ℕ) → handle_at scratch.message.slots slot ≡ Some k → (handled (w.moves ++ Sent pid to w.sends ∷ [])).owner k ≡ Some (Mail to w.sends slot)
  sent_flies slot k here =
      subst (λ (h : Handled). h.owner k ≡ Some (Mail to w.sends slot)) (handled_more w.moves (Sent pid to w.sends ∷ []))
      (sent_to (handled w.moves) w.process w.numbers_drawn w.closed w.streams w.sends pid (w.process pid)
      (focus (handled w.moves) w.process w.numbers_drawn w.closed w.streams w.sends [] pid stands) to slot k
      (ap (λ (o : Option Scratch). handle_at (slots_of o) slot) at ∙ here))

  told_mail : ((replied (sent_off w pid to) pid request (number_reply 0)).process to).mail ≡ (w.process to).mail
  told_mail =
      ap (λ (x : Hold). x.box) (replied_hold (sent_off w pid to) pid request (number_reply 0) to)
      ∙ put_field (λ (p : Process). p.mail) w pid (record (w.process pid) { part = settled (w.process pid).part SentOff }) refl to

  pub sends_stand : Stands (posted (replied (sent_off w pid to) pid request (number_reply 0)) to (Letter w.sends scratch.message))
  sends_stand =
      let after : World = replied (sent_off w pid to) pid request (number_reply 0) in
      let g : Handled = handled (w.moves ++ Sent pid to w.sends ∷ []) in
      let flight : List ℕ = handles_in (slots_of (w.process pid).part.scratch) in
      let letter : MailItem = Letter w.sends scratch.message in
      let old : Process = after.process to in
      let new : Process = record old { mail = old.mail ++ letter ∷ [] } in
      let range : InRange w to = in_range w to order (live_there (w.process to).stage live) in
      let flies : Standing g after.process w.numbers_drawn (w.closed ++ []) w.streams (w.sends + 1) flight =
      same_holds g (sent_off w pid to).process after.process w.numbers_drawn (w.closed ++ []) w.streams (w.sends + 1) flight sent_stands
      (λ q. replied_hold (sent_off w pid to) pid request (number_reply 0) q) in
      let near : Standing g (put after.process to old) w.numbers_drawn (w.closed ++ []) w.streams (w.sends + 1) flight =
      focus g after.process w.numbers_drawn (w.closed ++ []) w.streams (w.sends + 1) flight to flies in
      let lies : Standing g (put after.process to new) w.numbers_drawn (w.closed ++ [] ++ []) w.streams (w.sends + 1) [] =
      shifted g g after.process w.numbers_drawn (w.closed ++ []) w.streams w.streams (w.sends + 1) (w.sends + 1) flight [] to old new [] range.0 range.1 near
      (shift_posted g after.process w.numbers_drawn (w.closed ++ []) w.streams (w.sends + 1) flight to old near w.sends scratch.message
      (ap (λ (o : Option Scratch). handles_in (slots_of o)) at) sent_flies
      (λ n here. (stands.each to).sent n (sym (ap (λ (m : List MailItem). is_among (letter_numbers m) n) told_mail) ∙ here)) (last w.sends)) in
      let books = replied_books (sent_off w pid to) pid request (number_reply 0) in
      told_otherwise g (handled after.moves) (put after.process to new) (put after.process to new) w.numbers_drawn after.numbers_drawn (w.closed ++ [] ++ []) after.closed
      w.streams after.streams (w.sends + 1) after.sends
      (ap (λ (b : Books). handled b.moves) (sym books.0)) refl (sym books.1)
      (append-nil (w.closed ++ []) ∙ append-nil w.closed ∙ ap (λ (b : Books). b.closed) (sym books.0))
      (ap (λ (b : Books). b.streams) (sym books.0)) (ap (λ (b : Books). b.sends) (sym books.0)) lies
    where
      last : (n : ℕ) → n < n + 1
      last n = omega arith

sends_placed : (w : World) (pid to : ℕ) (request : Request) (scratch : Scratch) → (w.process pid).stage ≡ Ready
    → (w.process pid).part.scratch ≡ Some scratch → PostStands (w.process to) (Letter w.sends scratch.message)
    → Places w (posted (replied (sent_off w pid to) pid request (number_reply 0)) to (Letter w.sends scratch.message))
sends_placed w pid to request scratch there at may order stands = (
  (posting_kept.sends w pid to request scratch there at may order).order,
  sends_stand w pid to request scratch at may.live (ap (λ (s : Stage). is_there s) there) order stands,
)

-- DELIVERED

twice_put : (process : ℕ → Process) (pid : ℕ) (p : Process) (f : Process → Process) (q : ℕ)
    → put (put process pid p) pid (f (put process pid p pid)) q ≡ put process pid (f p) q
twice_put process pid p f q = by (nat_eq q pid)
  where
    by : (b : Bool) → (if b then f (put process pid p pid) else (if b then p else process q)) ≡ (if b then f p else process q)
    by true = ap f (put_here process pid p)
    by false = refl

module _ (w : World) (pid : ℕ) (tags : List ℕ) (there : is_there (w.process pid).stage ≡ true) (order : AreInOrder w) (stands : Stands w) where
  picked_stands : (item : MailItem) → pick tags (w.process pid).mail ≡ Some item
      → Standing (handled w.moves) (put w.process pid (record (w.process pid) { mail = unpicked tags (w.process pid).mail })) w.numbers_drawn (w.closed ++ []) w.streams w.sends
      (item_handles item)
  picked_stands item found =
      let range : InRange w pid = in_range w pid order there in
      let near : Standing (handled w.moves) (put w.process pid (w.process pid)) w.numbers_drawn w.closed w.streams w.sends [] =
      focus (handled w.moves) w.process w.numbers_drawn w.closed w.streams w.sends [] pid stands in
      shifted (handled w.moves) (handled w.moves) w.process w.numbers_drawn w.closed w.streams w.streams w.sends w.sends [] (item_handles item) pid (w.process pid)
      (record (w.process pid) { mail = unpicked tags (w.process pid).mail }) [] range.0 range.1 near
      (shift_picked (handled w.moves) w.process w.numbers_drawn w.closed w.streams w.sends pid (w.process pid) near tags item found)

  -- the old scratch message's streams are shut; `new` holds the table and the mailbox, and no slots
  emptied_stands : (item : MailItem) → pick tags (w.process pid).mail ≡ Some item → (new : Process)
      → hold_of new ≡ record { handles = (w.process pid).part.handles; slots = []; box = unpicked tags (w.process pid).mail }
      → Standing (after_one (handled w.moves) (ShutScratch pid)) (put w.process pid new) w.numbers_drawn (w.closed ++ [] ++ scratch_handles (w.process pid).part) w.streams w.sends
      (item_handles item)
  emptied_stands item found new same =
      let range : InRange w pid = in_range w pid order there in
      let p : Process = record (w.process pid) { mail = unpicked tags (w.process pid).mail } in
      shifted (handled w.moves) (after_one (handled w.moves) (ShutScratch pid)) w.process w.numbers_drawn (w.closed ++ []) w.streams w.streams w.sends w.sends
      (item_handles item) (item_handles item) pid p new (scratch_handles (w.process pid).part) range.0 range.1 (picked_stands item found)
      (subst (λ (x : Hold). Shift (handled w.moves) (after_one (handled w.moves) (ShutScratch pid)) pid (hold_of p) x (scratch_handles (w.process pid).part)
      w.streams w.streams w.sends w.sends (item_handles item) (item_handles item)) (sym same)
      (shift_scratch (handled w.moves) w.process w.numbers_drawn (w.closed ++ []) w.streams w.sends (item_handles item) pid p (picked_stands item found)))

  -- the item is in the scratch area
  item_stands : (item : MailItem) → pick tags (w.process pid).mail ≡ Some item
      → Standing (handled_after (handled w.moves) (delivery_moves pid item))
      (put w.process pid (record (w.process pid) { mail = unpicked tags (w.process pid).mail; part = settled (w.process pid).part (Delivered item) })) w.numbers_drawn
      (w.closed ++ [] ++ scratch_handles (w.process pid).part) w.streams w.sends []
  item_stands (Signal tag) found =
      emptied_stands (Signal tag) found
      (record (w.process pid) { mail = unpicked tags (w.process pid).mail; part = settled (w.process pid).part (Delivered (Signal tag)) }) refl
  item_stands (Letter number message) found =
      let range : InRange w pid = in_range w pid order there in
      let bare : Process = record (w.process pid) { mail = unpicked tags (w.process pid).mail; part = settled (w.process pid).part SentOff } in
      let new : Process = record (w.process pid) { mail = unpicked tags (w.process pid).mail; part = settled (w.process pid).part (Delivered (Letter number message)) } in
      let h : Handled = after_one (handled w.moves) (ShutScratch pid) in
      let shut : List ℕ = w.closed ++ [] ++ scratch_handles (w.process pid).part in
      let near : Standing h (put w.process pid bare) w.numbers_drawn shut w.streams w.sends (handles_in message.slots) =
      emptied_stands (Letter number message) found bare refl in
      same_closed (after_one h (Received pid number)) (put w.process pid new) w.numbers_drawn (shut ++ []) shut w.streams w.sends []
      (shifted h (after_one h (Received pid number)) w.process w.numbers_drawn shut w.streams w.streams w.sends w.sends (handles_in message.slots) [] pid bare new []
      range.0 range.1 near
      (shift_received h w.process w.numbers_drawn shut w.streams w.sends (handles_in message.slots) pid bare near number message refl refl
      (λ slot k here. flies number message found slot k here)
      (λ n here. picked_other tags (w.process pid).mail number message n found (stands.each pid).letters here)))
      (append-nil shut)
    where
      flies : (number : ℕ) (message : Message) → pick tags (w.process pid).mail ≡ Some (Letter number message) → (slot k : ℕ) → handle_at message.slots slot ≡ Some k
          → (after_one (handled w.moves) (ShutScratch pid)).owner k ≡ Some (Mail pid number slot)
      flies number message found slot k here =
          map_at (after_move (ShutScratch pid) k) ((handled w.moves).owner k) (Mail pid number slot)
          ((stands.each pid).mail k number slot (picked_lies tags (w.process pid).mail number message slot k found here))

  pub delivers_stand : (item : MailItem) → pick tags (w.process pid).mail ≡ Some item
      → Stands (held (with_process w pid (record (w.process pid) { mail = unpicked tags (w.process pid).mail })) pid item)
  delivers_stand item found =
      let p : Process = record (w.process pid) { mail = unpicked tags (w.process pid).mail } in
      let mid : World = with_process w pid p in
      let new : Process = record p { part = settled p.part (Delivered item) } in
      told_otherwise (handled_after (handled w.moves) (delivery_moves pid item)) (handled (w.moves ++ delivery_moves pid item)) (put w.process pid new) (held mid pid item).process
      w.numbers_drawn w.numbers_drawn (w.closed ++ [] ++ scratch_handles (w.process pid).part) (w.closed ++ scratch_handles (mid.process pid).part) w.streams w.streams
      w.sends w.sends
      (handled_more w.moves (delivery_moves pid item))
      (each_same (put w.process pid new) (held mid pid item).process
      (λ q. sym (twice_put w.process pid p (λ r. record r { part = settled r.part (Delivered item) }) q)))
      refl
      (ap (λ (xs : List ℕ). xs ++ scratch_handles (w.process pid).part) (append-nil w.closed)
      ∙ ap (λ (r : Process). w.closed ++ scratch_handles r.part) (sym (put_here w.process pid p)))
      refl refl (item_stands item found)

delivers_placed : (w : World) (pid : ℕ) (tags : List ℕ) (item : MailItem) → is_home (w.process pid).stage ≡ true
    → pick tags (w.process pid).mail ≡ Some item
    → Places w (held (with_process w pid (record (w.process pid) { mail = unpicked tags (w.process pid).mail })) pid item)
delivers_placed w pid tags item there found order stands = (
  (posting_kept.delivers w pid tags item there found order).order,
  delivers_stand w pid tags (live_there (w.process pid).stage (home_live (w.process pid).stage there)) order stands item found,
)

-- EACH STEP

posting_placed : Posting Places
posting_placed = record {
  calm = record {
    self = λ w order stands. (order, stands);
    next = λ a b c first second order stands. let mid = first order stands in second mid.0 mid.1;
    still = still_placed;
    one = one_placed;
  };
  waits = waits_placed;
  signals = signals_placed;
  turns = turns_placed;
  opens = opens_placed;
  shuts = shuts_placed;
  sends = sends_placed;
  delivers = delivers_placed;
}

pub whole_placed : Whole Places
whole_placed = record {
  mild = steps Places posting_placed;
  ends = ends_placed;
  dooms = dooms_placed;
  overs = λ w nobody order stands. ((whole_kept.overs w nobody order).order, stands);
  linked = λ w a b tag first second order stands. ((whole_kept.linked w a b tag first second order).order, stands);
  unlinked = λ w a b order stands. ((whole_kept.unlinked w a b order).order, stands);
  named = λ w name pid live order stands. ((whole_kept.named w name pid live order).order, stands);
  nameless = λ w name order stands. ((whole_kept.nameless w name order).order, stands);
  begins = λ w parent start live number order stands. (
    (whole_kept.begins w parent start live number order).order,
    begun (handled w.moves) w.process w.numbers_drawn w.closed w.streams w.sends stands start,
  );
}
