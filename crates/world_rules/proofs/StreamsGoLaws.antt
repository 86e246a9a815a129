-- No entry takes a move or a closing back, and none but a process's own Give moves a stream that it has in hand while a worker has it.
use Rattle.std.specs.Prelude.{◌≡◌, ℕ, List, [], ◌∷◌, ◌++◌, Option, Some, Bool, true, false, ◌||◌, nat_eq, refl}
use Rattle.std.proofs.Common.{sym, ◌∙◌, ap, append-nil, append_assoc}
use Rattle.host_port.specs.declared.request.Request.{Request}
use Rattle.world_rules.specs.declared.entry.Entry.{Entry}
use Rattle.world_rules.specs.declared.life.Birth.{Birth}
use Rattle.world_rules.specs.Views.{deed_of}
use Rattle.world_rules.specs.Answers.{number_reply}
use Rattle.world_rules.specs.Part.{Part, is_among, slots_of, scratch_handles}
use Rattle.world_rules.specs.Mail.{unpicked, mail_handles}
use Rattle.world_rules.specs.Moves.{Place, Table, Scratch as InScratch, Mail, Closed, Move, Opened, Sent, Shut, ShutAll, ShutMail, handled}
use Rattle.world_rules.specs.Handles.{delivery_moves}
use Rattle.world_rules.specs.World.{World, Core, is_away, with_process}
use Rattle.world_rules.specs.Ends.{held_handles}
use Rattle.world_rules.specs.Rules.{next}
use Rattle.world_rules.specs.Receive.{sent_off}
use Rattle.world_rules.specs.Changes.{replied}
use Rattle.world_rules.specs.Births.{Terms}
use Rattle.world_rules.specs.Allowed.{Allowed}
use Rattle.world_rules.specs.Sound.{IsSound}
use Rattle.world_rules.specs.Placed.{slot_holds, is_found, is_in_hand, StreamsGo, IsPlaced}
use Rattle.world_rules.specs.laws.CarryLaws.{IsItsGive, carry}
use Rattle.world_rules.specs.laws.KeepingLaws.{false_is_true}
use Rattle.world_rules.proofs.Walk.{Books, books_of, Whole, Posting}
use Rattle.world_rules.proofs.MildWalk.{steps}
use Rattle.world_rules.proofs.WholeWalk.{deed_walk}
use Rattle.world_rules.proofs.Closing.{same_of}
use Rattle.world_rules.proofs.ReadyList.{front_ready}
use Rattle.world_rules.proofs.SoundLaws.{sound_fresh}
use Rattle.world_rules.proofs.PlacedWalk.{replied_books}
use Rattle.world_rules.proofs.PlacedLaws.{entry_placed}

-- NOTHING IS TAKEN BACK

-- by the same books nothing is added
same_books : (w after : World) → books_of after ≡ books_of w → StreamsGo w after
same_books w after books = record {
  moves = ([], ap (λ (b : Books). b.moves) books ∙ sym (append-nil w.moves));
  closed = ([], ap (λ (b : Books). b.closed) books ∙ sym (append-nil w.closed));
}

next_go : (a b c : World) → StreamsGo a b → StreamsGo b c → StreamsGo a c
next_go a b c first second = record {
  moves = (
    first.moves.0 ++ second.moves.0,
    second.moves.1 ∙ ap (λ (xs : List Move). xs ++ second.moves.0) first.moves.1 ∙ append_assoc a.moves first.moves.0 second.moves.0,
  );
  closed = (
    first.closed.0 ++ second.closed.0,
    second.closed.1 ∙ ap (λ (xs : List ℕ). xs ++ second.closed.0) first.closed.1 ∙ append_assoc a.closed first.closed.0 second.closed.0,
  );
}

sends_go : (w : World) (pid to : ℕ) (request : Request) (after : World) → books_of after ≡ books_of (replied (sent_off w pid to) pid request (number_reply 0))
    → StreamsGo w after
sends_go w pid to request after same =
    let books : books_of after ≡ books_of (sent_off w pid to) = same ∙ (replied_books (sent_off w pid to) pid request (number_reply 0)).0 in
    record {
      moves = (Sent pid to w.sends ∷ [], ap (λ (b : Books). b.moves) books);
      closed = ([], ap (λ (b : Books). b.closed) books ∙ sym (append-nil w.closed));
    }

posting_go : Posting StreamsGo
posting_go = record {
  calm = record {
    self = λ w. same_books w w refl;
    next = next_go;
    still = λ w after still books. same_books w after books;
    one = λ w after pid change one quiet books. same_books w after books;
  };
  waits = λ w pid request deadline there. same_books w _ refl;
  signals = λ w to tag live. same_books w _ refl;
  turns = λ w give moves closings stands same closes. record { moves = (moves, refl); closed = (closings, refl) };
  opens = λ w pid there. record { moves = (Opened w.streams pid ∷ [], refl); closed = ([], sym (append-nil w.closed)) };
  shuts = λ w pid. record { moves = (Opened w.streams pid ∷ Shut w.streams ∷ [], refl); closed = (w.streams ∷ [], refl) };
  sends = λ w pid to request scratch there at stands. sends_go w pid to request _ refl;
  delivers = λ w pid tags item there found. record {
    moves = (delivery_moves pid item, refl);
    closed = (scratch_handles ((with_process w pid (record (w.process pid) { mail = unpicked tags (w.process pid).mail })).process pid).part, refl);
  };
}

whole_go : Whole StreamsGo
whole_go = record {
  mild = steps StreamsGo posting_go;
  ends = λ w pid end can. record { moves = (ShutAll pid ∷ [], refl); closed = (held_handles (w.process pid), refl) };
  dooms = λ w pid worker end at. record { moves = (ShutMail pid ∷ [], refl); closed = (mail_handles (w.process pid).mail, refl) };
  overs = λ w nobody. same_books w _ refl;
  linked = λ w a b tag first second. same_books w _ refl;
  unlinked = λ w a b. same_books w _ refl;
  named = λ w name pid live. same_books w _ refl;
  nameless = λ w name. same_books w _ refl;
  begins = λ w parent start live number. same_books w _ refl;
}

pub entry_goes : (terms : Option Terms) (births : List Birth) (w : World) (entry : Entry) → IsSound w → Allowed terms births w entry → StreamsGo w (next births w entry)
entry_goes terms births w entry sound allowed =
    let go = deed_walk StreamsGo whole_go terms births w (deed_of entry) allowed (λ pid front. front_ready w pid sound.ready front) in
    record { moves = go.moves; closed = go.closed }

-- IN HAND

-- where a process has the same part, what it has in hand is found where it was
same_found : (w after : World) (pid handle : ℕ) (place : Place) → (after.process pid).part ≡ (w.process pid).part → is_in_hand pid place ≡ true
    → is_found w handle place ≡ true → is_found after handle place ≡ true
same_found w after pid handle (Table q) same hand there = by (nat_eq q pid) refl hand
  where
    by : (b : Bool) → nat_eq q pid ≡ b → (b || false) ≡ true → is_among (after.process q).part.handles handle ≡ true
    by true e hand =
        let here : q ≡ pid = same_of q pid e in
        ap (λ (n : ℕ). is_among (after.process n).part.handles handle) here ∙ ap (λ (p : Part). is_among p.handles handle) same
        ∙ ap (λ (n : ℕ). is_among (w.process n).part.handles handle) (sym here) ∙ there
    by false e hand = false_is_true hand
same_found w after pid handle (InScratch q slot) same hand there =
    let here : q ≡ pid = same_of q pid hand in
    ap (λ (n : ℕ). slot_holds handle (slots_of (after.process n).part.scratch) slot) here
    ∙ ap (λ (p : Part). slot_holds handle (slots_of p.scratch) slot) same
    ∙ ap (λ (n : ℕ). slot_holds handle (slots_of (w.process n).part.scratch) slot) (sym here) ∙ there
same_found w after pid handle (Mail q number slot) same hand there = false_is_true hand
same_found w after pid handle Closed same hand there = false_is_true hand

pub hand_stays : (terms : Option Terms) (births : List Birth) (w : World) (entry : Entry) (pid handle : ℕ) (place : Place) → IsSound w → IsPlaced w
    → Allowed terms births w entry → (IsItsGive pid (deed_of entry) → ⊥) → is_away (w.process pid).stage ≡ true → is_in_hand pid place ≡ true
    → (handled w.moves).owner handle ≡ Some place → (handled (next births w entry).moves).owner handle ≡ Some place
hand_stays terms births w entry pid handle place sound placed allowed other away hand at =
    let same = (carry births w entry pid (sound_fresh w sound) other away).0 in
    ((entry_placed terms births w entry sound placed allowed).found handle place).0
    (same_found w (next births w entry) pid handle place (ap (λ (c : Core). c.part) same) hand ((placed.found handle place).1 at))
