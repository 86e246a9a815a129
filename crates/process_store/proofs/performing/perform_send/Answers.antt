use Rattle.std.proofs.Common.{rules, ◌≡◌, [], None, Some, arith, refl, sym, ◌∙◌, ap, subst, false, inl, inr}
use Rattle.node_state.specs.Posts.{code_of}
use Rattle.node_state.specs.Seats.{meaning}
use Rattle.node_mirror.specs.Steps.{home}
use Rattle.world_rules.specs.Answers.{number_reply}
use Rattle.world_rules.specs.Calls.{arg}
use Rattle.world_rules.specs.Calls as CallIs
use Rattle.world_rules.specs.Mail.{Letter}
use Rattle.process_store.specs.Holds.{Becomes, held_of, item_of, item_streams, kept_of, place_at}
use Rattle.process_store.specs.Telling.{HasScratch, MayBeTold}
use Rattle.process_store.proofs.Performed.{beside_answer, beside_both, beside_post, beside_send, has_scratch, may_tell_number, numbers_stay, performing_at, request_is}
use Rattle.process_store.proofs.PerformedCalls.{code_told, told_refusal}
use Rattle.process_store.proofs.PerformedSends.{count_stays, passes_kept, passes_sent, place_stays, same_tag, sent_held, sent_performs, still_live, still_waits, unsent_performs}
use Rattle.process_store.proofs.performing.perform_send.Goals as goal

pub tag_in_hand-tag-requires : goal.tag_in_hand-tag-requires
tag_in_hand-tag-requires g c =
    let has = has_scratch g.E.Engine.phase g.E.Engine.memory (place_at c.args.store.now c.args.pid) c.args.request.now c.requires.performs c.requires.call in
    search (rules, has)

pub send_off-item-requires-clause-giving : goal.send_off-item-requires-clause-giving
send_off-item-requires-clause-giving g c κs within =
    subst (λ h. MayBeTold g.E.Engine.phase g.E.Engine.memory (h.slots c.args.pid) (number_reply 0)) (sym c.in-Put.ensures.held)
    (may_tell_number g.E.Engine.phase g.E.Engine.memory (place_at c.args.store.now c.args.pid) c.args.request.now (Some CallIs.Send) 0 c.requires.performs c.requires.call (0, omega arith, refl))

pub arrive-requires-clause-live : goal.arrive-requires-clause-live
arrive-requires-clause-live g c κs within =
    let engines = meaning g.E.Engine.stands g.E.Engine.phase g.E.Engine.memory in
    let old = c.args.store.now in
    let mid = c.prepare_post.new.self in
    let pid = c.args.pid in
    let request = c.args.request.now in
    let p = performing_at g.E.Engine.phase g.E.Engine.memory (place_at old pid) request c.requires.performs in
    let o = c.in-Put.ensures in
    let off = c.send_off-item.new.self in
    let e = c.send_off-item.ensures in
    let at = ap (λ h. h.slots pid) o.held ∙ p.2 in
    let told = e.held p.0 p.1 at in
    let becomes = subst (λ h. Becomes off (sent_held h pid p.0 told.0)) o.held told.2 in
    still_live engines old off pid p.0 p.1 told.0 p.2 becomes (arg request 0) o.post.0

pub arrive-requires-clause-waits : goal.arrive-requires-clause-waits
arrive-requires-clause-waits g c κs within =
    let engines = meaning g.E.Engine.stands g.E.Engine.phase g.E.Engine.memory in
    let old = c.args.store.now in
    let mid = c.prepare_post.new.self in
    let pid = c.args.pid in
    let request = c.args.request.now in
    let p = performing_at g.E.Engine.phase g.E.Engine.memory (place_at old pid) request c.requires.performs in
    let o = c.in-Put.ensures in
    let off = c.send_off-item.new.self in
    let e = c.send_off-item.ensures in
    let at = ap (λ h. h.slots pid) o.held ∙ p.2 in
    let told = e.held p.0 p.1 at in
    let becomes = subst (λ h. Becomes off (sent_held h pid p.0 told.0)) o.held told.2 in
    still_waits engines old off pid p.0 p.1 told.0 p.2 becomes g.E.Engine.phase g.E.Engine.memory c.requires.others (arg request 0)

pub arrive-requires-clause-counted : goal.arrive-requires-clause-counted
arrive-requires-clause-counted g c κs within =
    λ message. count_stays c.args.store.now c.prepare_post.new.self c.send_off-item.new.self (arg c.args.request.now 0) c.in-Put.ensures.held c.send_off-item.ensures.mail c.in-Put.ensures.post.1

pub arrive-requires-clause-place : goal.arrive-requires-clause-place
arrive-requires-clause-place g c κs within =
    let engines = meaning g.E.Engine.stands g.E.Engine.phase g.E.Engine.memory in
    let old = c.args.store.now in
    let mid = c.prepare_post.new.self in
    let pid = c.args.pid in
    let request = c.args.request.now in
    let p = performing_at g.E.Engine.phase g.E.Engine.memory (place_at old pid) request c.requires.performs in
    let o = c.in-Put.ensures in
    let off = c.send_off-item.new.self in
    let e = c.send_off-item.ensures in
    let at = ap (λ h. h.slots pid) o.held ∙ p.2 in
    let told = e.held p.0 p.1 at in
    let becomes = subst (λ h. Becomes off (sent_held h pid p.0 told.0)) o.held told.2 in
    let sent = e.item p.0 p.1 at in
    let hand = c.tag_in_hand-tag.ensures p.0 p.1 p.2 in
    place_stays mid off (arg request 0) c.tag_in_hand-tag.result _ e.links e.mail (same_tag p.0.part.scratch hand.0 sent.0 _ mid.sends c.tag_in_hand-tag.result hand.1 hand.2 sent.1 sent.2) (o.place refl)

pub answer-requires-clause-giving : goal.answer-requires-clause-giving
answer-requires-clause-giving g c κs within =
    rw (c.number_reply.ensures, c.post_code-code.ensures) (subst (λ h. MayBeTold g.E.Engine.phase g.E.Engine.memory (h.slots c.args.pid) (number_reply (code_of c.prepare_post.result))) (sym c.prepare_post.ensures.held)
    (may_tell_number g.E.Engine.phase g.E.Engine.memory (place_at c.args.store.now c.args.pid) c.args.request.now (Some CallIs.Send) (code_of c.prepare_post.result) c.requires.performs c.requires.call (code_told c.prepare_post.result)))

pub returns-in-Put-clause-performs : goal.returns-in-Put-clause-performs
returns-in-Put-clause-performs g c =
    let engines = meaning g.E.Engine.stands g.E.Engine.phase g.E.Engine.memory in
    let old = c.args.store.now in
    let mid = c.prepare_post.new.self in
    let pid = c.args.pid in
    let request = c.args.request.now in
    let p = performing_at g.E.Engine.phase g.E.Engine.memory (place_at old pid) request c.requires.performs in
    let o = c.in-Put.ensures in
    let off = c.send_off-item.new.self in
    let e = c.send_off-item.ensures in
    let at = ap (λ h. h.slots pid) o.held ∙ p.2 in
    let told = e.held p.0 p.1 at in
    let becomes = subst (λ h. Becomes off (sent_held h pid p.0 told.0)) o.held told.2 in
    let new = c.arrive.new.self in
    let a = c.arrive.ensures in
    let sent = e.item p.0 p.1 at in
    let long = numbers_stay mid off (sent_held (held_of mid) pid p.0 told.0) o.keeps e.keeps told.2 refl in
    sent_performs engines old off pid p.0 p.1 told.0 p.2 becomes new request sent.0 _ (request_is g.E.Engine.phase g.E.Engine.memory p.0 p.1 request p.3) c.requires.call o.post told.1 sent.1
    (sent.2 ∙ ap (λ n. Letter n sent.0.message) (ap (λ h. h.sends) o.held)) a.mirrors a.gives_stay a.stay_gone
    (beside_both old mid new (beside_post old mid o.same) (beside_both mid off new (beside_send mid off e.same long) a.beside))
    (a.giver ∙ e.giver ∙ ap (λ s. s.giver) o.same ∙ c.requires.giver)

pub returns-in-Put-clause-streams : goal.returns-in-Put-clause-streams
returns-in-Put-clause-streams g c =
    passes_sent _ c.args.store.now c.prepare_post.new.self c.send_off-item.new.self c.arrive.new.self c.args.pid (item_streams c.send_off-item.result) c.in-Put.ensures.kept
    c.send_off-item.ensures.streams c.arrive.ensures.streams c.send_off-item.ensures.from

pub returns-in_default-clause-performs : goal.returns-in_default-clause-performs
returns-in_default-clause-performs g c =
    let engines = meaning g.E.Engine.stands g.E.Engine.phase g.E.Engine.memory in
    let old = c.args.store.now in
    let mid = c.prepare_post.new.self in
    let pid = c.args.pid in
    let request = c.args.request.now in
    let p = performing_at g.E.Engine.phase g.E.Engine.memory (place_at old pid) request c.requires.performs in
    let o = c.prepare_post.ensures in
    let new = c.answer.new.self in
    let e = c.answer.ensures in
    let at = ap (λ h. h.slots pid) o.held ∙ p.2 in
    let told = rw (c.number_reply.ensures, c.post_code-code.ensures) at (e.held p.0 p.1 at) in
    let becomes = subst (λ h. Becomes new (home h pid (record p.0 { engine = told.0 }))) o.held told.2 in
    let long = numbers_stay mid new (home (held_of mid) pid (record p.0 { engine = told.0 })) o.keeps e.keeps told.2 refl in
    unsent_performs engines old new pid p.0 p.1 told.0 request c.prepare_post.result _ p.2 becomes (request_is g.E.Engine.phase g.E.Engine.memory p.0 p.1 request p.3) c.requires.call o.post
    c.in_default.not-Put (told_refusal c.post_code-code.result c.prepare_post.result c.post_code-code.ensures) told.1
    (beside_both old mid new (beside_post old mid o.same) (beside_answer mid new e.same long))
    (e.giver ∙ ap (λ s. s.giver) o.same ∙ c.requires.giver)

pub returns-in_default-clause-streams : goal.returns-in_default-clause-streams
returns-in_default-clause-streams g c =
    passes_kept _ (kept_of c.args.store.now) (kept_of c.prepare_post.new.self) (kept_of c.answer.new.self) c.prepare_post.ensures.kept c.answer.ensures.streams
