use Rattle.std.proofs.Common.{◌≡◌, ◌<◌, ℕ, length, None, Some, Option, refl, arith, sym, ◌∙◌, ap, subst, true, false, slice_get, get_or}
use Rattle.std.proofs.lemmas.Option.{slice_get_read}
use Rattle.std.specs.Vec.{with_item}
use Rattle.tagged_mailbox.specs.Mail.{reserved}
use Rattle.world_rules.specs.Mail.{message_count}
use Rattle.node_mirror.specs.Slots.{is_live_slot}
use Rattle.process_store.specs.Holds.{items_in, place_at, slot_in}
use Rattle.process_store.proofs.Sets.{IsSet, is_within}
use Rattle.process_store.proofs.Counting.{full-count, room-count}
use Rattle.process_store.proofs.Posting.{box_held, box_kept, box_keeps, box_has, place_more}
use Rattle.process_store.proofs.store.Store.prepare_post.Goals as goal

pub index_mut-requires : goal.index_mut-requires
index_mut-requires g c =
    let within = is_within (λ o. is_live_slot (slot_in o) ≡ true) c.args.self.now.places.items c.args.to (sym (rw c.deref.ensures.value at c.if-not-is_live.ensures)) (λ none. let h : ⊥ = cc in h) in
    let long = c.requires.keeps.mail in
    let l = c.args.self.now.mail.ok.0 in
    omega (arith, within, long, l)

pub returns-then-full-clause-post : goal.returns-then-full-clause-post
returns-then-full-clause-post g c =
    let within = is_within (λ o. is_live_slot (slot_in o) ≡ true) c.args.self.now.places.items c.args.to (sym (rw c.deref.ensures.value at c.if-not-is_live.ensures)) (λ none. let h : ⊥ = cc in h) in
    let long = c.requires.keeps.mail in
    let read = slice_get_read c.args.self.now.mail.items (length c.args.self.now.mail.items) c.args.to c.index.result.now refl (omega (arith, within, long)) c.index.ensures in
    let full = full-count c.index.result.now.items (sym c.if-full.ensures.full) in
    let same = ap (λ o. message_count (items_in o)) read in
    (sym (rw c.deref.ensures.value at c.if-not-is_live.ensures), omega (arith, full, same))

pub returns-then-self-clause-post : goal.returns-then-self-clause-post
returns-then-self-clause-post g c =
    let within = is_within (λ o. is_live_slot (slot_in o) ≡ true) c.args.self.now.places.items c.args.to (sym (rw c.deref.ensures.value at c.if-not-is_live.ensures)) (λ none. let h : ⊥ = cc in h) in
    let long = c.requires.keeps.mail in
    let read = slice_get_read c.args.self.now.mail.items (length c.args.self.now.mail.items) c.args.to c.index.result.now refl (omega (arith, within, long)) c.index.ensures in
    let few = room-count c.index.result.now.items (sym c.if-full.ensures.full) c.if-full.ensures.bounded in
    let same = ap (λ o. message_count (items_in o)) read in
    (sym (rw c.deref.ensures.value at c.if-not-is_live.ensures), omega (arith, few, same))

pub returns-in-Ok-clause-post : goal.returns-in-Ok-clause-post
returns-in-Ok-clause-post g c =
    let within = is_within (λ o. is_live_slot (slot_in o) ≡ true) c.args.self.now.places.items c.args.to (sym (rw c.deref.ensures.value at c.if-not-is_live.ensures)) (λ none. let h : ⊥ = cc in h) in
    let long = c.requires.keeps.mail in
    let read = slice_get_read c.args.self.now.mail.items (length c.args.self.now.mail.items) c.args.to c.index.result.now refl (omega (arith, within, long)) c.index.ensures in
    let few = room-count c.index.result.now.items (sym c.if-full.ensures.full) c.if-full.ensures.bounded in
    let same = ap (λ o. message_count (items_in o)) read in
    (sym (rw c.deref.ensures.value at c.if-not-is_live.ensures), omega (arith, few, same))

pub returns-in-Err-clause-post : goal.returns-in-Err-clause-post
returns-in-Err-clause-post g c =
    let within = is_within (λ o. is_live_slot (slot_in o) ≡ true) c.args.self.now.places.items c.args.to (sym (rw c.deref.ensures.value at c.if-not-is_live.ensures)) (λ none. let h : ⊥ = cc in h) in
    let long = c.requires.keeps.mail in
    let read = slice_get_read c.args.self.now.mail.items (length c.args.self.now.mail.items) c.args.to c.index.result.now refl (omega (arith, within, long)) c.index.ensures in
    let few = room-count c.index.result.now.items (sym c.if-full.ensures.full) c.if-full.ensures.bounded in
    let same = ap (λ o. message_count (items_in o)) read in
    (sym (rw c.deref.ensures.value at c.if-not-is_live.ensures), omega (arith, few, same))

pub returns-in-Ok-clause-keeps : goal.returns-in-Ok-clause-keeps
returns-in-Ok-clause-keeps g c =
    let old = c.args.self.now in
    let within = is_within (λ o. is_live_slot (slot_in o) ≡ true) old.places.items c.args.to (sym (rw c.deref.ensures.value at c.if-not-is_live.ensures)) (λ none. let h : ⊥ = cc in h) in
    let long = c.requires.keeps.mail in
    let inside : c.args.to < length old.mail.items = omega (arith, within, long) in
    box_keeps old (with_item old.mail c.args.to c.reserve.new.self) c.args.to c.index_mut.result.now c.reserve.new.self
    (record { within = inside; there = slice_get_read old.mail.items (length old.mail.items) c.args.to c.index_mut.result.now refl inside c.index_mut.ensures.value; set = refl })
    c.in-Ok.ensures.items c.requires.keeps (place_more c.index_mut.result.now.places c.reserve.new.self.places c.args.tag c.in-Ok.ensures.ok)

pub returns-in-Ok-clause-place : goal.returns-in-Ok-clause-place
returns-in-Ok-clause-place g c put =
    let old = c.args.self.now in
    let within = is_within (λ o. is_live_slot (slot_in o) ≡ true) old.places.items c.args.to (sym (rw c.deref.ensures.value at c.if-not-is_live.ensures)) (λ none. let h : ⊥ = cc in h) in
    let long = c.requires.keeps.mail in
    let inside : c.args.to < length old.mail.items = omega (arith, within, long) in
    box_has old (with_item old.mail c.args.to c.reserve.new.self) c.args.to c.index_mut.result.now c.reserve.new.self
    (record { within = inside; there = slice_get_read old.mail.items (length old.mail.items) c.args.to c.index_mut.result.now refl inside c.index_mut.ensures.value; set = refl })
    c.in-Ok.ensures.items c.args.tag c.requires.keeps (sym (rw c.deref.ensures.value at c.if-not-is_live.ensures)) c.in-Ok.ensures.ok.added

pub returns-in-Ok-clause-held : goal.returns-in-Ok-clause-held
returns-in-Ok-clause-held g c =
    let old = c.args.self.now in
    let within = is_within (λ o. is_live_slot (slot_in o) ≡ true) old.places.items c.args.to (sym (rw c.deref.ensures.value at c.if-not-is_live.ensures)) (λ none. let h : ⊥ = cc in h) in
    let long = c.requires.keeps.mail in
    let inside : c.args.to < length old.mail.items = omega (arith, within, long) in
    box_held old (with_item old.mail c.args.to c.reserve.new.self) c.args.to c.index_mut.result.now c.reserve.new.self
    (record { within = inside; there = slice_get_read old.mail.items (length old.mail.items) c.args.to c.index_mut.result.now refl inside c.index_mut.ensures.value; set = refl })
    c.in-Ok.ensures.items

pub returns-in-Ok-clause-kept : goal.returns-in-Ok-clause-kept
returns-in-Ok-clause-kept g c =
    let old = c.args.self.now in
    let within = is_within (λ o. is_live_slot (slot_in o) ≡ true) old.places.items c.args.to (sym (rw c.deref.ensures.value at c.if-not-is_live.ensures)) (λ none. let h : ⊥ = cc in h) in
    let long = c.requires.keeps.mail in
    let inside : c.args.to < length old.mail.items = omega (arith, within, long) in
    box_kept old (with_item old.mail c.args.to c.reserve.new.self) c.args.to c.index_mut.result.now c.reserve.new.self
    (record { within = inside; there = slice_get_read old.mail.items (length old.mail.items) c.args.to c.index_mut.result.now refl inside c.index_mut.ensures.value; set = refl })
    c.in-Ok.ensures.items

pub returns-in-Err-clause-keeps : goal.returns-in-Err-clause-keeps
returns-in-Err-clause-keeps g c =
    let old = c.args.self.now in
    let within = is_within (λ o. is_live_slot (slot_in o) ≡ true) old.places.items c.args.to (sym (rw c.deref.ensures.value at c.if-not-is_live.ensures)) (λ none. let h : ⊥ = cc in h) in
    let long = c.requires.keeps.mail in
    let inside : c.args.to < length old.mail.items = omega (arith, within, long) in
    box_keeps old (with_item old.mail c.args.to c.reserve.new.self) c.args.to c.index_mut.result.now c.reserve.new.self
    (record { within = inside; there = slice_get_read old.mail.items (length old.mail.items) c.args.to c.index_mut.result.now refl inside c.index_mut.ensures.value; set = refl })
    (ap (λ box. box.items) c.in-Err.ensures.err) c.requires.keeps (λ tag. let e = ap (λ box. reserved box.places tag) c.in-Err.ensures.err in omega (arith, e))

pub returns-in-Err-clause-held : goal.returns-in-Err-clause-held
returns-in-Err-clause-held g c =
    let old = c.args.self.now in
    let within = is_within (λ o. is_live_slot (slot_in o) ≡ true) old.places.items c.args.to (sym (rw c.deref.ensures.value at c.if-not-is_live.ensures)) (λ none. let h : ⊥ = cc in h) in
    let long = c.requires.keeps.mail in
    let inside : c.args.to < length old.mail.items = omega (arith, within, long) in
    box_held old (with_item old.mail c.args.to c.reserve.new.self) c.args.to c.index_mut.result.now c.reserve.new.self
    (record { within = inside; there = slice_get_read old.mail.items (length old.mail.items) c.args.to c.index_mut.result.now refl inside c.index_mut.ensures.value; set = refl })
    (ap (λ box. box.items) c.in-Err.ensures.err)

pub returns-in-Err-clause-kept : goal.returns-in-Err-clause-kept
returns-in-Err-clause-kept g c =
    let old = c.args.self.now in
    let within = is_within (λ o. is_live_slot (slot_in o) ≡ true) old.places.items c.args.to (sym (rw c.deref.ensures.value at c.if-not-is_live.ensures)) (λ none. let h : ⊥ = cc in h) in
    let long = c.requires.keeps.mail in
    let inside : c.args.to < length old.mail.items = omega (arith, within, long) in
    box_kept old (with_item old.mail c.args.to c.reserve.new.self) c.args.to c.index_mut.result.now c.reserve.new.self
    (record { within = inside; there = slice_get_read old.mail.items (length old.mail.items) c.args.to c.index_mut.result.now refl inside c.index_mut.ensures.value; set = refl })
    (ap (λ box. box.items) c.in-Err.ensures.err)
