use Rattle.std.proofs.Common.{◌≡◌, ◌≤◌, ◌<◌, ℕ, ◌+◌, ◌*◌, ◌%◌, ◌&&◌, List, [], ◌∷◌, length, take, drop, Bool, true, false, nat_le, slice_index}
use Rattle.std.proofs.Common.{length-take, length-drop, refl, arith, sym, ◌∙◌, ap, subst}
use Rattle.std.proofs.lemmas.Bool.Decides.{nat_tests, eqb_tells}
use Rattle.std.specs.Int.{from_le_bytes, w64}
use Rattle.host_port.specs.declared.ask.Ask.{Ask}
use Rattle.host_port.specs.HostTable.{Area, are_sound}
use Rattle.host_port.specs.Areas.{areas_fit, fits_in, bytes_at, request_of}
use Rattle.host_port.proofs.HostLaws.{receive-areas, receive-reads}
use Rattle.tagged_mailbox.specs.Pick as Picks
use Rattle.world_rules.specs.Mail.{is_wanted, tags_in}
use Rattle.process_store.proofs.Tags.{same-wanted}

-- The tags that a receive names lie in its memory.

-- the area of the tags
abbrev pub tags_area : Ask → Area
tags_area ask = record { addr = slice_index ask.args 0; len = 8 * slice_index ask.args 1 }

and_right : (a b : Bool) → (a && (b && true)) ≡ true → b ≡ true
and_right true true e = refl
and_right true false e = e
and_right false b e = absurd (cc)

eights : (n k : ℕ) → k ≡ 8 * n → k % 8 ≡ 0
eights n k e = omega (arith, e)

pub tags-within : (memory : List ℕ) (ask : Ask) → ask.call ≡ 9 → areas_fit memory ask ≡ true → slice_index ask.args 0 + 8 * slice_index ask.args 1 ≤ length memory
tags-within memory ask call fits =
    let within : nat_le (slice_index ask.args 0 + 8 * slice_index ask.args 1) (length memory) ≡ true =
    and_right (are_sound ask) (fits_in memory (tags_area ask)) (rw (receive-areas ask call) at fits) in
    grind (arith, nat_tests, within)

pub tags-first : (memory : List ℕ) (ask : Ask) → ask.call ≡ 9 → areas_fit memory ask ≡ true → (request_of memory ask).first ≡ bytes_at memory (tags_area ask)
tags-first memory ask call fits = rw (fits, receive-reads ask call) refl

pub tags-whole : (memory : List ℕ) (ask : Ask) → ask.call ≡ 9 → areas_fit memory ask ≡ true → length (bytes_at memory (tags_area ask)) % 8 ≡ 0
tags-whole memory ask call fits =
    let within = tags-within memory ask call fits in
    let all : length (bytes_at memory (tags_area ask)) ≡ 8 * slice_index ask.args 1 = simp (length-take, length-drop) (omega (arith, within)) in
    eights (slice_index ask.args 1) (length (bytes_at memory (tags_area ask))) all
