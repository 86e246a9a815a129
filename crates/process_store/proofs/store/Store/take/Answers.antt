use Rattle.std.proofs.Common.{◌≡◌, ◌+◌, ◌≤◌, ◌<◌, ℕ, Some, None, refl, arith, sym, ◌∙◌, ap, subst}
use Rattle.std.specs.Vec.{with_item, vec_len}
use Rattle.process_store.specs.Keeps.{StoreKeeps}
use Rattle.process_store.specs.Takings.{IsTakenOut, TakesOut}
use Rattle.process_store.proofs.TakingHome.{keeps_left, next_found, next_placed, next_within, nobody_kept, nobody_taken, takes_left}
use Rattle.process_store.proofs.store.Store.take.Goals as goal

pub returns-in_err-pid-clause-keeps : goal.returns-in_err-pid-clause-keeps
returns-in_err-pid-clause-keeps g c =
    let e = c.in_err-pid.ensures in
    nobody_kept c.args.self.now c.next_home.new.self c.requires.keeps c.requires.idle e.skips e.deadlines e.room e.same

pub returns-in_err-pid-clause-taken : goal.returns-in_err-pid-clause-taken
returns-in_err-pid-clause-taken g c =
    let e = c.in_err-pid.ensures in
    rw c.from_residual.ensures (nobody_taken c.args.self.now c.next_home.new.self e.skips e.deadlines e.same)

pub index_mut-requires : goal.index_mut-requires
index_mut-requires g c =
    let old = c.args.self.now in
    let e = c.in_ok-pid.ensures in
    let within = next_within old c.next_home.new.self c.in_ok-pid.pid e.skips in
    let l = old.places.ok.0 in
    let same = ap (λ s. vec_len s.places) e.same in
    omega (arith, within, l, same)

pub unreachable-requires : goal.unreachable-requires
unreachable-requires g c =
    let e = c.in_ok-pid.ensures in
    next_found c.args.self.now c.next_home.new.self c.in_ok-pid.pid c.replace-place.result c.index_mut.result.now e.skips (ap (λ s. s.places.items) e.same)
    c.replace-place.ensures.value c.index_mut.ensures.value c.in_default.not-Home

pub returns-clause-keeps : goal.returns-clause-keeps
returns-clause-keeps g c =
    let old = c.args.self.now in
    let s = c.next_home.new.self in
    let e = c.in_ok-pid.ensures in
    let pid = c.in_ok-pid.pid in
    let new = record s { places = with_item s.places pid c.replace-place.new.dest } in
    let placed = next_placed old s new pid c.args.worker c.in-Home.proc c.replace-place.result c.index_mut.result.now c.replace-place.new.dest e.skips (ap (λ x. x.places.items) e.same)
    c.replace-place.ensures.value c.index_mut.ensures.value c.in-Home.is c.replace-place.ensures.after refl in
    keeps_left old s new pid c.args.worker c.in-Home.proc c.requires.keeps c.requires.idle e.skips e.deadlines e.room placed e.same c.requires.room

pub returns-clause-taken : goal.returns-clause-taken
returns-clause-taken g c =
    let old = c.args.self.now in
    let s = c.next_home.new.self in
    let e = c.in_ok-pid.ensures in
    let pid = c.in_ok-pid.pid in
    let new = record s { places = with_item s.places pid c.replace-place.new.dest } in
    let placed = next_placed old s new pid c.args.worker c.in-Home.proc c.replace-place.result c.index_mut.result.now c.replace-place.new.dest e.skips (ap (λ x. x.places.items) e.same)
    c.replace-place.ensures.value c.index_mut.ensures.value c.in-Home.is c.replace-place.ensures.after refl in
    takes_left old s new pid c.args.worker c.in-Home.proc c.requires.keeps c.requires.idle e.skips e.deadlines e.room placed e.same
