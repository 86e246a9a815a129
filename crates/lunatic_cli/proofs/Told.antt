-- What the end of a run says, by its status.
use Rattle.std.proofs.Common.{◌≡◌, ◌≢◌, ℕ, List, [], Bool, true, false, cond, Option, Some, None, refl, sym, ◌∙◌, ap, ◌⊎◌, inl, inr, arith}
use Rattle.std.specs.List.{list_any}
use Rattle.std.specs.Option.{is_none}
use Rattle.resource_table.specs.Steps.{Told}
use Rattle.outside.specs.Causes.{RoseOrFull, StayedBelow}
use Rattle.host_port.specs.declared.start.StartRefusal.{StartRefusal}
use Rattle.world_rules.specs.declared.entry.Entry.{Entry}
use Rattle.world_rules.specs.declared.halt.End.{End}
use Rattle.world_rules.specs.declared.halt.End.TheVariants as EndIs
use Rattle.world_rules.specs.Book.{Book}
use Rattle.wasm_form.specs.declared.parts.Parts.{Parts}
use Rattle.tree_machine.specs.Begin.{begin}
use Rattle.lunatic_cli.specs.declared.finish.Finish.{Finish}
use Rattle.command_words.specs.declared.options.Options.{Options}
use Rattle.lunatic_cli.specs.Ending.{Outcome, WritesReport, RefusesStart, RunsNothing, RunsModule}
use Rattle.lunatic_cli.specs.Options.{first_start}
use Rattle.lunatic_cli.specs.Writing.{Written}
use Rattle.lunatic_cli.specs.Statuses.{is_stall, is_idle, is_starve, status_of_end, told_status, HasStatus}

-- the statuses that a journal tells

abbrev pub IsTold : ℕ → Type 0
IsTold status = (status ≡ 0) ⊎ ((status ≡ 1) ⊎ ((status ≡ 6) ⊎ ((status ≡ 7) ⊎ (status ≡ 8))))

-- 0, 1 or 8, by the end of process 1 alone
status-kinds : (end : End) → (status_of_end end ≡ 0) ⊎ ((status_of_end end ≡ 1) ⊎ (status_of_end end ≡ 8))
status-kinds EndIs.Done = inl refl
status-kinds (EndIs.Trap trap) = inr (inl refl)
status-kinds (EndIs.Spent spent) = inr (inl refl)
status-kinds (EndIs.Host fault) = inr (inl refl)
status-kinds EndIs.Killed = inr (inl refl)
status-kinds EndIs.Linked = inr (inl refl)
status-kinds EndIs.Closed = inr (inl refl)
status-kinds EndIs.Stalled = inr (inl refl)
status-kinds EndIs.Idle = inr (inl refl)
status-kinds EndIs.NoMemory = inr (inr refl)

told-by-end : (status : ℕ) → (status ≡ 0) ⊎ ((status ≡ 1) ⊎ (status ≡ 8)) → IsTold status
told-by-end status (inl none) = inl none
told-by-end status (inr (inl one)) = inr (inl one)
told-by-end status (inr (inr eight)) = inr (inr (inr (inr eight)))

told-by : (starves idles stalls : Bool) (end : End) → IsTold (cond starves 8 (cond idles 7 (cond stalls 6 (status_of_end end))))
told-by true idles stalls end = inr (inr (inr (inr refl)))
told-by false true stalls end = inr (inr (inr (inl refl)))
told-by false false true end = inr (inr (inl refl))
told-by false false false end = told-by-end (status_of_end end) (status-kinds end)

pub told-is : (book : Book) (status : ℕ) → HasStatus book status → IsTold status
told-is book status has =
    rw has.status_is (told-by (list_any is_starve book.entries) (list_any is_idle book.entries) (list_any is_stall book.entries) has.end)

-- the statuses of a report that was to be written
pub reports-told : (old new : Option (List ℕ)) (book : Book) (status : ℕ) → WritesReport old new book status → (status ≡ 5) ⊎ IsTold status
reports-told old new book status (inl reported) = inr (told-is book status reported.status_told)
reports-told old new book status (inr (inl unwritten)) = inl unwritten.status_is
reports-told old new book status (inr (inr memory)) = inr (inr (inr (inr (inr memory.0))))

-- it is neither that of a refusal nor that of an unread file
pub told-ran : (status : ℕ) → (status ≡ 5) ⊎ IsTold status → (status ≢ 3) × (status ≢ 4)
told-ran status (inl five) = (λ e. omega arith, λ e. omega arith)
told-ran status (inr (inl zero_is)) = (λ e. omega arith, λ e. omega arith)
told-ran status (inr (inr (inl one))) = (λ e. omega arith, λ e. omega arith)
told-ran status (inr (inr (inr (inl six)))) = (λ e. omega arith, λ e. omega arith)
told-ran status (inr (inr (inr (inr (inl seven))))) = (λ e. omega arith, λ e. omega arith)
told-ran status (inr (inr (inr (inr (inr eight))))) = (λ e. omega arith, λ e. omega arith)

-- a file that was run was read
pub runs-read : {S : Type 0} {tells : Told S} (options : Options) (m : Parts) (at : Outcome) (finish : Finish S) → RunsModule options m tells at finish → finish.status ≢ 4
runs-read options m at finish (inl whole) = (told-ran finish.status (reports-told _ _ finish.journal finish.status whole.writes)).1
runs-read options m at finish (inr (inl refuses)) = λ e. let three = refuses.status_is in omega arith
runs-read options m at finish (inr (inr nothing)) = λ e. let eight = nothing.status_is in omega arith

-- a module that begins isn't refused, and one that doesn't is, want of memory aside

pub begun-told : {S : Type 0} {tells : Told S} (options : Options) (m : Parts) (at : Outcome) (finish : Finish S) (before now : ℕ) →
    RunsModule options m tells at finish → (finish.status ≡ 5 → RoseOrFull before now) → StayedBelow before now → begin m (first_start options) ≡ None → IsTold finish.status
begun-told options m at finish before now (inl whole) cause stayed begun = elim (reports-told _ _ finish.journal finish.status whole.writes) [
  | inl five ↦ absurd (omega (arith, cause five, stayed))
  | inr told ↦ told
]
begun-told options m at finish before now (inr (inl refuses)) cause stayed begun = let e = sym begun ∙ refuses.refused in absurd (cc)
begun-told options m at finish before now (inr (inr nothing)) cause stayed begun = inr (inr (inr (inr nothing.status_is)))

pub unbegun-refused : {S : Type 0} {tells : Told S} (options : Options) (m : Parts) (at : Outcome) (finish : Finish S) (why : StartRefusal) →
    RunsModule options m tells at finish → begin m (first_start options) ≡ Some why → (finish.status ≡ 3) ⊎ (finish.status ≡ 8)
unbegun-refused options m at finish why (inl whole) unbegun =
    let begun : is_none (begin m (first_start options)) ≡ true = whole.journal.journal_is_run.begins.begun in
    let e : false ≡ true = sym (ap is_none unbegun) ∙ begun in
    absurd (cc)
unbegun-refused options m at finish why (inr (inl refuses)) unbegun = inl refuses.status_is
unbegun-refused options m at finish why (inr (inr nothing)) unbegun = inr nothing.status_is

-- the journal has a Stall, or an Idle, and not both

told-stalled : (starves idles stalls : Bool) (rest status : ℕ) → status ≡ cond starves 8 (cond idles 7 (cond stalls 6 rest)) → stalls ≡ true → idles ≡ false →
    (status ≡ 6) ⊎ (status ≡ 8)
told-stalled true idles stalls rest status is some none = inr is
told-stalled false true stalls rest status is some none = absurd (cc)
told-stalled false false true rest status is some none = inl is
told-stalled false false false rest status is some none = absurd (cc)

told-idled : (starves idles : Bool) (rest status : ℕ) → status ≡ cond starves 8 (cond idles 7 rest) → idles ≡ true → (status ≡ 7) ⊎ (status ≡ 8)
told-idled true idles rest status is some = inr is
told-idled false true rest status is some = inl is
told-idled false false rest status is some = absurd (cc)

-- a journal of no entries has none of them
blank-has-none : {A : Type 0} (test : Entry → Bool) (book : Book) → book.entries ≡ [] → list_any test book.entries ≡ true → A
blank-has-none test book none some = let e : false ≡ true = sym (ap (list_any test) none) ∙ some in absurd (cc)

-- nor has the journal of a run that did not start
pub unstarted-blank : {A S : Type 0} (test : Entry → Bool) (options : Options) (m : Parts) (sink : Written) (finish : Finish S) → RefusesStart options m sink finish ⊎ RunsNothing sink finish →
    list_any test finish.journal.entries ≡ true → A
unstarted-blank test options m sink finish (inl refuses) some = blank-has-none test finish.journal refuses.blank.entries some
unstarted-blank test options m sink finish (inr nothing) some = blank-has-none test finish.journal nothing.blank.entries some

pub stalled-by : {S : Type 0} {tells : Told S} (options : Options) (m : Parts) (at : Outcome) (finish : Finish S) →
    RunsModule options m tells at finish → list_any is_stall finish.journal.entries ≡ true →
    list_any is_idle finish.journal.entries ≡ false → (finish.status ≡ 6) ⊎ ((finish.status ≡ 5) ⊎ (finish.status ≡ 8))
stalled-by options m at finish (inr (inr nothing)) stall never_idle = inr (inr nothing.status_is)
stalled-by options m at finish (inr (inl refuses)) stall never_idle = blank-has-none is_stall finish.journal refuses.blank.entries stall
stalled-by options m at finish (inl whole) stall never_idle = elim whole.writes [
  | inl reported ↦ elim (told-stalled (list_any is_starve finish.journal.entries) (list_any is_idle finish.journal.entries)
      (list_any is_stall finish.journal.entries) (status_of_end reported.status_told.end) finish.status
      reported.status_told.status_is stall never_idle) [ inl six ↦ inl six | inr eight ↦ inr (inr eight) ]
  | inr rest ↦ elim rest [ inl unwritten ↦ inr (inl unwritten.status_is) | inr none ↦ inr (inr none.0) ]
]

pub idled-by : {S : Type 0} {tells : Told S} (options : Options) (m : Parts) (at : Outcome) (finish : Finish S) →
    RunsModule options m tells at finish → list_any is_idle finish.journal.entries ≡ true → (finish.status ≡ 7) ⊎ ((finish.status ≡ 5) ⊎ (finish.status ≡ 8))
idled-by options m at finish (inr (inr nothing)) idle = inr (inr nothing.status_is)
idled-by options m at finish (inr (inl refuses)) idle = blank-has-none is_idle finish.journal refuses.blank.entries idle
idled-by options m at finish (inl whole) idle = elim whole.writes [
  | inl reported ↦ elim (told-idled (list_any is_starve finish.journal.entries) (list_any is_idle finish.journal.entries) _ finish.status
      reported.status_told.status_is idle) [ inl seven ↦ inl seven | inr eight ↦ inr (inr eight) ]
  | inr rest ↦ elim rest [ inl unwritten ↦ inr (inl unwritten.status_is) | inr none ↦ inr (inr none.0) ]
]

-- 6 comes by a Stall alone, and 7 by an Idle alone

neither : (s : ℕ) → (s ≡ 0) ⊎ ((s ≡ 1) ⊎ (s ≡ 8)) → (s ≢ 6) × (s ≢ 7)
neither s (inl none) = (λ e. omega arith, λ e. omega arith)
neither s (inr (inl one)) = (λ e. omega arith, λ e. omega arith)
neither s (inr (inr eight)) = (λ e. omega arith, λ e. omega arith)

told-six : (starves idles stalls : Bool) (end : End) → 6 ≡ cond starves 8 (cond idles 7 (cond stalls 6 (status_of_end end))) → stalls ≡ true
told-six starves idles true end is = refl
told-six true idles false end is = absurd (cc)
told-six false true false end is = absurd (cc)
told-six false false false end is = absurd ((neither (status_of_end end) (status-kinds end)).0 (sym is))

told-seven : (starves idles stalls : Bool) (end : End) → 7 ≡ cond starves 8 (cond idles 7 (cond stalls 6 (status_of_end end))) → idles ≡ true
told-seven starves true stalls end is = refl
told-seven true false stalls end is = absurd (cc)
told-seven false false true end is = absurd (cc)
told-seven false false false end is = absurd ((neither (status_of_end end) (status-kinds end)).1 (sym is))

pub stalls-by : {S : Type 0} {tells : Told S} (options : Options) (m : Parts) (at : Outcome) (finish : Finish S) →
    RunsModule options m tells at finish → finish.status ≡ 6 → list_any is_stall finish.journal.entries ≡ true
stalls-by options m at finish (inr (inr nothing)) six = let e = nothing.status_is in absurd (omega arith)
stalls-by options m at finish (inr (inl refuses)) six = let e = refuses.status_is in absurd (omega arith)
stalls-by options m at finish (inl whole) six = elim whole.writes [
  | inl reported ↦ told-six (list_any is_starve finish.journal.entries) (list_any is_idle finish.journal.entries) (list_any is_stall finish.journal.entries)
      reported.status_told.end (sym six ∙ reported.status_told.status_is)
  | inr rest ↦ elim rest [ inl unwritten ↦ (let e = unwritten.status_is in absurd (omega arith)) | inr none ↦ (let e = none.0 in absurd (omega arith)) ]
]

pub idles-by : {S : Type 0} {tells : Told S} (options : Options) (m : Parts) (at : Outcome) (finish : Finish S) →
    RunsModule options m tells at finish → finish.status ≡ 7 → list_any is_idle finish.journal.entries ≡ true
idles-by options m at finish (inr (inr nothing)) seven = let e = nothing.status_is in absurd (omega arith)
idles-by options m at finish (inr (inl refuses)) seven = let e = refuses.status_is in absurd (omega arith)
idles-by options m at finish (inl whole) seven = elim whole.writes [
  | inl reported ↦ told-seven (list_any is_starve finish.journal.entries) (list_any is_idle finish.journal.entries) (list_any is_stall finish.journal.entries)
      reported.status_told.end (sym seven ∙ reported.status_told.status_is)
  | inr rest ↦ elim rest [ inl unwritten ↦ (let e = unwritten.status_is in absurd (omega arith)) | inr none ↦ (let e = none.0 in absurd (omega arith)) ]
]

-- the journal has a Starve

told-starved : (book : Book) (end : End) (status : ℕ) → status ≡ told_status book.entries end → list_any is_starve book.entries ≡ true → status ≡ 8
told-starved book end status is starve =
    is ∙ ap (λ (b : Bool). cond b 8 (cond (list_any is_idle book.entries) 7 (cond (list_any is_stall book.entries) 6 (status_of_end end)))) starve

pub starved-by : {S : Type 0} {tells : Told S} (options : Options) (m : Parts) (at : Outcome) (finish : Finish S) →
    RunsModule options m tells at finish → list_any is_starve finish.journal.entries ≡ true → finish.status ≡ 8
starved-by options m at finish (inr (inr nothing)) starve = nothing.status_is
starved-by options m at finish (inr (inl refuses)) starve = blank-has-none is_starve finish.journal refuses.blank.entries starve
starved-by options m at finish (inl whole) starve = elim whole.writes [
  | inl reported ↦ told-starved finish.journal reported.status_told.end finish.status reported.status_told.status_is starve
  | inr rest ↦ elim rest [
    | inl unwritten ↦ absurd (unwritten.has_memory (told-starved finish.journal unwritten.status_told.end unwritten.would_be unwritten.status_told.status_is starve))
    | inr none ↦ none.0
  ]
]
