use Rattle.std.specs.List.{list_all}
use Rattle.std.specs.Option.{option_map_or}
use Rattle.std.specs.Prelude.{IsSome}
use Rattle.std.proofs.Common.{◌≡◌, ◌≢◌, ℕ, ◌<◌, ◌^◌, ◌&&◌, ◌||◌, List, [], ◌∷◌, All, Contains, Option, Some, None, Bool, true, false, cond, not, nat_eq, slice_index, refl, sym, ◌∙◌, ap, subst, arith, ◌⊎◌, inl, inr}
use Rattle.std.proofs.Math.Logic.{∥∥₁_elim}
use Rattle.std.proofs.Math.Nat.{ℕ_set}
use Rattle.std.proofs.lemmas.Bool.Decides.{eqb_tells, nat_tests}
use Rattle.std.proofs.lemmas.List.Elements.{All-nil, All-cons, All-contains}
use Rattle.std.proofs.lemmas.Map.Views.{Contains-from_any}
use Rattle.host_port.specs.declared.ask.Ask.{Ask}
use Rattle.host_port.specs.declared.reply.Reply.{Reply}
use Rattle.host_port.specs.Areas.{request_of}
use Rattle.host_port.specs.Forms.{IsResult, KeepsCount, IsText, IsWord, IsWordIf, HasForm, is_written}
use Rattle.host_port.specs.HostTable.{Results, NoResult, OneOf, all_rows, is_served, row_of, known_row_of, receive}
use Rattle.host_port.specs.ProcessRows.{sleep_ms}
use Rattle.host_port.specs.declared.row.Width.{Width}
use Rattle.host_port.specs.declared.row.Width.TheVariants.{Eight}
use Rattle.host_port.specs.declared.row.WordValue.{WordValue}
use Rattle.host_port.specs.declared.row.WordValue.TheVariants.{AnyValue}
use Rattle.host_port.specs.declared.row.WrittenText.{WrittenText}
use Rattle.host_port.specs.declared.row.WrittenWord.{WrittenWord}
use Rattle.host_port.specs.Rows.{Row}
use Rattle.host_port.specs.Steps.{IsAnswerable}
use Rattle.host_port.proofs.HostLaws.{receive-row, results_by, text_by, word_by}
use Rattle.host_port.proofs.RowLaws.{row_if_served}
use Rattle.world_rules.specs.declared.life.Ended.{Ended as EndMemory}
use Rattle.world_rules.specs.Answers.{empty_reply, number_reply, written_reply}
use Rattle.world_rules.specs.Calls.{call_of, call_numbered}
use Rattle.world_rules.specs.Lives.{Setting}
use Rattle.world_rules.specs.Mail.{MailItem, Letter, Signal}
use Rattle.world_rules.specs.Part.{is_among}
use Rattle.world_rules.specs.Receive.{delivery_reply}
use Rattle.world_rules.specs.Time.{late_reply}
use Rattle.world_rules.specs.World.{World}
use Rattle.node_state.specs.Seats.{Meaning, Seat}
use Rattle.node_laws.proofs.HostRows.{sleep-row, receive-called, sleep-called}
use Rattle.node_laws.proofs.ReadyList.{true_is_not_false}
use Rattle.node_mirror.specs.Slots.{Slot, Asleep, Giving, SlotFits, IsAsleep, IsGiving}
use Rattle.node_mirror.specs.Held.{Held, Mirrors}
use Rattle.node_mirror.specs.Replies.{told_numbers, id_argument, tells_nothing}
use Rattle.node_mirror.proofs.WorldRows.{row-passes, known-call, then-so}

-- What a node may tell the engines of processes that have called the world.

-- WHAT A ROW WRITES, AND GIVES

abbrev number_among : Results → ℕ → Bool
number_among (OneOf numbers) n = is_among numbers n
number_among _ n = false

abbrev no_result : Results → Bool
no_result NoResult = true
no_result _ = false

abbrev no_text : Option WrittenText → Bool
no_text None = true
no_text (Some form) = false

abbrev no_word : Option WrittenWord → Option ℕ → Bool
no_word None result = true
no_word (Some form) result = not (is_written form.when result)

abbrev is_eight : Width → Bool
is_eight Eight = true
is_eight _ = false

abbrev is_any : WordValue → Bool
is_any AnyValue = true
is_any _ = false

-- a word of eight bytes is written at this argument, with 0
abbrev id_word : Option WrittenWord → ℕ → Bool
id_word None place = false
id_word (Some form) place = nat_eq form.addr place && (is_eight form.width && (is_any form.value && is_written form.when (Some 0)))

abbrev gives_number : Row → ℕ → Bool
gives_number row n = number_among row.results n && (no_text row.text && no_word row.word (Some n))

abbrev gives_id : Row → ℕ → Bool
gives_id row place = number_among row.results 0 && (no_text row.text && id_word row.word place)

abbrev gives_nothing : Row → Bool
gives_nothing row = no_result row.results && (no_text row.text && no_word row.word None)

both : (a b : Bool) → (a && b) ≡ true → (a ≡ true) × (b ≡ true)
both true b e = (refl, e)
both false b e = true_is_not_false (sym e)

-- THE FORMS OF THE REPLIES

number_result : (results : Results) (n : ℕ) → number_among results n ≡ true → IsResult (Some results) (Some n)
number_result (OneOf numbers) n is = Contains-from_any {eq = nat_eq} (λ a b same. grind (arith, nat_tests, same)) n numbers is
number_result _ n is = true_is_not_false (sym is)

number_count : (results : Results) (args : List ℕ) (n : ℕ) → number_among results n ≡ true → KeepsCount (Some results) args (Some n)
number_count (OneOf numbers) args n is = tt
number_count _ args n is = true_is_not_false (sym is)

nothing_result : (results : Results) → no_result results ≡ true → IsResult (Some results) None
nothing_result NoResult is = refl
nothing_result _ is = true_is_not_false (sym is)

nothing_count : (results : Results) (args : List ℕ) → no_result results ≡ true → KeepsCount (Some results) args None
nothing_count NoResult args is = tt
nothing_count _ args is = true_is_not_false (sym is)

silent_text : (o : Option WrittenText) (args : List ℕ) (result : Option ℕ) → no_text o ≡ true → IsText o args result None
silent_text None args result is = refl
silent_text (Some form) args result is = true_is_not_false (sym is)

silent_if : (b : Bool) (form : WrittenWord) (args : List ℕ) → not b ≡ true → IsWordIf b form args None None
silent_if false form args is = refl
silent_if true form args is = true_is_not_false (sym is)

silent_word : (o : Option WrittenWord) (args : List ℕ) (result : Option ℕ) → no_word o result ≡ true → IsWord o args result None None
silent_word None args result is = refl
silent_word (Some form) args result is = silent_if (is_written form.when result) form args is

eight_is : (width : Width) → is_eight width ≡ true → width ≡ Eight
eight_is Eight is = refl
eight_is _ is = true_is_not_false (sym is)

any_is : (value : WordValue) → is_any value ≡ true → value ≡ AnyValue
any_is AnyValue is = refl
any_is _ is = true_is_not_false (sym is)

same_number : (a b : ℕ) → nat_eq a b ≡ true → a ≡ b
same_number a b is = grind (arith, nat_tests, is)

id_word_is : (o : Option WrittenWord) (args : List ℕ) (place number : ℕ) → id_word o place ≡ true → number < 2 ^ 64
    → IsWord o args (Some 0) None (Some (record { addr = slice_index args place; width = 8; value = number }))
id_word_is None args place number is small = true_is_not_false (sym is)
id_word_is (Some form) args place number is small =
    let one = both _ _ is in
    let two = both _ _ one.1 in
    let three = both _ _ two.1 in
    let at : form.addr ≡ place = same_number form.addr place one.0 in
    let wide : form.width ≡ Eight = eight_is form.width two.0 in
    let any : form.value ≡ AnyValue = any_is form.value three.0 in
    subst (λ (b : Bool). IsWordIf b form args None (Some (record { addr = slice_index args place; width = 8; value = number }))) (sym three.1)
    (record { addr = ap (λ (k : ℕ). slice_index args k) (sym at); width = rw wide refl; fits = rw wide small; value = rw any tt })

number-told : (ask : Ask) (row : Row) (n : ℕ) → row_of ask.call ≡ Some row → gives_number row n ≡ true → HasForm ask (number_reply n)
number-told ask row n found gives =
    let one = both _ _ gives in
    let two = both _ _ one.1 in
    record {
      result = rw (results_by ask.call row found) (number_result row.results n one.0);
      count = rw (results_by ask.call row found) (number_count row.results ask.args n one.0);
      writes = record {
        text_is = rw (text_by ask.call row found) (silent_text row.text ask.args (Some n) two.0);
        word_is = rw (word_by ask.call row found) (silent_word row.word ask.args (Some n) two.1);
      };
    }

id-told : (ask : Ask) (row : Row) (place number : ℕ) → row_of ask.call ≡ Some row → gives_id row place ≡ true → number < 2 ^ 64
    → HasForm ask (written_reply 0 (slice_index ask.args place) number)
id-told ask row place number found gives small =
    let one = both _ _ gives in
    let two = both _ _ one.1 in
    record {
      result = rw (results_by ask.call row found) (number_result row.results 0 one.0);
      count = rw (results_by ask.call row found) (number_count row.results ask.args 0 one.0);
      writes = record {
        text_is = rw (text_by ask.call row found) (silent_text row.text ask.args (Some 0) two.0);
        word_is = rw (word_by ask.call row found) (id_word_is row.word ask.args place number two.1 small);
      };
    }

nothing-told : (ask : Ask) (row : Row) → row_of ask.call ≡ Some row → gives_nothing row ≡ true → HasForm ask empty_reply
nothing-told ask row found gives =
    let one = both _ _ gives in
    let two = both _ _ one.1 in
    record {
      result = rw (results_by ask.call row found) (nothing_result row.results one.0);
      count = rw (results_by ask.call row found) (nothing_count row.results ask.args one.0);
      writes = record {
        text_is = rw (text_by ask.call row found) (silent_text row.text ask.args None two.0);
        word_is = rw (word_by ask.call row found) (silent_word row.word ask.args None two.1);
      };
    }

-- EACH ROW

abbrev numbers_so : Row → Bool
numbers_so row = list_all (λ n. gives_number row n) (told_numbers (call_numbered row.call))

abbrev id_so : Row → Bool
id_so row = option_map_or (λ place. gives_id row place) (id_argument (call_numbered row.call)) true

abbrev nothing_so : Row → Bool
nothing_so row = not (tells_nothing (call_numbered row.call)) || gives_nothing row

rows_number : list_all numbers_so all_rows ≡ true
unfolding all_rows
rows_number = refl

rows_id : list_all id_so all_rows ≡ true
unfolding all_rows
rows_id = refl

rows_nothing : list_all nothing_so all_rows ≡ true
unfolding all_rows
rows_nothing = refl

passed : (test : ℕ → Bool) (xs : List ℕ) → list_all test xs ≡ true → All (λ (x : ℕ). test x ≡ true) xs
passed test [] e = All-nil (λ (x : ℕ). test x ≡ true)
passed test (x ∷ xs) e =
    let two = both _ _ e in
    All-cons (λ (y : ℕ). test y ≡ true) x xs two.0 (passed test xs two.1)

there : {X : Type 0} (o : Option X) → IsSome o → (x : X) × (o ≡ Some x)
there None is = let h : ⊥ = cc in absurd h
there (Some x) is = (x, refl)

served_known : (b : Bool) (known : Option Row) (row : Row) → cond b known None ≡ Some row → known ≡ Some row
served_known true known row is = is
served_known false known row is = let h : ⊥ = cc in absurd h

-- the row of a call that has one is its row in the whole table
known : (call : ℕ) (row : Row) → row_of call ≡ Some row → known_row_of call ≡ Some row
known call row found = served_known (is_served call) (known_row_of call) row (sym (row_if_served call) ∙ found)

number_form : (ask : Ask) (n : ℕ) → IsSome (row_of ask.call) → Contains (told_numbers (call_numbered ask.call)) n → HasForm ask (number_reply n)
number_form ask n has among =
    let r = there (row_of ask.call) has in
    let row : Row = r.0 in
    let all : All (λ (k : ℕ). gives_number row k ≡ true) (told_numbers (call_numbered row.call)) =
    passed (λ k. gives_number row k) (told_numbers (call_numbered row.call)) (row-passes numbers_so rows_number ask.call row (known ask.call row r.1)) in
    let same : row.call ≡ ask.call = known-call ask.call row (known ask.call row r.1) in
    number-told ask row n r.1
    (All-contains (λ (k : ℕ). gives_number row k ≡ true) (told_numbers (call_numbered row.call)) n all
    (subst (λ (call : ℕ). Contains (told_numbers (call_numbered call)) n) (sym same) among))

id_form : (ask : Ask) (place number : ℕ) → IsSome (row_of ask.call) → id_argument (call_numbered ask.call) ≡ Some place → number < 2 ^ 64
    → HasForm ask (written_reply 0 (slice_index ask.args place) number)
id_form ask place number has argument small =
    let r = there (row_of ask.call) has in
    let row : Row = r.0 in
    let same : row.call ≡ ask.call = known-call ask.call row (known ask.call row r.1) in
    let passes : id_so row ≡ true = row-passes id_so rows_id ask.call row (known ask.call row r.1) in
    let is : id_argument (call_numbered row.call) ≡ Some place = ap (λ (call : ℕ). id_argument (call_numbered call)) same ∙ argument in
    id-told ask row place number r.1 (subst (λ (o : Option ℕ). option_map_or (λ k. gives_id row k) o true ≡ true) is passes) small

nothing_form : (ask : Ask) → IsSome (row_of ask.call) → tells_nothing (call_numbered ask.call) ≡ true → HasForm ask empty_reply
nothing_form ask has silent =
    let r = there (row_of ask.call) has in
    let row : Row = r.0 in
    let same : row.call ≡ ask.call = known-call ask.call row (known ask.call row r.1) in
    let passes : nothing_so row ≡ true = row-passes nothing_so rows_nothing ask.call row (known ask.call row r.1) in
    nothing-told ask row r.1
    (then-so (tells_nothing (call_numbered row.call)) (gives_nothing row) passes (ap (λ (call : ℕ). tells_nothing (call_numbered call)) same ∙ silent))

-- WHO IS TOLD

giving_owes : {E P : Type 0} {engines : Meaning E P} {setting : Setting P} (w : World) (held : Held E) (ends : List EndMemory) (pid : ℕ) (seat : Seat E) (ask : Ask) (reply : Reply)
    → Mirrors engines setting w held ends → held.slots pid ≡ Giving seat ask → HasForm ask reply → IsAnswerable (engines.phase seat.engine) (engines.memory seat.engine) reply
giving_owes {E = E} {engines = engines} {setting = setting} w held ends pid seat ask reply m is form =
    let g : IsGiving engines setting.programs (w.process pid) seat ask = subst (λ (s : Slot E). SlotFits engines setting.programs (w.process pid) s) is (m.slots pid) in
    record { ask = ask; owed = g.seated.phase; fits = g.fitting.fits; form = form }

pub giving-number : {E P : Type 0} {engines : Meaning E P} {setting : Setting P} (w : World) (held : Held E) (ends : List EndMemory) (pid : ℕ) (seat : Seat E) (ask : Ask) (n : ℕ)
    → Mirrors engines setting w held ends → held.slots pid ≡ Giving seat ask → IsSome (row_of ask.call) → Contains (told_numbers (call_numbered ask.call)) n
    → IsAnswerable (engines.phase seat.engine) (engines.memory seat.engine) (number_reply n)
giving-number w held ends pid seat ask n m is has among = giving_owes w held ends pid seat ask (number_reply n) m is (number_form ask n has among)

pub giving-id : {E P : Type 0} {engines : Meaning E P} {setting : Setting P} (w : World) (held : Held E) (ends : List EndMemory) (pid : ℕ) (seat : Seat E) (ask : Ask) (place number : ℕ)
    → Mirrors engines setting w held ends → held.slots pid ≡ Giving seat ask → IsSome (row_of ask.call) → id_argument (call_numbered ask.call) ≡ Some place → number < 2 ^ 64
    → IsAnswerable (engines.phase seat.engine) (engines.memory seat.engine) (written_reply 0 (slice_index ask.args place) number)
giving-id w held ends pid seat ask place number m is has argument small =
    giving_owes w held ends pid seat ask (written_reply 0 (slice_index ask.args place) number) m is (id_form ask place number has argument small)

pub giving-nothing : {E P : Type 0} {engines : Meaning E P} {setting : Setting P} (w : World) (held : Held E) (ends : List EndMemory) (pid : ℕ) (seat : Seat E) (ask : Ask)
    → Mirrors engines setting w held ends → held.slots pid ≡ Giving seat ask → IsSome (row_of ask.call) → tells_nothing (call_numbered ask.call) ≡ true
    → IsAnswerable (engines.phase seat.engine) (engines.memory seat.engine) empty_reply
giving-nothing w held ends pid seat ask m is has silent = giving_owes w held ends pid seat ask empty_reply m is (nothing_form ask has silent)

-- a number that is one of two is the one or the other
one_of : (n a b : ℕ) → ∥ (n ≡ a) ⊎ (n ≡ b) ∥₁ → (n ≡ a) ⊎ (n ≡ b)
one_of n a b either = tell (eqb_tells n a)
  where
    tell : ((nat_eq n a ≡ true) × (n ≡ a)) ⊎ ((nat_eq n a ≡ false) × (n ≢ a)) → (n ≡ a) ⊎ (n ≡ b)
    tell (inl same) = inl same.1
    tell (inr other) = inr (∥∥₁_elim either (ℕ_set n b) from)
      where
        from : (n ≡ a) ⊎ (n ≡ b) → n ≡ b
        from (inl same) = absurd (other.1 same)
        from (inr same) = same

receive_form : (ask : Ask) (n : ℕ) → ask.call ≡ 9 → gives_number receive n ≡ true → HasForm ask (number_reply n)
receive_form ask n call gives = number-told ask receive n (rw call receive-row) gives

late_form : (ask : Ask) (memory : List ℕ) → (ask.call ≡ 9) ⊎ (ask.call ≡ 17) → HasForm ask (late_reply (call_of (request_of memory ask)))
late_form ask memory (inl call) = rw (receive-called (request_of memory ask) call) (receive_form ask 9027 call refl)
late_form ask memory (inr call) = rw (sleep-called (request_of memory ask) call) (nothing-told ask sleep_ms (rw call sleep-row) refl)

delivery_form : (ask : Ask) (item : MailItem) → ask.call ≡ 9 → HasForm ask (delivery_reply item)
delivery_form ask (Letter number message) call = receive_form ask 0 call refl
delivery_form ask (Signal tag) call = receive_form ask 1 call refl

pub giving-delivered : {E P : Type 0} {engines : Meaning E P} {setting : Setting P} (w : World) (held : Held E) (ends : List EndMemory) (pid : ℕ) (seat : Seat E) (ask : Ask) (item : MailItem)
    → Mirrors engines setting w held ends → held.slots pid ≡ Giving seat ask → ask.call ≡ 9
    → IsAnswerable (engines.phase seat.engine) (engines.memory seat.engine) (delivery_reply item)
giving-delivered w held ends pid seat ask item m is call = giving_owes w held ends pid seat ask (delivery_reply item) m is (delivery_form ask item call)

asleep_is : {E P : Type 0} {engines : Meaning E P} {setting : Setting P} (w : World) (held : Held E) (ends : List EndMemory) (pid : ℕ) (seat : Seat E) (ask : Ask)
    → Mirrors engines setting w held ends → held.slots pid ≡ Asleep seat ask → IsAsleep engines setting.programs (w.process pid) seat ask
asleep_is {E = E} {engines = engines} {setting = setting} w held ends pid seat ask m is = subst (λ (s : Slot E). SlotFits engines setting.programs (w.process pid) s) is (m.slots pid)

pub asleep-late : {E P : Type 0} {engines : Meaning E P} {setting : Setting P} (w : World) (held : Held E) (ends : List EndMemory) (pid : ℕ) (seat : Seat E) (ask : Ask)
    → Mirrors engines setting w held ends → held.slots pid ≡ Asleep seat ask
    → IsAnswerable (engines.phase seat.engine) (engines.memory seat.engine) (late_reply (call_of (request_of (engines.memory seat.engine) ask)))
asleep-late {engines = engines} w held ends pid seat ask m is =
    let a = asleep_is w held ends pid seat ask m is in
    record { ask = ask; owed = a.seated.phase; fits = a.fitting.fits; form = late_form ask (engines.memory seat.engine) (one_of ask.call 9 17 a.call) }

pub asleep-delivered : {E P : Type 0} {engines : Meaning E P} {setting : Setting P} (w : World) (held : Held E) (ends : List EndMemory) (pid : ℕ) (seat : Seat E) (ask : Ask) (item : MailItem)
    → Mirrors engines setting w held ends → held.slots pid ≡ Asleep seat ask → ask.call ≡ 9
    → IsAnswerable (engines.phase seat.engine) (engines.memory seat.engine) (delivery_reply item)
asleep-delivered w held ends pid seat ask item m is call =
    let a = asleep_is w held ends pid seat ask m is in
    record { ask = ask; owed = a.seated.phase; fits = a.fitting.fits; form = delivery_form ask item call }
