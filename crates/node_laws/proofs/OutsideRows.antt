use Rattle.std.proofs.Common.{◌≡◌, ℕ, ◌+◌, ◌<◌, ◌≤◌, ◌^◌, ◌&&◌, ◌||◌, List, [], ◌∷◌, All, find, length, lit<, Option, Some, None, Bool, true, false, cond, not, nat_eq, nat_le, option_map, slice_index, refl, sym, ◌∙◌, ap, subst, arith, ◌⊎◌, inl, inr}
use Rattle.std.specs.List.{list_all}
use Rattle.std.proofs.lemmas.Bool.Decides.{nat_tests}
use Rattle.std.proofs.lemmas.List.Elements.{All-nil, All-cons}
use Rattle.host_port.specs.declared.ask.Ask.{Ask}
use Rattle.host_port.specs.declared.reply.Reply.{Reply}
use Rattle.host_port.specs.declared.request.Request.{Request}
use Rattle.host_port.specs.declared.row.MayCome.{MayCome}
use Rattle.host_port.specs.declared.row.MayCome.TheVariants as Beside
use Rattle.host_port.specs.Areas.{areas_fit}
use Rattle.host_port.specs.Forms.{HasForm, text_of, word_of}
use Rattle.host_port.specs.NetworkRows.{tcp_accept, tcp_connect}
use Rattle.host_port.specs.declared.row.When.TheVariants.{OnlyWith}
use Rattle.host_port.specs.declared.row.Width.TheVariants.{Eight}
use Rattle.host_port.specs.declared.row.WordValue.TheVariants.{AnyValue}
use Rattle.host_port.specs.declared.row.WrittenWord.{WrittenWord}
use Rattle.host_port.specs.Rows.{Row}
use Rattle.host_port.specs.HostTable.{OneOf, all_rows, is_served, row_of, known_row_of, results_of}
use Rattle.host_port.proofs.HostLaws.{results_by, text_by, word_by}
use Rattle.host_port.proofs.Requests.{fit_is}
use Rattle.host_port.proofs.RowLaws.{known_has, row_if_served}
use Rattle.world_rules.specs.declared.entry.Side.{Side}
use Rattle.world_rules.specs.declared.entry.Side.TheVariants as SideIs
use Rattle.world_rules.specs.declared.life.Birth.{Birth}
use Rattle.world_rules.specs.Allowed.{SideFits, AnswerFits}
use Rattle.world_rules.specs.Answers.{written_reply}
use Rattle.world_rules.specs.Calls.{HostCall, call_of, call_numbered}
use Rattle.world_rules.specs.Calls as CallIs
use Rattle.world_rules.specs.Kinds.{HasRowForm, kind_of, may_come}
use Rattle.world_rules.specs.Outside.{outside_performed, id_address}
use Rattle.world_rules.specs.Part.{Part}
use Rattle.world_rules.specs.Rules.{performed}
use Rattle.world_rules.specs.World.{World}
use Rattle.node_state.specs.Fits.{is_outside}
use Rattle.node_state.specs.Posts.{id_in, id_of}
use Rattle.node_laws.proofs.ReadyList.{true_is_not_false}

-- The calls that the outside answers, by their rows.

-- WHAT EACH ROW PASSES

both : (a b : Bool) → (a && b) ≡ true → (a ≡ true) × (b ≡ true)
both true true e = (refl, refl)
both true false e = absurd (cc)
both false b e = absurd (cc)

passed : (test : Row → Bool) (rows : List Row) → list_all test rows ≡ true → All (λ (row : Row). test row ≡ true) rows
passed test [] e = All-nil (λ (row : Row). test row ≡ true)
passed test (row ∷ rows) e =
    let two = both _ _ e in
    All-cons (λ (r : Row). test r ≡ true) row rows two.0 (passed test rows two.1)

row_passes : (test : Row → Bool) → list_all test all_rows ≡ true → (call : ℕ) (row : Row) → known_row_of call ≡ Some row → test row ≡ true
row_passes test each call row found = known_has (λ (r : Row). test r ≡ true) (passed test all_rows each) call row found

found_next : (test : Row → Bool) (b : Bool) (r : Row) (rest : Option Row) (row : Row) → test r ≡ b → (rest ≡ Some row → test row ≡ true) → cond b (Some r) rest ≡ Some row → test row ≡ true
found_next test true r rest row is others e =
    let same : r ≡ row = cc in
    subst (λ (x : Row). test x ≡ true) same is
found_next test false r rest row is others e = others e

found_passes : (test : Row → Bool) (rows : List Row) (row : Row) → find test rows ≡ Some row → test row ≡ true
found_passes test [] row e = absurd (cc)
found_passes test (r ∷ rows) row e = found_next test (test r) r (find test rows) row refl (found_passes test rows row) e

-- the row of a call has its number
known_call : (call : ℕ) (row : Row) → known_row_of call ≡ Some row → row.call ≡ call
unfolding known_row_of
known_call call row e =
    let t : nat_eq row.call call ≡ true = found_passes (λ (r : Row). nat_eq r.call call) all_rows row e in
    grind (arith, nat_tests)

-- WHO IS ANSWERED FROM OUTSIDE

-- an answer may come; a stream may be opened
abbrev pub comes : MayCome → Bool
comes Beside.Nothing = false
comes Beside.Clock = false
comes (Beside.Answer pending opened) = true

abbrev pub opens : MayCome → Bool
opens Beside.Nothing = false
opens Beside.Clock = false
opens (Beside.Answer pending opened) = opened

-- the calls of the outside
abbrev pub is_outside_name : Option HostCall → Bool
is_outside_name (Some CallIs.Bind) = true
is_outside_name (Some CallIs.LocalPort) = true
is_outside_name (Some CallIs.Accept) = true
is_outside_name (Some CallIs.Connect) = true
is_outside_name (Some CallIs.ReadStream) = true
is_outside_name (Some CallIs.WriteStream) = true
is_outside_name _ = false

abbrev answers_so : Row → Bool
answers_so row = not (comes row.may_come) || (is_outside (Some row.kind) && (is_served row.call && is_outside_name (call_numbered row.call)))

abbrev opens_so : Row → Bool
opens_so row = not (opens row.may_come) || (nat_eq row.call 29 || nat_eq row.call 30)

rows_answer : list_all answers_so all_rows ≡ true
unfolding all_rows is_served
rows_answer = refl

rows_open : list_all opens_so all_rows ≡ true
unfolding all_rows
rows_open = refl

-- a request that the outside answers: its call by name, who performs it, and that it is served
pub record IsOutsideCall (request : Request) : Type 0 where
  pub name : HostCall
  pub called : call_of request ≡ Some name
  pub named : is_outside_name (Some name) ≡ true
  pub kind : is_outside (kind_of request) ≡ true
  pub served : row_of request.ask.call ≡ known_row_of request.ask.call

then_so : (a b : Bool) → (not a || b) ≡ true → a ≡ true → b ≡ true
then_so true b either h = either
then_so false b either h = true_is_not_false (sym h)

named_so : (o : Option HostCall) → is_outside_name o ≡ true → (name : HostCall) × (o ≡ Some name) × (is_outside_name (Some name) ≡ true)
named_so None h = true_is_not_false (sym h)
named_so (Some name) h = (name, refl, h)

abbrev comes_of : Option MayCome → Bool
comes_of None = false
comes_of (Some may) = comes may

abbrev opens_of : Option MayCome → Bool
opens_of None = false
opens_of (Some may) = opens may

outside_by : (request : Request) (o : Option Row) → known_row_of request.ask.call ≡ o → comes_of (option_map (λ (row : Row). row.may_come) o) ≡ true → IsOutsideCall request
outside_by request None found answered = true_is_not_false (sym answered)
outside_by request (Some row) found answered =
    let call : ℕ = request.ask.call in
    let same : row.call ≡ call = known_call call row found in
    let t = then_so (comes row.may_come) _ (row_passes answers_so rows_answer call row found) answered in
    let one = both _ _ t in
    let two = both _ _ one.1 in
    let is_so : is_outside_name (call_of request) ≡ true = subst (λ (n : ℕ). is_outside_name (call_numbered n) ≡ true) same two.1 in
    let n = named_so (call_of request) is_so in
    let serves : is_served call ≡ true = subst (λ (k : ℕ). is_served k ≡ true) same two.0 in
    record {
      name = n.0;
      called = n.1;
      named = n.2;
      kind = ap (λ (r : Option Row). is_outside (option_map (λ (x : Row). x.kind) r)) found ∙ one.0;
      served = row_if_served call ∙ ap (λ (b : Bool). cond b (known_row_of call) None) serves;
    }

-- what comes from outside
abbrev pub is_external : Side → Bool
is_external SideIs.Nothing = false
is_external (SideIs.Clock now) = false
is_external SideIs.Pending = true
is_external (SideIs.Answer reply) = true
is_external SideIs.Opened = true
is_external SideIs.NoMemory = false

comes_by : (o : Option MayCome) (w : World) (pid : ℕ) (part : Part) (request : Request) (side : Side) → is_external side ≡ true → SideFits o w pid part request side → comes_of o ≡ true
comes_by (Some (Beside.Answer pending opened)) w pid part request side e fits = refl
comes_by _ w pid part request SideIs.Pending e fits = absurd fits
comes_by _ w pid part request (SideIs.Answer reply) e fits = absurd fits
comes_by _ w pid part request SideIs.Opened e fits = absurd fits
comes_by _ w pid part request SideIs.Nothing e fits = true_is_not_false (sym e)
comes_by _ w pid part request (SideIs.Clock now) e fits = true_is_not_false (sym e)
comes_by _ w pid part request SideIs.NoMemory e fits = true_is_not_false (sym e)

pub outside-call : (w : World) (pid : ℕ) (part : Part) (request : Request) (side : Side) → is_external side ≡ true → SideFits (may_come request) w pid part request side → IsOutsideCall request
outside-call w pid part request side e fits = outside_by request (known_row_of request.ask.call) refl (comes_by (may_come request) w pid part request side e fits)

-- what such a call is performed as
pub performs-outside : (name : HostCall) (births : List Birth) (w : World) (pid : ℕ) (request : Request) (side : Side) → is_outside_name (Some name) ≡ true
    → performed births (Some name) w pid request side ≡ outside_performed name w pid request side
performs-outside CallIs.Bind births w pid request side named = refl
performs-outside CallIs.LocalPort births w pid request side named = refl
performs-outside CallIs.Accept births w pid request side named = refl
performs-outside CallIs.Connect births w pid request side named = refl
performs-outside CallIs.ReadStream births w pid request side named = refl
performs-outside CallIs.WriteStream births w pid request side named = refl
performs-outside _ births w pid request side named = true_is_not_false (sym named)

-- where it writes the number of an opened stream
pub id-named : (name : HostCall) (request : Request) → id_in (Some name) request.ask.args ≡ id_address name request
id-named CallIs.Accept request = refl
id-named _ request = refl

-- THE FORMS OF THEIR REPLIES

pub answer-fits : (o : Option MayCome) (w : World) (pid : ℕ) (part : Part) (request : Request) (reply : Reply) → SideFits o w pid part request (SideIs.Answer reply) → AnswerFits part request reply
answer-fits (Some (Beside.Answer pending opened)) w pid part request reply fits = fits
answer-fits _ w pid part request reply fits = absurd fits

-- an answer that has the form of its row has that of its call
pub row-form : (request : Request) (reply : Reply) → row_of request.ask.call ≡ known_row_of request.ask.call → HasRowForm request reply → HasForm request.ask reply
unfolding results_of text_of word_of
row-form request reply served form = record {
  result = rw served form.result;
  count = rw served form.count;
  writes = record { text_is = rw served form.text; word_is = rw served form.word };
}

opens_by : (o : Option MayCome) (w : World) (pid : ℕ) (part : Part) (request : Request) → SideFits o w pid part request SideIs.Opened → opens_of o ≡ true
opens_by (Some (Beside.Answer true true)) w pid part request fits = refl
opens_by (Some (Beside.Answer false true)) w pid part request fits = refl
opens_by _ w pid part request fits = absurd fits

one_of : (a b c : ℕ) → (nat_eq a b || nat_eq a c) ≡ true → (a ≡ b) ⊎ (a ≡ c)
one_of a b c h = by (nat_eq a b) refl
  where
    by : (t : Bool) → nat_eq a b ≡ t → (a ≡ b) ⊎ (a ≡ c)
    by true is = inl (grind (arith, nat_tests))
    by false is =
        let rest : nat_eq a c ≡ true = rw is at h in
        inr (grind (arith, nat_tests))

opening_by : (call : ℕ) (o : Option Row) → known_row_of call ≡ o → opens_of (option_map (λ (row : Row). row.may_come) o) ≡ true → (call ≡ 29) ⊎ (call ≡ 30)
opening_by call None found opened = true_is_not_false (sym opened)
opening_by call (Some row) found opened =
    subst (λ (n : ℕ). (n ≡ 29) ⊎ (n ≡ 30)) (known_call call row found)
    (one_of row.call 29 30 (then_so (opens row.may_come) _ (row_passes opens_so rows_open call row found) opened))

accept_row : row_of 29 ≡ Some tcp_accept
unfolding row_of all_rows is_served
accept_row = refl

connect_row : row_of 30 ≡ Some tcp_connect
unfolding row_of all_rows is_served
connect_row = refl

-- the word of eight bytes that an opening writes
abbrev id_word : ℕ → WrittenWord
id_word place = record { addr = place; width = Eight; when = OnlyWith 0; value = AnyValue }

-- 0 and a number at this address
opened_form : (ask : Ask) (place id number : ℕ) → results_of ask.call ≡ Some (OneOf (0 ∷ 1 ∷ 2 ∷ 12 ∷ [])) → text_of ask.call ≡ None → word_of ask.call ≡ Some (id_word place)
    → id ≡ slice_index ask.args place → number < 2 ^ 64 → HasForm ask (written_reply 0 id number)
opened_form ask place id number results text word at small = record {
  result = rw results (0, lit< tt, refl);
  count = rw results tt;
  writes = record { text_is = rw text refl; word_is = rw word (record { addr = at; width = refl; fits = small; value = tt }) };
}

le_by : (a b : ℕ) → nat_le a b ≡ true → a ≤ b
le_by a b h = grind (arith, nat_tests, h)

-- an opening writes its number into the memory, and may be told with any number
pub record TellsOpening (memory : List ℕ) (ask : Ask) : Type 0 where
  pub within : id_of ask + 8 ≤ length memory
  pub form : (number : ℕ) → number < 2 ^ 64 → HasForm ask (written_reply 0 (id_of ask) number)

tells_by : (memory : List ℕ) (ask : Ask) → areas_fit memory ask ≡ true → (ask.call ≡ 29) ⊎ (ask.call ≡ 30) → TellsOpening memory ask
tells_by memory ask fits (inl call) =
    let row : row_of ask.call ≡ Some tcp_accept = rw call accept_row in
    let id : id_of ask ≡ slice_index ask.args 1 = ap (λ (n : ℕ). id_in (call_numbered n) ask.args) call in
    record {
      within = rw id (le_by (slice_index ask.args 1 + 8) (length memory) (sym (fit_is memory ask tcp_accept row) ∙ fits));
      form = λ number small. opened_form ask 1 (id_of ask) number (results_by ask.call tcp_accept row) (text_by ask.call tcp_accept row) (word_by ask.call tcp_accept row) id small;
    }
tells_by memory ask fits (inr call) =
    let row : row_of ask.call ≡ Some tcp_connect = rw call connect_row in
    let id : id_of ask ≡ slice_index ask.args 2 = ap (λ (n : ℕ). id_in (call_numbered n) ask.args) call in
    record {
      within = rw id (le_by (slice_index ask.args 2 + 8) (length memory) (sym (fit_is memory ask tcp_connect row) ∙ fits));
      form = λ number small. opened_form ask 2 (id_of ask) number (results_by ask.call tcp_connect row) (text_by ask.call tcp_connect row) (word_by ask.call tcp_connect row) id small;
    }

pub tells-opening : (memory : List ℕ) (w : World) (pid : ℕ) (part : Part) (request : Request) → areas_fit memory request.ask ≡ true → SideFits (may_come request) w pid part request SideIs.Opened
    → TellsOpening memory request.ask
tells-opening memory w pid part request areas fits =
    tells_by memory request.ask areas (opening_by request.ask.call (known_row_of request.ask.call) refl (opens_by (may_come request) w pid part request fits))
