use Rattle.std.specs.List.{list_all}
use Rattle.std.proofs.Common.{◌≡◌, ℕ, ◌&&◌, ◌||◌, List, [], ◌∷◌, All, find, Option, Some, None, Bool, true, false, cond, not, nat_eq, option_map, refl, sym, ap, subst, arith}
use Rattle.std.proofs.lemmas.Bool.Decides.{nat_tests}
use Rattle.std.proofs.lemmas.List.Elements.{All-nil, All-cons}
use Rattle.host_port.specs.declared.row.Kind.{Kind}
use Rattle.host_port.specs.declared.row.Kind.TheVariants as KindIs
use Rattle.host_port.specs.declared.request.Request.{Request}
use Rattle.host_port.specs.HostTable.{all_rows, known_row_of}
use Rattle.host_port.specs.Rows.{Row}
use Rattle.host_port.proofs.RowLaws.{known_has}
use Rattle.world_rules.specs.Calls.{HostCall, call_of, call_numbered}
use Rattle.world_rules.specs.Calls as CallIs
use Rattle.world_rules.specs.Kinds.{kind_of}
use Rattle.node_laws.proofs.ReadyList.{true_is_not_false}

-- The calls of the world, by their rows.

both : (a b : Bool) → (a && b) ≡ true → (a ≡ true) × (b ≡ true)
both true true e = (refl, refl)
both true false e = absurd (cc)
both false b e = absurd (cc)

passed : (test : Row → Bool) (rows : List Row) → list_all test rows ≡ true → All (λ (row : Row). test row ≡ true) rows
passed test [] e = All-nil (λ (row : Row). test row ≡ true)
passed test (row ∷ rows) e =
    let two = both _ _ e in
    All-cons (λ (r : Row). test r ≡ true) row rows two.0 (passed test rows two.1)

pub row-passes : (test : Row → Bool) → list_all test all_rows ≡ true → (call : ℕ) (row : Row) → known_row_of call ≡ Some row → test row ≡ true
row-passes test each call row found = known_has (λ (r : Row). test r ≡ true) (passed test all_rows each) call row found

found_next : (test : Row → Bool) (b : Bool) (r : Row) (rest : Option Row) (row : Row) → test r ≡ b → (rest ≡ Some row → test row ≡ true) → cond b (Some r) rest ≡ Some row → test row ≡ true
found_next test true r rest row is others e =
    let same : r ≡ row = cc in
    subst (λ (x : Row). test x ≡ true) same is
found_next test false r rest row is others e = others e

found_passes : (test : Row → Bool) (rows : List Row) (row : Row) → find test rows ≡ Some row → test row ≡ true
found_passes test [] row e = absurd (cc)
found_passes test (r ∷ rows) row e = found_next test (test r) r (find test rows) row refl (found_passes test rows row) e

-- the row of a call has its number
pub known-call : (call : ℕ) (row : Row) → known_row_of call ≡ Some row → row.call ≡ call
unfolding known_row_of
known-call call row e =
    let t : nat_eq row.call call ≡ true = found_passes (λ (r : Row). nat_eq r.call call) all_rows row e in
    grind (arith, nat_tests)

pub then-so : (a b : Bool) → (not a || b) ≡ true → a ≡ true → b ≡ true
then-so true b either h = either
then-so false b either h = true_is_not_false (sym h)

-- WHAT IS NO BIND

abbrev pub is_world : Option Kind → Bool
is_world (Some KindIs.World) = true
is_world _ = false

abbrev pub is_no_bind : Option HostCall → Bool
is_no_bind (Some CallIs.Bind) = false
is_no_bind _ = true

abbrev unbound_so : Row → Bool
unbound_so row = not (is_world (Some row.kind)) || is_no_bind (call_numbered row.call)

rows_unbound : list_all unbound_so all_rows ≡ true
unfolding all_rows
rows_unbound = refl

unbound_by : (request : Request) (o : Option Row) → known_row_of request.ask.call ≡ o → option_map (λ (row : Row). row.kind) o ≡ Some KindIs.World → is_no_bind (call_of request) ≡ true
unbound_by request None found world = absurd (cc)
unbound_by request (Some row) found world =
    subst (λ (n : ℕ). is_no_bind (call_numbered n) ≡ true) (known-call request.ask.call row found)
    (then-so (is_world (Some row.kind)) _ (row-passes unbound_so rows_unbound request.ask.call row found) (ap is_world world))

-- no call of the world is a bind
pub world-unbound : (request : Request) → kind_of request ≡ Some KindIs.World → is_no_bind (call_of request) ≡ true
world-unbound request world = unbound_by request (known_row_of request.ask.call) refl (ap (λ (k : Option Kind). k) world)
