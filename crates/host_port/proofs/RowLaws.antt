-- The rows of the table, as the code has them and as the definitions have them.
use Rattle.std.proofs.Common.{◌≡◌, ℕ, zero, suc, ◌+◌, ◌≤◌, ◌&&◌, Bool, true, false, cond, nat_eq, nat_le, not, length, List, [], ◌∷◌, map, find, filter, All, Option, Some, None, slice_get, arith, refl, sym, ◌∙◌, ap, subst}
use Rattle.std.specs.Borrow.{Bor}
use Rattle.std.specs.Prelude.{IsSomeAnd, MatchOption, option_copied}
use Rattle.std.specs.List.{list_all}
use Rattle.std.proofs.lemmas.Bool.Decides.{nat_tests}
use Rattle.std.proofs.lemmas.List.Elements.{All-nil, All-cons, All-head, All-tail, All-weaker}
use Rattle.host_port.specs.declared.host_table.HostRow.{HostRow}
use Rattle.host_port.specs.Rows.{Row}
use Rattle.host_port.specs.HostTable.{all_rows, is_served, known_row_of, row_of, row_of_import, is_import}
use Rattle.host_port.specs.HostRows.{shown_results, IsRow, AreRows, ShowTable, shown_import}
use Rattle.host_port.specs.SoundRows.{IsSoundRow, reads_i32, text_at_i32, word_at_i32, gives_type, is_bare, comes_with, refuses_so, are_numbered, are_distinct}

-- the row that is shown
abbrev row_shown : HostRow → Row
row_shown shown = record {
  call = shown.call;
  import_module = shown.«module».now;
  import_name = shown.name.now;
  params = shown.params.now;
  result = shown.result;
  kind = shown.kind;
  reads = shown.reads;
  text = shown.text;
  word = shown.word;
  may_come = shown.may_come;
  results = shown_results shown.results;
  refusable = shown.refusable;
}

shows : (shown : HostRow) → IsRow shown (row_shown shown)
shows shown = record {
  same_call = refl;
  same_module = refl;
  same_name = refl;
  same_params = refl;
  same_result = refl;
  same_kind = refl;
  same_reads = refl;
  same_text = refl;
  same_word = refl;
  same_may_come = refl;
  same_results = refl;
  same_refusable = refl;
}

all_shown : (shown : List HostRow) → AreRows shown (map row_shown shown)
all_shown [] = tt
all_shown (row ∷ others) = (shows row, all_shown others)

are_rows : (shown : List HostRow) (rows : List Row) → map row_shown shown ≡ rows → AreRows shown rows
are_rows shown rows same = subst (AreRows shown) same (all_shown shown)

-- these rows show the table
pub shown_table : (shown : List HostRow) → map row_shown shown ≡ all_rows → ShowTable shown all_rows
shown_table shown same = record { each = are_rows shown all_rows same }

-- one row shows another, or both are absent
abbrev pub IsSameRow : Option HostRow → Option Row → Type 0
IsSameRow None None = Unit {0}
IsSameRow None (Some row) = ⊥
IsSameRow (Some shown) None = ⊥
IsSameRow (Some shown) (Some row) = IsRow shown row

-- rows at one place
at_place : (shown : List HostRow) (rows : List Row) → AreRows shown rows → (k : ℕ) → IsSameRow (slice_get shown k) (slice_get rows k)
at_place [] [] are k = tt
at_place [] (row ∷ rows) are k = absurd are
at_place (s ∷ shown) [] are k = absurd are
at_place (s ∷ shown) (row ∷ rows) are zero = are.0
at_place (s ∷ shown) (row ∷ rows) are (suc k) = at_place shown rows are.1 k

both : (a b : Bool) → (a && b) ≡ true → (a ≡ true) × (b ≡ true)
both true true e = (refl, refl)
both true false e = absurd (cc)
both false b e = absurd (cc)

found_by : (b : Bool) (row : Row) (rest found : Option Row) → rest ≡ found → cond b (Some row) rest ≡ cond b (Some row) found
found_by b row rest found e = ap (λ (o : Option Row). cond b (Some row) o) e

find_at : (rows : List Row) (base k : ℕ) → are_numbered base rows ≡ true → find (λ (row : Row). nat_eq row.call (base + k)) rows ≡ slice_get rows k
find_at [] base k numbered = refl
find_at (row ∷ rows) base zero numbered =
    let here : nat_eq row.call base ≡ true = (both _ _ numbered).0 in
    let yes : nat_eq row.call (base + 0) ≡ true = grind (arith, nat_tests) in
    rw yes refl
find_at (row ∷ rows) base (suc k) numbered =
    let two = both _ _ numbered in
    let here : nat_eq row.call base ≡ true = two.0 in
    let no : nat_eq row.call (base + suc k) ≡ false = grind (arith, nat_tests) in
    let next : base + suc k ≡ base + 1 + k = omega arith in
    let rest : find (λ (r : Row). nat_eq r.call (base + suc k)) rows ≡ slice_get rows k =
    subst (λ (n : ℕ). find (λ (r : Row). nat_eq r.call n) rows ≡ slice_get rows k) (sym next) (find_at rows (base + 1) k two.1) in
    rw no rest

pub rows_numbered : are_numbered 0 all_rows ≡ true
unfolding all_rows
rows_numbered = refl

zero_more : (k : ℕ) → 0 + k ≡ k
zero_more k = omega arith

known_at : (call : ℕ) → known_row_of call ≡ slice_get all_rows call
unfolding known_row_of
known_at call =
    subst (λ (n : ℕ). find (λ (row : Row). nat_eq row.call n) all_rows ≡ slice_get all_rows call) (zero_more call)
    (find_at all_rows 0 call rows_numbered)

-- the row at the place of a number is the row of the call
pub known_row : (shown : List HostRow) → AreRows shown all_rows → (call : ℕ) → IsSameRow (slice_get shown call) (known_row_of call)
known_row shown are call = subst (IsSameRow (slice_get shown call)) (sym (known_at call)) (at_place shown all_rows are call)

-- the same call is served alike
served_alike : (a b : ℕ) → nat_eq a b ≡ true → is_served a ≡ is_served b
served_alike a b e =
    let same : a ≡ b = grind (arith, nat_tests) in
    ap is_served same

-- a row is found among the served ones where its call is served
find_served_next : (row : Row) (rows : List Row) (call : ℕ) (here served : Bool) → nat_eq row.call call ≡ here → is_served row.call ≡ served →
    find (λ (r : Row). nat_eq r.call call) (filter (λ (r : Row). is_served r.call) rows) ≡ cond (is_served call) (find (λ (r : Row). nat_eq r.call call) rows) None →
    find (λ (r : Row). nat_eq r.call call) (cond served (row ∷ filter (λ (r : Row). is_served r.call) rows) (filter (λ (r : Row). is_served r.call) rows))
    ≡ cond (is_served call) (cond here (Some row) (find (λ (r : Row). nat_eq r.call call) rows)) None
find_served_next row rows call true true e f rest = rw (e, sym (served_alike row.call call e) ∙ f) refl
find_served_next row rows call true false e f rest =
    let no : is_served call ≡ false = sym (served_alike row.call call e) ∙ f in
    rest ∙ rw no refl
find_served_next row rows call false true e f rest = rw e rest
find_served_next row rows call false false e f rest = rest

abbrev no_row : Option Row
no_row = None

nothing_either : (b : Bool) → no_row ≡ cond b no_row no_row
nothing_either true = refl
nothing_either false = refl

find_served : (rows : List Row) (call : ℕ) →
    find (λ (r : Row). nat_eq r.call call) (filter (λ (r : Row). is_served r.call) rows) ≡ cond (is_served call) (find (λ (r : Row). nat_eq r.call call) rows) None
find_served [] call = nothing_either (is_served call)
find_served (row ∷ rows) call = find_served_next row rows call (nat_eq row.call call) (is_served row.call) refl refl (find_served rows call)

-- the row of a call is its row in the whole table where the call is served
pub row_if_served : (call : ℕ) → row_of call ≡ cond (is_served call) (known_row_of call) None
unfolding row_of known_row_of
row_if_served call = find_served all_rows call

import_next : (s : HostRow) (row : Row) (shown : List HostRow) (rows : List Row) (m n : List ℕ) (served here : Bool) → IsRow s row →
    IsSameRow (find (shown_import m n) shown) (find (is_import m n) (filter (λ (r : Row). is_served r.call) rows)) →
    is_served row.call ≡ served → is_import m n row ≡ here →
    IsSameRow (cond (served && here) (Some s) (find (shown_import m n) shown))
    (find (is_import m n) (cond served (row ∷ filter (λ (r : Row). is_served r.call) rows) (filter (λ (r : Row). is_served r.call) rows)))
import_next s row shown rows m n true true is rest e f = rw f is
import_next s row shown rows m n true false is rest e f = rw f rest
import_next s row shown rows m n false here is rest e f = rest

import_same : (shown : List HostRow) (rows : List Row) → AreRows shown rows → (m n : List ℕ) →
    IsSameRow (find (shown_import m n) shown) (find (is_import m n) (filter (λ (r : Row). is_served r.call) rows))
import_same [] [] are m n = tt
import_same [] (row ∷ rows) are m n = absurd are
import_same (s ∷ shown) [] are m n = absurd are
import_same (s ∷ shown) (row ∷ rows) are m n =
    let is = are.0 in
    let judged : shown_import m n s ≡ (is_served row.call && is_import m n row) = rw (is.same_call, is.same_module, is.same_name) refl in
    rw judged (import_next s row shown rows m n (is_served row.call) (is_import m n row) is (import_same shown rows are.1 m n) refl refl)

-- the first row that the code finds by these names is the row of the import
pub import_found : (shown : List HostRow) → AreRows shown all_rows → (m n : List ℕ) → IsSameRow (find (shown_import m n) shown) (row_of_import m n)
unfolding row_of_import
import_found shown are m n = import_same shown all_rows are m n

-- what is found is one of the rows
found_next : (P : Row → Type 0) (b : Bool) (r : Row) (rest : Option Row) (row : Row) → P r → (rest ≡ Some row → P row) → cond b (Some r) rest ≡ Some row → P row
found_next P true r rest row here others e = let same : r ≡ row = cc in subst P same here
found_next P false r rest row here others e = others e

found_row : (P : Row → Type 0) (test : Row → Bool) (rows : List Row) (row : Row) → All P rows → find test rows ≡ Some row → P row
found_row P test [] row each e = absurd (cc)
found_row P test (r ∷ rows) row each e =
    found_next P (test r) r (find test rows) row (All-head P r rows each) (found_row P test rows row (All-tail P r rows each)) e

kept_next : (P : Row → Type 0) (keep test : Row → Bool) (b : Bool) (r : Row) (rows : List Row) (row : Row) → P r → (find test (filter keep rows) ≡ Some row → P row) →
    find test (cond b (r ∷ filter keep rows) (filter keep rows)) ≡ Some row → P row
kept_next P keep test true r rows row here others e = found_next P (test r) r (find test (filter keep rows)) row here others e
kept_next P keep test false r rows row here others e = others e

found_kept : (P : Row → Type 0) (keep test : Row → Bool) (rows : List Row) (row : Row) → All P rows → find test (filter keep rows) ≡ Some row → P row
found_kept P keep test [] row each e = absurd (cc)
found_kept P keep test (r ∷ rows) row each e =
    kept_next P keep test (keep r) r rows row (All-head P r rows each) (found_kept P keep test rows row (All-tail P r rows each)) e

-- what holds of each row of the table holds of the row of a call, and of the row of an import
pub known_has : (P : Row → Type 0) → All P all_rows → (call : ℕ) (row : Row) → known_row_of call ≡ Some row → P row
unfolding known_row_of
known_has P each call row e = found_row P (λ (r : Row). nat_eq r.call call) all_rows row each e

pub row_has : (P : Row → Type 0) → All P all_rows → (call : ℕ) (row : Row) → row_of call ≡ Some row → P row
unfolding row_of
row_has P each call row e = found_kept P (λ (r : Row). is_served r.call) (λ (r : Row). nat_eq r.call call) all_rows row each e

pub import_has : (P : Row → Type 0) → All P all_rows → (m n : List ℕ) (row : Row) → row_of_import m n ≡ Some row → P row
unfolding row_of_import
import_has P each m n row e = found_kept P (λ (r : Row). is_served r.call) (is_import m n) all_rows row each e

-- each row of the table is sound, by a test that computes
abbrev is_sound : Row → Bool
is_sound row =
    nat_le (length row.params) 8 && (reads_i32 row.params row.reads && (text_at_i32 row.params row.text && (word_at_i32 row.params row.word
    && (gives_type row.result row.results && (not (is_bare row.params row.result) && (comes_with row.kind row.may_come && refuses_so row.refusable row.kind row.results))))))

not_true : (b : Bool) → not b ≡ true → b ≡ false
not_true true e = absurd (cc)
not_true false e = refl

sound_row : (row : Row) → is_sound row ≡ true → IsSoundRow row
sound_row row e =
    let one = both _ _ e in
    let two = both _ _ one.1 in
    let three = both _ _ two.1 in
    let four = both _ _ three.1 in
    let five = both _ _ four.1 in
    let six = both _ _ five.1 in
    let seven = both _ _ six.1 in
    record {
      few = one.0;
      reads = two.0;
      text = three.0;
      word = four.0;
      results = five.0;
      bare = not_true _ six.0;
      comes = seven.0;
      refused = seven.1;
    }

sound_rows : (rows : List Row) → list_all is_sound rows ≡ true → All IsSoundRow rows
sound_rows [] e = All-nil IsSoundRow
sound_rows (row ∷ rows) e =
    let two = both _ _ e in
    All-cons IsSoundRow row rows (sound_row row two.0) (sound_rows rows two.1)

pub rows_sound : All IsSoundRow all_rows
unfolding all_rows
rows_sound = sound_rows all_rows refl

pub rows_distinct : are_distinct all_rows ≡ true
unfolding all_rows
rows_distinct = refl

-- each number is at least the one from which they are counted
from_base : (rows : List Row) (base : ℕ) → are_numbered base rows ≡ true → All (λ (row : Row). base ≤ row.call) rows
from_base [] base numbered = All-nil (λ (row : Row). base ≤ row.call)
from_base (row ∷ rows) base numbered =
    let two = both _ _ numbered in
    let test : nat_eq row.call base ≡ true = two.0 in
    let here : base ≤ row.call = grind (arith, nat_tests) in
    All-cons (λ (r : Row). base ≤ r.call) row rows here
    (All-weaker (λ (r : Row). base + 1 ≤ r.call) (λ (r : Row). base ≤ r.call) (λ r h. omega arith) rows (from_base rows (base + 1) two.1))

-- a row is found by its own number
abbrev IsFoundIn : List Row → Row → Type 0
IsFoundIn rows row = find (λ (r : Row). nat_eq r.call row.call) rows ≡ Some row

found_past : (first : Row) (rows : List Row) (base : ℕ) → nat_eq first.call base ≡ true → (row : Row) → (base + 1 ≤ row.call) × IsFoundIn rows row → IsFoundIn (first ∷ rows) row
found_past first rows base here row h =
    let low : base + 1 ≤ row.call = h.0 in
    let no : nat_eq first.call row.call ≡ false = grind (arith, nat_tests) in
    rw no h.1

all_both : {X : Type 0} (P Q : X → Type 0) (xs : List X) → All P xs → All Q xs → All (λ x. P x × Q x) xs
all_both P Q xs h k = λ n d less. (h n d less, k n d less)

self_equal : (n : ℕ) → nat_eq n n ≡ true
self_equal n = grind (arith, nat_tests)

found_self : (rows : List Row) (base : ℕ) → are_numbered base rows ≡ true → All (IsFoundIn rows) rows
found_self [] base numbered = All-nil (IsFoundIn [])
found_self (row ∷ rows) base numbered =
    let two = both _ _ numbered in
    let here = self_equal row.call in
    All-cons (IsFoundIn (row ∷ rows)) row rows (rw here refl)
    (All-weaker (λ (r : Row). (base + 1 ≤ r.call) × IsFoundIn rows r) (IsFoundIn (row ∷ rows)) (found_past row rows base two.0) rows
    (all_both (λ (r : Row). base + 1 ≤ r.call) (IsFoundIn rows) rows (from_base rows (base + 1) two.1) (found_self rows (base + 1) two.1)))

-- what is found among the kept is kept
kept_by : (keep test : Row → Bool) (b c : Bool) (r : Row) (rest : List Row) (row : Row) → keep r ≡ b → test r ≡ c → (find test rest ≡ Some row → keep row ≡ true) →
    find test (cond b (r ∷ rest) rest) ≡ Some row → keep row ≡ true
kept_by keep test false c r rest row e f others g = others g
kept_by keep test true false r rest row e f others g = let g' : find test rest ≡ Some row = rw f at g in others g'
kept_by keep test true true r rest row e f others g =
    let h : Some r ≡ Some row = rw f at g in
    let same : r ≡ row = cc in
    subst (λ (x : Row). keep x ≡ true) same e

is_kept : (keep test : Row → Bool) (rows : List Row) (row : Row) → find test (filter keep rows) ≡ Some row → keep row ≡ true
is_kept keep test [] row e = absurd (cc)
is_kept keep test (r ∷ rows) row e = kept_by keep test (keep r) (test r) r (filter keep rows) row refl refl (is_kept keep test rows row) e

import_served : (m n : List ℕ) (row : Row) → row_of_import m n ≡ Some row → is_served row.call ≡ true
unfolding row_of_import
import_served m n row e = is_kept (λ (r : Row). is_served r.call) (is_import m n) all_rows row e

known_self : (row : Row) → IsFoundIn all_rows row → known_row_of row.call ≡ Some row
unfolding known_row_of
known_self row h = h

-- the row of an import is the row of its call
pub import_call : (m n : List ℕ) (row : Row) → row_of_import m n ≡ Some row → row_of row.call ≡ Some row
import_call m n row e =
    let served : is_served row.call ≡ true = import_served m n row e in
    let known : known_row_of row.call ≡ Some row = known_self row (import_has (IsFoundIn all_rows) (found_self all_rows 0 rows_numbered) m n row e) in
    row_if_served row.call ∙ rw (served, known) refl

-- what the code gives shows the row, or nothing where there is none
copied_match : (r : Option (Bor HostRow)) (k : Option Row) → IsSameRow (option_copied r) k → MatchOption r (k ≡ None) (λ row. IsSomeAnd k (IsRow row.now))
copied_match None None same = refl
copied_match None (Some row) same = absurd same
copied_match (Some shown) None same = absurd same
copied_match (Some shown) (Some row) same = same

-- so it is of the row at a place, and of the first row that is imported so
pub place_match : (shown : List HostRow) → AreRows shown all_rows → (call : ℕ) (r : Option (Bor HostRow)) → option_copied r ≡ slice_get shown call →
    MatchOption r (known_row_of call ≡ None) (λ row. IsSomeAnd (known_row_of call) (IsRow row.now))
place_match shown are call r e = copied_match r (known_row_of call) (subst (λ (o : Option HostRow). IsSameRow o (known_row_of call)) (sym e) (known_row shown are call))

pub import_match : (shown : List HostRow) → AreRows shown all_rows → (m n : List ℕ) (r : Option (Bor HostRow)) → option_copied r ≡ find (shown_import m n) shown →
    MatchOption r (row_of_import m n ≡ None) (λ row. IsSomeAnd (row_of_import m n) (IsRow row.now))
import_match shown are m n r e = copied_match r (row_of_import m n) (subst (λ (o : Option HostRow). IsSameRow o (row_of_import m n)) (sym e) (import_found shown are m n))

-- the row of a call that is served is its row in the whole table
pub served_match : (call : ℕ) (r : Option (Bor HostRow)) → is_served call ≡ true →
    MatchOption r (known_row_of call ≡ None) (λ row. IsSomeAnd (known_row_of call) (IsRow row.now)) →
    MatchOption r (row_of call ≡ None) (λ row. IsSomeAnd (row_of call) (IsRow row.now))
served_match call r served h =
    let same : row_of call ≡ known_row_of call = row_if_served call ∙ rw served refl in
    subst (λ (o : Option Row). MatchOption r (o ≡ None) (λ row. IsSomeAnd o (IsRow row.now))) (sym same) h

pub not_served : (call : ℕ) → is_served call ≡ false → row_of call ≡ None
not_served call absent = row_if_served call ∙ rw absent refl
