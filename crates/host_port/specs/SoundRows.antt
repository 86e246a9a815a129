-- What each row of the host table keeps to.
use Rattle.std.specs.Prelude.{◌≡◌, ℕ, ◌+◌, ◌^◌, ◌&&◌, Bool, true, false, not, nat_eq, nat_le, nat_lt, List, [], ◌∷◌, length, slice_get, Option, Some, None}
use Rattle.std.specs.List.{list_all, list_any}
use Rattle.wasm_ops.specs.declared.num.Num.{Num}
use Rattle.wasm_ops.specs.declared.num.Num.TheVariants.{I32, I64}
use Rattle.host_port.specs.declared.row.MayCome.TheVariants as comes
use Rattle.host_port.specs.Rows.{Row, Kind, Local, World, Outside, ReadArea, Reads, WrittenText, WrittenWord, MayCome, Results, NoResult, OneOf, UpTo, Count, AnyI64}
use Rattle.host_port.specs.HostTable.{areas_in, is_import}

-- it is an i32
abbrev pub is_i32 : Option Num → Bool
is_i32 None = false
is_i32 (Some I32) = true
is_i32 (Some I64) = false

-- each address and each length of an area that is read is an argument that is an i32
abbrev pub reads_i32 : List Num → Reads → Bool
reads_i32 params reads =
    list_all (λ (form : ReadArea). is_i32 (slice_get params form.addr) && is_i32 (slice_get params form.length)) (areas_in reads)

-- so are those of a text that is written
abbrev pub text_at_i32 : List Num → Option WrittenText → Bool
text_at_i32 params None = true
text_at_i32 params (Some form) = is_i32 (slice_get params form.addr) && is_i32 (slice_get params form.length)

-- and so is the address of a word
abbrev pub word_at_i32 : List Num → Option WrittenWord → Bool
word_at_i32 params None = true
word_at_i32 params (Some form) = is_i32 (slice_get params form.addr)

-- each number that the result may be is below this one
abbrev pub are_below : ℕ → Results → Bool
are_below limit NoResult = false
are_below limit (OneOf numbers) = list_all (λ n. nat_lt n limit) numbers
are_below limit (UpTo most) = nat_lt most limit
are_below limit (Count argument most) = nat_lt most limit
are_below limit AnyI64 = nat_le (2 ^ 64) limit

-- there is no result
abbrev pub are_none : Results → Bool
are_none NoResult = true
are_none (OneOf numbers) = false
are_none (UpTo most) = false
are_none (Count argument most) = false
are_none AnyI64 = false

-- the results are of the type that the import has
abbrev pub gives_type : Option Num → Results → Bool
gives_type None results = are_none results
gives_type (Some I32) results = are_below (2 ^ 32) results
gives_type (Some I64) results = are_below (2 ^ 64) results

-- the call takes nothing and gives nothing
abbrev pub is_bare : List Num → Option Num → Bool
is_bare [] None = true
is_bare [] (Some result) = false
is_bare (param ∷ params) result = false

-- beside a local call nothing comes, beside a call of the world at most the clock, beside one of the outside its answer
abbrev pub comes_with : Kind → MayCome → Bool
comes_with Local comes.Nothing = true
comes_with Local comes.Clock = false
comes_with Local (comes.Answer pending opened) = false
comes_with World comes.Nothing = true
comes_with World comes.Clock = true
comes_with World (comes.Answer pending opened) = false
comes_with Outside comes.Nothing = false
comes_with Outside comes.Clock = false
comes_with Outside (comes.Answer pending opened) = true

-- 12 is among the results
abbrev pub gives_twelve : Results → Bool
gives_twelve NoResult = false
gives_twelve (OneOf numbers) = list_any (λ n. nat_eq n 12) numbers
gives_twelve (UpTo most) = false
gives_twelve (Count argument most) = false
gives_twelve AnyI64 = false

-- the call is the world's
abbrev pub is_world : Kind → Bool
is_world Local = false
is_world World = true
is_world Outside = false

-- memory is refused only to calls of the world, and 12 is then their result
abbrev pub refuses_so : Bool → Kind → Results → Bool
refuses_so false kind results = true
refuses_so true kind results = is_world kind && gives_twelve results

-- a row is sound
pub record IsSoundRow (row : Row) : Type 0 where
  pub few : nat_le (length row.params) 8 ≡ true
  pub reads : reads_i32 row.params row.reads ≡ true
  pub text : text_at_i32 row.params row.text ≡ true
  pub word : word_at_i32 row.params row.word ≡ true
  pub results : gives_type row.result row.results ≡ true
  pub bare : is_bare row.params row.result ≡ false
  pub comes : comes_with row.kind row.may_come ≡ true
  pub refused : refuses_so row.refusable row.kind row.results ≡ true

-- each row stands at the place of its number, counted from this one on
abbrev pub are_numbered : (base : ℕ) → List Row → Bool
are_numbered base [] = true
are_numbered base (row ∷ rows) = nat_eq row.call base && are_numbered (base + 1) rows

-- no import of these rows is that of another after it
abbrev pub are_distinct : List Row → Bool
are_distinct [] = true
are_distinct (row ∷ rows) =
    list_all (λ (other : Row). not (is_import other.import_module other.import_name row)) rows && are_distinct rows
