use Rattle.std.specs.Prelude.{◌≡◌, ◌&&◌, ℕ, Bool, List, [], ◌∷◌}
use Rattle.host_port.specs.declared.host_table.HostRow.{HostRow}
use Rattle.host_port.specs.declared.row.Results as Shown
use Rattle.host_port.specs.declared.row.Results.TheVariants as shown_as
use Rattle.host_port.specs.HostTable.{is_served, same_text}
use Rattle.host_port.specs.Rows.{Row, Results, NoResult, OneOf, UpTo, Count, AnyI64}

-- the results as the code has them
abbrev pub shown_results : Shown.Results → Results
shown_results shown_as.NoResult = NoResult
shown_results (shown_as.OneOf numbers) = OneOf numbers.now
shown_results (shown_as.UpTo most) = UpTo most
shown_results (shown_as.Count argument most) = Count argument most
shown_results shown_as.AnyI64 = AnyI64

-- a row as the code has it shows a row of the table
pub record IsRow (shown : HostRow) (row : Row) : Type 0 where
  pub same_call : shown.call ≡ row.call
  pub same_module : shown.«module».now ≡ row.import_module
  pub same_name : shown.name.now ≡ row.import_name
  pub same_params : shown.params.now ≡ row.params
  pub same_result : shown.result ≡ row.result
  pub same_kind : shown.kind ≡ row.kind
  pub same_reads : shown.reads ≡ row.reads
  pub same_text : shown.text ≡ row.text
  pub same_word : shown.word ≡ row.word
  pub same_may_come : shown.may_come ≡ row.may_come
  pub same_results : shown_results shown.results ≡ row.results
  pub same_refusable : shown.refusable ≡ row.refusable

-- these rows as the code has them show these rows of the table, in order
abbrev pub AreRows : List HostRow → List Row → Type 0
AreRows [] [] = Unit {0}
AreRows [] (row ∷ rows) = ⊥
AreRows (shown ∷ others) [] = ⊥
AreRows (shown ∷ others) (row ∷ rows) = IsRow shown row × AreRows others rows

-- they are the table
pub record ShowTable (shown : List HostRow) (rows : List Row) : Type 0 where
  pub each : AreRows shown rows

-- a row as the code has it is served, and is imported by these names
abbrev pub shown_import : (import_module import_name : List ℕ) → HostRow → Bool
shown_import import_module import_name shown =
    is_served shown.call && (same_text shown.«module».now import_module && same_text shown.name.now import_name)
