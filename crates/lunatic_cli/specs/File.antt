-- The module file, and what it may be.
use Rattle.std.specs.Prelude.{◌≡◌, ◌≢◌, ℕ, ◌<◌, ◌≤◌, ◌↔◌, List, length, Option, Some, None, IfSome}
use Rattle.outside.specs.Causes.{Stayed}
use Rattle.outside.specs.Files.{Contents}
use Rattle.wasm_form.specs.declared.parts.Parts.{Parts}
use Rattle.wasm_form.specs.Modules.{Spells}
use Rattle.wasm_form.specs.Verdict as is
use Rattle.module_validator.specs.Host.{host}
use Rattle.module_validator.specs.Answers.{meant_by}
use Rattle.module_validator.specs.declared.answer.Verdict.{Verdict}

-- the longest module file, in bytes
abbrev pub file_limit : ℕ
file_limit = 16777216

-- these are the bytes of the file of this name, where the store tells them, and they are no longer than a file may be
pub record IsContent (content : Option Contents) (name bytes : List ℕ) : Type 0 where
  pub within : length bytes ≤ file_limit
  pub told : IfSome content (λ files. files name ≡ Some bytes)

-- the file is missing or too long
abbrev pub IsUnreadable : Option (List ℕ) → Type 0
IsUnreadable None = Unit {0}
IsUnreadable (Some bytes) = file_limit < length bytes

-- where the store tells its contents and did not fail, 4 comes exactly where the file of this name is unreadable, want
-- of memory aside
abbrev pub TellsUnread : Option Contents → (before now : ℕ) → (name : List ℕ) → (status : ℕ) → Type 0
TellsUnread content before now name status =
    Stayed before now → status ≢ 8 → IfSome content (λ files. (status ≡ 4) ↔ IsUnreadable (files name))

-- the file has bytes of which this is the verdict
pub record HasVerdict (content : Option Contents) (name : List ℕ) (said : Verdict) : Type 0 where
  pub bytes : List ℕ
  pub is_content : IsContent content name bytes
  pub is_verdict : is.IsVerdict host bytes (meant_by said)

-- the file has bytes that spell this module, which is accepted
pub record HasModule (content : Option Contents) (name : List ℕ) (m : Parts) : Type 0 where
  pub bytes : List ℕ
  pub is_content : IsContent content name bytes
  pub is_spelled : Spells bytes m
  pub is_accepted : is.IsAccepted host m
