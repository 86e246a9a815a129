use Rattle.std.specs.Prelude.{◌≡◌, ℕ, ◌<◌, ◌≤◌, ◌^◌, Bool, true, false, nat_eq, List, length, slice_index, Option, Some, None, option_and_then, Contains, All}
use Rattle.host_port.specs.declared.ask.Ask.{Ask}
use Rattle.host_port.specs.declared.reply.Reply.{Reply}
use Rattle.host_port.specs.declared.reply.Word.{Word}
use Rattle.host_port.specs.declared.reply.Text.{Text}
use Rattle.host_port.specs.Rows.{Row, When, Always, OnlyWith, WrittenText, WrittenWord, Width, Four, Eight, WordValue, AnyValue, LengthOfText, AtMost}
use Rattle.host_port.specs.HostTable.{bytes_in, Results, NoResult, OneOf, UpTo, Count, AnyI64, row_of, results_of}

-- a result is one of those that a call may give; a call that is not served may be given no reply
abbrev pub IsResult : Option Results → Option ℕ → Type 0
IsResult None result = ⊥
IsResult (Some NoResult) result = result ≡ None
IsResult (Some (OneOf numbers)) None = ⊥
IsResult (Some (OneOf numbers)) (Some n) = Contains numbers n
IsResult (Some (UpTo most)) None = ⊥
IsResult (Some (UpTo most)) (Some n) = n ≤ most
IsResult (Some (Count argument most)) None = ⊥
IsResult (Some (Count argument most)) (Some n) = n ≤ most
IsResult (Some AnyI64) None = ⊥
IsResult (Some AnyI64) (Some n) = n < 2 ^ 64

-- a result that is a count does not pass its argument
abbrev pub KeepsCount : Option Results → List ℕ → Option ℕ → Type 0
KeepsCount None args result = Unit {0}
KeepsCount (Some NoResult) args result = Unit {0}
KeepsCount (Some (OneOf numbers)) args result = Unit {0}
KeepsCount (Some (UpTo most)) args result = Unit {0}
KeepsCount (Some (Count argument most)) args None = Unit {0}
KeepsCount (Some (Count argument most)) args (Some n) = n ≤ slice_index args argument
KeepsCount (Some AnyI64) args result = Unit {0}

-- something is written with this result
abbrev pub is_written : When → Option ℕ → Bool
is_written Always result = true
is_written (OnlyWith number) None = false
is_written (OnlyWith number) (Some n) = nat_eq n number

-- where it is to count something, the result is this number
abbrev pub IsCount : Bool → Option ℕ → ℕ → Type 0
IsCount false result n = Unit {0}
IsCount true result n = result ≡ Some n

-- the text stands where it is to, is of bytes, and is no longer than its area
pub record IsTextOf (form : WrittenText) (args : List ℕ) (result : Option ℕ) (text : Text) : Type 0 where
  pub octets : All (λ b. b < 2 ^ 8) text.bytes
  pub addr : text.addr ≡ slice_index args form.addr
  pub within : length text.bytes ≤ slice_index args form.length
  pub most : length text.bytes ≤ form.most
  pub counted : IsCount form.counted result (length text.bytes)

-- there is such a text exactly where it is to be written
abbrev pub IsTextIf : Bool → WrittenText → List ℕ → Option ℕ → Option Text → Type 0
IsTextIf false form args result text = text ≡ None
IsTextIf true form args result None = ⊥
IsTextIf true form args result (Some text) = IsTextOf form args result text

-- the text is the one that a row writes with this result
abbrev pub IsText : Option WrittenText → List ℕ → Option ℕ → Option Text → Type 0
IsText None args result text = text ≡ None
IsText (Some form) args result text = IsTextIf (is_written form.when result) form args result text

-- how many bytes a text has; without a text none
abbrev pub text_length : Option Text → ℕ
text_length None = 0
text_length (Some text) = length text.bytes

-- the number is one that the word may be
abbrev pub IsValue : WordValue → List ℕ → Option Text → ℕ → Type 0
IsValue AnyValue args text n = Unit {0}
IsValue LengthOfText args text n = n ≡ text_length text
IsValue (AtMost argument most) args text n = (n ≤ slice_index args argument) × (n ≤ most)

-- a word of this width holds the number
abbrev pub IsHeld : Width → ℕ → Type 0
IsHeld Four n = n < 2 ^ 32
IsHeld Eight n = n < 2 ^ 64

-- the word stands where it is to, is as wide as it is to be, and holds a number that it may be
pub record IsWordOf (form : WrittenWord) (args : List ℕ) (text : Option Text) (word : Word) : Type 0 where
  pub addr : word.addr ≡ slice_index args form.addr
  pub width : word.width ≡ bytes_in form.width
  pub fits : IsHeld form.width word.value
  pub value : IsValue form.value args text word.value

-- there is such a word exactly where it is to be written
abbrev pub IsWordIf : Bool → WrittenWord → List ℕ → Option Text → Option Word → Type 0
IsWordIf false form args text word = word ≡ None
IsWordIf true form args text None = ⊥
IsWordIf true form args text (Some word) = IsWordOf form args text word

-- the word is the one that a row writes with this result
abbrev pub IsWord : Option WrittenWord → List ℕ → Option ℕ → Option Text → Option Word → Type 0
IsWord None args result text word = word ≡ None
IsWord (Some form) args result text word = IsWordIf (is_written form.when result) form args text word

-- the text and the word that a call writes; a call that is not served writes nothing
unfoldable pub text_of : ℕ → Option WrittenText
text_of call = option_and_then (λ (row : Row). row.text) (row_of call)

unfoldable pub word_of : ℕ → Option WrittenWord
word_of call = option_and_then (λ (row : Row). row.word) (row_of call)

-- a reply has these parts: a result that may be given, and the text and the word that are written with it
pub record HasParts (results : Option Results) (text : Option WrittenText) (word : Option WrittenWord)
    (args : List ℕ) (reply : Reply) : Type 0 where
  pub result : IsResult results reply.result
  pub count : KeepsCount results args reply.result
  pub text_is : IsText text args reply.result reply.text
  pub word_is : IsWord word args reply.result reply.text reply.word

-- what is written with a result is what the call writes with it
pub record WritesAsCalled (ask : Ask) (result : Option ℕ) (word : Option Word) (text : Option Text) : Type 0 where
  pub text_is : IsText (text_of ask.call) ask.args result text
  pub word_is : IsWord (word_of ask.call) ask.args result text word

-- a reply has the form of the call that was asked: its result is one that the call may give, a count among them no more
-- than was asked for, and it writes what the call writes with that result
pub record HasForm (ask : Ask) (reply : Reply) : Type 0 where
  pub result : IsResult (results_of ask.call) reply.result
  pub count : KeepsCount (results_of ask.call) ask.args reply.result
  pub writes : WritesAsCalled ask reply.result reply.word reply.text
