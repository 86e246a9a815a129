-- What a writer does to the bytes before it.
use Rattle.std.specs.Prelude.{◌≡◌, ℕ, ◌+◌, ◌-◌, ◌%◌, ◌^◌, ℤ, pos, negsuc}
use Rattle.std.specs.Prelude.{List, ◌++◌, length, Bool, true, false}

-- some bytes spell x, where S says what spells it
pub record HasSpelling {A : Type 0} (S : List ℕ → A → Type 0) (x : A) : Type 0 where
  pub bytes : List ℕ
  pub spells : S bytes x

-- after the old bytes there stand bytes that spell x, as many as `least` says
pub record Appends {A : Type 0} (S : List ℕ → A → Type 0) (least : A → ℕ) (x : A)
    (old new : List ℕ) : Type 0 where
  pub bytes : List ℕ
  pub spells : S bytes x
  pub long : length bytes ≡ least x
  pub added : new ≡ old ++ bytes

-- the signed number n, or -1 - n
abbrev pub signed_of : (negative : Bool) → ℕ → ℤ
signed_of false n = pos n
signed_of true n = negsuc n

-- Core 1.0, 5.2.2, signed integers: a byte of that number that another follows, and one that is the last
abbrev pub next_byte : (negative : Bool) → ℕ → ℕ
next_byte false n = 2 ^ 7 + n % 2 ^ 7
next_byte true n = 2 ^ 8 - 1 - n % 2 ^ 7

abbrev pub last_byte : (negative : Bool) → ℕ → ℕ
last_byte false n = n
last_byte true n = 2 ^ 7 - 1 - n
