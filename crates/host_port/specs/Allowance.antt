use Rattle.std.specs.Prelude.{ℕ}

-- what a process may use: pages of memory, fuel, and bytes that host calls move
pub record Allowance : Type 0 where
  pub pages : ℕ
  pub fuel : ℕ
  pub traffic : ℕ
