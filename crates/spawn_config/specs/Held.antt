use Rattle.std.specs.Prelude.{ℕ, refl}
use Rattle.std.specs.Ordering.{nat_cmp}
use Rattle.std.specs.FinMap.{FinMap, code}
use Rattle.std.specs.Coded.{Coded, code_by, coded×, coded_ℕ}
use Rattle.host_port.specs.Allowance.{Allowance}

-- the limits of each config by its number, and the number that the next one gets
pub record Held : Type 0 where
  pub limits : FinMap nat_cmp Allowance
  pub next : ℕ

-- an allowance is stored as its parts in their order
abbrev pub allowance_code : Coded Allowance
allowance_code =
    code_by (ℕ × (ℕ × ℕ)) (coded× coded_ℕ (coded× coded_ℕ coded_ℕ))
    (λ a. (a.pages, (a.fuel, a.traffic))) (λ p. record { pages = p.0; fuel = p.1.0; traffic = p.1.1 }) (λ _. refl)

-- the configs are stored as the pair of their fields
abbrev pub held_code : Coded Held
held_code =
    code_by (FinMap nat_cmp Allowance × ℕ) (coded× (code coded_ℕ allowance_code) coded_ℕ)
    (λ h. (h.limits, h.next)) (λ p. record { limits = p.0; next = p.1 }) (λ _. refl)
