-- Configs: what changes of them make of the part that is shown.
use Rattle.std.specs.Prelude.{◌≡◌, ℕ, Option, Some, option_map}
use Rattle.std.proofs.Common.{sym, ap, ap₂}
use Rattle.host_port.specs.Allowance.{Allowance}
use Rattle.world_rules.specs.Part.{Part, with_config}
use Rattle.world_rules.specs.Local.{changed_config}

-- parts whose configs and next number are the same are the same, the rest of them standing
pub same_configs : (part : Part) (a b : ℕ → Option Allowance) (m n : ℕ) → a ≡ b → m ≡ n →
    (record part { configs = a; next_config = m }) ≡ (record part { configs = b; next_config = n })
same_configs part a b m n e f = ap₂ (λ configs next. record part { configs = configs; next_config = next }) e f

-- a config that is there has its limits changed
pub changed_there : (part : Part) (number : ℕ) (change : Allowance → Allowance) (limits : Allowance) →
    part.configs number ≡ Some limits →
    with_config number (Some (change limits)) part ≡ changed_config number change part
changed_there part number change limits there =
    ap (λ found. with_config number (option_map change found) part) (sym there)
