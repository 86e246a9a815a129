use Rattle.std.specs.Prelude.{min}
use Rattle.host_port.specs.Allowance.{Allowance}

-- of two allowances, the lesser of each part
abbrev pub lower_of : Allowance → Allowance → Allowance
lower_of child parent = record {
  pages = min child.pages parent.pages;
  fuel = min child.fuel parent.fuel;
  traffic = min child.traffic parent.traffic;
}
