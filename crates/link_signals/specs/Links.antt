use Rattle.std.specs.Prelude.{ℕ, Bool, ◌||◌, List, min, max, ◌==◌, refl}
use Rattle.std.specs.declared.cmp.Ordering.{Ordering}
use Rattle.std.specs.Ordering.{nat_cmp, ordering_then}
use Rattle.std.specs.FinMap.{FinMap, code}
use Rattle.std.specs.Coded.{Coded, code_by, coded×, coded_ℕ, coded_bool, coded_list}
use Rattle.link_signals.specs.declared.signal.Signal.{Signal}

-- the two ends of a link, the lesser number first
abbrev pub ends : ℕ → ℕ → ℕ × ℕ
ends a b = (min a b, max a b)

-- pairs by their first numbers, and then by their second
abbrev pub pair_cmp : ℕ × ℕ → ℕ × ℕ → Ordering
pair_cmp x y = ordering_then (nat_cmp x.0 y.0) (nat_cmp x.1 y.1)

-- the processes that were added, each with whether it dies with links
abbrev pub Processes : Type 0
Processes = FinMap nat_cmp Bool

-- the tag of each link, by its two ends
abbrev pub Tags : Type 0
Tags = FinMap pair_cmp ℕ

-- the processes, their links, who fell in the last fall, and the signals of it that are still to be given
pub record Net : Type 0 where
  pub processes : Processes
  pub tags : Tags
  pub members : List ℕ
  pub signals : List Signal

-- it is stored as its fields in their order; a signal as the pair of its parts
abbrev pub signal_code : Coded Signal
signal_code = code_by (ℕ × ℕ) (coded× coded_ℕ coded_ℕ) (λ s. (s.to, s.tag)) (λ p. record { to = p.0; tag = p.1 }) (λ _. refl)

abbrev pub net_code : Coded Net
net_code =
    code_by (Processes × (Tags × (List ℕ × List Signal)))
    (coded× (code coded_ℕ coded_bool) (coded× (code (coded× coded_ℕ coded_ℕ) coded_ℕ) (coded× (coded_list coded_ℕ) (coded_list signal_code))))
    (λ n. (n.processes, (n.tags, (n.members, n.signals))))
    (λ p. record { processes = p.0; tags = p.1.0; members = p.1.1.0; signals = p.1.1.1 }) (λ _. refl)

-- whether a process is one of the two ends
abbrev pub is_end : ℕ → ℕ × ℕ → Bool
is_end pid pair = (pair.0 == pid) || (pair.1 == pid)
