-- Who falls, and who is told.
use Rattle.std.specs.Prelude.{◌≡◌, ◌⊎◌, ℕ, zero, suc, ◌+◌, ◌<◌, ◌≤◌, List, [], ◌∷◌, ◌++◌, length, take, slice_index, Option, Some, None, option_map, refl}
use Rattle.std.specs.List.{cons_option}
use Rattle.std.specs.Option.{option_to_list}
use Rattle.std.proofs.Common.{sym, ◌∙◌, ap, inl, inr, arith, append_assoc, append-nil, flat_map}
use Rattle.std.proofs.Math.Nat.{eq-or-lt_of_le}
use Rattle.std.proofs.lemmas.List.{take_more}
use Rattle.std.proofs.lemmas.List.Elements.{filter_map-append}
use Rattle.std.proofs.lemmas.List.Concat.{flat_map-append}
use Rattle.world_rules.specs.World.{World, link_between}
use Rattle.world_rules.specs.Links.{Told, spread, spread_times}
use Rattle.plain_world.specs.Fall.{signals_to}

-- SPREADING

-- where spreading adds nobody more, it adds nobody however often
pub spread_stays : (w : World) (first members : List ℕ) (k n : ℕ) → members ≡ spread_times k w first →
    spread w members ≡ members → k ≤ n → members ≡ spread_times n w first
spread_stays w first members k zero is same below =
    is ∙ ap (λ (m : ℕ). spread_times m w first) (let none : k ≡ 0 = omega arith in none)
spread_stays w first members k (suc n) is same below =
    by (λ earlier. spread_stays w first members k n is same (let less : k ≤ n = omega (arith, earlier) in less))
    (eq-or-lt_of_le below)
  where
    by : (k < suc n → members ≡ spread_times n w first) → (k ≡ suc n) ⊎ (k < suc n) →
        members ≡ spread_times (suc n) w first
    by before (inl at) = is ∙ ap (λ (m : ℕ). spread_times m w first) at
    by before (inr earlier) = sym same ∙ ap (spread w) (before earlier)

-- SIGNALS

-- the signal of a member to a process, if they are linked
abbrev pub signal : World → ℕ → ℕ → Option Told
signal w member pid = option_map (λ (tag : ℕ). record { to = pid; tag = tag }) (link_between w member pid)

one_signal : (w : World) (member pid : ℕ) (o : Option Told) → signal w member pid ≡ o →
    signals_to w member (pid ∷ []) ≡ option_to_list o
one_signal w member pid None is = ap (λ (s : Option Told). cons_option s []) is
one_signal w member pid (Some told) is = ap (λ (s : Option Told). cons_option s []) is

-- one process more is told
pub signals_more : (w : World) (member : ℕ) (pids : List ℕ) (place : ℕ) → place < length pids →
    signals_to w member (take (place + 1) pids)
    ≡ signals_to w member (take place pids) ++ option_to_list (signal w member (slice_index pids place))
signals_more w member pids place within =
    ap (signals_to w member) (take_more pids place 0 within)
    ∙ filter_map-append (signal w member) (take place pids) (slice_index pids place ∷ [])
    ∙ ap (λ (told : List Told). signals_to w member (take place pids) ++ told)
    (one_signal w member (slice_index pids place) (signal w member (slice_index pids place)) refl)

-- it is put behind the others
pub signal_pushed : (w : World) (member : ℕ) (pids : List ℕ) (place : ℕ) (first before after : List Told)
    (o : Option Told) → place < length pids → before ≡ first ++ signals_to w member (take place pids) →
    o ≡ signal w member (slice_index pids place) → after ≡ before ++ option_to_list o →
    after ≡ first ++ signals_to w member (take (place + 1) pids)
signal_pushed w member pids place first before after o within were is pushed =
    pushed
    ∙ ap (λ (told : List Told). told ++ option_to_list o) were
    ∙ append_assoc first (signals_to w member (take place pids)) (option_to_list o)
    ∙ ap (λ (s : Option Told). first ++ (signals_to w member (take place pids) ++ option_to_list s)) is
    ∙ sym (ap (λ (told : List Told). first ++ told) (signals_more w member pids place within))

-- the signals of one member more
pub members_more : (signals : ℕ → List Told) (members : List ℕ) (place : ℕ) (before after : List Told) → place < length members →
    before ≡ flat_map signals (take place members) → after ≡ before ++ signals (slice_index members place) →
    after ≡ flat_map signals (take (place + 1) members)
members_more signals members place before after within were pushed =
    pushed ∙ ap (λ (told : List Told). told ++ signals (slice_index members place)) were
    ∙ sym (ap (λ (pids : List ℕ). flat_map signals pids) (take_more members place 0 within)
    ∙ flat_map-append signals (take place members) (slice_index members place ∷ [])
    ∙ ap (λ (told : List Told). flat_map signals (take place members) ++ told) (append-nil (signals (slice_index members place))))
