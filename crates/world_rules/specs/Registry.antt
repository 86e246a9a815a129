use Rattle.std.specs.Prelude.{ℕ, List, Option, Some, None, Bool, nat_eq, if◌then◌else◌}
use Rattle.std.specs.Option.{option_map_or}
use Rattle.host_port.specs.declared.request.Request.{Request}
use Rattle.host_port.specs.HostTable.{same_text}
use Rattle.world_rules.specs.Calls.{arg}
use Rattle.world_rules.specs.Answers.{empty_reply, number_reply, written_reply}
use Rattle.world_rules.specs.World.{World, is_live}
use Rattle.world_rules.specs.Changes.{replied}
use Rattle.world_rules.specs.Receive.{unless_refused}

-- The registry: which process has which name.

-- the world in which a name names this process, or none
abbrev pub with_name : World → List ℕ → Option ℕ → World
with_name w name pid = record w { names = λ other. if same_text other name then pid else w.names other }

-- 1 exactly where no live process has the number, else 0 or 12
abbrev pub put_answer : World → ℕ → Bool → ℕ
put_answer w named refused = if is_live (w.process named).stage then unless_refused refused 0 else 1

-- PUT. With the answer 0 the name names the process, in place of an earlier one.
abbrev pub put_performed : World → ℕ → Request → Bool → World
put_performed w pid request refused =
    let named = arg request 2 in
    let answer = put_answer w named refused in
    replied (if nat_eq answer 0 then with_name w request.first (Some named) else w) pid request (number_reply answer)

-- GET. 0 with the number at `id`, or 1 exactly where the name isn't there.
abbrev pub get_performed : World → ℕ → Request → World
get_performed w pid request =
    replied w pid request (option_map_or (λ (named : ℕ). written_reply 0 (arg request 2) named)
    (w.names request.first) (number_reply 1))

-- REMOVE. The name is taken out, if it is there.
abbrev pub remove_performed : World → ℕ → Request → World
remove_performed w pid request = replied (with_name w request.first None) pid request empty_reply
