use Rattle.std.proofs.Common.{◌≡◌, ℕ, Some, Bool, false, sym, ap, ◌∙◌, nat_eq, if◌then◌else◌}
use Rattle.host_port.specs.declared.request.Request.{Request}
use Rattle.world_rules.specs.Calls.{arg}
use Rattle.world_rules.specs.World.{World}
use Rattle.world_rules.specs.Changes.{replied}
use Rattle.world_rules.specs.Answers.{number_reply}
use Rattle.world_rules.specs.Links.{with_link, link_answer, link_performed}

-- A link that is answered 0, and one that isn't.

pub link-zero : (w : World) (pid : ℕ) (request : Request) (refused : Bool) (answer : ℕ) → answer ≡ link_answer w pid (arg request 1) refused → answer ≡ 0 →
    replied (with_link w pid (arg request 1) (Some (arg request 0))) pid request (number_reply 0) ≡ link_performed w pid request refused
link-zero w pid request refused answer is zero =
    ap (λ (n : ℕ). replied (if nat_eq n 0 then with_link w pid (arg request 1) (Some (arg request 0)) else w) pid request (number_reply n)) (sym zero ∙ is)

pub link-other : (w : World) (pid : ℕ) (request : Request) (refused : Bool) (answer : ℕ) → answer ≡ link_answer w pid (arg request 1) refused → nat_eq answer 0 ≡ false →
    replied w pid request (number_reply answer) ≡ link_performed w pid request refused
link-other w pid request refused answer is other =
    sym (ap (λ (b : Bool). replied (if b then with_link w pid (arg request 1) (Some (arg request 0)) else w) pid request (number_reply answer)) other)
    ∙ ap (λ (n : ℕ). replied (if nat_eq n 0 then with_link w pid (arg request 1) (Some (arg request 0)) else w) pid request (number_reply n)) is
