use Rattle.std.proofs.Common.{◌≡◌, ℕ, Option, Some, None, Bool, true, false, option_map, is_some, refl, ap, sym, ◌∙◌, nat_eq, if◌then◌else◌}
use Rattle.std.specs.Option.{option_map_or}
use Rattle.host_port.specs.declared.request.Request.{Request}
use Rattle.world_rules.specs.Part.{Message, Scratch}
use Rattle.world_rules.specs.Mail.{Letter}
use Rattle.world_rules.specs.Answers.{number_reply}
use Rattle.world_rules.specs.World.{World}
use Rattle.world_rules.specs.Calls.{arg}
use Rattle.world_rules.specs.Changes.{replied}
use Rattle.world_rules.specs.Receive.{arrived, sent_off, sent, send_answer, send_performed}

-- What a send comes to.

-- without a scratch message nothing is sent
pub sent-none : (w : World) (pid to : ℕ) (request : Request) (scratch : Option Scratch) → is_some scratch ≡ false → w ≡ sent w pid to request scratch
sent-none w pid to request None none = refl
sent-none w pid to request (Some scratch) none = absurd cc

-- a scratch message is there
pub no_message : (scratch : Option Scratch) → is_some scratch ≡ true → None ≡ option_map (λ (s : Scratch). s.message) scratch → ⊥
no_message None some none = cc
no_message (Some scratch) some none = cc

-- it is on its way, the sender is answered, and it arrives
pub sent-some : (w off told new : World) (pid to : ℕ) (request : Request) (message : Message) (scratch : Option Scratch) →
    Some message ≡ option_map (λ (s : Scratch). s.message) scratch → off ≡ sent_off w pid to → told ≡ replied off pid request (number_reply 0) →
    new ≡ arrived told to (Letter w.sends message) → new ≡ sent w pid to request scratch
sent-some w off told new pid to request message None some out answered done = absurd cc
sent-some w off told new pid to request message (Some scratch) some out answered done =
    done
    ∙ ap (λ (v : World). arrived v to (Letter w.sends message)) (answered ∙ ap (λ (v : World). replied v pid request (number_reply 0)) out)
    ∙ ap (λ (m : Message). arrived (replied (sent_off w pid to) pid request (number_reply 0)) to (Letter w.sends m)) (ap (λ (o : Option Message). option_map_or (λ (m : Message). m) o message) some)

-- the answer is 0, or another
pub send-zero : (w : World) (pid : ℕ) (request : Request) (refused : Bool) (answer : ℕ) → answer ≡ send_answer (w.process (arg request 0)) refused → answer ≡ 0 →
    sent w pid (arg request 0) request (w.process pid).part.scratch ≡ send_performed w pid request refused
send-zero w pid request refused answer is zero =
    ap (λ (n : ℕ). if nat_eq n 0 then sent w pid (arg request 0) request (w.process pid).part.scratch else replied w pid request (number_reply n)) (sym zero ∙ is)

pub send-other : (w : World) (pid : ℕ) (request : Request) (refused : Bool) (answer : ℕ) → answer ≡ send_answer (w.process (arg request 0)) refused → nat_eq answer 0 ≡ false →
    replied w pid request (number_reply answer) ≡ send_performed w pid request refused
send-other w pid request refused answer is other =
    sym (ap (λ (b : Bool). if b then sent w pid (arg request 0) request (w.process pid).part.scratch else replied w pid request (number_reply answer)) other)
    ∙ ap (λ (n : ℕ). if nat_eq n 0 then sent w pid (arg request 0) request (w.process pid).part.scratch else replied w pid request (number_reply n)) is
