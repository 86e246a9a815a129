use Rattle.std.proofs.Common.{◌≡◌, ◌≢◌, ◌⊎◌, inl, inr, ℕ, Some, Bool, true, false, Result, OnOk, ap, sym, ◌∙◌, nat_eq, if◌then◌else◌}
use Rattle.std.proofs.lemmas.Bool.Decides.{eqb_tells}
use Rattle.std.proofs.lemmas.Result.{on_ok_weaker}
use Rattle.host_port.specs.declared.request.Request.{Request}
use Rattle.host_port.specs.declared.reply.Reply.{Reply}
use Rattle.world_rules.specs.Arrivals.{What}
use Rattle.world_rules.specs.Calls.{arg}
use Rattle.world_rules.specs.World.{World}
use Rattle.world_rules.specs.Changes.{answered, replied}
use Rattle.world_rules.specs.Answers.{number_reply}
use Rattle.world_rules.specs.Registry.{with_name, put_answer, put_performed}

-- An answer in a world that is the meant one.

pub answered_ok : {T E : Type 0} (r : Result T E) (w there new : World) (pid : ℕ) (request : Request) (reply given : Reply) (what came : What) →
    there ≡ w → given ≡ reply → came ≡ what → OnOk r (new ≡ answered there pid request given came) → OnOk r (new ≡ answered w pid request reply what)
answered_ok r w there new pid request reply given what came is same arrives done =
    on_ok_weaker r (λ one. one
    ∙ ap (λ (v : World). answered v pid request given came) is
    ∙ ap (λ (x : Reply). answered w pid request x came) same
    ∙ ap (λ (x : What). answered w pid request reply x) arrives) done

pub replied_ok : {T E : Type 0} (r : Result T E) (w there new : World) (pid : ℕ) (request : Request) (reply given : Reply) →
    there ≡ w → given ≡ reply → OnOk r (new ≡ replied there pid request given) → OnOk r (new ≡ replied w pid request reply)
replied_ok r w there new pid request reply given is same done =
    on_ok_weaker r (λ one. one
    ∙ ap (λ (v : World). replied v pid request given) is
    ∙ ap (λ (x : Reply). replied w pid request x) same) done

-- a put of the registry that is answered 0, and one that isn't
pub put-zero : (w : World) (pid : ℕ) (request : Request) (refused : Bool) (answer : ℕ) → answer ≡ put_answer w (arg request 2) refused → answer ≡ 0 →
    replied (with_name w request.first (Some (arg request 2))) pid request (number_reply 0) ≡ put_performed w pid request refused
put-zero w pid request refused answer is zero =
    ap (λ (n : ℕ). replied (if nat_eq n 0 then with_name w request.first (Some (arg request 2)) else w) pid request (number_reply n)) (sym zero ∙ is)

pub put-other : (w : World) (pid : ℕ) (request : Request) (refused : Bool) (answer : ℕ) → answer ≡ put_answer w (arg request 2) refused → nat_eq answer 0 ≡ false →
    replied w pid request (number_reply answer) ≡ put_performed w pid request refused
put-other w pid request refused answer is other =
    sym (ap (λ (b : Bool). replied (if b then with_name w request.first (Some (arg request 2)) else w) pid request (number_reply answer)) other)
    ∙ ap (λ (n : ℕ). replied (if nat_eq n 0 then with_name w request.first (Some (arg request 2)) else w) pid request (number_reply n)) is

-- two numbers that differ
pub nat_eq-other : (n m : ℕ) → (n ≡ m → ⊥) → nat_eq n m ≡ false
nat_eq-other n m other = by (eqb_tells n m)
  where
    by : ((nat_eq n m ≡ true) × (n ≡ m)) ⊎ ((nat_eq n m ≡ false) × (n ≢ m)) → nat_eq n m ≡ false
    by (inl same) = absurd (other same.1)
    by (inr differ) = differ.0
