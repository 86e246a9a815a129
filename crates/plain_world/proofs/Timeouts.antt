use Rattle.std.proofs.Common.{◌≡◌, ℕ, ◌+◌, suc, List, [], ◌∷◌, ◌++◌, Option, Some, None, Bool, true, false, filter, cond, refl, ap, sym, ◌∙◌, add-one}
use Rattle.std.specs.Option.{option_map_or}
use Rattle.std.proofs.lemmas.List.{append-nil}
use Rattle.std.proofs.lemmas.List.Elements.{filter-append}
use Rattle.host_port.specs.declared.request.Request.{Request}
use Rattle.world_rules.specs.Calls.{call_of}
use Rattle.world_rules.specs.World.{World, Stage, Unborn, Ready, Out, Waiting, Doomed, Ended, up_to}
use Rattle.world_rules.specs.Changes.{replied}
use Rattle.world_rules.specs.Time.{late_reply, timed_out}
use Rattle.plain_world.specs.Awaited.{request_in}

-- Waits that are over.

-- a process that doesn't wait
pub timed-none : (stage : Stage) (w : World) (pid : ℕ) → None ≡ request_in stage → w ≡ timed_out stage w pid
timed-none Unborn w pid none = refl
timed-none Ready w pid none = refl
timed-none (Out worker) w pid none = refl
timed-none (Waiting request) w pid none = absurd cc
timed-none (Doomed worker end) w pid none = refl
timed-none (Ended end) w pid none = refl

-- a process that waits for the answer to this request
pub timed-some : (stage : Stage) (w : World) (pid : ℕ) (request : Request) → Some request ≡ request_in stage → replied w pid request (late_reply (call_of request)) ≡ timed_out stage w pid
timed-some Unborn w pid request some = absurd cc
timed-some Ready w pid request some = absurd cc
timed-some (Out worker) w pid request some = absurd cc
timed-some (Waiting awaited) w pid request some =
    ap (λ (o : Option Request). option_map_or (λ (r : Request). replied w pid r (late_reply (call_of r))) o w) some
timed-some (Doomed worker end) w pid request some = absurd cc
timed-some (Ended end) w pid request some = absurd cc

-- a number more is looked at
pub chosen-more : (test : ℕ → Bool) (n : ℕ) (found new : List ℕ) → found ≡ filter test (up_to n) → test (n + 1) ≡ true → new ≡ found ++ (n + 1) ∷ [] → new ≡ filter test (up_to (n + 1))
chosen-more test n found new is passes more =
    more ∙ ap (λ (xs : List ℕ). xs ++ (n + 1) ∷ []) is
    ∙ sym (ap (λ (k : ℕ). filter test (up_to k)) (add-one n)
    ∙ filter-append test (up_to n) (suc n ∷ [])
    ∙ ap (λ (k : ℕ). filter test (up_to n) ++ filter test (k ∷ [])) (sym (add-one n))
    ∙ ap (λ (b : Bool). filter test (up_to n) ++ cond b ((n + 1) ∷ []) []) passes)

pub chosen-same : (test : ℕ → Bool) (n : ℕ) (found : List ℕ) → found ≡ filter test (up_to n) → test (n + 1) ≡ false → found ≡ filter test (up_to (n + 1))
chosen-same test n found is fails =
    is
    ∙ sym (ap (λ (k : ℕ). filter test (up_to k)) (add-one n)
    ∙ filter-append test (up_to n) (suc n ∷ [])
    ∙ ap (λ (k : ℕ). filter test (up_to n) ++ filter test (k ∷ [])) (sym (add-one n))
    ∙ ap (λ (b : Bool). filter test (up_to n) ++ cond b ((n + 1) ∷ []) []) fails
    ∙ append-nil (filter test (up_to n)))
