use Rattle.std.proofs.Common.{◌≡◌, List, ℕ, ◌∙◌, ◌++◌, ◌&&◌, nat_lt, nat_le, not, filter, ap, subst, sym}
use Rattle.std.specs.Option.{option_to_list}
use Rattle.world_rules.specs.World.{is_ready}
use Rattle.plain_world.specs.declared.process.PlainProcess.{PlainProcess}
use Rattle.plain_world.specs.Population.{Population, AreWatched, made_ready, ready_in, ready_after}
use Rattle.plain_world.specs.ShownProcess.{process_in}
use Rattle.plain_world.proofs.Watching.{kept_watched, longer_watched, queued_watched}
use Rattle.plain_world.proofs.population.Population.queue.Goals as goal

pub invariant_of-self : goal.invariant_of-self
invariant_of-self c =
    let a = c.self.inside in
    let kept : List PlainProcess → List ℕ = λ list. filter (λ pid. is_ready (process_in list pid).stage) a.ready.items in
    subst (λ (xs : List ℕ). AreWatched xs (process_in a.list.items) a.unended a.woken)
    (sym (c.in_err-extend_from_slice.ensures.items ∙ c.keep_ready.ensures ∙ ap kept c.deref.ensures.value))
    (kept_watched a.ready.items a.unended a.woken (process_in a.list.items) c.self.invariant)

pub invariant_of-self-in_err-push_last : goal.invariant_of-self-in_err-push_last
invariant_of-self-in_err-push_last c =
    let a = c.self.inside in
    let kept : List PlainProcess → List ℕ = λ list. filter (λ pid. is_ready (process_in list pid).stage) a.ready.items in
    subst (λ (xs : List ℕ). AreWatched xs (process_in a.list.items) a.unended a.woken)
    (sym (c.in_err-push_last.ensures.same ∙ c.in_ok-extend_from_slice.ensures.items ∙ ap (λ (xs : List ℕ). xs ++ c.deref-2.result.now) (c.keep_ready.ensures ∙ ap kept c.deref.ensures.value)))
    (longer_watched (kept a.list.items) c.deref-2.result.now a.unended a.woken (process_in a.list.items)
    (kept_watched a.ready.items a.unended a.woken (process_in a.list.items) c.self.invariant))

pub invariant_of-self-2 : goal.invariant_of-self-2
invariant_of-self-2 c =
    let a = c.self.inside in
    let all : Population = record { ready = a.ready.items; list = a.list.items } in
    let giver : List ℕ = option_to_list c.args.giver in
    let kept : List PlainProcess → List ℕ = λ list. filter (λ pid. is_ready (process_in list pid).stage) a.ready.items in
    let others : c.deref-2.result.now ≡ made_ready all giver c.args.drawn =
    c.deref-2.ensures.value ∙ c.in_ok-others.ensures ∙ ap (λ (x : Population). made_ready x giver c.args.drawn) (sym c.self.view_is) in
    let last : option_to_list c.last_ready-last.result ≡ ready_in all giver =
    c.last_ready-last.ensures ∙ ap (λ (x : Population). ready_in x giver) (sym c.self.view_is) in
    let anew : c.push_last.new.ready.items ≡ ready_after all giver c.args.drawn =
    c.in_ok-push_last.ensures.pushed
    ∙ ap (λ (xs : List ℕ). xs ++ option_to_list c.last_ready-last.result)
    (c.in_ok-extend_from_slice.ensures.items
    ∙ ap (λ (xs : List ℕ). xs ++ c.deref-2.result.now) (c.keep_ready.ensures ∙ ap kept c.deref.ensures.value)
    ∙ ap (λ (xs : List ℕ). kept a.list.items ++ xs) others)
    ∙ ap (λ (xs : List ℕ). ready_in all all.ready ++ made_ready all giver c.args.drawn ++ xs) last in
    subst (λ (xs : List ℕ). AreWatched xs (process_in a.list.items) a.unended c.forget.new.self) (sym anew)
    (subst (λ (xs : List ℕ). AreWatched (ready_after all giver c.args.drawn) (process_in a.list.items) a.unended xs) (sym c.forget.ensures)
    (queued_watched all a.unended a.woken giver c.args.drawn c.self.invariant))
