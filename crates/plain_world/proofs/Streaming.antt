use Rattle.std.proofs.Common.{◌≡◌, ◌≢◌, ◌⊎◌, inl, inr, ℕ, ◌<◌, List, [], ◌∷◌, ◌++◌, length, Some, Bool, true, false, refl, ap, sym, ◌∙◌, nat_eq, if◌then◌else◌, set}
use Rattle.std.specs.Option.{option_map_or}
use Rattle.std.proofs.Math.Path.{fun_ext}
use Rattle.std.proofs.lemmas.Bool.Decides.{eqb_tells}
use Rattle.host_port.specs.declared.request.Request.{Request}
use Rattle.host_port.specs.declared.reply.Reply.{Reply}
use Rattle.world_rules.specs.declared.entry.Side.{Side}
use Rattle.world_rules.specs.declared.entry.Side.TheVariants as SideIs
use Rattle.world_rules.specs.Views.{answer_in, is_pending}
use Rattle.world_rules.specs.Calls.{HostCall, arg, CreateData, WriteData, ReadData, SeekData, DataSize, GetTag, PushStream, TakeStream, Send, Receive, ProcessId, Exists, Spawn, Kill, Link, Unlink, DieWhenLinkDies, SleepMs, CreateConfig, DropConfig, SetMaxMemory, SetMaxFuel, GetMaxMemory, GetMaxFuel, RegistryPut, RegistryGet, RegistryRemove, Bind, LocalPort, Accept, Connect, ReadStream, WriteStream, DropStream, DropListener, Print}
use Rattle.world_rules.specs.Streams.{Streamed, nothing_streamed, after_side, streamed_by}
use Rattle.plain_world.specs.Awaited.{is_streaming}
use Rattle.plain_world.specs.Shown.{streamed_in}
use Rattle.plain_world.proofs.Places.{look_set, look_push_nothing}

-- What is streamed by a call that neither reads nor writes: nothing.

same_side : (side : Side) (s : Streamed) → option_map_or (λ (reply : Reply). s) (answer_in side) (if is_pending side then s else s) ≡ s
same_side SideIs.Nothing s = refl
same_side (SideIs.Clock now) s = refl
same_side SideIs.Pending s = refl
same_side (SideIs.Answer reply) s = refl
same_side SideIs.Opened s = refl
same_side SideIs.NoMemory s = refl

after_other : (call : HostCall) (request : Request) (side : Side) (s : Streamed) → is_streaming call ≡ false → after_side call request side s ≡ s
after_other CreateData request side s other = same_side side s
after_other WriteData request side s other = same_side side s
after_other ReadData request side s other = same_side side s
after_other SeekData request side s other = same_side side s
after_other DataSize request side s other = same_side side s
after_other GetTag request side s other = same_side side s
after_other PushStream request side s other = same_side side s
after_other TakeStream request side s other = same_side side s
after_other Send request side s other = same_side side s
after_other Receive request side s other = same_side side s
after_other ProcessId request side s other = same_side side s
after_other Exists request side s other = same_side side s
after_other Spawn request side s other = same_side side s
after_other Kill request side s other = same_side side s
after_other Link request side s other = same_side side s
after_other Unlink request side s other = same_side side s
after_other DieWhenLinkDies request side s other = same_side side s
after_other SleepMs request side s other = same_side side s
after_other CreateConfig request side s other = same_side side s
after_other DropConfig request side s other = same_side side s
after_other SetMaxMemory request side s other = same_side side s
after_other SetMaxFuel request side s other = same_side side s
after_other GetMaxMemory request side s other = same_side side s
after_other GetMaxFuel request side s other = same_side side s
after_other RegistryPut request side s other = same_side side s
after_other RegistryGet request side s other = same_side side s
after_other RegistryRemove request side s other = same_side side s
after_other Bind request side s other = same_side side s
after_other LocalPort request side s other = same_side side s
after_other Accept request side s other = same_side side s
after_other Connect request side s other = same_side side s
after_other ReadStream request side s other = absurd cc
after_other WriteStream request side s other = absurd cc
after_other DropStream request side s other = same_side side s
after_other DropListener request side s other = same_side side s
after_other Print request side s other = same_side side s

branch_same : {X : Type 0} (b : Bool) (x y : X) → x ≡ y → (if b then x else y) ≡ y
branch_same true x y e = e
branch_same false x y e = refl

pub streamed-other : (call : HostCall) (request : Request) (side : Side) (streamed : ℕ → Streamed) → is_streaming call ≡ false →
    streamed ≡ streamed_by (Some call) request side streamed
streamed-other call request side streamed other =
    sym (fun_ext (λ handle. branch_same (nat_eq handle (arg request 0)) (after_side call request side (streamed handle)) (streamed handle) (after_other call request side (streamed handle) other)))

-- a stream more on which nothing was streamed
pub streamed-more : (ss new : List Streamed) (s : Streamed) → new ≡ ss ++ s ∷ [] → s ≡ nothing_streamed → streamed_in new ≡ streamed_in ss
streamed-more ss new s is nothing = ap streamed_in is ∙ look_push_nothing (λ (x : Streamed). x) nothing_streamed ss s nothing

-- one stream changed
pub streamed-changed : (ss filled new : List Streamed) (handle : ℕ) (change : Streamed → Streamed) (s : Streamed) → handle < length filled →
    streamed_in filled ≡ streamed_in ss → new ≡ set filled handle s → s ≡ change (streamed_in filled handle) →
    streamed_in new ≡ (λ (other : ℕ). if nat_eq other handle then change (streamed_in ss other) else streamed_in ss other)
streamed-changed ss filled new handle change s within same is changed =
    ap streamed_in is
    ∙ look_set (λ (x : Streamed). x) nothing_streamed filled handle s within
    ∙ fun_ext (λ other. by other (eqb_tells other handle))
  where
    by : (other : ℕ) → ((nat_eq other handle ≡ true) × (other ≡ handle)) ⊎ ((nat_eq other handle ≡ false) × (other ≢ handle)) →
        (if nat_eq other handle then s else streamed_in filled other) ≡ (if nat_eq other handle then change (streamed_in ss other) else streamed_in ss other)
    by other (inl h) =
        ap (λ (b : Bool). if b then s else streamed_in filled other) h.0
        ∙ changed
        ∙ ap (λ (f : ℕ → Streamed). change (f handle)) same
        ∙ ap (λ (n : ℕ). change (streamed_in ss n)) (sym h.1)
        ∙ sym (ap (λ (b : Bool). if b then change (streamed_in ss other) else streamed_in ss other) h.0)
    by other (inr h) =
        ap (λ (b : Bool). if b then s else streamed_in filled other) h.0
        ∙ ap (λ (f : ℕ → Streamed). f other) same
        ∙ sym (ap (λ (b : Bool). if b then change (streamed_in ss other) else streamed_in ss other) h.0)
