use Rattle.std.proofs.Common.{◌≡◌, ℕ, Some, option_map, refl, ap, ◌∙◌}
use Rattle.host_port.specs.declared.request.Request.{Request}
use Rattle.host_port.specs.Areas.{request_of}
use Rattle.world_rules.specs.declared.entry.Side.TheVariants as SideIs
use Rattle.world_rules.specs.Calls as CallIs
use Rattle.host_calls.specs.Listening.{Bound}
use Rattle.host_calls.specs.Shown.{shown_part}
use Rattle.world_rules.specs.Answers.{number_reply}
use Rattle.host_calls.proofs.OutsideForms.{local_port_for, port_told}
use Rattle.host_calls.proofs.OutsideNames.{local_port_there, port_there}
use Rattle.host_calls.proofs.OutsideComes.{answers_alone}
use Rattle.host_calls.proofs.outside_calls.local_port_step.Goals as goal

pub unreachable-requires : goal.unreachable-requires
unreachable-requires g c =
    let request : Request = request_of (g.E.Engine.memory c.args.proc.now.engine) c.args.ask in
    let part = shown_part c.args.proc.now in
    port_there _ c.args.proc.now.listeners _ c.in_default.ensures (local_port_there request part c.requires.number c.requires.asked.faultless)

pub returns : goal.returns
returns g c =
    let request : Request = request_of (g.E.Engine.memory c.args.proc.now.engine) c.args.ask in
    let part = shown_part c.args.proc.now in
    let is = local_port_for request c.requires.number in
    record {
      step = rw c.answered.ensures
          (answers_alone _ request CallIs.LocalPort is.named c.args.proc.now (SideIs.Answer (number_reply c.wide.result)) c.requires.order (λ s. refl)
          (port_told request part c.wide.result c.wide.ensures.small is) refl refl);
      port = λ named b found.
          let told : Some c.in-Some.port ≡ Some (g.O.Listener.Listener.number b.listener) =
          c.in-Some.ensures ∙ ap (option_map (λ (x : Bound _). g.O.Listener.Listener.number x.listener)) found in
          let port : c.in-Some.port ≡ g.O.Listener.Listener.number b.listener = cc in
          rw c.answered.ensures (ap (λ (n : ℕ). SideIs.Answer (number_reply n)) (c.wide.ensures.same ∙ port));
    }
