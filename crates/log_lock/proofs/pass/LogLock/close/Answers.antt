use Rattle.std.proofs.Common.{◌<◌, sym, ap, ◌∙◌, subst, Some}
use Rattle.std.specs.List.{All}
use mathlib.Core.Option.{some-injective}
use lib.ListN.{get_elem?}
use Rattle.log_lock.proofs.PassSteps.{closes}
use Rattle.log_lock.proofs.QueueSteps.{some_of}
use Rattle.log_lock.proofs.pass.LogLock.close.Goals as goal

pub value_of-requires : goal.value_of-requires
value_of-requires g c =
    let f = c.close_with-closed.ensures.values.2 in
    let h = closes _ _ _ _ _ f.0 f.1.0 _ _ f.1.1 c.args.pass.idle c.args.pass.live c.requires.all in
    (h.0, some-injective _ _ (sym c.take-slot.ensures.value ∙ f.4 0 (Some h.0) (ap (λ hs. get_elem? hs 0) h.1)))

pub returns-clause-base : goal.returns-clause-base
returns-clause-base g c =
    let f = c.close_with-closed.ensures.values.2 in
    let h = closes _ _ _ _ _ f.0 f.1.0 _ _ f.1.1 c.args.pass.idle c.args.pass.live c.requires.all in
    let e = some-injective _ _ (sym c.take-slot.ensures.value ∙ f.4 0 (Some h.0) (ap (λ hs. get_elem? hs 0) h.1)) in
    h.3 ∙ ap (λ v. Some (g.V.Logged.base v)) (some_of h.0 c.value_of.result (sym e ∙ c.value_of.ensures))

pub returns-clause-log : goal.returns-clause-log
returns-clause-log g c =
    let f = c.close_with-closed.ensures.values.2 in
    let h = closes _ _ _ _ _ f.0 f.1.0 _ _ f.1.1 c.args.pass.idle c.args.pass.live c.requires.all in
    let e = some-injective _ _ (sym c.take-slot.ensures.value ∙ f.4 0 (Some h.0) (ap (λ hs. get_elem? hs 0) h.1)) in
    ap g.V.Logged.entries (sym (some_of h.0 c.value_of.result (sym e ∙ c.value_of.ensures))) ∙ h.2

pub returns-clause-makers : goal.returns-clause-makers
returns-clause-makers g c =
    let f = c.close_with-closed.ensures.values.2 in
    let h = closes _ _ _ _ _ f.0 f.1.0 _ _ f.1.1 c.args.pass.idle c.args.pass.live c.requires.all in
    let e = some-injective _ _ (sym c.take-slot.ensures.value ∙ f.4 0 (Some h.0) (ap (λ hs. get_elem? hs 0) h.1)) in
    let log = ap g.V.Logged.entries (sym (some_of h.0 c.value_of.result (sym e ∙ c.value_of.ensures))) ∙ h.2 in
    subst (All (λ x. g.V.Logged.maker x < c.args.pass.seat.me.0.knows.count)) (sym log) h.4
