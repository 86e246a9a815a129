use Rattle.std.proofs.Common.{refl, arith, ◌∙◌, ap, sym, subst, ◌≡◌, ◌*◌, ◌%◌, List, ℕ, length, slice_index}
use Rattle.host_port.specs.Areas.{bytes_at}
use Rattle.world_rules.specs.Mail.{is_wanted, tags_in}
use Rattle.process_store.proofs.Tags.{same-wanted}
use Rattle.process_store.proofs.Wanting.{tags_area, tags-within, tags-first, tags-whole}
use Rattle.process_store.proofs.waking.wants.Goals as goal

pub overflow_cast-ask : goal.overflow_cast-ask
overflow_cast-ask g c =
    let within = tags-within (g.E.Engine.memory c.args.engine.now) c.args.ask.now c.requires.receive c.requires.fitting.fits in
    let whole = c.pages-pages.ensures.whole in
    let few = c.pages-pages.ensures.few in
    omega (arith, within, whole, few)

pub overflow_mul-ask : goal.overflow_mul-ask
overflow_mul-ask g c =
    let within = tags-within (g.E.Engine.memory c.args.engine.now) c.args.ask.now c.requires.receive c.requires.fitting.fits in
    let whole = c.pages-pages.ensures.whole in
    let few = c.pages-pages.ensures.few in
    omega (arith, within, whole, few)

pub overflow_cast-ask-2 : goal.overflow_cast-ask-2
overflow_cast-ask-2 g c =
    let within = tags-within (g.E.Engine.memory c.args.engine.now) c.args.ask.now c.requires.receive c.requires.fitting.fits in
    let whole = c.pages-pages.ensures.whole in
    let few = c.pages-pages.ensures.few in
    omega (arith, within, whole, few)

pub unreachable-requires : goal.unreachable-requires
unreachable-requires g c =
    let within = tags-within (g.E.Engine.memory c.args.engine.now) c.args.ask.now c.requires.receive c.requires.fitting.fits in
    let past = c.in-None.ensures in
    omega (arith, within, past)

pub returns : goal.returns
returns g c =
    let memory : List ℕ = g.E.Engine.memory c.args.engine.now in
    let fits = c.requires.fitting.fits in
    let first = tags-first memory c.args.ask.now c.requires.receive fits in
    let times : slice_index c.args.ask.now.args 1 * 8 ≡ 8 * slice_index c.args.ask.now.args 1 = omega arith in
    let read : c.in-Some.tags.now ≡ bytes_at memory (tags_area c.args.ask.now) =
    c.in-Some.ensures.1 ∙ ap (λ (n : ℕ). bytes_at memory (record { addr = slice_index c.args.ask.now.args 0; len = n })) times in
    let whole = subst (λ (bytes : List ℕ). length bytes % 8 ≡ 0) (sym read) (tags-whole memory c.args.ask.now c.requires.receive fits) in
    c.is_wanted.ensures ∙ same-wanted c.in-Some.tags.now c.args.tag whole ∙ ap (λ (bytes : List ℕ). is_wanted (tags_in bytes) c.args.tag) (read ∙ sym first)
