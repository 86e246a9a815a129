use Rattle.std.proofs.Common.{ℕ, eqb, ap, sym, ◌∙◌, arith}
use Rattle.std.specs.List.{position}
use Rattle.tagged_mailbox.proofs.Firsts.{none_from_position}
use Rattle.tagged_mailbox.proofs.PlaceLemmas.{uses_place}
use Rattle.tagged_mailbox.proofs.places.use_place.Goals as goal

pub returns-in-None : goal.returns-in-None
returns-in-None c =
    let none = none_from_position (λ (place : ℕ). eqb place c.args.tag) c.args.places.now.items
    (ap (position (λ (place : ℕ). eqb place c.args.tag)) (sym c.deref.ensures.value) ∙ sym c.place_of.ensures
    ∙ c.in-None.is) in
    absurd (omega (arith, none.count, c.requires))

pub returns-in-Some-clause-used : goal.returns-in-Some-clause-used
returns-in-Some-clause-used c =
    uses_place c.args.places.now.items c.remove.new.self.items c.args.tag c.in-Some.index
    (ap (position (λ (place : ℕ). eqb place c.args.tag)) (sym c.deref.ensures.value) ∙ sym c.place_of.ensures
    ∙ c.in-Some.is)
    c.remove.ensures.items
