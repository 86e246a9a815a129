use Rattle.std.proofs.Common.{Some, get_or, remove, position, ap, sym, ◌∙◌}
use Rattle.tagged_mailbox.specs.Pick.{is_wanted}
use Rattle.tagged_mailbox.proofs.Firsts.{find_from_position, without_from_position, none_from_position}
use Rattle.tagged_mailbox.proofs.mailbox.Mailbox.pick.Goals as goal

pub returns-in_err-index-clause-picked : goal.returns-in_err-index-clause-picked
returns-in_err-index-clause-picked g c =
    let same = c.deref.ensures.value ∙ ap (λ mail. mail.items) c.self.view_is in
    let none = none_from_position (λ item. is_wanted c.args.tags.now (g.M.Tagged.tag item)) c.args.self.now.items
    (ap (position (λ item. is_wanted c.args.tags.now (g.M.Tagged.tag item))) (sym same) ∙ sym c.first_wanted.ensures
    ∙ c.in_err-index.was) in
    c.from_residual.ensures ∙ sym none.found

pub returns-in_err-index-clause-left : goal.returns-in_err-index-clause-left
returns-in_err-index-clause-left g c =
    let same = c.deref.ensures.value ∙ ap (λ mail. mail.items) c.self.view_is in
    let none = none_from_position (λ item. is_wanted c.args.tags.now (g.M.Tagged.tag item)) c.args.self.now.items
    (ap (position (λ item. is_wanted c.args.tags.now (g.M.Tagged.tag item))) (sym same) ∙ sym c.first_wanted.ensures
    ∙ c.in_err-index.was) in
    sym none.left

pub returns-clause-picked : goal.returns-clause-picked
returns-clause-picked g c =
    let items = ap (λ mail. mail.items) c.self.view_is in
    let found = ap (position (λ item. is_wanted c.args.tags.now (g.M.Tagged.tag item)))
    (sym (c.deref.ensures.value ∙ items)) ∙ sym c.first_wanted.ensures ∙ c.in_ok-index.was in
    ap Some (c.take_out.ensures.taken ∙ ap (λ xs. get_or xs c.in_ok-index.index c.take_out.result) items)
    ∙ sym (find_from_position (λ item. is_wanted c.args.tags.now (g.M.Tagged.tag item)) c.args.self.now.items
    c.in_ok-index.index c.take_out.result found)

pub returns-clause-left : goal.returns-clause-left
returns-clause-left g c =
    let items = ap (λ mail. mail.items) c.self.view_is in
    let found = ap (position (λ item. is_wanted c.args.tags.now (g.M.Tagged.tag item)))
    (sym (c.deref.ensures.value ∙ items)) ∙ sym c.first_wanted.ensures ∙ c.in_ok-index.was in
    c.take_out.ensures.items
    ∙ ap (λ xs. remove xs c.in_ok-index.index) items
    ∙ sym (without_from_position (λ item. is_wanted c.args.tags.now (g.M.Tagged.tag item)) c.args.self.now.items
    c.in_ok-index.index c.take_out.result found)
