use Rattle.std.proofs.Common.{sym, ◌∙◌}
use Rattle.host_port.proofs.Requests.{request_is, none_fit, written_unfit, no_area, one_area, one_unfit, two_areas, first_unfit, second_unfit}
use Rattle.host_port.proofs.areas.resolve.Goals as goal

pub returns-in_default : goal.returns-in_default
returns-in_default g c =
    request_is c.fit.ensures c.new.ensures c.new-in_default.ensures (none_fit (g.E.Engine.memory c.args.engine.now) c.args.ask c.in_default.ensures)

pub returns-then-not-written_fits : goal.returns-then-not-written_fits
returns-then-not-written_fits g c =
    c.unfit.ensures ∙ sym (written_unfit (g.E.Engine.memory c.args.engine.now) c.args.ask c.in-Some.row.now c.in-Some.ensures (sym c.written_fits.ensures ∙ c.if-not-written_fits.true))

pub returns-in_default-read_area : goal.returns-in_default-read_area
returns-in_default-read_area g c =
    c.unfit-in_default-read_area.ensures ∙ sym (one_unfit (g.E.Engine.memory c.args.engine.now) c.args.ask c.in-Some.row.now c.in-OneArea.form c.in-Some.ensures c.in-OneArea.is c.in_default-read_area.ensures)

pub returns-in_default-read_area-2 : goal.returns-in_default-read_area-2
returns-in_default-read_area-2 g c =
    c.unfit-in_default-read_area-2.ensures
    ∙ sym (first_unfit (g.E.Engine.memory c.args.engine.now) c.args.ask c.in-Some.row.now c.in-TwoAreas.first c.in-TwoAreas.second c.in-Some.ensures c.in-TwoAreas.is c.in_default-read_area-2.ensures)

pub returns-in_default-read_area-3 : goal.returns-in_default-read_area-3
returns-in_default-read_area-3 g c =
    c.unfit-in_default-read_area-3.ensures
    ∙ sym (second_unfit (g.E.Engine.memory c.args.engine.now) c.args.ask c.in-Some.row.now c.in-TwoAreas.first c.in-TwoAreas.second c.in-Some.ensures c.in-TwoAreas.is c.in_default-read_area-3.ensures)

pub returns-in-NoArea : goal.returns-in-NoArea
returns-in-NoArea g c =
    request_is c.fit-in-NoArea.ensures c.new-in-NoArea.ensures c.new-in-NoArea-2.ensures
    (no_area (g.E.Engine.memory c.args.engine.now) c.args.ask c.in-Some.row.now c.in-Some.ensures (sym c.written_fits.ensures ∙ c.if-not-written_fits.false) c.in-NoArea.is)

pub returns-in_ok-copied-in-OneArea : goal.returns-in_ok-copied-in-OneArea
returns-in_ok-copied-in-OneArea g c =
    request_is c.fit-in-OneArea.ensures (c.in_ok-copied-in-OneArea.ensures ∙ c.in-Some-read_area.ensures.1) c.new-in-OneArea.ensures
    (one_area (g.E.Engine.memory c.args.engine.now) c.args.ask c.in-Some.row.now c.in-OneArea.form c.in-Some.ensures (sym c.written_fits.ensures ∙ c.if-not-written_fits.false) c.in-OneArea.is c.in-Some-read_area.ensures.0)

pub returns-in_ok-copied-in-TwoAreas-2 : goal.returns-in_ok-copied-in-TwoAreas-2
returns-in_ok-copied-in-TwoAreas-2 g c =
    request_is c.fit-in-TwoAreas.ensures (c.in_ok-copied-in-TwoAreas.ensures ∙ c.in-Some-read_area-2.ensures.1)
    (c.in_ok-copied-in-TwoAreas-2.ensures ∙ c.in-Some-read_area-3.ensures.1)
    (two_areas (g.E.Engine.memory c.args.engine.now) c.args.ask c.in-Some.row.now c.in-TwoAreas.first c.in-TwoAreas.second c.in-Some.ensures (sym c.written_fits.ensures ∙ c.if-not-written_fits.false) c.in-TwoAreas.is
    c.in-Some-read_area-2.ensures.0 c.in-Some-read_area-3.ensures.0)
