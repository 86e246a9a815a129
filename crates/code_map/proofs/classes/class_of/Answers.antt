use Rattle.std.proofs.Common.{◌≡◌, length, Some, refl, sym, subst}
use Rattle.std.proofs.lemmas.Option.{slice_get_read}
use Rattle.code_map.specs.Keys.{IsFirst}
use Rattle.code_map.proofs.Keys.{class_known, class_new, known, put}
use Rattle.code_map.proofs.classes.class_of.Goals as goal

pub returns-in-Some-clause-class : goal.returns-in-Some-clause-class
returns-in-Some-clause-class c = class_known c.args.types.now c.args.index c.index-types-index.result c.in_ok-key.key c.in_ok-key.ensures
    (slice_get_read c.args.types.now (length c.args.types.now) c.args.index c.index-types-index.result refl c.requires.there c.index-types-index.is) c.in-Some.first.now
    (subst (IsFirst c.args.types.now c.args.index c.index-types-index.result) (sym c.in-Some.ensures.value) (c.requires.before c.index-types-index.result c.in_ok-key.key c.in_ok-key.ensures))

pub returns-in-Some-clause-after : goal.returns-in-Some-clause-after
returns-in-Some-clause-after c = known c.args.types.now c.args.index c.index-types-index.result c.in_ok-key.key c.in_ok-key.ensures
    (slice_get_read c.args.types.now (length c.args.types.now) c.args.index c.index-types-index.result refl c.requires.there c.index-types-index.is) c.args.firsts.now c.in-Some.first.now
    c.requires.before (sym c.in-Some.ensures.value)

pub returns-clause-class : goal.returns-clause-class
returns-clause-class c = class_new c.args.types.now c.args.index c.index-types-index.result c.in_ok-key.key c.in_ok-key.ensures
    (slice_get_read c.args.types.now (length c.args.types.now) c.args.index c.index-types-index.result refl c.requires.there c.index-types-index.is)
    (subst (IsFirst c.args.types.now c.args.index c.index-types-index.result) (sym c.in_default.ensures.value) (c.requires.before c.index-types-index.result c.in_ok-key.key c.in_ok-key.ensures))

pub returns-clause-after : goal.returns-clause-after
returns-clause-after c = put c.args.types.now c.args.index c.index-types-index.result c.in_ok-key.key c.in_ok-key.ensures
    (slice_get_read c.args.types.now (length c.args.types.now) c.args.index c.index-types-index.result refl c.requires.there c.index-types-index.is) c.args.firsts.now c.insert.new.self
    c.requires.before (sym c.in_default.ensures.value) c.in_ok-insert.ensures.updates
