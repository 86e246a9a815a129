use Rattle.std.proofs.Common.{◌≤◌, ◌++◌, [], length, refl, ap, sym, ◌∙◌, subst}
use Rattle.wasm_form.specs.Context.{context_of}
use Rattle.wasm_form.specs.Typing.{Types}
use Rattle.body_validator.specs.Locals.{spread}
use Rattle.body_validator.proofs.Making.{made_context}
use Rattle.body_validator.proofs.module_context.ModuleContext.is_typed.Goals as goal

pub single-requires : goal.single-requires
single-requires c = subst (λ l. length l ≤ 1) (sym c.as_slice-5.ensures) c.requires.single

pub returns-clause-yes : goal.returns-clause-yes
returns-clause-yes c e tree plain flat =
    subst (λ r. Types (context_of c.args.self.now c.args.ty.now c.args.body.now.locals) tree [] r) (sym c.single.ensures ∙ c.as_slice-5.ensures)
    (c.check_code.ensures.yes e (context_of c.args.self.now c.args.ty.now c.args.body.now.locals) tree
    (made_context c.self.inside.«module».now c.args.self.now _ c.args.ty.now c.args.body.now.locals c.self.inside.functions.items c.self.inside.has_table c.self.inside.has_memory c.self.inside.globals.items c.self.view_is c.self.invariant
    c.types.ensures c.as_slice-3.ensures.value refl refl c.as_slice-4.ensures.value
    (c.in_ok-locals.ensures ∙ ap (λ l. l ++ spread c.as_slice-2.result.now) c.as_slice.ensures ∙ ap (λ l. c.args.ty.now.params ++ spread l) c.as_slice-2.ensures)
    (sym c.as_slice-5.ensures ∙ c.single.ensures)) plain flat)

pub returns-clause-no : goal.returns-clause-no
returns-clause-no c e tree plain flat typed =
    c.check_code.ensures.no e (context_of c.args.self.now c.args.ty.now c.args.body.now.locals) tree
    (made_context c.self.inside.«module».now c.args.self.now _ c.args.ty.now c.args.body.now.locals c.self.inside.functions.items c.self.inside.has_table c.self.inside.has_memory c.self.inside.globals.items c.self.view_is c.self.invariant
    c.types.ensures c.as_slice-3.ensures.value refl refl c.as_slice-4.ensures.value
    (c.in_ok-locals.ensures ∙ ap (λ l. l ++ spread c.as_slice-2.result.now) c.as_slice.ensures ∙ ap (λ l. c.args.ty.now.params ++ spread l) c.as_slice-2.ensures)
    (sym c.as_slice-5.ensures ∙ c.single.ensures)) plain flat
    (subst (λ r. Types (context_of c.args.self.now c.args.ty.now c.args.body.now.locals) tree [] r) (sym (sym c.single.ensures ∙ c.as_slice-5.ensures)) typed)
