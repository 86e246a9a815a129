use Rattle.std.proofs.Common.{◌≡◌, ℕ, List, subst, sym, refl}
use Rattle.wasm_form.specs.Values.{SpellsBytes}
use Rattle.wasm_form.specs.Least.{least_bytes}
use Rattle.module_writer.specs.Writing.{HasSpelling, Appends}
use Rattle.module_writer.proofs.Appending.{appends_as}
use Rattle.module_writer.proofs.entries.NamePart.write.Goals as goal

pub write_bytes-requires : goal.write_bytes-requires
write_bytes-requires c =
    let same : c.as_bytes.result.now ≡ c.args.self.now = cc in
    subst (λ (l : List ℕ). HasSpelling SpellsBytes l) (sym same) (record { bytes = c.requires.bytes; spells = c.requires.spells.0 })

pub returns : goal.returns
returns c =
    let same : c.as_bytes.result.now ≡ c.args.self.now = cc in
    let written : Appends SpellsBytes least_bytes c.args.self.now c.args.out.now.items c.write_bytes.new.out.items =
    subst (λ (l : List ℕ). Appends SpellsBytes least_bytes l c.args.out.now.items c.write_bytes.new.out.items) same c.in_ok-write_bytes.ensures in
    appends_as _ _ _ _ _ _ _ _ written (λ s h. (h, c.requires.spells.1)) refl
