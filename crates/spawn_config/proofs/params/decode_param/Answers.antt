use Rattle.std.proofs.Common.{◌≡◌, ℕ, ◌<◌, ◌^◌, List, All, get_or, ap, sym, ◌∙◌, subst, arith, rules}
use Rattle.std.proofs.lemmas.List.{take_rest}
use Rattle.host_port.specs.TypedValue.{TypedValue}
use Rattle.spawn_config.specs.Spelling.{IsValueOf, param_bytes}
use Rattle.spawn_config.proofs.Texts.{spells_i32, spells_i64}
use Rattle.spawn_config.proofs.params.decode_param.Goals as goal

pub returns-else-not-are_zero : goal.returns-else-not-are_zero
returns-else-not-are_zero c =
    let first : get_or c.args.bytes.now 0 0 ≡ 126 = search rules in
    let zero = subst (λ (xs : List ℕ). All (λ x. x ≡ 0) xs) (take_rest c.args.bytes.now 9)
    (c.are_zero.ensures.0 c.if-not-are_zero.false) in
    let text = spells_i64 c.args.bytes.now c.from_le_bytes-value.result c.requires first zero
    (λ i. (c.type_inv.bytes i).fits) c.from_le_bytes-value.ensures in
    let small : c.from_le_bytes-value.result < 2 ^ 64 = c.from_le_bytes-value.type_inv in (
      text ∙ ap param_bytes (sym c.new.ensures),
      subst (λ (p : TypedValue). IsValueOf p.num p.value) (sym c.new.ensures) small,
    )

pub returns-else-not-are_zero-2 : goal.returns-else-not-are_zero-2
returns-else-not-are_zero-2 c =
    let first : get_or c.args.bytes.now 0 0 ≡ 127 = search rules in
    let zero = subst (λ (xs : List ℕ). All (λ x. x ≡ 0) xs) (take_rest c.args.bytes.now 5)
    (c.are_zero-in-127.ensures.0 c.if-not-are_zero-2.false) in
    let text = spells_i32 c.args.bytes.now c.from.result c.requires first zero
    (λ i. (c.type_inv.bytes i).fits) (c.from.ensures ∙ c.from_le_bytes-value-in-127.ensures) in
    let same : c.from.result ≡ c.from_le_bytes-value-in-127.result = c.from.ensures in
    let read : c.from_le_bytes-value-in-127.result < 4294967296 = c.from_le_bytes-value-in-127.type_inv in
    let small : c.from.result < 2 ^ 32 = omega (arith, same, read) in (
      text ∙ ap param_bytes (sym c.new-in-127.ensures),
      subst (λ (p : TypedValue). IsValueOf p.num p.value) (sym c.new-in-127.ensures) small,
    )
