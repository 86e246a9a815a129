-- The least rule that is broken, where the rules are judged in their order.
use Rattle.std.proofs.Common.{◌≡◌, ℕ, ◌<◌, refl, arith}
use Rattle.wasm_form.specs.declared.parts.Parts.{Parts}
use Rattle.wasm_form.specs.Profile.{Host, ProfileRule, NoFloat, FunctionsAlone, Offered, TypedAsOffered, SmallMemories, SmallTables, FewLocals, FewGlobals, FewParameters, profile_number, IsInside, IsInProfile}
use Rattle.wasm_form.specs.Validity.{ModuleRule, SingleResults, FunctionTypes, OneTable, OneMemory, Limits, ConstantGlobals, Exported, DistinctNames, Start, Elements, Segments, rule_number, Keeps, KeepsRules}
use Rattle.wasm_form.specs.Verdict.{IsOutside}
use Rattle.module_validator.specs.Order.{IsLeastBroken}

-- the rules below a number, one after another
module _ (P : ProfileRule → Type 0) (n : ℕ) where
  each_below : (1 < n → P NoFloat) → (2 < n → P FunctionsAlone) → (3 < n → P Offered) → (4 < n → P TypedAsOffered) → (5 < n → P SmallMemories) → (6 < n → P SmallTables) → (7 < n → P FewLocals) → (8 < n → P FewGlobals) → (9 < n → P FewParameters) → (rule : ProfileRule) → profile_number rule < n → P rule
  each_below h1 h2 h3 h4 h5 h6 h7 h8 h9 NoFloat less = h1 less
  each_below h1 h2 h3 h4 h5 h6 h7 h8 h9 FunctionsAlone less = h2 less
  each_below h1 h2 h3 h4 h5 h6 h7 h8 h9 Offered less = h3 less
  each_below h1 h2 h3 h4 h5 h6 h7 h8 h9 TypedAsOffered less = h4 less
  each_below h1 h2 h3 h4 h5 h6 h7 h8 h9 SmallMemories less = h5 less
  each_below h1 h2 h3 h4 h5 h6 h7 h8 h9 SmallTables less = h6 less
  each_below h1 h2 h3 h4 h5 h6 h7 h8 h9 FewLocals less = h7 less
  each_below h1 h2 h3 h4 h5 h6 h7 h8 h9 FewGlobals less = h8 less
  each_below h1 h2 h3 h4 h5 h6 h7 h8 h9 FewParameters less = h9 less

module _ (host : Host) (m : Parts) where
  pub outside_1 : ¬ IsInside host m NoFloat → IsOutside host m 1
  outside_1 broken = record { rule = NoFloat; numbered = refl; broken = broken; least = each_below (IsInside host m) 1 (λ less. absurd (omega arith)) (λ less. absurd (omega arith)) (λ less. absurd (omega arith)) (λ less. absurd (omega arith)) (λ less. absurd (omega arith)) (λ less. absurd (omega arith)) (λ less. absurd (omega arith)) (λ less. absurd (omega arith)) (λ less. absurd (omega arith)) }

  pub outside_2 : IsInside host m NoFloat → ¬ IsInside host m FunctionsAlone → IsOutside host m 2
  outside_2 h1 broken = record { rule = FunctionsAlone; numbered = refl; broken = broken; least = each_below (IsInside host m) 2 (λ _. h1) (λ less. absurd (omega arith)) (λ less. absurd (omega arith)) (λ less. absurd (omega arith)) (λ less. absurd (omega arith)) (λ less. absurd (omega arith)) (λ less. absurd (omega arith)) (λ less. absurd (omega arith)) (λ less. absurd (omega arith)) }

  pub outside_3 : IsInside host m NoFloat → IsInside host m FunctionsAlone → ¬ IsInside host m Offered → IsOutside host m 3
  outside_3 h1 h2 broken = record { rule = Offered; numbered = refl; broken = broken; least = each_below (IsInside host m) 3 (λ _. h1) (λ _. h2) (λ less. absurd (omega arith)) (λ less. absurd (omega arith)) (λ less. absurd (omega arith)) (λ less. absurd (omega arith)) (λ less. absurd (omega arith)) (λ less. absurd (omega arith)) (λ less. absurd (omega arith)) }

  pub outside_4 : IsInside host m NoFloat → IsInside host m FunctionsAlone → IsInside host m Offered → ¬ IsInside host m TypedAsOffered → IsOutside host m 4
  outside_4 h1 h2 h3 broken = record { rule = TypedAsOffered; numbered = refl; broken = broken; least = each_below (IsInside host m) 4 (λ _. h1) (λ _. h2) (λ _. h3) (λ less. absurd (omega arith)) (λ less. absurd (omega arith)) (λ less. absurd (omega arith)) (λ less. absurd (omega arith)) (λ less. absurd (omega arith)) (λ less. absurd (omega arith)) }

  pub outside_5 : IsInside host m NoFloat → IsInside host m FunctionsAlone → IsInside host m Offered → IsInside host m TypedAsOffered → ¬ IsInside host m SmallMemories → IsOutside host m 5
  outside_5 h1 h2 h3 h4 broken = record { rule = SmallMemories; numbered = refl; broken = broken; least = each_below (IsInside host m) 5 (λ _. h1) (λ _. h2) (λ _. h3) (λ _. h4) (λ less. absurd (omega arith)) (λ less. absurd (omega arith)) (λ less. absurd (omega arith)) (λ less. absurd (omega arith)) (λ less. absurd (omega arith)) }

  pub outside_6 : IsInside host m NoFloat → IsInside host m FunctionsAlone → IsInside host m Offered → IsInside host m TypedAsOffered → IsInside host m SmallMemories → ¬ IsInside host m SmallTables → IsOutside host m 6
  outside_6 h1 h2 h3 h4 h5 broken = record { rule = SmallTables; numbered = refl; broken = broken; least = each_below (IsInside host m) 6 (λ _. h1) (λ _. h2) (λ _. h3) (λ _. h4) (λ _. h5) (λ less. absurd (omega arith)) (λ less. absurd (omega arith)) (λ less. absurd (omega arith)) (λ less. absurd (omega arith)) }

  pub outside_7 : IsInside host m NoFloat → IsInside host m FunctionsAlone → IsInside host m Offered → IsInside host m TypedAsOffered → IsInside host m SmallMemories → IsInside host m SmallTables → ¬ IsInside host m FewLocals → IsOutside host m 7
  outside_7 h1 h2 h3 h4 h5 h6 broken = record { rule = FewLocals; numbered = refl; broken = broken; least = each_below (IsInside host m) 7 (λ _. h1) (λ _. h2) (λ _. h3) (λ _. h4) (λ _. h5) (λ _. h6) (λ less. absurd (omega arith)) (λ less. absurd (omega arith)) (λ less. absurd (omega arith)) }

  pub outside_8 : IsInside host m NoFloat → IsInside host m FunctionsAlone → IsInside host m Offered → IsInside host m TypedAsOffered → IsInside host m SmallMemories → IsInside host m SmallTables → IsInside host m FewLocals → ¬ IsInside host m FewGlobals → IsOutside host m 8
  outside_8 h1 h2 h3 h4 h5 h6 h7 broken = record { rule = FewGlobals; numbered = refl; broken = broken; least = each_below (IsInside host m) 8 (λ _. h1) (λ _. h2) (λ _. h3) (λ _. h4) (λ _. h5) (λ _. h6) (λ _. h7) (λ less. absurd (omega arith)) (λ less. absurd (omega arith)) }

  pub outside_9 : IsInside host m NoFloat → IsInside host m FunctionsAlone → IsInside host m Offered → IsInside host m TypedAsOffered → IsInside host m SmallMemories → IsInside host m SmallTables → IsInside host m FewLocals → IsInside host m FewGlobals → ¬ IsInside host m FewParameters → IsOutside host m 9
  outside_9 h1 h2 h3 h4 h5 h6 h7 h8 broken = record { rule = FewParameters; numbered = refl; broken = broken; least = each_below (IsInside host m) 9 (λ _. h1) (λ _. h2) (λ _. h3) (λ _. h4) (λ _. h5) (λ _. h6) (λ _. h7) (λ _. h8) (λ less. absurd (omega arith)) }

  pub inside_all : IsInside host m NoFloat → IsInside host m FunctionsAlone → IsInside host m Offered → IsInside host m TypedAsOffered → IsInside host m SmallMemories → IsInside host m SmallTables → IsInside host m FewLocals → IsInside host m FewGlobals → IsInside host m FewParameters → IsInProfile host m
  inside_all h1 h2 h3 h4 h5 h6 h7 h8 h9 NoFloat = h1
  inside_all h1 h2 h3 h4 h5 h6 h7 h8 h9 FunctionsAlone = h2
  inside_all h1 h2 h3 h4 h5 h6 h7 h8 h9 Offered = h3
  inside_all h1 h2 h3 h4 h5 h6 h7 h8 h9 TypedAsOffered = h4
  inside_all h1 h2 h3 h4 h5 h6 h7 h8 h9 SmallMemories = h5
  inside_all h1 h2 h3 h4 h5 h6 h7 h8 h9 SmallTables = h6
  inside_all h1 h2 h3 h4 h5 h6 h7 h8 h9 FewLocals = h7
  inside_all h1 h2 h3 h4 h5 h6 h7 h8 h9 FewGlobals = h8
  inside_all h1 h2 h3 h4 h5 h6 h7 h8 h9 FewParameters = h9

-- the rules below a number, one after another
module _ (P : ModuleRule → Type 0) (n : ℕ) where
  each_rule_below : (1 < n → P SingleResults) → (2 < n → P FunctionTypes) → (3 < n → P OneTable) → (4 < n → P OneMemory) → (5 < n → P Limits) → (6 < n → P ConstantGlobals) → (7 < n → P Exported) → (8 < n → P DistinctNames) → (9 < n → P Start) → (10 < n → P Elements) → (11 < n → P Segments) → (rule : ModuleRule) → rule_number rule < n → P rule
  each_rule_below h1 h2 h3 h4 h5 h6 h7 h8 h9 h10 h11 SingleResults less = h1 less
  each_rule_below h1 h2 h3 h4 h5 h6 h7 h8 h9 h10 h11 FunctionTypes less = h2 less
  each_rule_below h1 h2 h3 h4 h5 h6 h7 h8 h9 h10 h11 OneTable less = h3 less
  each_rule_below h1 h2 h3 h4 h5 h6 h7 h8 h9 h10 h11 OneMemory less = h4 less
  each_rule_below h1 h2 h3 h4 h5 h6 h7 h8 h9 h10 h11 Limits less = h5 less
  each_rule_below h1 h2 h3 h4 h5 h6 h7 h8 h9 h10 h11 ConstantGlobals less = h6 less
  each_rule_below h1 h2 h3 h4 h5 h6 h7 h8 h9 h10 h11 Exported less = h7 less
  each_rule_below h1 h2 h3 h4 h5 h6 h7 h8 h9 h10 h11 DistinctNames less = h8 less
  each_rule_below h1 h2 h3 h4 h5 h6 h7 h8 h9 h10 h11 Start less = h9 less
  each_rule_below h1 h2 h3 h4 h5 h6 h7 h8 h9 h10 h11 Elements less = h10 less
  each_rule_below h1 h2 h3 h4 h5 h6 h7 h8 h9 h10 h11 Segments less = h11 less

module _ (m : Parts) where
  pub breaks_1 : ¬ Keeps m SingleResults → IsLeastBroken m 1
  breaks_1 broken = record { rule = SingleResults; numbered = refl; broken = broken; least = each_rule_below (Keeps m) 1 (λ less. absurd (omega arith)) (λ less. absurd (omega arith)) (λ less. absurd (omega arith)) (λ less. absurd (omega arith)) (λ less. absurd (omega arith)) (λ less. absurd (omega arith)) (λ less. absurd (omega arith)) (λ less. absurd (omega arith)) (λ less. absurd (omega arith)) (λ less. absurd (omega arith)) (λ less. absurd (omega arith)) }

  pub breaks_2 : Keeps m SingleResults → ¬ Keeps m FunctionTypes → IsLeastBroken m 2
  breaks_2 h1 broken = record { rule = FunctionTypes; numbered = refl; broken = broken; least = each_rule_below (Keeps m) 2 (λ _. h1) (λ less. absurd (omega arith)) (λ less. absurd (omega arith)) (λ less. absurd (omega arith)) (λ less. absurd (omega arith)) (λ less. absurd (omega arith)) (λ less. absurd (omega arith)) (λ less. absurd (omega arith)) (λ less. absurd (omega arith)) (λ less. absurd (omega arith)) (λ less. absurd (omega arith)) }

  pub breaks_3 : Keeps m SingleResults → Keeps m FunctionTypes → ¬ Keeps m OneTable → IsLeastBroken m 3
  breaks_3 h1 h2 broken = record { rule = OneTable; numbered = refl; broken = broken; least = each_rule_below (Keeps m) 3 (λ _. h1) (λ _. h2) (λ less. absurd (omega arith)) (λ less. absurd (omega arith)) (λ less. absurd (omega arith)) (λ less. absurd (omega arith)) (λ less. absurd (omega arith)) (λ less. absurd (omega arith)) (λ less. absurd (omega arith)) (λ less. absurd (omega arith)) (λ less. absurd (omega arith)) }

  pub breaks_4 : Keeps m SingleResults → Keeps m FunctionTypes → Keeps m OneTable → ¬ Keeps m OneMemory → IsLeastBroken m 4
  breaks_4 h1 h2 h3 broken = record { rule = OneMemory; numbered = refl; broken = broken; least = each_rule_below (Keeps m) 4 (λ _. h1) (λ _. h2) (λ _. h3) (λ less. absurd (omega arith)) (λ less. absurd (omega arith)) (λ less. absurd (omega arith)) (λ less. absurd (omega arith)) (λ less. absurd (omega arith)) (λ less. absurd (omega arith)) (λ less. absurd (omega arith)) (λ less. absurd (omega arith)) }

  pub breaks_5 : Keeps m SingleResults → Keeps m FunctionTypes → Keeps m OneTable → Keeps m OneMemory → ¬ Keeps m Limits → IsLeastBroken m 5
  breaks_5 h1 h2 h3 h4 broken = record { rule = Limits; numbered = refl; broken = broken; least = each_rule_below (Keeps m) 5 (λ _. h1) (λ _. h2) (λ _. h3) (λ _. h4) (λ less. absurd (omega arith)) (λ less. absurd (omega arith)) (λ less. absurd (omega arith)) (λ less. absurd (omega arith)) (λ less. absurd (omega arith)) (λ less. absurd (omega arith)) (λ less. absurd (omega arith)) }

  pub breaks_6 : Keeps m SingleResults → Keeps m FunctionTypes → Keeps m OneTable → Keeps m OneMemory → Keeps m Limits → ¬ Keeps m ConstantGlobals → IsLeastBroken m 6
  breaks_6 h1 h2 h3 h4 h5 broken = record { rule = ConstantGlobals; numbered = refl; broken = broken; least = each_rule_below (Keeps m) 6 (λ _. h1) (λ _. h2) (λ _. h3) (λ _. h4) (λ _. h5) (λ less. absurd (omega arith)) (λ less. absurd (omega arith)) (λ less. absurd (omega arith)) (λ less. absurd (omega arith)) (λ less. absurd (omega arith)) (λ less. absurd (omega arith)) }

  pub breaks_7 : Keeps m SingleResults → Keeps m FunctionTypes → Keeps m OneTable → Keeps m OneMemory → Keeps m Limits → Keeps m ConstantGlobals → ¬ Keeps m Exported → IsLeastBroken m 7
  breaks_7 h1 h2 h3 h4 h5 h6 broken = record { rule = Exported; numbered = refl; broken = broken; least = each_rule_below (Keeps m) 7 (λ _. h1) (λ _. h2) (λ _. h3) (λ _. h4) (λ _. h5) (λ _. h6) (λ less. absurd (omega arith)) (λ less. absurd (omega arith)) (λ less. absurd (omega arith)) (λ less. absurd (omega arith)) (λ less. absurd (omega arith)) }

  pub breaks_8 : Keeps m SingleResults → Keeps m FunctionTypes → Keeps m OneTable → Keeps m OneMemory → Keeps m Limits → Keeps m ConstantGlobals → Keeps m Exported → ¬ Keeps m DistinctNames → IsLeastBroken m 8
  breaks_8 h1 h2 h3 h4 h5 h6 h7 broken = record { rule = DistinctNames; numbered = refl; broken = broken; least = each_rule_below (Keeps m) 8 (λ _. h1) (λ _. h2) (λ _. h3) (λ _. h4) (λ _. h5) (λ _. h6) (λ _. h7) (λ less. absurd (omega arith)) (λ less. absurd (omega arith)) (λ less. absurd (omega arith)) (λ less. absurd (omega arith)) }

  pub breaks_9 : Keeps m SingleResults → Keeps m FunctionTypes → Keeps m OneTable → Keeps m OneMemory → Keeps m Limits → Keeps m ConstantGlobals → Keeps m Exported → Keeps m DistinctNames → ¬ Keeps m Start → IsLeastBroken m 9
  breaks_9 h1 h2 h3 h4 h5 h6 h7 h8 broken = record { rule = Start; numbered = refl; broken = broken; least = each_rule_below (Keeps m) 9 (λ _. h1) (λ _. h2) (λ _. h3) (λ _. h4) (λ _. h5) (λ _. h6) (λ _. h7) (λ _. h8) (λ less. absurd (omega arith)) (λ less. absurd (omega arith)) (λ less. absurd (omega arith)) }

  pub breaks_10 : Keeps m SingleResults → Keeps m FunctionTypes → Keeps m OneTable → Keeps m OneMemory → Keeps m Limits → Keeps m ConstantGlobals → Keeps m Exported → Keeps m DistinctNames → Keeps m Start → ¬ Keeps m Elements → IsLeastBroken m 10
  breaks_10 h1 h2 h3 h4 h5 h6 h7 h8 h9 broken = record { rule = Elements; numbered = refl; broken = broken; least = each_rule_below (Keeps m) 10 (λ _. h1) (λ _. h2) (λ _. h3) (λ _. h4) (λ _. h5) (λ _. h6) (λ _. h7) (λ _. h8) (λ _. h9) (λ less. absurd (omega arith)) (λ less. absurd (omega arith)) }

  pub breaks_11 : Keeps m SingleResults → Keeps m FunctionTypes → Keeps m OneTable → Keeps m OneMemory → Keeps m Limits → Keeps m ConstantGlobals → Keeps m Exported → Keeps m DistinctNames → Keeps m Start → Keeps m Elements → ¬ Keeps m Segments → IsLeastBroken m 11
  breaks_11 h1 h2 h3 h4 h5 h6 h7 h8 h9 h10 broken = record { rule = Segments; numbered = refl; broken = broken; least = each_rule_below (Keeps m) 11 (λ _. h1) (λ _. h2) (λ _. h3) (λ _. h4) (λ _. h5) (λ _. h6) (λ _. h7) (λ _. h8) (λ _. h9) (λ _. h10) (λ less. absurd (omega arith)) }

  pub keeps_all : Keeps m SingleResults → Keeps m FunctionTypes → Keeps m OneTable → Keeps m OneMemory → Keeps m Limits → Keeps m ConstantGlobals → Keeps m Exported → Keeps m DistinctNames → Keeps m Start → Keeps m Elements → Keeps m Segments → KeepsRules m
  keeps_all h1 h2 h3 h4 h5 h6 h7 h8 h9 h10 h11 SingleResults = h1
  keeps_all h1 h2 h3 h4 h5 h6 h7 h8 h9 h10 h11 FunctionTypes = h2
  keeps_all h1 h2 h3 h4 h5 h6 h7 h8 h9 h10 h11 OneTable = h3
  keeps_all h1 h2 h3 h4 h5 h6 h7 h8 h9 h10 h11 OneMemory = h4
  keeps_all h1 h2 h3 h4 h5 h6 h7 h8 h9 h10 h11 Limits = h5
  keeps_all h1 h2 h3 h4 h5 h6 h7 h8 h9 h10 h11 ConstantGlobals = h6
  keeps_all h1 h2 h3 h4 h5 h6 h7 h8 h9 h10 h11 Exported = h7
  keeps_all h1 h2 h3 h4 h5 h6 h7 h8 h9 h10 h11 DistinctNames = h8
  keeps_all h1 h2 h3 h4 h5 h6 h7 h8 h9 h10 h11 Start = h9
  keeps_all h1 h2 h3 h4 h5 h6 h7 h8 h9 h10 h11 Elements = h10
  keeps_all h1 h2 h3 h4 h5 h6 h7 h8 h9 h10 h11 Segments = h11
