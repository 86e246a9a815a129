use Rattle.std.proofs.Common.{◌≡◌, ℕ, List, [], ◌∷◌, ◌++◌, map, Any, true, ap, sym, subst, ◌∙◌}
use Rattle.std.specs.Arc.{arc_value}
use Rattle.script_engine.specs.declared.script.Script.{Script}
use Rattle.node_state.specs.Rows.{AllHaveRows}
use Rattle.lunatic_cli.specs.Scripts.{are_served}
use Rattle.lunatic_cli.proofs.ScriptRows.{served-script}
use Rattle.lunatic_cli.proofs.tests.script_node.Goals as goal

-- a script whose asks are served is the only program
served_alone : {A : Type 0} (value : A → Script) (items before : List A) (x : A) (script : Script) → items ≡ before ++ x ∷ [] → before ≡ [] →
    value x ≡ script → are_served script.asks.items ≡ true →
    AllHaveRows (λ (s : Script) (call : ℕ). Any (λ ask. ask.call ≡ call) s.asks.items) (map value items)
served_alone {A = A} value items before x script added empty is all =
    let here : items ≡ x ∷ [] = added ∙ ap (λ (l : List A). l ++ x ∷ []) empty in
    let programs : map value items ≡ script ∷ [] = ap (λ (l : List A). map value l) here ∙ ap (λ (s : Script). s ∷ []) is in
    let P : List Script → Type 0 = λ l. AllHaveRows (λ (s : Script) (call : ℕ). Any (λ ask. ask.call ≡ call) s.asks.items) l in
    subst P (sym programs) (served-script script all)

pub new-requires-2-clause-rows : goal.new-requires-2-clause-rows
new-requires-2-clause-rows g c κs within = served_alone arc_value _ _ _ _ c.in_ok-push.ensures.items c.new-programs.ensures.items c.in_ok-new.ensures.ok c.requires
