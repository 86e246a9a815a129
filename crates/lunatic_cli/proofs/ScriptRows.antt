use Rattle.std.proofs.Common.{◌≡◌, ℕ, zero, suc, ◌&&◌, ◌||◌, List, [], ◌∷◌, Bool, true, false, nat_eq, Any, IsSome, is_some, Some, slice_get, refl, ap, subst, ◌∙◌, arith}
use Rattle.std.specs.List.{list_all, list_any}
use Rattle.std.proofs.lemmas.Bool.Decides.{nat_tests}
use Rattle.std.proofs.lemmas.List.Folds.{list_all_at}
use Rattle.host_port.specs.declared.ask.Ask.{Ask}
use Rattle.host_port.specs.HostTable.{row_of, all_rows, is_served, served}
use Rattle.script_engine.specs.declared.script.Script.{Script}
use Rattle.node_state.specs.Rows.{AllHaveRows}
use Rattle.lunatic_cli.specs.Scripts.{are_served}

-- What a script asks.

both : (a b : Bool) → (a && b) ≡ true → (a ≡ true) × (b ≡ true)
both true true e = (refl, refl)
both true false e = absurd (cc)
both false b e = absurd (cc)

true_unless : (b : Bool) → (b ≡ false → ⊥) → b ≡ true
true_unless true no' = refl
true_unless false no' = absurd (no' refl)

-- each call that is asked has a row, where each ask has one
asked-row : (asks : List Ask) (call : ℕ) → list_all (λ ask. is_some (row_of ask.call)) asks ≡ true → Any (λ ask. ask.call ≡ call) asks → IsSome (row_of call)
asked-row asks call all any =
    let test : Ask → Bool = λ ask. is_some (row_of ask.call) in
    let there : test any.1 ≡ true = true_unless (test any.1) (λ no'. let h = list_all_at test asks any.0 any.1 any.2 (ap test any.3 ∙ no') in cc) in
    subst (λ (n : ℕ). IsSome (row_of n)) any.4 there

-- what is served has a row

have_rows : list_all (λ number. is_some (row_of number)) served ≡ true
unfolding row_of all_rows is_served
have_rows = refl

here_or_later : (number call : ℕ) (numbers : List ℕ) (here : Bool) → nat_eq number call ≡ here → is_some (row_of number) ≡ true →
    (list_any (λ n. nat_eq n call) numbers ≡ true → is_some (row_of call) ≡ true) → (here || list_any (λ n. nat_eq n call) numbers) ≡ true → is_some (row_of call) ≡ true
here_or_later number call numbers true e row later any = let same : number ≡ call = grind (arith, nat_tests) in subst (λ (n : ℕ). is_some (row_of n) ≡ true) same row
here_or_later number call numbers false e row later any = later any

served_row : (numbers : List ℕ) (call : ℕ) → list_all (λ number. is_some (row_of number)) numbers ≡ true → list_any (λ n. nat_eq n call) numbers ≡ true → is_some (row_of call) ≡ true
served_row [] call all any = absurd (cc)
served_row (number ∷ numbers) call all any =
    let two = both (is_some (row_of number)) (list_all (λ n. is_some (row_of n)) numbers) all in
    here_or_later number call numbers (nat_eq number call) refl two.0 (served_row numbers call two.1) any

pub served-asks : (asks : List Ask) → are_served asks ≡ true → list_all (λ ask. is_some (row_of ask.call)) asks ≡ true
served-asks [] all = refl
served-asks (ask ∷ asks) all =
    let two = both (list_any (λ number. nat_eq number ask.call) served) (are_served asks) all in
    rw (served_row served ask.call have_rows two.0) (served-asks asks two.1)

some_script : (x y : Script) → Some x ≡ Some y → x ≡ y
some_script x y e = cc

only_script : (script program : Script) (k : ℕ) → slice_get (script ∷ []) k ≡ Some program → script ≡ program
only_script script program zero found = some_script script program found
only_script script program (suc k) found = let no' : ⊥ = cc in absurd no'

-- a script whose asks have rows, alone
pub script-rows : (script : Script) → list_all (λ ask. is_some (row_of ask.call)) script.asks.items ≡ true →
    AllHaveRows (λ (s : Script) (call : ℕ). Any (λ ask. ask.call ≡ call) s.asks.items) (script ∷ [])
script-rows script all k program found call any =
    let is : script ≡ program = only_script script program k found in
    asked-row program.asks.items call (subst (λ (s : Script). list_all (λ ask. is_some (row_of ask.call)) s.asks.items ≡ true) is all) any

-- a script whose asks are served, alone
pub served-script : (script : Script) → are_served script.asks.items ≡ true →
    AllHaveRows (λ (s : Script) (call : ℕ). Any (λ ask. ask.call ≡ call) s.asks.items) (script ∷ [])
served-script script all = script-rows script (served-asks script.asks.items all)
