use Rattle.std.specs.Prelude.{◌≡◌, ℕ, ◌+◌, ◌<◌, ◌≤◌, List, [], ◌∷◌, ◌++◌, length, take, drop, slice_get, find, filter, map, cond, option_map, Option, Some, None, Bool, true, false, not, if◌then◌else◌, refl}
use Rattle.std.specs.Option.{option_flatten}
use Rattle.std.proofs.Common.{sym, ◌∙◌, ap, set, get_or, add-one, arith, length-append, length-take, length-drop}
use Rattle.std.proofs.Math.Path.{fun_ext}
use Rattle.std.proofs.Math.ListN.{drop_of_length-le}
use Rattle.std.proofs.lemmas.List.{take_all, length-map, append-nil}
use Rattle.std.proofs.lemmas.Option.{slice_get_read}
use Rattle.std.specs.Cmp.Lexicographic as Texts
use Rattle.host_port.specs.HostTable.{same_text}
use Rattle.world_rules.specs.Ends.{unless_process}
use Rattle.plain_world.specs.declared.world.PlainName.{PlainName}
use Rattle.plain_world.specs.Shown.{named_in}
use Rattle.plain_world.proofs.Finding.{find_kept, find_pushed_other, find_pushed_first, find_marked, marked_more, unmarked_yet}

-- The list of names, and what it shows.

abbrev test_of : List ℕ → PlainName → Bool
test_of text name = same_text text name.text

abbrev pub without_name : List ℕ → List PlainName → List PlainName
without_name text names = filter (λ (name : PlainName). not (same_text name.text text)) names

named_without : (names : List PlainName) (text other : List ℕ) →
    named_in (without_name text names) other ≡ (if same_text other text then None else named_in names other)
named_without names text other =
    ap (λ (o : Option PlainName). option_flatten (option_map (λ (name : PlainName). name.pid) o))
    (find_kept (test_of other) (λ (name : PlainName). not (same_text name.text text)) (not (same_text other text)) names same)
    ∙ either (same_text other text)
  where
    same : (name : PlainName) → test_of other name ≡ true → not (same_text name.text text) ≡ not (same_text other text)
    same name is = ap (λ (t : List ℕ). not (same_text t text)) (sym (Texts.same_text other name.text (sym is)))

    either : (k : Bool) → option_flatten (option_map (λ (name : PlainName). name.pid) (cond (not k) (find (test_of other) names) None))
        ≡ (if k then None else named_in names other)
    either true = refl
    either false = refl

pub names_unset : (names new : List PlainName) (text : List ℕ) (given : Option ℕ) → new ≡ without_name text names → given ≡ None →
    named_in new ≡ (λ other. if same_text other text then given else named_in names other)
names_unset names new text given is none =
    ap named_in is
    ∙ fun_ext (λ other. named_without names text other
    ∙ ap (λ (o : Option ℕ). if same_text other text then o else named_in names other) (sym none))

-- a name that was taken out isn't found
not_found : (names : List PlainName) (text other : List ℕ) → same_text other text ≡ true →
    find (test_of other) (without_name text names) ≡ None
not_found names text other is =
    find_kept (test_of other) (λ (name : PlainName). not (same_text name.text text)) (not (same_text other text)) names same
    ∙ ap (λ (t : Bool). cond (not t) (find (test_of other) names) None) is
  where
    same : (name : PlainName) → test_of other name ≡ true → not (same_text name.text text) ≡ not (same_text other text)
    same name here = ap (λ (t : List ℕ). not (same_text t text)) (sym (Texts.same_text other name.text (sym here)))

pub names_set : (names kept new : List PlainName) (text copy : List ℕ) (pid : ℕ) (given : Option ℕ) →
    kept ≡ without_name text names → copy ≡ text → new ≡ kept ++ record { text = copy; pid = Some pid } ∷ [] → given ≡ Some pid →
    named_in new ≡ (λ other. if same_text other text then given else named_in names other)
names_set names kept new text copy pid given is copied grown some =
    fun_ext (λ other. by other (same_text other text) refl
    ∙ ap (λ (o : Option ℕ). if same_text other text then o else named_in names other) (sym some))
  where
    pushed : new ≡ kept ++ record { text = text; pid = Some pid } ∷ []
    pushed = grown ∙ ap (λ (t : List ℕ). kept ++ record { text = t; pid = Some pid } ∷ []) copied

    by : (other : List ℕ) (t : Bool) → same_text other text ≡ t →
        named_in new other ≡ (if same_text other text then Some pid else named_in names other)
    by other true e =
        ap (λ (ns : List PlainName). named_in ns other) pushed
        ∙ ap (λ (o : Option PlainName). option_flatten (option_map (λ (name : PlainName). name.pid) o))
        (find_pushed_first (test_of other) kept (record { text = text; pid = Some pid }) e
        (ap (λ (ns : List PlainName). find (test_of other) ns) is ∙ not_found names text other e))
        ∙ sym (ap (λ (t : Bool). if t then Some pid else named_in names other) e)
    by other false e =
        ap (λ (ns : List PlainName). named_in ns other) pushed
        ∙ ap (λ (o : Option PlainName). option_flatten (option_map (λ (name : PlainName). name.pid) o))
        (find_pushed_other (test_of other) kept (record { text = text; pid = Some pid }) e)
        ∙ ap (λ (ns : List PlainName). named_in ns other) is ∙ named_without names text other
        ∙ ap (λ (t : Bool). if t then None else named_in names other) e
        ∙ sym (ap (λ (t : Bool). if t then Some pid else named_in names other) e)

-- a name of a process names nobody
abbrev pub forgotten : ℕ → PlainName → PlainName
forgotten pid name = record name { pid = unless_process pid name.pid }

pub names_forgotten : (names new : List PlainName) (pid : ℕ) → new ≡ map (forgotten pid) names →
    named_in new ≡ (λ text. unless_process pid (named_in names text))
names_forgotten names new pid is = ap named_in is ∙ fun_ext (λ text.
    ap (λ (o : Option PlainName). option_flatten (option_map (λ (name : PlainName). name.pid) o))
    (find_marked (test_of text) (forgotten pid) names (λ name. refl))
    ∙ either (find (test_of text) names))
  where
    either : (o : Option PlainName) →
        option_flatten (option_map (λ (name : PlainName). name.pid) (option_map (forgotten pid) o))
        ≡ unless_process pid (option_flatten (option_map (λ (name : PlainName). name.pid) o))
    either None = refl
    either (Some name) = refl

-- one name more is forgotten
pub name_marked : (pid : ℕ) (names now : List PlainName) (place : ℕ) (x : PlainName) (named : Option ℕ) → place < length names →
    now ≡ map (forgotten pid) (take place names) ++ drop place names → x ≡ get_or now place x →
    named ≡ unless_process pid (get_or now place x).pid →
    set now place (record { text = (get_or now place x).text; pid = named })
    ≡ map (forgotten pid) (take (place + 1) names) ++ drop (place + 1) names
name_marked pid names now place x named within is item says =
    ap (λ (y : PlainName). set now place y)
    (ap (λ (o : Option ℕ). record { text = (get_or now place x).text; pid = o }) says)
    ∙ ap (λ (y : PlainName). set now place (forgotten pid y)) (sym item)
    ∙ ap (λ (ns : List PlainName). set ns place (forgotten pid x)) is
    ∙ marked_more (forgotten pid) names place x there
    ∙ ap (λ (n : ℕ). map (forgotten pid) (take n names) ++ drop n names) (sym (add-one place))
  where
    there : slice_get names place ≡ Some x
    there =
        sym (unmarked_yet (forgotten pid) names place) ∙ ap (λ (ns : List PlainName). slice_get ns place) (sym is)
        ∙ slice_get_read now (length now) place x refl
        (omega (arith, ap (λ (ns : List PlainName). length ns) is, length-append (map (forgotten pid) (take place names)) (drop place names), length-map (take place names) (forgotten pid), length-take place names, length-drop place names, within)) item

-- all names are
pub names_all_marked : (pid : ℕ) (names now : List PlainName) (place : ℕ) → length names ≤ place →
    now ≡ map (forgotten pid) (take place names) ++ drop place names → now ≡ map (forgotten pid) names
names_all_marked pid names now place past is =
    is ∙ ap (λ (ns : List PlainName). map (forgotten pid) ns ++ drop place names) (take_all place names past)
    ∙ ap (λ (ns : List PlainName). map (forgotten pid) names ++ ns) (drop_of_length-le names past)
    ∙ append-nil (map (forgotten pid) names)
