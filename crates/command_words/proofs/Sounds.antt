-- What words ask for lies in its ranges.
use Rattle.std.proofs.Common.{◌≡◌, ℕ, ◌≤◌, ◌^◌, ◌&&◌, Bool, true, false, cond, nat_le, refl, sym, ap, subst, List, [], ◌∷◌, length, Option, Some, None, leb-true, arith}
use Rattle.std.specs.Prelude.{All, IfOk, Result, Ok, Err, is_some, option_and_then, option_map, unwrap_or}
use Rattle.std.specs.List.{list_all}
use Rattle.std.specs.Str.Parse.{digits_value}
use Rattle.std.proofs.lemmas.List.Elements.{All-nil, All-cons}
use Rattle.command_words.specs.Table.{Text, names_in, number_of, solo_table, table, within, workers, entry, pages, fuel, traffic, live, idle}
use Rattle.command_words.specs.Said.{Said, understood, value_of}
use Rattle.command_words.specs.Meaning.{AreNames, InRange, IsSound, Tells, are_names, check_of, gen_of, is_fit, is_name, names_of, number_between, options_at, options_by, run_of, solo_by, text_of}
use Rattle.command_words.specs.declared.asked.Command.{Command}
use Rattle.command_words.specs.declared.asked.Command.TheVariants.{Run, Check, Gen, Solo}
use Rattle.command_words.specs.declared.words.WordsFault.{WordsFault}
use Rattle.command_words.specs.declared.options.Options.{Options}
use Rattle.command_words.proofs.Tracks.{and_left, and_right}
use Rattle.command_words.proofs.OptionValues.{number_some, within_some}

-- ---- what an answer that is there came from

and_then_some : {A B : Type 0} (f : A → Option B) (o : Option A) (b : B) → option_and_then f o ≡ Some b → (a : A) × (o ≡ Some a) × (f a ≡ Some b)
and_then_some f (Some a) b h = (a, refl, h)
and_then_some f None b h = cc

map_some : {A B : Type 0} (f : A → B) (o : Option A) (b : B) → option_map f o ≡ Some b → (a : A) × (o ≡ Some a) × (f a ≡ b)
map_some f (Some a) b h = (a, refl, ap (λ o. unwrap_or o (f a)) h)
map_some f None b h = cc

if_some : {A : Type 0} (t : Bool) (a b : A) → cond t (Some a) None ≡ Some b → (t ≡ true) × (a ≡ b)
if_some true a b h = (refl, ap (λ o. unwrap_or o a) h)
if_some false a b h = cc

is_some_of : (o : Option ℕ) → is_some o ≡ true → (n : ℕ) × (o ≡ Some n)
is_some_of (Some n) h = (n, refl)
is_some_of None h = cc

-- ---- options

fits_number : (least most : ℕ) (t : Text) → is_some (option_and_then (within least most) (number_of t)) ≡ true → (least ≤ digits_value 10 t) × (digits_value 10 t ≤ most)
fits_number least most t h =
    let s = is_some_of (option_and_then (within least most) (number_of t)) h in
    let k = number_some least most s.0 t s.1 in
    subst (λ (n : ℕ). (least ≤ n) × (n ≤ most)) (sym k.0) (k.1, k.2)

fits_length : (least most n : ℕ) → is_some (within least most n) ≡ true → (least ≤ n) × (n ≤ most)
fits_length least most n h =
    let s = is_some_of (within least most n) h in
    let k = within_some least most n s.0 s.1 in
    subst (λ (n : ℕ). (least ≤ n) × (n ≤ most)) (sym k.0) (k.1, k.2)

in_range : (given : Text → Option Text) → list_all (is_fit given) table ≡ true → InRange (options_at given)
in_range given h =
    let h1 = and_right (is_fit given workers) (list_all (is_fit given) (entry ∷ pages ∷ fuel ∷ traffic ∷ live ∷ idle ∷ [])) h in
    let h2 = and_right (is_fit given entry) (list_all (is_fit given) (pages ∷ fuel ∷ traffic ∷ live ∷ idle ∷ [])) h1 in
    let h3 = and_right (is_fit given pages) (list_all (is_fit given) (fuel ∷ traffic ∷ live ∷ idle ∷ [])) h2 in
    let h4 = and_right (is_fit given fuel) (list_all (is_fit given) (traffic ∷ live ∷ idle ∷ [])) h3 in
    let h5 = and_right (is_fit given traffic) (list_all (is_fit given) (live ∷ idle ∷ [])) h4 in
    let h6 = and_right (is_fit given live) (list_all (is_fit given) (idle ∷ [])) h5 in
    record {
      workers = fits_number 1 16 (text_of given workers) (and_left (is_fit given workers) (list_all (is_fit given) (entry ∷ pages ∷ fuel ∷ traffic ∷ live ∷ idle ∷ [])) h);
      entry = fits_length 1 255 (length (text_of given entry)) (and_left (is_fit given entry) (list_all (is_fit given) (pages ∷ fuel ∷ traffic ∷ live ∷ idle ∷ [])) h1);
      pages = fits_number 0 1024 (text_of given pages) (and_left (is_fit given pages) (list_all (is_fit given) (fuel ∷ traffic ∷ live ∷ idle ∷ [])) h2);
      fuel = fits_number 1 (10 ^ 15) (text_of given fuel) (and_left (is_fit given fuel) (list_all (is_fit given) (traffic ∷ live ∷ idle ∷ [])) h3);
      traffic = fits_number 0 (2 ^ 40) (text_of given traffic) (and_left (is_fit given traffic) (list_all (is_fit given) (live ∷ idle ∷ [])) h4);
      live = fits_number 1 4096 (text_of given live) (and_left (is_fit given live) (list_all (is_fit given) (idle ∷ [])) h5);
      idle = fits_number 1 (10 ^ 12) (text_of given idle) (and_left (is_fit given idle) true h6);
    }

options_sound : (given : Text → Option Text) (o : Options) → options_by given ≡ Some o → InRange o
options_sound given o h =
    let s = if_some (list_all (is_fit given) table) (options_at given) o h in
    subst InRange s.1 (in_range given s.0)

-- ---- names

name_long : (t : Text) → is_name t ≡ true → 1 ≤ length t
name_long [] h = cc
name_long (b ∷ t) h = omega arith

names_long : (ts : List Text) → list_all is_name ts ≡ true → All (λ name. 1 ≤ length name) ts
names_long [] h = All-nil (λ name. 1 ≤ length name)
names_long (t ∷ ts) h =
    All-cons (λ name. 1 ≤ length name) t ts (name_long t (and_left (is_name t) (list_all is_name ts) h)) (names_long ts (and_right (is_name t) (list_all is_name ts) h))

names_sound : (ts names : List Text) → names_of ts ≡ Some names → AreNames names
names_sound ts names h =
    let s = if_some (are_names ts) ts names h in
    let some = nat_le 1 (length ts) in
    let few = nat_le (length ts) 16 in
    let each = list_all is_name ts in
    let numbered = and_left (some && few) each s.0 in
    let are : AreNames ts = record {
      some = leb-true 1 (length ts) (and_left some few numbered);
      few = leb-true (length ts) 16 (and_right some few numbered);
      each = names_long ts (and_right (some && few) each s.0);
    } in
    subst AreNames s.1 are

-- ---- commands

run_sound : (said : Said) (c : Command) → run_of said ≡ Some c → IsSound c
run_sound said c h =
    let options = options_by (value_of said.options) in
    let n = and_then_some (λ names. option_map (Run names) options) (names_of said.positionals) c h in
    let o = map_some (Run n.0) options c n.2 in
    subst IsSound o.2 (names_sound said.positionals n.0 n.1, options_sound (value_of said.options) o.0 o.1)

check_sound : (ts : List Text) (c : Command) → check_of ts ≡ Some c → IsSound c
check_sound (t ∷ []) c h = let s = if_some (is_name t) (Check t) c h in subst IsSound s.1 (name_long t s.0)
check_sound [] c h = cc
check_sound (t ∷ u ∷ ts) c h = cc

gen_sound : (ts : List Text) (c : Command) → gen_of ts ≡ Some c → IsSound c
gen_sound (t ∷ []) c h =
    let n = map_some Gen (number_between 2 1000 t) c h in
    let k = number_some 2 1000 n.0 t n.1 in
    subst IsSound n.2 (k.1, k.2)
gen_sound [] c h = cc
gen_sound (t ∷ u ∷ ts) c h = cc

solo_sound : (said : Said) (ts : List Text) (c : Command) → solo_by said ts ≡ Some c → IsSound c
solo_sound said [] c h = cc
solo_sound said (t ∷ ts) c h =
    let options = options_by (value_of said.options) in
    let p = and_then_some (λ pid. option_and_then (λ names. option_map (Solo pid names) options) (names_of ts)) (number_between 1 1000000 t) c h in
    let n = and_then_some (λ names. option_map (Solo p.0 names) options) (names_of ts) c p.2 in
    let o = map_some (Solo p.0 n.0) options c n.2 in
    let k = number_some 1 1000000 p.0 t p.1 in
    subst IsSound o.2 (k.1, k.2, names_sound ts n.0 n.1, options_sound (value_of said.options) o.0 o.1)

-- ---- what an answer says

told_sound : (meaning : Option Command) (r : Result Command WordsFault) → ((c : Command) → meaning ≡ Some c → IsSound c) → Tells meaning r → IfOk r IsSound
told_sound meaning (Ok c) sound h = sound c h
told_sound meaning (Err e) sound h = tt

pub run_told : (words : List Text) (r : Result Command WordsFault) → Tells (option_and_then run_of (understood (names_in table) words)) r → IfOk r IsSound
run_told words r h = told_sound (option_and_then run_of (understood (names_in table) words)) r
    (λ c e. let s = and_then_some run_of (understood (names_in table) words) c e in run_sound s.0 c s.2) h

pub check_told : (words : List Text) (r : Result Command WordsFault) → Tells (option_and_then (λ said. check_of said.positionals) (understood [] words)) r → IfOk r IsSound
check_told words r h = told_sound (option_and_then (λ said. check_of said.positionals) (understood [] words)) r
    (λ c e. let s = and_then_some (λ said. check_of said.positionals) (understood [] words) c e in check_sound s.0.positionals c s.2) h

pub gen_told : (words : List Text) (r : Result Command WordsFault) → Tells (option_and_then (λ said. gen_of said.positionals) (understood [] words)) r → IfOk r IsSound
gen_told words r h = told_sound (option_and_then (λ said. gen_of said.positionals) (understood [] words)) r
    (λ c e. let s = and_then_some (λ said. gen_of said.positionals) (understood [] words) c e in gen_sound s.0.positionals c s.2) h

pub solo_told : (words : List Text) (r : Result Command WordsFault) → Tells (option_and_then (λ said. solo_by said said.positionals) (understood (names_in solo_table) words)) r
    → IfOk r IsSound
solo_told words r h = told_sound (option_and_then (λ said. solo_by said said.positionals) (understood (names_in solo_table) words)) r
    (λ c e. let s = and_then_some (λ said. solo_by said said.positionals) (understood (names_in solo_table) words) c e in solo_sound s.0 s.0.positionals c s.2) h
