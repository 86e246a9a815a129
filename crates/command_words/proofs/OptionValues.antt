-- The options by the measures of their values.
use Rattle.std.proofs.Common.{◌≡◌, ◌∙◌, ℕ, ◌≤◌, ◌^◌, ◌&&◌, Bool, true, false, cond, not, nat_le, refl, ap, ap₂, [], length, Option, Some, None, leb-true}
use Rattle.std.specs.Prelude.{is_some, option_and_then, unwrap_or}
use Rattle.std.specs.List.{list_all}
use Rattle.std.specs.Str.{all_ascii_digits}
use Rattle.std.specs.Str.Parse.{digits_value}
use Rattle.command_words.specs.Table.{Text, measured, names_in, number_of, table, within, workers, entry, pages, fuel, traffic, live, idle}
use Rattle.command_words.specs.Said.{understood, value_of}
use Rattle.command_words.specs.Meaning.{default_options, entry_in, is_fit, options_at, options_by, text_of}
use Rattle.command_words.specs.declared.options.Options.{Options}

some_is : {A : Type 0} (x y : A) → Some x ≡ Some y → x ≡ y
some_is x y e = ap (λ o. unwrap_or o x) e

pub within_some : (least most m n : ℕ) → within least most m ≡ Some n → (m ≡ n) × (least ≤ n) × (n ≤ most)
within_some least most m n h = go (nat_le least m) refl (nat_le m most) refl h
  where
    go : (a : Bool) → nat_le least m ≡ a → (b : Bool) → nat_le m most ≡ b → cond (a && b) (Some m) None ≡ Some n → (m ≡ n) × (least ≤ n) × (n ≤ most)
    go true e true f s = let is = some_is m n s in (is, rw (← is) (leb-true least m e), rw (← is) (leb-true m most f))
    go true e false f s = cc
    go false e b f s = cc

pub number_some : (least most n : ℕ) (t : Text) → option_and_then (within least most) (number_of t) ≡ Some n → (digits_value 10 t ≡ n) × (least ≤ n) × (n ≤ most)
number_some least most n t h = go (not (nat_le (length t) 0) && all_ascii_digits t) h
  where
    go : (b : Bool) → option_and_then (within least most) (cond b (Some (digits_value 10 t)) None) ≡ Some n → (digits_value 10 t ≡ n) × (least ≤ n) × (n ≤ most)
    go true s = within_some least most (digits_value 10 t) n s
    go false s = cc

entry_some : (given : Text → Option Text) (name : Text) → entry_in given ≡ Some name → (is_fit given entry ≡ true) × (text_of given entry ≡ name)
entry_some given name h = go (is_fit given entry) refl h
  where
    go : (b : Bool) → is_fit given entry ≡ b → cond b (Some (text_of given entry)) None ≡ Some name → (is_fit given entry ≡ true) × (text_of given entry ≡ name)
    go true e s = (e, some_is (text_of given entry) name s)
    go false e s = cc

both : (a b : Bool) → a ≡ true → b ≡ true → (a && b) ≡ true
both a b e f = ap₂ (λ x y. x && y) e f

-- where each value is fit, the options are those of the values
pub options_are : (given : Text → Option Text) (w p f t l i : ℕ) (name : Text) → measured workers (text_of given workers) ≡ Some w → entry_in given ≡ Some name
    → measured pages (text_of given pages) ≡ Some p → measured fuel (text_of given fuel) ≡ Some f → measured traffic (text_of given traffic) ≡ Some t
    → measured live (text_of given live) ≡ Some l → measured idle (text_of given idle) ≡ Some i
    → options_by given ≡ Some (record { workers = w; entry = name; limits = record { pages = p; fuel = f; traffic = t }; live = l; idle = i })
options_are given w p f t l i name hw he hp hf ht hl hi =
    let e = entry_some given name he in
    let fit : list_all (is_fit given) table ≡ true =
    both _ _ (ap is_some hw) (both _ _ e.0 (both _ _ (ap is_some hp) (both _ _ (ap is_some hf) (both _ _ (ap is_some ht) (both _ _ (ap is_some hl) (both _ _ (ap is_some hi) refl)))))) in
    let same : ◌≡◌ {A = Options} (options_at given) (record { workers = w; entry = name; limits = record { pages = p; fuel = f; traffic = t }; live = l; idle = i }) =
    λ k. record {
      workers = (number_some 1 16 w (text_of given workers) hw).0 k;
      entry = e.1 k;
      limits = record {
        pages = (number_some 0 1024 p (text_of given pages) hp).0 k;
        fuel = (number_some 1 (10 ^ 15) f (text_of given fuel) hf).0 k;
        traffic = (number_some 0 (2 ^ 40) t (text_of given traffic) ht).0 k;
      };
      live = (number_some 1 4096 l (text_of given live) hl).0 k;
      idle = (number_some 1 (10 ^ 12) i (text_of given idle) hi).0 k;
    } in
    ap (λ b. cond b (Some (options_at given)) None) fit ∙ ap Some same

-- words that name no options give the defaults
pub no_words : option_and_then (λ said. options_by (value_of said.options)) (understood (names_in table) []) ≡ Some default_options
no_words = refl
