-- What the lexer of `clap` makes of each kind of word.
use Rattle.std.proofs.Common.{◌≡◌, ◌∙◌, ℕ, ◌==◌, Bool, true, false, cond, refl, sym, ap, subst, List, [], ◌∷◌, Some, None, arith, length, suc}
use Rattle.std.specs.Prelude.{slice_get}
use Rattle.std.specs.List.{list_any, after_first, before_first}
use Rattle.std.specs.Str.{bytes_eq, chars, IsUtf8, encode_utf8_all}
use Rattle.std.specs.Char.{encode_utf8}
use Rattle.std.proofs.lemmas.Str.{chars-encodes}
use Rattle.std.proofs.lemmas.Bool.{eqb-true}
use Rattle.clap.specs.Lexer.{long_of, short_of}
use Rattle.command_words.specs.Table.{Text}
use Rattle.command_words.specs.Said.{Word, Ends, Plain, Named, Joined, Other, dashed_word, is_equals, option_word, word_of}

abbrev pub dashes : Text
dashes = 45 ∷ 45 ∷ []

-- the word reads as `-` and flags, of which the first is a character
pub record IsFlags (word : Text) : Type 0 where
  pub first : ℕ
  pub rest : Text
  pub flags : short_of word ≡ Some (first ∷ rest)
  pub char : ℕ
  pub chars_of : slice_get (chars (first ∷ rest)) 0 ≡ Some char

abbrev pub Lexes : Text → Word → Type 0
Lexes word Ends = word ≡ dashes
Lexes word Plain = (bytes_eq word dashes ≡ false) × (long_of word ≡ None) × (short_of word ≡ None)
Lexes word (Named name) = (bytes_eq word dashes ≡ false) × (long_of word ≡ Some (name, None))
Lexes word (Joined name value) = (bytes_eq word dashes ≡ false) × (long_of word ≡ Some (name, Some value))
Lexes word Other = (bytes_eq word dashes ≡ false) × (long_of word ≡ None) × IsFlags word

-- what follows a first `-` begins with a character
first_char : (b : ℕ) (bs : Text) → IsUtf8 (45 ∷ b ∷ bs) → (c : ℕ) × (slice_get (chars (b ∷ bs)) 0 ≡ Some c)
unfolding chars encode_utf8
first_char b bs text =
    go (chars (b ∷ bs)) refl (sym (chars-encodes text.0 text.1.0) ∙ ap chars text.1.1)
  where
    go : (cs : List ℕ) → chars (b ∷ bs) ≡ cs → text.0 ≡ 45 ∷ chars (b ∷ bs) → (c : ℕ) × (slice_get (chars (b ∷ bs)) 0 ≡ Some c)
    go (c ∷ cs) e is = (c, ap (λ (xs : List ℕ). slice_get xs 0) e)
    go [] e is =
        let all : 45 ∷ [] ≡ 45 ∷ b ∷ bs = ap encode_utf8_all (sym (is ∙ ap (λ (xs : List ℕ). 45 ∷ xs) e)) ∙ text.1.1 in
        let bad : 1 ≡ suc (suc (length bs)) = ap length all in
        absurd (omega arith)

option_lexes : (rest : Text) → Lexes (45 ∷ 45 ∷ rest) (option_word rest)
option_lexes [] = refl
option_lexes (x ∷ xs) = go (list_any is_equals (x ∷ xs)) refl
  where
    go : (b : Bool) → list_any is_equals (x ∷ xs) ≡ b
        → Lexes (45 ∷ 45 ∷ x ∷ xs) (cond b (Joined (before_first is_equals (x ∷ xs)) (after_first is_equals (x ∷ xs))) (Named (before_first is_equals (x ∷ xs))))
    go true e = (refl, rw e refl)
    go false e = (refl, rw e refl)

dashed_lexes : (rest : Text) → IsUtf8 (45 ∷ rest) → Lexes (45 ∷ rest) (dashed_word rest)
dashed_lexes [] text = (refl, refl, refl)
dashed_lexes (second ∷ rest) text = go (second == 45) refl
  where
    go : (b : Bool) → (second == 45) ≡ b → Lexes (45 ∷ second ∷ rest) (cond b (option_word rest) Other)
    go true e =
        let same : second ≡ 45 = eqb-true second 45 e in
        subst (λ (s : ℕ). Lexes (45 ∷ s ∷ rest) (option_word rest)) (sym same) (option_lexes rest)
    go false e =
        let char = first_char second rest text in (
          rw e refl,
          rw e refl,
          record { first = second; rest = rest; flags = rw e refl; char = char.0; chars_of = char.1 },
        )

pub lexes : (word : Text) → IsUtf8 word → Lexes word (word_of word)
lexes [] text = (refl, refl, refl)
lexes (first ∷ rest) text = go (first == 45) refl
  where
    go : (b : Bool) → (first == 45) ≡ b → Lexes (first ∷ rest) (cond b (dashed_word rest) Plain)
    go true e =
        let same : first ≡ 45 = eqb-true first 45 e in
        subst (λ (s : ℕ). Lexes (s ∷ rest) (dashed_word rest)) (sym same)
        (dashed_lexes rest (subst (λ (s : ℕ). IsUtf8 (s ∷ rest)) same text))
    go false e = (rw e refl, rw e refl, rw e refl)
