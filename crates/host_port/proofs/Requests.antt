-- The request of an ask, from the row of its call.
use Rattle.std.specs.Prelude.{IsSomeAnd}
use Rattle.std.specs.List.{list_all}
use Rattle.std.proofs.Common.{◌≡◌, ℕ, ◌&&◌, Bool, true, false, List, [], ◌∷◌, ◌++◌, map, Option, Some, None, option_to_list, option_and_then, refl, sym, ◌∙◌, ap}
use Rattle.host_port.specs.declared.ask.Ask.{Ask}
use Rattle.host_port.specs.declared.request.Request.{Request}
use Rattle.host_port.specs.declared.host_table.HostRow.{HostRow}
use Rattle.host_port.specs.Rows.{Row, Reads, NoArea, OneArea, TwoAreas, ReadArea, WrittenText, WrittenWord}
use Rattle.host_port.specs.HostTable.{Area, row_of, areas_in, area_read, area_of_text, area_of_word, is_sound_area, areas_read, areas_of, are_sound}
use Rattle.host_port.specs.HostRows.{IsRow}
use Rattle.host_port.specs.Forms.{text_of, word_of}
use Rattle.host_port.specs.Areas.{fits_in, areas_fit, reads_well, text_fits, word_fits, bytes_at, first_bytes, later_areas, request_of}

and_true : (b : Bool) → (b && true) ≡ b
and_true true = refl
and_true false = refl

and_false : (b : Bool) → (b && false) ≡ false
and_false true = refl
and_false false = refl

-- what is written lies in the memory
written_fits : (memory args : List ℕ) (text : Option WrittenText) (word : Option WrittenWord) →
    list_all (fits_in memory) (map (area_of_text args) (option_to_list text) ++ map (area_of_word args) (option_to_list word))
    ≡ (text_fits memory args text && word_fits memory args word)
written_fits memory args None None = refl
written_fits memory args None (Some word) = and_true (fits_in memory (area_of_word args word))
written_fits memory args (Some text) None = refl
written_fits memory args (Some text) (Some word) =
    ap (λ (b : Bool). fits_in memory (area_of_text args text) && b) (and_true (fits_in memory (area_of_word args word)))

one_shuffled : (s f w : Bool) → ((s && true) && (f && w)) ≡ ((s && f) && w)
one_shuffled false f w = refl
one_shuffled true false w = refl
one_shuffled true true w = refl

two_shuffled : (s t f g w : Bool) → ((s && (t && true)) && (f && (g && w))) ≡ ((s && f) && ((t && g) && w))
two_shuffled false t f g w = refl
two_shuffled true false false g w = refl
two_shuffled true false true g w = refl
two_shuffled true true false g w = refl
two_shuffled true true true false w = refl
two_shuffled true true true true w = refl

-- each area of a row with these reads, this text and this word lies in the memory
abbrev pub all_fit : List ℕ → List ℕ → Reads → Option WrittenText → Option WrittenWord → Bool
all_fit memory args NoArea text word = text_fits memory args text && word_fits memory args word
all_fit memory args (OneArea form) text word = reads_well memory args form && (text_fits memory args text && word_fits memory args word)
all_fit memory args (TwoAreas first second) text word =
    reads_well memory args first && (reads_well memory args second && (text_fits memory args text && word_fits memory args word))

fit_by : (memory args : List ℕ) (reads : Reads) (text : Option WrittenText) (word : Option WrittenWord) →
    (list_all (is_sound_area args) (areas_in reads)
    && list_all (fits_in memory)
    (map (area_read args) (areas_in reads) ++ (map (area_of_text args) (option_to_list text) ++ map (area_of_word args) (option_to_list word))))
    ≡ all_fit memory args reads text word
fit_by memory args NoArea text word = written_fits memory args text word
fit_by memory args (OneArea form) text word =
    ap (λ (b : Bool). (is_sound_area args form && true) && (fits_in memory (area_read args form) && b)) (written_fits memory args text word)
    ∙ one_shuffled (is_sound_area args form) (fits_in memory (area_read args form)) (text_fits memory args text && word_fits memory args word)
fit_by memory args (TwoAreas first second) text word =
    ap (λ (b : Bool). (is_sound_area args first && (is_sound_area args second && true))
    && (fits_in memory (area_read args first) && (fits_in memory (area_read args second) && b))) (written_fits memory args text word)
    ∙ two_shuffled (is_sound_area args first) (is_sound_area args second) (fits_in memory (area_read args first)) (fits_in memory (area_read args second))
    (text_fits memory args text && word_fits memory args word)

pub fit_is : (memory : List ℕ) (ask : Ask) (row : Row) → row_of ask.call ≡ Some row → areas_fit memory ask ≡ all_fit memory ask.args row.reads row.text row.word
unfolding areas_of areas_read are_sound
fit_is memory ask row is = rw is (fit_by memory ask.args row.reads row.text row.word)

pub read_is : (ask : Ask) (row : Row) → row_of ask.call ≡ Some row → areas_read ask ≡ map (area_read ask.args) (areas_in row.reads)
unfolding areas_read
read_is ask row is = rw is refl

-- the request where its areas fit, and where they do not
request_fit : (memory : List ℕ) (ask : Ask) (areas : List Area) → areas_fit memory ask ≡ true → areas_read ask ≡ areas →
    request_of memory ask ≡ record { ask = ask; fits = true; first = first_bytes memory areas; second = first_bytes memory (later_areas areas) }
request_fit memory ask areas fits read = rw (fits, read) refl

request_unfit : (memory : List ℕ) (ask : Ask) → areas_fit memory ask ≡ false → request_of memory ask ≡ record { ask = ask; fits = false; first = []; second = [] }
request_unfit memory ask fits = rw fits refl

-- a call that is not served has no areas
pub none_fit : (memory : List ℕ) (ask : Ask) → row_of ask.call ≡ None → request_of memory ask ≡ record { ask = ask; fits = true; first = []; second = [] }
unfolding areas_of areas_read are_sound
none_fit memory ask is = rw is refl

-- the row that the code has found
record IsFound (call : ℕ) (shown : HostRow) : Type 0 where
  row : Row
  row_is : row_of call ≡ Some row
  shows : IsRow shown row

found_by : (o : Option Row) (call : ℕ) (shown : HostRow) → row_of call ≡ o → IsSomeAnd o (IsRow shown) → IsFound call shown
found_by None call shown e h = absurd h
found_by (Some row) call shown e h = record { row = row; row_is = e; shows = h }

found : (call : ℕ) (shown : HostRow) → IsSomeAnd (row_of call) (IsRow shown) → IsFound call shown
found call shown h = found_by (row_of call) call shown refl h

shown_fit : (memory : List ℕ) (ask : Ask) (shown : HostRow) → IsSomeAnd (row_of ask.call) (IsRow shown) → areas_fit memory ask ≡ all_fit memory ask.args shown.reads shown.text shown.word
shown_fit memory ask shown h =
    let f = found ask.call shown h in
    fit_is memory ask f.row f.row_is
    ∙ ap (λ (r : Reads). all_fit memory ask.args r f.row.text f.row.word) (sym f.shows.same_reads)
    ∙ ap (λ (t : Option WrittenText). all_fit memory ask.args shown.reads t f.row.word) (sym f.shows.same_text)
    ∙ ap (λ (w : Option WrittenWord). all_fit memory ask.args shown.reads shown.text w) (sym f.shows.same_word)

shown_read : (ask : Ask) (shown : HostRow) → IsSomeAnd (row_of ask.call) (IsRow shown) → areas_read ask ≡ map (area_read ask.args) (areas_in shown.reads)
shown_read ask shown h =
    let f = found ask.call shown h in
    read_is ask f.row f.row_is ∙ ap (λ (r : Reads). map (area_read ask.args) (areas_in r)) (sym f.shows.same_reads)

unfit_written : (memory args : List ℕ) (reads : Reads) (text : Option WrittenText) (word : Option WrittenWord) →
    (text_fits memory args text && word_fits memory args word) ≡ false → all_fit memory args reads text word ≡ false
unfit_written memory args NoArea text word e = e
unfit_written memory args (OneArea form) text word e = rw e (and_false (reads_well memory args form))
unfit_written memory args (TwoAreas first second) text word e = rw (e, and_false (reads_well memory args second)) (and_false (reads_well memory args first))

-- a request with these bytes is this one
pub request_is : {r q : Request} {ask : Ask} {fits : Bool} {first second bytes others : List ℕ} → r ≡ record { ask = ask; fits = fits; first = first; second = second } →
    first ≡ bytes → second ≡ others → q ≡ record { ask = ask; fits = fits; first = bytes; second = others } → r ≡ q
request_is {ask = ask} {fits = fits} {second = second} {bytes = bytes} e f g h =
    e ∙ ap (λ (bs : List ℕ). record { ask = ask; fits = fits; first = bs; second = second }) f
    ∙ ap (λ (bs : List ℕ). record { ask = ask; fits = fits; first = bytes; second = bs }) g ∙ sym h

-- what is written does not fit
pub written_unfit : (memory : List ℕ) (ask : Ask) (shown : HostRow) → IsSomeAnd (row_of ask.call) (IsRow shown) →
    (text_fits memory ask.args shown.text && word_fits memory ask.args shown.word) ≡ false →
    request_of memory ask ≡ record { ask = ask; fits = false; first = []; second = [] }
written_unfit memory ask shown h past =
    request_unfit memory ask (shown_fit memory ask shown h ∙ unfit_written memory ask.args shown.reads shown.text shown.word past)

-- what is written fits, and nothing is read
pub no_area : (memory : List ℕ) (ask : Ask) (shown : HostRow) → IsSomeAnd (row_of ask.call) (IsRow shown) →
    (text_fits memory ask.args shown.text && word_fits memory ask.args shown.word) ≡ true → shown.reads ≡ NoArea →
    request_of memory ask ≡ record { ask = ask; fits = true; first = []; second = [] }
no_area memory ask shown h written reads =
    request_fit memory ask [] (shown_fit memory ask shown h ∙ rw reads written) (shown_read ask shown h ∙ rw reads refl)

-- one area is read
pub one_area : (memory : List ℕ) (ask : Ask) (shown : HostRow) (form : ReadArea) → IsSomeAnd (row_of ask.call) (IsRow shown) →
    (text_fits memory ask.args shown.text && word_fits memory ask.args shown.word) ≡ true → shown.reads ≡ OneArea form → reads_well memory ask.args form ≡ true →
    request_of memory ask ≡ record { ask = ask; fits = true; first = bytes_at memory (area_read ask.args form); second = [] }
one_area memory ask shown form h written reads well =
    request_fit memory ask (area_read ask.args form ∷ []) (shown_fit memory ask shown h ∙ rw (reads, well) written) (shown_read ask shown h ∙ rw reads refl)

pub one_unfit : (memory : List ℕ) (ask : Ask) (shown : HostRow) (form : ReadArea) → IsSomeAnd (row_of ask.call) (IsRow shown) →
    shown.reads ≡ OneArea form → reads_well memory ask.args form ≡ false →
    request_of memory ask ≡ record { ask = ask; fits = false; first = []; second = [] }
one_unfit memory ask shown form h reads not_well = request_unfit memory ask (shown_fit memory ask shown h ∙ rw (reads, not_well) refl)

-- two areas are read
pub two_areas : (memory : List ℕ) (ask : Ask) (shown : HostRow) (first second : ReadArea) → IsSomeAnd (row_of ask.call) (IsRow shown) →
    (text_fits memory ask.args shown.text && word_fits memory ask.args shown.word) ≡ true → shown.reads ≡ TwoAreas first second →
    reads_well memory ask.args first ≡ true → reads_well memory ask.args second ≡ true →
    request_of memory ask ≡ record { ask = ask; fits = true; first = bytes_at memory (area_read ask.args first); second = bytes_at memory (area_read ask.args second) }
two_areas memory ask shown first second h written reads well also =
    request_fit memory ask (area_read ask.args first ∷ area_read ask.args second ∷ []) (shown_fit memory ask shown h ∙ rw (reads, well, also) written)
    (shown_read ask shown h ∙ rw reads refl)

pub first_unfit : (memory : List ℕ) (ask : Ask) (shown : HostRow) (first second : ReadArea) → IsSomeAnd (row_of ask.call) (IsRow shown) →
    shown.reads ≡ TwoAreas first second → reads_well memory ask.args first ≡ false →
    request_of memory ask ≡ record { ask = ask; fits = false; first = []; second = [] }
first_unfit memory ask shown first second h reads not_well = request_unfit memory ask (shown_fit memory ask shown h ∙ rw (reads, not_well) refl)

pub second_unfit : (memory : List ℕ) (ask : Ask) (shown : HostRow) (first second : ReadArea) → IsSomeAnd (row_of ask.call) (IsRow shown) →
    shown.reads ≡ TwoAreas first second → reads_well memory ask.args second ≡ false →
    request_of memory ask ≡ record { ask = ask; fits = false; first = []; second = [] }
second_unfit memory ask shown first second h reads not_well =
    request_unfit memory ask (shown_fit memory ask shown h ∙ rw (reads, not_well) (and_false (reads_well memory ask.args first)))

-- where the areas of an ask fit, so do those that its call writes
true_parts : (a b : Bool) → (a && b) ≡ true → (a ≡ true) × (b ≡ true)
true_parts true true e = (refl, refl)
true_parts true false e = absurd (cc)
true_parts false b e = absurd (cc)

fit_written : (memory args : List ℕ) (reads : Reads) (text : Option WrittenText) (word : Option WrittenWord) → all_fit memory args reads text word ≡ true →
    (text_fits memory args text ≡ true) × (word_fits memory args word ≡ true)
fit_written memory args NoArea text word e = true_parts _ _ e
fit_written memory args (OneArea form) text word e = true_parts _ _ (true_parts (reads_well memory args form) _ e).1
fit_written memory args (TwoAreas first second) text word e =
    true_parts _ _ (true_parts (reads_well memory args second) _ (true_parts (reads_well memory args first) _ e).1).1

writes_fit_by : (memory : List ℕ) (ask : Ask) (o : Option Row) → row_of ask.call ≡ o → areas_fit memory ask ≡ true →
    (text_fits memory ask.args (option_and_then (λ (row : Row). row.text) o) ≡ true) × (word_fits memory ask.args (option_and_then (λ (row : Row). row.word) o) ≡ true)
writes_fit_by memory ask None is fits = (refl, refl)
writes_fit_by memory ask (Some row) is fits = fit_written memory ask.args row.reads row.text row.word (sym (fit_is memory ask row is) ∙ fits)

pub writes_fit : (memory : List ℕ) (ask : Ask) → areas_fit memory ask ≡ true →
    (text_fits memory ask.args (text_of ask.call) ≡ true) × (word_fits memory ask.args (word_of ask.call) ≡ true)
unfolding text_of word_of
writes_fit memory ask fits = writes_fit_by memory ask (row_of ask.call) refl fits
