-- A line that is written of what it says is read as that.
use Rattle.std.proofs.Common.{◌≡◌, ℕ, ◌<◌, ◌==◌, Bool, true, false, not, ◌&&◌, List, [], ◌∷◌, ◌++◌, length, drop, refl, ap, ◌∙◌, arith, append-nil, Ok, Result, if◌then◌else◌}
use Rattle.std.specs.List.{list_all, position_or_len, before_first}
use Rattle.std.specs.Char.{is_ascii_whitespace, is_ascii_digit, is_ascii_hexdigit}
use Rattle.std.proofs.lemmas.Bool.{and_parts}
use Rattle.std.proofs.lemmas.Grind.{common_steps}
use Rattle.script.specs.declared.unreadable.Unreadable.{Unreadable}
use Rattle.script.specs.declared.name.First.{First}
use Rattle.script.specs.declared.name.First.TheVariants as first
use Rattle.script.specs.declared.name.Place.{Place}
use Rattle.script.specs.declared.name.Place.TheVariants as place
use Rattle.script.specs.declared.name.Kind.{Kind}
use Rattle.script.specs.declared.name.Kind.TheVariants as kind
use Rattle.script.specs.declared.name.HostVerb.{HostVerb}
use Rattle.script.specs.declared.name.HostVerb.TheVariants as host
use Rattle.script.specs.declared.name.TncVerb.{TncVerb}
use Rattle.script.specs.declared.name.TncVerb.TheVariants as tnc
use Rattle.script.specs.declared.command.Setup.{Setup}
use Rattle.script.specs.declared.command.Setup.TheVariants as setup
use Rattle.script.specs.Words.{without_comment, unblanked, first_word, after_word, has_no_word}
use Rattle.script.specs.Names.{first_name, place_name, kind_name, host_name, tnc_name, firsts, places, kinds, host_verbs, tnc_verbs, named_in}
use Rattle.script.specs.Numbers.{number_in}
use Rattle.script.specs.Bytes.{bytes_in}
use Rattle.script.specs.Said.{HostSaid, opens, steps, times, hears, submits, submits_again, writes_off, collects, TncSaid, tnc_hears, tnc_submits, tnc_collects, Said, nothing, set_up, wire, buffer, host_is_called, tnc_is_called}
use Rattle.script.specs.Reading.{◌>>=◌, ended, last_number, last_bytes, numbered_bytes, host_form, tnc_form, store_form, kind_in, host_in, tnc_in, store_in, line_form, text_says, line_says}
use Rattle.script.specs.Line.{Part, a_first, a_place, a_kind, a_host_call, a_tnc_call, a_number, some_bytes, Writes, WritesBytes, IsBlank, IsParted, Begins, IsText, IsComment, IsLine, setup_parts, host_parts, tnc_parts, parts_of}
use Rattle.script.proofs.Listed.{Stops, before_pass, from_pass, pass_on, pass_both}
use Rattle.script.proofs.Written.{number_reads, number_digits, number_long, bytes_read, pairs_test, pairs_long}

-- ---- what a word is

-- no blank, and no `#`
abbrev word_byte : ℕ → Bool
word_byte c = not (is_ascii_whitespace c) && not (c == 35)

record IsWord (word : List ℕ) : Type 0 where
  long : 0 < length word
  plain : list_all word_byte word ≡ true

digit_in_word : (c : ℕ) → is_ascii_digit c ≡ true → word_byte c ≡ true
digit_in_word c h = grind (arith, common_steps)

hex_in_word : (c : ℕ) → is_ascii_hexdigit c ≡ true → word_byte c ≡ true
hex_in_word c h = grind (arith, common_steps)

first_word_is : (f : First) → IsWord (first_name f)
first_word_is first.Repeats = record { long = omega arith; plain = refl }
first_word_is first.Store = record { long = omega arith; plain = refl }
first_word_is first.Wire = record { long = omega arith; plain = refl }
first_word_is first.Buffer = record { long = omega arith; plain = refl }
first_word_is first.Host = record { long = omega arith; plain = refl }
first_word_is first.Tnc = record { long = omega arith; plain = refl }

place_word_is : (p : Place) → IsWord (place_name p)
place_word_is place.HostOut = record { long = omega arith; plain = refl }
place_word_is place.HostIn = record { long = omega arith; plain = refl }
place_word_is place.TncOut = record { long = omega arith; plain = refl }
place_word_is place.TncIn = record { long = omega arith; plain = refl }

kind_word_is : (k : Kind) → IsWord (kind_name k)
kind_word_is kind.Shelf = record { long = omega arith; plain = refl }
kind_word_is kind.Strip = record { long = omega arith; plain = refl }

host_word_is : (v : HostVerb) → IsWord (host_name v)
host_word_is host.Open = record { long = omega arith; plain = refl }
host_word_is host.Step = record { long = omega arith; plain = refl }
host_word_is host.Timer = record { long = omega arith; plain = refl }
host_word_is host.Hear = record { long = omega arith; plain = refl }
host_word_is host.Submit = record { long = omega arith; plain = refl }
host_word_is host.Again = record { long = omega arith; plain = refl }
host_word_is host.WriteOff = record { long = omega arith; plain = refl }
host_word_is host.Collect = record { long = omega arith; plain = refl }

tnc_word_is : (v : TncVerb) → IsWord (tnc_name v)
tnc_word_is tnc.Hear = record { long = omega arith; plain = refl }
tnc_word_is tnc.Submit = record { long = omega arith; plain = refl }
tnc_word_is tnc.Collect = record { long = omega arith; plain = refl }

bytes_word_is : (bytes word : List ℕ) → WritesBytes bytes word → IsWord word
bytes_word_is [] word w = rw w (record { long = omega arith; plain = refl })
bytes_word_is (b ∷ bytes) word w = record {
  long = pairs_long b bytes word w;
  plain = pass_on is_ascii_hexdigit word_byte hex_in_word word (pairs_test (b ∷ bytes) word w);
}

word_is : (p : Part) (word : List ℕ) → Writes p word → IsWord word
word_is (a_first f) word w = rw w (first_word_is f)
word_is (a_place p) word w = rw w (place_word_is p)
word_is (a_kind k) word w = rw w (kind_word_is k)
word_is (a_host_call v) word w = rw w (host_word_is v)
word_is (a_tnc_call v) word w = rw w (tnc_word_is v)
word_is (a_number n) word w = record {
  long = number_long n word w;
  plain = pass_on is_ascii_digit word_byte digit_in_word word (number_digits n word w);
}
word_is (some_bytes b) word w = bytes_word_is b word w

-- ---- the words of a text

not_not : (c : ℕ) → is_ascii_whitespace c ≡ true → not (not (is_ascii_whitespace c)) ≡ true
not_not c h = ap (λ b. not (not b)) h

no_blank : (c : ℕ) → word_byte c ≡ true → not (is_ascii_whitespace c) ≡ true
no_blank c h = (and_parts (not (is_ascii_whitespace c)) (not (c == 35)) h).0

no_hash : (c : ℕ) → word_byte c ≡ true → not (c == 35) ≡ true
no_hash c h = (and_parts (not (is_ascii_whitespace c)) (not (c == 35)) h).1

blank_no_hash : (c : ℕ) → is_ascii_whitespace c ≡ true → not (c == 35) ≡ true
blank_no_hash c h = grind (arith, common_steps)

-- a word stops blanks, and a blank or the end stops a word
word_stops : (word rest : List ℕ) → IsWord word → Stops (λ c. not (not (is_ascii_whitespace c))) (word ++ rest)
word_stops [] rest w = absurd (let long = w.long in omega arith)
word_stops (c ∷ word) rest w =
    let first = (and_parts (word_byte c) (list_all word_byte word) w.plain).0 in
    ap not (no_blank c first)

parted_stops : (rest : List ℕ) → IsParted rest → Stops (λ c. not (is_ascii_whitespace c)) rest
parted_stops [] p = tt
parted_stops (c ∷ rest) p = ap not p

-- what a text begins with is its first word, and what follows comes after it
unblanks : {p : Part} {R : List ℕ → Type 0} (text : List ℕ) (b : Begins p R text) → unblanked text ≡ b.word ++ b.rest
unblanks {p} text b =
    rw b.whole (from_pass (λ c. not (is_ascii_whitespace c)) b.blanks (b.word ++ b.rest)
    (pass_on is_ascii_whitespace (λ c. not (not (is_ascii_whitespace c))) not_not b.blanks b.blank)
    (word_stops b.word b.rest (word_is p b.word b.writes)))

begins_word : {p : Part} {R : List ℕ → Type 0} (text : List ℕ) (b : Begins p R text) → first_word text ≡ b.word
begins_word {p} text b =
    let w = word_is p b.word b.writes in
    ap (before_first is_ascii_whitespace) (unblanks text b)
    ∙ before_pass is_ascii_whitespace b.word b.rest (pass_on word_byte (λ c. not (is_ascii_whitespace c)) no_blank b.word w.plain)
    (parted_stops b.rest b.parted)

begins_rest : {p : Part} {R : List ℕ → Type 0} (text : List ℕ) (b : Begins p R text) → after_word text ≡ b.rest
begins_rest {p} text b =
    let w = word_is p b.word b.writes in
    ap (λ t. drop (position_or_len is_ascii_whitespace t) t) (unblanks text b)
    ∙ from_pass is_ascii_whitespace b.word b.rest (pass_on word_byte (λ c. not (is_ascii_whitespace c)) no_blank b.word w.plain)
    (parted_stops b.rest b.parted)

-- a blank text has no word
blank_ends : (text : List ℕ) → IsBlank text → first_word text ≡ []
blank_ends text h =
    let none : unblanked text ≡ [] = rw (append-nil) at (from_pass (λ c. not (is_ascii_whitespace c)) text []
    (pass_on is_ascii_whitespace (λ c. not (not (is_ascii_whitespace c))) not_not text h) tt) in
    ap (before_first is_ascii_whitespace) none

-- no part of a text is a comment
text_plain : (parts : List Part) (text : List ℕ) → IsText parts text → list_all (λ c. not (c == 35)) text ≡ true
text_plain [] text h = pass_on is_ascii_whitespace (λ c. not (c == 35)) blank_no_hash text h
text_plain (p ∷ parts) text b =
    let w = word_is p b.word b.writes in
    rw b.whole (pass_both (λ c. not (c == 35)) b.blanks (b.word ++ b.rest)
    (pass_on is_ascii_whitespace (λ c. not (c == 35)) blank_no_hash b.blanks b.blank)
    (pass_both (λ c. not (c == 35)) b.word b.rest
    (pass_on word_byte (λ c. not (c == 35)) no_hash b.word w.plain)
    (text_plain parts b.rest b.then)))

comment_stops : (comment : List ℕ) → IsComment comment → Stops (λ c. not (c == 35)) comment
comment_stops [] h = tt
comment_stops (c ∷ comment) h = rw h

line_text : (parts : List Part) (line text comment : List ℕ) → line ≡ text ++ comment → IsText parts text → IsComment comment
    → without_comment line ≡ text
line_text parts line text comment whole words ended =
    rw whole (before_pass (λ c. c == 35) text comment (text_plain parts text words) (comment_stops comment ended))

-- ---- reading the parts

ended_blank : {A : Type 0} (text : List ℕ) (x : A) → IsBlank text → ended text x ≡ Ok x
ended_blank text x h = let none = blank_ends text h in rw none

-- a step of reading, where the one before it is read
step : {A B : Type 0} (r : Result A Unreadable) (x : A) (f : A → Result B Unreadable) → r ≡ Ok x → (r >>= f) ≡ f x
step r x f h = rw h

last_number_reads : (n : ℕ) (text : List ℕ) → IsText (a_number n ∷ []) text → last_number text ≡ Ok n
last_number_reads n text b =
    step (number_in (first_word text)) n (ended (after_word text)) (rw (begins_word text b) (number_reads n b.word b.writes))
    ∙ rw (begins_rest text b) (ended_blank b.rest n b.then)

last_bytes_read : (bytes text : List ℕ) → IsText (some_bytes bytes ∷ []) text → last_bytes text ≡ Ok bytes
last_bytes_read bytes text b =
    step (bytes_in (first_word text)) bytes (ended (after_word text)) (rw (begins_word text b) (bytes_read bytes b.word b.writes))
    ∙ rw (begins_rest text b) (ended_blank b.rest bytes b.then)

both_read : (n : ℕ) (bytes text : List ℕ) → IsText (a_number n ∷ some_bytes bytes ∷ []) text
    → numbered_bytes text ≡ Ok (record { number = n; bytes = bytes })
both_read n bytes text b =
    step (number_in (first_word text)) n (λ m. last_bytes (after_word text) >>= λ bs. Ok (record { number = m; bytes = bs }))
    (rw (begins_word text b) (number_reads n b.word b.writes))
    ∙ step (last_bytes (after_word text)) bytes (λ bs. Ok (record { number = n; bytes = bs }))
    (rw (begins_rest text b) (last_bytes_read bytes b.rest b.then))

-- ---- reading the names

first_named : (f : First) → named_in first_name firsts (first_name f) ≡ Ok f
first_named first.Repeats = refl
first_named first.Store = refl
first_named first.Wire = refl
first_named first.Buffer = refl
first_named first.Host = refl
first_named first.Tnc = refl

place_named : (p : Place) → named_in place_name places (place_name p) ≡ Ok p
place_named place.HostOut = refl
place_named place.HostIn = refl
place_named place.TncOut = refl
place_named place.TncIn = refl

kind_named : (k : Kind) → named_in kind_name kinds (kind_name k) ≡ Ok k
kind_named kind.Shelf = refl
kind_named kind.Strip = refl

host_named : (v : HostVerb) → named_in host_name host_verbs (host_name v) ≡ Ok v
host_named host.Open = refl
host_named host.Step = refl
host_named host.Timer = refl
host_named host.Hear = refl
host_named host.Submit = refl
host_named host.Again = refl
host_named host.WriteOff = refl
host_named host.Collect = refl

tnc_named : (v : TncVerb) → named_in tnc_name tnc_verbs (tnc_name v) ≡ Ok v
tnc_named tnc.Hear = refl
tnc_named tnc.Submit = refl
tnc_named tnc.Collect = refl

-- a name is read, and what comes after it is left
name_step : {T A : Type 0} {p : Part} {R : List ℕ → Type 0} (name_of : T → List ℕ) (all : List T) (x : T)
    (form : T → List ℕ → Result A Unreadable) (text : List ℕ) (b : Begins p R text) → b.word ≡ name_of x
    → named_in name_of all (name_of x) ≡ Ok x
    → (named_in name_of all (first_word text) >>= λ y. form y (after_word text)) ≡ form x b.rest
name_step name_of all x form text b same named =
    step (named_in name_of all (first_word text)) x (λ y. form y (after_word text))
    (ap (named_in name_of all) (begins_word text b ∙ same) ∙ named)
    ∙ ap (form x) (begins_rest text b)

-- ---- reading calls and set-ups

host_step : {R : List ℕ → Type 0} (v : HostVerb) (text : List ℕ) (b : Begins (a_host_call v) R text)
    → host_in text ≡ host_form v b.rest
host_step v text b = name_step host_name host_verbs v host_form text b b.writes (host_named v)

tnc_step : {R : List ℕ → Type 0} (v : TncVerb) (text : List ℕ) (b : Begins (a_tnc_call v) R text)
    → tnc_in text ≡ tnc_form v b.rest
tnc_step v text b = name_step tnc_name tnc_verbs v tnc_form text b b.writes (tnc_named v)

with_number_reads : {A : Type 0} (call : ℕ → A) (n : ℕ) (text : List ℕ) → IsText (a_number n ∷ []) text
    → (last_number text >>= λ m. Ok (call m)) ≡ Ok (call n)
with_number_reads call n text t = step (last_number text) n (λ m. Ok (call m)) (last_number_reads n text t)

with_bytes_reads : {A : Type 0} (call : List ℕ → A) (bytes text : List ℕ) → IsText (some_bytes bytes ∷ []) text
    → (last_bytes text >>= λ bs. Ok (call bs)) ≡ Ok (call bytes)
with_bytes_reads call bytes text t = step (last_bytes text) bytes (λ bs. Ok (call bs)) (last_bytes_read bytes text t)

with_both_reads : {A : Type 0} (call : ℕ → List ℕ → A) (n : ℕ) (bytes text : List ℕ)
    → IsText (a_number n ∷ some_bytes bytes ∷ []) text
    → (numbered_bytes text >>= λ p. Ok (call p.number p.bytes)) ≡ Ok (call n bytes)
with_both_reads call n bytes text t =
    step (numbered_bytes text) (record { number = n; bytes = bytes }) (λ p. Ok (call p.number p.bytes)) (both_read n bytes text t)

host_reads : (c : HostSaid) (text : List ℕ) → IsText (host_parts c) text → host_in text ≡ Ok c
host_reads opens text b = host_step host.Open text b ∙ ended_blank b.rest opens b.then
host_reads steps text b = host_step host.Step text b ∙ ended_blank b.rest steps b.then
host_reads times text b = host_step host.Timer text b ∙ ended_blank b.rest times b.then
host_reads (hears bytes) text b = host_step host.Hear text b ∙ with_bytes_reads hears bytes b.rest b.then
host_reads (submits c bytes) text b = host_step host.Submit text b ∙ with_both_reads submits c bytes b.rest b.then
host_reads (submits_again n bytes) text b = host_step host.Again text b ∙ with_both_reads submits_again n bytes b.rest b.then
host_reads (writes_off n) text b = host_step host.WriteOff text b ∙ with_number_reads writes_off n b.rest b.then
host_reads (collects c) text b = host_step host.Collect text b ∙ with_number_reads collects c b.rest b.then

tnc_reads : (c : TncSaid) (text : List ℕ) → IsText (tnc_parts c) text → tnc_in text ≡ Ok c
tnc_reads (tnc_hears bytes) text b = tnc_step tnc.Hear text b ∙ with_bytes_reads tnc_hears bytes b.rest b.then
tnc_reads (tnc_submits c bytes) text b = tnc_step tnc.Submit text b ∙ with_both_reads tnc_submits c bytes b.rest b.then
tnc_reads (tnc_collects c) text b = tnc_step tnc.Collect text b ∙ with_number_reads tnc_collects c b.rest b.then

place_step : {R : List ℕ → Type 0} (p : Place) (text : List ℕ) (b : Begins (a_place p) R text)
    → store_in text ≡ kind_in p b.rest
place_step p text b = name_step place_name places p kind_in text b b.writes (place_named p)

kind_step : {R : List ℕ → Type 0} (p : Place) (k : Kind) (text : List ℕ) (b : Begins (a_kind k) R text)
    → kind_in p text ≡ store_form p k b.rest
kind_step p k text b = name_step kind_name kinds k (store_form p) text b b.writes (kind_named k)

shelf_reads : (p : Place) (text : List ℕ) → IsText (a_place p ∷ a_kind kind.Shelf ∷ []) text → store_in text ≡ Ok (setup.Shelf p)
shelf_reads p text b =
    let k = b.then in
    place_step p text b ∙ kind_step p kind.Shelf b.rest k ∙ ended_blank k.rest (setup.Shelf p) k.then

strip_reads : (p : Place) (n : ℕ) (text : List ℕ) → IsText (a_place p ∷ a_kind kind.Strip ∷ a_number n ∷ []) text
    → store_in text ≡ Ok (setup.Strip p n)
strip_reads p n text b =
    let k = b.then in
    place_step p text b ∙ kind_step p kind.Strip b.rest k ∙ with_number_reads (setup.Strip p) n k.rest k.then

-- ---- reading a line

some_word : (word : List ℕ) → 0 < length word → (length word == 0) ≡ false
some_word word long = grind (arith, common_steps)

unless : {A : Type 0} (b : Bool) (x y : A) → b ≡ false → (if b then x else y) ≡ y
unless b x y h = rw h

first_step : {R : List ℕ → Type 0} (f : First) (text : List ℕ) (b : Begins (a_first f) R text)
    → text_says text ≡ line_form f b.rest
first_step f text b =
    let w = word_is (a_first f) b.word b.writes in
    let has : has_no_word text ≡ false = rw (begins_word text b) (some_word b.word w.long) in
    unless (has_no_word text) (Ok nothing) _ has ∙ name_step first_name firsts f line_form text b b.writes (first_named f)

setup_reads : (s : Setup) (text : List ℕ) → IsText (setup_parts s) text → text_says text ≡ Ok (set_up s)
setup_reads (setup.Repeats n) text b =
    first_step first.Repeats text b ∙ with_number_reads (λ m. set_up (setup.Repeats m)) n b.rest b.then
setup_reads (setup.Shelf p) text b =
    first_step first.Store text b
    ∙ step (store_in b.rest) (setup.Shelf p) (λ s. Ok (set_up s)) (shelf_reads p b.rest b.then)
setup_reads (setup.Strip p n) text b =
    first_step first.Store text b
    ∙ step (store_in b.rest) (setup.Strip p n) (λ s. Ok (set_up s)) (strip_reads p n b.rest b.then)

text_reads : (s : Said) (text : List ℕ) → IsText (parts_of s) text → text_says text ≡ Ok s
text_reads nothing text b = let none = blank_ends text b in rw none
text_reads (set_up s) text b = setup_reads s text b
text_reads (wire n) text b = first_step first.Wire text b ∙ with_number_reads wire n b.rest b.then
text_reads (buffer n) text b = first_step first.Buffer text b ∙ with_number_reads buffer n b.rest b.then
text_reads (host_is_called c) text b =
    first_step first.Host text b ∙ step (host_in b.rest) c (λ x. Ok (host_is_called x)) (host_reads c b.rest b.then)
text_reads (tnc_is_called c) text b =
    first_step first.Tnc text b ∙ step (tnc_in b.rest) c (λ x. Ok (tnc_is_called x)) (tnc_reads c b.rest b.then)

pub line_reads : (s : Said) (line : List ℕ) → IsLine s line → line_says line ≡ Ok s
line_reads s line l =
    ap text_says (line_text (parts_of s) line l.text l.comment l.whole l.words l.ended) ∙ text_reads s l.text l.words
