-- What a line says, as it stands in the line.
use Rattle.std.specs.Prelude.{ℕ, if◌then◌else◌, List, Result, Ok, Err}
use Rattle.script.specs.Words.{without_comment, first_word, after_word, has_no_word}
use Rattle.script.specs.Names.{first_name, place_name, kind_name, host_name, tnc_name, firsts, places, kinds, host_verbs, tnc_verbs, named_in}
use Rattle.script.specs.Numbers.{number_in}
use Rattle.script.specs.Bytes.{bytes_in, bytes_of}
use Rattle.script.specs.Said.{HostSaid, opens, steps, times, hears, submits, submits_again, writes_off, collects, TncSaid, tnc_hears, tnc_submits, tnc_collects, Said, nothing, set_up, wire, buffer, host_is_called, tnc_is_called}
use Rattle.script.specs.declared.unreadable.Unreadable.{Unreadable}
use Rattle.script.specs.declared.unreadable.Unreadable.TheVariants.{SpareWord}
use Rattle.script.specs.declared.name.First.{First}
use Rattle.script.specs.declared.name.First.TheVariants as first
use Rattle.script.specs.declared.name.Place.{Place}
use Rattle.script.specs.declared.name.Kind.{Kind}
use Rattle.script.specs.declared.name.Kind.TheVariants as kind
use Rattle.script.specs.declared.name.HostVerb.{HostVerb}
use Rattle.script.specs.declared.name.HostVerb.TheVariants as host
use Rattle.script.specs.declared.name.TncVerb.{TncVerb}
use Rattle.script.specs.declared.name.TncVerb.TheVariants as tnc
use Rattle.script.specs.declared.reading.NumberedHex.{NumberedHex}
use Rattle.script.specs.declared.command.Setup.{Setup}
use Rattle.script.specs.declared.command.Setup.TheVariants as setup

-- what follows, where a part of the line is read, and else why it is not
infixl 10 ◌>>=◌
abbrev pub ◌>>=◌ : {A B : Type 0} → Result A Unreadable → (A → Result B Unreadable)
    → Result B Unreadable
Ok x >>= f = f x
Err e >>= f = Err e

-- no word more
abbrev pub ended : {A : Type 0} → List ℕ → A → Result A Unreadable
ended text said = if has_no_word text then Ok said else Err SpareWord

-- a number, and no word more
abbrev pub last_number : List ℕ → Result ℕ Unreadable
last_number text = number_in (first_word text) >>= ended (after_word text)

-- bytes, and no word more
abbrev pub last_bytes : List ℕ → Result (List ℕ) Unreadable
last_bytes text = bytes_in (first_word text) >>= ended (after_word text)

-- a number, then bytes, and no word more
pub record Numbered : Type 0 where
  pub number : ℕ
  pub bytes : List ℕ

abbrev pub numbered_of : NumberedHex → Numbered
numbered_of h = record { number = h.number; bytes = bytes_of h.bytes }

abbrev pub numbered_bytes : List ℕ → Result Numbered Unreadable
numbered_bytes text =
    number_in (first_word text) >>= λ n.
    last_bytes (after_word text) >>= λ bytes. Ok (record { number = n; bytes = bytes })

-- a call with a number, one with bytes, and one with a number and bytes
abbrev pub with_number : {A : Type 0} → (ℕ → A) → List ℕ → Result A Unreadable
with_number call text = last_number text >>= λ n. Ok (call n)

abbrev pub with_bytes : {A : Type 0} → (List ℕ → A) → List ℕ → Result A Unreadable
with_bytes call text = last_bytes text >>= λ bytes. Ok (call bytes)

abbrev pub with_both : {A : Type 0} → (ℕ → List ℕ → A) → List ℕ → Result A Unreadable
with_both call text = numbered_bytes text >>= λ p. Ok (call p.number p.bytes)

-- what follows the name of a call
abbrev pub host_form : HostVerb → List ℕ → Result HostSaid Unreadable
host_form host.Open text = ended text opens
host_form host.Step text = ended text steps
host_form host.Timer text = ended text times
host_form host.Hear text = with_bytes hears text
host_form host.Submit text = with_both submits text
host_form host.Again text = with_both submits_again text
host_form host.WriteOff text = with_number writes_off text
host_form host.Collect text = with_number collects text

abbrev pub tnc_form : TncVerb → List ℕ → Result TncSaid Unreadable
tnc_form tnc.Hear text = with_bytes tnc_hears text
tnc_form tnc.Submit text = with_both tnc_submits text
tnc_form tnc.Collect text = with_number tnc_collects text

-- what follows the name of a store
abbrev pub store_form : Place → Kind → List ℕ → Result Setup Unreadable
store_form place kind.Shelf text = ended text (setup.Shelf place)
store_form place kind.Strip text = last_number text >>= λ n. Ok (setup.Strip place n)

-- what follows the end's name, and what follows `store`
abbrev pub host_in : List ℕ → Result HostSaid Unreadable
host_in text =
    named_in host_name host_verbs (first_word text) >>= λ verb. host_form verb (after_word text)

abbrev pub tnc_in : List ℕ → Result TncSaid Unreadable
tnc_in text =
    named_in tnc_name tnc_verbs (first_word text) >>= λ verb. tnc_form verb (after_word text)

abbrev pub kind_in : Place → List ℕ → Result Setup Unreadable
kind_in place text =
    named_in kind_name kinds (first_word text) >>= λ k. store_form place k (after_word text)

abbrev pub store_in : List ℕ → Result Setup Unreadable
store_in text =
    named_in place_name places (first_word text) >>= λ place. kind_in place (after_word text)

-- what follows the first word of a line
abbrev pub line_form : First → List ℕ → Result Said Unreadable
line_form first.Repeats text = last_number text >>= λ n. Ok (set_up (setup.Repeats n))
line_form first.Store text = store_in text >>= λ s. Ok (set_up s)
line_form first.Wire text = last_number text >>= λ n. Ok (wire n)
line_form first.Buffer text = last_number text >>= λ n. Ok (buffer n)
line_form first.Host text = host_in text >>= λ c. Ok (host_is_called c)
line_form first.Tnc text = tnc_in text >>= λ c. Ok (tnc_is_called c)

abbrev pub text_says : List ℕ → Result Said Unreadable
text_says text =
    if has_no_word text then Ok nothing
    else named_in first_name firsts (first_word text) >>= λ f. line_form f (after_word text)

-- what a line says, or what is wrong with the first word, from the left, that is missing or that no
-- line may have there
abbrev pub line_says : List ℕ → Result Said Unreadable
line_says line = text_says (without_comment line)
