-- How a line is written that says something: its words one after the other, parted by blanks, and a
-- comment at its end. Nothing here says how a line is read.
use Rattle.std.specs.Prelude.{◌≡◌, ℕ, ◌/◌, ◌%◌, ◌^◌, ◌<◌, nat_lt, ◌⊎◌, true, false, ⊤, List, [], ◌∷◌, ◌++◌, codes, decimal, replicate}
use Rattle.std.specs.List.{list_all}
use Rattle.std.specs.Char.{is_ascii_whitespace}
use Rattle.std.specs.Fmt.{digit_glyph}
use Rattle.hex.specs.Hex.{encode_upper}
use Rattle.script.specs.Names.{first_name, place_name, kind_name, host_name, tnc_name}
use Rattle.script.specs.Said.{HostSaid, opens, steps, times, hears, submits, submits_again, writes_off, collects, TncSaid, tnc_hears, tnc_submits, tnc_collects, Said, nothing, set_up, wire, buffer, host_is_called, tnc_is_called}
use Rattle.script.specs.declared.name.First.{First}
use Rattle.script.specs.declared.name.First.TheVariants as first
use Rattle.script.specs.declared.name.Place.{Place}
use Rattle.script.specs.declared.name.Kind.{Kind}
use Rattle.script.specs.declared.name.Kind.TheVariants as kind
use Rattle.script.specs.declared.name.HostVerb.{HostVerb}
use Rattle.script.specs.declared.name.HostVerb.TheVariants as host
use Rattle.script.specs.declared.name.TncVerb.{TncVerb}
use Rattle.script.specs.declared.name.TncVerb.TheVariants as tnc
use Rattle.script.specs.declared.command.Setup.{Setup}
use Rattle.script.specs.declared.command.Setup.TheVariants as setup

-- what a word of a line stands for
pub data Part : Type 0 where
  a_first : First → Part
  a_place : Place → Part
  a_kind : Kind → Part
  a_host_call : HostVerb → Part
  a_tnc_call : TncVerb → Part
  a_number : ℕ → Part
  some_bytes : List ℕ → Part

-- the words of a line, in order
abbrev pub setup_parts : Setup → List Part
setup_parts (setup.Repeats n) = a_first first.Repeats ∷ a_number n ∷ []
setup_parts (setup.Shelf p) = a_first first.Store ∷ a_place p ∷ a_kind kind.Shelf ∷ []
setup_parts (setup.Strip p n) =
    a_first first.Store ∷ a_place p ∷ a_kind kind.Strip ∷ a_number n ∷ []

abbrev pub host_parts : HostSaid → List Part
host_parts opens = a_host_call host.Open ∷ []
host_parts steps = a_host_call host.Step ∷ []
host_parts times = a_host_call host.Timer ∷ []
host_parts (hears b) = a_host_call host.Hear ∷ some_bytes b ∷ []
host_parts (submits c b) = a_host_call host.Submit ∷ a_number c ∷ some_bytes b ∷ []
host_parts (submits_again n b) = a_host_call host.Again ∷ a_number n ∷ some_bytes b ∷ []
host_parts (writes_off n) = a_host_call host.WriteOff ∷ a_number n ∷ []
host_parts (collects c) = a_host_call host.Collect ∷ a_number c ∷ []

abbrev pub tnc_parts : TncSaid → List Part
tnc_parts (tnc_hears b) = a_tnc_call tnc.Hear ∷ some_bytes b ∷ []
tnc_parts (tnc_submits c b) = a_tnc_call tnc.Submit ∷ a_number c ∷ some_bytes b ∷ []
tnc_parts (tnc_collects c) = a_tnc_call tnc.Collect ∷ a_number c ∷ []

abbrev pub parts_of : Said → List Part
parts_of nothing = []
parts_of (set_up s) = setup_parts s
parts_of (wire n) = a_first first.Wire ∷ a_number n ∷ []
parts_of (buffer n) = a_first first.Buffer ∷ a_number n ∷ []
parts_of (host_is_called c) = a_first first.Host ∷ host_parts c
parts_of (tnc_is_called c) = a_first first.Tnc ∷ tnc_parts c

-- a number that 64 bits hold, in decimal digits, with any zeros before it
pub record WritesNumber (n : ℕ) (word : List ℕ) : Type 0 where
  pub fits : n < 2 ^ 64
  pub zeros : ℕ
  pub digits : word ≡ replicate zeros 48 ++ decimal n

-- a hexadecimal digit, of either case
abbrev pub WritesDigit : ℕ → ℕ → Type 0
WritesDigit d c = (c ≡ digit_glyph true d) ⊎ (c ≡ digit_glyph false d)

-- bytes in two hexadecimal digits each, the higher first
abbrev pub WritesPairs : List ℕ → List ℕ → Type 0
WritesPairs [] word = word ≡ []
WritesPairs (b ∷ bs) [] = ⊥
WritesPairs (b ∷ bs) (high ∷ []) = ⊥
WritesPairs (b ∷ bs) (high ∷ low ∷ word) =
    (b < 256) × WritesDigit (b / 16) high × WritesDigit (b % 16) low × WritesPairs bs word

-- `-` is no bytes
abbrev pub WritesBytes : List ℕ → List ℕ → Type 0
WritesBytes [] word = word ≡ codes "-"
WritesBytes (b ∷ bs) word = WritesPairs (b ∷ bs) word

abbrev pub Writes : Part → List ℕ → Type 0
Writes (a_first f) word = word ≡ first_name f
Writes (a_place p) word = word ≡ place_name p
Writes (a_kind k) word = word ≡ kind_name k
Writes (a_host_call v) word = word ≡ host_name v
Writes (a_tnc_call v) word = word ≡ tnc_name v
Writes (a_number n) word = WritesNumber n word
Writes (some_bytes b) word = WritesBytes b word

-- blanks alone, as spaces, tabs and the line's end
abbrev pub IsBlank : List ℕ → Type 0
IsBlank text = list_all is_ascii_whitespace text ≡ true

-- no word goes on here
abbrev pub IsParted : List ℕ → Type 0
IsParted [] = ⊤
IsParted (c ∷ text) = is_ascii_whitespace c ≡ true

-- a text whose first word stands for a part, with any blanks before it, and of whose rest something
-- holds
pub record Begins (part : Part) (RestIs : List ℕ → Type 0) (text : List ℕ) : Type 0 where
  pub blanks : List ℕ
  pub word : List ℕ
  pub rest : List ℕ
  pub whole : text ≡ blanks ++ (word ++ rest)
  pub blank : IsBlank blanks
  pub writes : Writes part word
  pub parted : IsParted rest
  pub then : RestIs rest

-- the words of a text stand for parts, in order
abbrev pub IsText : List Part → List ℕ → Type 0
IsText [] text = IsBlank text
IsText (p ∷ parts) text = Begins p (IsText parts) text

-- a comment begins with `#`
abbrev pub IsComment : List ℕ → Type 0
IsComment [] = ⊤
IsComment (c ∷ text) = c ≡ 35

-- a line that says this
pub record IsLine (said : Said) (line : List ℕ) : Type 0 where
  pub text : List ℕ
  pub comment : List ℕ
  pub whole : line ≡ text ++ comment
  pub words : IsText (parts_of said) text
  pub ended : IsComment comment

-- ---- the plainest line: one space between words, no zeros before a number, capitals, no comment

abbrev pub plain_word : Part → List ℕ
plain_word (a_first f) = first_name f
plain_word (a_place p) = place_name p
plain_word (a_kind k) = kind_name k
plain_word (a_host_call v) = host_name v
plain_word (a_tnc_call v) = tnc_name v
plain_word (a_number n) = decimal n
plain_word (some_bytes []) = codes "-"
plain_word (some_bytes (b ∷ bytes)) = encode_upper (b ∷ bytes)

abbrev pub plain_text : List Part → List ℕ
plain_text [] = []
plain_text (p ∷ []) = plain_word p
plain_text (p ∷ q ∷ parts) = plain_word p ++ 32 ∷ plain_text (q ∷ parts)

abbrev pub plain_line : Said → List ℕ
plain_line said = plain_text (parts_of said)

-- numbers that 64 bits hold, and bytes
abbrev pub Fits : Part → Type 0
Fits (a_first f) = ⊤
Fits (a_place p) = ⊤
Fits (a_kind k) = ⊤
Fits (a_host_call v) = ⊤
Fits (a_tnc_call v) = ⊤
Fits (a_number n) = n < 2 ^ 64
Fits (some_bytes bytes) = list_all (λ b. nat_lt b 256) bytes ≡ true

abbrev pub AllFit : List Part → Type 0
AllFit [] = ⊤
AllFit (p ∷ parts) = Fits p × AllFit parts
