-- The words that a script has in fixed places, one for each thing that it names.
use Rattle.std.specs.Prelude.{ℕ, ◌==◌, if◌then◌else◌, List, [], ◌∷◌, length, codes, Result, Err}
use Rattle.std.specs.List.{find}
use Rattle.std.specs.Option.{ok_or}
use Rattle.std.specs.Str.{bytes_eq}
use Rattle.script.specs.declared.unreadable.Unreadable.{Unreadable}
use Rattle.script.specs.declared.unreadable.Unreadable.TheVariants.{UnknownWord, MissingWord}
use Rattle.script.specs.declared.name.First.{First}
use Rattle.script.specs.declared.name.First.TheVariants as first
use Rattle.script.specs.declared.name.Place.{Place}
use Rattle.script.specs.declared.name.Place.TheVariants as place
use Rattle.script.specs.declared.name.Kind.{Kind}
use Rattle.script.specs.declared.name.Kind.TheVariants as kind
use Rattle.script.specs.declared.name.HostVerb.{HostVerb}
use Rattle.script.specs.declared.name.HostVerb.TheVariants as host
use Rattle.script.specs.declared.name.TncVerb.{TncVerb}
use Rattle.script.specs.declared.name.TncVerb.TheVariants as tnc

abbrev pub first_name : First → List ℕ
first_name first.Repeats = codes "repeats"
first_name first.Store = codes "store"
first_name first.Wire = codes "wire"
first_name first.Buffer = codes "buffer"
first_name first.Host = codes "host"
first_name first.Tnc = codes "tnc"

abbrev pub place_name : Place → List ℕ
place_name place.HostOut = codes "host-out"
place_name place.HostIn = codes "host-in"
place_name place.TncOut = codes "tnc-out"
place_name place.TncIn = codes "tnc-in"

abbrev pub kind_name : Kind → List ℕ
kind_name kind.Shelf = codes "shelf"
kind_name kind.Strip = codes "strip"

abbrev pub host_name : HostVerb → List ℕ
host_name host.Open = codes "open"
host_name host.Step = codes "step"
host_name host.Timer = codes "timer"
host_name host.Hear = codes "hear"
host_name host.Submit = codes "submit"
host_name host.Again = codes "again"
host_name host.WriteOff = codes "write-off"
host_name host.Collect = codes "collect"

abbrev pub tnc_name : TncVerb → List ℕ
tnc_name tnc.Hear = codes "hear"
tnc_name tnc.Submit = codes "submit"
tnc_name tnc.Collect = codes "collect"

-- all of each kind
abbrev pub firsts : List First
firsts = first.Repeats ∷ first.Store ∷ first.Wire ∷ first.Buffer ∷ first.Host ∷ first.Tnc ∷ []

abbrev pub places : List Place
places = place.HostOut ∷ place.HostIn ∷ place.TncOut ∷ place.TncIn ∷ []

abbrev pub kinds : List Kind
kinds = kind.Shelf ∷ kind.Strip ∷ []

abbrev pub host_verbs : List HostVerb
host_verbs =
    host.Open ∷ host.Step ∷ host.Timer ∷ host.Hear
    ∷ host.Submit ∷ host.Again ∷ host.WriteOff ∷ host.Collect ∷ []

abbrev pub tnc_verbs : List TncVerb
tnc_verbs = tnc.Hear ∷ tnc.Submit ∷ tnc.Collect ∷ []

-- the one of all that is called by a word; where there is no word, one is missing
abbrev pub named_in : {T : Type 0} → (T → List ℕ) → List T → List ℕ → Result T Unreadable
named_in name_of all word =
    if length word == 0 then Err MissingWord
    else ok_or (find (λ one. bytes_eq (name_of one) word) all) UnknownWord
