-- What a script sets up.
use Rattle.std.specs.Prelude.{◌≡◌, ℕ, ◌<◌, ◌⊎◌, List, ◌++◌, codes, decimal, vec_len, Option, Some, None, Err}
use Rattle.frame.specs.declared.form.Direction.TheVariants.{FromTnc}
use Rattle.reader.specs.Read.{fresh}
use Rattle.store.specs.Meaning.{empty}
use Rattle.shelf.specs.Size.{place_count}
use Rattle.strip.specs.declared.refusal.AreaRefusal.TheVariants.{BadSize}
use Rattle.strip.specs.Records.{limit_of}
use Rattle.strip.specs.Refusal as area
use Rattle.ends.specs.declared.refusal.Refusal.TheVariants.{ManyRepeats}
use Rattle.ends.specs.Refusal.{refusal_number}
use Rattle.ends.specs.Ear.{heard_by}
use Rattle.ends.specs.Limits.{most_repeats}
use Rattle.ends.specs.Host.{new_host}
use Rattle.host.specs.Model.{host_of}
use Rattle.script.specs.Names.{place_name}
use Rattle.script.specs.declared.name.Place.{Place}
use Rattle.script.specs.declared.name.Place.TheVariants as place
use Rattle.script.specs.declared.command.Setup.{Setup}
use Rattle.script.specs.declared.command.Setup.TheVariants as setup
use Rattle.replay.specs.declared.any_store.AnyStore.{AnyStore}
use Rattle.replay.specs.declared.area.Choice.{Choice}
use Rattle.replay.specs.declared.area.Choice.TheVariants as choice
use Rattle.replay.specs.declared.settings.Choices.{Choices}
use Rattle.replay.specs.declared.settings.Settings.{Settings}
use Rattle.replay.specs.declared.settings.SetupError.{SetupError}
use Rattle.replay.specs.declared.settings.SetupError.TheVariants as error
use Rattle.replay.specs.AnyStore.{meaning_of, area_in}
use Rattle.replay.specs.Buffers.{zeros}

-- how many blocks a store takes, by what is chosen
abbrev pub limit_chosen : Choice → ℕ
limit_chosen choice.Shelf = place_count
limit_chosen (choice.Strip a) = limit_of (vec_len a.bytes)

-- the area of a strip that is chosen
abbrev pub area_chosen : Choice → Option (List ℕ)
area_chosen choice.Shelf = None
area_chosen (choice.Strip a) = Some a.bytes.items

-- a new store of the kind that is chosen: empty, and in the area that was made for it
pub record IsNewStore (c : Choice) (s : AnyStore) : Type 0 where
  pub means : meaning_of s ≡ empty (limit_chosen c)
  pub area : area_in s ≡ area_chosen c

-- another store for one place
abbrev pub choose : Place → Choice → Choices → Choices
choose place.HostOut x c = record c { host_out = x }
choose place.HostIn x c = record c { host_in = x }
choose place.TncOut x c = record c { tnc_out = x }
choose place.TncIn x c = record c { tnc_in = x }

abbrev pub chosen_at : Place → Choices → Choice
chosen_at place.HostOut c = c.host_out
chosen_at place.HostIn c = c.host_in
chosen_at place.TncOut c = c.tnc_out
chosen_at place.TncIn c = c.tnc_in

-- what a granted set-up leaves
abbrev pub SetUp : Setup → Settings → Settings → Type 0
SetUp (setup.Repeats n) old new =
    (host_of new.host.link ≡ new_host n) × (heard_by new.host.ear ≡ fresh FromTnc)
    × (new.choices ≡ old.choices)
SetUp (setup.Shelf p) old new =
    (new.host ≡ old.host) × (new.choices ≡ choose p choice.Shelf old.choices)
SetUp (setup.Strip p n) old new =
    (new.host ≡ old.host)
    × (new.choices ≡ choose p (chosen_at p new.choices) old.choices)
    × (area_chosen (chosen_at p new.choices) ≡ Some (zeros n))

-- why one is not granted
abbrev pub NotSetUp : Setup → SetupError → Type 0
NotSetUp (setup.Repeats n) e = (most_repeats < n) × (e ≡ error.Repeats ManyRepeats)
NotSetUp (setup.Shelf p) e = ⊥
NotSetUp (setup.Strip p n) e =
    (e ≡ error.NoMemory) ⊎ ((e ≡ error.Store p BadSize) × (area.check_answer n ≡ Err BadSize))

abbrev pub error_words : SetupError → List ℕ
error_words (error.Repeats r) = codes "repeats refused " ++ decimal (refusal_number r)
error_words (error.Store p r) =
    codes "store " ++ (place_name p ++ (codes " refused " ++ decimal (area.refusal_number r)))
error_words error.NoMemory = codes "there is no memory for it"
