-- What is told when a script is through: how the ends stand, and the notes that are not spent.
use Rattle.std.specs.Prelude.{ℕ, ◌+◌, ◌-◌, ◌==◌, ◌&&◌, if◌then◌else◌, List, ◌∷◌, ◌++◌, map, codes, decimal, Option, Some, None}
use Rattle.std.specs.List.{filter_map, range_with_len}
use Rattle.std.specs.Option.{option_map}
use Rattle.poll.specs.Channel.{last_channel}
use Rattle.ends.specs.Host as model
use Rattle.ends.specs.Tnc.{Tnc}
use Rattle.host.specs.declared.host.State.{State}
use Rattle.host.specs.declared.host.State.TheVariants as state
use Rattle.replay.specs.declared.ending.Stand.{Stand}
use Rattle.replay.specs.declared.ending.Stand.TheVariants.{Fresh, Opening, Idle, OnItsWay, Down}
use Rattle.replay.specs.declared.ending.End.{End}
use Rattle.replay.specs.declared.ending.End.TheVariants as at
use Rattle.replay.specs.declared.ending.Tally.{Tally}
use Rattle.replay.specs.declared.ending.FinalLine.{FinalLine}
use Rattle.replay.specs.declared.ending.FinalLine.TheVariants.{HostStands, Channel, WrittenOff}
use Rattle.replay.specs.declared.event.Doubt.{Doubt}
use Rattle.replay.specs.declared.notes.Kept.{Kept}
use Rattle.replay.specs.Event.{block_words}
use Rattle.replay.specs.Notes.{Unspent}

-- where the host stands
abbrev pub stand_of : State → Stand
stand_of state.Fresh = Fresh
stand_of (state.Opening repeats) = Opening
stand_of state.Idle = Idle
stand_of (state.OnItsWay asked sent) = OnItsWay
stand_of state.Down = Down

-- the counts of a channel, unless they are of no block; what is submitted and not gone waits
abbrev pub some_counted : Tally → Option Tally
some_counted t = if t.submitted == 0 && t.gone == 0 then None else Some t

abbrev pub tally : ℕ → ℕ → ℕ → Option Tally
tally c s g = some_counted (record { channel = c; submitted = s; gone = g; waiting = s - g })

abbrev pub tally_at : End → model.Host → Tnc → ℕ → Option Tally
tally_at at.Host h t c = tally c (h.submitted c) (h.gone c)
tally_at at.Tnc h t c = tally c (t.submitted c) (t.gone c)

unfoldable pub channels : List ℕ
channels = range_with_len 0 (last_channel + 1)

-- the counts of each channel of an end that has any, ascending
abbrev pub channel_line : End → model.Host → Tnc → ℕ → Option FinalLine
channel_line end h t c = option_map (Channel end) (tally_at end h t c)

abbrev pub channel_lines : End → model.Host → Tnc → List FinalLine
channel_lines end h t = filter_map (channel_line end h t) channels

-- a note that is not spent, by its block and its number
abbrev pub doubt_kept : Kept → Doubt
doubt_kept k = record {
  block = record { channel = k.note.channel; number = k.note.number };
  note = k.number;
}

abbrev pub note_line : Kept → FinalLine
note_line k = WrittenOff (doubt_kept k)

-- all of it: where the host stands, the channels of the host and of the TNC, and the notes, the
-- oldest first
abbrev pub final_lines : State → model.Host → Tnc → Unspent → List FinalLine
final_lines s h t notes =
    HostStands (stand_of s)
    ∷ (channel_lines at.Host h t ++ (channel_lines at.Tnc h t ++ map note_line notes.kept))

-- ---- in words

abbrev pub stand_word : Stand → List ℕ
stand_word Fresh = codes "fresh"
stand_word Opening = codes "opening"
stand_word Idle = codes "idle"
stand_word OnItsWay = codes "on-its-way"
stand_word Down = codes "down"

abbrev pub end_word : End → List ℕ
end_word at.Host = codes "host"
end_word at.Tnc = codes "tnc"

abbrev pub tally_words : Tally → List ℕ
tally_words t =
    codes "channel " ++ (decimal t.channel
    ++ (codes " submitted " ++ (decimal t.submitted
    ++ (codes " gone " ++ (decimal t.gone
    ++ (codes " waiting " ++ decimal t.waiting))))))

abbrev pub final_words : FinalLine → List ℕ
final_words (HostStands s) = codes "end host " ++ stand_word s
final_words (Channel end t) = codes "end " ++ (end_word end ++ (codes " " ++ tally_words t))
final_words (WrittenOff d) =
    codes "end note " ++ (decimal d.note
    ++ (codes " " ++ (block_words d.block ++ codes " written off")))
