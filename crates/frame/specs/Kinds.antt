-- The kinds of frames: the code of each, what it shows, and for which address it is.
use Rattle.std.specs.Prelude.{◌≡◌, ℕ, List, [], Some, None, IsSome, Option, ◌≢◌, ⊤, refl}
use Rattle.std.specs.Borrow.{Bor}
use Rattle.frame.specs.declared.form.Direction.{Direction}
use Rattle.frame.specs.declared.form.Direction.TheVariants.{FromHost, FromTnc}
use Rattle.frame.specs.declared.form.Form.{Form}
use Rattle.frame.specs.declared.form.Form.TheVariants.{Bare, Text, Counted}
use Rattle.frame.specs.declared.frames.HostFrame.{HostFrame}
use Rattle.frame.specs.declared.frames.HostFrame.TheVariants as host
use Rattle.frame.specs.declared.frames.TncFrame.{TncFrame}
use Rattle.frame.specs.declared.frames.TncFrame.TheVariants as tnc
use Rattle.frame.specs.declared.head.Address.{Address}
use Rattle.frame.specs.declared.head.Address.TheVariants.{Channel, General}
use Rattle.frame.specs.Frame.{Carries, carried, form_of}

-- what a parsed frame shows: its code, and its message, list or block
pub record Shown : Type 0 where
  pub code : ℕ
  pub payload : List ℕ

abbrev pub shows : ℕ → List ℕ → Shown
shows code payload = record { code = code; payload = payload }

abbrev pub host_shows : HostFrame → Shown
host_shows (host.Information p) = shows 0 p.now
host_shows (host.Command p) = shows 1 p.now

abbrev pub tnc_shows : TncFrame → Shown
tnc_shows tnc.Success = shows 0 []
tnc_shows (tnc.Message p) = shows 1 p.now
tnc_shows (tnc.List p) = shows 1 p.now
tnc_shows (tnc.Failure p) = shows 2 p.now
tnc_shows (tnc.Status p) = shows 3 p.now
tnc_shows (tnc.HeaderAlone p) = shows 4 p.now
tnc_shows (tnc.HeaderFirst p) = shows 5 p.now
tnc_shows (tnc.Monitored p) = shows 6 p.now
tnc_shows (tnc.Information p) = shows 7 p.now

-- what a frame with this code and payload shows; none where the direction does not know the code
abbrev pub shown_in : Option Form → ℕ → List ℕ → Option Shown
shown_in None code payload = None
shown_in (Some Bare) code payload = Some (shows code [])
shown_in (Some Text) code payload = Some (shows code payload)
shown_in (Some Counted) code payload = Some (shows code payload)

abbrev pub shown_of : Direction → ℕ → List ℕ → Option Shown
shown_of d code payload = shown_in (form_of d code) code payload

-- each case has a code that its direction knows
pub host_known : (f : HostFrame) → IsSome (form_of FromHost (host_shows f).code)
host_known (host.Information p) = refl
host_known (host.Command p) = refl

pub tnc_known : (f : TncFrame) → IsSome (form_of FromTnc (tnc_shows f).code)
tnc_known tnc.Success = refl
tnc_known (tnc.Message p) = refl
tnc_known (tnc.List p) = refl
tnc_known (tnc.Failure p) = refl
tnc_known (tnc.Status p) = refl
tnc_known (tnc.HeaderAlone p) = refl
tnc_known (tnc.HeaderFirst p) = refl
tnc_known (tnc.Monitored p) = refl
tnc_known (tnc.Information p) = refl

-- a list answers the general poll alone, and a message a channel alone; every other case is for every address
abbrev pub host_suits : Address → HostFrame → Type 0
host_suits a f = ⊤

abbrev pub tnc_suits : Address → TncFrame → Type 0
tnc_suits General (tnc.Message p) = ⊥
tnc_suits (Channel c) (tnc.List p) = ⊥
tnc_suits a f = ⊤

-- the payload that the bytes after a code byte carry in that form; none where they carry none
abbrev pub Holds : Form → List ℕ → Option (Bor (List ℕ)) → Type 0
Holds m rest None = (p : List ℕ) → Carries m p → rest ≢ carried m p
Holds m rest (Some p) = Carries m p.now × (rest ≡ carried m p.now)
