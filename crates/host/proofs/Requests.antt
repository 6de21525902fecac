-- The host's frames may be sent.
use Rattle.std.proofs.Common.{◌≡◌, ℕ, refl, ap, ◌∙◌, subst, inl, inr}
use Rattle.frame.specs.declared.form.Direction.TheVariants.{FromHost}
use Rattle.frame.specs.declared.form.Form.TheVariants.{Counted}
use Rattle.frame.specs.declared.frames.HostFrame.{HostFrame}
use Rattle.frame.specs.declared.frames.HostFrame.TheVariants as host
use Rattle.frame.specs.declared.head.Address.{Address}
use Rattle.frame.specs.declared.head.Address.TheVariants.{Channel, General}
use Rattle.frame.specs.declared.head.Head.{Head}
use Rattle.frame.specs.Frame.{Frame, Body, ChannelByte, Carries, body_of}
use Rattle.frame.specs.Head.{byte_of, framed}
use Rattle.frame.specs.Kinds.{host_shows}
use Rattle.ends.specs.Frames.{Request, load_code, load_payload, request_body, request_frame}
use Rattle.host.specs.Asked.{load_shows}

address_fits : (a : Address) → ChannelByte (byte_of a)
address_fits (Channel c) = inl c.within
address_fits General = inr refl

frame_fits : (h : Head) (f : HostFrame) → Carries Counted (host_shows f).payload → Body FromHost (body_of Counted (framed h (host_shows f))) (framed h (host_shows f))
frame_fits h (host.Information p) carries = record { form = Counted; sendable = record { known = refl; address = address_fits h.address; carries = carries }; bytes_are = refl }
frame_fits h (host.Command p) carries = record { form = Counted; sendable = record { known = refl; address = address_fits h.address; carries = carries }; bytes_are = refl }

-- the frame that has a request's address and shows its load has the request's body
module _ (q : Request) (a : Address) (f : HostFrame) where
  abbrev pub head : Head
  head = record { address = a; reset = q.reset; toggle = q.toggle }

  pub request_fits : byte_of a ≡ q.channel → host_shows f ≡ load_shows q.load → Carries Counted (host_shows f).payload → Body FromHost (request_body q) (framed head (host_shows f))
  request_fits at shows carries =
      let same : framed head (host_shows f) ≡ request_frame q =
      ap (framed head) shows ∙ ap (λ (c : ℕ). record { channel = c; code = load_code q.load; reset = q.reset; toggle = q.toggle; payload = load_payload q.load }) at in
      subst (λ (x : Frame). Body FromHost (body_of Counted x) (framed head (host_shows f))) same (frame_fits head f carries)
