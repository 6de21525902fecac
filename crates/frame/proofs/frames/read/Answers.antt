-- The code names the case, and the payload makes the frame; a body without a known code or a payload is that of no frame.
use Rattle.std.proofs.Common.{◌≡◌, get_or, sym, ap, ◌∙◌, subst, arith}
use Rattle.std.proofs.lemmas.List.{take_rest}
use Rattle.std.proofs.lemmas.Option.{same_Some}
use Rattle.std.specs.Option.{option_map}
use lib.Bits.{and_mask}
use Rattle.frame.specs.declared.form.Form.{Form}
use Rattle.frame.specs.Frame.{carried, Carries, Frame, Body, frame_in, IsReadAs}
use Rattle.frame.specs.Head.{framed}
use Rattle.frame.specs.Kinds.{shown_of}
use Rattle.frame.proofs.Bodies.{form_read, rest_read, payload_found, known_form, payload_shown, read_as, read_as_none, no_form}
use Rattle.frame.proofs.frames.read.Goals as goal

pub returns-in_err-of-clause-reads : goal.returns-in_err-of-clause-reads
returns-in_err-of-clause-reads g c =
    let d = g.F.Parsed.direction in
    let body = c.args.body.now in
    let unknown = known_form d _ body _ c.direction.ensures c.of-2.ensures ∙ c.in_err-of.was in
    subst (λ o. IsReadAs d body (option_map (λ r. framed r.0 (g.F.Parsed.shows r.1)) o)) (sym c.from_residual-in_err-of.ensures)
    (read_as_none d body (no_form d body unknown))

pub returns-in_err-payload-clause-reads : goal.returns-in_err-payload-clause-reads
returns-in_err-payload-clause-reads g c =
    let d = g.F.Parsed.direction in
    let body = c.args.body.now in
    let m = c.in_ok-of.field-0 in
    let known = known_form d _ body _ c.direction.ensures c.of-2.ensures ∙ c.in_ok-of.was in
    let nobody : (f : Frame) → Body d body f → ⊥ =
    λ f b.
    let same : b.form ≡ m = same_Some b.form m (sym (form_read d body f b) ∙ known) in
    c.in_err-payload.ensures f.payload (subst (λ (n : Form). Carries n f.payload) same b.sendable.carries)
    (take_rest body 2 ∙ rest_read d body f b ∙ ap (λ (n : Form). carried n f.payload) same) in
    subst (λ o. IsReadAs d body (option_map (λ r. framed r.0 (g.F.Parsed.shows r.1)) o)) (sym c.from_residual-in_err-payload.ensures)
    (read_as_none d body nobody)

pub returns-clause-reads : goal.returns-clause-reads
returns-clause-reads g c =
    let d = g.F.Parsed.direction in
    let body = c.args.body.now in
    let p = c.in_ok-payload.payload.now in
    let h = c.in_ok-head.ensures in
    let known = known_form d _ body _ c.direction.ensures c.of-2.ensures ∙ c.in_ok-of.was in
    let carries = c.in_ok-payload.ensures.0 in
    let found : Body d body (frame_in body p) =
    payload_found d c.in_ok-of.field-0 body _ p (omega arith) h.channel_byte (c.type_inv.body 1).fits
    known (take_rest body 2) carries c.in_ok-payload.ensures.1 in
    let shown =
    payload_shown d c.in_ok-of.field-0 body p _ carries known
    (c.in_ok-frame.ensures.shows ∙ ap (λ k. shown_of d k p) (and_mask (get_or body 1 0) 6)) in
    let same : framed c.in_ok-head.head (g.F.Parsed.shows c.in_ok-frame.frame) ≡ frame_in body p =
    λ i. record {
      channel = h.address i;
      code = (shown i).code;
      reset = h.reset i;
      toggle = h.toggle i;
      payload = (shown i).payload;
    } in
    read_as d body _ (subst (Body d body) (sym same) found)
