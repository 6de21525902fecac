-- Each form's parts make the body, which fits.
use Rattle.std.proofs.Common.{◌≡◌, ℕ, ◌-◌, List, [], ◌∷◌, length, sym, refl, ap, ◌∙◌, ap₂, append-nil, arith}
use Rattle.frame.specs.declared.form.Form.{Form}
use Rattle.frame.specs.declared.form.Form.TheVariants.{Bare, Text, Counted}
use Rattle.frame.specs.Frame.{Frame, code_byte_of, carried, body_of}
use Rattle.frame.specs.Head.{framed}
use Rattle.frame.specs.Kinds.{shows}
use Rattle.wire.proofs.Short.{address_byte, room, laid}
use Rattle.wire.proofs.writer.lay.Goals as goal

-- the bytes of a body, from what was called for its first two
body_is : (m n : Form) (f : Frame) (a b : ℕ) (rest : List ℕ) → a ≡ f.channel → b ≡ code_byte_of f.code f.reset f.toggle
    → rest ≡ carried n f.payload → m ≡ n → a ∷ b ∷ rest ≡ body_of m f
body_is m n f a b rest ea eb er e =
    ap₂ (λ (x y : ℕ). x ∷ y ∷ rest) ea eb ∙ ap (λ (l : List ℕ). f.channel ∷ code_byte_of f.code f.reset f.toggle ∷ l) er ∙ ap (λ (k : Form). body_of k f) (sym e)

pub seal-requires : goal.seal-requires
seal-requires c =
    let f = framed c.args.head (shows c.args.code c.args.payload.now) in
    room c.args.form f _ c.args.wire.now c.requires (address_byte c.args.head.address) c.if-not-carries.ensures (omega arith)
    (body_is c.args.form Bare f _ _ [] c.byte-channel.ensures c.code_byte-code.ensures refl c.in-Bare.is)

pub seal-requires-in-Text : goal.seal-requires-in-Text
seal-requires-in-Text c =
    let f = framed c.args.head (shows c.args.code c.args.payload.now) in
    room c.args.form f _ c.args.wire.now c.requires (address_byte c.args.head.address) c.if-not-carries.ensures (omega arith)
    (body_is c.args.form Text f _ _ _ c.byte-channel.ensures c.code_byte-code.ensures refl c.in-Text.is)

pub seal-requires-in-Counted : goal.seal-requires-in-Counted
seal-requires-in-Counted c =
    let f = framed c.args.head (shows c.args.code c.args.payload.now) in
    room c.args.form f _ c.args.wire.now c.requires (address_byte c.args.head.address) c.if-not-carries.ensures (omega arith)
    (body_is c.args.form Counted f _ _ _ c.byte-channel.ensures c.code_byte-code.ensures
    (ap (λ (l : List ℕ). (length c.args.payload.now - 1) ∷ l) (append-nil c.args.payload.now)) c.in-Counted.is)

pub returns-in-Bare : goal.returns-in-Bare
returns-in-Bare c =
    let f = framed c.args.head (shows c.args.code c.args.payload.now) in
    laid c.args.form f _ c.args.wire.now c.seal.new.wire c.seal.result c.requires (address_byte c.args.head.address)
    c.if-not-carries.ensures (omega arith)
    (body_is c.args.form Bare f _ _ [] c.byte-channel.ensures c.code_byte-code.ensures refl c.in-Bare.is)
    c.seal.ensures.length c.seal.ensures.after

pub returns-in-Text : goal.returns-in-Text
returns-in-Text c =
    let f = framed c.args.head (shows c.args.code c.args.payload.now) in
    laid c.args.form f _ c.args.wire.now c.seal-in-Text.new.wire c.seal-in-Text.result c.requires (address_byte c.args.head.address)
    c.if-not-carries.ensures (omega arith)
    (body_is c.args.form Text f _ _ _ c.byte-channel.ensures c.code_byte-code.ensures refl c.in-Text.is)
    c.seal-in-Text.ensures.length c.seal-in-Text.ensures.after

pub returns-in-Counted : goal.returns-in-Counted
returns-in-Counted c =
    let f = framed c.args.head (shows c.args.code c.args.payload.now) in
    laid c.args.form f _ c.args.wire.now c.seal-in-Counted.new.wire c.seal-in-Counted.result c.requires (address_byte c.args.head.address)
    c.if-not-carries.ensures (omega arith)
    (body_is c.args.form Counted f _ _ _ c.byte-channel.ensures c.code_byte-code.ensures
    (ap (λ (l : List ℕ). (length c.args.payload.now - 1) ∷ l) (append-nil c.args.payload.now)) c.in-Counted.is)
    c.seal-in-Counted.ensures.length c.seal-in-Counted.ensures.after
