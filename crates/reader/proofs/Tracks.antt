-- What a reader that began fresh knows of the bytes it has heard: the line ends in AA AA and the stuffed bytes of the frame so far.
use Rattle.std.proofs.Common.{◌≡◌, ℕ, suc, ◌+◌, ◌-◌, ◌<◌, ◌≤◌, Bool, true, false, cond, eqb, ltb, leb, List, [], ◌∷◌, ◌++◌, length, get_or, Some, None, Option, sym, refl, ap, ◌∙◌, subst, ap₂, inl, inr, ⊎_elim, append_assoc, append-nil, arith, length-append}
use Rattle.std.proofs.lemmas.List.{get_or_append_left, get_or_at}
use Rattle.std.proofs.lemmas.Bool.{cases_lt, cond_both, eqb-true, eqb-false, ltb-true, ltb-false}
use Rattle.std.proofs.lemmas.Bool.Decides.{nat_tests}
use Rattle.fcs.specs.Fcs.{extended, register_of, residue, check_of}
use Rattle.fcs.proofs.Extended.{extended_fits}
use Rattle.fcs.proofs.Residue.{only_checksum}
use Rattle.frame.specs.declared.form.Direction.{Direction}
use Rattle.frame.specs.declared.form.Form.{Form}
use Rattle.frame.specs.declared.form.Form.TheVariants as form
use Rattle.frame.specs.Frame.{form_of, code_in, reset_in, toggle_in, ChannelByte, NoZero, Carries, carried, Frame, Body}
use Rattle.wire.specs.Wire.{stuff, stuffed, wire_of}
use Rattle.frame.proofs.Bits.{code_back}
use Rattle.wire.proofs.Stuffing.{stuffed_append, stuffed_one}
use Rattle.reader.specs.declared.state.Part.{Part}
use Rattle.reader.specs.declared.state.Part.TheVariants.{Code, Count, Block, Text, Low, High}
use Rattle.reader.specs.declared.state.State.{State}
use Rattle.reader.specs.declared.state.State.TheVariants.{Waiting, Marked, Started, Inside, Escaped, Passed}
use Rattle.reader.specs.State.{part_of}
use Rattle.reader.specs.Read.{Meaning, Next, is_channel, with_channel, with_code, with_byte, hears_at, hears}
use Rattle.reader.specs.Laws.{Bytes, after}

-- what holds of each element holds with one more that it holds of
all_push : (P : ℕ → Type 0) (xs : List ℕ) (b : ℕ) → ((k : ℕ) → k < length xs → P (get_or xs k 0)) → P b
    → (k : ℕ) → k < length (xs ++ b ∷ []) → P (get_or (xs ++ b ∷ []) k 0)
all_push P xs b h here k l = elim (cases_lt k (length xs)) [
  | inl less ↦ subst P (sym (get_or_append_left xs (b ∷ []) 0 k less)) (h k less)
  | inr more ↦ subst P (sym (get_or_at xs b [] 0 k (omega (arith, length-append xs (b ∷ []))))) here
]

pub bytes_push : (xs : List ℕ) (b : ℕ) → Bytes xs → b < 256 → Bytes (xs ++ b ∷ [])
bytes_push xs b h fits = all_push (λ x. x < 256) xs b h fits

no_zero_push : (xs : List ℕ) (b : ℕ) → NoZero xs → (b ≡ 0 → ⊥) → NoZero (xs ++ b ∷ [])
no_zero_push xs b h some = all_push (λ x. x ≡ 0 → ⊥) xs b h some

-- a frame's bytes up to a part: channel and code byte, and then the rest
record Headed (d : Direction) (m : Form) (bs rest : List ℕ) : Type 0 where
  channel : ℕ
  code : ℕ
  bytes_are : bs ≡ channel ∷ code ∷ rest
  address : ChannelByte channel
  fits : code < 256
  known : form_of d (code_in code) ≡ Some m

headed_push : (d : Direction) (m : Form) (bs rest : List ℕ) (b : ℕ) → Headed d m bs rest → Headed d m (bs ++ b ∷ []) (rest ++ b ∷ [])
headed_push d m bs rest b h =
    record {
      channel = h.channel;
      code = h.code;
      bytes_are = ap (λ (l : List ℕ). l ++ b ∷ []) h.bytes_are;
      address = h.address;
      fits = h.fits;
      known = h.known;
    }

-- all of a payload makes a frame
abbrev Whole : Direction → List ℕ → Type 0
Whole d body = (f : Frame) × Body d body f

whole : (d : Direction) (m : Form) (bs p : List ℕ) → Headed d m bs (carried m p) → Carries m p → Whole d bs
whole d m bs p h c = (
  record { channel = h.channel; code = code_in h.code; reset = reset_in h.code; toggle = toggle_in h.code; payload = p },
  record {
    form = m;
    sendable = record { known = h.known; address = h.address; carries = c };
    bytes_are = h.bytes_are ∙ ap (λ (x : ℕ). h.channel ∷ x ∷ carried m p) (sym (code_back h.code h.fits));
  },
)

record BlockSoFar (d : Direction) (k : ℕ) (bs : List ℕ) : Type 0 where
  count : ℕ
  block : List ℕ
  headed : Headed d form.Counted bs (count ∷ block)
  left : length block + k ≡ count + 1
  some : 1 ≤ k
  small : count < 256

record TextSoFar (d : Direction) (bs : List ℕ) : Type 0 where
  text : List ℕ
  headed : Headed d form.Text bs text
  none : NoZero text
  short : length text ≤ 255

-- what a part says of the bytes before it
abbrev Partly : Direction → Part → List ℕ → Type 0
Partly d Code bs = (a : ℕ) × (bs ≡ a ∷ []) × ChannelByte a
Partly d Count bs = Headed d form.Counted bs []
Partly d (Block k) bs = BlockSoFar d k bs
Partly d Text bs = TextSoFar d bs
Partly d Low bs = Whole d bs
Partly d (High low) bs = Whole d bs × (low < 256)

-- what was heard of the checksum
abbrev pub held : Part → List ℕ
held Code = []
held Count = []
held (Block k) = []
held Text = []
held Low = []
held (High low) = low ∷ []

-- a frame under way: the line ends in AA AA, its stuffed bytes, and an AA that is not yet one of them
pub record Under (d : Direction) (p : Part) (bs : List ℕ) (n : ℕ) (heard extra : List ℕ) : Type 0 where
  pub front : List ℕ
  pub line : heard ≡ front ++ (170 ∷ 170 ∷ (stuffed (bs ++ held p) ++ extra))
  pub count : n ≡ length (stuffed (bs ++ held p) ++ extra)
  pub some : 0 < length bs
  pub first : get_or bs 0 0 ≡ 170 → ⊥
  bytes : Bytes bs
  partly : Partly d p bs

abbrev pub TracksAt : Direction → List ℕ → State → List ℕ → ℕ → Type 0
TracksAt d heard Waiting bs n = Unit {0}
TracksAt d heard Marked bs n = (front : List ℕ) × (heard ≡ front ++ 170 ∷ [])
TracksAt d heard Started bs n = (front : List ℕ) × (heard ≡ front ++ (170 ∷ 170 ∷ []))
TracksAt d heard (Inside p) bs n = Under d p bs n heard []
TracksAt d heard (Escaped p) bs n = Under d p bs n heard (170 ∷ [])
TracksAt d heard Passed bs n = (front : List ℕ) × (heard ≡ front ++ wire_of bs) × Whole d bs

abbrev pub Tracks : List ℕ → Meaning → Type 0
Tracks heard m = TracksAt m.direction heard m.state m.bytes m.raw

abbrev TracksNext : List ℕ → Next → Type 0
TracksNext heard x = Tracks heard x.then

-- the line and the count, one byte of the frame on: y is the last raw byte of b's wire form
line_more : (d : Direction) (p : Part) (bs : List ℕ) (n : ℕ) (heard extra : List ℕ) (b y : ℕ) (u : Under d p bs n heard extra) → stuff b ≡ extra ++ y ∷ []
    → heard ++ y ∷ [] ≡ u.front ++ (170 ∷ 170 ∷ stuffed (bs ++ held p ++ b ∷ []))
line_more d p bs n heard extra b y u e =
    let s = stuffed (bs ++ held p) in
    let join : (s ++ extra) ++ y ∷ [] ≡ stuffed (bs ++ held p ++ b ∷ []) =
    append_assoc s extra (y ∷ []) ∙ ap (λ (l : List ℕ). s ++ l) (sym e ∙ sym (stuffed_one b)) ∙ sym (stuffed_append (bs ++ held p) (b ∷ [])) in
    ap (λ (l : List ℕ). l ++ y ∷ []) u.line
    ∙ append_assoc u.front (170 ∷ 170 ∷ (s ++ extra)) (y ∷ [])
    ∙ ap (λ (l : List ℕ). u.front ++ (170 ∷ 170 ∷ l)) join

count_more : (d : Direction) (p : Part) (bs : List ℕ) (n : ℕ) (heard extra : List ℕ) (b y : ℕ) → Under d p bs n heard extra → stuff b ≡ extra ++ y ∷ []
    → n + 1 ≡ length (stuffed (bs ++ held p ++ b ∷ []))
count_more d p bs n heard extra b y u e =
    let s = stuffed (bs ++ held p) in
    let join : stuffed (bs ++ held p ++ b ∷ []) ≡ s ++ extra ++ y ∷ [] =
    stuffed_append (bs ++ held p) (b ∷ []) ∙ ap (λ (l : List ℕ). s ++ l) (stuffed_one b ∙ e) ∙ sym (append_assoc s extra (y ∷ [])) in
    let l = ap length join ∙ length-append (s ++ extra) (y ∷ []) in
    omega (arith, u.count)

-- the frame goes on with a byte more
grows : (d : Direction) (p q : Part) (bs : List ℕ) (n : ℕ) (heard extra : List ℕ) (b y : ℕ) → Under d p bs n heard extra → stuff b ≡ extra ++ y ∷ [] → b < 256
    → held p ≡ [] → held q ≡ [] → Partly d q (bs ++ b ∷ []) → Under d q (bs ++ b ∷ []) (n + 1) (heard ++ y ∷ []) []
grows d p q bs n heard extra b y u e fits hp hq partly =
    let same : stuffed (bs ++ held p ++ b ∷ []) ≡ stuffed (bs ++ b ∷ [] ++ held q) ++ [] =
    ap (λ (l : List ℕ). stuffed (bs ++ l ++ b ∷ [])) hp ∙ ap (λ (l : List ℕ). stuffed (l ++ b ∷ [])) (append-nil bs)
    ∙ sym (append-nil (stuffed (bs ++ b ∷ [])))
    ∙ ap (λ (l : List ℕ). stuffed l ++ []) (sym (append-nil (bs ++ b ∷ [])) ∙ ap (λ (l : List ℕ). bs ++ b ∷ [] ++ l) (sym hq)) in
    record {
      front = u.front;
      line = line_more d p bs n heard extra b y u e ∙ ap (λ (l : List ℕ). u.front ++ (170 ∷ 170 ∷ l)) same;
      count = count_more d p bs n heard extra b y u e ∙ ap length same;
      some = omega (arith, length-append bs (b ∷ []));
      first = λ z. u.first (sym (get_or_append_left bs (b ∷ []) 0 0 u.some) ∙ z);
      bytes = bytes_push bs b u.bytes fits;
      partly = partly;
    }

-- the low byte of the checksum
holds : (d : Direction) (bs : List ℕ) (n : ℕ) (heard extra : List ℕ) (b y : ℕ) → Under d Low bs n heard extra → stuff b ≡ extra ++ y ∷ [] → b < 256
    → Under d (High b) bs (n + 1) (heard ++ y ∷ []) []
holds d bs n heard extra b y u e fits =
    let same : stuffed (bs ++ [] ++ b ∷ []) ≡ stuffed (bs ++ b ∷ []) ++ [] =
    ap (λ (l : List ℕ). stuffed (l ++ b ∷ [])) (append-nil bs) ∙ sym (append-nil (stuffed (bs ++ b ∷ []))) in
    record {
      front = u.front;
      line = line_more d Low bs n heard extra b y u e ∙ ap (λ (l : List ℕ). u.front ++ (170 ∷ 170 ∷ l)) same;
      count = count_more d Low bs n heard extra b y u e ∙ ap length same;
      some = u.some;
      first = u.first;
      bytes = u.bytes;
      partly = (u.partly, fits);
    }

-- the high byte of a good checksum
passes : (d : Direction) (bs : List ℕ) (low n : ℕ) (heard extra : List ℕ) (b y : ℕ) → Under d (High low) bs n heard extra → stuff b ≡ extra ++ y ∷ [] → b < 256
    → extended (register_of bs) (low ∷ b ∷ []) ≡ residue → TracksAt d (heard ++ y ∷ []) Passed bs 0
unfolding wire_of
passes d bs low n heard extra b y u e fits good =
    let check : low ∷ b ∷ [] ≡ check_of bs =
    only_checksum (register_of bs) low b (extended_fits 65535 bs (omega arith) u.bytes) u.partly.1 fits good in (
      u.front,
      line_more d (High low) bs n heard extra b y u e
          ∙ ap (λ (l : List ℕ). u.front ++ (170 ∷ 170 ∷ stuffed l)) (append_assoc bs (low ∷ []) (b ∷ []) ∙ ap (λ (l : List ℕ). bs ++ l) check),
      u.partly.0,
    )

code_step : (d : Direction) (bs : List ℕ) (n : ℕ) (heard extra : List ℕ) (b y : ℕ) (o : Option Form) → Under d Code bs n heard extra → stuff b ≡ extra ++ y ∷ [] → b < 256
    → form_of d (code_in b) ≡ o → Tracks (heard ++ y ∷ []) (with_code d o (bs ++ b ∷ []) (n + 1)).then
code_step d bs n heard extra b y None u e fits known = tt
code_step d bs n heard extra b y (Some m) u e fits known =
    let h : Headed d m (bs ++ b ∷ []) [] = record {
      channel = u.partly.0;
      code = b;
      bytes_are = ap (λ (l : List ℕ). l ++ b ∷ []) u.partly.1;
      address = u.partly.2;
      fits = fits;
      known = known;
    } in
    formed m h known
  where
    formed : (m : Form) → Headed d m (bs ++ b ∷ []) [] → form_of d (code_in b) ≡ Some m → Under d (part_of m) (bs ++ b ∷ []) (n + 1) (heard ++ y ∷ []) []
    formed form.Bare h k = grows d Code Low bs n heard extra b y u e fits refl refl (whole d form.Bare (bs ++ b ∷ []) [] h refl)
    formed form.Text h k =
        grows d Code Text bs n heard extra b y u e fits refl refl (record { text = []; headed = h; none = λ i l z. absurd (omega arith); short = omega arith })
    formed form.Counted h k = grows d Code Count bs n heard extra b y u e fits refl refl h

block_step : (d : Direction) (k : ℕ) (bs : List ℕ) (n : ℕ) (heard extra : List ℕ) (b y : ℕ) (t : Bool) → Under d (Block k) bs n heard extra → stuff b ≡ extra ++ y ∷ [] → b < 256
    → ltb 1 k ≡ t → Under d (cond t (Block (k - 1)) Low) (bs ++ b ∷ []) (n + 1) (heard ++ y ∷ []) []
block_step d k bs n heard extra b y true u e fits t =
    let s = u.partly in
    let l = length-append s.block (b ∷ []) in
    let more = ltb-true 1 k t in
    grows d (Block k) (Block (k - 1)) bs n heard extra b y u e fits refl refl
    (record {
      count = s.count;
      block = s.block ++ b ∷ [];
      headed = headed_push d form.Counted bs (s.count ∷ s.block) b s.headed;
      left = omega (arith, s.left);
      some = omega arith;
      small = s.small;
    })
block_step d k bs n heard extra b y false u e fits t =
    let s = u.partly in
    let p = s.block ++ b ∷ [] in
    let l = length-append s.block (b ∷ []) in
    let last = ltb-false 1 k t in
    let c : length p - 1 ≡ s.count = omega (arith, s.left, s.some) in
    grows d (Block k) Low bs n heard extra b y u e fits refl refl
    (whole d form.Counted (bs ++ b ∷ []) p
    (subst (λ (x : ℕ). Headed d form.Counted (bs ++ b ∷ []) (x ∷ p)) (sym c) (headed_push d form.Counted bs (s.count ∷ s.block) b s.headed))
    (omega arith, omega (arith, s.left, s.some, s.small)))

-- one byte more of a frame
byte_step : (d : Direction) (p : Part) (bs : List ℕ) (n : ℕ) (heard extra : List ℕ) (b y : ℕ) → Under d p bs n heard extra → stuff b ≡ extra ++ y ∷ [] → b < 256
    → Tracks (heard ++ y ∷ []) (with_byte d p bs (n + 1) b).then
byte_step d Code bs n heard extra b y u e fits = code_step d bs n heard extra b y (form_of d (code_in b)) u e fits refl
byte_step d Count bs n heard extra b y u e fits =
    grows d Count (Block (b + 1)) bs n heard extra b y u e fits refl refl
    (record { count = b; block = []; headed = headed_push d form.Counted bs [] b u.partly; left = omega arith; some = omega arith; small = fits })
byte_step d (Block k) bs n heard extra b y u e fits = block_step d k bs n heard extra b y (ltb 1 k) u e fits refl
byte_step d Text bs n heard extra b y u e fits =
    let s = u.partly in
    cond_both (eqb b 0) _ _ (TracksNext (heard ++ y ∷ []))
    (λ t.
    grows d Text Low bs n heard extra b y u e fits refl refl
    (whole d form.Text (bs ++ b ∷ []) s.text
    (subst (λ (x : ℕ). Headed d form.Text (bs ++ b ∷ []) (s.text ++ x ∷ [])) (eqb-true b 0 t) (headed_push d form.Text bs s.text b s.headed))
    (s.short, s.none)))
    (λ f. cond_both (ltb (length bs) 257) _ _ (TracksNext (heard ++ y ∷ []))
    (λ t.
    let less = ltb-true (length bs) 257 t in
    let l = ap length s.headed.bytes_are in
    grows d Text Text bs n heard extra b y u e fits refl refl
    (record {
      text = s.text ++ b ∷ [];
      headed = headed_push d form.Text bs s.text b s.headed;
      none = no_zero_push s.text b s.none (eqb-false b 0 f);
      short = omega (arith, length-append s.text (b ∷ []));
    }))
    (λ g. tt))
byte_step d Low bs n heard extra b y u e fits = holds d bs n heard extra b y u e fits
byte_step d (High low) bs n heard extra b y u e fits =
    cond_both (eqb (extended (register_of bs) (low ∷ b ∷ [])) residue) _ _ (TracksNext (heard ++ y ∷ []))
    (λ t. passes d bs low n heard extra b y u e fits (eqb-true (extended (register_of bs) (low ∷ b ∷ [])) residue t))
    (λ f. tt)

-- the channel byte
channel_step : (d : Direction) (heard : List ℕ) (b : ℕ) → TracksAt d heard Started [] 0 → b < 256 → eqb b 170 ≡ false → Tracks (heard ++ b ∷ []) (with_channel d b).then
channel_step d heard b h fits f =
    let ne = eqb-false b 170 f in
    cond_both (is_channel b) _ _ (TracksNext (heard ++ b ∷ []))
    (λ t.
    let one : stuffed (b ∷ []) ≡ b ∷ [] = stuffed_one b ∙ ap (λ (u : Bool). cond u (b ∷ 0 ∷ []) (b ∷ [])) f in
    record {
      front = h.0;
      line = ap (λ (l : List ℕ). l ++ b ∷ []) h.1 ∙ append_assoc h.0 (170 ∷ 170 ∷ []) (b ∷ [])
          ∙ ap (λ (l : List ℕ). h.0 ++ (170 ∷ 170 ∷ l)) (sym (ap (λ (l : List ℕ). l ++ []) one));
      count = sym (ap (λ (l : List ℕ). length (l ++ [])) one);
      some = omega arith;
      first = ne;
      bytes = bytes_push [] b (λ k l. absurd (omega arith)) fits;
      partly = (b, refl, channel_is b t);
    })
    (λ g. tt)
  where
    channel_is : (b : ℕ) → is_channel b ≡ true → ChannelByte b
    channel_is b t =
        ⊎_elim (λ low. inl (omega arith))
        (λ high. inr (let z : leb b 63 ≡ false = grind (arith, nat_tests) in eqb-true b 255 (ap (λ (u : Bool). cond u true (eqb b 255)) (sym z) ∙ t)))
        (cases_lt b 64)

pub step_tracks : (heard : List ℕ) (d : Direction) (s : State) (bs : List ℕ) (n b : ℕ) → TracksAt d heard s bs n → b < 256 → Tracks (heard ++ b ∷ []) (hears_at d s bs n b).then
step_tracks heard d Waiting bs n b h fits = cond_both (eqb b 170) _ _ (TracksNext (heard ++ b ∷ [])) (λ t. (heard, ap (λ (x : ℕ). heard ++ x ∷ []) (eqb-true b 170 t))) (λ f. tt)
step_tracks heard d Passed bs n b h fits = cond_both (eqb b 170) _ _ (TracksNext (heard ++ b ∷ [])) (λ t. (heard, ap (λ (x : ℕ). heard ++ x ∷ []) (eqb-true b 170 t))) (λ f. tt)
step_tracks heard d Marked bs n b h fits =
    cond_both (eqb b 170) _ _ (TracksNext (heard ++ b ∷ []))
    (λ t. (h.0, ap₂ (λ (l : List ℕ) (x : ℕ). l ++ x ∷ []) h.1 (eqb-true b 170 t) ∙ append_assoc h.0 (170 ∷ []) (170 ∷ [])))
    (λ f. tt)
step_tracks heard d Started bs n b h fits =
    cond_both (eqb b 170) _ _ (TracksNext (heard ++ b ∷ []))
    (λ t. (
      h.0 ++ 170 ∷ [],
      ap₂ (λ (l : List ℕ) (x : ℕ). l ++ x ∷ []) h.1 (eqb-true b 170 t)
          ∙ append_assoc h.0 (170 ∷ 170 ∷ []) (170 ∷ []) ∙ sym (append_assoc h.0 (170 ∷ []) (170 ∷ 170 ∷ [])),
    ))
    (λ f. channel_step d heard b h fits f)
step_tracks heard d (Inside p) bs n b h fits =
    cond_both (eqb b 170) _ _ (TracksNext (heard ++ b ∷ []))
    (λ t. escapes t)
    (λ f. byte_step d p bs n heard [] b b h (ap (λ (u : Bool). cond u (b ∷ 0 ∷ []) (b ∷ [])) f) fits)
  where
    escapes : eqb b 170 ≡ true → Under d p bs (n + 1) (heard ++ b ∷ []) (170 ∷ [])
    escapes t =
        let s = stuffed (bs ++ held p) in
        let z = append-nil s in
        record {
          front = h.front;
          line = ap₂ (λ (l : List ℕ) (x : ℕ). l ++ x ∷ []) h.line (eqb-true b 170 t)
              ∙ append_assoc h.front (170 ∷ 170 ∷ (s ++ [])) (170 ∷ []) ∙ ap (λ (l : List ℕ). h.front ++ (170 ∷ 170 ∷ (l ++ 170 ∷ []))) z;
          count = omega (arith, h.count, ap length z, length-append s (170 ∷ []));
          some = h.some;
          first = h.first;
          bytes = h.bytes;
          partly = h.partly;
        }
step_tracks heard d (Escaped p) bs n b h fits =
    cond_both (eqb b 170) _ _ (TracksNext (heard ++ b ∷ []))
    (λ t. (
      h.front ++ (170 ∷ 170 ∷ stuffed (bs ++ held p)),
      ap₂ (λ (l : List ℕ) (x : ℕ). l ++ x ∷ []) h.line (eqb-true b 170 t)
          ∙ append_assoc h.front (170 ∷ 170 ∷ (stuffed (bs ++ held p) ++ 170 ∷ [])) (170 ∷ [])
          ∙ ap (λ (l : List ℕ). h.front ++ (170 ∷ 170 ∷ l)) (append_assoc (stuffed (bs ++ held p)) (170 ∷ []) (170 ∷ []))
          ∙ sym (append_assoc h.front (170 ∷ 170 ∷ stuffed (bs ++ held p)) (170 ∷ 170 ∷ [])),
    ))
    (λ f. cond_both (eqb b 0) _ _ (TracksNext (heard ++ b ∷ []))
    (λ t. subst (λ (x : ℕ). Tracks (heard ++ x ∷ []) (with_byte d p bs (n + 1) 170).then) (sym (eqb-true b 0 t))
    (byte_step d p bs n heard (170 ∷ []) 170 0 h refl (omega arith)))
    (λ g. tt))

-- along a run
pub run_tracks : (heard bytes : List ℕ) (m : Meaning) → Tracks heard m → Bytes bytes → Tracks (heard ++ bytes) (after m bytes)
run_tracks heard [] m h fits = subst (λ (l : List ℕ). Tracks l m) (sym (append-nil heard)) h
run_tracks heard (b ∷ bytes) m h fits =
    subst (λ (l : List ℕ). Tracks l (after m (b ∷ bytes))) (append_assoc heard (b ∷ []) bytes)
    (run_tracks (heard ++ b ∷ []) bytes (hears m b).then
    (step_tracks heard m.direction m.state m.bytes m.raw b h (fits 0 (omega arith))) (λ k l. fits (suc k) (omega arith)))
