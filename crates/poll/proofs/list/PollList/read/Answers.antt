-- One more value of a poll list read, and the whole list.
use Rattle.std.proofs.Common.{◌≡◌, ℕ, ◌+◌, ◌<◌, true, length, get_or, take, set, sym, refl, ap, ◌∙◌, subst, arith, length-set, below_more}
use Rattle.std.proofs.lemmas.List.{take_more, take_all}
use Rattle.poll.specs.declared.channel.Channel.{Channel}
use Rattle.poll.specs.List.{Fresh, GoodTo, Names}
use Rattle.poll.proofs.ListLeft.{left_more}
use Rattle.poll.proofs.ListSeen.{trues_le, trues_lt, trues_set, names_none, names_more}
use Rattle.poll.proofs.list.PollList.read.Goals as goal

pub loop-value-init : goal.loop-value-init
loop-value-init c = (refl, refl, refl, names_none 64, (λ k h. omega arith), refl)

-- a channel not seen leaves room in the list
room : (c : goal.Else-seen-place) → c.loop-value.len < 64
room c =
    let i = c.loop-value.invariant in
    let h : c.from-place.result < length c.loop-value.seen = omega (arith, i.0) in
    omega (arith, i.0, i.2, trues_lt c.loop-value.seen c.from-place.result h c.if-seen-place.false)

pub bounds-channels-len : goal.bounds-channels-len
bounds-channels-len c = room c

pub overflow_add-len : goal.overflow_add-len
overflow_add-len c = omega (arith, room c)

pub loop-value-preserved : goal.loop-value-preserved
loop-value-preserved c =
    let xs = c.args.values.now in
    let i = c.loop-value.value-index in
    let v = get_or xs i 0 in
    let seen = c.loop-value.seen in
    let p = c.from-place.result in
    let inv = c.loop-value.invariant in
    let was = c.in_ok-new.ensures in
    let h : i < length xs = omega arith in
    let l : p < length seen = omega (arith, inv.0) in
    let e : p + 1 ≡ v = omega (arith, was.0) in
    let n : c.channel-channel.result.number + 1 ≡ v = omega (arith, was.0) in
    let r : c.loop-value.len < length c.loop-value.channels = omega (arith, inv.1, room c) in
    let m = take_more xs i 0 h in (
      length-set _ _ _ ∙ inv.0,
      length-set _ _ _ ∙ inv.1,
      trues_set seen p l c.if-seen-place.false ∙ ap (λ (k : ℕ). k + 1) inv.2,
      subst (Names (set seen p true)) (sym m) (names_more seen (take i xs) p v l e inv.3),
      below_more _ _ inv.4 (was.1, was.2, subst (Fresh (take i xs)) e ((inv.3 p (omega arith)).1 c.if-seen-place.false)),
      left_more (λ (x : Channel). x.number) c.loop-value.channels c.loop-value.len c.channel-channel.result (take i xs) v r n inv.5 ∙ sym m,
    )

pub invariant_of-result : goal.invariant_of-result
invariant_of-result c = record { left = omega arith; few = omega (arith, c.loop-value.invariant.0, c.loop-value.invariant.2, trues_le c.loop-value.seen) }

pub returns : goal.returns
returns c =
    let xs = c.args.values.now in
    let i = c.loop-value.value-index in
    let e : i ≡ length xs = omega arith in
    (subst (GoodTo xs) e c.loop-value.invariant.4, c.loop-value.invariant.5 ∙ take_all i xs (omega arith))
