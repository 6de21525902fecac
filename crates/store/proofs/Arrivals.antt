-- A list in order of arrival, seen by channel; and how each call on it ends.
-- A store that keeps such a list has its list after the call to show, and nothing of channels.
use Rattle.std.proofs.Common.{◌≡◌, ℕ, ◌<◌, ◌≤◌, Bool, true, false, cond, eqb, ltb, MatchResult, Result, Some, None, List, [], ◌∷◌, ◌++◌, length, get_or, drop, Ok, Err, sym, refl, ap, ◌∙◌, inl, inr, arith}
use mathlib.Core.Path.{fun_ext}
use Rattle.std.proofs.lemmas.Bool.{eq-eqb, ne_eqb, eqb-true, cond-true, cond-false, le-ltb, lt-ltb, cases_eq, cases_lt}
use Rattle.std.specs.Option.{ok_or}
use Rattle.std.proofs.lemmas.List.{append-nil}
use Rattle.std.specs.List.{AllByRecursion, remove}
use Rattle.store.specs.declared.refusal.Refusal.{Refusal}
use Rattle.store.specs.declared.refusal.Refusal.TheVariants.{NoneWaiting, Full}
use Rattle.poll.specs.Channel.{last_channel, channels}
use Rattle.frame.specs.Frame.{longest_block}
use Rattle.store.specs.Meaning.{Block, plain, replaced, waiting_below, total}
use Rattle.store.specs.Rules.{if_granted, put_answer, put_after, first_answer, first_waiting, copy_source, count_on, length_of, written_over, granted, drop_answer, drop_after, shortened}
use Rattle.store.specs.Arrival.{Entry, Storable, on, view, arrived, without, place_of, IsFirst}
use Rattle.store.proofs.Totals.{replaced_here, replaced_apart, below_none, below_replaced}
use Rattle.store.proofs.Ways.{put_goes, put_stays}
use Rattle.store.proofs.Places.{on_none, on_some, without_some}

-- one more in front, one more at the end, one less: each a change of one channel
pub view_cons : (x : Entry) (xs : List Entry) → view (x ∷ xs) ≡ replaced (view xs) x.channel (x.block ∷ on x.channel xs)
view_cons x xs = fun_ext (λ k. at k (eqb k x.channel) refl)
  where
    at : (k : ℕ) (t : Bool) → eqb k x.channel ≡ t → cond t (x.block ∷ on k xs) (on k xs) ≡ cond t (x.block ∷ on x.channel xs) (on k xs)
    at k true e = ap (λ (c : ℕ). x.block ∷ on c xs) (eqb-true k x.channel e)
    at k false e = refl

on_append : (k : ℕ) (xs ys : List Entry) → on k (xs ++ ys) ≡ on k xs ++ on k ys
on_append k [] ys = refl
on_append k (x ∷ xs) ys =
    elim (eqb k x.channel)
    as (λ b. cond b (x.block ∷ on k (xs ++ ys)) (on k (xs ++ ys)) ≡ cond b (x.block ∷ on k xs) (on k xs) ++ on k ys)
    [ true ↦ ap (λ (v : List Block). x.block ∷ v) (on_append k xs ys) | false ↦ on_append k xs ys ]

-- a block that comes last joins its channel's end
pub view_push : (xs : List Entry) (c : ℕ) (b : Block) → view (xs ++ record { channel = c; block = b } ∷ []) ≡ replaced (view xs) c (on c xs ++ b ∷ [])
view_push xs c b = fun_ext (λ k. on_append k xs (record { channel = c; block = b } ∷ []) ∙ at k (eqb k c) refl)
  where
    at : (k : ℕ) (t : Bool) → eqb k c ≡ t → on k xs ++ cond t (b ∷ []) [] ≡ cond t (on c xs ++ b ∷ []) (on k xs)
    at k true e = ap (λ (j : ℕ). on j xs ++ b ∷ []) (eqb-true k c e)
    at k false e = append-nil (on k xs)

on_without : (c : ℕ) (xs : List Entry) → on c (without c xs) ≡ drop 1 (on c xs)
on_without c [] = refl
on_without c (x ∷ xs) =
    elim (cases_eq c x.channel) [
      | inl e ↦ let t = eq-eqb c x.channel e in ap (on c) (cond-true _ _ _ t) ∙ sym (ap (drop 1) (cond-true _ _ _ t))
      | inr n ↦ let t = ne_eqb c x.channel n in ap (on c) (cond-false _ _ _ t) ∙ cond-false _ _ _ t ∙ on_without c xs ∙ sym (ap (drop 1) (cond-false _ _ _ t))
    ]

on_without_other : (k c : ℕ) (xs : List Entry) → (k ≡ c → ⊥) → on k (without c xs) ≡ on k xs
on_without_other k c [] ne = refl
on_without_other k c (x ∷ xs) ne =
    elim (cases_eq c x.channel) [
      | inl e ↦ ap (on k) (cond-true _ _ _ (eq-eqb c x.channel e)) ∙ sym (cond-false _ _ _ (ne_eqb k x.channel (λ f. ne (f ∙ sym e))))
      | inr n ↦
          ap (on k) (cond-false _ _ _ (ne_eqb c x.channel n))
          ∙ (elim (eqb k x.channel) as (λ b. cond b (x.block ∷ on k (without c xs)) (on k (without c xs)) ≡ cond b (x.block ∷ on k xs) (on k xs))
          [ true ↦ ap (λ (v : List Block). x.block ∷ v) (on_without_other k c xs ne) | false ↦ on_without_other k c xs ne ])
    ]

without_at : (k c : ℕ) (xs : List Entry) → on k (without c xs) ≡ replaced (view xs) c (drop 1 (on c xs)) k
without_at k c xs =
    elim (cases_eq k c) [
      | inl e ↦ ap (λ (j : ℕ). on j (without c xs)) e ∙ on_without c xs ∙ sym (ap (replaced (view xs) c (drop 1 (on c xs))) e ∙ replaced_here (view xs) c (drop 1 (on c xs)))
      | inr n ↦ on_without_other k c xs n ∙ sym (replaced_apart (view xs) c (drop 1 (on c xs)) k n)
    ]

pub view_without : (xs : List Entry) (c : ℕ) → view (without c xs) ≡ replaced (view xs) c (drop 1 (on c xs))
view_without xs c = fun_ext (λ k. without_at k c xs)

-- all that wait, counted by channel, are all that arrived
pub total_arrived : (xs : List Entry) (n : ℕ) → AllByRecursion Storable xs → total (arrived xs n) ≡ length xs
total_arrived [] n f = below_none (channels)
total_arrived (x ∷ xs) n f =
    let h = below_replaced (channels) (view xs) x.channel (x.block ∷ on x.channel xs) (let l = f.0.channel_low in omega arith) in
    let e : total (arrived (x ∷ xs) n) ≡ waiting_below (channels) (replaced (view xs) x.channel (x.block ∷ on x.channel xs)) = ap (waiting_below (channels)) (view_cons x xs) in
    let i = total_arrived xs n f.1 in
    omega arith

-- a channel's count is how many of its blocks arrived; above the highest none did
none_above : (c : ℕ) (xs : List Entry) → AllByRecursion Storable xs → last_channel < c → on c xs ≡ []
none_above c [] f high = refl
none_above c (x ∷ xs) f high =
    let low = f.0.channel_low in
    cond-false _ _ _ (ne_eqb c x.channel (λ e. omega arith)) ∙ none_above c xs f.1 high

pub count_arrived : (xs : List Entry) (n c : ℕ) → AllByRecursion Storable xs → length (on c xs) ≡ count_on (arrived xs n) c
count_arrived xs n c f =
    elim (cases_lt last_channel c) [
      | inl high ↦ ap length (none_above c xs f high) ∙ sym (cond-true _ _ _ (lt-ltb last_channel c high))
      | inr low ↦ sym (cond-false _ _ _ (le-ltb last_channel c low))
    ]

-- what a search for a channel's first block finds
pub first_found :
    (xs : List Entry) (n c i len : ℕ) (r : Result ℕ Refusal)
    → c ≤ last_channel
    → place_of c xs ≡ i
    → length xs ≡ len
    → r ≡ ok_or (cond (ltb i len) (Some i) None) NoneWaiting
    → MatchResult r (IsFirst c xs) (λ e. first_waiting (arrived xs n) c ≡ Err e)
first_found xs n c i len r low at long e =
    elim (cases_lt i len) [
      | inl h ↦ rw (e ∙ ap (λ o. ok_or o NoneWaiting) (cond-true _ _ _ (lt-ltb i len h))) (record { channel_low = low; here = omega arith; place = sym at })
      | inr h ↦ rw (e ∙ ap (λ o. ok_or o NoneWaiting) (cond-false _ _ _ (le-ltb i len h))) (cond-false _ _ _ (le-ltb last_channel c low) ∙ ap first_answer (on_none c xs (omega arith)))
    ]

-- put
pub put_granted :
    (xs ys : List Entry) (n c : ℕ) (b : Block)
    → AllByRecursion Storable xs
    → c ≤ last_channel
    → 1 ≤ length b.bytes
    → length b.bytes ≤ longest_block
    → (length xs ≡ n → ⊥)
    → ys ≡ xs ++ record { channel = c; block = b } ∷ []
    → (Ok tt ≡ put_answer (arrived xs n) c b) × (arrived ys n ≡ put_after (arrived xs n) c b)
put_granted xs ys n c b storable low some short room e =
    let p = put_goes (arrived xs n) c b low (λ z. omega arith) short (λ q. room (sym (total_arrived xs n storable) ∙ q)) in
    (sym p.0, ap (λ (w : ℕ → List Block). record { waiting = w; limit = n }) (ap view e ∙ view_push xs c b) ∙ sym p.1)

pub put_full :
    (xs : List Entry) (n c : ℕ) (b : Block)
    → AllByRecursion Storable xs
    → c ≤ last_channel
    → 1 ≤ length b.bytes
    → length b.bytes ≤ longest_block
    → length xs ≡ n
    → (Err Full ≡ put_answer (arrived xs n) c b) × (arrived xs n ≡ put_after (arrived xs n) c b)
put_full xs n c b storable low some short full =
    let p = put_stays (arrived xs n) c b low (λ z. omega arith) short (total_arrived xs n storable ∙ full) in
    (sym p.0, sym p.1)

-- drop-first and copy-first, where the search found the first
first_is : (xs : List Entry) (n c i : ℕ) (d : Entry) → IsFirst c xs i → first_waiting (arrived xs n) c ≡ Ok (get_or xs i d).block
first_is xs n c i d f =
    let low = f.channel_low in
    let here = f.here in
    let place = f.place in
    cond-false _ _ _ (le-ltb last_channel c low) ∙ ap first_answer (on_some c xs d (omega arith)) ∙ ap (λ (j : ℕ). Ok (get_or xs j d).block) (sym place)

pub drop_granted :
    (xs ys : List Entry) (n c i : ℕ)
    → IsFirst c xs i
    → ys ≡ remove xs i
    → (Ok tt ≡ drop_answer (arrived xs n) c) × (arrived ys n ≡ drop_after (arrived xs n) c) × (ys ≡ without c xs)
drop_granted xs ys n c i f e =
    let here = f.here in
    let place = f.place in
    let a : drop_answer (arrived xs n) c ≡ Ok tt = ap granted (first_is xs n c i (record { channel = 0; block = plain [] }) f) in
    let g : ys ≡ without c xs = e ∙ ap (remove xs) place ∙ sym (without_some c xs (omega arith)) in
    let v : view ys ≡ replaced (view xs) c (drop 1 (on c xs)) = ap view g ∙ view_without xs c in
    (sym a, ap (λ (w : ℕ → List Block). record { waiting = w; limit = n }) v ∙ sym (ap (λ r. if_granted r (shortened (arrived xs n) c) (arrived xs n)) a), g)

pub copied :
    (xs : List Entry) (n c : ℕ) (old new : List ℕ) (i k : ℕ) (d x : Entry)
    → longest_block ≤ length old
    → IsFirst c xs i
    → get_or xs i d ≡ x
    → k ≡ length x.block.bytes
    → new ≡ x.block.bytes ++ drop k old
    → (Ok k ≡ length_of (copy_source (arrived xs n) c (length old))) × (new ≡ written_over (copy_source (arrived xs n) c (length old)) old)
copied xs n c old new i k d x big f is lk e =
    let s : copy_source (arrived xs n) c (length old) ≡ Ok x.block =
    cond-false _ _ _ (le-ltb (length old) longest_block big) ∙ first_is xs n c i d f ∙ ap (λ (y : Entry). Ok y.block) is in
    (ap (λ (j : ℕ). Ok j) lk ∙ sym (ap length_of s), e ∙ ap (λ (j : ℕ). x.block.bytes ++ drop j old) lk ∙ sym (ap (λ r. written_over r old) s))
